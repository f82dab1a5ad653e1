-- Which tokens an input stands for: an input that was put back stands for those that its value was made of.
use Rattle.std.proofs.Common.{◌≡◌, refl, List, [], ◌∷◌}
use Rattle.cc_tree.specs.declared.token.Token.{Token}
use Rattle.cc_tree.specs.declared.token.TokenKind.{TokenKind}
use Rattle.cc_tree.specs.declared.token.TokenKind.TheVariants as k
use Rattle.cc_tree.specs.declared.expression.BinaryOperator.TheVariants as b
use Rattle.cc_tree.specs.declared.terminal.Terminal.{Terminal}
use Rattle.cc_tree.specs.declared.terminal.Terminal.TheVariants as t
use Rattle.cc_tree.specs.declared.terminal.NameKind.{NameKind}
use Rattle.cc_tree.specs.declared.terminal.NameKind.TheVariants as n
use Rattle.cc_tree.specs.declared.terminal.ContextualWord.{ContextualWord}
use Rattle.cc_tree.specs.declared.terminal.ContextualWord.TheVariants as c
use Rattle.cc_tree.specs.declared.identifier.Identifier.{Identifier}
use Rattle.cc_tree.specs.declared.type_name.TypeName.{TypeName}
use Rattle.cc_base.specs.declared.text.Span.{Span}
use Rattle.cc_tree.specs.Terminals.{Classified, at, Id}
use Rattle.cc_tree.specs.Spans.{identifier}
use Rattle.cc_tree.specs.GrammarTypes.{ReadsType, ReadsCore, ReadsPath}
use Rattle.cc_tree.specs.Operators.{ReadsOperator}
use Rattle.cc_table.specs.declared.symbols.Input.{Input}
use Rattle.cc_table.specs.declared.symbols.Input.TheVariants as i
use Rattle.cc_pushdown.specs.declared.value.Value.{Value}
use Rattle.cc_pushdown.specs.declared.value.Value.TheVariants as v
use Rattle.cc_pushdown.specs.Machine.{Fed, fed}
use Rattle.cc_grammar_laws.specs.Read.{read_value, read}

-- A number, a character and a string are tokens of these kinds.
abbrev pub Fitting : Terminal → TokenKind → Type 0
Fitting t.Number (k.Number value suffix radix) = Unit {0}
Fitting t.Number _ = ⊥
Fitting t.Zero (k.Number value suffix radix) = Unit {0}
Fitting t.Zero _ = ⊥
Fitting t.Character (k.Character unit) = Unit {0}
Fitting t.Character _ = ⊥
Fitting t.Literal (k.Literal text) = Unit {0}
Fitting t.Literal _ = ⊥
Fitting _ _ = Unit {0}

-- one token and its value
pub data StandsToken : Terminal → Value → List Classified → List Classified → Type 0 where
  token : {terminal : Terminal} {k : Token} {rest : List Classified}
      → Fitting terminal k.kind → StandsToken terminal (read_value terminal k.kind k.span) (at terminal k ∷ rest) rest

-- A name with the namespaces before it, of this kind.
pub data StandsQualified : NameKind → Value → List Classified → List Classified → Type 0 where
  qualified : {kind : NameKind} {word : ContextualWord} {path : List Identifier} {k : Token} {ts rest : List Classified}
      → ReadsPath path ts (at (t.Name kind word) k ∷ rest)
      → StandsQualified kind (v.Qualified (record { path = path; name = identifier k })) ts rest

-- `property` and a type
pub data StandsProperty : Value → List Classified → List Classified → Type 0 where
  property : {kind : NameKind} {of : TypeName} {span : Span} {k : Token} {ts rest : List Classified}
      → ReadsType of span ts rest → StandsProperty (v.PropertyType (record { tree = of; span = k.span })) (at (t.Name kind c.Property) k ∷ ts) rest

-- a name alone, which is looked at again: the class's own name
pub data StandsName : Value → List Classified → List Classified → Type 0 where
  name : {kind : NameKind} {word : ContextualWord} {k : Token} {rest : List Classified}
      → StandsName (v.Name (record { kind = kind; word = word; identifier = identifier k })) (at (t.Name kind word) k ∷ rest) rest

-- the same of the name that is declared, which is an ID
pub data StandsDeclared : Value → List Classified → List Classified → Type 0 where
  declared : {kind : NameKind} {word : ContextualWord} {k : Token} {rest : List Classified}
      → Id (t.Name kind word) → StandsDeclared (v.Name (record { kind = kind; word = word; identifier = identifier k })) (at (t.Name kind word) k ∷ rest) rest

-- a type without `^` and `%`
pub data StandsCore : Value → List Classified → List Classified → Type 0 where
  core : {of : TypeName} {span : Span} {ts rest : List Classified} → ReadsCore of span ts rest → StandsCore (v.Type (record { tree = of; span = span })) ts rest

-- What an input with its value stands for: these tokens up to the rest.
abbrev pub StandsOne : Input → Value → List Classified → List Classified → Type 0
StandsOne (i.Token terminal) value ts rest = StandsToken terminal value ts rest
StandsOne i.CoreType value ts rest = StandsCore value ts rest
StandsOne i.OperandType value ts rest = StandsCore value ts rest
StandsOne i.QualifiedPlain value ts rest = StandsQualified n.Plain value ts rest
StandsOne i.QualifiedFunction value ts rest = StandsQualified n.Function value ts rest
StandsOne i.ShiftRight value ts rest = ReadsOperator b.ShiftRight ts rest
StandsOne i.RelationalGreater value ts rest = ReadsOperator b.Greater ts rest
StandsOne i.PropertyType value ts rest = StandsProperty value ts rest
StandsOne i.ConstructorName value ts rest = StandsName value ts rest
StandsOne i.DeclaredName value ts rest = StandsDeclared value ts rest
StandsOne _ value ts rest = ⊥

-- Inputs behind the first, none of which is a constructor's name, stand for these tokens.
abbrev pub Ahead : List Fed → List Classified → Type 0
Ahead [] ts = ts ≡ []
Ahead (fed i.ConstructorName value ∷ fs) ts = ⊥
Ahead (fed input value ∷ fs) ts = (rest : List Classified) × StandsOne input value ts rest × Ahead fs rest

abbrev pub Stands : List Fed → List Classified → Type 0
Stands [] ts = ts ≡ []
Stands (fed input value ∷ fs) ts = (rest : List Classified) × StandsOne input value ts rest × Ahead fs rest

-- tokens of which each fits its terminal symbol
abbrev pub AllFitting : List Classified → Type 0
AllFitting [] = Unit {0}
AllFitting (at terminal k ∷ ts) = Fitting terminal k.kind × AllFitting ts

pub ahead_of : (ts : List Classified) → AllFitting ts → Ahead (read ts) ts
ahead_of [] fits = refl
ahead_of (at terminal k ∷ ts) (one, fits) = (ts, token one, ahead_of ts fits)

pub stands_read : (ts : List Classified) → AllFitting ts → Stands (read ts) ts
stands_read [] fits = refl
stands_read (at terminal k ∷ ts) (one, fits) = (ts, token one, ahead_of ts fits)
