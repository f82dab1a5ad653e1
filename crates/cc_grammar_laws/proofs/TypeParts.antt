-- What the parts of types read.
use Rattle.std.proofs.Common.{◌≡◌, sym, subst, refl, List, [], ◌∷◌, ◌++◌, append_assoc, append-nil}
use Rattle.cc_base.specs.declared.text.Span.{Span}
use Rattle.cc_tree.specs.declared.token.Token.{Token}
use Rattle.cc_tree.specs.declared.token.TokenKind.{TokenKind}
use Rattle.cc_tree.specs.declared.token.TokenKind.TheVariants as k
use Rattle.cc_tree.specs.declared.token.Suffix.{Suffix}
use Rattle.cc_tree.specs.declared.token.Radix.{Radix}
use Rattle.cc_tree.specs.declared.terminal.NameKind.{NameKind}
use Rattle.cc_tree.specs.declared.terminal.ContextualWord.TheVariants as c
use Rattle.cc_tree.specs.GrammarExpressions.{IsNumber}
use Rattle.std.specs.Prelude.{ℕ}
use Rattle.cc_tree.specs.declared.identifier.Identifier.{Identifier}
use Rattle.cc_tree.specs.declared.terminal.Terminal.{Terminal}
use Rattle.cc_tree.specs.declared.terminal.Terminal.TheVariants as t
use Rattle.cc_tree.specs.declared.terminal.NameKind.TheVariants as n
use Rattle.cc_tree.specs.declared.terminal.ContextualWord.{ContextualWord}
use Rattle.cc_tree.specs.declared.terminal.ReservedWord.{ReservedWord}
use Rattle.cc_tree.specs.declared.terminal.ReservedWord.TheVariants as w
use Rattle.cc_tree.specs.declared.terminal.Sign.TheVariants as s
use Rattle.cc_tree.specs.declared.type_name.FundamentalType.TheVariants as f
use Rattle.cc_tree.specs.declared.type_name.TypeName.{TypeName}
use Rattle.cc_tree.specs.declared.type_name.TypeName.TheVariants as type
use Rattle.cc_tree.specs.Terminals.{Classified, at, Id, plain, function}
use Rattle.cc_tree.specs.Spans.{across, identifier, qualified_span}
use Rattle.cc_tree.specs.GrammarTypes as g
use Rattle.cc_tree.specs.GrammarTypes.{Fundamental, ReadsWords, ReadsPath, ReadsType, ReadsCore, ReadsNamed, ReadsTypes}
use Rattle.cc_table.specs.declared.symbols.Sort.{Sort}
use Rattle.cc_table.specs.declared.symbols.Sort.TheVariants as o
use Rattle.cc_table.specs.declared.symbols.Action.TheVariants as a
use Rattle.cc_table.specs.declared.symbols.Symbol.{Symbol}
use Rattle.cc_table.specs.declared.symbols.Symbol.TheVariants.{Non, Act, Back}
use Rattle.cc_table.specs.Table.{otherwise}
use Rattle.cc_pushdown.specs.declared.value.Node.{Node}
use Rattle.cc_pushdown.specs.declared.value.Value.{Value}
use Rattle.cc_pushdown.specs.declared.value.Value.TheVariants as v
use Rattle.cc_pushdown.specs.Values.{below, top_mark, top_qualified, top_path}
use Rattle.cc_pushdown.specs.Build.{build}
use Rattle.cc_pushdown.specs.Machine.{Config, At, Bad, Done, lack, step, Comes, here, on}
use Rattle.cc_grammar_laws.specs.Read.{read}
use Rattle.cc_grammar_laws.specs.Laws.{OnlyTypesAreRead}
use Rattle.cc_grammar_laws.proofs.CompleteTypes.{type_value}
use Rattle.cc_grammar_laws.proofs.ExpressionParts.{ExpressionPart}

-- a token that must stand there
pub data Takes : Terminal → List Classified → Token → List Classified → Type 0 where
  takes : {terminal : Terminal} {k : Token} {rest : List Classified} → Takes terminal (at terminal k ∷ rest) k rest

-- `int` or nothing behind some words: where they end
pub data MayTakeInt : Span → List Classified → Span → List Classified → Type 0 where
  no_int : {span : Span} {ts : List Classified} → MayTakeInt span ts span ts
  with_int : {span : Span} {k : Token} {rest : List Classified} → MayTakeInt span (at (t.Word w.Int) k ∷ rest) (across span k.span) rest

abbrev pub mark : Terminal → Span → Value
mark terminal span = v.Mark (record { terminal = terminal; span = span })

abbrev pub one_word : ReservedWord → TokenKind → Span → Classified
one_word word kind span = at (t.Word word) (record { kind = kind; span = span })

-- What a part reads, and then the rest of what is expected; here those of types.
abbrev pub Part : Sort → List Value → List Classified → (List Value → List Classified → Type 0) → Type 0
Part o.OpenParenthesis vs ts K = (k : Token) × (rest : List Classified) × Takes (t.Sign s.OpenParenthesis) ts k rest × K vs rest
Part o.CloseParenthesis vs ts K = (k : Token) × (rest : List Classified) × Takes (t.Sign s.CloseParenthesis) ts k rest × K vs rest
Part o.OpenBrace vs ts K = (k : Token) × (rest : List Classified) × Takes (t.Sign s.OpenBrace) ts k rest × K vs rest
Part o.OpenBracket vs ts K = (k : Token) × (rest : List Classified) × Takes (t.Sign s.OpenBracket) ts k rest × K vs rest
Part o.CloseBracket vs ts K = (k : Token) × (rest : List Classified) × Takes (t.Sign s.CloseBracket) ts k rest × K vs rest
Part o.CloseBrace vs ts K = (k : Token) × (rest : List Classified) × Takes (t.Sign s.CloseBrace) ts k rest × K vs rest
Part o.Less vs ts K = (k : Token) × (rest : List Classified) × Takes (t.Sign s.Less) ts k rest × K vs rest
Part o.Greater vs ts K = (k : Token) × (rest : List Classified) × Takes (t.Sign s.Greater) ts k rest × K vs rest
Part o.Colon vs ts K = (k : Token) × (rest : List Classified) × Takes (t.Sign s.Colon) ts k rest × K vs rest
Part o.Semicolon vs ts K = (k : Token) × (rest : List Classified) × Takes (t.Sign s.Semicolon) ts k rest × K vs rest
Part o.NamespaceWord vs ts K = (k : Token) × (rest : List Classified) × Takes (t.Word w.Namespace) ts k rest × K vs rest
Part o.WhileWord vs ts K = (k : Token) × (rest : List Classified) × Takes (t.Word w.While) ts k rest × K vs rest
Part o.KeptOpenParenthesis vs ts K = (k : Token) × (rest : List Classified) × Takes (t.Sign s.OpenParenthesis) ts k rest × K (mark (t.Sign s.OpenParenthesis) k.span ∷ vs) rest
Part o.KeptCloseParenthesis vs ts K = (k : Token) × (rest : List Classified) × Takes (t.Sign s.CloseParenthesis) ts k rest × K (mark (t.Sign s.CloseParenthesis) k.span ∷ vs) rest
Part o.KeptCloseBrace vs ts K = (k : Token) × (rest : List Classified) × Takes (t.Sign s.CloseBrace) ts k rest × K (mark (t.Sign s.CloseBrace) k.span ∷ vs) rest
Part o.KeptCloseBracket vs ts K = (k : Token) × (rest : List Classified) × Takes (t.Sign s.CloseBracket) ts k rest × K (mark (t.Sign s.CloseBracket) k.span ∷ vs) rest
Part o.KeptSemicolon vs ts K = (k : Token) × (rest : List Classified) × Takes (t.Sign s.Semicolon) ts k rest × K (mark (t.Sign s.Semicolon) k.span ∷ vs) rest
Part o.KeptColon vs ts K = (k : Token) × (rest : List Classified) × Takes (t.Sign s.Colon) ts k rest × K (mark (t.Sign s.Colon) k.span ∷ vs) rest
Part o.KeptLess vs ts K = (k : Token) × (rest : List Classified) × Takes (t.Sign s.Less) ts k rest × K (mark (t.Sign s.Less) k.span ∷ vs) rest
Part o.InWord vs ts K = (kind : NameKind) × (k : Token) × (rest : List Classified) × Takes (t.Name kind c.In) ts k rest × K vs rest
Part o.Identifier vs ts K = (kind : NameKind) × (word : ContextualWord) × (k : Token) × (rest : List Classified) × Id (t.Name kind word) × Takes (t.Name kind word) ts k rest × K (v.Name (record { kind = kind; word = word; identifier = identifier k }) ∷ vs) rest
Part o.AnyName vs ts K = (kind : NameKind) × (word : ContextualWord) × (k : Token) × (rest : List Classified) × Takes (t.Name kind word) ts k rest × K (v.Name (record { kind = kind; word = word; identifier = identifier k }) ∷ vs) rest
Part o.NumberToken vs ts K = (terminal : Terminal) × (value : ℕ) × (suffix : Suffix) × (radix : Radix) × (span : Span) × (rest : List Classified) × IsNumber terminal × Takes terminal ts (record { kind = k.Number value suffix radix; span = span }) rest × K (v.Number (record { value = value; suffix = suffix; radix = radix; span = span }) ∷ vs) rest
Part o.Scope vs ts K = (k : Token) × (rest : List Classified) × Takes (t.Sign s.Scope) ts k rest × K vs rest
Part o.KeptGreater vs ts K = (k : Token) × (rest : List Classified) × Takes (t.Sign s.Greater) ts k rest × K (mark (t.Sign s.Greater) k.span ∷ vs) rest
Part o.LongWord vs ts K = (k : Token) × (rest : List Classified) × Takes (t.Word w.Long) ts k rest × K (mark (top_mark vs).terminal (across (top_mark vs).span k.span) ∷ below vs) rest
Part o.OptionalInt (v.Mark m ∷ vs) ts K = (span : Span) × (rest : List Classified) × MayTakeInt m.span ts span rest × K (mark m.terminal span ∷ vs) rest
Part o.Fundamental vs ts K = (of : TypeName) × (span : Span) × (rest : List Classified) × ReadsCore of span ts rest × K (type_value of span ∷ vs) rest
Part o.SignedRest vs ts K = (of : TypeName) × (span : Span) × (rest : List Classified) × ((kind : TokenKind) → ReadsCore of span (one_word w.Signed kind (top_mark vs).span ∷ ts) rest) × K (type_value of span ∷ below vs) rest
Part o.UnsignedRest vs ts K = (of : TypeName) × (span : Span) × (rest : List Classified) × ((kind : TokenKind) → ReadsCore of span (one_word w.Unsigned kind (top_mark vs).span ∷ ts) rest) × K (type_value of span ∷ below vs) rest
Part o.Type vs ts K = (of : TypeName) × (span : Span) × (rest : List Classified) × ReadsType of span ts rest × K (type_value of span ∷ vs) rest
Part o.TypeMarks (v.Type core ∷ vs) ts K = (of : TypeName) × (span : Span) × (rest : List Classified) × ((us : List Classified) → ReadsCore core.tree core.span us ts → ReadsType of span us rest) × K (type_value of span ∷ vs) rest
Part o.HandleRest (v.Mark m ∷ v.Type core ∷ vs) ts K = (of : TypeName) × (span : Span) × (rest : List Classified)
    × ((us : List Classified) (kind : TokenKind) → ReadsCore core.tree core.span us (at (t.Sign s.Caret) (record { kind = kind; span = m.span }) ∷ ts) → ReadsType of span us rest) × K (type_value of span ∷ vs) rest
Part o.NamedType vs ts K = (of : TypeName) × (span : Span) × (rest : List Classified) × ReadsNamed of span ts rest × K (type_value of span ∷ vs) rest
Part o.TypePath vs ts K = (of : TypeName) × (span : Span) × (rest : List Classified)
    × ((us : List Classified) → ((path : List Identifier) (last : List Classified) → ReadsPath path ts last → ReadsPath (top_path vs ++ path) us last) → ReadsNamed of span us rest) × K (type_value of span ∷ below vs) rest
Part o.TemplateArguments vs ts K = (of : TypeName) × (span : Span) × (rest : List Classified)
    × ((us : List Classified) (word : ContextualWord) (k : Token) → identifier k ≡ (top_qualified vs).name → ReadsPath (top_qualified vs).path us (at (t.Name n.Type word) k ∷ ts) → ReadsNamed of span us rest) × K (type_value of span ∷ below vs) rest
Part o.MoreTypes (v.Types first ∷ vs) ts K = (types : List TypeName) × (rest : List Classified)
    × ((of : TypeName) (span : Span) (us : List Classified) → ReadsType of span us ts → ReadsTypes (of ∷ types) us rest) × K (v.Types (first ++ types) ∷ vs) rest
Part sort vs ts K = ExpressionPart sort vs ts K
