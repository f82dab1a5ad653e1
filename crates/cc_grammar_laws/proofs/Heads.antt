-- What begins like a type or a name, read up to the token that decides, and put back.
use Rattle.std.proofs.Common.{◌≡◌, sym, ap, refl, List, [], ◌∷◌, ◌++◌, append_assoc, append-nil}
use Rattle.std.specs.Prelude.{Some}
use Rattle.cc_base.specs.declared.text.Span.{Span}
use Rattle.cc_tree.specs.declared.token.Token.{Token}
use Rattle.cc_tree.specs.declared.identifier.Identifier.{Identifier}
use Rattle.cc_tree.specs.declared.terminal.Terminal.TheVariants as t
use Rattle.cc_tree.specs.declared.terminal.NameKind.{NameKind}
use Rattle.cc_tree.specs.declared.terminal.NameKind.TheVariants as n
use Rattle.cc_tree.specs.declared.terminal.ContextualWord.{ContextualWord}
use Rattle.cc_tree.specs.declared.terminal.Sign.TheVariants as s
use Rattle.cc_tree.specs.declared.type_name.TypeName.{TypeName}
use Rattle.cc_tree.specs.Terminals.{Classified, at, plain, function}
use Rattle.cc_tree.specs.Spans.{identifier}
use Rattle.cc_tree.specs.GrammarTypes as g
use Rattle.cc_tree.specs.GrammarTypes.{Fundamental, ReadsWords, ReadsPath, ReadsType, ReadsCore, ReadsNamed, ReadsTypes}
use Rattle.cc_table.specs.declared.symbols.Sort.{Sort}
use Rattle.cc_table.specs.declared.symbols.Sort.TheVariants as o
use Rattle.cc_table.specs.declared.symbols.Action.TheVariants as a
use Rattle.cc_table.specs.declared.symbols.Input.{Input}
use Rattle.cc_table.specs.declared.symbols.Input.TheVariants as i
use Rattle.cc_table.specs.declared.symbols.Symbol.{Symbol}
use Rattle.cc_table.specs.declared.symbols.Symbol.TheVariants.{Non, Act, Back}
use Rattle.cc_pushdown.specs.declared.value.Value.{Value}
use Rattle.cc_pushdown.specs.declared.value.Value.TheVariants as v
use Rattle.cc_pushdown.specs.Machine.{Fed, fed, At, begins, keeps}
use Rattle.cc_grammar_laws.specs.Read.{read, Passes}
use Rattle.cc_grammar_laws.proofs.Meets.{Meets, same, ahead, then, with_values, pass, Plain, LooksAt, look, put_fed}
use Rattle.cc_grammar_laws.proofs.CompleteTypes.{CoreEnds, TypeEnds, StartsFundamental, starts_fundamental, fundamental_comes, types_comes, named_value, type_value}

-- The tokens are read up to the one that decides, and then this input stands before those that follow.
abbrev pub Heads : List Classified → Input → Value → List Fed → Type 0
Heads ts input value fs = (more : List Symbol) (vs : List Value) → Meets (At (Non o.TypeOrName ∷ more) vs (read ts)) (At more vs (fed input value ∷ fs))

-- what an expression may begin with
pub data IsOperand : Input → Type 0 where
  plain_name : IsOperand i.QualifiedPlain
  function_name : IsOperand i.QualifiedFunction
  operand_type : IsOperand i.OperandType

-- what is expected behind a name's last word
abbrev ending : NameKind → List Symbol → List Symbol
ending n.Plain more = Non o.NameEnd ∷ more
ending n.Function more = Non o.FunctionNameEnd ∷ more
ending n.Type more = Non o.TemplateArguments ∷ Non o.CoreEnd ∷ more

rest_of_path : {path : List Identifier} {kind : NameKind} {word : ContextualWord} {k : Token} {ts rest : List Classified} → ReadsPath path ts (at (t.Name kind word) k ∷ rest)
    → (names : List Identifier) (more : List Symbol) (vs : List Value) → Meets (At (Non o.PathRest ∷ more) (v.Path names ∷ vs) (read ts)) (At (ending kind more) (named_value (names ++ path) (identifier k) ∷ vs) (read rest))
rest_of_path {kind = n.Plain} {k} {rest} g.none names more vs = ahead (ahead (with_values {ts = read rest} (ap (λ q. named_value q (identifier k) ∷ vs) (sym (append-nil names))) same))
rest_of_path {kind = n.Function} {k} {rest} g.none names more vs = ahead (ahead (with_values {ts = read rest} (ap (λ q. named_value q (identifier k) ∷ vs) (sym (append-nil names))) same))
rest_of_path {kind = n.Type} {k} {rest} g.none names more vs = ahead (ahead (with_values {ts = read rest} (ap (λ q. named_value q (identifier k) ∷ vs) (sym (append-nil names))) same))
rest_of_path {k} {rest} (g.next {path = outer} {k = l} plain p) names more vs =
    ahead (ahead (ahead (ahead (with_values {ts = read rest} (ap (λ q. named_value q (identifier k) ∷ vs) (append_assoc names (identifier l ∷ []) outer)) (rest_of_path p (names ++ identifier l ∷ []) more vs)))))
rest_of_path {k} {rest} (g.next {path = outer} {k = l} function p) names more vs =
    ahead (ahead (ahead (ahead (with_values {ts = read rest} (ap (λ q. named_value q (identifier k) ∷ vs) (append_assoc names (identifier l ∷ []) outer)) (rest_of_path p (names ++ identifier l ∷ []) more vs)))))

pub qualified_comes : {path : List Identifier} {kind : NameKind} {word : ContextualWord} {k : Token} {ts rest : List Classified} → ReadsPath path ts (at (t.Name kind word) k ∷ rest)
    → (more : List Symbol) (vs : List Value) → Meets (At (Non o.TypeOrName ∷ more) vs (read ts)) (At (ending kind more) (named_value path (identifier k) ∷ vs) (read rest))
qualified_comes {kind = n.Plain} g.none more vs = ahead (ahead same)
qualified_comes {kind = n.Function} g.none more vs = ahead (ahead same)
qualified_comes {kind = n.Type} g.none more vs = ahead (ahead same)
qualified_comes (g.next {k = l} plain p) more vs = ahead (ahead (ahead (ahead (rest_of_path p (identifier l ∷ []) more vs))))
qualified_comes (g.next {k = l} function p) more vs = ahead (ahead (ahead (ahead (rest_of_path p (identifier l ∷ []) more vs))))

pub plain_heads : {path : List Identifier} {word : ContextualWord} {k : Token} {ts rest : List Classified} → ReadsPath path ts (at (t.Name n.Plain word) k ∷ rest) → Passes o.NameEnd rest
    → Heads ts i.QualifiedPlain (named_value path (identifier k)) (read rest)
plain_heads {rest} p h = λ more vs. then (qualified_comes p more vs) (then (pass o.NameEnd (Back i.QualifiedPlain ∷ []) (λ a b c. refl) refl rest h more _) (ahead same))

pub function_heads : {path : List Identifier} {word : ContextualWord} {k : Token} {ts rest : List Classified} → ReadsPath path ts (at (t.Name n.Function word) k ∷ rest) → Passes o.FunctionNameEnd rest
    → Heads ts i.QualifiedFunction (named_value path (identifier k)) (read rest)
function_heads {rest} p h = λ more vs. then (qualified_comes p more vs) (then (pass o.FunctionNameEnd (Back i.QualifiedFunction ∷ []) (λ a b c. refl) refl rest h more _) (ahead same))

word_core : (ts : List Classified) → StartsFundamental ts → (more : List Symbol) (vs : List Value)
    → Meets (At (Non o.TypeOrName ∷ more) vs (read ts)) (At (Non o.Fundamental ∷ Non o.CoreEnd ∷ more) vs (read ts))
word_core [] h more vs = absurd h
word_core (at (t.Word word) k ∷ rest) h more vs = ahead (rw h same)
word_core (at _ k ∷ rest) h more vs = absurd h

named_core : {of : TypeName} {span : Span} {ts rest : List Classified} → ReadsNamed of span ts rest → Passes o.TemplateArguments rest
    → (more : List Symbol) (vs : List Value) → Meets (At (Non o.TypeOrName ∷ more) vs (read ts)) (At (Non o.CoreEnd ∷ more) (type_value of span ∷ vs) (read rest))
named_core {rest} (g.alone p) h more vs = then (qualified_comes p more vs) (then (pass o.TemplateArguments (Act a.MakeNamed ∷ []) (λ a b c. refl) refl rest h _ _) (ahead same))
named_core (g.applied p q) h more vs = then (qualified_comes p more vs) (ahead (ahead (then (types_comes q (refl, refl, refl) refl refl refl [] _ _) (ahead (ahead same)))))

core_read : {of : TypeName} {span : Span} {ts rest : List Classified} → ReadsCore of span ts rest → CoreEnds rest
    → (more : List Symbol) (vs : List Value) → Meets (At (Non o.TypeOrName ∷ more) vs (read ts)) (At (Non o.CoreEnd ∷ more) (type_value of span ∷ vs) (read rest))
core_read {ts} (g.fundamental p q) h more vs = then (word_core ts (starts_fundamental p q) more vs) (fundamental_comes p q h (Non o.CoreEnd ∷ more) vs)
core_read (g.named p) h more vs = named_core p h.2 more vs

pub operand_heads : {of : TypeName} {span : Span} {ts rest : List Classified} → ReadsCore of span ts rest → CoreEnds rest → LooksAt o.CoreEnd (Back i.OperandType ∷ []) rest
    → Heads ts i.OperandType (type_value of span) (read rest)
operand_heads {rest} p h j = λ more vs. then (core_read p h more vs) (then (look o.CoreEnd (Back i.OperandType ∷ []) (λ a b c. refl) rest j more _) (ahead same))

pub core_heads : {of : TypeName} {span : Span} {ts rest : List Classified} → ReadsCore of span ts rest → CoreEnds rest → Passes o.CoreEnd rest
    → Heads ts i.CoreType (type_value of span) (read rest)
core_heads {rest} p h j = λ more vs. then (core_read p h more vs) (then (pass o.CoreEnd (Back i.CoreType ∷ []) (λ a b c. refl) refl rest j more _) (ahead same))

-- a type before a part that takes its core
pub type_taken : (sort : Sort) (part : List Symbol) → Plain sort → begins sort i.CoreType ≡ Some (keeps (Non o.TypeMarks ∷ part))
    → {of : TypeName} {span : Span} {ts rest : List Classified} → ReadsType of span ts rest → TypeEnds rest → Passes o.CoreEnd rest
    → (more : List Symbol) (vs : List Value) → Meets (At (Non o.TypeOrName ∷ Non sort ∷ more) vs (read ts)) (At (part ++ more) (type_value of span ∷ vs) (read rest))
type_taken sort part simple e {rest} (g.core p) h j more vs =
    then (core_heads p h.0 j (Non sort ∷ more) vs) (then (put_fed sort (keeps (Non o.TypeMarks ∷ part)) simple i.CoreType _ _ e more vs) (pass o.TypeMarks [] (λ a b c. refl) refl rest h.1 _ _))
type_taken sort part simple e {rest} (g.handle p) h j more vs =
    then (core_heads p (refl, refl, refl) refl (Non sort ∷ more) vs) (then (put_fed sort (keeps (Non o.TypeMarks ∷ part)) simple i.CoreType _ _ e more vs) (ahead (then (pass o.HandleRest (Act a.MakeHandle ∷ []) (λ a b c. refl) refl rest h.2 _ _) (ahead same))))
type_taken sort part simple e (g.tracking p) h j more vs =
    then (core_heads p (refl, refl, refl) refl (Non sort ∷ more) vs) (then (put_fed sort (keeps (Non o.TypeMarks ∷ part)) simple i.CoreType _ _ e more vs) (ahead (ahead same)))
type_taken sort part simple e (g.handle_tracking p) h j more vs =
    then (core_heads p (refl, refl, refl) refl (Non sort ∷ more) vs) (then (put_fed sort (keeps (Non o.TypeMarks ∷ part)) simple i.CoreType _ _ e more vs) (ahead (ahead (ahead same))))

-- a list of types before a part that takes the first one's core, up to the `>`
pub types_taken : (sort : Sort) (part : List Symbol) → Plain sort → begins sort i.CoreType ≡ Some (keeps (Non o.TypeMarks ∷ Act a.FirstType ∷ Non o.MoreTypes ∷ part))
    → {types : List TypeName} {greater : Token} {ts rest : List Classified} → ReadsTypes types ts (at (t.Sign s.Greater) greater ∷ rest)
    → (more : List Symbol) (vs : List Value) → Meets (At (Non o.TypeOrName ∷ Non sort ∷ more) vs (read ts)) (At (part ++ more) (v.Types types ∷ vs) (read (at (t.Sign s.Greater) greater ∷ rest)))
types_taken sort part simple e (g.last p) more vs = then (type_taken sort (Act a.FirstType ∷ Non o.MoreTypes ∷ part) simple e p ((refl, refl, refl), refl, refl) refl more vs) (ahead (ahead same))
types_taken sort part simple e (g.more {of} p q) more vs =
    then (type_taken sort (Act a.FirstType ∷ Non o.MoreTypes ∷ part) simple e p ((refl, refl, refl), refl, refl) refl more vs) (ahead (ahead (types_comes q (refl, refl, refl) refl refl refl (of ∷ []) _ _)))
