-- Each spelling of a statement leads to it.
use Rattle.std.proofs.Common.{◌≡◌, sym, ap, refl, List, [], ◌∷◌, ◌++◌, append_assoc, append-nil}
use Rattle.std.specs.Prelude.{Option, Some, None}
use Rattle.cc_base.specs.declared.text.Span.{Span}
use Rattle.cc_tree.specs.declared.token.Token.{Token}
use Rattle.cc_tree.specs.declared.terminal.Terminal.{Terminal}
use Rattle.cc_tree.specs.declared.terminal.Terminal.TheVariants as t
use Rattle.cc_tree.specs.declared.terminal.ReservedWord.TheVariants as w
use Rattle.cc_tree.specs.declared.terminal.Sign.TheVariants as s
use Rattle.cc_tree.specs.declared.expression.Expression.{Expression}
use Rattle.cc_tree.specs.Terminals.{Classified, at, Id, plain, function}
use Rattle.cc_table.specs.declared.symbols.Sort.{Sort}
use Rattle.cc_table.specs.declared.symbols.Sort.TheVariants as o
use Rattle.cc_table.specs.declared.symbols.Action.TheVariants as a
use Rattle.cc_table.specs.Table.{otherwise}
use Rattle.cc_table.specs.declared.symbols.Input.{Input}
use Rattle.cc_table.specs.declared.symbols.Input.TheVariants as i
use Rattle.cc_table.specs.declared.symbols.Symbol.{Symbol}
use Rattle.cc_table.specs.declared.symbols.Symbol.TheVariants.{Non, Act}
use Rattle.cc_pushdown.specs.declared.value.Value.{Value}
use Rattle.cc_pushdown.specs.declared.value.Value.TheVariants as v
use Rattle.cc_pushdown.specs.Machine.{fed, At, begins, keeps}
use Rattle.cc_grammar_laws.specs.Read.{read, Passes}
use Rattle.cc_grammar_laws.proofs.Meets.{Meets, same, ahead, then, with_values, pass, pass_fed, Plain, LooksAt, look}
use Rattle.cc_grammar_laws.proofs.CompleteTypes.{TypeEnds, type_comes}
use Rattle.cc_grammar_laws.proofs.Heads.{IsOperand, plain_name, function_name, operand_type, type_taken}
use Rattle.cc_grammar_laws.proofs.Starts.{type_first, starts_expression, common, Common, TokenFirst, TypeFirst, Starts, token, operand}
use Rattle.cc_grammar_laws.proofs.BetweenOperands.{operand_expression}
use Rattle.cc_tree.specs.declared.statement.Statement.{Statement}
use Rattle.cc_tree.specs.declared.statement.Block.{Block}
use Rattle.cc_tree.specs.declared.statement.Section.{Section, roll-Section}
use Rattle.cc_tree.specs.declared.statement.Catch.{Catch, roll-Catch}
use Rattle.cc_tree.specs.declared.statement.Caught.{Caught}
use Rattle.cc_tree.specs.declared.statement.Label.{Label}
use Rattle.cc_tree.specs.declared.statement.ForStart.{ForStart}
use Rattle.cc_tree.specs.declared.statement.Local.{Local}
use Rattle.cc_tree.specs.declared.statement.Declarator.{Declarator}
use Rattle.cc_tree.specs.GrammarStatements as st
use Rattle.cc_tree.specs.GrammarStatements.{NoElse, NoLabel, ReadsDeclarator, ReadsDeclarators, ReadsLocal, ReadsLabel, ReadsLabels, ReadsForStart, ReadsOptional, ReadsCaught, ReadsBlock, ReadsStatements, ReadsStatement, ReadsCatches, ReadsSections}
use Rattle.cc_grammar_laws.proofs.CompleteExpressions.{ExpressionEnds, expression_comes, arguments_come, expressions_come}

abbrev mark : Terminal → Span → Value
mark terminal span = v.Mark (record { terminal = terminal; span = span })

abbrev pub statement_value : Statement → Span → Value
statement_value statement span = v.Statement (record { tree = statement; span = span })

-- what holds of the first token of each statement
abbrev pub StatementStarts : List Classified → Type 0
StatementStarts ts = Passes o.Statements ts × Passes o.SectionStatements ts × Passes o.MoreCatches ts

from_common : (ts : List Classified) → Common ts → StatementStarts ts
from_common ts h = (h.5, h.6, h.7)

-- What begins with an expression, where a local may begin.
opens_part : (sort chooser : Sort) (part : List Symbol) → Plain sort → Plain chooser → otherwise sort ≡ Some (Non o.Expression ∷ part) → otherwise chooser ≡ Some (Non o.Expression ∷ part)
    → ((input : Input) → IsOperand input → begins chooser input ≡ None) → (ts : List Classified) → (TokenFirst ts → Passes sort ts) → (TypeFirst ts → LooksAt sort (Non o.TypeOrName ∷ Non chooser ∷ []) ts) → Starts ts
    → (more : List Symbol) (vs : List Value) → Meets (At (Non sort ∷ more) vs (read ts)) (At (Non o.Expression ∷ (part ++ more)) vs (read ts))
opens_part sort chooser part simple plainly e f none ts first second (token c l) more vs = pass sort (Non o.Expression ∷ part) simple e ts (first l) more vs
opens_part sort chooser part simple plainly e f none ts first second (operand {input} {value} {fs} c l j heads) more vs =
    then (look sort (Non o.TypeOrName ∷ Non chooser ∷ []) simple ts (second l) more vs)
    (then (heads (Non chooser ∷ more) vs)
    (then (pass_fed chooser (Non o.Expression ∷ part) plainly f (fed input value ∷ fs) (none input j) more vs) (operand_expression ts input value fs l j heads (part ++ more) vs)))

no_local : (input : Input) → IsOperand input → begins o.LocalOrExpression input ≡ None
no_local _ plain_name = refl
no_local _ function_name = refl
no_local _ operand_type = refl

no_first_local : (input : Input) → IsOperand input → begins o.LocalOrExpressionStart input ≡ None
no_first_local _ plain_name = refl
no_first_local _ function_name = refl
no_first_local _ operand_type = refl

else_ends : (rest : List Classified) → NoElse rest → (more : List Symbol) (vs : List Value) → Meets (At (Non o.ElseRest ∷ more) vs (read rest)) (At (Act a.MakeIf ∷ more) vs (read rest))
else_ends [] h more vs = ahead same
else_ends (at (t.Word w.Else) k ∷ rest) h more vs = absurd h
else_ends (at _ k ∷ rest) h more vs = ahead same

labels_end : (rest : List Classified) → NoLabel rest → (more : List Symbol) (vs : List Value) → Meets (At (Non o.MoreLabels ∷ more) vs (read rest)) (At more vs (read rest))
labels_end [] h more vs = ahead same
labels_end (at (t.Word w.Case) k ∷ rest) h more vs = absurd h
labels_end (at (t.Word w.Default) k ∷ rest) h more vs = absurd h
labels_end (at _ k ∷ rest) h more vs = ahead same

-- a type ends before a name
pub id_ends : (id : Terminal) (k : Token) (rest : List Classified) → Id id → TypeEnds (at id k ∷ rest) × Passes o.CoreEnd (at id k ∷ rest)
id_ends _ k rest plain = (((refl, refl, refl), refl, refl), refl)
id_ends _ k rest function = (((refl, refl, refl), refl, refl), refl)

-- what may follow a declarator
abbrev DeclaratorEnds : List Classified → Type 0
DeclaratorEnds rest = Passes o.DeclaratorRest rest × ExpressionEnds rest

declarator_comes : {one : Declarator} {ts rest : List Classified} → ReadsDeclarator one ts rest → DeclaratorEnds rest
    → (more : List Symbol) (vs : List Value) → Meets (At (Non o.Declarator ∷ more) vs (read ts)) (At more (v.Declarator one ∷ vs) (read rest))
declarator_comes {rest} (st.alone plain) h more vs = ahead (then (pass o.DeclaratorRest (Act a.MakeDeclarator ∷ []) (λ a b c. refl) refl rest h.0 more _) (ahead same))
declarator_comes {rest} (st.alone function) h more vs = ahead (then (pass o.DeclaratorRest (Act a.MakeDeclarator ∷ []) (λ a b c. refl) refl rest h.0 more _) (ahead same))
declarator_comes (st.value {ts} plain p) h more vs = ahead (ahead (then (pass o.DeclaratorValue (Non o.Expression ∷ Act a.MakeDeclaratorValue ∷ []) (λ a b c. refl) refl ts (common (starts_expression p h.1.0.0.0)).4 more _) (then (expression_comes p h.1 _ _) (ahead same))))
declarator_comes (st.value {ts} function p) h more vs = ahead (ahead (then (pass o.DeclaratorValue (Non o.Expression ∷ Act a.MakeDeclaratorValue ∷ []) (λ a b c. refl) refl ts (common (starts_expression p h.1.0.0.0)).4 more _) (then (expression_comes p h.1 _ _) (ahead same))))
declarator_comes (st.elements plain p) h more vs = ahead (ahead (ahead (then (arguments_come (t.Sign s.OpenBrace) p (((((refl, refl, refl), refl), refl), (λ l. refl), refl, tt), refl, refl) _ _) (ahead (ahead same)))))
declarator_comes (st.elements function p) h more vs = ahead (ahead (ahead (then (arguments_come (t.Sign s.OpenBrace) p (((((refl, refl, refl), refl), refl), (λ l. refl), refl, tt), refl, refl) _ _) (ahead (ahead same)))))
declarator_comes (st.arguments plain p) h more vs = ahead (ahead (ahead (then (expressions_come p ((((refl, refl, refl), refl), refl), (λ l. refl), refl, tt) refl [] _ _ _) (ahead (ahead same)))))
declarator_comes (st.arguments function p) h more vs = ahead (ahead (ahead (then (expressions_come p ((((refl, refl, refl), refl), refl), (λ l. refl), refl, tt) refl [] _ _ _) (ahead (ahead same)))))

abbrev declarators_value : List Declarator → Span → Value
declarators_value items span = v.Declarators (record { tree = items; span = span })

declarators_come : {items : List Declarator} {span : Span} {ts rest : List Classified} → ReadsDeclarators items span ts rest → DeclaratorEnds rest → Passes o.MoreDeclarators rest
    → (first : List Declarator) (whole : Span) (more : List Symbol) (vs : List Value)
    → Meets (At (Non o.Declarator ∷ Act a.AddDeclarator ∷ Non o.MoreDeclarators ∷ more) (declarators_value first whole ∷ vs) (read ts)) (At more (declarators_value (first ++ items) span ∷ vs) (read rest))
declarators_come {rest} (st.last p) h j first whole more vs = then (declarator_comes p h _ _) (ahead (pass o.MoreDeclarators [] (λ a b c. refl) refl rest j _ _))
declarators_come {span} {rest} (st.more {one} {declarators = others} p q) h j first whole more vs =
    then (declarator_comes p (refl, ((((refl, refl, refl), refl), refl), (λ l. refl), refl, tt)) _ _) (ahead (ahead (with_values {ts = read rest} (ap (λ q. declarators_value q span ∷ vs) (append_assoc first (one ∷ []) others)) (declarators_come q h j (first ++ one ∷ []) one.span more vs))))

one_ends : {one : Declarator} {ts rest : List Classified} → ReadsDeclarator one ts rest → TypeEnds ts × Passes o.CoreEnd ts
one_ends (st.alone {id} {k} j) = id_ends id k [] j
one_ends (st.value {id} {k} j p) = id_ends id k [] j
one_ends (st.elements {id} {k} j p) = id_ends id k [] j
one_ends (st.arguments {id} {k} j p) = id_ends id k [] j

first_ends : {items : List Declarator} {span : Span} {ts rest : List Classified} → ReadsDeclarators items span ts rest → TypeEnds ts × Passes o.CoreEnd ts
first_ends (st.last p) = one_ends p
first_ends (st.more p q) = one_ends p

-- a local before the semicolon
local_comes : (sort : Sort) (part : List Symbol) → Plain sort → begins sort i.CoreType ≡ Some (keeps (Non o.TypeMarks ∷ Act a.StartDeclarators ∷ Non o.Declarator ∷ Act a.AddDeclarator ∷ Non o.MoreDeclarators ∷ Act a.MakeLocal ∷ part))
    → {declared : Local} {semicolon : Token} {ts rest : List Classified} → ReadsLocal declared ts (at (t.Sign s.Semicolon) semicolon ∷ rest)
    → (more : List Symbol) (vs : List Value) → Meets (At (Non o.TypeOrName ∷ Non sort ∷ more) vs (read ts)) (At (part ++ more) (v.Local declared ∷ vs) (read (at (t.Sign s.Semicolon) semicolon ∷ rest)))
local_comes sort part simple e (st.local p q) more vs =
    then (type_taken sort (Act a.StartDeclarators ∷ Non o.Declarator ∷ Act a.AddDeclarator ∷ Non o.MoreDeclarators ∷ Act a.MakeLocal ∷ part) simple e p (first_ends q).0 (first_ends q).1 more vs)
    (ahead (then (declarators_come q (refl, ((((refl, refl, refl), refl), refl), (λ l. refl), refl, tt)) refl [] _ _ _) (ahead same)))

local_first : {declared : Local} {ts rest : List Classified} → ReadsLocal declared ts rest → Common ts × TypeFirst ts
local_first (st.local p q) = type_first p

label_comes : {one : Label} {ts rest : List Classified} → ReadsLabel one ts rest → (more : List Symbol) (vs : List Value) → Meets (At (Non o.Label ∷ more) vs (read ts)) (At more (v.Label one ∷ vs) (read rest))
label_comes (st.case_ p) more vs = ahead (then (expression_comes p ((((refl, refl, refl), refl), refl), (λ l. refl), refl, tt) _ _) (ahead (ahead same)))
label_comes st.default more vs = ahead (ahead (ahead same))

more_labels : {one : Label} {ts rest : List Classified} → ReadsLabel one ts rest → (more : List Symbol) (vs : List Value) → Meets (At (Non o.MoreLabels ∷ more) vs (read ts)) (At (Non o.Label ∷ Act a.AddLabel ∷ Non o.MoreLabels ∷ more) vs (read ts))
more_labels (st.case_ p) more vs = ahead same
more_labels st.default more vs = ahead same

next_label : {items : List Label} {ts rest : List Classified} → ReadsLabels items ts rest → (more : List Symbol) (vs : List Value) → Meets (At (Non o.MoreLabels ∷ more) vs (read ts)) (At (Non o.Label ∷ Act a.AddLabel ∷ Non o.MoreLabels ∷ more) vs (read ts))
next_label (st.last p h) more vs = more_labels p more vs
next_label (st.more p q) more vs = more_labels p more vs

labels_come : {items : List Label} {ts rest : List Classified} → ReadsLabels items ts rest → (first : List Label) (more : List Symbol) (vs : List Value)
    → Meets (At (Non o.Label ∷ Act a.AddLabel ∷ Non o.MoreLabels ∷ more) (v.Labels first ∷ vs) (read ts)) (At more (v.Labels (first ++ items) ∷ vs) (read rest))
labels_come {rest} (st.last p h) first more vs = then (label_comes p _ _) (ahead (labels_end rest h _ _))
labels_come {rest} (st.more {label = one} {labels = others} p q) first more vs =
    then (label_comes p _ _) (ahead (then (next_label q _ _) (with_values {ts = read rest} (ap (λ q. v.Labels q ∷ vs) (append_assoc first (one ∷ []) others)) (labels_come q (first ++ one ∷ []) more vs))))

-- where a section begins, or the sections end
abbrev SectionEnds : List Classified → Type 0
SectionEnds ts = LooksAt o.SectionStatements [] ts × Passes o.MoreCatches ts

label_ends : {one : Label} {ts rest : List Classified} → ReadsLabel one ts rest → SectionEnds ts × Passes o.Sections ts
label_ends (st.case_ p) = ((refl, refl), refl)
label_ends st.default = ((refl, refl), refl)

labels_start : {items : List Label} {ts rest : List Classified} → ReadsLabels items ts rest → SectionEnds ts × Passes o.Sections ts
labels_start (st.last p h) = label_ends p
labels_start (st.more p q) = label_ends p

sections_start : {items : List Section} {ts rest : List Classified} → ReadsSections items ts rest → SectionEnds rest → SectionEnds ts
sections_start st.no_section h = h
sections_start (st.next_section p q r) h = (labels_start p).0

abbrev pub optional_value : Option Expression → Span → Value
optional_value x span = v.Optional (record { tree = x; span = span })

before_semicolon : {x : Option Expression} {k : Token} {ts rest : List Classified} → ReadsOptional s.Semicolon x k ts rest → (more : List Symbol) (vs : List Value)
    → Meets (At (Non o.OptionalExpression ∷ more) vs (read ts)) (At more (optional_value x k.span ∷ vs) (read rest))
before_semicolon st.none more vs = ahead (ahead same)
before_semicolon (st.some {ts} p) more vs = then (pass o.OptionalExpression (Non o.Expression ∷ Non o.KeptSemicolon ∷ Act a.SomeExpression ∷ []) (λ a b c. refl) refl ts (common (starts_expression p (refl, refl, refl))).2 more vs) (then (expression_comes p ((((refl, refl, refl), refl), refl), (λ l. refl), refl, tt) _ _) (ahead (ahead same)))

before_parenthesis : {x : Option Expression} {k : Token} {ts rest : List Classified} → ReadsOptional s.CloseParenthesis x k ts rest → (more : List Symbol) (vs : List Value)
    → Meets (At (Non o.ForAdvance ∷ more) vs (read ts)) (At more (optional_value x k.span ∷ vs) (read rest))
before_parenthesis st.none more vs = ahead (ahead same)
before_parenthesis (st.some {ts} p) more vs = then (pass o.ForAdvance (Non o.Expression ∷ Non o.KeptCloseParenthesis ∷ Act a.SomeExpression ∷ []) (λ a b c. refl) refl ts (common (starts_expression p (refl, refl, refl))).3 more vs) (then (expression_comes p ((((refl, refl, refl), refl), refl), (λ l. refl), refl, tt) _ _) (ahead (ahead same)))

for_start_comes : {one : ForStart} {ts rest : List Classified} → ReadsForStart one ts rest → (more : List Symbol) (vs : List Value) → Meets (At (Non o.ForStart ∷ more) vs (read ts)) (At more (v.ForStart one ∷ vs) (read rest))
for_start_comes st.nothing more vs = ahead (ahead same)
for_start_comes {ts} (st.local p) more vs = then (look o.ForStart (Non o.TypeOrName ∷ Non o.LocalOrExpressionStart ∷ []) (λ a b c. refl) ts (local_first p).1.6 more vs)
    (then (local_comes o.LocalOrExpressionStart (Non o.Semicolon ∷ Act a.StartLocal ∷ []) (λ a b c. refl) refl p more vs) (ahead (ahead same)))
for_start_comes {ts} (st.expression p) more vs =
    then (opens_part o.ForStart o.LocalOrExpressionStart (Non o.Semicolon ∷ Act a.StartExpression ∷ []) (λ a b c. refl) (λ a b c. refl) refl refl no_first_local ts (λ f. f.5) (λ f. f.6) (starts_expression p (refl, refl, refl)) more vs)
    (then (expression_comes p ((((refl, refl, refl), refl), refl), (λ l. refl), refl, tt) _ _) (ahead (ahead same)))

caught_comes : {one : Caught} {close : Token} {ts rest : List Classified} → ReadsCaught one ts (at (t.Sign s.CloseParenthesis) close ∷ rest) → (more : List Symbol) (vs : List Value)
    → Meets (At (Non o.Caught ∷ more) vs (read ts)) (At more (v.Caught one ∷ vs) (read (at (t.Sign s.CloseParenthesis) close ∷ rest)))
caught_comes st.all more vs = ahead (ahead same)
caught_comes {ts} (st.typed p) more vs = then (pass o.Caught (Non o.Type ∷ Non o.CaughtName ∷ []) (λ a b c. refl) refl ts (type_first p).0.8 more vs) (then (type_comes p ((refl, refl, refl), refl, refl) _ _) (ahead (ahead same)))
caught_comes {ts} (st.named p plain) more vs = then (pass o.Caught (Non o.Type ∷ Non o.CaughtName ∷ []) (λ a b c. refl) refl ts (type_first p).0.8 more vs) (then (type_comes p ((refl, refl, refl), refl, refl) _ _) (ahead (ahead same)))
caught_comes {ts} (st.named p function) more vs = then (pass o.Caught (Non o.Type ∷ Non o.CaughtName ∷ []) (λ a b c. refl) refl ts (type_first p).0.8 more vs) (then (type_comes p ((refl, refl, refl), refl, refl) _ _) (ahead (ahead same)))

abbrev catches_value : List Catch → Span → Value
catches_value items span = v.Catches (record { tree = items; span = span })

statement_starts : {one : Statement} {span : Span} {ts rest : List Classified} → ReadsStatement one span ts rest → StatementStarts ts
statement_starts (st.of_block (st.block_ p)) = (refl, refl, refl)
statement_starts st.empty = (refl, refl, refl)
statement_starts {ts} (st.local p) = from_common ts (local_first p).0
statement_starts {ts} (st.expression p) = from_common ts (common (starts_expression p (refl, refl, refl)))
statement_starts (st.delete p) = (refl, refl, refl)
statement_starts (st.if_alone p q h) = (refl, refl, refl)
statement_starts (st.if_else p q r) = (refl, refl, refl)
statement_starts (st.while p q) = (refl, refl, refl)
statement_starts (st.do_ p q) = (refl, refl, refl)
statement_starts (st.for p q r y) = (refl, refl, refl)
statement_starts (st.for_each p j q r) = (refl, refl, refl)
statement_starts (st.switch p q) = (refl, refl, refl)
statement_starts st.break = (refl, refl, refl)
statement_starts st.continue = (refl, refl, refl)
statement_starts (st.return p) = (refl, refl, refl)
statement_starts (st.throw p) = (refl, refl, refl)
statement_starts (st.try_catch p q) = (refl, refl, refl)
statement_starts (st.try_finally p q r) = (refl, refl, refl)

statements_start : {items : List Statement} {ts rest : List Classified} → ReadsStatements items ts rest → Passes o.MoreCatches rest → Passes o.MoreCatches ts
statements_start st.no_statement h = h
statements_start (st.next_statement p q) h = (statement_starts p).2

block_first : {body : Block} {span : Span} {ts rest : List Classified} → ReadsBlock body span ts rest → (more : List Symbol) (vs : List Value)
    → Meets (At (Non o.Statement ∷ more) vs (read ts)) (At (Non o.Block ∷ Act a.MakeBlockStatement ∷ more) vs (read ts))
block_first (st.block_ p) more vs = ahead same

first_catch : {one : Catch} {others : List Catch} {span : Span} {ts rest : List Classified} → ReadsCatches (one ∷ others) span ts rest → (more : List Symbol) (vs : List Value)
    → Meets (At (Non o.TryRest ∷ more) vs (read ts)) (At (Non o.Catch ∷ Non o.MoreCatches ∷ more) vs (read ts))
first_catch (st.last_catch p q) more vs = ahead same
first_catch (st.more_catches p q r) more vs = ahead same

next_catch : {one : Catch} {others : List Catch} {span : Span} {ts rest : List Classified} → ReadsCatches (one ∷ others) span ts rest → (more : List Symbol) (vs : List Value)
    → Meets (At (Non o.MoreCatches ∷ more) vs (read ts)) (At (Non o.Catch ∷ Non o.MoreCatches ∷ more) vs (read ts))
next_catch (st.last_catch p q) more vs = ahead same
next_catch (st.more_catches p q r) more vs = ahead same

mutual
  pub block_comes : {body : Block} {span : Span} {ts rest : List Classified} → ReadsBlock body span ts rest → (more : List Symbol) (vs : List Value)
      → Meets (At (Non o.Block ∷ more) vs (read ts)) (At more (v.Block (record { tree = body; span = span }) ∷ vs) (read rest))
  block_comes (st.block_ p) more vs = ahead (ahead (then (statements_come o.Statements (λ a b c. refl) refl (λ ts h. h.0) p refl refl [] _ _) (ahead (ahead same))))

  statements_come : (sort : Sort) → Plain sort → otherwise sort ≡ Some (Non o.Statement ∷ Act a.AddStatement ∷ Non sort ∷ []) → ((ts : List Classified) → StatementStarts ts → Passes sort ts)
      → {items : List Statement} {ts rest : List Classified} → ReadsStatements items ts rest → LooksAt sort [] rest → Passes o.MoreCatches rest
      → (first : List Statement) (more : List Symbol) (vs : List Value) → Meets (At (Non sort ∷ more) (v.Statements first ∷ vs) (read ts)) (At more (v.Statements (first ++ items) ∷ vs) (read rest))
  statements_come sort simple e passes {rest} st.no_statement h j first more vs =
      with_values {ts = read rest} (ap (λ q. v.Statements q ∷ vs) (sym (append-nil first))) (look sort [] simple rest h more (v.Statements first ∷ vs))
  statements_come sort simple e passes {ts} {rest} (st.next_statement {statement = one} {statements = others} p q) h j first more vs =
      then (pass sort (Non o.Statement ∷ Act a.AddStatement ∷ Non sort ∷ []) simple e ts (passes ts (statement_starts p)) more _)
      (then (statement_comes p (statements_start q j) _ _)
      (ahead (with_values {ts = read rest} (ap (λ q. v.Statements q ∷ vs) (append_assoc first (one ∷ []) others)) (statements_come sort simple e passes q h j (first ++ one ∷ []) more vs))))

  pub statement_comes : {one : Statement} {span : Span} {ts rest : List Classified} → ReadsStatement one span ts rest → Passes o.MoreCatches rest → (more : List Symbol) (vs : List Value)
      → Meets (At (Non o.Statement ∷ more) vs (read ts)) (At more (statement_value one span ∷ vs) (read rest))
  statement_comes (st.of_block p) h more vs = then (block_first p more vs) (then (block_comes p _ _) (ahead same))
  statement_comes st.empty h more vs = ahead (ahead same)
  statement_comes {ts} (st.local p) h more vs = then (look o.Statement (Non o.TypeOrName ∷ Non o.LocalOrExpression ∷ []) (λ a b c. refl) ts (local_first p).1.5 more vs)
      (then (local_comes o.LocalOrExpression (Non o.KeptSemicolon ∷ Act a.MakeLocalStatement ∷ []) (λ a b c. refl) refl p more vs) (ahead (ahead same)))
  statement_comes {ts} (st.expression p) h more vs =
      then (opens_part o.Statement o.LocalOrExpression (Non o.KeptSemicolon ∷ Act a.MakeExpressionStatement ∷ []) (λ a b c. refl) (λ a b c. refl) refl refl no_local ts (λ f. f.4) (λ f. f.5) (starts_expression p (refl, refl, refl)) more vs)
      (then (expression_comes p ((((refl, refl, refl), refl), refl), (λ l. refl), refl, tt) _ _) (ahead (ahead same)))
  statement_comes (st.delete p) h more vs = ahead (then (expression_comes p ((((refl, refl, refl), refl), refl), (λ l. refl), refl, tt) _ _) (ahead (ahead same)))
  statement_comes {rest} (st.if_alone p q e) h more vs = ahead (ahead (then (expression_comes p ((((refl, refl, refl), refl), refl), (λ l. refl), refl, tt) _ _) (ahead (then (statement_comes q h _ _) (then (else_ends rest e more _) (ahead same))))))
  statement_comes (st.if_else p q r) h more vs = ahead (ahead (then (expression_comes p ((((refl, refl, refl), refl), refl), (λ l. refl), refl, tt) _ _) (ahead (then (statement_comes q refl _ _) (ahead (then (statement_comes r h _ _) (ahead same)))))))
  statement_comes (st.while p q) h more vs = ahead (ahead (then (expression_comes p ((((refl, refl, refl), refl), refl), (λ l. refl), refl, tt) _ _) (ahead (then (statement_comes q h _ _) (ahead same)))))
  statement_comes (st.do_ p q) h more vs = ahead (then (statement_comes p refl _ _) (ahead (ahead (then (expression_comes q ((((refl, refl, refl), refl), refl), (λ l. refl), refl, tt) _ _) (ahead (ahead (ahead same)))))))
  statement_comes (st.for p q r y) h more vs = ahead (ahead (then (for_start_comes p _ _) (then (before_semicolon q _ _) (then (before_parenthesis r _ _) (then (statement_comes y h _ _) (ahead same))))))
  statement_comes (st.for_each p plain q r) h more vs = ahead (ahead (ahead (then (type_comes p ((refl, refl, refl), refl, refl) _ _) (ahead (ahead (then (expression_comes q ((((refl, refl, refl), refl), refl), (λ l. refl), refl, tt) _ _) (ahead (then (statement_comes r h _ _) (ahead same)))))))))
  statement_comes (st.for_each p function q r) h more vs = ahead (ahead (ahead (then (type_comes p ((refl, refl, refl), refl, refl) _ _) (ahead (ahead (then (expression_comes q ((((refl, refl, refl), refl), refl), (λ l. refl), refl, tt) _ _) (ahead (then (statement_comes r h _ _) (ahead same)))))))))
  statement_comes (st.switch p q) h more vs = ahead (ahead (then (expression_comes p ((((refl, refl, refl), refl), refl), (λ l. refl), refl, tt) _ _) (ahead (ahead (ahead (then (sections_come q refl (refl, refl) [] _ _) (ahead (ahead same))))))))
  statement_comes st.break h more vs = ahead (ahead (ahead same))
  statement_comes st.continue h more vs = ahead (ahead (ahead same))
  statement_comes (st.return p) h more vs = ahead (then (before_semicolon p _ _) (ahead same))
  statement_comes (st.throw p) h more vs = ahead (then (before_semicolon p _ _) (ahead same))
  statement_comes {rest} (st.try_catch p q) h more vs =
      ahead (then (block_comes p _ _) (ahead (then (first_catch q _ _) (then (catches_come q [] _ _ _) (then (pass o.MoreCatches (Act a.MakeTry ∷ []) (λ a b c. refl) refl rest h _ _) (ahead same))))))
  statement_comes (st.try_finally {catches = []} p st.no_catch r) h more vs = ahead (then (block_comes p _ _) (ahead (ahead (then (block_comes r _ _) (ahead same)))))
  statement_comes (st.try_finally {catches = one ∷ others} p q r) h more vs =
      ahead (then (block_comes p _ _) (ahead (then (first_catch q _ _) (then (catches_come q [] _ _ _) (ahead (then (block_comes r _ _) (ahead same)))))))

  catches_come : {one : Catch} {others : List Catch} {span : Span} {ts rest : List Classified} → ReadsCatches (one ∷ others) span ts rest → (first : List Catch) (whole : Span) (more : List Symbol) (vs : List Value)
      → Meets (At (Non o.Catch ∷ Non o.MoreCatches ∷ more) (catches_value first whole ∷ vs) (read ts)) (At (Non o.MoreCatches ∷ more) (catches_value (first ++ one ∷ others) span ∷ vs) (read rest))
  catches_come (st.last_catch p q) first whole more vs = ahead (ahead (then (caught_comes p _ _) (ahead (then (block_comes q _ _) (ahead same)))))
  catches_come {span} {rest} (st.more_catches {what} {body} {catch_ = next_one} {catches = others} {span = middle} p q r) first whole more vs =
      ahead (ahead (then (caught_comes p _ _) (ahead (then (block_comes q _ _) (ahead (then (next_catch r _ _)
      (with_values {ts = read rest} (ap (λ q. catches_value q span ∷ vs) (append_assoc first (roll-Catch (record { caught = what; block = body }) ∷ []) (next_one ∷ others)))
      (catches_come r (first ++ roll-Catch (record { caught = what; block = body }) ∷ []) middle more vs))))))))

  sections_come : {items : List Section} {ts rest : List Classified} → ReadsSections items ts rest → LooksAt o.Sections [] rest → SectionEnds rest
      → (first : List Section) (more : List Symbol) (vs : List Value) → Meets (At (Non o.Sections ∷ more) (v.Sections first ∷ vs) (read ts)) (At more (v.Sections (first ++ items) ∷ vs) (read rest))
  sections_come {rest} st.no_section h j first more vs =
      with_values {ts = read rest} (ap (λ q. v.Sections q ∷ vs) (sym (append-nil first))) (look o.Sections [] (λ a b c. refl) rest h more (v.Sections first ∷ vs))
  sections_come {ts} {rest} (st.next_section {labels} {statements} {sections = others} p q r) h j first more vs =
      then (pass o.Sections (Act a.StartLabels ∷ Non o.Label ∷ Act a.AddLabel ∷ Non o.MoreLabels ∷ Act a.StartStatements ∷ Non o.SectionStatements ∷ Act a.AddSection ∷ Non o.Sections ∷ []) (λ a b c. refl) refl ts (labels_start p).1 more _)
      (ahead (then (labels_come p [] _ _)
      (ahead (then (statements_come o.SectionStatements (λ a b c. refl) refl (λ ts h. h.1) q (sections_start r j).0 (sections_start r j).1 [] _ _)
      (ahead (with_values {ts = read rest} (ap (λ q. v.Sections q ∷ vs) (append_assoc first (roll-Section (record { labels = labels; statements = statements }) ∷ []) others))
      (sections_come r h j (first ++ roll-Section (record { labels = labels; statements = statements }) ∷ []) more vs)))))))
