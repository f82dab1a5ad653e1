-- A run has one end, so that tokens have one tree.
use Rattle.std.proofs.Common.{◌≡◌, sym, ap, refl, List, []}
use Rattle.cc_pushdown.specs.declared.value.Value.{Value}
use Rattle.cc_pushdown.specs.Values.{top_type_name, top_expression, top_statement}
use Rattle.cc_pushdown.specs.Machine.{Fed, Config, Bad, Done, Comes, here, on}
use Rattle.cc_grammar_laws.specs.Laws.{OneEnd, ExpressionsAreRead, StatementsAreRead, OneType, OneExpression, OneStatement}
use Rattle.cc_grammar_laws.proofs.Meets.{then, ahead, same, comes}
use Rattle.cc_grammar_laws.proofs.CompleteTypes.{types_are_read}
use Rattle.cc_grammar_laws.proofs.CompleteExpressions.{expression_comes}
use Rattle.cc_grammar_laws.proofs.CompleteStatements.{statement_comes}

stays : {vs ws : List Value} → Comes (Done vs) (Done ws) → vs ≡ ws
stays here = refl
stays (on p) = stays p

pub ends_once : {c : Config} {vs ws : List Value} → Comes c (Done vs) → Comes c (Done ws) → vs ≡ ws
ends_once here q = stays q
ends_once (on p) here = sym (stays p)
ends_once (on p) (on q) = ends_once p q

stays_refused : {fs : List Fed} {vs : List Value} → Comes (Bad fs) (Done vs) → ⊥
stays_refused (on p) = stays_refused p

stays_read : {vs : List Value} {fs : List Fed} → Comes (Done vs) (Bad fs) → ⊥
stays_read (on p) = stays_read p

pub not_both : {c : Config} {vs : List Value} {fs : List Fed} → Comes c (Done vs) → Comes c (Bad fs) → ⊥
not_both here q = stays_read q
not_both (on p) here = stays_refused p
not_both (on p) (on q) = not_both p q

pub one_end : OneEnd
one_end c vs ws p q = ends_once p q

pub expressions_are_read : ExpressionsAreRead
expressions_are_read one span ts p = comes (then (expression_comes p ((((tt, tt, tt), tt), tt), (λ l. tt), tt, tt) [] []) (ahead same))

pub statements_are_read : StatementsAreRead
statements_are_read one span ts p = comes (then (statement_comes p tt [] []) (ahead same))

pub one_type : OneType
one_type a b first second ts p q = ap (λ vs. (top_type_name vs).tree) (ends_once (types_are_read a first ts p) (types_are_read b second ts q))

pub one_expression : OneExpression
one_expression a b first second ts p q = ap (λ vs. (top_expression vs).tree) (ends_once (expressions_are_read a first ts p) (expressions_are_read b second ts q))

pub one_statement : OneStatement
one_statement a b first second ts p q = ap (λ vs. (top_statement vs).tree) (ends_once (statements_are_read a first ts p) (statements_are_read b second ts q))
