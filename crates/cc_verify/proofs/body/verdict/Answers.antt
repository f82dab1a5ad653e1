use Rattle.std.proofs.Common.{[], subst}
use Rattle.std.specs.Prelude.{Some, None}
use Rattle.cc_verify.specs.Rules.{ClauseVerdict, of_clauses, of_nothing, of_code}
use Rattle.cc_verify.proofs.Bodies.{handlers_within}
use Rattle.cc_verify.proofs.body.verdict.Goals as goal

pub code_verdict-requires-clause-handlers : goal.code_verdict-requires-clause-handlers
code_verdict-requires-clause-handlers c = handlers_within c.args.starts.now c.requires.starts c.requires.long (rw c.as_slice.ensures at c.in-None.ensures)

pub returns-in-Some : goal.returns-in-Some
returns-in-Some c = of_clauses (subst (λ l. ClauseVerdict c.args.method.now [] l (Some c.in-Some.broken)) c.as_slice.ensures c.in-Some.ensures)

pub returns-then-method-eq0 : goal.returns-then-method-eq0
returns-then-method-eq0 c = of_nothing (subst (λ l. ClauseVerdict c.args.method.now [] l None) c.as_slice.ensures c.in-None.ensures) c.if-method-eq0.true

pub returns : goal.returns
returns c = of_code (subst (λ l. ClauseVerdict c.args.method.now [] l None) c.as_slice.ensures c.in-None.ensures) c.if-method-eq0.false c.in_ok-found.ensures
