use Rattle.std.proofs.Common.{◌≡◌, drop, []}
use Rattle.std.specs.Option.{option_map}
use Rattle.cc_core.specs.Bare.{term_of, step_of}
use Rattle.cc_core.specs.Lists.{steps_of, sections_of}
use Rattle.cc_core.specs.Leave.{turns, turns_after}
use Rattle.cc_core.specs.Outcome.{do_if, outcome_of, scope_of, following}
use Rattle.cc_core.specs.Value.{value_of}
use Rattle.cc_mean.proofs.outcome.+outcome.Given as goal

abbrev pub invariant-scope-loop-statement : goal.invariant-scope-loop-statement
invariant-scope-loop-statement g l =
    let k = g.C.Caller.calls l.caller l.code.classes.now l.code.bodies.now l.code.turns in
    scope_of l.code.classes.now k l.code.turns [] (steps_of (drop l.statement-index l.statements)) l.state ≡ scope_of l.code.classes.now k l.code.turns [] (steps_of l.statements) l.initial.state

abbrev pub invariant-following-loop-at : goal.invariant-following-loop-at
invariant-following-loop-at g l =
    let k = g.C.Caller.calls l.caller l.code.classes.now l.code.bodies.now l.code.turns in
    following l.code.classes.now k l.code.turns (sections_of (drop l.at l.sections)) l.state ≡ following l.code.classes.now k l.code.turns (sections_of (drop l.from l.sections)) l.initial.state

abbrev pub invariant-repeat-turns : goal.invariant-repeat-turns
invariant-repeat-turns g l =
    let k = g.C.Caller.calls l.caller l.code.classes.now l.code.bodies.now l.code.turns in
    let test = value_of l.code.classes.now k (term_of l.condition) in
    let body = outcome_of l.code.classes.now k l.code.turns (step_of l.body) in
    let after = do_if l.code.classes.now k (option_map term_of l.after) in
    turns l.left test body after l.state ≡ turns l.code.turns test body after l.initial.state

abbrev pub decreases-repeat-turns : goal.decreases-repeat-turns
decreases-repeat-turns g l = l.left

abbrev pub invariant-repeat_after-turns : goal.invariant-repeat_after-turns
invariant-repeat_after-turns g l =
    let k = g.C.Caller.calls l.caller l.code.classes.now l.code.bodies.now l.code.turns in
    let test = value_of l.code.classes.now k (term_of l.condition) in
    let body = outcome_of l.code.classes.now k l.code.turns (step_of l.body) in
    turns_after l.left test body l.state ≡ turns_after l.code.turns test body l.initial.state

abbrev pub decreases-repeat_after-turns : goal.decreases-repeat_after-turns
decreases-repeat_after-turns g l = l.left
