use Rattle.std.proofs.Common.{arith}
use Rattle.std.proofs.lemmas.Grind.{common_steps}
use Rattle.cc_mean.proofs.Choices.{chosen_is}
use Rattle.cc_core.specs.Lists.{sections_of}
use Rattle.cc_mean.proofs.Loops.{broken_by}
use Rattle.cc_mean.proofs.Rows.{block_on, switch_on}
use Rattle.cc_mean.proofs.outcome.+outcome.Goals as goal

pub outcome-returns-in-Block : goal.outcome-returns-in-Block
outcome-returns-in-Block g t c =
    let e = block_on c.args.code.now.classes.now (g.C.Caller.calls c.args.caller.now c.args.code.now.classes.now c.args.code.now.bodies.now c.args.code.now.turns) c.args.code.now.turns c.args.state.now c.args.statement.now _ c.in-Block.is in
    grind (arith, common_steps, e)

pub outcome-returns-in-Switch : goal.outcome-returns-in-Switch
outcome-returns-in-Switch g t c =
    let e = switch_on c.args.code.now.classes.now (g.C.Caller.calls c.args.caller.now c.args.code.now.classes.now c.args.code.now.bodies.now c.args.code.now.turns) c.args.code.now.turns c.args.state.now c.args.statement.now _ _ _ c.in-Switch.is in
    grind (arith, common_steps, e)

pub select-returns : goal.select-returns
select-returns g t c =
    let e = chosen_is c.args.code.now.classes.now (g.C.Caller.calls c.args.caller.now c.args.code.now.classes.now c.args.code.now.bodies.now c.args.code.now.turns) c.args.code.now.turns (sections_of c.args.sections.now) c.args.value c.args.state.now _ _ c.in_ok-from.ensures in
    broken_by _ _ _ _ _ e c.in_ok-end.ensures c.past_break.ensures
