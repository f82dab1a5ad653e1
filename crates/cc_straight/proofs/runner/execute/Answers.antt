use Rattle.std.proofs.Common.{◌∙◌}
use Rattle.cc_straight.proofs.Ending.{does_within}
use Rattle.cc_straight.proofs.runner.execute.Goals as goal

pub returns : goal.returns
returns c source runs =
    does_within c.args.code source c.args.arguments.now c.args.limits c.args.steps c.in_ok-machine.machine c.run.new.self c.in_ok-ending.ending c.in_ok-output.output
    c.in_ok-machine.ensures runs (c.in_ok-output.ensures ∙ c.output.ensures) c.run.result c.run.ensures.is_stop c.in_ok-ending.ensures
