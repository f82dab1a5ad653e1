use Rattle.std.proofs.Common.{ap, ◌∙◌}
use Rattle.cc_core.specs.Lists.{row_steps-hidden}
use Rattle.cc_core.specs.Step as step
use Rattle.cc_statements.proofs.Rows.{steps_same}
use Rattle.cc_statements.proofs.made.block_of.Goals as goal

pub returns : goal.returns
returns c = ap step.Block (row_steps-hidden c.args.steps ∙ steps_same c.args.steps)
