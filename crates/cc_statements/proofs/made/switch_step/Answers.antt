use Rattle.std.proofs.Common.{ap, ◌∙◌}
use Rattle.cc_core.specs.Bare.{term_of}
use Rattle.cc_core.specs.Lists.{row_sections-hidden}
use Rattle.cc_core.specs.Step as step
use Rattle.cc_statements.proofs.Rows.{sections_same}
use Rattle.cc_statements.proofs.made.switch_step.Goals as goal

pub returns : goal.returns
returns c = ap (step.Switch c.args.local (term_of c.args.operand)) (row_sections-hidden c.args.sections ∙ sections_same c.args.sections)
