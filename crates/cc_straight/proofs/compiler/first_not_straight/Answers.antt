use Rattle.cc_straight.specs.Form.{unit_source}
use Rattle.cc_straight.proofs.Refused.{added_first, fault_first}
use Rattle.cc_straight.proofs.compiler.first_not_straight.Goals as goal

pub returns-in-Ok : goal.returns-in-Ok
returns-in-Ok c = added_first (unit_source c.args.tree.now) _ _ c.in-Ok.ensures
