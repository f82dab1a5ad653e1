use Rattle.cc_machine.proofs.OneWay.{step_one}
use Rattle.cc_machine.proofs.laws.one_step.Goals as goal

pub returns : goal.returns
returns c code s t u first second = step_one first second
