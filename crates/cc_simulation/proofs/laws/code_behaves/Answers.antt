use Rattle.cc_simulation.proofs.Whole.{programs_behave}
use Rattle.cc_simulation.proofs.laws.code_behaves.Goals as goal

pub returns : goal.returns
returns c = programs_behave
