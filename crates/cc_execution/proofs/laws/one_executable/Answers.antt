use Rattle.cc_execution.proofs.Loading.{one_executable}
use Rattle.cc_execution.proofs.laws.one_executable.Goals as goal

pub returns : goal.returns
returns c = one_executable
