use Rattle.cc_soundness.proofs.Runs.{start_ok}
use Rattle.cc_soundness.proofs.laws.start_is_typed.Goals as goal

pub returns : goal.returns
returns c = start_ok
