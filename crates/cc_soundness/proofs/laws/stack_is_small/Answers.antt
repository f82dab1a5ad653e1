use Rattle.cc_soundness.proofs.Runs.{small_ok}
use Rattle.cc_soundness.proofs.laws.stack_is_small.Goals as goal

pub returns : goal.returns
returns c = small_ok
