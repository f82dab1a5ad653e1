use Rattle.cc_soundness.proofs.Runs.{step_ok}
use Rattle.cc_soundness.proofs.laws.typed_steps.Goals as goal

pub returns : goal.returns
returns c = step_ok
