use Rattle.cc_soundness.proofs.Runs.{never_stuck}
use Rattle.cc_soundness.proofs.laws.never_stuck.Goals as goal

pub returns : goal.returns
returns c = never_stuck
