use Rattle.cc_dispose.proofs.Frames.{keeps_the_run}
use Rattle.cc_dispose.proofs.laws.lowering_keeps_the_run.Goals as goal

pub returns : goal.returns
returns c = keeps_the_run
