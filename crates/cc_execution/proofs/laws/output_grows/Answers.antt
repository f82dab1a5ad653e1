use Rattle.cc_execution.proofs.Growing.{runs_grow}
use Rattle.cc_execution.proofs.laws.output_grows.Goals as goal

pub returns : goal.returns
returns c = runs_grow
