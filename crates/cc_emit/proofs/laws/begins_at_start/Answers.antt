use Rattle.cc_emit.proofs.Storable.{begins}
use Rattle.cc_emit.proofs.laws.begins_at_start.Goals as goal

pub returns : goal.returns
returns c code = begins code
