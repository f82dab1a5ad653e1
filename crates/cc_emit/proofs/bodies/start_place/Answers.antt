use Rattle.std.proofs.Common.{arith}
use Rattle.cc_emit.proofs.Sizes.{start_from}
use Rattle.cc_emit.proofs.bodies.start_place.Goals as goal

pub returns : goal.returns
returns c = let from = start_from c.args.code.now in omega arith
