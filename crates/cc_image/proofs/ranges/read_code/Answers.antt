use Rattle.std.proofs.Common.{arith}
use Rattle.cc_layout.proofs.Numbers.{AreBytes-each}
use Rattle.cc_image.proofs.ranges.read_code.Goals as goal

pub returns : goal.returns
returns c = AreBytes-each c.args.code.now (λ i. omega (arith, c.type_inv.code i))
