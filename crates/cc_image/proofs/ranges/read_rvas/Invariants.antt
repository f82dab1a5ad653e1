use Rattle.std.proofs.Common.{take}
use Rattle.cc_image.specs.Reading.{HaveRvas}
use Rattle.cc_image.proofs.ranges.read_rvas.Given as goal

abbrev pub invariant-loop-method : goal.invariant-loop-method
invariant-loop-method l = HaveRvas (take l.method-index l.methods)
