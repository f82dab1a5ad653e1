use Rattle.std.proofs.Common.{◌≡◌, ◌++◌, take}
use Rattle.cc_image.specs.Images.{bodies_bytes}
use Rattle.cc_image.proofs.write.write_bodies.Given as goal

-- the bodies before are written
abbrev pub invariant-loop-body : goal.invariant-loop-body
invariant-loop-body l = l.into.items ≡ l.fn.into.items ++ bodies_bytes (take l.body-index l.bodies)
