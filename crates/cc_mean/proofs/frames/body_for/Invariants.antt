use Rattle.std.proofs.Common.{◌≡◌, drop}
use Rattle.cc_core.specs.Frames.{body_for}
use Rattle.cc_mean.proofs.frames.body_for.Given as goal

abbrev pub invariant-loop-body : goal.invariant-loop-body
invariant-loop-body l = body_for l.method (drop l.body-index l.bodies) ≡ body_for l.method l.bodies
