use Rattle.std.proofs.Common.{◌≡◌, drop}
use Rattle.cc_straight.specs.Form.{has_main}
use Rattle.cc_straight.proofs.unit.has_main.Given as goal

abbrev pub invariant-loop-outer : goal.invariant-loop-outer
invariant-loop-outer l = has_main (drop l.outer-index l.outers) ≡ has_main l.outers
