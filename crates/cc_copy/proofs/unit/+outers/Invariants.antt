use Rattle.std.proofs.Common.{◌≡◌, take}
use Rattle.cc_copy.proofs.unit.+outers.Given as goal

abbrev pub invariant-copied_outers-loop-outer : goal.invariant-copied_outers-loop-outer
invariant-copied_outers-loop-outer l = l.copies ≡ take l.outer-index l.outers
