use Rattle.std.proofs.Common.{◌≡◌, take}
use Rattle.cc_copy.proofs.types.+types.Given as goal

abbrev pub invariant-copied_types-loop-of : goal.invariant-copied_types-loop-of
invariant-copied_types-loop-of l = l.copies ≡ take l.of-index l.types
