use Rattle.std.proofs.Common.{◌≡◌, map, take}
use Rattle.cc_core.specs.Types.{bare}
use Rattle.cc_dispose.proofs.copied.copied_types.Given as goal

abbrev pub invariant-loop-of : goal.invariant-loop-of
invariant-loop-of l = map bare l.copies.items ≡ map bare (take l.of-index l.types)
