use Rattle.std.proofs.Common.{◌≡◌, map, take}
use Rattle.cc_core.specs.Bare.{term_of}
use Rattle.cc_dispose.proofs.copied.+expression.Given as goal

abbrev pub invariant-copied_all-loop-e : goal.invariant-copied_all-loop-e
invariant-copied_all-loop-e l = map term_of l.copies ≡ map term_of (take l.e-index l.list)
