use Rattle.std.proofs.Common.{◌≡◌, take}
use Rattle.cc_mean.proofs.copied.+copied.Given as goal

abbrev pub invariant-copied_all-loop-value : goal.invariant-copied_all-loop-value
invariant-copied_all-loop-value l = l.all ≡ take l.value-index l.values
