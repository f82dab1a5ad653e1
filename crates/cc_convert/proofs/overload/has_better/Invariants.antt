use Rattle.std.proofs.Common.{ℕ, ◌<◌}
use Rattle.cc_convert.specs.Overloads.{IsBetterAt}
use Rattle.cc_convert.proofs.overload.has_better.Given as goal

abbrev pub invariant-loop-at : goal.invariant-loop-at
invariant-loop-at l = (k : ℕ) → k < l.at → IsBetterAt l.classes l.given l.first l.second k → ⊥
