use Rattle.std.proofs.Common.{◌≡◌, ℕ, ◌<◌}
use Rattle.cc_convert.specs.Overloads.{IsViableAt, BeatsOthers}
use Rattle.cc_convert.proofs.overload.only_best.Given as goal

abbrev pub invariant-loop-at : goal.invariant-loop-at
invariant-loop-at l = record {
  viable : IsViableAt l.classes l.given l.candidates l.best;
  only : (k : ℕ) → k < l.at → IsViableAt l.classes l.given l.candidates k → BeatsOthers l.classes l.given l.candidates k → k ≡ l.best;
}
