use Rattle.std.proofs.Common.{◌≡◌, ℕ, ◌<◌}
use Rattle.cc_convert.specs.Overloads.{IsViableAt, BeatsAt}
use Rattle.cc_convert.proofs.overload.first_unbeaten.Given as goal

abbrev pub invariant-loop-at : goal.invariant-loop-at
invariant-loop-at l =
    (k : ℕ) → k < l.at → IsViableAt l.classes l.given l.candidates k → (k ≡ l.one → ⊥) → BeatsAt l.classes l.given l.candidates l.one k
