use Rattle.std.proofs.Common.{◌≡◌, ◌≤◌, ◌-◌, ◌++◌, ℕ, List, length}
use Rattle.cc_listing.specs.Bodies.{GoesOn}
use Rattle.cc_listing.proofs.bodies.list_code.Given as goal

abbrev pub invariant-loop-at : goal.invariant-loop-at
invariant-loop-at l = record {
  within : l.at ≤ length l.code;
  so_far : (front : List ℕ) × (l.into.items ≡ l.initial.into.items ++ front) × GoesOn l.code 0 front l.at;
}

abbrev pub decreases-loop-at : goal.decreases-loop-at
decreases-loop-at l = length l.code - l.at
