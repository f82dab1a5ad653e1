use Rattle.std.proofs.Common.{◌≤◌}
use Rattle.std.specs.List.{AllAdjacentBelow}
use Rattle.cc_tables.proofs.order.is_sorted.Given as goal

-- in order so far
abbrev pub invariant-loop-i : goal.invariant-loop-i
invariant-loop-i g l = AllAdjacentBelow (λ x y. g.R.Keyed.key_of x ≤ g.R.Keyed.key_of y) l.rows l.i
