use Rattle.std.proofs.Common.{◌≡◌, false}
use Rattle.std.specs.List.{AllAdjacentBelow}
use Rattle.std.specs.Ordering.{is_lt}
use Rattle.cc_module.specs.Storable.{generic_param_cmp}
use Rattle.cc_tables.proofs.order.are_generic_params_sorted.Given as goal

-- in order so far
abbrev pub invariant-loop-i : goal.invariant-loop-i
invariant-loop-i l = AllAdjacentBelow (λ x y. is_lt (generic_param_cmp y x) ≡ false) l.rows l.i
