use Rattle.std.proofs.Common.{◌≡◌, ◌<◌, List, Some, slice_get, Contains}
use Rattle.cc_base.specs.declared.identifiers.ClassId.{ClassId}
use Rattle.cc_core.proofs.search.first_cycle.Given as goal

abbrev pub invariant-loop-at : goal.invariant-loop-at
invariant-loop-at l = (class : ClassId) (row : List ClassId) → class.0 < l.at → slice_get l.rows class.0 ≡ Some row → Contains row class → ⊥
