use Rattle.std.proofs.Common.{◌≡◌, List, Some, slice_get, length}
use Rattle.cc_base.specs.declared.identifiers.ClassId.{ClassId}
use Rattle.cc_core.specs.Search.{AreReached}
use Rattle.cc_core.proofs.search.closure.Given as goal

abbrev pub invariant-loop-at : goal.invariant-loop-at
invariant-loop-at l = record {
  same_length : length l.rows.items ≡ l.at;
  each : (from : ClassId) (row : List ClassId) → slice_get l.rows.items from.0 ≡ Some row → AreReached l.steps from row;
}
