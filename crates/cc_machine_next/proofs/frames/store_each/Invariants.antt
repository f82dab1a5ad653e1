use Rattle.std.proofs.Common.{◌≡◌, ◌+◌, ◌++◌, List, length, take, drop}
use Rattle.std.specs.Prelude.{Some}
use Rattle.cc_core.specs.declared.world.Value.{Value}
use Rattle.cc_execution.specs.Fundamental.{stored_each}
use Rattle.cc_machine_next.specs.Frames.{values}
use Rattle.cc_machine_next.proofs.frames.store_each.Given as goal

abbrev pub invariant-loop-i : goal.invariant-loop-i
invariant-loop-i l = record {
  kept : take l.from l.cells.items ≡ take l.from l.fn.cells.items;
  done : (ws : List Value) → stored_each l.types (values l.fn.cells.items l.from (l.from + length l.types)) ≡ Some ws
      → values l.cells.items l.from (l.from + length l.types) ≡ take l.i ws ++ drop l.i (values l.fn.cells.items l.from (l.from + length l.types));
  size : length l.cells.items ≡ length l.fn.cells.items;
}
