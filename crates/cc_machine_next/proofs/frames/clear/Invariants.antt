use Rattle.std.proofs.Common.{◌≡◌, ◌+◌, length, take}
use Rattle.cc_execution.specs.Step.{zeros_of}
use Rattle.cc_machine_next.specs.Frames.{values}
use Rattle.cc_machine_next.proofs.frames.clear.Given as goal

abbrev pub invariant-loop-i : goal.invariant-loop-i
invariant-loop-i l = record {
  kept : take l.from l.cells.items ≡ take l.from l.fn.cells.items;
  zero : values l.cells.items l.from (l.from + l.i) ≡ zeros_of (take l.i l.types);
  size : length l.cells.items ≡ length l.fn.cells.items;
}
