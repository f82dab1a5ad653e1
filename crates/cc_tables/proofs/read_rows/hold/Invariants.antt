use Rattle.std.proofs.Common.{◌≡◌, length, take, map}
use Rattle.cc_tables.specs.declared.numbering.Slot.{Slot}
use Rattle.cc_tables.proofs.read_rows.hold.Given as goal

-- the columns so far hold the numbers so far
abbrev pub invariant-loop-i : goal.invariant-loop-i
invariant-loop-i l = record {
  many : length l.slots ≡ length l.numbers;
  same : map (λ (slot : Slot). slot.value) (take l.i l.slots) ≡ take l.i l.numbers;
}
