use Rattle.std.proofs.Common.{◌≡◌, ◌++◌, take}
use Rattle.std.specs.List.{flat_map}
use Rattle.cc_tables.specs.Numbering.{sizes_by, slot_bytes}
use Rattle.cc_tables.proofs.table_stream.write_slots.Given as goal

-- what stands before is written
abbrev pub invariant-loop-slot : goal.invariant-loop-slot
invariant-loop-slot g l = l.into.items ≡ l.fn.into.items ++ flat_map (slot_bytes (sizes_by (g.C.RowCounts.rows l.fn.source) l.fn.sizes)) (take l.slot-index l.slots)
