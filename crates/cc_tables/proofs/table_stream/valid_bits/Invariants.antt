use Rattle.std.proofs.Common.{◌≡◌, ◌≤◌, ◌*◌, ◌^◌, take, map}
use Rattle.std.specs.List.{sum}
use Rattle.cc_module.specs.Metadata.{valid_bit}
use Rattle.cc_tables.proofs.table_stream.valid_bits.Given as goal

-- what stands before is written
abbrev pub invariant-loop-table : goal.invariant-loop-table
invariant-loop-table g l = (l.bits ≡ sum (map (valid_bit (g.C.RowCounts.rows l.fn.source)) (take l.table-index l.tables))) × (l.bits ≤ l.table-index * 2 ^ 45)
