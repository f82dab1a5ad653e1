use Rattle.std.proofs.Common.{◌≡◌, ◌++◌, take}
use Rattle.std.specs.List.{flat_map}
use Rattle.cc_module.specs.Metadata.{count_field}
use Rattle.cc_tables.proofs.table_stream.push_counts.Given as goal

-- what stands before is pushed
abbrev pub invariant-loop-table : goal.invariant-loop-table
invariant-loop-table g l = l.into.items ≡ l.fn.into.items ++ flat_map (count_field (g.C.RowCounts.rows l.fn.source)) (take l.table-index l.tables)
