use Rattle.std.proofs.Common.{◌≡◌, ◌≤◌, ◌*◌, ◌^◌, take, map}
use Rattle.std.specs.List.{sum}
use Rattle.cc_tables.specs.Counts.{table_rows}
use Rattle.cc_tables.specs.Numbering.{sizes_by}
use Rattle.cc_tables.specs.Columns.{table_size}
use Rattle.cc_tables.proofs.columns.tables_size.Given as goal

-- the sum so far, and a bound of it
abbrev pub invariant-loop-table : goal.invariant-loop-table
invariant-loop-table l = (l.total ≡ sum (map (table_size (sizes_by (table_rows l.fn.counts.counts.items) l.fn.sizes)) (take l.table-index l.tables))) × (l.total ≤ l.table-index * (72 * 2 ^ 32))
