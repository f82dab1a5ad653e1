use Rattle.std.proofs.Common.{◌≡◌, ◌≤◌, ◌*◌, take, map}
use Rattle.std.specs.List.{sum}
use Rattle.cc_tables.specs.Counts.{table_rows}
use Rattle.cc_tables.specs.Numbering.{sizes_by}
use Rattle.cc_module.specs.Metadata.{column_width}
use Rattle.cc_tables.proofs.columns.widths_of.Given as goal

-- the sum so far, and a bound of it
abbrev pub invariant-loop-column : goal.invariant-loop-column
invariant-loop-column l = (l.total ≡ sum (map (column_width (sizes_by (table_rows l.fn.counts.counts.items) l.fn.sizes)) (take l.column-index l.columns))) × (l.total ≤ 8 * l.column-index)
