use Rattle.std.proofs.Common.{◌≡◌, ◌≤◌, ◌*◌, take, map}
use Rattle.std.specs.List.{sum}
use Rattle.cc_layout.specs.Layout.{width_of}
use Rattle.cc_module.specs.Metadata.{count_field}
use Rattle.cc_tables.specs.Counts.{table_rows}
use Rattle.cc_tables.proofs.tables_form.counts_size.Given as goal

-- the sum so far, and a bound of it
abbrev pub invariant-loop-table : goal.invariant-loop-table
invariant-loop-table l = (l.total ≡ sum (map (λ table. width_of (count_field (table_rows l.fn.counts.counts.items) table)) (take l.table-index l.tables))) × (l.total ≤ 4 * l.table-index)
