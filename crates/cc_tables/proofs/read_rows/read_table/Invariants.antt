use Rattle.std.proofs.Common.{◌≡◌, ◌≤◌, ◌*◌, ◌-◌, List, length}
use Rattle.std.specs.List.{flat_map}
use Rattle.cc_module.specs.Rows.{Cell}
use Rattle.cc_tables.specs.Columns.{row_size}
use Rattle.cc_tables.specs.Counts.{table_rows}
use Rattle.cc_tables.specs.Numbering.{sizes_by, IsNumbering}
use Rattle.cc_tables.specs.Reading.{table_numbers}
use Rattle.cc_tables.specs.Progress.{HasMet}
use Rattle.cc_tables.proofs.RowsAdded.{InTable}
use Rattle.cc_tables.proofs.read_rows.read_table.Given as goal

-- so many rows are read, and those that are left stand in the rest
abbrev pub invariant-loop-place : goal.invariant-loop-place
invariant-loop-place g l =
    let s = sizes_by (table_rows l.fn.source.counts.now.counts.items) l.fn.source.sizes in
    let table = g.R.ReadRow.of_table in
    let count = table_rows l.fn.source.counts.now.counts.items table in
    record {
      whole : IsNumbering l.numbering;
      many : length l.rows ≡ l.place;
      room : (count - l.place) * row_size s table ≤ length l.rest;
      read : (before : List Cell) → HasMet l.fn.numbering before → InTable l.fn.source.strings.now l.fn.source.blobs.now s table (table_numbers s table 1 count l.fn.bytes) before l.place (count - l.place) l.rest l.numbering (flat_map g.R.Row.cells l.rows);
    }
