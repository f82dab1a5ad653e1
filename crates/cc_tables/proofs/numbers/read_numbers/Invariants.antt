use Rattle.std.proofs.Common.{◌≡◌, ◌≤◌, ◌++◌, length, drop, map}
use Rattle.std.specs.List.{sum}
use Rattle.cc_module.specs.Metadata.{column_width}
use Rattle.cc_tables.specs.Counts.{table_rows}
use Rattle.cc_tables.specs.Numbering.{sizes_by}
use Rattle.cc_tables.specs.Reading.{numbers_in}
use Rattle.cc_tables.proofs.numbers.read_numbers.Given as goal

-- the numbers so far and those of the columns that are left are all, and the bytes of these columns are there
abbrev pub invariant-loop-column : goal.invariant-loop-column
invariant-loop-column l = record {
  all : l.into.items ++ numbers_in (sizes_by (table_rows l.fn.counts.counts.items) l.fn.sizes) (drop l.column-index l.columns) l.rest ≡ numbers_in (sizes_by (table_rows l.fn.counts.counts.items) l.fn.sizes) l.columns l.fn.bytes;
  room : sum (map (column_width (sizes_by (table_rows l.fn.counts.counts.items) l.fn.sizes)) (drop l.column-index l.columns)) ≤ length l.rest;
}
