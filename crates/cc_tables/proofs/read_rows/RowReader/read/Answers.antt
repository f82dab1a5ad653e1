use Rattle.std.proofs.Common.{◌≡◌, ◌∙◌, ◌+◌, ℕ, List, ap, sym, subst, arith, drop, length, refl}
use Rattle.std.specs.List.{flat_map}
use Rattle.std.proofs.lemmas.List.{length-drop}
use Rattle.cc_tables.specs.Columns.{table_size}
use Rattle.cc_tables.specs.Counts.{table_rows}
use Rattle.cc_tables.specs.Numbering.{sizes_by}
use Rattle.cc_tables.specs.Reading.{table_numbers, AreRows, RowFault}
use Rattle.cc_tables.proofs.RowsAdded.{none_kept, table_there, ready_after, fault_read, table_read}
use Rattle.cc_tables.proofs.read_rows.RowReader.read.Goals as goal

pub read_table-requires-clause-room : goal.read_table-requires-clause-room
read_table-requires-clause-room g c =
    let s = sizes_by (table_rows c.args.source.now.counts.now.counts.items) c.args.source.now.sizes in
    let none = none_kept c.args.self.now.fault c.is_some.result c.is_some.ensures c.if-is_some.false in
    let there = table_there s c.args.bytes.now g.R.ReadRow.of_table c.args.self.now (c.requires none) in
    omega (arith, there, ap length c.split_at.ensures.back, length-drop c.args.self.now.place c.args.bytes.now)

pub returns-in-Ok-clause-ready : goal.returns-in-Ok-clause-ready
returns-in-Ok-clause-ready g c =
    λ e.
    let s = sizes_by (table_rows c.args.source.now.counts.now.counts.items) c.args.source.now.sizes in
    ready_after s c.args.bytes.now g.R.ReadRow.of_table c.args.self.now (c.requires e) _ c.in-Ok.ensures.whole (ap (λ (n : ℕ). c.args.self.now.place + n) (c.table_size.ensures.size ∙ ap (table_size s) c.table.ensures))

pub returns-in-Ok-clause-read : goal.returns-in-Ok-clause-read
returns-in-Ok-clause-read g c =
    λ all cells h.
    let s = sizes_by (table_rows c.args.source.now.counts.now.counts.items) c.args.source.now.sizes in
    let table = g.R.ReadRow.of_table in
    let more = flat_map g.R.Row.cells c.in-Ok.rows in
    let none = none_kept c.args.self.now.fault c.is_some.result c.is_some.ensures c.if-is_some.false in
    let met = (h.rows none).met in
    let are =
    subst (λ (x : List ℕ). AreRows c.args.source.now.strings.now c.args.source.now.blobs.now cells (table_numbers s table 1 (s.rows table) x) more) c.split_at.ensures.back (c.in-Ok.ensures.rows cells met) in
    table_read c.args.source.now.strings.now c.args.source.now.blobs.now s c.args.bytes.now all table c.args.self.now _ cells h none more none (ap (λ (n : ℕ). c.args.self.now.place + n) (c.table_size.ensures.size ∙ ap (table_size s) c.table.ensures)) are
    (c.in-Ok.ensures.met cells met)

pub returns-in-Err-clause-read : goal.returns-in-Err-clause-read
returns-in-Err-clause-read g c =
    λ all cells h.
    let s = sizes_by (table_rows c.args.source.now.counts.now.counts.items) c.args.source.now.sizes in
    let table = g.R.ReadRow.of_table in
    let none = none_kept c.args.self.now.fault c.is_some.result c.is_some.ensures c.if-is_some.false in
    let met = (h.rows none).met in
    fault_read c.args.source.now.strings.now c.args.source.now.blobs.now s c.args.bytes.now all table c.args.self.now _ cells h none c.in-Err.fault _ _ refl
    (λ some.
    subst (λ (x : List ℕ). RowFault c.args.source.now.strings.now c.args.source.now.blobs.now cells (table_numbers s table 1 (s.rows table) x) c.in-Err.fault) c.split_at.ensures.back
    (c.read_table.ensures.fault c.in-Err.fault c.in-Err.is some cells met))
