use Rattle.std.proofs.Common.{◌≡◌, ◌∙◌, ◌-◌, ◌+◌, ◌++◌, ℕ, suc, List, [], ◌∷◌, length, drop, map, ap, sym, subst, refl, arith, rules}
use Rattle.std.proofs.lemmas.List.{length-append}
use Rattle.cc_module.specs.Rows.{Cell}
use Rattle.cc_module.specs.declared.table.Column.{Column}
use Rattle.cc_module.specs.Metadata.{column_width, table_number}
use Rattle.cc_tables.specs.declared.fault.TableFault.TheVariants.{BadTable}
use Rattle.std.specs.List.{flat_map, sum}
use Rattle.cc_tables.specs.Columns.{columns_of, row_size}
use Rattle.cc_tables.specs.Counts.{table_rows}
use Rattle.cc_tables.specs.Numbering.{sizes_by}
use Rattle.cc_tables.specs.Reading.{table_numbers, AreRows}
use Rattle.cc_tables.specs.declared.fault.TableFault.{TableFault}
use Rattle.cc_tables.proofs.RowsAdded.{room_next, room_first, none_read, all_read, row_refused, row_more, row_read, InTable}
use Rattle.cc_tables.proofs.read_rows.read_table.Goals as goal

pub loop-place-init : goal.loop-place-init
loop-place-init g c =
    let s = sizes_by (table_rows c.args.source.now.counts.now.counts.items) c.args.source.now.sizes in
    let table = g.R.ReadRow.of_table in
    let count = table_rows c.args.source.now.counts.now.counts.items table in
    record {
      whole = c.requires.whole;
      many = search rules;
      room = room_first count (row_size s table) c.args.bytes.now c.requires.room;
      read = λ before h. none_read c.args.source.now.strings.now c.args.source.now.blobs.now s table count before c.args.bytes.now c.args.numbering.now _ (ap (flat_map g.R.Row.cells) c.new-rows.ensures) h;
    }

pub returns-in-None-clause-fault : goal.returns-in-None-clause-fault
returns-in-None-clause-fault g c =
    λ fault e some before h.
    let s = sizes_by (table_rows c.args.source.now.counts.now.counts.items) c.args.source.now.sizes in
    let table = g.R.ReadRow.of_table in
    let count = table_rows c.args.source.now.counts.now.counts.items table in
    let place = c.loop-place.place in
    let cells = flat_map g.R.Row.cells c.loop-place.rows in
    let in_table = c.loop-place.invariant.read before h in
    let many : c.rows-place-end.result ≡ count = c.rows-place-end.ensures ∙ ap (table_rows c.args.source.now.counts.now.counts.items) c.table-table.ensures in
    let none = rw c.in-None.is at c.in_ok-row.ensures.none in
    let named : c.table_number.result ≡ table_number table = c.table_number.ensures ∙ ap table_number c.table-table.ensures in
    let is : fault ≡ BadTable (table_number table) (place + 1) = cc in
    row_refused c.args.source.now.strings.now c.args.source.now.blobs.now s table (table_numbers s table 1 count c.args.bytes.now) before place (count - place) (count - (place + 1)) c.loop-place.rest.now c.loop-place.numbering cells in_table
    (omega (arith, many, c.loop-place-test.true)) (none (before ++ cells) in_table.met (place + 1)) fault is

pub loop-place-preserved : goal.loop-place-preserved
loop-place-preserved g c =
    let s = sizes_by (table_rows c.args.source.now.counts.now.counts.items) c.args.source.now.sizes in
    let table = g.R.ReadRow.of_table in
    let count = table_rows c.args.source.now.counts.now.counts.items table in
    let place = c.loop-place.place in
    let rest = c.loop-place.rest.now in
    let rows = c.loop-place.rows in
    let old = flat_map g.R.Row.cells rows in
    let many : c.rows-place-end.result ≡ count = c.rows-place-end.ensures ∙ ap (table_rows c.args.source.now.counts.now.counts.items) c.table-table.ensures in
    let more : count - place ≡ suc (count - (place + 1)) = omega (arith, many, c.loop-place-test.true) in
    let width : c.widths_of-size.result ≡ row_size s table =
    c.widths_of-size.ensures.widths ∙ ap (λ (x : List Column). sum (map (column_width s) x)) (c.columns_of.ensures.columns ∙ ap columns_of c.table-table.ensures) in
    let back : c.split_at.result.1.now ≡ drop (row_size s table) rest = c.split_at.ensures.back ∙ ap (λ (n : ℕ). drop n rest) width in
    let pushed : c.push.new.self ≡ rows ++ c.in-Some.row ∷ [] = c.in_ok-push-in-Some.ensures.ok in
    let some = rw c.in-Some.is at c.in_ok-row.ensures.some in
    record {
      whole = rw c.in-Some.is at c.in_ok-row.ensures.whole;
      many = omega (arith, ap length pushed, length-append rows (c.in-Some.row ∷ []), c.loop-place.invariant.many);
      room = room_next (count - place) (count - (place + 1)) (row_size s table) rest c.split_at.result.1.now more back c.loop-place.invariant.room;
      read = λ before h.
          let in_table = c.loop-place.invariant.read before h in
          let one = some (before ++ old) in_table.met in
          subst
          (InTable c.args.source.now.strings.now c.args.source.now.blobs.now s table (table_numbers s table 1 count c.args.bytes.now) before (place + 1) (count - (place + 1)) c.split_at.result.1.now c.read_row.new.numbering)
          (sym (row_more g.R.Row.cells rows c.push.new.self c.in-Some.row pushed))
          (row_read c.args.source.now.strings.now c.args.source.now.blobs.now s table (table_numbers s table 1 count c.args.bytes.now) before place (count - place) (count - (place + 1)) rest c.loop-place.numbering old in_table more c.read_row.new.numbering
          (g.R.Row.cells c.in-Some.row) c.split_at.result.1.now (one.1 (place + 1)) one.0 back);
    }

pub returns-clause-rows : goal.returns-clause-rows
returns-clause-rows g c =
    λ before h.
    let s = sizes_by (table_rows c.args.source.now.counts.now.counts.items) c.args.source.now.sizes in
    let table = g.R.ReadRow.of_table in
    let count = table_rows c.args.source.now.counts.now.counts.items table in
    let place = c.loop-place.place in
    let many : c.rows-place-end.result ≡ count = c.rows-place-end.ensures ∙ ap (table_rows c.args.source.now.counts.now.counts.items) c.table-table.ensures in
    all_read c.args.source.now.strings.now c.args.source.now.blobs.now s table (table_numbers s table 1 count c.args.bytes.now) before place (count - place) c.loop-place.rest.now c.loop-place.numbering (flat_map g.R.Row.cells c.loop-place.rows)
    (omega (arith, many, c.loop-place-test.false)) (c.loop-place.invariant.read before h)
