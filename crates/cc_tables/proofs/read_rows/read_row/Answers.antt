use Rattle.std.proofs.Common.{◌≡◌, ◌∙◌, ℕ, List, ap, sym, drop, length, arith}
use Rattle.cc_layout.proofs.Numbers.{AreBytes-each}
use Rattle.cc_module.specs.declared.table.Column.{Column}
use Rattle.cc_tables.specs.Columns.{columns_of}
use Rattle.cc_tables.specs.Counts.{table_rows}
use Rattle.cc_tables.specs.Numbering.{sizes_by}
use Rattle.cc_tables.specs.Reading.{numbers_in}
use Rattle.cc_tables.proofs.RowNumbered.{numbers_fit, numbers_many, finds_short, row_told, row_untold, slots_room, met_more, values_met}
use Rattle.cc_tables.proofs.read_rows.read_row.Goals as goal

pub of_numbers-requires-clause-many : goal.of_numbers-requires-clause-many
of_numbers-requires-clause-many g c =
    let s = sizes_by (table_rows c.args.source.now.counts.now.counts.items) c.args.source.now.sizes in
    let bytes = c.args.bytes.now in
    let are = c.deref.ensures.value ∙ c.in_ok-read_numbers.ensures ∙ ap (λ (x : List Column). numbers_in s x bytes) (c.columns_of-columns.ensures.columns ∙ ap columns_of c.table.ensures) in
    numbers_many s (columns_of g.R.ReadRow.of_table) bytes c.deref.result.now are

pub of_numbers-requires-clause-fit : goal.of_numbers-requires-clause-fit
of_numbers-requires-clause-fit g c =
    let s = sizes_by (table_rows c.args.source.now.counts.now.counts.items) c.args.source.now.sizes in
    let bytes = c.args.bytes.now in
    let are = c.deref.ensures.value ∙ c.in_ok-read_numbers.ensures ∙ ap (λ (x : List Column). numbers_in s x bytes) (c.columns_of-columns.ensures.columns ∙ ap columns_of c.table.ensures) in
    numbers_fit s (columns_of g.R.ReadRow.of_table) bytes c.deref.result.now (AreBytes-each bytes (λ i. omega (arith, c.type_inv.bytes i))) are

pub number-requires-clause-short : goal.number-requires-clause-short
number-requires-clause-short g c = finds_short c.args.source.now.strings.now c.args.source.now.blobs.now c.deref.result.now 0 (g.R.Row.cells c.in_ok-row.row) c.in_ok-row.ensures.found

pub split_at-requires : goal.split_at-requires
split_at-requires g c =
    let room = slots_room c.args.numbering.now c.number.new.into (g.R.Row.cells c.in_ok-row.row) c.in_ok-number.ensures in
    omega (arith, room, c.len-met.ensures, ap length c.deref-2.ensures.value)

pub returns-then-hold-clause-some : goal.returns-then-hold-clause-some
returns-then-hold-clause-some g c =
    λ before h.
    let s = sizes_by (table_rows c.args.source.now.counts.now.counts.items) c.args.source.now.sizes in
    let bytes = c.args.bytes.now in
    let are = c.deref.ensures.value ∙ c.in_ok-read_numbers.ensures ∙ ap (λ (x : List Column). numbers_in s x bytes) (c.columns_of-columns.ensures.columns ∙ ap columns_of c.table.ensures) in
    let cells = g.R.Row.cells c.in_ok-row.row in
    let many : c.len-met.result ≡ length c.args.numbering.now.slots.items = omega (arith, c.len-met.ensures) in
    let back = c.split_at.ensures.back ∙ (λ i. drop (many i) (c.deref-2.ensures.value i)) in
    let values = sym (values_met c.args.numbering.now c.number.new.into before cells h c.in_ok-number.ensures c.split_at.result.1.now back) ∙ c.hold.ensures.yes c.if-hold.true ∙ c.deref-3.ensures.value ∙ sym c.deref.ensures.value in (
      met_more c.args.numbering.now c.number.new.into before cells h c.in_ok-number.ensures,
      λ place. row_told c.args.source.now.strings.now c.args.source.now.blobs.now before cells s g.R.ReadRow.of_table place bytes c.deref.result.now are (g.met.R.ReadRow.is_row c.in_ok-row.row) c.in_ok-row.ensures.found values,
    )

pub returns-clause-none : goal.returns-clause-none
returns-clause-none g c =
    λ before h place.
    let s = sizes_by (table_rows c.args.source.now.counts.now.counts.items) c.args.source.now.sizes in
    let bytes = c.args.bytes.now in
    let are = c.deref.ensures.value ∙ c.in_ok-read_numbers.ensures ∙ ap (λ (x : List Column). numbers_in s x bytes) (c.columns_of-columns.ensures.columns ∙ ap columns_of c.table.ensures) in
    let cells = g.R.Row.cells c.in_ok-row.row in
    let many : c.len-met.result ≡ length c.args.numbering.now.slots.items = omega (arith, c.len-met.ensures) in
    let back = c.split_at.ensures.back ∙ (λ i. drop (many i) (c.deref-2.ensures.value i)) in
    let values = values_met c.args.numbering.now c.number.new.into before cells h c.in_ok-number.ensures c.split_at.result.1.now back in
    row_untold c.args.source.now.strings.now c.args.source.now.blobs.now before cells s g.R.ReadRow.of_table place bytes c.deref.result.now are g.R.Row.cells g.met.R.ReadRow.of_row c.in_ok-row.ensures.only
    (λ e. c.hold.ensures.no c.if-hold.false (values ∙ e ∙ c.deref.ensures.value ∙ sym c.deref-3.ensures.value))
