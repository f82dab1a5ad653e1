use Rattle.std.proofs.Common.{◌≡◌, ℕ, ◌-◌, ◌<◌, List, ◌++◌, Some, length, arith, refl, ap, append_assoc, ◌∙◌}
use Rattle.std.specs.Prelude.{slice_get}
use Rattle.std.proofs.lemmas.Option.{slice_get_read}
use Rattle.cc_listing.specs.Listing.{ListsField}
use Rattle.cc_listing.proofs.RowTexts.{rows_more, rows_end}
use Rattle.cc_listing.proofs.listing.list_fields.Goals as goal

pub loop-row-preserved : goal.loop-row-preserved
loop-row-preserved c =
    let fields = c.args.fields.now in
    let row = c.loop-row.row in
    let before = c.loop-row.invariant in
    let field = c.index-fields-row.result in
    let text = c.in_ok-line.line.items in
    let there : row - 1 < length fields = omega (arith, c.requires.counted, c.requires.within, c.loop-row-test.true, c.loop-row.auto.row) in
    let found : slice_get fields (row - 1) ≡ Some field = slice_get_read fields (length fields) (row - 1) field refl there c.index-fields-row.is in
    let here : ListsField fields row text = (field, found, c.in_ok-line.ensures) in
    let items = c.in_ok-extend_from_slice.ensures.items ∙ ap (λ (l : List ℕ). c.loop-row.into.items ++ l) c.as_slice.ensures.value ∙ ap (λ (l : List ℕ). l ++ text) before.1
    ∙ append_assoc c.args.into.now.items before.0 text in
    (before.0 ++ text, items, rows_more (ListsField fields) c.args.first row c.args.past before.0 text before.2 c.loop-row-test.true here)

pub returns : goal.returns
returns c =
    let before = c.loop-row.invariant in
    (before.0, rows_end (ListsField c.args.fields.now) c.args.first c.loop-row.row c.args.past before.0 before.2 c.loop-row-test.false, before.1)
