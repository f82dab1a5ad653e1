use Rattle.std.proofs.Common.{ℕ, List, ◌++◌, ap, append_assoc, ◌∙◌}
use Rattle.cc_listing.specs.Listing.{ListsMethod}
use Rattle.cc_listing.proofs.RowTexts.{rows_more, rows_end}
use Rattle.cc_listing.proofs.listing.list_methods.Goals as goal

pub loop-row-preserved : goal.loop-row-preserved
loop-row-preserved c =
    let before = c.loop-row.invariant in
    let lines = c.in_ok-list_method.ensures in
    let items = lines.2 ∙ ap (λ (l : List ℕ). l ++ lines.0) before.1 ∙ append_assoc c.args.into.now.items before.0 lines.0 in (
      before.0 ++ lines.0,
      items,
      rows_more (ListsMethod c.args.module.now) c.args.first c.loop-row.row c.args.past before.0 lines.0 before.2 c.loop-row-test.true lines.1,
    )

pub returns : goal.returns
returns c =
    let before = c.loop-row.invariant in
    (before.0, rows_end (ListsMethod c.args.module.now) c.args.first c.loop-row.row c.args.past before.0 before.2 c.loop-row-test.false, before.1)
