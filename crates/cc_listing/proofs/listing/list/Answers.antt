use Rattle.std.proofs.Common.{ℕ, ◌+◌, ◌<◌, List, ◌++◌, length, arith, sym, subst}
use Rattle.cc_listing.specs.Listing.{ListsType}
use Rattle.cc_listing.specs.Rows.{GoesTo, Rows}
use Rattle.cc_listing.proofs.RowTexts.{rows_more, rows_end}
use Rattle.cc_listing.proofs.listing.list.Goals as goal

pub loop-at-preserved : goal.loop-at-preserved
loop-at-preserved c =
    let m = c.args.module.now in
    let count = length m.type_defs in
    let lines = c.in_ok-list_type.ensures in
    let within : c.loop-at.at < count = omega (arith, c.loop-at-test.true, c.len-at-end.ensures) in
    let goes = rows_more (ListsType m) 0 c.loop-at.at count c.loop-at.text.items lines.0 c.loop-at.invariant within lines.1 in
    subst (λ (text : List ℕ). GoesTo (ListsType m) 0 (c.loop-at.at + 1) count text) (sym lines.2) goes

pub returns : goal.returns
returns c =
    let m = c.args.module.now in
    rows_end (ListsType m) 0 c.loop-at.at (length m.type_defs) c.loop-at.text.items c.loop-at.invariant (omega (arith, c.loop-at-test.false, c.len-at-end.ensures))
