use Rattle.cc_tables.proofs.Numbered.{row_short, row_met, meets_none}
use Rattle.cc_tables.proofs.row.number_rows.Goals as goal

pub number-requires-clause-short : goal.number-requires-clause-short
number-requires-clause-short g c = row_short g.R.Row.cells c.args.rows.now c.loop-row.row-index c.row-item.result c.loop-row-test.true c.row-item.is c.requires.short

pub loop-row-init : goal.loop-row-init
loop-row-init g c = meets_none c.args.into.now c.requires.whole

pub loop-row-preserved : goal.loop-row-preserved
loop-row-preserved g c = row_met g.R.Row.cells c.args.rows.now c.loop-row.row-index c.row-item.result c.loop-row-test.true c.row-item.is _ _ _ c.loop-row.invariant c.in_ok-number.ensures
