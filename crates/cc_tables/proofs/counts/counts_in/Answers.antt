use Rattle.std.proofs.Common.{arith}
use Rattle.cc_module.specs.declared.table.Table.TheVariants as the
use Rattle.cc_tables.specs.Counts.{counts_in}
use Rattle.cc_tables.proofs.Counted.{counts_step, counts_done}
use Rattle.cc_tables.proofs.counts.counts_in.Goals as goal

pub loop-table-preserved : goal.loop-table-preserved
loop-table-preserved c = record {
  all = counts_step c.args.valid c.loop-table.place c.place_after-place.result c.loop-table.table-index c.count_at.result c.args.tables.now the.Module c.args.bytes.now c.loop-table.counts.items c.push.new.self.items
      (counts_in c.args.valid 24 c.args.tables.now c.args.bytes.now) c.loop-table-test.true c.loop-table.invariant.all c.count_at.ensures.count c.place_after-place.ensures.place c.in_ok-push.ensures.items;
  within = omega (arith, c.place_after-place.ensures.within, c.loop-table.invariant.within);
}

pub returns : goal.returns
returns c =
    counts_done c.args.valid c.loop-table.place c.loop-table.table-index c.args.tables.now c.args.bytes.now c.loop-table.counts.items (counts_in c.args.valid 24 c.args.tables.now c.args.bytes.now) c.loop-table-test.false
    c.loop-table.invariant.all
