use Rattle.std.proofs.Common.{arith}
use Rattle.cc_module.specs.declared.table.Column.TheVariants as col
use Rattle.cc_tables.specs.Counts.{table_rows}
use Rattle.cc_tables.specs.Numbering.{sizes_by}
use Rattle.cc_tables.specs.Reading.{numbers_in}
use Rattle.cc_tables.proofs.Splitting.{width_some, room_here, room_after, numbers_step, numbers_done}
use Rattle.cc_tables.proofs.numbers.read_numbers.Goals as goal

pub loop-column-preserved : goal.loop-column-preserved
loop-column-preserved c =
    let s = sizes_by (table_rows c.args.counts.now.counts.items) c.args.sizes in record {
      all = numbers_step s c.args.columns.now c.loop-column.column-index col.U1 c.loop-column-test.true c.loop-column.rest.now c.split_at.result.1.now c.column_width-width.result c.column_width-width.ensures.width c.number_at.result c.loop-column.into.items
          c.push.new.self.items (numbers_in s c.args.columns.now c.args.bytes.now) c.number_at.ensures.value c.split_at.ensures.back c.in_ok-push.ensures.items c.loop-column.invariant.all;
      room = room_after s c.args.columns.now c.loop-column.column-index col.U1 c.loop-column-test.true c.loop-column.rest.now c.split_at.result.1.now c.column_width-width.result c.column_width-width.ensures.width c.split_at.ensures.back c.loop-column.invariant.room;
    }

pub returns : goal.returns
returns c =
    let s = sizes_by (table_rows c.args.counts.now.counts.items) c.args.sizes in
    numbers_done s c.args.columns.now c.loop-column.column-index c.loop-column.rest.now c.loop-column.into.items (numbers_in s c.args.columns.now c.args.bytes.now) c.loop-column-test.false c.loop-column.invariant.all
