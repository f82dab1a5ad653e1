use Rattle.cc_tables.specs.Numbering.{sizes_by}
use Rattle.cc_tables.proofs.Written.{front, header_pushed}
use Rattle.cc_tables.proofs.table_stream.table_header.Goals as goal

pub returns : goal.returns
unfolding front
returns g c =
    let front = rw (c.number.ensures, c.number-2.ensures, c.number-3.ensures, c.number-4.ensures, c.number-5.ensures, c.number-6.ensures, c.number-7.ensures, c.heap_sizes.ensures, c.valid_bits.ensures, c.new-fields.ensures.items) at c.in_ok-extend_from_slice.ensures.items in
    header_pushed (sizes_by (g.C.RowCounts.rows c.args.source.now) c.args.sizes) _ _ front c.in_ok-push_counts.ensures
