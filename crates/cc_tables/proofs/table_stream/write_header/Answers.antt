use Rattle.cc_tables.specs.Numbering.{sizes_by}
use Rattle.cc_tables.proofs.Written.{table_header_widths}
use Rattle.cc_tables.proofs.table_stream.write_header.Goals as goal

pub write_fields-requires : goal.write_fields-requires
write_fields-requires g c = rw (c.deref.ensures.value, c.in_ok-fields.ensures) (table_header_widths (sizes_by (g.C.RowCounts.rows c.args.source.now) c.args.sizes))
