use Rattle.cc_tables.proofs.Written.{table_header_widths}
use Rattle.cc_tables.proofs.counts.read_table_header.Goals as goal

pub first_fault-requires-clause-widths : goal.first_fault-requires-clause-widths
first_fault-requires-clause-widths c = rw (c.deref.ensures.value, c.in_ok-fields.ensures) (table_header_widths _)
