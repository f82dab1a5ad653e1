use Rattle.cc_tables.proofs.Fields.{header_widths}
use Rattle.cc_tables.proofs.headers.read_headers.Goals as goal

pub first_fault-requires-clause-widths : goal.first_fault-requires-clause-widths
first_fault-requires-clause-widths c = rw (c.deref.ensures.value, c.in_ok-fields.ensures) (header_widths c.lengths_in-lengths.result)
