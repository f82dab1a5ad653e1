use Rattle.cc_tables.proofs.Entries.{no_blob_bad, no_blob_empty, no_blob_short, blob_there}
use Rattle.cc_tables.proofs.entry.split_blob.Goals as goal

pub returns-in_default-clause-none : goal.returns-in_default-clause-none
returns-in_default-clause-none c = no_blob_bad c.args.bytes.now c.in_default.field-0 c.in_default.ensures.err
