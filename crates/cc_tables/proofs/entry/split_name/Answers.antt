use Rattle.cc_tables.proofs.Entries.{no_name_bad}
use Rattle.cc_tables.proofs.entry.split_name.Goals as goal

pub returns-then-not-is_utf8-clause-none : goal.returns-then-not-is_utf8-clause-none
returns-then-not-is_utf8-clause-none c =
    no_name_bad c.args.bytes.now c.name_length-length.result c.name_length-length.ensures.within c.name_length-length.ensures.filled c.name_length-length.ensures.end c.split_at.result.0.now c.split_at.ensures.front
    (c.is_utf8.ensures.no c.if-not-is_utf8.true)
