use Rattle.cc_tables.proofs.WrittenTables.{written_is}
use Rattle.cc_tables.proofs.laws.written_tables.Goals as goal

pub returns : goal.returns
returns c = written_is
