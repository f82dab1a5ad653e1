use Rattle.cc_tables.proofs.Complete.{headers_stand}
use Rattle.cc_tables.proofs.laws.headers_stand.Goals as goal

pub returns : goal.returns
returns c = headers_stand
