use Rattle.cc_cil.proofs.Unique.{spelling_one}
use Rattle.cc_cil.proofs.laws.one_spelling.Goals as goal

pub returns : goal.returns
returns c = spelling_one
