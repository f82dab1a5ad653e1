use Rattle.cc_cil.proofs.Unique.{spelling_one}
use Rattle.cc_listing.proofs.Unique.{one_listing}
use Rattle.cc_listing.proofs.laws.one_listing.Goals as goal

pub returns : goal.returns
returns c = one_listing spelling_one
