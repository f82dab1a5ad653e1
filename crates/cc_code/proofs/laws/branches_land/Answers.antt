use Rattle.cc_code.proofs.RegionLanding.{function_lands}
use Rattle.cc_code.proofs.laws.branches_land.Goals as goal

pub returns : goal.returns
returns c = function_lands
