use Rattle.cc_code.proofs.RegionSums.{function_is}
use Rattle.cc_code.proofs.laws.sizes_are_sums.Goals as goal

pub returns : goal.returns
returns c = function_is
