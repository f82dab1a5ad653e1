use Rattle.cc_region.proofs.Whole.{larger_bound_continues}
use Rattle.cc_region.proofs.laws.larger_bound_continues.Goals as goal

pub returns : goal.returns
returns c = larger_bound_continues
