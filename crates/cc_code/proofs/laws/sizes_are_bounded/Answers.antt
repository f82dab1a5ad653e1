use Rattle.cc_code.proofs.Bounds.{function_le}
use Rattle.cc_code.proofs.laws.sizes_are_bounded.Goals as goal

pub returns : goal.returns
returns c = function_le
