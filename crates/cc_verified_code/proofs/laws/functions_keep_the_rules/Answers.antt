use Rattle.cc_verified_code.proofs.Functions.{functions_keep}
use Rattle.cc_verified_code.proofs.laws.functions_keep_the_rules.Goals as goal

pub returns : goal.returns
returns c = functions_keep
