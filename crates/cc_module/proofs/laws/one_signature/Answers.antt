use Rattle.cc_module.proofs.Heads.{one_signature}
use Rattle.cc_module.proofs.laws.one_signature.Goals as goal

pub returns : goal.returns
returns c = one_signature
