use Rattle.cc_verify.proofs.Once.{one_fault_each}
use Rattle.cc_verify.proofs.laws.one_fault.Goals as goal

pub returns : goal.returns
returns c = one_fault_each c.one_spelling.ensures c.one_signature.ensures
