use Rattle.cc_machine.proofs.OneAnswer.{one_answer}
use Rattle.cc_machine.proofs.laws.one_answer.Goals as goal

pub returns : goal.returns
returns c code most at height a b first second = one_answer first second
