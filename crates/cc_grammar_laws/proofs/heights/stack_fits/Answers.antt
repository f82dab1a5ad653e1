use Rattle.cc_grammar_laws.proofs.HeightLaws.{action_is_ready}
use Rattle.cc_grammar_laws.proofs.heights.stack_fits.Goals as goal

-- src/heights.rt:5:1
pub returns-clause-ready : goal.returns-clause-ready
returns-clause-ready c = action_is_ready
