use Rattle.cc_grammar_laws.proofs.Able.{front_before}
use Rattle.cc_grammar_laws.proofs.laws.fronts_are_completed.Goals as goal

-- src/laws.rt:51:1
pub returns-clause-before : goal.returns-clause-before
returns-clause-before c = front_before
