use Rattle.cc_typing_laws.proofs.Choices as choices
use Rattle.cc_typing_laws.proofs.laws.some_choice.Goals as goal

pub returns-clause-some : goal.returns-clause-some
returns-clause-some c = choices.some_choice

pub returns-clause-answer : goal.returns-clause-answer
returns-clause-answer c = choices.one_answer
