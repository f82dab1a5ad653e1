use Rattle.cc_grammar.proofs.Meeting.{chosen_meets}
use Rattle.cc_grammar.proofs.choice.meet.Goals as goal

pub returns-in-Some-clause-meets : goal.returns-in-Some-clause-meets
returns-in-Some-clause-meets c = chosen_meets _ _ _ _ c.in-Some.choice _ c.in_ok-input.ensures.sees c.in-Some.ensures c.met_by.ensures
