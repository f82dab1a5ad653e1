use Rattle.cppcli.proofs.CompleteLemmas.{does_all}
use Rattle.cppcli.proofs.RowLemmas.{answer_table}
use Rattle.cppcli.proofs.top.cppcli.Goals as goal

pub returns-clause-table : goal.returns-clause-table
returns-clause-table g c = answer_table _ _ _ _ c.answer.ensures.answer

pub returns-clause-complete : goal.returns-clause-complete
returns-clause-complete g c = does_all _ _ _ _ c.answer.ensures.answer
