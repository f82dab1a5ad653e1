use Rattle.cc_lexer.proofs.ClosedBody.{closed}
use Rattle.cc_lexer.proofs.laws.closing_quote.Goals as goal

pub returns-clause-closed : goal.returns-clause-closed
returns-clause-closed c = closed
