use Rattle.cc_lexer.proofs.OneReading.{only}
use Rattle.cc_lexer.proofs.tokens.lex.Goals as goal

pub returns-clause-only : goal.returns-clause-only
returns-clause-only c = λ reading spelled. only c.args.text.now c.tokens_of.result reading c.tokens_of.ensures.spelled spelled
