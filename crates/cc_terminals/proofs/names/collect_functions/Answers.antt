use Rattle.cc_terminals.specs.Words.{words_of}
use Rattle.cc_terminals.proofs.Collected.{put_ended}
use Rattle.cc_terminals.proofs.names.collect_functions.Goals as goal

pub tokens-preserved : goal.tokens-preserved
tokens-preserved c = λ word. put_ended c.tokens.awaited (words_of c.tokens.before) c.tokens.rest.now c.in-Some.token.now c.in-Some.more.now c.in-Some.ensures.cases.0
    _ c.ended.ensures _ c.awaited_after-awaited.ensures _ c.word-before.ensures word _ _ _ (c.in_ok-put.ensures word) (c.tokens.invariant word)
