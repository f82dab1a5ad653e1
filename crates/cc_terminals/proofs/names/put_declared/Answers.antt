use Rattle.cc_terminals.proofs.Collected.{put_token}
use Rattle.cc_terminals.proofs.names.put_declared.Goals as goal

pub tokens-preserved : goal.tokens-preserved
tokens-preserved c = λ word. put_token c.tokens.rest.now c.in-Some.token.now c.in-Some.more.now c.in-Some.ensures.cases.0 _ c.introduced.ensures word _ _ _ (c.in_ok-put.ensures word) (c.tokens.invariant word)
