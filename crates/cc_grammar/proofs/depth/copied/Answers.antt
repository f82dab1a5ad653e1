use Rattle.std.proofs.Common.{arith}
use Rattle.cc_grammar.proofs.Walked.{copied_on, copied_all}
use Rattle.cc_grammar.proofs.depth.copied.Goals as goal

pub loop-i-preserved : goal.loop-i-preserved
loop-i-preserved c = (omega (arith, c.loop-i-test.true), copied_on _ c.loop-i.i 0 _ _ c.loop-i-test.true c.loop-i.invariant.1 c.in_ok-push.ensures)

pub returns : goal.returns
returns c = copied_all _ _ _ c.loop-i.i c.loop-i-test.false c.loop-i.invariant.1 c.from_bottom-items.ensures
