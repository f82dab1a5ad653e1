use Rattle.std.proofs.Common.{arith}
use Rattle.cc_grammar_laws.specs.Heights.{heights}
use Rattle.cc_grammar.proofs.Walked.{come_on}
use Rattle.cc_grammar.proofs.coming.least_to_come.Goals as goal

pub loop-left-preserved : goal.loop-left-preserved
loop-left-preserved c =
    (omega (arith, c.loop-left.invariant.0), come_on c.from_bottom-items.result.now c.loop-left.left _ (heights c.loop-left.waiting c.loop-left.stack) _ _ c.loop-left-test.true c.loop-left.invariant.0 c.in-None.ensures c.in_ok-waiting-in-None.ensures c.loop-left.invariant.1)
