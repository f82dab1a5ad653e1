use Rattle.std.proofs.Common.{arith}
use Rattle.cc_grammar_laws.specs.Heights.{heights}
use Rattle.cc_grammar.proofs.Walked.{depth_on, depth_ended}
use Rattle.cc_grammar.proofs.depth.least_depth.Goals as goal

pub loop-left-preserved : goal.loop-left-preserved
loop-left-preserved c =
    (omega (arith, c.loop-left.invariant.0), depth_on c.args.items.now c.loop-left.left _ (heights c.loop-left.waiting c.loop-left.heights) _ _ c.loop-left-test.true c.loop-left.invariant.0 c.in_ok-waiting.ensures c.loop-left.invariant.1)

pub returns : goal.returns
returns c = depth_ended c.args.items.now c.loop-left.left (heights c.loop-left.waiting c.loop-left.heights) _ _ _ c.loop-left-test.false c.loop-left.invariant.1 c.take_tallest.ensures.tallest c.capped.ensures
