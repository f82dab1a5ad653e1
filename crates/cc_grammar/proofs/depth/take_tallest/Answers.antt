use Rattle.std.proofs.Common.{◌∙◌, arith}
use Rattle.cc_grammar.proofs.Capped.{taken_tallest, taken_rest}
use Rattle.cc_grammar.proofs.depth.take_tallest.Goals as goal

pub loop-left-preserved-in-Some : goal.loop-left-preserved-in-Some
loop-left-preserved-in-Some c =
    let e = taken_tallest c.loop-left.left c.in-Some.height _ _ c.loop-left-test.true c.in-Some.ensures in
    (omega (arith, e, c.loop-left.invariant.0), taken_rest c.loop-left.left c.in-Some.height _ _ c.loop-left-test.true c.in-Some.ensures ∙ c.loop-left.invariant.1)
