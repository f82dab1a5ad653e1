use Rattle.std.proofs.Common.{◌≡◌, ◌∙◌, ◌-◌, IfOk, subst, sym, arith}
use Rattle.cc_grammar_laws.specs.Heights.{heights, joined}
use Rattle.cc_grammar.specs.Depths.{capped, from_top}
use Rattle.cc_grammar.proofs.Walked.{joined_acts, joined_passes, joined_stops, joined_ended}
use Rattle.cc_grammar.proofs.coming.joined.Goals as goal
use Rattle.cc_grammar.proofs.coming.joined.Goals.{in-Act+in_ok-raise-in-Act, in-Pass}

pub returns-in-End : goal.returns-in-End
returns-in-End c =
    subst (λ n. IfOk c.least_depth.result (λ least. least ≡ n))
    (joined_stops c.args.tightness c.args.items.now c.loop-left.left _ (heights c.args.waiting c.loop-left.heights) _ c.loop-left-test.true c.loop-left.invariant.0 c.in-End.ensures c.loop-left.invariant.1)
    c.least_depth.ensures

pub loop-left-preserved : goal.loop-left-preserved
loop-left-preserved c = (
  omega (arith, c.loop-left.invariant.0),
  elim c.match-meeting_at.branch [
    | in-Act+in_ok-raise-in-Act w ↦ joined_acts c.args.tightness c.args.items.now c.loop-left.left _ c.args.waiting c.loop-left.heights _ w.in-Act.action _ c.loop-left-test.true c.loop-left.invariant.0 w.in-Act.ensures (w.heights-is ∙ w.in_ok-raise-in-Act.ensures) c.loop-left.invariant.1
    | in-Pass w ↦
        subst (λ hs. capped (joined c.args.tightness (from_top (c.loop-left.left - 1) c.args.items.now) (heights c.args.waiting hs)) ≡ capped (joined c.args.tightness (from_top c.args.count c.args.items.now) (heights c.args.waiting c.args.heights.now))) (sym w.heights-is)
        (joined_passes c.args.tightness c.args.items.now c.loop-left.left _ (heights c.args.waiting c.loop-left.heights) _ c.loop-left-test.true c.loop-left.invariant.0 w.in-Pass.ensures c.loop-left.invariant.1)
  ],
)

pub returns : goal.returns
returns c = joined_ended c.args.tightness c.args.items.now c.loop-left.left (heights c.args.waiting c.loop-left.heights) _ _ _ c.loop-left-test.false c.loop-left.invariant.1 c.take_tallest.ensures.tallest c.capped.ensures
