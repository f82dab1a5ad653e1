use Rattle.std.proofs.Common.{arith, subst}
use Rattle.cc_pushdown.specs.Machine.{here}
use Rattle.cc_grammar.specs.Depths.{Carry}
use Rattle.cc_grammar.proofs.Going.{feeding_on, feeding_falls, fed_refused, fed_done}
use Rattle.cc_grammar.proofs.Measured.{next_typed, first_carries}
use Rattle.cc_grammar.proofs.feeding.feed.Goals as goal

pub loop-one-init : goal.loop-one-init
loop-one-init c = ((λ ts. here, omega arith), c.requires.measured, first_carries c.args.first _ _ c.in_ok-push.ensures c.new-pending.ensures c.requires.carried)

pub settle-requires-clause-typed : goal.settle-requires-clause-typed
settle-requires-clause-typed c = next_typed _ _ c.args.first _ _ _ _ _ _ _ c.in-Some.ensures c.in_ok-push.ensures c.new-pending.ensures c.requires.typed c.loop-one.invariant.0

pub settle-requires-clause-carried : goal.settle-requires-clause-carried
settle-requires-clause-carried c = subst Carry c.in-Some.ensures c.loop-one.invariant.2

pub returns-then-not-branch-clause-feeds : goal.returns-then-not-branch-clause-feeds
returns-then-not-branch-clause-feeds c =
    fed_refused _ _ c.args.first _ _ _ _ _ _ _ _ _ _ _ c.if-not-branch.true c.in-Some.ensures c.in_ok-push.ensures c.new-pending.ensures c.in_ok-settle.ensures.settles c.loop-one.invariant.0

pub loop-one-smaller : goal.loop-one-smaller
loop-one-smaller c = feeding_falls _ _ _ _ _ _ _ _ _ c.if-not-branch.false c.in-Some.ensures c.in_ok-settle.ensures.settles

pub loop-one-preserved : goal.loop-one-preserved
loop-one-preserved c =
    (feeding_on _ _ _ _ _ _ _ _ _ _ _ _ c.if-not-branch.false c.in-Some.ensures c.in_ok-settle.ensures.settles c.loop-one.invariant.0, c.in_ok-settle.ensures.measures, c.in_ok-settle.ensures.carries)

pub returns-clause-feeds : goal.returns-clause-feeds
returns-clause-feeds c = fed_done _ _ c.args.first _ _ _ _ _ c.in_default.ensures.0 c.in_ok-push.ensures c.new-pending.ensures c.loop-one.invariant.0
