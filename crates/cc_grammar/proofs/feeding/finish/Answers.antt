use Rattle.cc_pushdown.specs.Machine.{here}
use Rattle.cc_grammar.proofs.Going.{end_done, end_refused, end_back_refused, end_back, end_falls}
use Rattle.cc_grammar.proofs.Measured.{end_typed, end_back_typed, end_back_carries}
use Rattle.cc_grammar.proofs.feeding.finish.Goals as goal

pub endings-init : goal.endings-init
endings-init c = (here, c.requires.measured)

pub settle_end-requires-clause-typed : goal.settle_end-requires-clause-typed
settle_end-requires-clause-typed c = end_typed _ _ _ _ c.requires.typed c.endings.invariant.0

pub returns-in-Done-clause-finishes : goal.returns-in-Done-clause-finishes
returns-in-Done-clause-finishes c = end_done _ _ _ _ _ _ _ c.in-Done.is c.in_ok-settle_end.ensures.ends c.endings.invariant.0

pub returns-in-Refused-clause-finishes : goal.returns-in-Refused-clause-finishes
returns-in-Refused-clause-finishes c = end_refused _ _ _ _ _ _ _ c.in-Refused.is c.in_ok-settle_end.ensures.ends c.endings.invariant.0

pub feed-requires-clause-typed : goal.feed-requires-clause-typed
feed-requires-clause-typed c = end_back_typed _ _ _ _ _ _ _ _ c.in-Back.is c.in_ok-settle_end.ensures.ends c.requires.typed c.endings.invariant.0

pub feed-requires-clause-carried : goal.feed-requires-clause-carried
feed-requires-clause-carried c = end_back_carries _ _ c.in-Back.is c.in_ok-settle_end.ensures.carries

pub returns-then-not-branch-clause-finishes : goal.returns-then-not-branch-clause-finishes
returns-then-not-branch-clause-finishes c =
    end_back_refused _ _ _ _ _ _ _ _ _ _ _ c.in-Back.is c.in_ok-settle_end.ensures.ends c.if-not-branch.true c.in_ok-feed-in-Back.ensures.feeds c.endings.invariant.0

pub endings-smaller : goal.endings-smaller
endings-smaller c = end_falls _ _ _ _ _ _ _ _ _ c.in-Back.is c.in_ok-settle_end.ensures.ends c.if-not-branch.false c.in_ok-feed-in-Back.ensures.feeds

pub endings-preserved : goal.endings-preserved
endings-preserved c =
    (end_back _ _ _ _ _ _ _ _ _ _ _ c.in-Back.is c.in_ok-settle_end.ensures.ends c.if-not-branch.false c.in_ok-feed-in-Back.ensures.feeds c.endings.invariant.0, c.in_ok-feed-in-Back.ensures.measures)
