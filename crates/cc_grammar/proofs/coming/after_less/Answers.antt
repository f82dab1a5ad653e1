use Rattle.cc_grammar.specs.Depths.{from_top}
use Rattle.cc_grammar.proofs.Walked.{less_so}
use Rattle.cc_grammar.proofs.coming.after_less.Goals as goal

pub returns : goal.returns
returns c =
    less_so (from_top c.args.count c.args.items.now) c.args.waiting c.args.bare _ c.args.heights.now _ _ _ _ _ _ _ _ _ c.in_ok-others.ensures c.max.ensures c.raised.ensures c.max-typed.ensures c.in_ok-push.ensures c.in_ok-push-2.ensures
    c.level-tightness.ensures.exact c.in_ok-with_types.ensures c.in_ok-without.ensures c.min.ensures
