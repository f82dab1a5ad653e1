use Rattle.std.proofs.Common.{◌≡◌, IfOk, subst}
use Rattle.cc_grammar.specs.Depths.{from_top}
use Rattle.cc_grammar.proofs.Walked.{operator_so}
use Rattle.cc_grammar.proofs.coming.operator_taken.Goals as goal

pub returns : goal.returns
returns c =
    subst (λ n. IfOk c.least_depth.result (λ least. least ≡ n))
    (operator_so (from_top c.args.count c.args.items.now) c.args.waiting c.args.heights.now _ _ _ _ _ _ c.take_tallest-first.ensures.tallest c.take_tallest-first.ensures.rest c.raised-second.ensures c.max.ensures c.raised.ensures c.in_ok-push.ensures)
    c.least_depth.ensures
