use Rattle.std.proofs.Common.{rules, refl, map}
use Rattle.cc_template.specs.Nodes.{joined, expression_nodes}
use Rattle.cc_template.proofs.Laws.{run_more, run_refused}
use Rattle.cc_template.proofs.room.Room.+expression.Goals as goal

pub expressions-returns-in_err-room : goal.expressions-returns-in_err-room
expressions-returns-in_err-room t c =
    let refused = run_refused (λ xs. joined (map expression_nodes xs)) expression_nodes (λ x xs. refl) c.args.expressions.now c.expressions.expression-index c.expression-item.result c.expressions.room _ c.expressions-test.true c.expression-item.is _ c.expression.ensures c.in_err-room.was _ c.expressions.invariant in
    search (rules, refused)

pub expressions-expressions-preserved : goal.expressions-expressions-preserved
expressions-expressions-preserved t c =
    run_more (λ xs. joined (map expression_nodes xs)) expression_nodes (λ x xs. refl) c.args.expressions.now c.expressions.expression-index c.expression-item.result c.expressions.room _ c.expressions-test.true c.expression-item.is _ c.expression.ensures c.in_ok-room.was _ c.expressions.invariant
