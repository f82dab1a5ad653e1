use Rattle.std.proofs.Common.{rules, refl, map}
use Rattle.cc_template.specs.Nodes.{joined, named_function_nodes}
use Rattle.cc_template.proofs.Laws.{run_more, run_refused}
use Rattle.cc_template.proofs.room.Room.named_functions.Goals as goal

pub returns-in_err-room : goal.returns-in_err-room
returns-in_err-room c =
    let refused = run_refused (λ xs. joined (map named_function_nodes xs)) named_function_nodes (λ x xs. refl) c.args.functions.now c.functions.named-index c.named-item.result c.functions.room _ c.functions-test.true c.named-item.is _ c.named_function.ensures c.in_err-room.was _ c.functions.invariant in
    search (rules, refused)

pub functions-preserved : goal.functions-preserved
functions-preserved c =
    run_more (λ xs. joined (map named_function_nodes xs)) named_function_nodes (λ x xs. refl) c.args.functions.now c.functions.named-index c.named-item.result c.functions.room _ c.functions-test.true c.named-item.is _ c.named_function.ensures c.in_ok-room.was _ c.functions.invariant
