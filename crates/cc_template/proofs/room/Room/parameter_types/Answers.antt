use Rattle.std.proofs.Common.{rules, refl, map}
use Rattle.cc_template.specs.Nodes.{joined, parameter_nodes}
use Rattle.cc_template.proofs.Laws.{run_more, run_refused}
use Rattle.cc_template.proofs.room.Room.parameter_types.Goals as goal

pub returns-in_err-room : goal.returns-in_err-room
returns-in_err-room c =
    let refused = run_refused (λ xs. joined (map parameter_nodes xs)) parameter_nodes (λ x xs. refl) c.args.parameters.now c.parameters.parameter-index c.parameter-item.result c.parameters.room _ c.parameters-test.true c.parameter-item.is _ c.type_name.ensures c.in_err-room.was _ c.parameters.invariant in
    search (rules, refused)

pub parameters-preserved : goal.parameters-preserved
parameters-preserved c =
    run_more (λ xs. joined (map parameter_nodes xs)) parameter_nodes (λ x xs. refl) c.args.parameters.now c.parameters.parameter-index c.parameter-item.result c.parameters.room _ c.parameters-test.true c.parameter-item.is _ c.type_name.ensures c.in_ok-room.was _ c.parameters.invariant
