use Rattle.std.proofs.Common.{rules, refl, map}
use Rattle.cc_template.specs.Nodes.{joined, accessor_nodes}
use Rattle.cc_template.proofs.Laws.{run_more, run_refused}
use Rattle.cc_template.proofs.room.Room.accessors.Goals as goal

pub returns-in_err-room : goal.returns-in_err-room
returns-in_err-room c =
    let refused = run_refused (λ xs. joined (map accessor_nodes xs)) accessor_nodes (λ x xs. refl) c.args.accessors.now c.accessors.accessor-index c.accessor-item.result c.accessors.room _ c.accessors-test.true c.accessor-item.is _ c.accessor.ensures c.in_err-room.was _ c.accessors.invariant in
    search (rules, refused)

pub accessors-preserved : goal.accessors-preserved
accessors-preserved c =
    run_more (λ xs. joined (map accessor_nodes xs)) accessor_nodes (λ x xs. refl) c.args.accessors.now c.accessors.accessor-index c.accessor-item.result c.accessors.room _ c.accessors-test.true c.accessor-item.is _ c.accessor.ensures c.in_ok-room.was _ c.accessors.invariant
