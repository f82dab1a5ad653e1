use Rattle.std.proofs.Common.{rules, refl, map}
use Rattle.cc_template.specs.Nodes.{joined, member_initializer_nodes}
use Rattle.cc_template.proofs.Laws.{run_more, run_refused}
use Rattle.cc_template.proofs.room.Room.member_initializers.Goals as goal

pub returns-in_err-room : goal.returns-in_err-room
returns-in_err-room c =
    let refused = run_refused (λ xs. joined (map member_initializer_nodes xs)) member_initializer_nodes (λ x xs. refl) c.args.initializers.now c.initializers.initializer-index c.initializer-item.result c.initializers.room _ c.initializers-test.true c.initializer-item.is _ c.member_initializer.ensures c.in_err-room.was _ c.initializers.invariant in
    search (rules, refused)

pub initializers-preserved : goal.initializers-preserved
initializers-preserved c =
    run_more (λ xs. joined (map member_initializer_nodes xs)) member_initializer_nodes (λ x xs. refl) c.args.initializers.now c.initializers.initializer-index c.initializer-item.result c.initializers.room _ c.initializers-test.true c.initializer-item.is _ c.member_initializer.ensures c.in_ok-room.was _ c.initializers.invariant
