use Rattle.std.proofs.Common.{rules, refl, map}
use Rattle.cc_template.specs.Nodes.{joined, type_nodes}
use Rattle.cc_template.proofs.Laws.{run_more, run_refused}
use Rattle.cc_template.proofs.room.Room.+types.Goals as goal

pub type_names-returns-in_err-room : goal.type_names-returns-in_err-room
type_names-returns-in_err-room t c =
    let refused = run_refused (λ xs. joined (map type_nodes xs)) type_nodes (λ x xs. refl) c.args.types.now c.types.of-index c.of-item.result c.types.room _ c.types-test.true c.of-item.is _ c.type_name.ensures c.in_err-room.was _ c.types.invariant in
    search (rules, refused)

pub type_names-types-preserved : goal.type_names-types-preserved
type_names-types-preserved t c =
    run_more (λ xs. joined (map type_nodes xs)) type_nodes (λ x xs. refl) c.args.types.now c.types.of-index c.of-item.result c.types.room _ c.types-test.true c.of-item.is _ c.type_name.ensures c.in_ok-room.was _ c.types.invariant
