use Rattle.std.proofs.Common.{rules, refl, map}
use Rattle.cc_template.specs.Nodes.{joined, enumerator_nodes}
use Rattle.cc_template.proofs.Laws.{run_more, run_refused}
use Rattle.cc_template.proofs.room.Room.enumerators.Goals as goal

pub returns-in_err-room : goal.returns-in_err-room
returns-in_err-room c =
    let refused = run_refused (λ xs. joined (map enumerator_nodes xs)) enumerator_nodes (λ x xs. refl) c.args.enumerators.now c.enumerators.enumerator-index c.enumerator-item.result c.enumerators.room _ c.enumerators-test.true c.enumerator-item.is _ c.enumerator.ensures c.in_err-room.was _ c.enumerators.invariant in
    search (rules, refused)

pub enumerators-preserved : goal.enumerators-preserved
enumerators-preserved c =
    run_more (λ xs. joined (map enumerator_nodes xs)) enumerator_nodes (λ x xs. refl) c.args.enumerators.now c.enumerators.enumerator-index c.enumerator-item.result c.enumerators.room _ c.enumerators-test.true c.enumerator-item.is _ c.enumerator.ensures c.in_ok-room.was _ c.enumerators.invariant
