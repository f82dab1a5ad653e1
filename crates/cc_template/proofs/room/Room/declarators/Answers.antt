use Rattle.std.proofs.Common.{rules, refl, map}
use Rattle.cc_template.specs.Nodes.{joined, declarator_nodes}
use Rattle.cc_template.proofs.Laws.{run_more, run_refused}
use Rattle.cc_template.proofs.room.Room.declarators.Goals as goal

pub returns-in_err-room : goal.returns-in_err-room
returns-in_err-room c =
    let refused = run_refused (λ xs. joined (map declarator_nodes xs)) declarator_nodes (λ x xs. refl) c.args.declarators.now c.declarators.declarator-index c.declarator-item.result c.declarators.room _ c.declarators-test.true c.declarator-item.is _ c.declarator.ensures c.in_err-room.was _ c.declarators.invariant in
    search (rules, refused)

pub declarators-preserved : goal.declarators-preserved
declarators-preserved c =
    run_more (λ xs. joined (map declarator_nodes xs)) declarator_nodes (λ x xs. refl) c.args.declarators.now c.declarators.declarator-index c.declarator-item.result c.declarators.room _ c.declarators-test.true c.declarator-item.is _ c.declarator.ensures c.in_ok-room.was _ c.declarators.invariant
