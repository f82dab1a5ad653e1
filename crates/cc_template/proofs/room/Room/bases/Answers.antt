use Rattle.std.proofs.Common.{rules, refl, map}
use Rattle.cc_template.specs.Nodes.{joined, base_nodes}
use Rattle.cc_template.proofs.Laws.{run_more, run_refused}
use Rattle.cc_template.proofs.room.Room.bases.Goals as goal

pub returns-in_err-room : goal.returns-in_err-room
returns-in_err-room c =
    let refused = run_refused (λ xs. joined (map base_nodes xs)) base_nodes (λ x xs. refl) c.args.bases.now c.bases.base-index c.base-item.result c.bases.room _ c.bases-test.true c.base-item.is _ c.base.ensures c.in_err-room.was _ c.bases.invariant in
    search (rules, refused)

pub bases-preserved : goal.bases-preserved
bases-preserved c =
    run_more (λ xs. joined (map base_nodes xs)) base_nodes (λ x xs. refl) c.args.bases.now c.bases.base-index c.base-item.result c.bases.room _ c.bases-test.true c.base-item.is _ c.base.ensures c.in_ok-room.was _ c.bases.invariant
