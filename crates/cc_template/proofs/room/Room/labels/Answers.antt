use Rattle.std.proofs.Common.{rules, refl, map}
use Rattle.cc_template.specs.Nodes.{joined, label_nodes}
use Rattle.cc_template.proofs.Laws.{run_more, run_refused}
use Rattle.cc_template.proofs.room.Room.labels.Goals as goal

pub returns-in_err-room : goal.returns-in_err-room
returns-in_err-room c =
    let refused = run_refused (λ xs. joined (map label_nodes xs)) label_nodes (λ x xs. refl) c.args.labels.now c.labels.label-index c.label-item.result c.labels.room _ c.labels-test.true c.label-item.is _ c.label.ensures c.in_err-room.was _ c.labels.invariant in
    search (rules, refused)

pub labels-preserved : goal.labels-preserved
labels-preserved c =
    run_more (λ xs. joined (map label_nodes xs)) label_nodes (λ x xs. refl) c.args.labels.now c.labels.label-index c.label-item.result c.labels.room _ c.labels-test.true c.label-item.is _ c.label.ensures c.in_ok-room.was _ c.labels.invariant
