use Rattle.std.proofs.Common.{rules, refl, map}
use Rattle.cc_template.specs.Nodes.{joined, each_behind, outer_nodes}
use Rattle.cc_template.proofs.Laws.{run_more, run_refused}
use Rattle.cc_template.proofs.room.Room.+outer.Goals as goal

pub outers-returns-in_err-room : goal.outers-returns-in_err-room
outers-returns-in_err-room t c = λ number e.
    let refused = run_refused (λ xs. joined (each_behind number (map outer_nodes xs))) (λ x. outer_nodes x number) (λ x xs. refl) c.args.outers.now c.outers.outer-index c.outer-item.result c.outers.room _ c.outers-test.true c.outer-item.is _ (c.outer.ensures number e) c.in_err-room.was _ (c.outers.invariant number e) in
    search (rules, refused)

pub outers-outers-preserved : goal.outers-outers-preserved
outers-outers-preserved t c = λ number e.
    run_more (λ xs. joined (each_behind number (map outer_nodes xs))) (λ x. outer_nodes x number) (λ x xs. refl) c.args.outers.now c.outers.outer-index c.outer-item.result c.outers.room _ c.outers-test.true c.outer-item.is _ (c.outer.ensures number e) c.in_ok-room.was _ (c.outers.invariant number e)
