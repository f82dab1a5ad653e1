use Rattle.std.proofs.Common.{rules, ◌≡◌, refl, ◌∙◌, Ok, Err}
use Rattle.cc_template.specs.Nodes.{unit_nodes}
use Rattle.cc_template.specs.Counting.{run}
use Rattle.cc_template.proofs.Judged.{whole, run_unit, counted_ok, counted_err}
use Rattle.cc_template.proofs.count.total.Goals as goal

pub returns-in_err-room-clause-exact : goal.returns-in_err-room-clause-exact
returns-in_err-room-clause-exact c =
    let ran : run (unit_nodes c.args.unit.now) whole ≡ Err c.in_err-room.field-0.0 =
    run_unit c.args.unit.now c.as_slice.result.now c.of_unit.result c.in_ok-node.field-0 c.node.result c.outers.result c.as_slice.ensures c.of_unit.ensures c.node.ensures c.in_ok-node.was (c.outers.ensures 0 refl) ∙ c.in_err-room.was in
    let refused = counted_err c.args.unit.now c.in_err-room.field-0.0 ran in
    search (rules, refused)

pub counted-requires : goal.counted-requires
counted-requires c =
    let ran : run (unit_nodes c.args.unit.now) whole ≡ Ok c.in_ok-room.room =
    run_unit c.args.unit.now c.as_slice.result.now c.of_unit.result c.in_ok-node.field-0 c.node.result c.outers.result c.as_slice.ensures c.of_unit.ensures c.node.ensures c.in_ok-node.was (c.outers.ensures 0 refl) ∙ c.in_ok-room.was in
    (counted_ok c.args.unit.now c.in_ok-room.room ran).0

pub returns-clause-exact : goal.returns-clause-exact
returns-clause-exact c =
    let ran : run (unit_nodes c.args.unit.now) whole ≡ Ok c.in_ok-room.room =
    run_unit c.args.unit.now c.as_slice.result.now c.of_unit.result c.in_ok-node.field-0 c.node.result c.outers.result c.as_slice.ensures c.of_unit.ensures c.node.ensures c.in_ok-node.was (c.outers.ensures 0 refl) ∙ c.in_ok-room.was in
    let counted = (counted_ok c.args.unit.now c.in_ok-room.room ran).1 in
    search (rules, counted)
