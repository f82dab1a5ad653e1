use Rattle.std.proofs.Common.{rules, refl, map}
use Rattle.cc_template.specs.Nodes.{joined, member_nodes}
use Rattle.cc_template.proofs.Laws.{run_more, run_refused}
use Rattle.cc_template.proofs.room.Room.members.Goals as goal

pub returns-in_err-room : goal.returns-in_err-room
returns-in_err-room c = λ number e.
    let refused = run_refused (λ xs. joined (map (member_nodes number) xs)) (member_nodes number) (λ x xs. refl) c.args.members.now c.members.member-index c.member-item.result c.members.room _ c.members-test.true c.member-item.is _ (c.member.ensures number e) c.in_err-room.was _ (c.members.invariant number e) in
    search (rules, refused)

pub members-preserved : goal.members-preserved
members-preserved c = λ number e.
    run_more (λ xs. joined (map (member_nodes number) xs)) (member_nodes number) (λ x xs. refl) c.args.members.now c.members.member-index c.member-item.result c.members.room _ c.members-test.true c.member-item.is _ (c.member.ensures number e) c.in_ok-room.was _ (c.members.invariant number e)
