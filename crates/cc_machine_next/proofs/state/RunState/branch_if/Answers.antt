use Rattle.cc_machine_next.specs.Cells.{value_of}
use Rattle.cc_machine_next.proofs.Operations.{branches_top, branches, room_gone, room_popped}
use Rattle.cc_machine_next.proofs.state.RunState.branch_if.Goals as goal

pub pop-cell-requires : goal.pop-cell-requires
pop-cell-requires c =
    let s = c.args.self.now in let x = c.args.code.now in let f = s.frames in let heap = s.heap.items in let output = s.output.items in
    branches_top x c.args.limit heap s.room output f c.args.truth c.args.target c.args.next c.requires.fine

pub returns : goal.returns
returns c =
    let s = c.args.self.now in let x = c.args.code.now in let f = s.frames in let heap = s.heap.items in let output = s.output.items in
    let f1 = c.pop-cell.new.self in let at = c.place_after-at.result in (
      branches x c.args.limit heap s.room output f f1 (value_of c.pop-cell.result) c.pop-cell.ensures c.go_to.new.self c.args.truth c.is_truth.result c.args.target c.args.next at c.is_truth.ensures c.place_after-at.ensures c.go_to.ensures,
      room_gone x f1 c.go_to.new.self at c.go_to.ensures (room_popped x f f1 (value_of c.pop-cell.result) c.pop-cell.ensures c.requires.room),
    )
