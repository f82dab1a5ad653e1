use Rattle.cc_machine_next.specs.Cells.{value_of}
use Rattle.cc_machine_next.proofs.Operations.{drops_top, drops, room_gone, room_popped}
use Rattle.cc_machine_next.proofs.state.RunState.drop_top.Goals as goal

pub pop-requires : goal.pop-requires
pop-requires c =
    let s = c.args.self.now in let x = c.args.code.now in let f = s.frames in let heap = s.heap.items in let output = s.output.items in
    drops_top x c.args.limit heap s.room output f c.args.next c.requires.fine

pub returns : goal.returns
returns c =
    let s = c.args.self.now in let x = c.args.code.now in let f = s.frames in let heap = s.heap.items in let output = s.output.items in
    let f1 = c.pop.new.self in (
      drops x c.args.limit heap s.room output f f1 (value_of c.pop.result) c.pop.ensures c.go_to.new.self c.args.next c.go_to.ensures,
      room_gone x f1 c.go_to.new.self c.args.next c.go_to.ensures (room_popped x f f1 (value_of c.pop.result) c.pop.ensures c.requires.room),
    )
