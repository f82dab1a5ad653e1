use Rattle.std.proofs.Common.{sym}
use Rattle.cc_machine_next.specs.Cells.{value_of}
use Rattle.cc_machine_next.proofs.Operations.{stores_top, stores_some, stores_fine, stores, never, room_gone, room_popped, room_variable}
use Rattle.cc_execution.specs.Fundamental.{stored}
use Rattle.cc_machine_next.proofs.state.RunState.store_variable.Goals as goal

pub pop-cell-requires : goal.pop-cell-requires
pop-cell-requires c =
    let s = c.args.self.now in let x = c.args.code.now in let f = s.frames in let heap = s.heap.items in let output = s.output.items in
    stores_top x c.args.limit heap s.room output f c.args.place c.args.next c.args.of c.requires.fine

pub unreachable-requires : goal.unreachable-requires
unreachable-requires c =
    let s = c.args.self.now in let x = c.args.code.now in let f = s.frames in let heap = s.heap.items in let output = s.output.items in
    let v = value_of c.pop-cell.result in
    let held = stores_some x c.args.limit heap s.room output f c.pop-cell.new.self v c.pop-cell.ensures c.args.place c.args.next c.args.of c.requires.fine in
    never (stored c.args.of v) held.0 c.in-None.ensures held.1

pub set_variable-requires : goal.set_variable-requires
set_variable-requires c =
    let s = c.args.self.now in let x = c.args.code.now in let f = s.frames in let heap = s.heap.items in let output = s.output.items in
    stores_fine x c.args.limit heap s.room output f c.pop-cell.new.self (value_of c.pop-cell.result) c.pop-cell.ensures (value_of c.in-Some.held) c.args.place c.args.next c.args.of (sym c.in-Some.ensures) c.requires.fine

pub returns : goal.returns
returns c =
    let s = c.args.self.now in let x = c.args.code.now in let f = s.frames in let heap = s.heap.items in let output = s.output.items in
    let f1 = c.pop-cell.new.self in let v = value_of c.pop-cell.result in let held = value_of c.in-Some.held in
    let low = stores_fine x c.args.limit heap s.room output f f1 v c.pop-cell.ensures held c.args.place c.args.next c.args.of (sym c.in-Some.ensures) c.requires.fine in (
      stores x c.args.limit heap s.room output f f1 v c.pop-cell.ensures c.set_variable.new.self c.go_to.new.self held c.args.place c.args.next c.args.of (sym c.in-Some.ensures) low c.set_variable.ensures c.go_to.ensures,
      room_gone x c.set_variable.new.self c.go_to.new.self c.args.next c.go_to.ensures (room_variable x f1 c.set_variable.new.self c.args.place held c.set_variable.ensures (room_popped x f f1 v c.pop-cell.ensures c.requires.room)),
    )
