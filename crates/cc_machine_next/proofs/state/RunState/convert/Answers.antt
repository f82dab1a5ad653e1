use Rattle.std.proofs.Common.{◌∷◌, sym}
use Rattle.cc_machine_next.specs.Cells.{value_of}
use Rattle.cc_machine_next.proofs.Operations.{conversion_top, conversion_some, converts, never, room_gone, room_stack}
use Rattle.cc_execution.specs.Numbers.{conversion}
use Rattle.cc_machine_next.proofs.state.RunState.convert.Goals as goal

pub top-cell-requires : goal.top-cell-requires
top-cell-requires c =
    let s = c.args.self.now in let x = c.args.code.now in let f = s.frames in let heap = s.heap.items in let output = s.output.items in
    conversion_top x c.args.limit heap s.room output f c.args.to c.args.next c.requires.fine

pub unreachable-requires : goal.unreachable-requires
unreachable-requires c =
    let s = c.args.self.now in let x = c.args.code.now in let f = s.frames in let heap = s.heap.items in let output = s.output.items in
    let v = value_of c.top-cell.result in
    let held = conversion_some x c.args.limit heap s.room output f v c.top-cell.ensures.0 c.args.next c.top-cell.ensures.1 c.args.to c.requires.fine in
    never (conversion c.args.to v) held.0 c.in-None.ensures held.1

pub replace-requires : goal.replace-requires
replace-requires c = (value_of c.top-cell.result, c.top-cell.ensures.0, c.top-cell.ensures.1)

pub returns : goal.returns
returns c =
    let s = c.args.self.now in let x = c.args.code.now in let f = s.frames in let heap = s.heap.items in let output = s.output.items in
    let v = value_of c.top-cell.result in let held = value_of c.in-Some.value in let rest = c.top-cell.ensures.0 in
    let g = c.replace.ensures v rest c.top-cell.ensures.1 in (
      converts x c.args.limit heap s.room output f c.replace.new.self c.go_to.new.self v held rest c.args.next c.top-cell.ensures.1 g c.go_to.ensures c.args.to (sym c.in-Some.ensures),
      room_gone x c.replace.new.self c.go_to.new.self c.args.next c.go_to.ensures (room_stack x f c.replace.new.self (held ∷ rest) g c.requires.room),
    )
