use Rattle.std.proofs.Common.{sym, subst}
use Rattle.cc_execution.specs.Numbers.{operated}
use Rattle.cc_machine_next.specs.Cells.{value_of, computed_of}
use Rattle.cc_machine_next.specs.Flows.{Follows}
use Rattle.cc_machine_next.proofs.Operations.{compares_top, first_of_two, never, room_popped}
use Rattle.cc_machine_next.proofs.Computing.{next_on_top, compares_some, compares_as}
use Rattle.cc_machine_next.proofs.state.RunState.branch_compare.Goals as goal

pub pop-right-requires : goal.pop-right-requires
pop-right-requires c =
    let s = c.args.self.now in let x = c.args.code.now in let f = s.frames in let heap = s.heap.items in let output = s.output.items in
    first_of_two f.now.stack (compares_top x c.args.limit heap s.room output f c.args.operator c.args.signed c.args.target c.args.next c.requires.fine)

pub pop-left-requires : goal.pop-left-requires
pop-left-requires c =
    let s = c.args.self.now in let x = c.args.code.now in let f = s.frames in let heap = s.heap.items in let output = s.output.items in
    next_on_top f c.pop-right.new.self (value_of c.pop-right.result) c.pop-right.ensures (compares_top x c.args.limit heap s.room output f c.args.operator c.args.signed c.args.target c.args.next c.requires.fine)

pub unreachable-requires : goal.unreachable-requires
unreachable-requires c =
    let s = c.args.self.now in let x = c.args.code.now in let f = s.frames in let heap = s.heap.items in let output = s.output.items in
    let a = value_of c.pop-left.result in let b = value_of c.pop-right.result in
    let there = compares_some x c.args.limit heap s.room output f c.pop-right.new.self c.pop-left.new.self a b c.args.operator c.args.signed c.args.target c.args.next c.pop-right.ensures c.pop-left.ensures c.requires.fine in
    never (operated c.args.operator c.args.signed a b) there.0 c.in-None.ensures there.1

pub branch_computed-requires-clause-room : goal.branch_computed-requires-clause-room
branch_computed-requires-clause-room c =
    let x = c.args.code.now in
    room_popped x c.pop-right.new.self c.pop-left.new.self (value_of c.pop-left.result) c.pop-left.ensures (room_popped x c.args.self.now.frames c.pop-right.new.self (value_of c.pop-right.result) c.pop-right.ensures c.requires.room)

pub returns : goal.returns
returns c =
    let s = c.args.self.now in let x = c.args.code.now in let f = s.frames in let heap = s.heap.items in let output = s.output.items in
    let a = value_of c.pop-left.result in let b = value_of c.pop-right.result in
    subst (λ o. Follows x c.branch_computed.result o c.branch_computed.new.self)
    (sym (compares_as x c.args.limit heap s.room output f c.pop-right.new.self c.pop-left.new.self a b c.args.operator c.args.signed c.args.target c.args.next c.pop-right.ensures c.pop-left.ensures (computed_of c.in-Some.computation) (sym c.in-Some.ensures)))
    c.branch_computed.ensures
