use Rattle.std.proofs.Common.{sym, subst}
use Rattle.cc_execution.specs.Numbers.{operated}
use Rattle.cc_machine_next.specs.Cells.{value_of, computed_of}
use Rattle.cc_machine_next.specs.Flows.{Follows}
use Rattle.cc_machine_next.proofs.Operations.{computes_top, first_of_two, never, room_popped}
use Rattle.cc_machine_next.proofs.Computing.{next_on_top, computes_some, computes_as}
use Rattle.cc_machine_next.proofs.state.RunState.compute.Goals as goal

pub pop-right-requires : goal.pop-right-requires
pop-right-requires c =
    let s = c.args.self.now in let x = c.args.code.now in let f = s.frames in let heap = s.heap.items in let output = s.output.items in
    first_of_two f.now.stack (computes_top x c.args.limit heap s.room output f c.args.operator c.args.signed c.args.next c.requires.fine)

pub top-left-requires : goal.top-left-requires
top-left-requires c =
    let s = c.args.self.now in let x = c.args.code.now in let f = s.frames in let heap = s.heap.items in let output = s.output.items in
    next_on_top f c.pop-right.new.self (value_of c.pop-right.result) c.pop-right.ensures (computes_top x c.args.limit heap s.room output f c.args.operator c.args.signed c.args.next c.requires.fine)

pub unreachable-requires : goal.unreachable-requires
unreachable-requires c =
    let s = c.args.self.now in let x = c.args.code.now in let f = s.frames in let heap = s.heap.items in let output = s.output.items in
    let a = value_of c.top-left.result in let b = value_of c.pop-right.result in
    let there = computes_some x c.args.limit heap s.room output f c.pop-right.new.self a b c.top-left.ensures.0 c.args.operator c.args.signed c.args.next c.pop-right.ensures c.top-left.ensures.1 c.requires.fine in
    never (operated c.args.operator c.args.signed a b) there.0 c.in-None.ensures there.1

pub give_computed-requires-clause-top : goal.give_computed-requires-clause-top
give_computed-requires-clause-top c = (value_of c.top-left.result, c.top-left.ensures.0, c.top-left.ensures.1)

pub give_computed-requires-clause-room : goal.give_computed-requires-clause-room
give_computed-requires-clause-room c = room_popped c.args.code.now c.args.self.now.frames c.pop-right.new.self (value_of c.pop-right.result) c.pop-right.ensures c.requires.room

pub returns : goal.returns
returns c =
    let s = c.args.self.now in let x = c.args.code.now in let f = s.frames in let heap = s.heap.items in let output = s.output.items in
    let a = value_of c.top-left.result in let b = value_of c.pop-right.result in let rest = c.top-left.ensures.0 in
    subst (λ o. Follows x c.give_computed.result o c.give_computed.new.self)
    (sym (computes_as x c.args.limit heap s.room output f c.pop-right.new.self a b rest c.args.operator c.args.signed c.args.next c.pop-right.ensures c.top-left.ensures.1 (computed_of c.in-Some.computation) (sym c.in-Some.ensures)))
    (c.give_computed.ensures a rest c.top-left.ensures.1)
