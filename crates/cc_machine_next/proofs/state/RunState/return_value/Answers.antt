use Rattle.std.proofs.Common.{◌≡◌, [], ◌∷◌, length, ap, ◌∙◌, arith}
use Rattle.cc_execution.specs.Step.{placed_in, return_last}
use Rattle.cc_machine_next.specs.Cells.{value_of}
use Rattle.cc_machine_next.specs.Frames.{Frames}
use Rattle.cc_machine_next.specs.RunState.{world_with}
use Rattle.cc_machine_next.specs.declared.tables.Entry.{Entry}
use Rattle.cc_machine_next.proofs.Operations.{room_gone, room_stack}
use Rattle.cc_machine_next.proofs.Returning.{a_caller, caller_placed, goes_back_with, room_back, room_dropped, ends_last}
use Rattle.cc_machine_next.proofs.state.RunState.return_value.Goals as goal

pub leave-requires : goal.leave-requires
leave-requires c = a_caller c.args.self.now.frames.below (omega (arith, c.callers.ensures.all))

pub entry_at-entry-requires-clause-there : goal.entry_at-entry-requires-clause-there
entry_at-entry-requires-clause-there c =
    let s = c.args.self.now in let x = c.args.code.now in let f = s.frames in let heap = s.heap.items in let output = s.output.items in
    let a = a_caller f.below (omega (arith, c.callers.ensures.all)) in let h = a.0 in let bs = a.1 in
    let d = c.leave.ensures h bs a.2 in
    let p = caller_placed f heap s.room output h bs a.2 x (value_of c.args.value ∷ []) c.requires.fine in
    (p.0, ap (λ m. placed_in x m c.at.result) (c.method.ensures ∙ ap (λ (z : Frames). z.now.method) d) ∙ ap (λ k. placed_in x h.method k) (c.at.ensures ∙ ap (λ (z : Frames). z.now.at) d) ∙ p.1)

pub push-requires : goal.push-requires
push-requires c =
    let s = c.args.self.now in let x = c.args.code.now in let f = s.frames in let heap = s.heap.items in let output = s.output.items in
    let a = a_caller f.below (omega (arith, c.callers.ensures.all)) in let h = a.0 in let bs = a.1 in
    let d = c.leave.ensures h bs a.2 in
    room_back f heap s.room output h bs a.2 x c.leave.new.self (value_of c.args.value) c.requires.room c.requires.fine d

pub returns-then-callers-gt0 : goal.returns-then-callers-gt0
returns-then-callers-gt0 c =
    let s = c.args.self.now in let x = c.args.code.now in let f = s.frames in let heap = s.heap.items in let output = s.output.items in
    let a = a_caller f.below (omega (arith, c.callers.ensures.all)) in let h = a.0 in let bs = a.1 in
    let d = c.leave.ensures h bs a.2 in
    let p = caller_placed f heap s.room output h bs a.2 x (value_of c.args.value ∷ []) c.requires.fine in
    let here = ap (λ m. placed_in x m c.at.result) (c.method.ensures ∙ ap (λ (z : Frames). z.now.method) d) ∙ ap (λ k. placed_in x h.method k) (c.at.ensures ∙ ap (λ (z : Frames). z.now.at) d) ∙ p.1 in
    let f1 = c.leave.new.self in
    let next = ap (λ (z : Entry). z.next) (c.entry_at-entry.ensures p.0 here) in
    let room = room_dropped x f f1 h bs a.2 d c.requires.room in
    let v = value_of c.args.value in let f2 = c.push.new.self in let f3 = c.go_to.new.self in (
      goes_back_with f heap s.room output h bs a.2 x f1 f2 f3 d p.0 p.1 c.entry_at-entry.result.next next v c.push.ensures c.go_to.ensures,
      room_gone x f2 f3 c.entry_at-entry.result.next c.go_to.ensures (room_stack x f1 f2 (v ∷ f1.now.stack) c.push.ensures room),
    )

pub returns : goal.returns
returns c =
    let s = c.args.self.now in let x = c.args.code.now in let f = s.frames in let heap = s.heap.items in let output = s.output.items in
    let none : length f.below ≡ 0 = omega (arith, c.callers.ensures.all) in
    ends_last x f (value_of c.args.value ∷ []) none (world_with f heap s.room output) ∙ ap (λ k. return_last (value_of k ∷ []) (world_with f heap s.room output)) c.in-Int32.is
