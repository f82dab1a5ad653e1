use Rattle.std.proofs.Common.{[], ap, ◌∙◌, arith}
use Rattle.cc_execution.specs.Step.{placed_in}
use Rattle.cc_machine_next.specs.Frames.{Frames}
use Rattle.cc_machine_next.specs.declared.tables.Entry.{Entry}
use Rattle.cc_machine_next.proofs.Operations.{room_gone}
use Rattle.cc_machine_next.proofs.Returning.{a_caller, caller_placed, goes_back, room_dropped, never_back}
use Rattle.cc_machine_next.proofs.state.RunState.return_nothing.Goals as goal

pub unreachable-requires : goal.unreachable-requires
unreachable-requires c =
    let s = c.args.self.now in let x = c.args.code.now in let f = s.frames in let heap = s.heap.items in let output = s.output.items in
    never_back x f heap s.room output (omega (arith, c.callers.ensures.all)) c.requires.fine

pub leave-requires : goal.leave-requires
leave-requires c = a_caller c.args.self.now.frames.below (omega (arith, c.callers.ensures.all))

pub entry_at-entry-requires-clause-there : goal.entry_at-entry-requires-clause-there
entry_at-entry-requires-clause-there c =
    let s = c.args.self.now in let x = c.args.code.now in let f = s.frames in let heap = s.heap.items in let output = s.output.items in
    let a = a_caller f.below (omega (arith, c.callers.ensures.all)) in let h = a.0 in let bs = a.1 in
    let d = c.leave.ensures h bs a.2 in
    let p = caller_placed f heap s.room output h bs a.2 x [] c.requires.fine in
    (p.0, ap (λ m. placed_in x m c.at.result) (c.method.ensures ∙ ap (λ (z : Frames). z.now.method) d) ∙ ap (λ k. placed_in x h.method k) (c.at.ensures ∙ ap (λ (z : Frames). z.now.at) d) ∙ p.1)

pub returns : goal.returns
returns c =
    let s = c.args.self.now in let x = c.args.code.now in let f = s.frames in let heap = s.heap.items in let output = s.output.items in
    let a = a_caller f.below (omega (arith, c.callers.ensures.all)) in let h = a.0 in let bs = a.1 in
    let d = c.leave.ensures h bs a.2 in
    let p = caller_placed f heap s.room output h bs a.2 x [] c.requires.fine in
    let here = ap (λ m. placed_in x m c.at.result) (c.method.ensures ∙ ap (λ (z : Frames). z.now.method) d) ∙ ap (λ k. placed_in x h.method k) (c.at.ensures ∙ ap (λ (z : Frames). z.now.at) d) ∙ p.1 in
    let f1 = c.leave.new.self in
    let next = ap (λ (z : Entry). z.next) (c.entry_at-entry.ensures p.0 here) in
    let room = room_dropped x f f1 h bs a.2 d c.requires.room in
    let f2 = c.go_to.new.self in
    (goes_back f heap s.room output h bs a.2 x f1 f2 f2 d p.0 p.1 c.entry_at-entry.result.next next c.go_to.ensures, room_gone x f1 f2 c.entry_at-entry.result.next c.go_to.ensures room)
