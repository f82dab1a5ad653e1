use Rattle.std.proofs.Common.{suc, ◌∷◌, length, ap, ◌∙◌, arith}
use Rattle.cc_machine_next.specs.Cells.{value_of}
use Rattle.cc_machine_next.specs.Frames.{gone_to}
use Rattle.cc_machine_next.proofs.Operations.{room_for, pushes, room_kept}
use Rattle.cc_machine_next.proofs.state.RunState.push_and_go.Goals as goal

pub push-requires : goal.push-requires
push-requires c =
    let f = c.args.self.now.frames in
    let room = room_for c.args.code.now f.now f.size (suc (length f.now.stack)) c.requires.room.now c.requires.fine in
    omega (arith, room)

pub returns : goal.returns
returns c =
    let s = c.args.self.now in
    let shown = pushes c.args.code.now 0 s.heap.items s.room s.output.items s.frames c.push.new.self c.go_to.new.self (value_of c.args.cell) c.args.at c.push.ensures c.go_to.ensures in
    (shown, room_kept c.args.code.now s.frames c.go_to.new.self c.args.at s.frames.now.variables (value_of c.args.cell ∷ s.frames.now.stack) (c.go_to.ensures ∙ ap (gone_to c.args.at) c.push.ensures) c.requires.room)
