use Rattle.std.proofs.Common.{[], sym, ap, ◌∙◌}
use Rattle.cc_execution.specs.State.{Goes}
use Rattle.cc_machine_next.specs.Frames.{Frames, gone_to}
use Rattle.cc_machine_next.specs.RunState.{state_with}
use Rattle.cc_machine_next.proofs.Operations.{room_gone, room_stack}
use Rattle.cc_machine_next.proofs.Throwing.{leaves}
use Rattle.cc_machine_next.proofs.state.RunState.leave.Goals as goal

pub returns : goal.returns
returns c =
    let s = c.args.self.now in let x = c.args.code.now in let f = s.frames in let heap = s.heap.items in let output = s.output.items in (
      leaves x c.requires.clauses c.args.target (state_with f heap s.room output) ∙ ap (λ (z : Frames). Goes (state_with (gone_to c.args.target z) heap s.room output)) (sym c.empty.ensures)
          ∙ ap (λ (z : Frames). Goes (state_with z heap s.room output)) (sym c.go_to.ensures),
      room_gone x c.empty.new.self c.go_to.new.self c.args.target c.go_to.ensures (room_stack x f c.empty.new.self [] c.empty.ensures c.requires.room),
    )
