use Rattle.std.proofs.Common.{sym, ap}
use Rattle.cc_machine_next.specs.Frames.{Frames}
use Rattle.cc_machine_next.proofs.Operations.{room_kept}
use Rattle.cc_execution.specs.State.{Goes}
use Rattle.cc_machine_next.specs.RunState.{state_with}
use Rattle.cc_machine_next.proofs.state.RunState.go.Goals as goal

pub returns : goal.returns
returns c =
    let s = c.args.self.now in (
      ap (λ (z : Frames). Goes (state_with z s.heap.items s.room s.output.items)) (sym c.go_to.ensures),
      room_kept c.args.code.now s.frames c.go_to.new.self c.args.at s.frames.now.variables s.frames.now.stack c.go_to.ensures c.requires.room,
    )
