use Rattle.std.proofs.Common.{◌≡◌, ◌-◌}
use Rattle.cc_execution.specs.Run.{runs}
use Rattle.cc_machine_next.specs.RunState.{state_of, HasRoom}
use Rattle.cc_machine_next.specs.Flows.{IsAlwaysFine}
use Rattle.cc_machine_next.proofs.state.RunState.run.Given as goal

abbrev pub invariant-loop : goal.invariant-loop
invariant-loop l = record {
  fine : IsAlwaysFine l.code l.limit (state_of l.self);
  room : HasRoom l.code l.self.frames;
  rest : runs l.code l.limit l.steps (state_of l.fn.self) ≡ runs l.code l.limit (l.steps - l.counter) (state_of l.self);
}
