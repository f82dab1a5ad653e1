use Rattle.std.proofs.Common.{◌≡◌, ◌≢◌}
use Rattle.cc_cil.specs.Steps.{Runs}
use Rattle.cc_machine.specs.declared.machine.Phase.TheVariants as phase
use Rattle.cc_machine.specs.Machine.{IsReady, state_of}
use Rattle.cc_machine.proofs.machine.Execution.run.Given as goal

abbrev pub invariant-loop : goal.invariant-loop
invariant-loop l = record {
  ready : IsReady l.self;
  code : l.self.code ≡ l.initial.self.code;
  alive : l.self.phase ≢ phase.OutOfMemory;
  runs : Runs l.initial.self.code.code l.counter (state_of l.initial.self) (state_of l.self);
}
