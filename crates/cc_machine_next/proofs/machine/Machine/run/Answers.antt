use Rattle.std.proofs.Common.{subst}
use Rattle.cc_machine_next.specs.RunState.{state_of}
use Rattle.cc_machine_next.specs.Whole.{IsReady}
use Rattle.cc_machine_next.proofs.Running.{ready_behind}
use Rattle.cc_machine_next.proofs.machine.Machine.run.Goals as goal

pub invariant_of-self : goal.invariant_of-self
invariant_of-self c =
    let m = c.self.inside in
    let ready = subst (λ k. IsReady m.code m.limit k m.state) c.in-Goes.is c.self.invariant.ready in
    record {
      table = c.self.invariant.table;
      clauses = c.self.invariant.clauses;
      ready = ready_behind m.code m.limit c.args.steps (state_of m.state) c.run-self-inside.result c.run-self-inside.new.self ready.1 c.run-self-inside.ensures;
    }
