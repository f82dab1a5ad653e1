use Rattle.std.proofs.Common.{rules, refl, arith}
use Rattle.cc_machine.proofs.Steps.{goes_on, step_from}
use Rattle.cc_machine.proofs.machine.Execution.step.Goals as goal

pub returns-in-Ok-clause-ready : goal.returns-in-Ok-clause-ready
returns-in-Ok-clause-ready c =
    let s = c.args.self.now in
    let r = c.requires.ready in
    let low = r.low c.requires.running in
    let after = goes_on s.code s.at c.len.result c.fetch-action.result.1 c.fetch-action.result.0 s.stack.items c.perform.new.stack.items s.output.items c.perform.new.output.items c.in-Ok.phase
    c.fetch-action.ensures (omega (arith, c.len.ensures, s.stack.ok.0)) low c.in-Ok.ensures.does in
    record {
      checked = λ p. (after p).0;
      low = λ p. (after p).1;
      room = omega (arith, r.room, c.in-Ok.ensures.room);
      most = r.most;
    }

pub returns-in-Ok-clause-went : goal.returns-in-Ok-clause-went
returns-in-Ok-clause-went c =
    let s = c.args.self.now in
    let low = c.requires.ready.low c.requires.running in
    step_from s.code s.at c.len.result c.fetch-action.result.1 c.fetch-action.result.0 s.stack.items c.perform.new.stack.items s.output.items c.perform.new.output.items c.in-Ok.phase
    c.fetch-action.ensures (omega (arith, c.len.ensures, s.stack.ok.0)) low c.in-Ok.ensures.does s.phase c.requires.running
