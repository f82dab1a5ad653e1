use Rattle.std.proofs.Common.{rules, refl, sym, ap, subst, arith, ◌∙◌}
use Rattle.std.proofs.lemmas.Bool.{false≢true}
use Rattle.cc_cil.specs.Steps.{stays, Step}
use Rattle.cc_machine.proofs.Steps.{one_more}
use Rattle.cc_machine.specs.Machine.{state_of}
use Rattle.cc_machine.proofs.machine.Execution.run.Goals as goal

pub loop-init : goal.loop-init
loop-init c = record { ready = c.requires; code = refl; alive = λ e. false≢true (c.if-is_out_of_memory.ensures.1 e); runs = stays }

pub loop-preserved : goal.loop-preserved
loop-preserved c =
    let l = c.loop.invariant in
    record {
      ready = c.step.ensures.ready;
      code = c.step.ensures.code ∙ l.code;
      alive = c.in-Ok.ensures.alive;
      runs = one_more l.runs (subst (λ k. Step k.code (state_of c.loop.self) (state_of c.step.new.self)) l.code c.in-Ok.ensures.went);
    }
