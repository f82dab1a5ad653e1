use Rattle.std.proofs.Common.{◌≡◌, ◌+◌, ◌-◌, sym, ap, subst, ◌∙◌, arith, refl}
use Rattle.cc_execution.specs.Step.{act, given, placed_in, return_last, return_to, zeros_of}
use Rattle.cc_machine_next.specs.Flows.{Follows}
use Rattle.cc_execution.specs.Run.{runs}
use Rattle.cc_execution.specs.Step as execution
use Rattle.cc_machine_next.specs.RunState.{state_of}
use Rattle.cc_machine_next.proofs.Running.{fine_step, fine_then, one_less, ends_so, follows_on}
use Rattle.cc_machine_next.proofs.state.RunState.run.Goals as goal

pub step-requires-clause-fine : goal.step-requires-clause-fine
step-requires-clause-fine c = fine_step c.args.code.now c.args.limit (state_of c.loop.self) c.loop.invariant.fine

pub loop-preserved : goal.loop-preserved
loop-preserved c =
    let x = c.args.code.now in let s = state_of c.loop.self in let t = c.step.new.self in
    let follows = subst (λ k. Follows x k (execution.step x c.args.limit s) t) c.in-Goes.is c.step.ensures in
    record {
      fine = fine_then x c.args.limit s c.loop.invariant.fine (state_of t) follows.0;
      room = follows.1;
      rest = c.loop.invariant.rest ∙ one_less x c.args.limit s c.args.steps c.loop.counter (state_of t) c.loop-test.true follows.0;
    }

pub returns-in_default : goal.returns-in_default
returns-in_default c =
    let x = c.args.code.now in let s = state_of c.loop.self in let t = c.step.new.self in
    let o = execution.step x c.args.limit s in let n = c.args.steps in let i = c.loop.counter in
    subst (λ z. Follows x c.step.result z t) (sym (c.loop.invariant.rest ∙ ends_so x c.args.limit s n i o c.loop-test.true refl))
    (follows_on x c.step.result o t (runs x c.args.limit (n - (i + 1))) c.in_default.not-Goes c.step.ensures)

pub returns : goal.returns
returns c =
    let x = c.args.code.now in
    let none : c.args.steps - c.loop.counter ≡ 0 = omega arith in
    (c.loop.invariant.rest ∙ ap (λ k. runs x c.args.limit k (state_of c.loop.self)) none, c.loop.invariant.room)
