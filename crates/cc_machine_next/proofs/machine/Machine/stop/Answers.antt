use Rattle.std.proofs.Common.{sym, ap, subst, ◌∙◌}
use Rattle.std.specs.Prelude.{Some, slice_get}
use Rattle.cc_execution.specs.Handlers.{aborts}
use Rattle.cc_execution.specs.State.{Ends}
use Rattle.cc_machine_next.specs.Running.{Running}
use Rattle.cc_machine_next.specs.RunState.{state_of, world_of}
use Rattle.cc_machine_next.specs.Whole.{next_of, IsReady}
use Rattle.cc_machine_next.proofs.machine.Machine.stop.Goals as goal

pub returns-in-Goes : goal.returns-in-Goes
returns-in-Goes c =
    let m = c.self.inside in
    (state_of m.state, ap (λ (r : Running). r.next) (sym c.self.view_is) ∙ ap (λ k. next_of m.code k m.state) c.in-Goes.is)

pub returns-in-Returned : goal.returns-in-Returned
returns-in-Returned c =
    let m = c.self.inside in
    (world_of m.state, ap (λ (r : Running). r.next) (sym c.self.view_is) ∙ ap (λ k. next_of m.code k m.state) c.in-Returned.is ∙ ap (λ e. Some (Ends e (world_of m.state))) (sym c.returned.ensures))

pub aborted-requires : goal.aborted-requires
aborted-requires c =
    let m = c.self.inside in
    let named = subst (λ k. IsReady m.code m.limit k m.state) c.in-Aborted.is c.self.invariant.ready in
    (named.0, ap (λ l. slice_get l c.in-Aborted.class.0) c.as_slice.ensures ∙ named.1)

pub returns-in-Ok : goal.returns-in-Ok
returns-in-Ok c =
    let m = c.self.inside in let w = world_of m.state in let n = c.in-Aborted.class.0 in (
      w,
      ap (λ (r : Running). r.next) (sym c.self.view_is) ∙ ap (λ k. next_of m.code k m.state) c.in-Aborted.is
          ∙ ap (λ l. Some (aborts (slice_get l n) (slice_get l n) w)) (sym c.as_slice.ensures) ∙ ap (λ o. Some o) (c.in-Ok.ensures w),
    )

pub returns-in-HeapLimit : goal.returns-in-HeapLimit
returns-in-HeapLimit c =
    let m = c.self.inside in
    (world_of m.state, ap (λ (r : Running). r.next) (sym c.self.view_is) ∙ ap (λ k. next_of m.code k m.state) c.in-HeapLimit.is)

pub returns-in-DepthLimit : goal.returns-in-DepthLimit
returns-in-DepthLimit c =
    let m = c.self.inside in
    (world_of m.state, ap (λ (r : Running). r.next) (sym c.self.view_is) ∙ ap (λ k. next_of m.code k m.state) c.in-DepthLimit.is)
