-- Many steps.
use Rattle.std.proofs.Common.{◌≡◌, ℕ, suc, ◌+◌, ◌-◌, ◌<◌, List, refl, sym, ap, ◌∙◌, subst, arith}
use Rattle.std.specs.Prelude.{Option, Some, None, slice_get}
use Rattle.cc_execution.specs.declared.executable.Executable.{Executable}
use Rattle.cc_execution.specs.State.{State, Next, Goes, Ends, Stuck, then_go}
use Rattle.cc_execution.specs.Step.{step}
use Rattle.cc_execution.specs.Run.{runs}
use Rattle.cc_execution.specs.Handlers.{aborts}
use Rattle.cc_core.specs.declared.world.World.{World}
use Rattle.cc_machine_next.specs.declared.flow.Flow.{Flow}
use Rattle.cc_machine_next.specs.declared.flow.Flow.TheVariants as flow
use Rattle.cc_machine_next.specs.declared.state.RunState.{RunState}
use Rattle.cc_execution.proofs.Pieces.{pieces}
use Rattle.std.proofs.lemmas.Option.{none-some, same_Some}
use Rattle.cc_machine_next.specs.RunState.{state_of, world_of, IsFine}
use Rattle.cc_machine_next.specs.Whole.{next_of, IsReady}
use Rattle.cc_machine_next.specs.Running.{printed_by}
use Rattle.cc_machine_next.specs.Flows.{IsAlwaysFine, Follows}

pub fine_next : (x : Executable) (frames : ℕ) (o : Next) → IsFine x (then_go o (runs x frames 0)) → IsFine x o
fine_next x frames (Goes s) h = h
fine_next x frames (Ends ending w) h = h
fine_next x frames Stuck h = h

module _ (x : Executable) (frames : ℕ) (s : State) (fine : IsAlwaysFine x frames s) where
  -- the next step is fine
  pub fine_step : IsFine x (step x frames s)
  fine_step = fine_next x frames (step x frames s) (fine 1)

  -- and so is what follows it
  pub fine_then : (t : State) → step x frames s ≡ Goes t → IsAlwaysFine x frames t
  fine_then t e = λ n. subst (λ o. IsFine x (then_go o (runs x frames n))) e (fine (suc n))

module _ (x : Executable) (frames : ℕ) (s : State) where
  -- a step that goes on is one less
  pub one_less : (n i : ℕ) (t : State) → i < n → step x frames s ≡ Goes t → runs x frames (n - i) s ≡ runs x frames (n - (i + 1)) t
  one_less n i t h e =
      let k : n - i ≡ suc (n - (i + 1)) = omega (arith, h) in
      ap (λ j. runs x frames j s) k ∙ ap (λ o. then_go o (runs x frames (n - (i + 1)))) e

  pub ends_so : (n i : ℕ) (o : Next) → i < n → step x frames s ≡ o → runs x frames (n - i) s ≡ then_go o (runs x frames (n - (i + 1)))
  ends_so n i o h e =
      let k : n - i ≡ suc (n - (i + 1)) = omega (arith, h) in
      ap (λ j. runs x frames j s) k ∙ ap (λ z. then_go z (runs x frames (n - (i + 1)))) e

aborts_on : (name message : Option (List ℕ)) (w : World) (go : State → Next) → then_go (aborts name message w) go ≡ aborts name message w
aborts_on None message w go = refl
aborts_on (Some name) None w go = refl
aborts_on (Some name) (Some message) w go = refl

-- what ends the run ends it for more steps too
pub follows_on : (x : Executable) (f : Flow) (o : Next) (s : RunState) (go : State → Next) → (f ≡ flow.Goes → ⊥) → Follows x f o s → Follows x f (then_go o go) s
follows_on x flow.Goes o s go other h = absurd (other refl)
follows_on x (flow.Returned n) o s go other h = ap (λ z. then_go z go) h
follows_on x (flow.Aborted class) o s go other h = ap (λ z. then_go z go) h ∙ aborts_on _ _ _ go
follows_on x flow.HeapLimit o s go other h = ap (λ z. then_go z go) h
follows_on x flow.DepthLimit o s go other h = ap (λ z. then_go z go) h
follows_on x flow.OutOfMemory o s go other h = tt

-- ---- a machine behind its steps

-- after some steps the run is still never stuck
pub fine_behind : (x : Executable) (frames n : ℕ) (s t : State) → IsAlwaysFine x frames s → runs x frames n s ≡ Goes t → IsAlwaysFine x frames t
fine_behind x frames n s t fine e = λ k. subst (IsFine x) (pieces x frames n k s ∙ ap (λ o. then_go o (runs x frames k)) e) (fine (n + k))

named : (x : Executable) (o : Option (List ℕ)) (w : World) → IsFine x (aborts o o w) → (name : List ℕ) × (o ≡ Some name)
named x None w h = absurd h
named x (Some name) w h = (name, refl)

-- the machine is ready for what comes next
pub ready_behind : (x : Executable) (frames n : ℕ) (s : State) (f : Flow) (after : RunState) → IsAlwaysFine x frames s → Follows x f (runs x frames n s) after → IsReady x frames f after
ready_behind x frames n s flow.Goes after fine h = (h.1, fine_behind x frames n s (state_of after) fine h.0)
ready_behind x frames n s (flow.Returned k) after fine h = tt
ready_behind x frames n s (flow.Aborted class) after fine h = named x (slice_get x.names class.0) (world_of after) (subst (IsFine x) h (fine n))
ready_behind x frames n s flow.HeapLimit after fine h = tt
ready_behind x frames n s flow.DepthLimit after fine h = tt
ready_behind x frames n s flow.OutOfMemory after fine h = tt

-- what is told of the steps is what they lead to
pub follows_next : (x : Executable) (f : Flow) (o p : Next) (after : RunState) → Follows x f o after → next_of x f after ≡ Some p → p ≡ o
follows_next x flow.Goes o p after h e = sym (same_Some _ p e) ∙ sym h.0
follows_next x (flow.Returned k) o p after h e = sym (same_Some _ p e) ∙ sym h
follows_next x (flow.Aborted class) o p after h e = sym (same_Some _ p e) ∙ sym h
follows_next x flow.HeapLimit o p after h e = sym (same_Some _ p e) ∙ sym h
follows_next x flow.DepthLimit o p after h e = sym (same_Some _ p e) ∙ sym h
follows_next x flow.OutOfMemory o p after h e = absurd (none-some p e)

-- a run that has ended stays so
pub stays : (x : Executable) (f : Flow) (o : Next) (s : RunState) (go : State → Next) → (f ≡ flow.Goes → ⊥) → next_of x f s ≡ Some o → then_go o go ≡ o
stays x flow.Goes o s go other e = absurd (other refl)
stays x (flow.Returned k) o s go other e = subst (λ z. then_go z go ≡ z) (same_Some _ o e) refl
stays x (flow.Aborted class) o s go other e = subst (λ z. then_go z go ≡ z) (same_Some _ o e) (aborts_on (slice_get x.names class.0) (slice_get x.names class.0) (world_of s) go)
stays x flow.HeapLimit o s go other e = subst (λ z. then_go z go ≡ z) (same_Some _ o e) refl
stays x flow.DepthLimit o s go other e = subst (λ z. then_go z go ≡ z) (same_Some _ o e) refl
stays x flow.OutOfMemory o s go other e = absurd (none-some o e)

abort_prints : (name : Option (List ℕ)) (w : World) (text : List ℕ) → name ≡ Some text → w.output ≡ printed_by (aborts name name w)
abort_prints name w text e = subst (λ n. w.output ≡ printed_by (aborts n n w)) (sym e) refl

-- what was printed is the output of what the steps lead to
pub output_of : (x : Executable) (frames : ℕ) (f : Flow) (s : RunState) (o : Next) → IsReady x frames f s → next_of x f s ≡ Some o → s.output.items ≡ printed_by o
output_of x frames flow.Goes s o ready e = subst (λ z. s.output.items ≡ printed_by z) (same_Some _ o e) refl
output_of x frames (flow.Returned k) s o ready e = subst (λ z. s.output.items ≡ printed_by z) (same_Some _ o e) refl
output_of x frames (flow.Aborted class) s o ready e = subst (λ z. s.output.items ≡ printed_by z) (same_Some _ o e) (abort_prints (slice_get x.names class.0) (world_of s) ready.0 ready.1)
output_of x frames flow.HeapLimit s o ready e = subst (λ z. s.output.items ≡ printed_by z) (same_Some _ o e) refl
output_of x frames flow.DepthLimit s o ready e = subst (λ z. s.output.items ≡ printed_by z) (same_Some _ o e) refl
output_of x frames flow.OutOfMemory s o ready e = absurd (none-some o e)

-- the run behind the steps of a machine that went on
pub runs_on : (x : Executable) (frames n : ℕ) (before after : RunState) (f : Flow) (o p : Next) → Follows x f (runs x frames n (state_of before)) after → Some (Goes (state_of before)) ≡ Some o → next_of x f after ≡ Some p
    → p ≡ then_go o (runs x frames n)
runs_on x frames n before after f o p follows e g = follows_next x f (runs x frames n (state_of before)) p after follows g ∙ ap (λ z. then_go z (runs x frames n)) (same_Some (Goes (state_of before)) o e)
