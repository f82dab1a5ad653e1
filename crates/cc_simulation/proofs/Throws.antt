-- An exception that an operator makes ends the run, since no method has a handler.
use Rattle.std.proofs.Common.{◌≡◌, ℕ, List, [], ◌∷◌, ◌++◌, length, Bool, true, false, Option, Some, refl, sym, ap, ◌∙◌, subst, arith, slice_get, nat_lt}
use Rattle.std.specs.Prelude.{Err, if◌then◌else◌, ⊤, ◌≢◌}
use Rattle.cc_base.specs.declared.running.Ending.{Ending}
use Rattle.cc_base.specs.declared.identifiers.ClassId.{ClassId}
use Rattle.cc_base.specs.declared.running.Ending.TheVariants as ending
use Rattle.cc_core.specs.declared.state.State.{State}
use Rattle.cc_core.specs.declared.state.Stop.TheVariants.{Throws, HeapLimit}
use Rattle.cc_core.specs.declared.world.Object.{Object}
use Rattle.cc_core.specs.declared.world.World.{World}
use Rattle.cc_core.specs.Run.{raise, exception, with_object, in_world}
use Rattle.cc_core.specs.SourceRun as source
use Rattle.cc_core.specs.SourceRun.{name_of, message_of, ended}
use Rattle.cc_execution.specs.Links.{Link}
use Rattle.cc_execution.specs.Handlers.{catches, callers_catch, raise as unwinds, throw, throw_among, throw_made, with_world, aborted, aborts, uncaught}
use Rattle.cc_execution.specs.Run.{runs, seen, seen_in}
use Rattle.cc_execution.specs.State as machine
use Rattle.cc_execution.specs.State.{Frame, Next, Goes, Ends, then_go}
use Rattle.cc_simulation.specs.Sites.{Setting, Quiet, StandsAt}
use Rattle.cc_simulation.specs.Stretches.{stopped}
use Rattle.cc_simulation.specs.Values.{IsArithmetic}

abbrev pub Right : source.Finish → Type 0
Right (source.ended e) = ⊤
Right source.going = ⊤
Right source.wrong = ⊥

-- a run that has ended or that goes on has a meaning
pub ended_right : (e : Ending) → source.ended e ≢ source.wrong
ended_right e q = subst Right q tt

pub going_right : source.going ≢ source.wrong
going_right q = subst Right q tt

pub last_is : {A : Type 0} (xs : List A) (a : A) → slice_get (xs ++ a ∷ []) (length xs) ≡ Some a
last_is [] a = refl
last_is (x ∷ xs) a = last_is xs a

module _ (set : Setting) (quiet : Quiet set) where
  none_catches : (w : World) (e : ℕ) (callers : List Frame) → callers_catch set.x w e callers ≡ false
  none_catches w e [] = refl
  none_catches w e (f ∷ callers) =
      ap (λ (links : List Link). catches set.x w e links (callers_catch set.x w e callers)) (quiet.no_handlers f.method f.at) ∙ none_catches w e callers

  -- a throw ends the run at once
  throw_is : (e : ℕ) (s : machine.State) → throw set.x e s ≡ aborted set.x e s.world
  throw_is e s =
      ap (λ (links : List Link). throw_among set.x e links s) (quiet.no_handlers s.now.method s.now.at)
      ∙ ap (λ (caught : Bool). if caught then unwinds set.x e [] s.now.method s.now.pending s.callers s.world else aborted set.x e s.world) (none_catches s.world e s.callers)

  -- with the name of its class, which is its message too
  aborted_is : (class : ClassId) (name : List ℕ) (w : World) → slice_get set.x.names class.0 ≡ Some name
      → aborted set.x (length w.heap) (with_object (exception class) 3 w) ≡ Ends (ending.Aborted name name) (with_object (exception class) 3 w)
  aborted_is class name w h =
      ap (λ (o : Option Object). uncaught set.x o (with_object (exception class) 3 w)) (last_is w.heap (exception class))
      ∙ ap (λ (n : Option (List ℕ)). aborts n (message_of n (exception class).holds) (with_object (exception class) 3 w)) h

  meant_is : (class : ClassId) (name : List ℕ) (s : State) → name_of (slice_get set.classes class.0) ≡ Some name
      → stopped set.classes (Throws (length s.world.heap)) (in_world (with_object (exception class) 3) s) ≡ ended (ending.Aborted name name)
  meant_is class name s h =
      ap (λ (o : Option Object). source.uncaught set.classes o) (last_is s.world.heap (exception class))
      ∙ ap (λ (n : Option (List ℕ)). source.aborted n (message_of n (exception class).holds)) h

  pub throws_made : {A : Type 0} {ends : A → World → Next} {good : A → World → Type 0} (b : ℕ) (class : ClassId) → IsArithmetic class → (now : Frame) (callers : List Frame) (s : State)
      → StandsAt set b (throw_made set.x class (record { now = now; callers = callers; world = s.world })) ends good s.work (raise class s)
  throws_made {A} {ends} {good} b class h now callers s = by (nat_lt s.world.cells 3)
    where
      by : (few : Bool) → StandsAt set b (if few then Ends ending.HeapLimit s.world else throw set.x (length s.world.heap) (with_world (with_object (exception class) 3 s.world) (record { now = now; callers = callers; world = s.world }))) ends good s.work (if few then (Err HeapLimit, s) else (Err (Throws (length s.world.heap)), in_world (with_object (exception class) 3) s))
      by true = record { got = ((λ q. ended_right ending.HeapLimit q), record { steps = 0; least = omega arith; most = omega arith; same = refl }) }
      by false =
          let named = quiet.named class h in
          let now_at = with_world (with_object (exception class) 3 s.world) (record { now = now; callers = callers; world = s.world }) in
          record {
            got = (
              (λ q. ended_right (ending.Aborted named.0 named.0) (sym (meant_is class named.0 s named.2) ∙ q)),
              record {
                steps = 0;
                least = omega arith;
                most = omega arith;
                same = ap (λ (o : Next). seen (then_go o (runs set.x set.frames 0))) (throw_is (length s.world.heap) now_at ∙ aborted_is class named.0 s.world named.1)
                    ∙ ap (seen_in (with_object (exception class) 3 s.world)) (sym (meant_is class named.0 s named.2));
              },
            );
          }
