-- With more turns a call that was going goes on, any other is the same, and so is the run of a whole region program.
use Rattle.std.proofs.Common.{◌≡◌, ◌≢◌, ℕ, zero, suc, ◌-◌, ◌≤◌, List, [], Bool, true, false, Option, Some, None, Ok, Err, refl, ap, subst}
use Rattle.std.specs.Prelude.{if◌then◌else◌, slice_get}
use Rattle.cc_base.specs.declared.running.Ending.{Ending}
use Rattle.cc_base.specs.Cells.{arguments_cells, arguments_pass}
use Rattle.cc_base.specs.declared.running.Ending.TheVariants as ending
use Rattle.cc_core.specs.declared.state.State.{State}
use Rattle.cc_core.specs.declared.state.Stop.TheVariants.{Throws, HeapLimit, DepthLimit, Going, Wrong}
use Rattle.cc_core.specs.declared.types.ClassInfo.{ClassInfo}
use Rattle.cc_core.specs.declared.types.CoreType.{CoreType}
use Rattle.cc_core.specs.declared.world.Value.{Value}
use Rattle.cc_core.specs.Run.{Ran, Does, in_world}
use Rattle.cc_core.specs.Frames.{variables_of, end_value, entered, left, in_frame}
use Rattle.cc_core.specs.declared.world.Object.{Object}
use Rattle.cc_core.specs.declared.world.Value.{Int32}
use Rattle.cc_core.specs.SourceRun.{ended, going, wrong, Meaning, finish_of, meaning_of, aborted, uncaught, start}
use Rattle.cc_core.specs.Laws as core_law
use Rattle.cc_region.proofs.Grown.{Grown, same_front, same_grown, grown_on, given_grows}
use Rattle.cc_region.proofs.Follows.{Continues, Follows, same_continues, tick_follows, wrong_follows, CallsFollow}
use Rattle.cc_region.specs.declared.tree.RegionFunction.{RegionFunction}
use Rattle.cc_region.specs.Leave.{Way, Next, Break, Continue, Return}
use Rattle.cc_region.specs.Region.{Region}
use Rattle.cc_region.specs.Bare.{region_of}
use Rattle.cc_region.specs.Outcome.{outcome_of}
use Rattle.cc_region.specs.Frames.{function_for, returned, enter, call_function, calls_with}
use Rattle.cc_region.specs.Laws as law
use Rattle.cc_region.proofs.Turns.{outcome_follows}

returned_grown : (type : CoreType) (r : Ran Way) → Grown r.1 (returned type r).1
returned_grown type (Ok Next, s) = (given_grows (end_value type)).by s
returned_grown type (Ok (Return v), s) = same_grown s
returned_grown type (Ok (Break number), s) = same_grown s
returned_grown type (Ok (Continue number), s) = same_grown s
returned_grown type (Err e, s) = same_grown s

returned_continues : (type : CoreType) (r r' : Ran Way) → Continues r r' → Continues (returned type r) (returned type r')
returned_continues type (Ok e, s) r' h = subst (λ r. Continues (returned type (Ok e, s)) (returned type r)) h (same_continues (returned type (Ok e, s)))
returned_continues type (Err Going, s) r' h = grown_on h (returned_grown type r')
returned_continues type (Err (Throws at), s) r' h = subst (λ r. Continues {A = Value} (Err (Throws at), s) (returned type r)) h refl
returned_continues type (Err HeapLimit, s) r' h = subst (λ r. Continues {A = Value} (Err HeapLimit, s) (returned type r)) h refl
returned_continues type (Err DepthLimit, s) r' h = subst (λ r. Continues {A = Value} (Err DepthLimit, s) (returned type r)) h refl
returned_continues type (Err Wrong, s) r' h = subst (λ r. Continues {A = Value} (Err Wrong, s) (returned type r)) h refl

-- a frame that is entered or left changes nothing that was printed or told
left_grown : (s : State) → Grown s (in_world left s)
left_grown s = record { output = same_front s.world.output; events = same_front s.world.events; work = (same_grown s).work }

frame_grown : (r : Ran Value) → Grown r.1 (in_frame r).1
frame_grown (r, s) = left_grown s

left_on : {s t : State} → Grown s t → Grown (in_world left s) t
left_on g = record { output = g.output; events = g.events; work = g.work }

frame_continues : (r r' : Ran Value) → Continues r r' → Continues (in_frame r) (in_frame r')
frame_continues (Ok v, s) r' h = ap in_frame h
frame_continues (Err Going, s) r' h = left_on (grown_on h (frame_grown r'))
frame_continues (Err (Throws at), s) r' h = ap in_frame h
frame_continues (Err HeapLimit, s) r' h = ap in_frame h
frame_continues (Err DepthLimit, s) r' h = ap in_frame h
frame_continues (Err Wrong, s) r' h = ap in_frame h

entered_on : (variables : List Value) {s t : State} → Grown (in_world (entered variables) s) t → Grown s t
entered_on variables g = record { output = g.output; events = g.events; work = g.work }

enter_follows : (variables : Option (List Value)) (type : CoreType) (body body' : Does Way) → Follows body body' → Follows (enter variables type body) (enter variables type body')
enter_follows None type body body' h = wrong_follows
enter_follows (Some variables) type body body' h = record {
  by = λ s. frame_continues _ _ (returned_continues type _ _ (h.by (in_world (entered variables) s)));
  grows = λ s. let r = body' (in_world (entered variables) s) in
      grown_on (entered_on variables (h.grows (in_world (entered variables) s))) (grown_on (returned_grown type r) (frame_grown (returned type r)));
}

function_follows : (go go' : Region → Does Way) (f : Option RegionFunction) (arguments : List Value) → ((a : Region) → Follows (go a) (go' a)) → Follows (call_function go f arguments) (call_function go' f arguments)
function_follows go go' None arguments h = wrong_follows
function_follows go go' (Some f) arguments h =
    tick_follows (enter_follows (variables_of f.locals arguments) f.result (go (region_of f.body)) (go' (region_of f.body)) (h (region_of f.body)))

module _ (w : List ClassInfo) (functions : List RegionFunction) (n m : ℕ) (le : n ≤ m) where
  calls_follow : (frames : ℕ) → CallsFollow (calls_with w functions n frames) (calls_with w functions m frames)
  calls_follow zero = record { at = λ f vs. record { by = λ s. refl; grows = same_grown } }
  calls_follow (suc frames) = record {
    at = λ f vs. let h = function_follows (outcome_of w (calls_with w functions n frames) n) (outcome_of w (calls_with w functions m frames) m) (function_for f functions) vs
        (λ a. outcome_follows w (calls_with w functions n frames) (calls_with w functions m frames) (calls_follow frames) n m le a) in
        record { by = h.by; grows = h.grows };
  }

-- ---- the whole run

ended_not_going : (e : Ending) → ended e ≡ going → ⊥
ended_not_going e p = cc

wrong_not_going : wrong ≡ going → ⊥
wrong_not_going p = cc

same_run : (a b : Meaning) → a ≡ b → a.finish ≢ going → core_law.Continues a b
same_run a b p h = record { same = λ q. p; more = λ q. absurd (h q) }

aborts : (name message : Option (List ℕ)) → aborted name message ≢ going
aborts None message p = wrong_not_going p
aborts (Some name) None p = wrong_not_going p
aborts (Some name) (Some message) p = ended_not_going _ p

uncaught_ends : (w : List ClassInfo) (o : Option Object) → uncaught w o ≢ going
uncaught_ends w None p = wrong_not_going p
uncaught_ends w (Some o) p = aborts _ _ p

gave_ends : (w : List ClassInfo) (v : Value) (s : State) → finish_of w (Ok v, s) ≢ going
gave_ends w (Int32 n) s p = ended_not_going _ p
gave_ends w _ s p = wrong_not_going p

run_continues : (w : List ClassInfo) (r r' : Ran Value) → Continues r r' → core_law.Continues (meaning_of w r) (meaning_of w r')
run_continues w (Ok v, s) r' h = same_run _ _ (ap (meaning_of w) h) (gave_ends w v s)
run_continues w (Err Going, s) r' h = record { same = λ q. absurd (q refl); more = λ q. record { output = h.output; events = h.events; work = h.work } }
run_continues w (Err (Throws at), s) r' h = same_run _ _ (ap (meaning_of w) h) (uncaught_ends w (slice_get s.world.heap at))
run_continues w (Err HeapLimit, s) r' h = same_run _ _ (ap (meaning_of w) h) (ended_not_going ending.HeapLimit)
run_continues w (Err DepthLimit, s) r' h = same_run _ _ (ap (meaning_of w) h) (ended_not_going ending.DepthLimit)
run_continues w (Err Wrong, s) r' h = same_run _ _ (ap (meaning_of w) h) wrong_not_going

by_test : (b : Bool) (x a a' : Meaning) → x.finish ≢ going → core_law.Continues a a' → core_law.Continues (if b then x else a) (if b then x else a')
by_test true x a a' h g = same_run x x refl h
by_test false x a a' h g = g

pub larger_bound_continues : law.LargerBoundContinues
larger_bound_continues w functions main input arguments limits n m le =
    by_test (arguments_pass limits.cells arguments) _ _ _ (ended_not_going ending.HeapLimit)
    (run_continues w _ _ (((calls_follow w functions n m le (limits.frames - 1)).at main []).by (start (limits.cells - arguments_cells arguments) input)))
