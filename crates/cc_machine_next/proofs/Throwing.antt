-- Exceptions, where no method has a handler: the run is aborted.
use Rattle.std.proofs.Common.{◌≡◌, ℕ, ◌-◌, ◌<◌, List, [], ◌∷◌, ◌++◌, length, refl, sym, ap, ◌∙◌, subst, arith}
use Rattle.std.specs.Prelude.{Bool, true, false, Option, Some, None, option_map, map, slice_get, nat_lt, if◌then◌else◌}
use Rattle.std.proofs.lemmas.List.{map-append, length-map}
use Rattle.cc_base.specs.declared.identifiers.ClassId.{ClassId}
use Rattle.cc_base.specs.declared.running.Ending.TheVariants as ending
use Rattle.cc_core.specs.declared.world.Object.{Object}
use Rattle.cc_core.specs.declared.world.Value.{Value}
use Rattle.cc_core.specs.declared.world.World.{World}
use Rattle.cc_core.specs.Run.{exception, with_object}
use Rattle.cc_execution.specs.declared.executable.Executable.{Executable}
use Rattle.cc_execution.specs.declared.executable.Method.{Method}
use Rattle.cc_execution.specs.declared.operation.Operation.TheVariants as does
use Rattle.cc_execution.specs.Links.{chain, left_for}
use Rattle.cc_execution.specs.State.{Frame, State, Next, Ends}
use Rattle.cc_execution.specs.Handlers.{clauses_at, chain_at, catches, callers_catch, raise, aborts, uncaught, aborted, throw_among, throw, throw_made, with_world, go_out, leave}
use Rattle.cc_execution.specs.Step.{act, throw_value}
use Rattle.std.proofs.lemmas.Option.{slice_get-map, slice_get_within}
use Rattle.cc_core.specs.declared.world.Value.TheVariants as value
use Rattle.cc_machine_next.specs.Frames.{Frames, pushed}
use Rattle.cc_machine_next.specs.RunState.{state_with, world_with, IsFine}
use Rattle.cc_machine_next.specs.Tables.{HasNoClauses}

-- the element behind the last
at_end : {A : Type 0} (xs : List A) (y : A) → slice_get (xs ++ y ∷ []) (length xs) ≡ Some y
at_end [] y = refl
at_end (x ∷ xs) y = at_end xs y

no_chain : (o : Option Method) (at : ℕ) → ((m : Method) → o ≡ Some m → m.clauses ≡ []) → chain (clauses_at o) at ≡ []
no_chain None at h = refl
no_chain (Some m) at h = ap (λ clauses. chain clauses at) (h m refl)

if_not : (b : Bool) (p q : Next) → b ≡ false → (if b then p else q) ≡ q
if_not b p q e = ap (λ z. if z then p else q) e

module _ (x : Executable) (none : HasNoClauses x) where
  pub no_links : (method at : ℕ) → chain_at x method at ≡ []
  no_links method at = no_chain (slice_get x.methods method) at (none.each method)

  no_catch : (w : World) (e : ℕ) (callers : List Frame) → callers_catch x w e callers ≡ false
  no_catch w e [] = refl
  no_catch w e (f ∷ callers) = ap (λ links. catches x w e links (callers_catch x w e callers)) (no_links f.method f.at) ∙ no_catch w e callers

  pub throw_aborts : (e : ℕ) (s : State) → throw x e s ≡ aborted x e s.world
  throw_aborts e s =
      ap (λ links. throw_among x e links s) (no_links s.now.method s.now.at)
      ∙ if_not (callers_catch x s.world e s.callers) (raise x e [] s.now.method s.now.pending s.callers s.world) (aborted x e s.world) (no_catch s.world e s.callers)

  -- an exception that is at a place of the heap
  pub aborts_at : (class : ClassId) (e : ℕ) (w : World) → slice_get w.heap e ≡ Some (exception class) → aborted x e w ≡ aborts (slice_get x.names class.0) (slice_get x.names class.0) w
  aborts_at class e w there = ap (λ o. uncaught x o w) there

  module _ (f : Frames) (heap : List ClassId) (room : ℕ) (output : List ℕ) (class : ClassId) where
    -- too few cells are left
    pub made_none : nat_lt room 3 ≡ true → throw_made x class (state_with f heap room output) ≡ Ends ending.HeapLimit (world_with f heap room output)
    made_none few = ap (λ z. if z then Ends ending.HeapLimit (world_with f heap room output) else throw x (length (map exception heap)) (with_world (with_object (exception class) 3 (world_with f heap room output)) (state_with f heap room output))) few

    pub made : (heap2 : List ClassId) (room2 : ℕ) → nat_lt room 3 ≡ false → heap2 ≡ heap ++ class ∷ [] → room2 ≡ room - 3
        → throw_made x class (state_with f heap room output) ≡ aborts (slice_get x.names class.0) (slice_get x.names class.0) (world_with f heap2 room2 output)
    made heap2 room2 enough e g =
        let w = with_object (exception class) 3 (world_with f heap room output) in
        let s = state_with f heap room output in
        let same : w ≡ world_with f heap2 room2 output =
        ap (λ objects. record (world_with f heap room output) { heap = objects; cells = room - 3 }) (sym (map-append exception heap (class ∷ [])))
        ∙ ap (λ l. world_with f l (room - 3) output) (sym e) ∙ ap (λ n. world_with f heap2 n output) (sym g) in
        if_not (nat_lt room 3) (Ends ending.HeapLimit (world_with f heap room output)) (throw x (length (map exception heap)) (with_world w s)) enough
        ∙ throw_aborts (length (map exception heap)) (with_world w s)
        ∙ aborts_at class (length (map exception heap)) w (at_end (map exception heap) (exception class))
        ∙ ap (aborts (slice_get x.names class.0) (slice_get x.names class.0)) same

  fine_uncaught : (o : Option Object) (w : World) → IsFine x (uncaught x o w) → (object : Object) × (o ≡ Some object)
  fine_uncaught None w h = absurd h
  fine_uncaught (Some object) w h = (object, refl)

  -- an exception that is thrown is in the heap
  pub thrown_there : (e : ℕ) (f : Frames) (heap : List ClassId) (room : ℕ) (output : List ℕ) → IsFine x (throw x e (state_with f heap room output)) → e < length heap
  thrown_there e f heap room output fine =
      let there = fine_uncaught (slice_get (map exception heap) e) (world_with f heap room output) (subst (IsFine x) (throw_aborts e (state_with f heap room output)) fine) in
      let low : e < length (map exception heap) = slice_get_within (map exception heap) e there.0 there.1 in
      omega (arith, low, length-map heap exception)

  pub thrown : (e : ℕ) (class : ClassId) (f : Frames) (heap : List ClassId) (room : ℕ) (output : List ℕ) → slice_get heap e ≡ Some class
      → throw x e (state_with f heap room output) ≡ aborts (slice_get x.names class.0) (slice_get x.names class.0) (world_with f heap room output)
  thrown e class f heap room output there =
      throw_aborts e (state_with f heap room output)
      ∙ aborts_at class e (world_with f heap room output) (slice_get-map exception heap e ∙ ap (option_map exception) there)

  same_throw : (v u : Value) (f : Frames) (heap : List ClassId) (room : ℕ) (output : List ℕ) → throw_value x v (state_with (pushed u f) heap room output) ≡ throw_value x v (state_with f heap room output)
  same_throw (value.Object e) u f heap room output = refl
  same_throw value.Null u f heap room output = refl
  same_throw v u f heap room output = refl

  -- the value that was popped is thrown
  pub throws_popped : (f f1 : Frames) (v : Value) (limit next : ℕ) (heap : List ClassId) (room : ℕ) (output : List ℕ) → f ≡ pushed v f1
      → act x limit does.Throw next (state_with f heap room output) ≡ throw_value x v (state_with f1 heap room output)
  throws_popped f f1 v limit next heap room output e =
      ap (λ z. act x limit does.Throw next (state_with z heap room output)) e ∙ same_throw v v f1 heap room output

  -- a leave goes to its target
  pub leaves : (to : ℕ) (s : State) → leave x to s ≡ go_out to [] s.now.method s.now.pending s.callers s.world
  leaves to s = ap (λ links. go_out to (left_for links to) s.now.method s.now.pending s.callers s.world) (no_links s.now.method s.now.at)
