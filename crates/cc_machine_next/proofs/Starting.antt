-- The start of a run.
use Rattle.std.proofs.Common.{◌≡◌, ℕ, ◌-◌, ◌<◌, List, [], ◌∷◌, refl, sym, ap, ◌∙◌, subst}
use Rattle.std.specs.Prelude.{Bool, true, false, Some, None, slice_get, nat_lt, if◌then◌else◌}
use Rattle.std.proofs.lemmas.Bool.{lt-ltb}
use Rattle.std.proofs.lemmas.Option.{none-some, same_Some}
use Rattle.cc_base.specs.Cells.{arguments_cells, arguments_pass}
use Rattle.cc_base.specs.declared.running.Ending.TheVariants as ending
use Rattle.cc_base.specs.declared.running.Limits.{Limits}
use Rattle.cc_core.specs.declared.world.World.{World}
use Rattle.cc_execution.specs.declared.executable.Executable.{Executable}
use Rattle.cc_execution.specs.declared.executable.Method.{Method}
use Rattle.cc_execution.specs.declared.operation.FundamentalType.{FundamentalType}
use Rattle.cc_execution.specs.Handlers.{go_on}
use Rattle.cc_execution.specs.Operations.{loaded}
use Rattle.cc_execution.specs.Run.{first_world, with_variables, begin_entry, begin, start}
use Rattle.cc_execution.specs.State.{Next, Ends}
use Rattle.cc_execution.specs.Step.{given, zeros_of}
use Rattle.cc_machine_next.specs.RunState.{IsFine}
use Rattle.cc_machine_next.proofs.Operations.{given_some}

if_so : (b : Bool) (p q : Next) → b ≡ true → (if b then p else q) ≡ p
if_so b p q e = ap (λ z. if z then p else q) e

if_not : (b : Bool) (p q : Next) → b ≡ false → (if b then p else q) ≡ q
if_not b p q e = ap (λ z. if z then p else q) e

-- ---- the cells of the arguments

no_cells : (b : Bool) (k : ℕ) → None ≡ (if b then None else Some k) → b ≡ true
no_cells true k e = refl
no_cells false k e = absurd (none-some k e)

some_cells : (b : Bool) (k n : ℕ) → Some n ≡ (if b then None else Some k) → (b ≡ false) × (n ≡ k)
some_cells true k n e = absurd (none-some n (sym e))
some_cells false k n e = (refl, same_Some n k e)

module _ (x : Executable) (limits : Limits) (arguments : List (List ℕ)) where
  pub starts_without : None ≡ (if arguments_pass limits.cells arguments then None else Some (limits.cells - arguments_cells arguments)) → start x limits [] arguments ≡ Ends ending.HeapLimit (first_world limits.cells [])
  starts_without e = if_so (arguments_pass limits.cells arguments) (Ends ending.HeapLimit (first_world limits.cells [])) (begin x limits.frames (first_world (limits.cells - arguments_cells arguments) [])) (no_cells _ _ e)

  pub starts_with : (cells : ℕ) → Some cells ≡ (if arguments_pass limits.cells arguments then None else Some (limits.cells - arguments_cells arguments)) → start x limits [] arguments ≡ begin x limits.frames (first_world cells [])
  starts_with cells e =
      let k = some_cells (arguments_pass limits.cells arguments) (limits.cells - arguments_cells arguments) cells e in
      if_not (arguments_pass limits.cells arguments) (Ends ending.HeapLimit (first_world limits.cells [])) (begin x limits.frames (first_world (limits.cells - arguments_cells arguments) [])) k.0
      ∙ ap (λ n. begin x limits.frames (first_world n [])) (sym k.1)

pub no_frames : (x : Executable) (w : World) → begin x 0 w ≡ Ends ending.DepthLimit w
no_frames x w = refl

-- ---- the entry

module _ (x : Executable) (frames : ℕ) (w : World) where
  -- the entry is a method without arguments
  pub record Entered : Type 0 where
    pub method : Method
    pub is_method : slice_get x.methods x.entry ≡ Some method
    pub leads : begin x frames w ≡ go_on x.entry 0 [] [] [] (with_variables (zeros_of method.locals) w)

  takes_none : (types locals : List FundamentalType) (n : ℕ) → IsFine x (begin_entry types locals n w) → begin_entry types locals n w ≡ go_on n 0 [] [] [] (with_variables (zeros_of locals) w)
  takes_none [] locals n h = refl
  takes_none (t ∷ types) locals n h = absurd h

  pub entered : 0 < frames → IsFine x (begin x frames w) → Entered
  entered some fine =
      let e : begin x frames w ≡ given (slice_get x.methods x.entry) (λ method. begin_entry (loaded method.parameters) method.locals x.entry w) = if_so (nat_lt 0 frames) _ (Ends ending.DepthLimit w) (lt-ltb 0 frames some) in
      let m = given_some x (slice_get x.methods x.entry) (λ method. begin_entry (loaded method.parameters) method.locals x.entry w) (subst (IsFine x) e fine) in
      let g : begin x frames w ≡ begin_entry (loaded m.0.parameters) m.0.locals x.entry w = e ∙ ap (λ o. given o (λ method. begin_entry (loaded method.parameters) method.locals x.entry w)) m.1 in
      record { method = m.0; is_method = m.1; leads = g ∙ takes_none (loaded m.0.parameters) m.0.locals x.entry (subst (IsFine x) g fine) }
