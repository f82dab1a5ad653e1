-- Laws of the source meaning.
use Rattle.std.specs.Prelude.{ℕ, ◌≤◌, ◌≡◌, ◌≢◌, List, ◌++◌}
use Rattle.cc_base.specs.declared.identifiers.MethodId.{MethodId}
use Rattle.cc_base.specs.declared.running.Limits.{Limits}
use Rattle.cc_core.specs.declared.tree.FunctionBody.{FunctionBody}
use Rattle.cc_core.specs.declared.types.ClassInfo.{ClassInfo}
use Rattle.cc_core.specs.SourceRun.{Meaning, going, run_of}

-- the first list stands at the front of the second
abbrev pub Front : {A : Type 0} → List A → List A → Type 0
Front {A} xs ys = (more : List A) × (xs ++ more ≡ ys)

-- What the second has done goes on from what the first has.
pub record GoesOn (first second : Meaning) : Type 0 where
  pub output : Front first.output second.output
  pub events : Front first.events second.events
  pub work : first.work ≤ second.work

-- The second is the first, or goes on where that one was going.
pub record Continues (first second : Meaning) : Type 0 where
  pub same : first.finish ≢ going → first ≡ second
  pub more : first.finish ≡ going → GoesOn first second

-- a larger bound of turns only continues a run that was going
abbrev pub LargerBoundContinues : Type 0
LargerBoundContinues =
    (w : List ClassInfo) (bodies : List FunctionBody) (main : MethodId) (input : List ℕ) (arguments : List (List ℕ)) (limits : Limits) (n m : ℕ)
    → n ≤ m → Continues (run_of w bodies main input arguments limits n) (run_of w bodies main input arguments limits m)
