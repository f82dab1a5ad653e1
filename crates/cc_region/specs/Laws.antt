-- Laws of the meaning of regions.
use Rattle.std.specs.Prelude.{ℕ, ◌≤◌, List}
use Rattle.cc_base.specs.declared.identifiers.MethodId.{MethodId}
use Rattle.cc_base.specs.declared.running.Limits.{Limits}
use Rattle.cc_core.specs.declared.types.ClassInfo.{ClassInfo}
use Rattle.cc_core.specs.Laws.{Continues}
use Rattle.cc_region.specs.declared.tree.RegionFunction.{RegionFunction}
use Rattle.cc_region.specs.RegionRun.{run_of}

-- a larger bound of turns only continues a run that was going
abbrev pub LargerBoundContinues : Type 0
LargerBoundContinues =
    (w : List ClassInfo) (functions : List RegionFunction) (main : MethodId) (input : List ℕ) (arguments : List (List ℕ)) (limits : Limits) (n m : ℕ)
    → n ≤ m → Continues (run_of w functions main input arguments limits n) (run_of w functions main input arguments limits m)
