-- What lowering promises.
use Rattle.std.specs.Prelude.{◌≡◌, ℕ, List}
use Rattle.cc_base.specs.declared.running.Limits.{Limits}
use Rattle.cc_core.specs.declared.tree.ProgramParts.{ProgramParts}
use Rattle.cc_core.specs.SourceRun as source
use Rattle.cc_region.specs.declared.tree.RegionParts.{RegionParts}
use Rattle.cc_region.specs.RegionRun as region
use Rattle.cc_dispose.specs.Lower.{IsLoweredProgram}

-- For every input, all arguments, all limits and every bound of turns the two runs are the same: what they print, what they tell, the work that they begin, and how they end or go on.
abbrev pub KeepsTheRun : ProgramParts → RegionParts → Type 0
KeepsTheRun program made =
    (input : List ℕ) (arguments : List (List ℕ)) (limits : Limits) (n : ℕ)
    → region.run_of made.classes made.functions made.main input arguments limits n ≡ source.run_of program.classes program.bodies program.main input arguments limits n

abbrev pub LoweringKeepsTheRun : Type 0
LoweringKeepsTheRun = (program : ProgramParts) (made : RegionParts) → IsLoweredProgram program made → KeepsTheRun program made
