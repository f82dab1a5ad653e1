-- The run of a whole region program.
use Rattle.std.specs.Prelude.{ℕ, ◌-◌, List, [], if◌then◌else◌}
use Rattle.cc_base.specs.Cells.{arguments_cells, arguments_pass}
use Rattle.cc_base.specs.declared.identifiers.MethodId.{MethodId}
use Rattle.cc_base.specs.declared.running.Ending.TheVariants as ending
use Rattle.cc_base.specs.declared.running.Limits.{Limits}
use Rattle.cc_core.specs.declared.types.ClassInfo.{ClassInfo}
use Rattle.cc_core.specs.SourceRun.{Meaning, ended, meaning_of, start}
use Rattle.cc_region.specs.declared.tree.RegionFunction.{RegionFunction}
use Rattle.cc_region.specs.Frames.{calls_with}

-- The run of a region program within n turns of each Loop. The arguments take their cells first; then the entry takes a frame, and then `main` does.
abbrev pub run_of : List ClassInfo → List RegionFunction → MethodId → List ℕ → List (List ℕ) → Limits → ℕ → Meaning
run_of w functions main input arguments limits n =
    if arguments_pass limits.cells arguments then record { output = []; events = []; work = 0; finish = ended ending.HeapLimit }
    else meaning_of w (calls_with w functions n (limits.frames - 1) main [] (start (limits.cells - arguments_cells arguments) input))
