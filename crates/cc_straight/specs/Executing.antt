-- What an execution shows of a run.
use Rattle.std.specs.Prelude.{◌≡◌, ◌⊎◌, ◌<◌, ◌≤◌, ℕ, List, ◌++◌, length, nat_lt, Option, Some, None, if◌then◌else◌}
use Rattle.cc_base.specs.Cells.{arguments_pass}
use Rattle.cc_base.specs.declared.running.Limits.{Limits}
use Rattle.cc_base.specs.declared.running.Ending.{Ending}
use Rattle.cc_machine.specs.declared.machine.Stop.{Stop}
use Rattle.cc_machine.specs.declared.machine.Stop.TheVariants.{Ended, StepLimit, Memory}
use Rattle.cc_core.specs.StraightSource.{Source, source_operations}
use Rattle.cc_core.specs.StraightMeaning.{Ran, run_of}
use Rattle.cc_straight.specs.declared.runner.Executed.{Executed}

-- the execution printed what the run prints, and ended as it ends
abbrev pub DoesAs : Executed → Ran → Type 0
DoesAs executed ran = (executed.ending ≡ Some ran.ending) × (executed.output ≡ ran.output)

-- the execution had not ended, and printed a front of what the run prints
abbrev pub IsCutShort : Executed → Ran → Type 0
IsCutShort executed ran = (executed.ending ≡ None) × ((more : List ℕ) × (ran.output ≡ executed.output ++ more))

-- how many instructions the run of a source executes: none where it ends before `main` begins
abbrev pub run_length : Source → List (List ℕ) → Limits → ℕ
run_length source arguments limits =
    if arguments_pass limits.cells arguments then 0
    else if nat_lt limits.frames 2 then 0
    else length (source_operations source)

-- it is cut short exactly where the run has more instructions than it may execute
abbrev pub DoesWithin : Executed → Source → List (List ℕ) → Limits → ℕ → Type 0
DoesWithin executed source arguments limits steps =
    ((run_length source arguments limits ≤ steps) × DoesAs executed (run_of source arguments limits))
    ⊎ ((steps < run_length source arguments limits) × IsCutShort executed (run_of source arguments limits))

abbrev pub IsEnding : Stop → Option Ending → Type 0
IsEnding (Ended ending) found = found ≡ Some ending
IsEnding StepLimit found = found ≡ None
IsEnding Memory found = ⊥
