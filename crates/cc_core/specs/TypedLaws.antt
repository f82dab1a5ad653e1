-- What holds of the runs of typed programs. It is stated here and isn't proved yet.
use Rattle.std.specs.Prelude.{◌≡◌, ℕ, List}
use Rattle.cc_base.specs.declared.running.Limits.{Limits}
use Rattle.cc_core.specs.declared.tree.ProgramParts.{ProgramParts}
use Rattle.cc_core.specs.SourceRun.{run_of, wrong}
use Rattle.cc_core.specs.Typed.{IsProgram}

-- The run of a well typed program never comes to a form that has no meaning.
abbrev pub NeverWrong : Type 0
NeverWrong =
    (parts : ProgramParts) (input : List ℕ) (arguments : List (List ℕ)) (limits : Limits) (n : ℕ) → IsProgram parts
    → (run_of parts.classes parts.bodies parts.main input arguments limits n).finish ≡ wrong → ⊥
