-- The run of a machine, as far as it has come.
use Rattle.std.specs.Prelude.{◌≡◌, ℕ, List, [], Option, Some, None}
use Rattle.cc_base.specs.declared.running.Ending.{Ending}
use Rattle.cc_base.specs.declared.running.Limits.{Limits}
use Rattle.cc_core.specs.declared.world.World.{World}
use Rattle.cc_execution.specs.declared.executable.Executable.{Executable}
use Rattle.cc_execution.specs.Run.{first_world, begin, start, runs}
use Rattle.cc_execution.specs.State.{State, Next, Goes, Ends, Stuck, then_go}
use Rattle.cc_machine_next.specs.declared.stop.Stop.{Stop}
use Rattle.cc_machine_next.specs.declared.stop.Stop.TheVariants as stop
use Rattle.cc_machine_next.specs.RunState.{IsFine}

-- What is executed, how many frames may be open at a time, and what the steps up to now lead to; none once memory did not suffice.
pub record Running : Type 0 where
  pub code : Executable
  pub frames : ℕ
  pub next : Option Next

-- the machine at the start of a run
abbrev pub begins : Executable → Limits → List (List ℕ) → Running
begins x limits arguments = record { code = x; frames = limits.frames; next = Some (start x limits [] arguments) }

-- one whose run ended before its first step, with so many cells left
abbrev pub ends_early : Executable → ℕ → Ending → ℕ → Running
ends_early x frames ending cells = record { code = x; frames = frames; next = Some (Ends ending (first_world cells [])) }

-- one that begins with the entry, with so many cells left
abbrev pub at_entry : Executable → ℕ → ℕ → Running
at_entry x frames cells = record { code = x; frames = frames; next = Some (begin x frames (first_world cells [])) }

-- from its start on the run is never stuck
abbrev pub IsFineRun : Executable → Limits → List (List ℕ) → Type 0
IsFineRun x limits arguments = (n : ℕ) → IsFine x (then_go (start x limits [] arguments) (runs x limits.frames n))

-- and neither is one that begins with the entry
abbrev pub IsFineEntry : Executable → ℕ → ℕ → Type 0
IsFineEntry x frames cells = (n : ℕ) → IsFine x (then_go (begin x frames (first_world cells [])) (runs x frames n))

-- how a run stands by what the machine answers
abbrev pub Answers : Stop → Option Next → Type 0
Answers (stop.Ended ending) next = (w : World) × (next ≡ Some (Ends ending w))
Answers stop.StepLimit next = (s : State) × (next ≡ Some (Goes s))
Answers stop.Memory next = Unit {0}

-- so many steps more, save where memory did not suffice
pub record RunsTo (old : Running) (n : ℕ) (new : Running) : Type 0 where
  pub code : new.code ≡ old.code
  pub frames : new.frames ≡ old.frames
  pub next : (o p : Next) → old.next ≡ Some o → new.next ≡ Some p → p ≡ then_go o (runs old.code old.frames n)
  pub lost : old.next ≡ None → new.next ≡ None

-- what was printed
abbrev pub printed_by : Next → List ℕ
printed_by (Goes s) = s.world.output
printed_by (Ends ending w) = w.output
printed_by Stuck = []
