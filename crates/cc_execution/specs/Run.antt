-- The run of a module (ECMA-335, I.12.3 and II.15.4.1.2): where it begins, many steps, and what is seen of it.
--   start x limits input arguments         where it begins, or how it ends at once
--   runs x frames n s                      what n steps lead to
--   run_of x input arguments limits n      what is seen of it after n steps
use Rattle.std.specs.Prelude.{ℕ, zero, suc, ◌-◌, List, [], ◌∷◌, nat_lt, slice_get, if◌then◌else◌}
use Rattle.cc_base.specs.Cells.{arguments_cells, arguments_pass}
use Rattle.cc_base.specs.declared.running.Ending.TheVariants as ending
use Rattle.cc_base.specs.declared.running.Event.{Event}
use Rattle.cc_base.specs.declared.running.Limits.{Limits}
use Rattle.cc_core.specs.declared.world.Value.{Value}
use Rattle.cc_core.specs.declared.world.World.{World}
use Rattle.cc_core.specs.SourceRun.{Finish, ended, going, wrong}
use Rattle.cc_core.specs.SourceRun as source
use Rattle.cc_execution.specs.declared.operation.FundamentalType.{FundamentalType}
use Rattle.cc_execution.specs.declared.executable.Executable.{Executable}
use Rattle.cc_execution.specs.Operations.{loaded}
use Rattle.cc_execution.specs.State.{State, Next, Goes, Ends, Stuck, then_go}
use Rattle.cc_execution.specs.Handlers.{go_on}
use Rattle.cc_execution.specs.Step.{step, given, zeros_of}

-- ---- the start

-- the world with so many cells left and this input
abbrev pub first_world : ℕ → List ℕ → World
first_world cells input = (source.start cells input).world

abbrev pub with_variables : List Value → World → World
with_variables variables w = record w { variables = variables }

-- The entry takes the array of the arguments, which no operation loads yet: it has no variable.
abbrev pub begin_entry : List FundamentalType → List FundamentalType → ℕ → World → Next
begin_entry [] locals n w = go_on n 0 [] [] [] (with_variables (zeros_of locals) w)
begin_entry (t ∷ types) locals n w = Stuck

-- the entry takes the first frame
abbrev pub begin : Executable → ℕ → World → Next
begin x frames w = if nat_lt 0 frames then given (slice_get x.methods x.entry) (λ method. begin_entry (loaded method.parameters) method.locals x.entry w) else Ends ending.DepthLimit w

-- the arguments take their cells first
abbrev pub start : Executable → Limits → List ℕ → List (List ℕ) → Next
start x limits input arguments =
    if arguments_pass limits.cells arguments then Ends ending.HeapLimit (first_world limits.cells input)
    else begin x limits.frames (first_world (limits.cells - arguments_cells arguments) input)

-- ---- steps

abbrev pub runs : Executable → ℕ → ℕ → State → Next
runs x frames zero s = Goes s
runs x frames (suc n) s = then_go (step x frames s) (runs x frames n)

-- ---- what is seen

-- what was printed and told, and how the run ended, where it did
pub record Seen : Type 0 where
  pub output : List ℕ
  pub events : List Event
  pub finish : Finish

abbrev pub seen_in : World → Finish → Seen
seen_in w finish = record { output = w.output; events = w.events; finish = finish }

abbrev pub seen : Next → Seen
seen (Goes s) = seen_in s.world going
seen (Ends ending w) = seen_in w (ended ending)
seen Stuck = record { output = []; events = []; finish = wrong }

abbrev pub run_of : Executable → List ℕ → List (List ℕ) → Limits → ℕ → Seen
run_of x input arguments limits n = seen (then_go (start x limits input arguments) (runs x limits.frames n))
