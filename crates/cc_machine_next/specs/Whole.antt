-- What the fields of a machine stand for.
use Rattle.std.specs.Prelude.{◌≡◌, ℕ, List, Option, Some, None, slice_get}
use Rattle.std.specs.Int.{w32, cast_signed}
use Rattle.cc_base.specs.declared.running.Ending.TheVariants as ending
use Rattle.cc_execution.specs.declared.executable.Executable.{Executable}
use Rattle.cc_execution.specs.Handlers.{aborts}
use Rattle.cc_execution.specs.State.{Next, Goes, Ends}
use Rattle.cc_machine_next.specs.declared.flow.Flow.{Flow}
use Rattle.cc_machine_next.specs.declared.flow.Flow.TheVariants as flow
use Rattle.cc_machine_next.specs.declared.state.RunState.{RunState}
use Rattle.cc_machine_next.specs.declared.machine.Machine.TheInside.{Inside}
use Rattle.cc_machine_next.specs.RunState.{state_of, world_of, HasRoom}
use Rattle.cc_machine_next.specs.Flows.{IsAlwaysFine}
use Rattle.cc_machine_next.specs.Running.{Running}
use Rattle.cc_machine_next.specs.Tables.{IsTable, HasNoClauses}

-- what the steps up to now lead to
abbrev pub next_of : Executable → Flow → RunState → Option Next
next_of x flow.Goes s = Some (Goes (state_of s))
next_of x (flow.Returned n) s = Some (Ends (ending.Returned (cast_signed w32 n)) (world_of s))
next_of x (flow.Aborted class) s = Some (aborts (slice_get x.names class.0) (slice_get x.names class.0) (world_of s))
next_of x flow.HeapLimit s = Some (Ends ending.HeapLimit (world_of s))
next_of x flow.DepthLimit s = Some (Ends ending.DepthLimit (world_of s))
next_of x flow.OutOfMemory s = None

abbrev pub running_of : Inside → Running
running_of m = record { code = m.code; frames = m.limit; next = next_of m.code m.flow m.state }

-- a run that goes on has its room, and is never stuck; one that was aborted has the name of the class
abbrev pub IsReady : Executable → ℕ → Flow → RunState → Type 0
IsReady x frames flow.Goes s = HasRoom x s.frames × IsAlwaysFine x frames (state_of s)
IsReady x frames (flow.Returned n) s = Unit {0}
IsReady x frames (flow.Aborted class) s = (name : List ℕ) × (slice_get x.names class.0 ≡ Some name)
IsReady x frames flow.HeapLimit s = Unit {0}
IsReady x frames flow.DepthLimit s = Unit {0}
IsReady x frames flow.OutOfMemory s = Unit {0}

pub record IsRunning (m : Inside) : Type 0 where
  pub table : IsTable m.code m.tables
  pub clauses : HasNoClauses m.code
  pub ready : IsReady m.code m.limit m.flow m.state
