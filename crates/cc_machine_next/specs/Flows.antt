-- What the machine tells of a step.
use Rattle.std.specs.Prelude.{◌≡◌, ℕ, slice_get}
use Rattle.std.specs.Int.{w32, cast_signed}
use Rattle.cc_base.specs.declared.running.Ending.TheVariants as ending
use Rattle.cc_execution.specs.declared.executable.Executable.{Executable}
use Rattle.cc_execution.specs.Handlers.{aborts}
use Rattle.cc_execution.specs.Run.{runs}
use Rattle.cc_execution.specs.State.{State, Next, Goes, Ends}
use Rattle.cc_machine_next.specs.declared.flow.Flow.{Flow}
use Rattle.cc_machine_next.specs.declared.flow.Flow.TheVariants as flow
use Rattle.cc_machine_next.specs.declared.state.RunState.{RunState}
use Rattle.cc_machine_next.specs.RunState.{state_of, world_of, IsFine, HasRoom}

-- what a step leads to, by what is told of it and the state behind it, whose cells reach as far as its stacks may grow; nothing is told where memory did not suffice
abbrev pub Follows : Executable → Flow → Next → RunState → Type 0
Follows x flow.Goes o s = (o ≡ Goes (state_of s)) × HasRoom x s.frames
Follows x (flow.Returned n) o s = o ≡ Ends (ending.Returned (cast_signed w32 n)) (world_of s)
Follows x (flow.Aborted class) o s = o ≡ aborts (slice_get x.names class.0) (slice_get x.names class.0) (world_of s)
Follows x flow.HeapLimit o s = o ≡ Ends ending.HeapLimit (world_of s)
Follows x flow.DepthLimit o s = o ≡ Ends ending.DepthLimit (world_of s)
Follows x flow.OutOfMemory o s = Unit {0}

-- any number of steps goes on or ends the run, and is never stuck
abbrev pub IsAlwaysFine : Executable → ℕ → State → Type 0
IsAlwaysFine x frames s = (n : ℕ) → IsFine x (runs x frames n s)
