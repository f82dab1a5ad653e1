-- The run of a whole program: where it begins, and how it ends.
use Rattle.std.specs.Prelude.{ℕ, ◌-◌, List, [], ◌∷◌, Option, Some, None, Ok, Err, slice_get, if◌then◌else◌}
use Rattle.std.specs.Int.{w32, cast_signed}
use Rattle.cc_base.specs.Cells.{arguments_cells, arguments_pass}
use Rattle.cc_base.specs.declared.identifiers.MethodId.{MethodId}
use Rattle.cc_base.specs.declared.running.Ending.{Ending}
use Rattle.cc_base.specs.declared.running.Ending.TheVariants as ending
use Rattle.cc_base.specs.declared.running.Event.{Event}
use Rattle.cc_base.specs.declared.running.Limits.{Limits}
use Rattle.cc_core.specs.declared.state.State.{State}
use Rattle.cc_core.specs.declared.state.Stop.TheVariants as stop
use Rattle.cc_core.specs.declared.tree.FunctionBody.{FunctionBody}
use Rattle.cc_core.specs.declared.types.ClassInfo.{ClassInfo}
use Rattle.cc_core.specs.declared.world.Contents.{Contents}
use Rattle.cc_core.specs.declared.world.Contents.TheVariants as holds
use Rattle.cc_core.specs.declared.world.Object.{Object}
use Rattle.cc_core.specs.declared.world.Value.{Value, Int32, Null, Literal}
use Rattle.cc_core.specs.Run.{Ran}
use Rattle.cc_core.specs.Frames.{calls_with}

-- How a run stands at its end or at its bound: it ended, it goes on, or it has no meaning.
pub data Finish : Type 0 where
  ended : Ending → Finish
  going : Finish
  wrong : Finish

-- What a run has done within its bound.
pub record Meaning : Type 0 where
  pub output : List ℕ
  pub events : List Event
  pub work : ℕ
  pub finish : Finish

-- the full name of a class
abbrev pub name_of : Option ClassInfo → Option (List ℕ)
name_of None = None
name_of (Some info) = Some info.name

-- the message of an exception: its text, or without one the name of its class
abbrev pub text_or : Option (List ℕ) → List Value → Option (List ℕ)
text_or name (Null ∷ fields) = name
text_or name (Literal text ∷ fields) = Some text
text_or name _ = None

abbrev pub message_of : Option (List ℕ) → Contents → Option (List ℕ)
message_of name (holds.Fields fields) = text_or name fields
message_of name _ = None

abbrev pub aborted : Option (List ℕ) → Option (List ℕ) → Finish
aborted None message = wrong
aborted (Some name) None = wrong
aborted (Some name) (Some message) = ended (ending.Aborted name message)

-- an exception that no handler caught
abbrev pub uncaught : List ClassInfo → Option Object → Finish
uncaught w None = wrong
uncaught w (Some object) = let name = name_of (slice_get w (object.«class»).0) in aborted name (message_of name object.holds)

-- how a run stands by what `main` gave, or by why it stopped
abbrev pub finish_of : List ClassInfo → Ran Value → Finish
finish_of w (Ok (Int32 n), s) = ended (ending.Returned (cast_signed w32 n))
finish_of w (Ok v, s) = wrong
finish_of w (Err (stop.Throws at), s) = uncaught w (slice_get s.world.heap at)
finish_of w (Err stop.HeapLimit, s) = ended ending.HeapLimit
finish_of w (Err stop.DepthLimit, s) = ended ending.DepthLimit
finish_of w (Err stop.Going, s) = going
finish_of w (Err stop.Wrong, s) = wrong

abbrev pub meaning_of : List ClassInfo → Ran Value → Meaning
meaning_of w ran = record { output = (ran.1).world.output; events = (ran.1).world.events; work = (ran.1).work; finish = finish_of w ran }

-- the state at the start, with so many cells left
abbrev pub start : ℕ → List ℕ → State
start cells input = record {
  world = record { variables = []; callers = []; heap = []; statics = []; cells = cells; output = []; input = input; events = []; suppressed = [] };
  work = 0;
}

-- The run of a program within n turns of each loop. The arguments take their cells first; then the entry takes a frame, and then `main` does.
abbrev pub run_of : List ClassInfo → List FunctionBody → MethodId → List ℕ → List (List ℕ) → Limits → ℕ → Meaning
run_of w bodies main input arguments limits n =
    if arguments_pass limits.cells arguments then record { output = []; events = []; work = 0; finish = ended ending.HeapLimit }
    else meaning_of w (calls_with w bodies n (limits.frames - 1) main [] (start (limits.cells - arguments_cells arguments) input))
