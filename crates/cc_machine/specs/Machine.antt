-- What a run of checked code does: its state, where it begins, and what a call of `run` answers.
use Rattle.std.specs.Prelude.{◌^◌, ◌≡◌, ◌≢◌, ◌≤◌, ◌<◌, ◌+◌, ◌⊎◌, ℕ, Option, Some, None, List, [], ◌∷◌, ◌++◌, length, reverse, nat_lt, vec_capacity, if◌then◌else◌}
use Rattle.std.specs.Fmt.{signed_decimal}
use Rattle.std.specs.Int.{w32, cast_signed}
use Rattle.cc_base.specs.Cells.{arguments_pass}
use Rattle.cc_base.specs.declared.running.Limits.{Limits}
use Rattle.cc_base.specs.declared.running.Ending.{Ending}
use Rattle.cc_base.specs.declared.running.Ending.TheVariants as ending
use Rattle.cc_cil.specs.declared.body.Body.{Body}
use Rattle.cc_cil.specs.declared.instruction.Instruction.{Instruction}
use Rattle.cc_cil.specs.declared.action.Action.{Action}
use Rattle.cc_cil.specs.declared.action.Action.TheVariants.{WriteLine, Return}
use Rattle.cc_cil.specs.Instructions.{spelling}
use Rattle.cc_cil.specs.Steps.{State, Running, Ended, Stands, Step, Runs, Checks, action_of, height_behind}
use Rattle.cc_machine.specs.declared.machine.Phase.{Phase}
use Rattle.cc_machine.specs.declared.machine.Phase.TheVariants as phase
use Rattle.cc_machine.specs.declared.machine.Execution.{Execution}
use Rattle.cc_machine.specs.declared.machine.Stop.{Stop}
use Rattle.cc_machine.specs.declared.machine.Stop.TheVariants as stop

-- an int in decimal and a line feed
abbrev pub line_of : ℕ → List ℕ
line_of value = signed_decimal (cast_signed w32 value) ++ 10 ∷ []

abbrev pub state_in : Phase → ℕ → List ℕ → List ℕ → State
state_in phase.Running at stack out = Running at stack out
state_in (phase.Returned n) at stack out = Ended (ending.Returned (cast_signed w32 n)) out
state_in phase.HeapLimit at stack out = Ended ending.HeapLimit out
state_in phase.DepthLimit at stack out = Ended ending.DepthLimit out
state_in phase.OutOfMemory at stack out = Running at stack out

-- the state of a run: the stack from its top
abbrev pub state_of : Execution → State
state_of e = state_in e.phase e.at (reverse e.stack.items) e.output.items

-- The state that a run begins in: the arguments take their cells first, then the entry and the method a frame each.
abbrev pub begun : Limits → List (List ℕ) → State
begun limits arguments =
    if arguments_pass limits.cells arguments then Ended ending.HeapLimit []
    else if nat_lt limits.frames 2 then Ended ending.DepthLimit []
    else Running 0 [] []

-- the instruction that checked code has at an offset, and where it leads
abbrev pub IsFetched : Body → ℕ → ℕ → Action → ℕ → Type 0
IsFetched body at height action next =
    (i : Instruction) × (behind : ℕ) × Stands body.code at i × (action_of i ≡ Some action) × (next ≡ at + length (spelling i))
    × (height_behind body.max_stack action height ≡ Some behind) × (action ≢ Return → Checks body.code body.max_stack next behind None)

-- the stack is of a right height for an action, and has room for its greatest height
abbrev pub Fits : Action → ℕ → ℕ → Type 0
Fits action height room = (most : ℕ) × (behind : ℕ) × (height_behind most action height ≡ Some behind) × (height ≤ most) × (most ≤ room)

-- A run that may go on: no offset of its code is wrong from here on, and the stack has room for its greatest height.
pub record IsReady (e : Execution) : Type 0 where
  pub checked : e.phase ≡ phase.Running → Checks e.code.code e.code.max_stack e.at (length e.stack.items) None
  pub low : e.phase ≡ phase.Running → length e.stack.items ≤ e.code.max_stack
  pub room : e.code.max_stack ≤ vec_capacity e.stack
  pub most : e.code.max_stack < 2 ^ 16

-- the next instruction prints
abbrev pub Prints : List ℕ → State → Type 0
Prints code (Running at stack out) = (i : Instruction) × Stands code at i × (action_of i ≡ Some WriteLine)
Prints code (Ended ending out) = ⊥

abbrev pub stop_of : Phase → Stop
stop_of phase.Running = stop.StepLimit
stop_of (phase.Returned value) = stop.Ended (ending.Returned (cast_signed w32 value))
stop_of phase.HeapLimit = stop.Ended ending.HeapLimit
stop_of phase.DepthLimit = stop.Ended ending.DepthLimit
stop_of phase.OutOfMemory = stop.Memory

-- What a call of `run` answers: the ending that is reached within the steps, that it is not reached, or that memory did not suffice: then an earlier call
-- answered so, or a printing instruction was next.
abbrev pub IsStop : ℕ → Execution → Execution → Stop → Type 0
IsStop steps before after (stop.Ended ending) = (n : ℕ) × (n ≤ steps) × Runs before.code.code n (state_of before) (state_of after) × (state_of after ≡ Ended ending after.output.items)
IsStop steps before after stop.StepLimit = Runs before.code.code steps (state_of before) (state_of after) × (after.phase ≡ phase.Running)
IsStop steps before after stop.Memory = (after.phase ≡ phase.OutOfMemory)
    × ((before.phase ≡ phase.OutOfMemory) ⊎ ((n : ℕ) × (s : State) × (n < steps) × Runs before.code.code n (state_of before) s × Prints before.code.code s))

pub record HasStopped (steps : ℕ) (before after : Execution) (answer : Stop) : Type 0 where
  pub is_stop : IsStop steps before after answer
  pub code : after.code ≡ before.code
  pub again : before.phase ≡ phase.OutOfMemory → answer ≡ stop.Memory

-- a machine at the start of a run of this code
pub record Begins (code : Body) (arguments : List (List ℕ)) (limits : Limits) (machine : Execution) : Type 0 where
  pub state : state_of machine ≡ begun limits arguments
  pub code_is : machine.code ≡ code
  pub alive : machine.phase ≢ phase.OutOfMemory
