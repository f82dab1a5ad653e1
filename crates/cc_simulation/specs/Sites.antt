-- Where code stands that runs: its method, what is around it, and what is known of both.
--   go h at stack w       the machine is at an offset of the method, with this stack and this world
--   HasAt h at code       in the method the operations of these instructions stand from an offset on, one after another
--   Fine h w              the variables are of their types, and the frames around this one have theirs
--   Quiet h               no method has a handler, and the classes of the exceptions of divisions have their names
use Rattle.std.specs.Prelude.{◌≡◌, ℕ, ◌+◌, List, [], ◌∷◌, Option, Some, None, slice_get, ⊤}
use Rattle.cc_base.specs.declared.identifiers.ClassId.{ClassId}
use Rattle.cc_cil.specs.declared.instruction.Instruction.{Instruction}
use Rattle.cc_core.specs.declared.types.ClassInfo.{ClassInfo}
use Rattle.cc_core.specs.declared.world.Value.{Value}
use Rattle.cc_core.specs.declared.world.World.{World}
use Rattle.cc_core.specs.Run.{Ran}
use Rattle.cc_core.specs.SourceRun.{name_of}
use Rattle.cc_core.specs.Types.{BareType}
use Rattle.cc_code.specs.Instructions.{width}
use Rattle.cc_execution.specs.declared.executable.Executable.{Executable}
use Rattle.cc_execution.specs.declared.executable.PlacedOperation.{PlacedOperation}
use Rattle.cc_execution.specs.declared.operation.Operation.{Operation}
use Rattle.cc_execution.specs.Handlers.{chain_at, go_on}
use Rattle.cc_execution.specs.Operations.{Names, resolve}
use Rattle.cc_execution.specs.State.{Frame, Pending, Next}
use Rattle.cc_execution.specs.State as machine
use Rattle.cc_execution.specs.Step.{placed_in}
use Rattle.cc_simulation.specs.Stretches.{Stands}
use Rattle.cc_simulation.specs.Values.{IsOf, AreOf, IsArithmetic}

-- what is around all code: the module, the classes of the program, how many frames there may be, and how many turns of a loop
pub record Setting : Type 0 where
  pub x : Executable
  pub classes : List ClassInfo
  pub frames : ℕ
  pub turns : ℕ

-- a frame: its method, what the operands of its instructions name, the types of its variables, what its handlers run for, the frames around it, and their variables
pub record Site : Type 0 where
  pub set : Setting
  pub method : ℕ
  pub names : Names
  pub locals : List BareType
  pub pending : List Pending
  pub callers : List Frame
  pub outer : List (List Value)

abbrev pub frame_at : Site → ℕ → List Value → Frame
frame_at h at stack = record { method = h.method; at = at; stack = stack; pending = h.pending }

abbrev pub state_at : Site → ℕ → List Value → World → machine.State
state_at h at stack w = record { now = frame_at h at stack; callers = h.callers; world = w }

abbrev pub go : Site → ℕ → List Value → World → Next
go h at stack w = go_on h.method at stack h.pending h.callers w

abbrev pub placed : ℕ → ℕ → Option Operation → Option PlacedOperation
placed at next None = None
placed at next (Some operation) = Some (record { at = at; operation = operation; next = next })

abbrev pub HasAt : Site → ℕ → List Instruction → Type 0
HasAt h at [] = ⊤
HasAt h at (i ∷ code) = (placed_in h.set.x h.method at ≡ placed at (at + width i) (resolve h.names (at + width i) i)) × HasAt h (at + width i) code

abbrev pub Fine : Site → World → Type 0
Fine h w = AreOf h.locals w.variables × (w.callers ≡ h.outer)

-- a value of a type, and all is fine
abbrev pub Good : Site → BareType → Value → World → Type 0
Good h of v w = IsOf of v × Fine h w

-- at a site, where b is what the steps are bounded by beside those of the work
abbrev pub StandsAt : {A : Type 0} → Setting → ℕ → Next → (A → World → Next) → (A → World → Type 0) → ℕ → Ran A → Type 0
StandsAt set b from ends good before ran = Stands set.x set.classes set.frames set.turns b from ends good before ran

pub record Quiet (set : Setting) : Type 0 where
  pub no_handlers : (method at : ℕ) → chain_at set.x method at ≡ []
  pub named : (class : ClassId) → IsArithmetic class → (name : List ℕ) × (slice_get set.x.names class.0 ≡ Some name) × (name_of (slice_get set.classes class.0) ≡ Some name)
