-- What the machine's state stands for, and what is asked of it.
use Rattle.std.specs.Prelude.{◌≡◌, ℕ, ◌+◌, ◌≤◌, List, [], ◌∷◌, length, map, reverse, slice_get, Option, Some, None}
use Rattle.cc_base.specs.declared.identifiers.ClassId.{ClassId}
use Rattle.cc_core.specs.declared.world.Value.{Value}
use Rattle.cc_core.specs.declared.world.World.{World}
use Rattle.cc_core.specs.Run.{exception}
use Rattle.cc_execution.specs.declared.executable.Executable.{Executable}
use Rattle.cc_execution.specs.declared.executable.Method.{Method}
use Rattle.cc_execution.specs.State.{Frame, State, Next, Goes, Ends, Stuck}
use Rattle.cc_machine_next.specs.declared.state.RunState.{RunState}
use Rattle.cc_machine_next.specs.Frames.{HeldFrame, Frames}

abbrev pub frame_of : HeldFrame → Frame
frame_of f = record { method = f.method; at = f.at; stack = f.stack; pending = [] }

abbrev pub variables_in : HeldFrame → List Value
variables_in f = f.variables

-- the world of frames, of the classes of the exceptions in the heap, of the cells that are left and of the output
abbrev pub world_with : Frames → List ClassId → ℕ → List ℕ → World
world_with f heap room output = record {
  variables = f.now.variables;
  callers = reverse (map variables_in f.below);
  heap = map exception heap;
  statics = [];
  cells = room;
  output = output;
  input = [];
  events = [];
  suppressed = [];
}

abbrev pub state_with : Frames → List ClassId → ℕ → List ℕ → State
state_with f heap room output = record { now = frame_of f.now; callers = map frame_of f.below; world = world_with f heap room output }

abbrev pub world_of : RunState → World
world_of s = world_with s.frames s.heap.items s.room s.output.items

abbrev pub state_of : RunState → State
state_of s = state_with s.frames s.heap.items s.room s.output.items

-- a step goes on, with no more values on the stack than its method has at most, or ends the run
abbrev pub FitsMethod : Option Method → ℕ → Type 0
FitsMethod None height = ⊥
FitsMethod (Some method) height = height ≤ method.max_stack

abbrev pub IsFine : Executable → Next → Type 0
IsFine x (Goes s) = FitsMethod (slice_get x.methods s.now.method) (length s.now.stack)
IsFine x (Ends ending w) = Unit {0}
IsFine x Stuck = ⊥

-- the cells reach as far as the stack of a frame may grow
abbrev pub ReachFor : Executable → ℕ → HeldFrame → Type 0
ReachFor x size f = (method : Method) × (slice_get x.methods f.method ≡ Some method) × (f.floor + method.max_stack ≤ size)

abbrev pub ReachForEach : Executable → ℕ → List HeldFrame → Type 0
ReachForEach x size [] = Unit {0}
ReachForEach x size (f ∷ below) = ReachFor x size f × ReachForEach x size below

pub record HasRoom (x : Executable) (f : Frames) : Type 0 where
  pub now : ReachFor x f.size f.now
  pub below : ReachForEach x f.size f.below
