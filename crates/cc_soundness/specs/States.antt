-- What it is for a state of a run to be typed by tables of stack types (ECMA-335, I.12.3.2 and I.12.4).
--   IsTypedState x tables s   each frame has the stack, the variables and the pending ways of its offset, and each object is an exception with a name and a message
--   GoesWell x tables o       a step comes to a typed state, or the run ends
use Rattle.std.specs.Prelude.{◌≡◌, ◌<◌, ℕ, true, false, List, [], ◌∷◌, ◌++◌, length, map, slice_get, Option, Some, None}
use Rattle.cc_cil.specs.declared.body.Clause.{Clause}
use Rattle.cc_core.specs.declared.world.Value.{Value}
use Rattle.cc_core.specs.declared.world.Value.TheVariants as value
use Rattle.cc_core.specs.declared.world.Object.{Object}
use Rattle.cc_core.specs.SourceRun.{message_of}
use Rattle.cc_execution.specs.declared.operation.FundamentalType.{FundamentalType}
use Rattle.cc_execution.specs.declared.operation.FundamentalType.TheVariants.{I4}
use Rattle.cc_execution.specs.declared.executable.Executable.{Executable}
use Rattle.cc_execution.specs.declared.executable.Method.{Method}
use Rattle.cc_execution.specs.declared.executable.PlacedOperation.{PlacedOperation}
use Rattle.cc_execution.specs.Operations.{loaded}
use Rattle.cc_execution.specs.State.{Pending, Unwinding, Leaving, Caught, Frame, State, Next, Goes, Ends, Stuck}
use Rattle.cc_execution.specs.Step.{placed_at}
use Rattle.cc_verify.specs.declared.stack_type.StackType.{StackType}
use Rattle.cc_verify.specs.declared.stack_type.StackType.TheVariants as type
use Rattle.cc_verify.specs.Transitions.{Stack}
use Rattle.cc_verify.specs.Regions.{in_handler, is_catch, each_clause, may_pass}
use Rattle.cc_verify.specs.Rules.{Given}
use Rattle.cc_soundness.specs.Kinds.{kind}
use Rattle.cc_soundness.specs.Regions.{handling, enters_not}
use Rattle.cc_soundness.specs.Typed.{Has}

-- ---- values, by how many objects there are

abbrev pub HasType : ℕ → StackType → Value → Type 0
HasType objects type.Int32 (value.Int32 n) = Unit {0}
HasType objects type.Int64 (value.Int64 n) = Unit {0}
HasType objects type.Null value.Null = Unit {0}
HasType objects (type.Object class) value.Null = Unit {0}
HasType objects (type.Object class) (value.Object e) = e < objects
HasType objects _ _ = ⊥

abbrev pub HaveTypes : ℕ → List StackType → List Value → Type 0
HaveTypes objects [] [] = Unit {0}
HaveTypes objects [] (v ∷ values) = ⊥
HaveTypes objects (t ∷ types) [] = ⊥
HaveTypes objects (t ∷ types) (v ∷ values) = HasType objects t v × HaveTypes objects types values

-- ---- objects: each has a class with a name, and a message

pub record IsException (x : Executable) (o : Object) : Type 0 where
  pub name : List ℕ
  pub message : List ℕ
  pub named : slice_get x.names (o.«class»).0 ≡ Some name
  pub told : message_of (Some name) o.holds ≡ Some message

abbrev pub AreExceptions : Executable → List Object → Type 0
AreExceptions x [] = Unit {0}
AreExceptions x (o ∷ heap) = IsException x o × AreExceptions x heap

-- ---- what handlers run for

-- A catch's handler runs for the exception that was caught, another for one on its way out or for a leave, whose target has an empty stack and lies in no handler but those around this one.
abbrev pub RunsFor : List Clause → Given → ℕ → Clause → Pending → Type 0
RunsFor clauses t objects c (Caught e) = (is_catch c.kind ≡ true) × (e < objects)
RunsFor clauses t objects c (Unwinding e) = (is_catch c.kind ≡ false) × (e < objects)
RunsFor clauses t objects c (Leaving to) = (is_catch c.kind ≡ false) × Has t to [] × (in_handler c to ≡ false) × (each_clause (enters_not c.handler_first to) clauses ≡ true)

-- one for each handler, the inner ones first
abbrev pub RunFor : List Clause → Given → ℕ → List Clause → List Pending → Type 0
RunFor clauses t objects [] [] = Unit {0}
RunFor clauses t objects [] (p ∷ pending) = ⊥
RunFor clauses t objects (c ∷ handlers) [] = ⊥
RunFor clauses t objects (c ∷ handlers) (p ∷ pending) = RunsFor clauses t objects c p × RunFor clauses t objects handlers pending

-- ---- frames

-- the types of a frame's variables: the arguments that operations load, and then the local variables
abbrev pub variable_types : Method → List FundamentalType
variable_types m = loaded m.parameters ++ m.locals

-- all but the stack
pub record IsFrame (m : Method) (t : Given) (objects at : ℕ) (ways : List Pending) (values : List Value) : Type 0 where
  pub variables : HaveTypes objects (map kind (variable_types m)) values
  pub pending : RunFor m.clauses t objects (handling m.clauses at) ways

-- with the result of a call on top
abbrev pub with_result : Option FundamentalType → Stack → Stack
with_result None s = s
with_result (Some of) s = kind of ∷ s

-- The frames that wait for a result, with the variables of each, the outermost first. The entry gives an int32.
abbrev pub Wait : Executable → (ℕ → Given) → ℕ → List Frame → List (List Value) → Option FundamentalType → Type 0
Wait x tables objects [] saved result = (saved ≡ []) × (result ≡ Some I4)
Wait x tables objects (f ∷ callers) saved result =
    (m : Method) × (slice_get x.methods f.method ≡ Some m)
    × (rest : List (List Value)) × (variables : List Value) × (saved ≡ rest ++ variables ∷ [])
    × IsFrame m (tables f.method) objects f.at f.pending variables
    × (placed : PlacedOperation) × (placed_at m.operations f.at ≡ Some placed)
    × (s : Stack) × HaveTypes objects s f.stack
    × Has (tables f.method) placed.next (with_result result s) × (each_clause (may_pass f.at placed.next) m.clauses ≡ true)
    × Wait x tables objects callers rest m.result

pub record IsTypedState (x : Executable) (tables : ℕ → Given) (s : State) : Type 0 where
  pub method : Method
  pub is : slice_get x.methods s.now.method ≡ Some method
  pub frame : IsFrame method (tables s.now.method) (length s.world.heap) s.now.at s.now.pending s.world.variables
  pub stack : Stack
  pub has : Has (tables s.now.method) s.now.at stack
  pub values : HaveTypes (length s.world.heap) stack s.now.stack
  pub objects : AreExceptions x s.world.heap
  pub callers : Wait x tables (length s.world.heap) s.callers s.world.callers method.result

-- never stuck
abbrev pub GoesWell : Executable → (ℕ → Given) → Next → Type 0
GoesWell x tables (Goes s) = IsTypedState x tables s
GoesWell x tables (Ends ending w) = Unit {0}
GoesWell x tables Stuck = ⊥
