-- What it is for the methods of an executable to keep the verifier's rules with a table of stack types for each (ECMA-335, III.1.7 and III.1.8).
--   IsTyped x e m t        the method does, with this table
--   KeepsRules x e tables  each method does, and the executable has an entry
use Rattle.std.specs.Prelude.{◌≡◌, ◌≤◌, ◌<◌, ℕ, true, List, [], ◌∷◌, length, slice_get, Some, if◌then◌else◌}
use Rattle.cc_base.specs.declared.identifiers.ClassId.{ClassId}
use Rattle.cc_cil.specs.declared.body.ClauseKind.{ClauseKind}
use Rattle.cc_cil.specs.declared.body.ClauseKind.TheVariants.{Catch, Finally, Fault}
use Rattle.cc_cil.specs.declared.body.Clause.{Clause}
use Rattle.cc_cil.specs.declared.instruction.Instruction.{Instruction}
use Rattle.cc_execution.specs.declared.operation.FundamentalType.TheVariants.{I4}
use Rattle.cc_execution.specs.declared.executable.Executable.{Executable}
use Rattle.cc_execution.specs.declared.executable.Method.{Method}
use Rattle.cc_execution.specs.declared.executable.PlacedOperation.{PlacedOperation}
use Rattle.cc_execution.specs.Library.{LIBRARY_CLASSES}
use Rattle.cc_execution.specs.Operations.{loaded, names_in, resolve}
use Rattle.cc_execution.specs.Step.{placed_at}
use Rattle.cc_verify.specs.declared.stack_type.StackType.TheVariants.{Object}
use Rattle.cc_verify.specs.declared.environment.Environment.{Environment}
use Rattle.cc_verify.specs.declared.transition.Transition.{Transition}
use Rattle.cc_verify.specs.Transitions.{Stack, transition_of, effect, stores_fit, falls, jump, is_leave}
use Rattle.cc_verify.specs.Regions.{may_pass, may_exit, handles_not, each_clause, innermost_handler}
use Rattle.cc_verify.specs.Rules.{Given, given_to, stands}
use Rattle.cc_soundness.specs.Kinds.{IsEnvironment, frame_kinds}
use Rattle.cc_soundness.specs.Regions.{Nested, EachClause}

-- a table gives this stack to an offset
abbrev pub Has : Given → ℕ → Stack → Type 0
Has t at s = given_to t at ≡ Some s

-- a fall or a branch from one offset to another that has the stack
abbrev pub Passes : List Clause → Given → ℕ → ℕ → Stack → Type 0
Passes clauses t from to s = Has t to s × (each_clause (may_pass from to) clauses ≡ true)

-- a branch passes, and a leave exits
abbrev pub Jumps : Transition → List Clause → Given → ℕ → ℕ → Stack → Type 0
Jumps how clauses t from to s = Has t to s × (each_clause (if is_leave how then may_exit from to else may_pass from to) clauses ≡ true)

-- an instruction keeps the rules, with the stack before it
pub record KeepsRulesAt (x : Executable) (e : Environment) (m : Method) (t : Given) (at : ℕ) (s : Stack) : Type 0 where
  pub placed : PlacedOperation
  pub is : placed_at m.operations at ≡ Some placed
  pub instruction : Instruction
  pub resolves : resolve (names_in x m) placed.next instruction ≡ Some placed.operation
  pub small : length s ≤ m.max_stack
  pub behind : Stack
  pub leaves : effect e (frame_kinds m) (transition_of instruction) s ≡ Some behind
  pub stores : stores_fit (frame_kinds m) (transition_of instruction) s ≡ true
  pub fall : falls (transition_of instruction) ≡ true → Passes m.clauses t at placed.next behind
  pub jump_to : (to : ℕ) → jump (transition_of instruction) placed.next ≡ Some to → Jumps (transition_of instruction) m.clauses t at to behind
  pub stays : stands (transition_of instruction) (innermost_handler m.clauses at) ≡ true

-- a catch's handler begins with an exception of its class, another with nothing
abbrev pub BeginsHandler : Given → ClauseKind → ℕ → Type 0
BeginsHandler t Catch at = (class : ClassId) × Has t at (Object class ∷ [])
BeginsHandler t Finally at = Has t at []
BeginsHandler t Fault at = Has t at []

pub record IsTyped (x : Executable) (e : Environment) (m : Method) (t : Given) : Type 0 where
  pub start : Has t 0 []
  pub outside : each_clause (handles_not 0) m.clauses ≡ true
  pub nested : Nested m.clauses
  pub handlers : EachClause (λ (c : Clause). BeginsHandler t c.kind c.handler_first) m.clauses
  pub covered : (at : ℕ) (s : Stack) → Has t at s → KeepsRulesAt x e m t at s

-- the entry takes nothing that operations load, and gives an int32
pub record HasEntry (x : Executable) : Type 0 where
  pub method : Method
  pub is : slice_get x.methods x.entry ≡ Some method
  pub parameters : loaded method.parameters ≡ []
  pub result : method.result ≡ Some I4

pub record KeepsRules (x : Executable) (e : Environment) (tables : ℕ → Given) : Type 0 where
  pub environment : IsEnvironment x e
  pub methods : (n : ℕ) (m : Method) → slice_get x.methods n ≡ Some m → IsTyped x e m (tables n)
  pub entry : HasEntry x
  pub names : (n : ℕ) → n < LIBRARY_CLASSES → (name : List ℕ) × (slice_get x.names n ≡ Some name)
