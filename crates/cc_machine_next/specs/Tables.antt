-- How the operations of a module are laid out: the entry of an operation stands at its offset among those of its method.
use Rattle.std.specs.Prelude.{◌≡◌, ℕ, List, [], slice_get, Some}
use Rattle.cc_execution.specs.declared.executable.Executable.{Executable}
use Rattle.cc_execution.specs.declared.executable.Method.{Method}
use Rattle.cc_execution.specs.declared.executable.PlacedOperation.{PlacedOperation}
use Rattle.cc_execution.specs.Operations.{loaded}
use Rattle.cc_execution.specs.Step.{placed_at}
use Rattle.cc_machine_next.specs.declared.tables.Entry.{Entry}
use Rattle.cc_machine_next.specs.declared.tables.MethodEntry.{MethodEntry}
use Rattle.cc_machine_next.specs.declared.tables.Tables.{Tables}

abbrev pub entry_of : PlacedOperation → Entry
entry_of p = record { operation = p.operation; next = p.next }

-- the entry of each operation stands at its offset
abbrev pub AreEntries : List PlacedOperation → List Entry → Type 0
AreEntries operations entries = (at : ℕ) (p : PlacedOperation) → placed_at operations at ≡ Some p → slice_get entries at ≡ Some (entry_of p)

-- the entry of a method has what its frames have, and its operations
pub record IsMethodEntry (method : Method) (e : MethodEntry) : Type 0 where
  pub parameters : e.parameters ≡ loaded method.parameters
  pub locals : e.locals ≡ method.locals
  pub result : e.result ≡ method.result
  pub max_stack : e.max_stack ≡ method.max_stack
  pub operations : AreEntries method.operations e.entries

-- one for each method, in order
pub record IsTable (x : Executable) (t : Tables) : Type 0 where
  pub each : (n : ℕ) (method : Method) → slice_get x.methods n ≡ Some method → (e : MethodEntry) × (slice_get t.methods n ≡ Some e) × IsMethodEntry method e

-- no method has a handler
pub record HasNoClauses (x : Executable) : Type 0 where
  pub each : (n : ℕ) (method : Method) → slice_get x.methods n ≡ Some method → method.clauses ≡ []
