-- One step: the operation that is next.
use Rattle.std.proofs.Common.{◌≡◌, ℕ, sym, ap, ◌∙◌}
use Rattle.std.specs.Prelude.{Some}
use Rattle.cc_execution.specs.declared.executable.Executable.{Executable}
use Rattle.cc_execution.specs.declared.executable.PlacedOperation.{PlacedOperation}
use Rattle.cc_execution.specs.State.{State}
use Rattle.cc_execution.specs.Step.{act, given, placed_in, step}
use Rattle.cc_machine_next.specs.declared.tables.Entry.{Entry}
use Rattle.cc_machine_next.specs.RunState.{IsFine}
use Rattle.cc_machine_next.specs.Tables.{entry_of}
use Rattle.cc_machine_next.proofs.Operations.{given_some}

module _ (x : Executable) (limit : ℕ) (s : State) (fine : IsFine x (step x limit s)) (method at : ℕ) (m : method ≡ s.now.method) (a : at ≡ s.now.at) where
  same : placed_in x method at ≡ placed_in x s.now.method s.now.at
  same = ap (λ k. placed_in x k at) m ∙ ap (λ k. placed_in x s.now.method k) a

  -- an operation stands there
  pub placed : (p : PlacedOperation) × (placed_in x method at ≡ Some p)
  placed = let p = given_some x (placed_in x s.now.method s.now.at) (λ p. act x limit p.operation p.next s) fine in (p.0, same ∙ p.1)

  -- and the step is what it does
  pub steps : (p : PlacedOperation) → placed_in x method at ≡ Some p → (e : Entry) → e ≡ entry_of p → step x limit s ≡ act x limit e.operation e.next s
  steps p there e is =
      ap (λ o. given o (λ q. act x limit q.operation q.next s)) (sym same ∙ there) ∙ ap (λ (z : Entry). act x limit z.operation z.next s) (sym is)
