-- What is printed.
use Rattle.std.proofs.Common.{◌≡◌, ℕ, List, ◌∷◌, ◌++◌, sym, ap, ◌∙◌, subst}
use Rattle.std.specs.Prelude.{Some}
use Rattle.cc_base.specs.declared.identifiers.ClassId.{ClassId}
use Rattle.cc_core.specs.declared.library_call.Printed.{Printed}
use Rattle.cc_core.specs.declared.world.Value.{Value}
use Rattle.cc_core.specs.LibraryCalls.{printed_bytes}
use Rattle.cc_core.specs.Run.{with_output}
use Rattle.cc_execution.specs.declared.executable.Executable.{Executable}
use Rattle.cc_execution.specs.Fundamental.{stored}
use Rattle.cc_execution.specs.State.{Goes}
use Rattle.cc_execution.specs.Step.{given, goes_to, printed_type, print, print_value}
use Rattle.cc_machine_next.specs.Frames.{Frames, pushed, gone_to}
use Rattle.cc_machine_next.specs.RunState.{state_with, world_with, IsFine}
use Rattle.cc_machine_next.proofs.Operations.{given_some, one_on_top}

-- the argument as its parameter holds it, and its text
pub record Argument (of : Printed) (v : Value) : Type 0 where
  pub held : Value
  pub bytes : List ℕ
  pub is_stored : stored (printed_type of) v ≡ Some held
  pub is_text : printed_bytes of held ≡ Some bytes

module _ (x : Executable) (heap : List ClassId) (room : ℕ) (output : List ℕ) (of : Printed) (behind : List ℕ) (next : ℕ) where
  pub prints_top : (f : Frames) → IsFine x (print_value of behind next (state_with f heap room output)) → (v : Value) × (rest : List Value) × (f.now.stack ≡ v ∷ rest)
  prints_top f fine =
      one_on_top x f.now.stack (λ v stack. given (stored (printed_type of) v) (λ argument. print (state_with f heap room output) next stack (printed_bytes of argument) behind)) fine

  module _ (f f1 : Frames) (v : Value) (e : f ≡ pushed v f1) where
    prints_popped : print_value of behind next (state_with f heap room output)
        ≡ given (stored (printed_type of) v) (λ argument. print (state_with (pushed v f1) heap room output) next f1.now.stack (printed_bytes of argument) behind)
    prints_popped = ap (λ z. print_value of behind next (state_with z heap room output)) e

    pub argument : IsFine x (print_value of behind next (state_with f heap room output)) → Argument of v
    argument fine =
        let a = given_some x (stored (printed_type of) v) (λ argument. print (state_with (pushed v f1) heap room output) next f1.now.stack (printed_bytes of argument) behind) (subst (IsFine x) prints_popped fine) in
        let go = λ (argument : Value). print (state_with (pushed v f1) heap room output) next f1.now.stack (printed_bytes of argument) behind in
        let t = given_some x (printed_bytes of a.0) (λ bytes. goes_to (state_with (pushed v f1) heap room output) next f1.now.stack (with_output (bytes ++ behind) (world_with f1 heap room output)))
        (subst (IsFine x) (prints_popped ∙ ap (λ o. given o go) a.1) fine) in
        record { held = a.0; bytes = t.0; is_stored = a.1; is_text = t.1 }

    pub prints : (a : Argument of v) (f2 : Frames) (output2 : List ℕ) → f2 ≡ gone_to next f1 → output2 ≡ output ++ (a.bytes ++ behind)
        → print_value of behind next (state_with f heap room output) ≡ Goes (state_with f2 heap room output2)
    prints a f2 output2 g h =
        prints_popped ∙ ap (λ o. given o (λ argument. print (state_with (pushed v f1) heap room output) next f1.now.stack (printed_bytes of argument) behind)) a.is_stored
        ∙ ap (λ o. print (state_with (pushed v f1) heap room output) next f1.now.stack o behind) a.is_text
        ∙ ap (λ l. Goes (state_with (gone_to next f1) heap room l)) (sym h) ∙ ap (λ z. Goes (state_with z heap room output2)) (sym g)
