-- Lists of terms, statements and sections as parts of a tree.
use Rattle.std.proofs.Common.{◌≡◌, ℕ, List, [], Ok, ap, sym, ◌∙◌}
use Rattle.std.specs.declared.alloc.Global.{Global}
use Rattle.std.specs.declared.boxed.Box.{Box}
use Rattle.cc_base.specs.declared.identifiers.LocalId.{LocalId}
use Rattle.cc_base.specs.declared.identifiers.MethodId.{MethodId}
use Rattle.cc_core.specs.declared.library_call.LibraryCall.{LibraryCall}
use Rattle.cc_core.specs.declared.state.State.{State}
use Rattle.cc_core.specs.declared.tree.Dispatch.{Dispatch}
use Rattle.cc_core.specs.declared.tree.Expression.{Expression}
use Rattle.cc_core.specs.declared.tree.Expression.TheVariants as e
use Rattle.cc_core.specs.declared.tree.Section.{Section}
use Rattle.cc_core.specs.declared.tree.Statement.{Statement}
use Rattle.cc_core.specs.declared.tree.Statement.TheVariants as st
use Rattle.cc_core.specs.declared.types.ClassInfo.{ClassInfo}
use Rattle.cc_core.specs.declared.types.CoreType.{CoreType}
use Rattle.cc_core.specs.declared.world.Value.{Value}
use Rattle.cc_core.specs.Types.{bare}
use Rattle.cc_core.specs.Term as t
use Rattle.cc_core.specs.Step as step
use Rattle.cc_core.specs.Bare.{term_of, step_of}
use Rattle.cc_core.specs.Lists.{terms_of, steps_of, sections_of, row_terms-hidden, row_steps-hidden, row_sections-hidden}
use Rattle.cc_core.specs.LibraryCalls.{library}
use Rattle.cc_core.specs.Run.{Calls, Ran, tick, bind, write_local}
use Rattle.cc_core.specs.Outcome.{outcome_of, scope_of}
use Rattle.cc_core.specs.Value.{value_of, values_of, dispatched}

module _ (w : List ClassInfo) (k : Calls) (s : State) where
  pub call_on : (x : Expression) (u : CoreType) (m : MethodId) (d : Dispatch) (l : List Expression) → x ≡ e.Call u m d l → value_of w k (term_of x) s ≡ bind (values_of w k (terms_of l) [] (tick s)) (dispatched k d m)
  call_on x u m d l p =
      ap (λ y. value_of w k (term_of y) s) p ∙ ap (λ y. value_of w k (t.Call (bare u) m d y) s) (row_terms-hidden l)

  pub library_on : (x : Expression) (u : CoreType) (c : LibraryCall) (l : List Expression) → x ≡ e.Library u c l → value_of w k (term_of x) s ≡ bind (values_of w k (terms_of l) [] (tick s)) (library c)
  library_on x u c l p =
      ap (λ y. value_of w k (term_of y) s) p ∙ ap (λ y. value_of w k (t.Library (bare u) c y) s) (row_terms-hidden l)

  pub let_on : (x : Expression) (u : CoreType) (local : LocalId) (a b : Box Expression Global) (first second : Expression) (v : Value) (s1 s2 : State)
      → x ≡ e.Let u local a b → first ≡ a.value → second ≡ b.value → s1 ≡ tick s → (Ok v, s2) ≡ value_of w k (term_of first) s1
      → bind (write_local local v s2) (λ done. value_of w k (term_of second)) ≡ value_of w k (term_of x) s
  let_on x u local a b first second v s1 s2 p pa pb q r =
      ap (λ (ran : Ran Value). bind ran (λ v s1. bind (write_local local v s1) (λ done. value_of w k (term_of second)))) r
      ∙ ap (λ (s1 : State). bind (value_of w k (term_of first) s1) (λ v s1. bind (write_local local v s1) (λ done. value_of w k (term_of second)))) q
      ∙ ap (λ (y : Expression). bind (value_of w k (term_of y) (tick s)) (λ v s1. bind (write_local local v s1) (λ done. value_of w k (term_of second)))) pa
      ∙ ap (λ (y : Expression). bind (value_of w k (term_of a.value) (tick s)) (λ v s1. bind (write_local local v s1) (λ done. value_of w k (term_of y)))) pb
      ∙ ap (λ (y : Expression). value_of w k (term_of y) s) (sym p)

module _ (w : List ClassInfo) (k : Calls) (n : ℕ) (s : State) where
  pub block_on : (x : Statement) (l : List Statement) → x ≡ st.Block l → outcome_of w k n (step_of x) s ≡ scope_of w k n [] (steps_of l) (tick s)
  block_on x l p = ap (λ y. outcome_of w k n (step_of y) s) p ∙ ap (λ y. outcome_of w k n (step.Block y) s) (row_steps-hidden l)

  pub switch_on : (x : Statement) (local : LocalId) (operand : Expression) (l : List Section) → x ≡ st.Switch local operand l
      → outcome_of w k n (step_of x) s ≡ outcome_of w k n (step.Switch local (term_of operand) (sections_of l)) s
  switch_on x local operand l p = ap (λ y. outcome_of w k n (step_of y) s) p ∙ ap (λ y. outcome_of w k n (step.Switch local (term_of operand) y) s) (row_sections-hidden l)
