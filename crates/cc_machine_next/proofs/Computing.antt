-- Operators on the two values on top.
use Rattle.std.proofs.Common.{◌≡◌, ℕ, List, [], ◌∷◌, refl, sym, ap, ◌∙◌, subst}
use Rattle.std.specs.Prelude.{Bool, Some}
use Rattle.cc_base.specs.declared.identifiers.ClassId.{ClassId}
use Rattle.cc_core.specs.declared.state.Computed.{Computed}
use Rattle.cc_core.specs.declared.state.Computed.TheVariants as computing
use Rattle.cc_core.specs.declared.types.Operator.{Operator}
use Rattle.cc_core.specs.declared.world.Value.{Value}
use Rattle.cc_core.specs.Numbers.{is_true}
use Rattle.cc_execution.specs.declared.executable.Executable.{Executable}
use Rattle.cc_execution.specs.declared.operation.Operation.TheVariants as does
use Rattle.cc_execution.specs.Numbers.{operated}
use Rattle.cc_execution.specs.Step.{act, given, popping_two, on_computed, goes_to, branch_on}
use Rattle.cc_machine_next.specs.Frames.{Frames, pushed}
use Rattle.cc_machine_next.specs.RunState.{state_with, world_with, IsFine}
use Rattle.cc_machine_next.proofs.Operations.{given_some, TwoOnTop}

below_top : List Value → List Value
below_top [] = []
below_top (v ∷ rest) = rest

-- the value below the one that was popped
pub next_on_top : (f f1 : Frames) (b : Value) → f ≡ pushed b f1 → TwoOnTop f.now.stack → (v : Value) × (rest : List Value) × (f1.now.stack ≡ v ∷ rest)
unfolding below_top
next_on_top f f1 b e two = (two.left, two.rest, ap (λ (z : Frames). below_top z.now.stack) (sym e) ∙ ap below_top two.are)

module _ (x : Executable) (limit : ℕ) (heap : List ClassId) (room : ℕ) (output : List ℕ) where
  -- what was computed goes on as it does without the value that was popped
  same_give : (f1 : Frames) (b : Value) (rest : List Value) (next : ℕ) (c : Computed)
      → on_computed x (state_with (pushed b f1) heap room output) c (λ v. goes_to (state_with (pushed b f1) heap room output) next (v ∷ rest) (world_with f1 heap room output))
      ≡ on_computed x (state_with f1 heap room output) c (λ v. goes_to (state_with f1 heap room output) next (v ∷ rest) (world_with f1 heap room output))
  same_give f1 b rest next (computing.Gives v) = refl
  same_give f1 b rest next (computing.Throws class) = refl

  same_branch : (f2 : Frames) (a b : Value) (target next : ℕ) (c : Computed)
      → on_computed x (state_with (pushed b (pushed a f2)) heap room output) c (λ v. branch_on (state_with (pushed b (pushed a f2)) heap room output) target next f2.now.stack (is_true v))
      ≡ on_computed x (state_with f2 heap room output) c (λ v. branch_on (state_with f2 heap room output) target next f2.now.stack (is_true v))
  same_branch f2 a b target next (computing.Gives v) = refl
  same_branch f2 a b target next (computing.Throws class) = refl

  module _ (f f1 : Frames) (a b : Value) (rest : List Value) (operator : Operator) (signed : Bool) (next : ℕ) (e : f ≡ pushed b f1) (g : f1.now.stack ≡ a ∷ rest) where
    taken : act x limit (does.Compute operator signed) next (state_with f heap room output)
        ≡ given (operated operator signed a b) (λ c. on_computed x (state_with (pushed b f1) heap room output) c (λ v. goes_to (state_with (pushed b f1) heap room output) next (v ∷ rest) (world_with f1 heap room output)))
    taken =
        ap (λ z. act x limit (does.Compute operator signed) next (state_with z heap room output)) e
        ∙ ap (λ z. popping_two (b ∷ z) (λ l r stack. given (operated operator signed l r) (λ c. on_computed x (state_with (pushed b f1) heap room output) c (λ v. goes_to (state_with (pushed b f1) heap room output) next (v ∷ stack) (world_with f1 heap room output))))) g

    pub computes_some : IsFine x (act x limit (does.Compute operator signed) next (state_with f heap room output)) → (c : Computed) × (operated operator signed a b ≡ Some c)
    computes_some fine =
        given_some x (operated operator signed a b) (λ c. on_computed x (state_with (pushed b f1) heap room output) c (λ v. goes_to (state_with (pushed b f1) heap room output) next (v ∷ rest) (world_with f1 heap room output)))
        (subst (IsFine x) taken fine)

    pub computes_as : (c : Computed) → operated operator signed a b ≡ Some c
        → act x limit (does.Compute operator signed) next (state_with f heap room output) ≡ on_computed x (state_with f1 heap room output) c (λ v. goes_to (state_with f1 heap room output) next (v ∷ rest) (world_with f1 heap room output))
    computes_as c s =
        taken ∙ ap (λ z. given z (λ c. on_computed x (state_with (pushed b f1) heap room output) c (λ v. goes_to (state_with (pushed b f1) heap room output) next (v ∷ rest) (world_with f1 heap room output)))) s
        ∙ same_give f1 b rest next c

  module _ (f f1 f2 : Frames) (a b : Value) (operator : Operator) (signed : Bool) (target next : ℕ) (e : f ≡ pushed b f1) (g : f1 ≡ pushed a f2) where
    aimed : act x limit (does.BranchCompare operator signed target) next (state_with f heap room output)
        ≡ given (operated operator signed a b) (λ c. on_computed x (state_with (pushed b (pushed a f2)) heap room output) c (λ v. branch_on (state_with (pushed b (pushed a f2)) heap room output) target next f2.now.stack (is_true v)))
    aimed = ap (λ z. act x limit (does.BranchCompare operator signed target) next (state_with z heap room output)) (e ∙ ap (pushed b) g)

    pub compares_some : IsFine x (act x limit (does.BranchCompare operator signed target) next (state_with f heap room output)) → (c : Computed) × (operated operator signed a b ≡ Some c)
    compares_some fine =
        given_some x (operated operator signed a b) (λ c. on_computed x (state_with (pushed b (pushed a f2)) heap room output) c (λ v. branch_on (state_with (pushed b (pushed a f2)) heap room output) target next f2.now.stack (is_true v)))
        (subst (IsFine x) aimed fine)

    pub compares_as : (c : Computed) → operated operator signed a b ≡ Some c
        → act x limit (does.BranchCompare operator signed target) next (state_with f heap room output) ≡ on_computed x (state_with f2 heap room output) c (λ v. branch_on (state_with f2 heap room output) target next f2.now.stack (is_true v))
    compares_as c s =
        aimed ∙ ap (λ z. given z (λ c. on_computed x (state_with (pushed b (pushed a f2)) heap room output) c (λ v. branch_on (state_with (pushed b (pushed a f2)) heap room output) target next f2.now.stack (is_true v)))) s
        ∙ same_branch f2 a b target next c
