-- What each operation does to the frames, where its step is fine.
use Rattle.std.proofs.Common.{◌≡◌, ℕ, ◌+◌, ◌<◌, ◌≤◌, List, [], ◌∷◌, length, refl, sym, ap, ◌∙◌, subst, arith}
use Rattle.std.specs.Prelude.{Bool, true, false, Option, Some, None, slice_get, nat_lt, if◌then◌else◌}
use Rattle.std.proofs.lemmas.Bool.{lt-ltb, ltb-true}
use Rattle.cc_base.specs.declared.identifiers.ClassId.{ClassId}
use Rattle.cc_core.specs.declared.types.Operator.{Operator}
use Rattle.cc_core.specs.declared.types.UnaryOperator.{UnaryOperator}
use Rattle.cc_core.specs.declared.world.Value.{Value}
use Rattle.cc_core.specs.Numbers.{computed_alone, is_true}
use Rattle.cc_execution.specs.declared.executable.Executable.{Executable}
use Rattle.cc_execution.specs.declared.operation.FundamentalType.{FundamentalType}
use Rattle.cc_execution.specs.declared.operation.Operation.TheVariants as does
use Rattle.cc_execution.specs.Fundamental.{stored}
use Rattle.cc_execution.specs.Numbers.{operated, conversion}
use Rattle.cc_execution.specs.State.{Next, Goes, Stuck}
use Rattle.cc_execution.specs.Step.{act, given, popping, popping_two, goes_to, store, is_truth, branch_on, on_computed, throw_value}
use Rattle.cc_machine_next.specs.Frames.{HeldFrame, Frames, pushed, with_stack, with_variable, gone_to}
use Rattle.cc_machine_next.specs.RunState.{state_with, world_with, FitsMethod, IsFine, ReachFor, HasRoom}

-- ---- what a fine step tells

pub given_some : {A : Type 0} (x : Executable) (a : Option A) (go : A → Next) → IsFine x (given a go) → (y : A) × (a ≡ Some y)
given_some x None go h = absurd h
given_some x (Some y) go h = (y, refl)

pub one_on_top : (x : Executable) (stack : List Value) (go : Value → List Value → Next) → IsFine x (popping stack go) → (v : Value) × (rest : List Value) × (stack ≡ v ∷ rest)
one_on_top x [] go h = absurd h
one_on_top x (v ∷ rest) go h = (v, rest, refl)

pub record TwoOnTop (stack : List Value) : Type 0 where
  pub right : Value
  pub left : Value
  pub rest : List Value
  pub are : stack ≡ right ∷ left ∷ rest

pub two_on_top : (x : Executable) (stack : List Value) (go : Value → Value → List Value → Next) → IsFine x (popping_two stack go) → TwoOnTop stack
two_on_top x [] go h = absurd h
two_on_top x (b ∷ []) go h = absurd h
two_on_top x (b ∷ a ∷ rest) go h = record { right = b; left = a; rest = rest; are = refl }

-- the cells reach for a stack that fits its method
pub room_for : (x : Executable) (f : HeldFrame) (size height : ℕ) → ReachFor x size f → FitsMethod (slice_get x.methods f.method) height → f.floor + height ≤ size
room_for x f size height (m, e, h) fits = let low : height ≤ m.max_stack = subst (λ o. FitsMethod o height) e fits in omega (arith, h, low)

-- other variables, another stack and another offset of the innermost frame
pub room_kept : (x : Executable) (f g : Frames) (at : ℕ) (variables stack : List Value) → g ≡ record f { now = record f.now { at = at; variables = variables; stack = stack } } → HasRoom x f → HasRoom x g
room_kept x f g at variables stack e h = subst (HasRoom x) (sym e) (record { now = h.now; below = h.below })

pub room_popped : (x : Executable) (f f1 : Frames) (v : Value) → f ≡ pushed v f1 → HasRoom x f → HasRoom x f1
room_popped x f f1 v e h = let k = subst (HasRoom x) e h in record { now = k.now; below = k.below }

pub room_gone : (x : Executable) (f g : Frames) (at : ℕ) → g ≡ gone_to at f → HasRoom x f → HasRoom x g
room_gone x f g at e h = subst (HasRoom x) (sym e) (record { now = h.now; below = h.below })

pub room_stack : (x : Executable) (f g : Frames) (stack : List Value) → g ≡ with_stack stack f → HasRoom x f → HasRoom x g
room_stack x f g stack e h = subst (HasRoom x) (sym e) (record { now = h.now; below = h.below })

pub room_variable : (x : Executable) (f g : Frames) (place : ℕ) (v : Value) → g ≡ with_variable place v f → HasRoom x f → HasRoom x g
room_variable x f g place v e h = subst (HasRoom x) (sym e) (record { now = h.now; below = h.below })

abbrev IsSomeHere : {A : Type 0} → Option A → Type 0
IsSomeHere None = ⊥
IsSomeHere (Some a) = Unit {0}

pub never : {A : Type 0} (o : Option A) (a : A) → None ≡ o → o ≡ Some a → ⊥
never o a e f = subst IsSomeHere (sym (e ∙ f)) tt

abbrev IsFalseHere : Bool → Type 0
IsFalseHere true = ⊥
IsFalseHere false = Unit {0}

if_taken : (b : Bool) (p q : Next) → b ≡ true → (if b then p else q) ≡ p
if_taken true p q e = refl
if_taken false p q e = absurd (subst IsFalseHere e tt)

fine_if : (x : Executable) (b : Bool) (p : Next) → IsFine x (if b then p else Stuck) → b ≡ true
fine_if x true p h = refl
fine_if x false p h = absurd h

module _ (x : Executable) (limit : ℕ) (heap : List ClassId) (room : ℕ) (output : List ℕ) where
  -- one value more, and on
  pub pushes : (f f1 f2 : Frames) (v : Value) (at : ℕ) → f1 ≡ pushed v f → f2 ≡ gone_to at f1
      → goes_to (state_with f heap room output) at (v ∷ f.now.stack) (world_with f heap room output) ≡ Goes (state_with f2 heap room output)
  pushes f f1 f2 v at e g = ap (λ z. Goes (state_with (gone_to at z) heap room output)) (sym e) ∙ ap (λ z. Goes (state_with z heap room output)) (sym g)

  pub loads : (f : Frames) (place next : ℕ) (v : Value) → slice_get f.now.variables place ≡ Some v
      → act x limit (does.LoadVariable place) next (state_with f heap room output) ≡ goes_to (state_with f heap room output) next (v ∷ f.now.stack) (world_with f heap room output)
  loads f place next v e = ap (λ z. given z (λ u. goes_to (state_with f heap room output) next (u ∷ f.now.stack) (world_with f heap room output))) e

  module _ (f f1 : Frames) (v : Value) (e : f ≡ pushed v f1) where
    -- the value on top was popped
    popped : (o : Frames → Next) → o f ≡ o (pushed v f1)
    popped o = ap o e

    pub stores : (f2 f3 : Frames) (held : Value) (place next : ℕ) (of : FundamentalType) → stored of v ≡ Some held → place < length f1.now.variables → f2 ≡ with_variable place held f1 → f3 ≡ gone_to next f2
        → act x limit (does.StoreVariable place of) next (state_with f heap room output) ≡ Goes (state_with f3 heap room output)
    stores f2 f3 held place next of s l g h =
        popped (λ z. act x limit (does.StoreVariable place of) next (state_with z heap room output))
        ∙ ap (λ z. given z (λ u. store place u (world_with f1 heap room output) (goes_to (state_with f1 heap room output) next f1.now.stack))) s
        ∙ if_taken (nat_lt place (length f1.now.variables)) (Goes (state_with (gone_to next (with_variable place held f1)) heap room output)) Stuck (lt-ltb place (length f1.now.variables) l)
        ∙ ap (λ z. Goes (state_with (gone_to next z) heap room output)) (sym g) ∙ ap (λ z. Goes (state_with z heap room output)) (sym h)

    pub stores_fine : (held : Value) (place next : ℕ) (of : FundamentalType) → stored of v ≡ Some held → IsFine x (act x limit (does.StoreVariable place of) next (state_with f heap room output)) → place < length f1.now.variables
    stores_fine held place next of s fine =
        let there = subst (IsFine x) (popped (λ z. act x limit (does.StoreVariable place of) next (state_with z heap room output))
        ∙ ap (λ z. given z (λ u. store place u (world_with f1 heap room output) (goes_to (state_with f1 heap room output) next f1.now.stack))) s) fine in
        ltb-true place (length f1.now.variables) (fine_if x (nat_lt place (length f1.now.variables)) (Goes (state_with (gone_to next (with_variable place held f1)) heap room output)) there)

    pub stores_some : (place next : ℕ) (of : FundamentalType) → IsFine x (act x limit (does.StoreVariable place of) next (state_with f heap room output)) → (held : Value) × (stored of v ≡ Some held)
    stores_some place next of fine =
        given_some x (stored of v) (λ u. store place u (world_with f1 heap room output) (goes_to (state_with f1 heap room output) next f1.now.stack))
        (subst (IsFine x) (popped (λ z. act x limit (does.StoreVariable place of) next (state_with z heap room output))) fine)

    pub drops : (f2 : Frames) (next : ℕ) → f2 ≡ gone_to next f1 → act x limit does.Pop next (state_with f heap room output) ≡ Goes (state_with f2 heap room output)
    drops f2 next g = popped (λ z. act x limit does.Pop next (state_with z heap room output)) ∙ ap (λ z. Goes (state_with z heap room output)) (sym g)

    pub branches : (f2 : Frames) (truth taken : Bool) (target next at : ℕ) → taken ≡ is_truth truth v → at ≡ (if taken then target else next) → f2 ≡ gone_to at f1
        → act x limit (does.BranchIf truth target) next (state_with f heap room output) ≡ Goes (state_with f2 heap room output)
    branches f2 truth taken target next at t a g =
        popped (λ z. act x limit (does.BranchIf truth target) next (state_with z heap room output))
        ∙ ap (λ z. Goes (state_with (gone_to z f1) heap room output)) (sym (a ∙ ap (λ b. if b then target else next) t)) ∙ ap (λ z. Goes (state_with z heap room output)) (sym g)

  -- a value in the place of the one on top
  module _ (f f1 f2 : Frames) (v held : Value) (rest : List Value) (next : ℕ) (e : f.now.stack ≡ v ∷ rest) (g : f1 ≡ with_stack (held ∷ rest) f) (h : f2 ≡ gone_to next f1) where
    pub put : goes_to (state_with f heap room output) next (held ∷ rest) (world_with f heap room output) ≡ Goes (state_with f2 heap room output)
    put = ap (λ z. Goes (state_with (gone_to next z) heap room output)) (sym g) ∙ ap (λ z. Goes (state_with z heap room output)) (sym h)

    pub computes_alone : (operator : UnaryOperator) → computed_alone operator v ≡ Some held → act x limit (does.ComputeAlone operator) next (state_with f heap room output) ≡ Goes (state_with f2 heap room output)
    computes_alone operator s =
        ap (λ z. popping z (λ a stack. given (computed_alone operator a) (λ u. goes_to (state_with f heap room output) next (u ∷ stack) (world_with f heap room output)))) e
        ∙ ap (λ z. given z (λ u. goes_to (state_with f heap room output) next (u ∷ rest) (world_with f heap room output))) s ∙ put

    pub converts : (to : FundamentalType) → conversion to v ≡ Some held → act x limit (does.Convert to) next (state_with f heap room output) ≡ Goes (state_with f2 heap room output)
    converts to s =
        ap (λ z. popping z (λ a stack. given (conversion to a) (λ u. goes_to (state_with f heap room output) next (u ∷ stack) (world_with f heap room output)))) e
        ∙ ap (λ z. given z (λ u. goes_to (state_with f heap room output) next (u ∷ rest) (world_with f heap room output))) s ∙ put

  module _ (f : Frames) (v : Value) (rest : List Value) (next : ℕ) (e : f.now.stack ≡ v ∷ rest) where
    pub alone_some : (operator : UnaryOperator) → IsFine x (act x limit (does.ComputeAlone operator) next (state_with f heap room output)) → (held : Value) × (computed_alone operator v ≡ Some held)
    alone_some operator fine =
        given_some x (computed_alone operator v) (λ u. goes_to (state_with f heap room output) next (u ∷ rest) (world_with f heap room output))
        (subst (λ z. IsFine x (popping z (λ a stack. given (computed_alone operator a) (λ u. goes_to (state_with f heap room output) next (u ∷ stack) (world_with f heap room output))))) e fine)

    pub conversion_some : (to : FundamentalType) → IsFine x (act x limit (does.Convert to) next (state_with f heap room output)) → (held : Value) × (conversion to v ≡ Some held)
    conversion_some to fine =
        given_some x (conversion to v) (λ u. goes_to (state_with f heap room output) next (u ∷ rest) (world_with f heap room output))
        (subst (λ z. IsFine x (popping z (λ a stack. given (conversion to a) (λ u. goes_to (state_with f heap room output) next (u ∷ stack) (world_with f heap room output))))) e fine)

    -- the value on top once more
    pub duplicates : act x limit does.Duplicate next (state_with f heap room output) ≡ goes_to (state_with f heap room output) next (v ∷ v ∷ rest) (world_with f heap room output)
    duplicates = ap (λ z. popping z (λ u stack. goes_to (state_with f heap room output) next (u ∷ u ∷ stack) (world_with f heap room output))) e

  -- ---- the operations that take a value have one on top
  module _ (f : Frames) where
    pub stores_top : (place next : ℕ) (of : FundamentalType) → IsFine x (act x limit (does.StoreVariable place of) next (state_with f heap room output)) → (v : Value) × (rest : List Value) × (f.now.stack ≡ v ∷ rest)
    stores_top place next of fine = one_on_top x f.now.stack (λ v stack. given (stored of v) (λ held. store place held (world_with f heap room output) (goes_to (state_with f heap room output) next stack))) fine

    pub duplicates_top : (next : ℕ) → IsFine x (act x limit does.Duplicate next (state_with f heap room output)) → (v : Value) × (rest : List Value) × (f.now.stack ≡ v ∷ rest)
    duplicates_top next fine = one_on_top x f.now.stack (λ v stack. goes_to (state_with f heap room output) next (v ∷ v ∷ stack) (world_with f heap room output)) fine

    pub drops_top : (next : ℕ) → IsFine x (act x limit does.Pop next (state_with f heap room output)) → (v : Value) × (rest : List Value) × (f.now.stack ≡ v ∷ rest)
    drops_top next fine = one_on_top x f.now.stack (λ v stack. goes_to (state_with f heap room output) next stack (world_with f heap room output)) fine

    pub branches_top : (truth : Bool) (target next : ℕ) → IsFine x (act x limit (does.BranchIf truth target) next (state_with f heap room output)) → (v : Value) × (rest : List Value) × (f.now.stack ≡ v ∷ rest)
    branches_top truth target next fine = one_on_top x f.now.stack (λ v stack. branch_on (state_with f heap room output) target next stack (is_truth truth v)) fine

    pub alone_top : (operator : UnaryOperator) (next : ℕ) → IsFine x (act x limit (does.ComputeAlone operator) next (state_with f heap room output)) → (v : Value) × (rest : List Value) × (f.now.stack ≡ v ∷ rest)
    alone_top operator next fine = one_on_top x f.now.stack (λ a stack. given (computed_alone operator a) (λ u. goes_to (state_with f heap room output) next (u ∷ stack) (world_with f heap room output))) fine

    pub conversion_top : (to : FundamentalType) (next : ℕ) → IsFine x (act x limit (does.Convert to) next (state_with f heap room output)) → (v : Value) × (rest : List Value) × (f.now.stack ≡ v ∷ rest)
    conversion_top to next fine = one_on_top x f.now.stack (λ a stack. given (conversion to a) (λ u. goes_to (state_with f heap room output) next (u ∷ stack) (world_with f heap room output))) fine

    pub throws_top : (next : ℕ) → IsFine x (act x limit does.Throw next (state_with f heap room output)) → (v : Value) × (rest : List Value) × (f.now.stack ≡ v ∷ rest)
    throws_top next fine = one_on_top x f.now.stack (λ v stack. throw_value x v (state_with f heap room output)) fine

    pub computes_top : (operator : Operator) (signed : Bool) (next : ℕ) → IsFine x (act x limit (does.Compute operator signed) next (state_with f heap room output)) → TwoOnTop f.now.stack
    computes_top operator signed next fine =
        two_on_top x f.now.stack (λ a b stack. given (operated operator signed a b) (λ c. on_computed x (state_with f heap room output) c (λ v. goes_to (state_with f heap room output) next (v ∷ stack) (world_with f heap room output)))) fine

    pub compares_top : (operator : Operator) (signed : Bool) (target next : ℕ) → IsFine x (act x limit (does.BranchCompare operator signed target) next (state_with f heap room output)) → TwoOnTop f.now.stack
    compares_top operator signed target next fine =
        two_on_top x f.now.stack (λ a b stack. given (operated operator signed a b) (λ c. on_computed x (state_with f heap room output) c (λ v. branch_on (state_with f heap room output) target next stack (is_true v)))) fine

-- two numbers are two on top, the one first
pub first_of_two : (stack : List Value) → TwoOnTop stack → (v : Value) × (rest : List Value) × (stack ≡ v ∷ rest)
first_of_two stack two = (two.right, two.left ∷ two.rest, two.are)
