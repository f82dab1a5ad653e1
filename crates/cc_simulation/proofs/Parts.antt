-- What the parts of the code of expressions do: variables, branches, and what is dropped.
use Rattle.std.proofs.Common.{◌≡◌, ℕ, zero, suc, ◌+◌, ◌<◌, List, [], ◌∷◌, ◌++◌, length, Bool, true, false, Option, Some, None, refl, sym, ap, ◌∙◌, subst, arith, true≢false, slice_get, slice_set, lt-ltb}
use Rattle.std.specs.Prelude.{Ok, Err, if◌then◌else◌, cond, option_map, ⊤}
use Rattle.cc_base.specs.declared.identifiers.LocalId.{LocalId}
use Rattle.cc_cil.specs.declared.instruction.Instruction.{Instruction}
use Rattle.cc_cil.specs.declared.instruction.Instruction.TheVariants as the
use Rattle.cc_core.specs.declared.state.State.{State}
use Rattle.cc_core.specs.declared.state.Stop.TheVariants.{Wrong}
use Rattle.cc_core.specs.declared.types.Operator.{Operator}
use Rattle.cc_core.specs.declared.world.Value.{Value}
use Rattle.cc_core.specs.declared.world.World.{World}
use Rattle.cc_core.specs.Numbers.{is_true}
use Rattle.cc_core.specs.Run as run
use Rattle.cc_core.specs.Run.{Ran, Does, Calls, bind, gives, tick, in_world, with_variable, with_output, read_local, write_local, write_target, convert, operate, by_truth, truth_value}
use Rattle.cc_core.specs.Typed.{is_number, is_promoted, compares, shifts, result_of, FitsRight}
use Rattle.cc_core.specs.Types as type
use Rattle.cc_core.specs.Types.{BareType}
use Rattle.cc_code.specs.declared.tokens.Tokens.{Tokens}
use Rattle.cc_code.specs.Instructions.{width, bytes, branches, ahead}
use Rattle.cc_code.specs.Operators.{load, store, drop_value}
use Rattle.cc_code.specs.Sizes.{drop_size}
use Rattle.cc_simulation.proofs.Targets.{ahead_lands}
use Rattle.cc_execution.specs.declared.operation.Operation.TheVariants as does
use Rattle.cc_execution.specs.Operations.{natural}
use Rattle.cc_execution.specs.State.{Next}
use Rattle.cc_execution.specs.State as machine
use Rattle.cc_execution.specs.Step.{given, placed_in, printed_type}
use Rattle.cc_execution.specs.Step as step
use Rattle.cc_simulation.specs.Known.{Knows}
use Rattle.cc_simulation.specs.Sites.{Site, StandsAt, HasAt, Fine, Good, go, state_at, placed}
use Rattle.cc_simulation.specs.Values.{IsOf, AreOf, pushed, pushed_each}
use Rattle.cc_simulation.proofs.Operators.{promoted_number}
use Rattle.cc_simulation.proofs.Ranges.{stored_is}
use Rattle.cc_simulation.proofs.Steps.{did, stays, more, at_same, meant_same, onward}

-- ---- places

pub has_front : (h : Site) (at : ℕ) (a b : List Instruction) → HasAt h at (a ++ b) → HasAt h at a
has_front h at [] b p = tt
has_front h at (i ∷ a) b p = (p.0, has_front h (at + width i) a b p.1)

pub has_back : (h : Site) (at next : ℕ) (a b : List Instruction) → at + bytes a ≡ next → HasAt h at (a ++ b) → HasAt h next b
has_back h at next [] b e p = let f : at ≡ next = omega arith in subst (λ (n : ℕ). HasAt h n b) f p
has_back h at next (i ∷ a) b e p = let f : at + width i + bytes a ≡ next = omega arith in has_back h (at + width i) next a b f p.1

-- ---- variables

pub record Held (variables : List Value) (y : ℕ) (of : BareType) : Type 0 where
  pub value : Value
  pub is : slice_get variables y ≡ Some value
  pub fits : IsOf of value

pub none_some : {A B : Type 0} (a : A) → None ≡ Some a → B
none_some {A} {B} a e = absurd (subst (λ (o : Option A). elim o as (λ (o : Option A). Type 0) [ None ↦ ⊤ | Some b ↦ ⊥ ]) e tt)

pub are_get : (types : List BareType) (vs : List Value) (y : ℕ) (of : BareType) → AreOf types vs → slice_get types y ≡ Some of → Held vs y of
are_get [] vs y of p e = none_some of e
are_get (t ∷ types) [] y of p e = absurd p
are_get (t ∷ types) (v ∷ vs) zero of p e = record { value = v; is = refl; fits = subst (λ (o : Option BareType). elim o as (λ (o : Option BareType). Type 0) [ None ↦ ⊤ | Some t ↦ IsOf t v ]) e p.0 }
are_get (t ∷ types) (v ∷ vs) (suc y) of p e = let g = are_get types vs y of p.1 e in record { value = g.value; is = g.is; fits = g.fits }

pub are_set : (types : List BareType) (vs : List Value) (y : ℕ) (of : BareType) (u : Value) → AreOf types vs → slice_get types y ≡ Some of → IsOf of u → AreOf types (slice_set vs y u)
are_set [] vs y of u p e q = none_some of e
are_set (t ∷ types) [] y of u p e q = absurd p
are_set (t ∷ types) (v ∷ vs) zero of u p e q = (subst (λ (o : Option BareType). elim o as (λ (o : Option BareType). Type 0) [ None ↦ ⊤ | Some t ↦ IsOf t u ]) (sym e) q, p.1)
are_set (t ∷ types) (v ∷ vs) (suc y) of u p e q = (p.0, are_set types vs y of u p.1 e q)

pub are_within : (types : List BareType) (vs : List Value) (y : ℕ) (of : BareType) → AreOf types vs → slice_get types y ≡ Some of → y < length vs
are_within [] vs y of p e = none_some of e
are_within (t ∷ types) [] y of p e = absurd p
are_within (t ∷ types) (v ∷ vs) zero of p e = omega arith
are_within (t ∷ types) (v ∷ vs) (suc y) of p e = let l = are_within types vs y of p.1 e in omega arith

-- ---- values on the stack

pub pushed_is : (of : BareType) (v : Value) (stack : List Value) → is_number of ≡ true → pushed of v stack ≡ v ∷ stack
pushed_is type.Bool v stack h = refl
pushed_is type.Char v stack h = refl
pushed_is type.I8 v stack h = refl
pushed_is type.U8 v stack h = refl
pushed_is type.I16 v stack h = refl
pushed_is type.U16 v stack h = refl
pushed_is type.I32 v stack h = refl
pushed_is type.U32 v stack h = refl
pushed_is type.I64 v stack h = refl
pushed_is type.U64 v stack h = refl
pushed_is _ v stack h = absurd (true≢false (sym h))

pub pushed_last : (vs stack : List Value) (v : Value) → pushed_each (vs ++ v ∷ []) stack ≡ v ∷ pushed_each vs stack
pushed_last [] stack v = refl
pushed_last (u ∷ vs) stack v = pushed_last vs (u ∷ stack) v

pub are_append : (types : List BareType) (vs : List Value) (of : BareType) (v : Value) → AreOf types vs → IsOf of v → AreOf (types ++ of ∷ []) (vs ++ v ∷ [])
are_append [] [] of v p q = (q, tt)
are_append [] (u ∷ vs) of v p q = absurd p
are_append (t ∷ types) [] of v p q = absurd p
are_append (t ∷ types) (u ∷ vs) of v p q = (p.0, are_append types vs of v p.1 q)

pub result_number : (operator : Operator) (of : BareType) → is_promoted of ≡ true → is_number (result_of operator of) ≡ true
result_number operator of p = by (compares operator)
  where
    by : (c : Bool) → is_number (cond c type.Bool of) ≡ true
    by true = refl
    by false = promoted_number of p

pub right_number : (operator : Operator) (left right : BareType) → is_promoted left ≡ true → FitsRight operator left right → is_number right ≡ true
right_number operator left right p = by (shifts operator)
  where
    by : (c : Bool) → cond c (is_promoted right ≡ true) (right ≡ left) → is_number right ≡ true
    by true q = promoted_number right q
    by false q = subst (λ (t : BareType). is_number t ≡ true) (sym q) (promoted_number left p)

-- ---- steps

module _ (h : Site) where
  -- the value of an expression of a type, where it leads to
  abbrev pub EndsAt : ℕ → Next → ℕ → BareType → List Value → ℕ → Ran Value → Type 0
  EndsAt b from end of stack work ran = StandsAt h.set b from (λ (v : Value) (w : World). go h end (pushed of v stack) w) (Good h of) work ran

  -- the value of an expression of a type of numbers
  abbrev pub NumberAt : ℕ → Next → ℕ → BareType → List Value → ℕ → Ran Value → Type 0
  NumberAt b from end of stack work ran = StandsAt h.set b from (λ (v : Value) (w : World). go h end (v ∷ stack) w) (Good h of) work ran

  pub as_number : (b : ℕ) (from : Next) (end : ℕ) (of : BareType) (stack : List Value) (work : ℕ) (ran : Ran Value) → is_number of ≡ true → EndsAt b from end of stack work ran → NumberAt b from end of stack work ran
  as_number b from end of stack work ran num m =
      subst (λ (ends : Value → World → Next). StandsAt h.set b from ends (Good h of) work ran) (λ i v w. go h end (pushed_is of v stack num i) w) m

  pub of_number : (b : ℕ) (from : Next) (end : ℕ) (of : BareType) (stack : List Value) (work : ℕ) (ran : Ran Value) → is_number of ≡ true → NumberAt b from end of stack work ran → EndsAt b from end of stack work ran
  of_number b from end of stack work ran num m =
      subst (λ (ends : Value → World → Next). StandsAt h.set b from ends (Good h of) work ran) (λ i v w. go h end (sym (pushed_is of v stack num) i) w) m

  -- a part, and then a branch
  pub then_branch : {A : Type 0} {good : A → World → Type 0} {from : Next} {w0 : ℕ} {ran : Ran A} (b at end : ℕ) (stack : A → List Value) → StandsAt h.set b from (λ (a : A) (w : World). go h at (stack a) w) good w0 ran
      → placed_in h.set.x h.method at ≡ Some (record { at = at; operation = does.Branch end; next = at + 5 }) → StandsAt h.set (b + 1) from (λ (a : A) (w : World). go h end (stack a) w) good w0 ran
  then_branch {A} b at end stack m p =
      onward h.set.x h.set.classes h.set.frames (λ (ran : Ran A). ran) (λ e s. refl) b 1 m
      (λ a s g. did h.set.x h.set.classes h.set.frames (state_at h at (stack a) s.world) (record { at = at; operation = does.Branch end; next = at + 5 }) p (stays h.set.x h.set.classes h.set.frames {b = 0} a s g refl))

  -- behind a condition one of two lists of instructions
  pub branches_stand : {A : Type 0} {ends : A → World → Next} {good : A → World → Type 0} (b at n m end : ℕ) (first second : List Instruction) (v : Value) (stack : List Value) (s : State) (f g : Does A)
      → bytes second ≡ m → at + n + m + 10 ≡ end → HasAt h at (branches n first m second)
      → (HasAt h (at + m + 10) first → StandsAt h.set b (go h (at + m + 10) stack s.world) ends good s.work (f s))
      → (HasAt h (at + 5) second → placed_in h.set.x h.method (at + 5 + m) ≡ Some (record { at = at + 5 + m; operation = does.Branch end; next = at + 5 + m + 5 }) → StandsAt h.set b (go h (at + 5) stack s.world) ends good s.work (g s))
      → StandsAt h.set (suc b) (go h at (v ∷ stack) s.world) ends good s.work (by_truth v f g s)
  branches_stand {A} {ends} {good} b at n m end first second v stack s f g size e has one other =
      did h.set.x h.set.classes h.set.frames (state_at h at (v ∷ stack) s.world) (record { at = at; operation = does.BranchIf true (at + m + 10); next = at + 5 })
      (has.0 ∙ ap (λ z. placed at (at + 5) (option_map (does.BranchIf true) (natural z))) (ahead_lands (at + 5) (m + 5) (at + m + 10) (omega arith)))
      (by (is_true v))
    where
      behind : HasAt h (at + 5 + m) (the.Branch (ahead n) ∷ first)
      behind = has_back h (at + 5) (at + 5 + m) second (the.Branch (ahead n) ∷ first) (ap (λ (n : ℕ). at + 5 + n) size) has.1

      by : (t : Bool) → StandsAt h.set b (go h (if t then (at + m + 10) else (at + 5)) stack s.world) ends good s.work (elim t [ true ↦ f s | false ↦ g s ])
      by true = one (let e : at + 5 + m + 5 ≡ at + m + 10 = omega arith in subst (λ (n : ℕ). HasAt h n first) e behind.1)
      by false = other (has_front h (at + 5) second (the.Branch (ahead n) ∷ first) has.1) (behind.0 ∙ ap (λ z. placed (at + 5 + m) (at + 5 + m + 5) (option_map does.Branch (natural z))) (ahead_lands (at + 5 + m + 5) n end (omega arith)))

  -- a value that is dropped
  pub drops : {A : Type 0} {ends : A → World → Next} {good : A → World → Type 0} {w0 : ℕ} {ran : Ran A} (b at next : ℕ) (of : BareType) (v : Value) (stack : List Value) (w : World) → HasAt h at (drop_value of) → at + drop_size of ≡ next
      → StandsAt h.set b (go h next stack w) ends good w0 ran → StandsAt h.set (suc b) (go h at (pushed of v stack) w) ends good w0 ran
  drops {A} {ends} {good} {w0} {ran} b at next type.Void v stack w has e m =
      let f : at ≡ next = omega arith in more h.set.x h.set.classes h.set.frames h.set.turns (suc b) (subst (λ (n : ℕ). StandsAt h.set b (go h n stack w) ends good w0 ran) (sym f) m) (omega arith) (omega arith)
  drops {A} {ends} {good} {w0} {ran} b at next _ v stack w has e m =
      did h.set.x h.set.classes h.set.frames (state_at h at (v ∷ stack) w) (record { at = at; operation = does.Pop; next = at + 1 }) has.0 (subst (λ (n : ℕ). StandsAt h.set b (go h n stack w) ends good w0 ran) (sym e) m)

module _ (h : Site) (tokens : Tokens) (parameters : ℕ) (k : Calls) (known : Knows h tokens parameters k) where
  pub load_stands : (at end : ℕ) (rest : List Instruction) (x : LocalId) (of : BareType) (stack : List Value) (s : State) → slice_get h.locals x.0 ≡ Some of → HasAt h at (load parameters x.0 ∷ rest) → at + width (load parameters x.0) ≡ end → Fine h s.world
      → NumberAt h 1 (go h at stack s.world) end of stack s.work (read_local x s)
  load_stands at end rest x of stack s is has size fine =
      let got = are_get h.locals s.world.variables x.0 of fine.0 is in
      let next = at + width (load parameters x.0) in
      meant_same h.set.x h.set.classes h.set.frames (ap (λ (o : Option Value). run.given o s) got.is)
      (did h.set.x h.set.classes h.set.frames (state_at h at stack s.world) (record { at = at; operation = does.LoadVariable x.0; next = next }) (has.0 ∙ ap (placed at next) (known.loads x.0 of is next))
      (at_same h.set.x h.set.classes h.set.frames (ap (λ (o : Option Value). given o (λ (v : Value). go h next (v ∷ stack) s.world)) got.is ∙ ap (λ (n : ℕ). go h n (got.value ∷ stack) s.world) size)
      (stays h.set.x h.set.classes h.set.frames got.value s (got.fits, fine) refl)))

  -- a value that is stored; what is left on the stack may tell it
  pub store_stands : (at end : ℕ) (rest : List Instruction) (x : LocalId) (of : BareType) (v : Value) (stack : Value → List Value) (s : State) → slice_get h.locals x.0 ≡ Some of → IsOf of v → HasAt h at (store parameters x.0 ∷ rest)
      → at + width (store parameters x.0) ≡ end → Fine h s.world
      → StandsAt h.set 1 (go h at (v ∷ stack v) s.world) (λ (v : Value) (w : World). go h end (stack v) w) (Good h of) s.work (write_local x v s)
  store_stands at end rest x of v stack s is vi has size fine =
      let st = known.stores x.0 of is in
      let next = at + width (store parameters x.0) in
      let inside = lt-ltb x.0 (length s.world.variables) (are_within h.locals s.world.variables x.0 of fine.0 is) in
      meant_same h.set.x h.set.classes h.set.frames (ap (λ (b : Bool). if b then (Ok v, in_world (with_variable x.0 v) s) else (Err Wrong, s)) inside)
      (did h.set.x h.set.classes h.set.frames (state_at h at (v ∷ stack v) s.world) (record { at = at; operation = does.StoreVariable x.0 st.0; next = next }) (has.0 ∙ ap (placed at next) (st.2 next))
      (at_same h.set.x h.set.classes h.set.frames
      (ap (λ (o : Option Value). given o (λ (held : Value). step.store x.0 held s.world (go h next (stack v)))) (stored_is st.0 v (subst (λ (t : BareType). IsOf t v) (sym st.1) vi))
      ∙ ap (λ (b : Bool). if b then go h next (stack v) (with_variable x.0 v s.world) else machine.Stuck) inside
      ∙ ap (λ (n : ℕ). go h n (stack v) (with_variable x.0 v s.world)) size)
      (stays h.set.x h.set.classes h.set.frames v (in_world (with_variable x.0 v) s) (vi, (are_set h.locals s.world.variables x.0 of v fine.0 is vi, fine.1)) refl)))
