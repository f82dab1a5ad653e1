-- What the instructions of constants and operators do on the evaluation stack (ECMA-335, III.1.5 and III.3).
use Rattle.std.proofs.Common.{◌≡◌, ℕ, suc, ◌+◌, ◌*◌, ◌/◌, ◌%◌, ◌^◌, ◌<◌, List, [], ◌∷◌, ◌++◌, Bool, true, false, not, Option, Some, None, refl, sym, ap, ◌∙◌, subst, arith, true≢false, nat_eq}
use Rattle.std.specs.Prelude.{if◌then◌else◌, ◌&&◌, cond}
use Rattle.std.specs.Int.{cast_signed, cast_unsigned, int_shr}
use Rattle.cc_cil.specs.declared.instruction.Instruction.TheVariants as the
use Rattle.cc_core.specs.declared.state.Computed.{Computed}
use Rattle.cc_core.specs.declared.state.Computed.TheVariants.{Gives, Throws}
use Rattle.cc_core.specs.declared.state.State.{State}
use Rattle.cc_core.specs.declared.types.Operator.{Operator}
use Rattle.cc_core.specs.declared.types.Operator.TheVariants as op
use Rattle.cc_core.specs.declared.world.Value.{Value, Int32, Int64}
use Rattle.cc_core.specs.declared.world.World.{World}
use Rattle.cc_core.specs.Numbers.{is_wide, is_signed, is_shift, number, truth, compute, computed, gives_truth, is_less, size, width as width_of}
use Rattle.cc_core.specs.Run.{outcome_of_computed, operate}
use Rattle.cc_core.specs.Typed.{is_number, is_promoted, compares, shifts, result_of, FitsRight}
use Rattle.cc_core.specs.Types as type
use Rattle.cc_core.specs.Types.{BareType}
use Rattle.cc_code.specs.Instructions.{width, bytes}
use Rattle.cc_code.specs.Operators.{operation, denies, denial, operator_code, count_code}
use Rattle.cc_code.specs.Sizes.{operator_size, count_size}
use Rattle.cc_code.proofs.Sums.{operator_is}
use Rattle.cc_execution.specs.declared.operation.FundamentalType.TheVariants as to
use Rattle.cc_execution.specs.declared.operation.Operation.TheVariants as does
use Rattle.cc_execution.specs.Numbers.{operated}
use Rattle.cc_execution.specs.Operations.{Names, resolve}
use Rattle.cc_execution.specs.Step.{given, on_computed, placed_in}
use Rattle.cc_simulation.specs.Sites.{Site, Quiet, StandsAt, HasAt, Fine, Good, go, state_at, frame_at, placed}
use Rattle.cc_simulation.specs.Values.{IsOf, FitsComputed}
use Rattle.cc_simulation.proofs.Ranges.{number_of, arithmetic_fits, comparison_fits}
use Rattle.cc_simulation.proofs.Steps.{did, stays, more, at_same, meant_same}
use Rattle.cc_simulation.proofs.Throws.{throws_made}

-- ---- the table: which operation an operator's instruction is

-- the operator that is computed, and whether with signs
abbrev pub base : Operator → Operator
base op.NotEqual = op.Equal
base op.LessOrEqual = op.Greater
base op.GreaterOrEqual = op.Less
base op.Equal = op.Equal
base op.Less = op.Less
base op.Greater = op.Greater
base op.Add = op.Add
base op.Subtract = op.Subtract
base op.Multiply = op.Multiply
base op.Divide = op.Divide
base op.Remainder = op.Remainder
base op.And = op.And
base op.Or = op.Or
base op.ExclusiveOr = op.ExclusiveOr
base op.ShiftLeft = op.ShiftLeft
base op.ShiftRight = op.ShiftRight

abbrev pub sign : Bool → Operator → Bool
sign signed op.Divide = signed
sign signed op.Remainder = signed
sign signed op.ShiftRight = signed
sign signed op.Less = signed
sign signed op.Greater = signed
sign signed op.LessOrEqual = signed
sign signed op.GreaterOrEqual = signed
sign signed _ = true

operation_does : (names : Names) (next : ℕ) (signed : Bool) (operator : Operator) → resolve names next (operation signed operator) ≡ Some (does.Compute (base operator) (sign signed operator))
operation_does names next signed op.Add = refl
operation_does names next signed op.Subtract = refl
operation_does names next signed op.Multiply = refl
operation_does names next true op.Divide = refl
operation_does names next false op.Divide = refl
operation_does names next true op.Remainder = refl
operation_does names next false op.Remainder = refl
operation_does names next signed op.And = refl
operation_does names next signed op.Or = refl
operation_does names next signed op.ExclusiveOr = refl
operation_does names next signed op.ShiftLeft = refl
operation_does names next true op.ShiftRight = refl
operation_does names next false op.ShiftRight = refl
operation_does names next signed op.Equal = refl
operation_does names next signed op.NotEqual = refl
operation_does names next true op.Less = refl
operation_does names next false op.Less = refl
operation_does names next true op.GreaterOrEqual = refl
operation_does names next false op.GreaterOrEqual = refl
operation_does names next true op.Greater = refl
operation_does names next false op.Greater = refl
operation_does names next true op.LessOrEqual = refl
operation_does names next false op.LessOrEqual = refl

-- where the operator isn't denied that is what it means
compute_base : (wide signed : Bool) (operator : Operator) (a b : ℕ) → denies operator ≡ false → compute wide (sign signed operator) (base operator) a b ≡ compute wide signed operator a b
compute_base wide signed op.Add a b d = refl
compute_base wide signed op.Subtract a b d = refl
compute_base wide signed op.Multiply a b d = refl
compute_base wide signed op.Divide a b d = refl
compute_base wide signed op.Remainder a b d = refl
compute_base wide signed op.And a b d = refl
compute_base wide signed op.Or a b d = refl
compute_base wide signed op.ExclusiveOr a b d = refl
compute_base wide signed op.ShiftLeft a b d = refl
compute_base wide signed op.ShiftRight a b d = refl
compute_base wide signed op.Equal a b d = refl
compute_base wide signed op.Less a b d = refl
compute_base wide signed op.Greater a b d = refl
compute_base wide signed op.NotEqual a b d = absurd (true≢false d)
compute_base wide signed op.LessOrEqual a b d = absurd (true≢false d)
compute_base wide signed op.GreaterOrEqual a b d = absurd (true≢false d)

-- and where it is, it means the opposite
record Denied (wide signed : Bool) (operator : Operator) (a b : ℕ) : Type 0 where
  fact : Bool
  gives : compute wide (sign signed operator) (base operator) a b ≡ gives_truth fact
  means : compute wide signed operator a b ≡ gives_truth (not fact)

compute_denied : (wide signed : Bool) (operator : Operator) (a b : ℕ) → denies operator ≡ true → Denied wide signed operator a b
compute_denied wide signed op.NotEqual a b d = record { fact = nat_eq a b; gives = refl; means = refl }
compute_denied wide signed op.LessOrEqual a b d = record { fact = is_less wide signed b a; gives = refl; means = refl }
compute_denied wide signed op.GreaterOrEqual a b d = record { fact = is_less wide signed a b; gives = refl; means = refl }
compute_denied wide signed _ a b d = absurd (true≢false (sym d))

denied : (t : Bool) → nat_eq (truth t) 0 ≡ not t
denied true = refl
denied false = refl

-- ---- shifts

pub same_shift : (operator : Operator) → shifts operator ≡ is_shift operator
same_shift op.Add = refl
same_shift op.Subtract = refl
same_shift op.Multiply = refl
same_shift op.Divide = refl
same_shift op.Remainder = refl
same_shift op.And = refl
same_shift op.Or = refl
same_shift op.ExclusiveOr = refl
same_shift op.ShiftLeft = refl
same_shift op.ShiftRight = refl
same_shift op.Equal = refl
same_shift op.NotEqual = refl
same_shift op.Less = refl
same_shift op.Greater = refl
same_shift op.LessOrEqual = refl
same_shift op.GreaterOrEqual = refl

base_shift : (operator : Operator) → is_shift (base operator) ≡ is_shift operator
base_shift op.Add = refl
base_shift op.Subtract = refl
base_shift op.Multiply = refl
base_shift op.Divide = refl
base_shift op.Remainder = refl
base_shift op.And = refl
base_shift op.Or = refl
base_shift op.ExclusiveOr = refl
base_shift op.ShiftLeft = refl
base_shift op.ShiftRight = refl
base_shift op.Equal = refl
base_shift op.NotEqual = refl
base_shift op.Less = refl
base_shift op.Greater = refl
base_shift op.LessOrEqual = refl
base_shift op.GreaterOrEqual = refl

-- a comparison is no shift
compared_shift : (operator : Operator) → is_shift operator ≡ true → compares operator ≡ false
compared_shift op.ShiftLeft h = refl
compared_shift op.ShiftRight h = refl
compared_shift _ h = absurd (true≢false (sym h))

low_count : (wide : Bool) (b : ℕ) → (b % 2 ^ 32) % size wide ≡ b % size wide
low_count true b = omega arith
low_count false b = omega arith

-- the low bits of a count are those that count
shift_count : (wide signed : Bool) (operator : Operator) (a b : ℕ) → is_shift operator ≡ true → compute wide signed operator a (b % 2 ^ 32) ≡ compute wide signed operator a b
shift_count wide signed op.ShiftLeft a b h = ap (λ (c : ℕ). Gives (number wide ((a * 2 ^ c) % 2 ^ size wide))) (low_count wide b)
shift_count wide signed op.ShiftRight a b h = by signed
  where
    by : (s : Bool) → compute wide s op.ShiftRight a (b % 2 ^ 32) ≡ compute wide s op.ShiftRight a b
    by true = ap (λ (c : ℕ). Gives (number wide (cast_unsigned (width_of wide) (int_shr (cast_signed (width_of wide) a) c)))) (low_count wide b)
    by false = ap (λ (c : ℕ). Gives (number wide (a / 2 ^ c))) (low_count wide b)
shift_count wide signed _ a b h = absurd (true≢false (sym h))

-- the operands of the machine, and of the meaning
operated_same : (wide sg : Bool) (operator : Operator) (a b : ℕ) → is_shift operator ≡ false → operated operator sg (number wide a) (number wide b) ≡ Some (compute wide sg operator a b)
operated_same true sg operator a b h = ap (λ (shift : Bool). if shift then None else Some (compute true sg operator a b)) h
operated_same false sg operator a b h = refl

operated_shift : (wide sg : Bool) (operator : Operator) (a b : ℕ) → is_shift operator ≡ true → operated operator sg (number wide a) (Int32 b) ≡ Some (compute wide sg operator a b)
operated_shift true sg operator a b h = ap (λ (shift : Bool). if shift then Some (compute true sg operator a b) else None) h
operated_shift false sg operator a b h = refl

computed_same : (wide : Bool) (of : BareType) (operator : Operator) (a b : ℕ) → computed of operator (number wide a) (number wide b) ≡ Some (compute wide (is_signed of) operator a b)
computed_same true of operator a b = refl
computed_same false of operator a b = refl

computed_shift : (wide wide' : Bool) (of : BareType) (operator : Operator) (a b : ℕ) → is_shift operator ≡ true → computed of operator (number wide a) (number wide' b) ≡ Some (compute wide (is_signed of) operator a b)
computed_shift true true of operator a b h = refl
computed_shift false false of operator a b h = refl
computed_shift true false of operator a b h = ap (λ (shift : Bool). if shift then Some (compute true (is_signed of) operator a b) else None) h
computed_shift false true of operator a b h = ap (λ (shift : Bool). if shift then Some (compute false (is_signed of) operator a b) else None) h

-- ---- steps

module _ (h : Site) (quiet : Quiet h.set) where
  -- what was computed, or the exception of a division
  on_fits : (b end : ℕ) (now_at : ℕ) (now_stack stack : List Value) (of : BareType) (c : Computed) (s : State) → FitsComputed of c → Fine h s.world
      → StandsAt h.set b (on_computed h.set.x (state_at h now_at now_stack s.world) c (λ (r : Value). go h end (r ∷ stack) s.world)) (λ (r : Value) (w : World). go h end (r ∷ stack) w) (Good h of) s.work (outcome_of_computed (Some c) s)
  on_fits b end now_at now_stack stack of (Gives r) s f fine = stays h.set.x h.set.classes h.set.frames r s (f, fine) refl
  on_fits b end now_at now_stack stack of (Throws class) s f fine = throws_made h.set quiet b class f (frame_at h now_at now_stack) h.callers s

  -- an instruction that computes
  pub computes : (b at next end : ℕ) (operator : Operator) (sg : Bool) (v u : Value) (stack : List Value) (c : Computed) (of : BareType) (s : State)
      → placed_in h.set.x h.method at ≡ Some (record { at = at; operation = does.Compute operator sg; next = next }) → operated operator sg v u ≡ Some c → next ≡ end → FitsComputed of c → Fine h s.world
      → StandsAt h.set (suc b) (go h at (u ∷ v ∷ stack) s.world) (λ (r : Value) (w : World). go h end (r ∷ stack) w) (Good h of) s.work (outcome_of_computed (Some c) s)
  computes b at next end operator sg v u stack c of s p e f fits fine =
      did h.set.x h.set.classes h.set.frames (state_at h at (u ∷ v ∷ stack) s.world) (record { at = at; operation = does.Compute operator sg; next = next }) p
      (at_same h.set.x h.set.classes h.set.frames
      (ap (λ (o : Option Computed). given o (λ (c : Computed). on_computed h.set.x (state_at h at (u ∷ v ∷ stack) s.world) c (λ (r : Value). go h next (r ∷ stack) s.world))) e
      ∙ ap (λ (next : ℕ). on_computed h.set.x (state_at h at (u ∷ v ∷ stack) s.world) c (λ (r : Value). go h next (r ∷ stack) s.world)) f)
      (on_fits b end at (u ∷ v ∷ stack) stack of c s fits fine))

  -- an operator's code, behind its operands
  operator_by : (deny : Bool) (at end : ℕ) (wide : Bool) (of result : BareType) (operator : Operator) (v u : Value) (a b : ℕ) (stack : List Value) (s : State) → denies operator ≡ deny
      → HasAt h at (operation (is_signed of) operator ∷ (if deny then denial else [])) → at + bytes (operation (is_signed of) operator ∷ (if deny then denial else [])) ≡ end
      → operated (base operator) (sign (is_signed of) operator) v u ≡ Some (compute wide (sign (is_signed of) operator) (base operator) a b)
      → FitsComputed result (compute wide (is_signed of) operator a b) → (deny ≡ true → result ≡ type.Bool) → Fine h s.world
      → StandsAt h.set 3 (go h at (u ∷ v ∷ stack) s.world) (λ (r : Value) (w : World). go h end (r ∷ stack) w) (Good h result) s.work (outcome_of_computed (Some (compute wide (is_signed of) operator a b)) s)
  operator_by false at end wide of result operator v u a b stack s d has size e fits bool fine =
      more h.set.x h.set.classes h.set.frames h.set.turns 3
      (computes 0 at (at + width (operation (is_signed of) operator)) end (base operator) (sign (is_signed of) operator) v u stack (compute wide (is_signed of) operator a b) result s
      (has.0 ∙ ap (placed at (at + width (operation (is_signed of) operator))) (operation_does h.names (at + width (operation (is_signed of) operator)) (is_signed of) operator))
      (e ∙ ap Some (compute_base wide (is_signed of) operator a b d)) (omega arith) fits fine)
      (omega arith) (omega arith)
  operator_by true at end wide of result operator v u a b stack s d has size e fits bool fine =
      let next = at + width (operation (is_signed of) operator) in
      let den = compute_denied wide (is_signed of) operator a b d in
      let now = state_at h at (u ∷ v ∷ stack) s.world in
      did h.set.x h.set.classes h.set.frames now (record { at = at; operation = does.Compute (base operator) (sign (is_signed of) operator); next = next })
      (has.0 ∙ ap (placed at next) (operation_does h.names next (is_signed of) operator))
      (at_same h.set.x h.set.classes h.set.frames
      (ap (λ (o : Option Computed). given o (λ (c : Computed). on_computed h.set.x now c (λ (r : Value). go h next (r ∷ stack) s.world))) (e ∙ ap Some den.gives))
      (did h.set.x h.set.classes h.set.frames (state_at h next (Int32 (truth den.fact) ∷ stack) s.world) (record { at = next; operation = does.PushInt32 0; next = next + 1 }) has.1.0
      (meant_same h.set.x h.set.classes h.set.frames (ap (λ (c : Computed). outcome_of_computed (Some c) s) (den.means ∙ ap gives_truth (sym (denied den.fact))))
      (computes 0 (next + 1) (next + 1 + 2) end op.Equal true (Int32 (truth den.fact)) (Int32 0) stack (gives_truth (nat_eq (truth den.fact) 0)) result s has.1.1.0 refl (omega arith)
      (subst (λ (of : BareType). FitsComputed of (gives_truth (nat_eq (truth den.fact) 0))) (sym (bool refl)) (nat_eq (truth den.fact) 0, refl)) fine))))

pub promoted_number : (of : BareType) → is_promoted of ≡ true → is_number of ≡ true
promoted_number type.I32 h = refl
promoted_number type.U32 h = refl
promoted_number type.I64 h = refl
promoted_number type.U64 h = refl
promoted_number _ h = absurd (true≢false (sym h))

denied_compares : (operator : Operator) → denies operator ≡ true → compares operator ≡ true
denied_compares op.NotEqual d = refl
denied_compares op.LessOrEqual d = refl
denied_compares op.GreaterOrEqual d = refl
denied_compares _ d = absurd (true≢false (sym d))

-- what an operator of a type gives is of its result's type
computed_fits : (of : BareType) (operator : Operator) (a b : ℕ) → is_promoted of ≡ true → (is_wide of ≡ false → a < 2 ^ 32) → (is_wide of ≡ false → b < 2 ^ 32)
    → FitsComputed (result_of operator of) (compute (is_wide of) (is_signed of) operator a b)
computed_fits of operator a b p q r = by (compares operator) refl
  where
    by : (c : Bool) → compares operator ≡ c → FitsComputed (cond c type.Bool of) (compute (is_wide of) (is_signed of) operator a b)
    by true e = comparison_fits (is_wide of) (is_signed of) operator a b e
    by false e = arithmetic_fits of operator a b p e q r

-- an operator on two values, of which the second is on top
abbrev pub BinaryAt : Site → ℕ → ℕ → BareType → Operator → Value → Value → List Value → State → Type 0
BinaryAt h at end of operator v u stack s =
    StandsAt h.set 4 (go h at (u ∷ v ∷ stack) s.world) (λ (r : Value) (w : World). go h end (r ∷ stack) w) (Good h (result_of operator of)) s.work (operate of operator v u s)

module _ (h : Site) (quiet : Quiet h.set) where
  core_runs : (at end : ℕ) (of : BareType) (operator : Operator) (v u : Value) (a b : ℕ) (stack : List Value) (s : State) → is_promoted of ≡ true → HasAt h at (operator_code of operator) → at + operator_size operator ≡ end
      → operated (base operator) (sign (is_signed of) operator) v u ≡ Some (compute (is_wide of) (sign (is_signed of) operator) (base operator) a b) → (is_wide of ≡ false → a < 2 ^ 32) → (is_wide of ≡ false → b < 2 ^ 32) → Fine h s.world
      → StandsAt h.set 3 (go h at (u ∷ v ∷ stack) s.world) (λ (r : Value) (w : World). go h end (r ∷ stack) w) (Good h (result_of operator of)) s.work (outcome_of_computed (Some (compute (is_wide of) (is_signed of) operator a b)) s)
  core_runs at end of operator v u a b stack s p has size e q r fine =
      operator_by h quiet (denies operator) at end (is_wide of) of (result_of operator of) operator v u a b stack s refl has (ap (λ (n : ℕ). at + n) (operator_is of operator) ∙ size) e
      (computed_fits of operator a b p q r) (λ d. ap (λ (c : Bool). cond c type.Bool of) (denied_compares operator d)) fine

  -- without a count to be cut
  uncut : (at : ℕ) (of right : BareType) (operator : Operator) → (is_shift operator && is_wide right) ≡ false → HasAt h at (count_code operator right ++ operator_code of operator) → HasAt h at (operator_code of operator)
  uncut at of right operator e has = subst (λ (cut : Bool). HasAt h at ((if cut then the.ConvertI4 ∷ [] else []) ++ operator_code of operator)) e has

  uncut_size : (at end : ℕ) (right : BareType) (operator : Operator) → (is_shift operator && is_wide right) ≡ false → at + count_size operator right + operator_size operator ≡ end → at + operator_size operator ≡ end
  uncut_size at end right operator e size = let z : count_size operator right ≡ 0 = ap (λ (cut : Bool). if cut then 1 else 0) e in omega (arith, z, size)

  same_operands : (at end : ℕ) (of right : BareType) (operator : Operator) (v u : Value) (stack : List Value) (s : State) → is_promoted of ≡ true → is_shift operator ≡ false → IsOf of v → IsOf of u
      → HasAt h at (count_code operator right ++ operator_code of operator) → at + count_size operator right + operator_size operator ≡ end → Fine h s.world → BinaryAt h at end of operator v u stack s
  same_operands at end of right operator v u stack s p shift vi ui has size fine =
      let nv = number_of of v (promoted_number of p) vi in
      let nu = number_of of u (promoted_number of p) ui in
      let cut : (is_shift operator && is_wide right) ≡ false = ap (λ (b : Bool). b && is_wide right) shift in
      subst (λ (v : Value). BinaryAt h at end of operator v u stack s) (sym nv.is)
      (subst (λ (u : Value). BinaryAt h at end of operator (number (is_wide of) nv.bits) u stack s) (sym nu.is)
      (meant_same h.set.x h.set.classes h.set.frames (ap (λ (c : Option Computed). outcome_of_computed c s) (computed_same (is_wide of) of operator nv.bits nu.bits))
      (more h.set.x h.set.classes h.set.frames h.set.turns 4
      (core_runs at end of operator (number (is_wide of) nv.bits) (number (is_wide of) nu.bits) nv.bits nu.bits stack s p (uncut at of right operator cut has) (uncut_size at end right operator cut size)
      (operated_same (is_wide of) (sign (is_signed of) operator) (base operator) nv.bits nu.bits (base_shift operator ∙ shift)) nv.below nu.below fine)
      (omega arith) (omega arith))))

  -- a shift whose count has 32 bits
  short_count : (at end : ℕ) (of right : BareType) (operator : Operator) (v u : Value) (stack : List Value) (s : State) → is_promoted of ≡ true → is_promoted right ≡ true → is_shift operator ≡ true → is_wide right ≡ false → IsOf of v → IsOf right u
      → HasAt h at (count_code operator right ++ operator_code of operator) → at + count_size operator right + operator_size operator ≡ end → Fine h s.world → BinaryAt h at end of operator v u stack s
  short_count at end of right operator v u stack s p p' shift short vi ui has size fine =
      let nv = number_of of v (promoted_number of p) vi in
      let nu = number_of right u (promoted_number right p') ui in
      let cut : (is_shift operator && is_wide right) ≡ false = ap (λ (b : Bool). b && is_wide right) shift ∙ short in
      let is : u ≡ Int32 nu.bits = nu.is ∙ ap (λ (wide : Bool). number wide nu.bits) short in
      subst (λ (v : Value). BinaryAt h at end of operator v u stack s) (sym nv.is)
      (subst (λ (u : Value). BinaryAt h at end of operator (number (is_wide of) nv.bits) u stack s) (sym is)
      (meant_same h.set.x h.set.classes h.set.frames (ap (λ (c : Option Computed). outcome_of_computed c s) (computed_shift (is_wide of) false of operator nv.bits nu.bits shift))
      (more h.set.x h.set.classes h.set.frames h.set.turns 4
      (core_runs at end of operator (number (is_wide of) nv.bits) (Int32 nu.bits) nv.bits nu.bits stack s p (uncut at of right operator cut has) (uncut_size at end right operator cut size)
      (operated_shift (is_wide of) (sign (is_signed of) operator) (base operator) nv.bits nu.bits (base_shift operator ∙ shift)) nv.below (λ w. nu.below short) fine)
      (omega arith) (omega arith))))

  -- a shift whose count has 64 bits, which becomes one of 32
  long_count : (at end : ℕ) (of right : BareType) (operator : Operator) (v u : Value) (stack : List Value) (s : State) → is_promoted of ≡ true → is_promoted right ≡ true → is_shift operator ≡ true → is_wide right ≡ true → IsOf of v → IsOf right u
      → HasAt h at (count_code operator right ++ operator_code of operator) → at + count_size operator right + operator_size operator ≡ end → Fine h s.world → BinaryAt h at end of operator v u stack s
  long_count at end of right operator v u stack s p p' shift long vi ui has size fine =
      let nv = number_of of v (promoted_number of p) vi in
      let nu = number_of right u (promoted_number right p') ui in
      let cut : (is_shift operator && is_wide right) ≡ true = ap (λ (b : Bool). b && is_wide right) shift ∙ long in
      let is : u ≡ Int64 nu.bits = nu.is ∙ ap (λ (wide : Bool). number wide nu.bits) long in
      let has' = subst (λ (cut : Bool). HasAt h at ((if cut then the.ConvertI4 ∷ [] else []) ++ operator_code of operator)) cut has in
      let z : count_size operator right ≡ 1 = ap (λ (cut : Bool). if cut then 1 else 0) cut in
      subst (λ (v : Value). BinaryAt h at end of operator v u stack s) (sym nv.is)
      (subst (λ (u : Value). BinaryAt h at end of operator (number (is_wide of) nv.bits) u stack s) (sym is)
      (meant_same h.set.x h.set.classes h.set.frames
      (ap (λ (c : Option Computed). outcome_of_computed c s) (computed_shift (is_wide of) true of operator nv.bits nu.bits shift ∙ ap Some (sym (shift_count (is_wide of) (is_signed of) operator nv.bits nu.bits shift))))
      (did h.set.x h.set.classes h.set.frames (state_at h at (Int64 nu.bits ∷ number (is_wide of) nv.bits ∷ stack) s.world) (record { at = at; operation = does.Convert to.I4; next = at + 1 }) has'.0
      (core_runs (at + 1) end of operator (number (is_wide of) nv.bits) (Int32 (nu.bits % 2 ^ 32)) nv.bits (nu.bits % 2 ^ 32) stack s p has'.1 (omega (arith, z, size))
      (operated_shift (is_wide of) (sign (is_signed of) operator) (base operator) nv.bits (nu.bits % 2 ^ 32) (base_shift operator ∙ shift)) nv.below (λ w. omega arith) fine))))

  -- an operator, and the instruction before it that cuts the count of a shift
  pub binary_stands : (at end : ℕ) (of right : BareType) (operator : Operator) (v u : Value) (stack : List Value) (s : State) → is_promoted of ≡ true → FitsRight operator of right → IsOf of v → IsOf right u
      → HasAt h at (count_code operator right ++ operator_code of operator) → at + count_size operator right + operator_size operator ≡ end → Fine h s.world → BinaryAt h at end of operator v u stack s
  binary_stands at end of right operator v u stack s p fits vi ui has size fine = by (is_shift operator) refl (subst (λ (b : Bool). cond b (is_promoted right ≡ true) (right ≡ of)) (same_shift operator) fits)
    where
      by_width : (wide : Bool) → is_shift operator ≡ true → is_promoted right ≡ true → is_wide right ≡ wide → BinaryAt h at end of operator v u stack s
      by_width false e q w = short_count at end of right operator v u stack s p q e w vi ui has size fine
      by_width true e q w = long_count at end of right operator v u stack s p q e w vi ui has size fine

      by : (shift : Bool) → is_shift operator ≡ shift → cond shift (is_promoted right ≡ true) (right ≡ of) → BinaryAt h at end of operator v u stack s
      by false e r = same_operands at end of right operator v u stack s p e vi (subst (λ (t : BareType). IsOf t u) r ui) has size fine
      by true e q = by_width (is_wide right) e q refl
