-- What the instructions of constants, conversions and operators on one value do on the evaluation stack (ECMA-335, III.1.5 and III.3).
use Rattle.std.proofs.Common.{◌≡◌, ℕ, suc, ◌+◌, ◌-◌, ◌%◌, ◌^◌, ◌<◌, List, [], ◌∷◌, Bool, true, false, not, Option, Some, refl, sym, ap, ◌∙◌, subst, arith, true≢false, nat_eq, nat_lt, pos}
use Rattle.std.specs.Prelude.{Ok, if◌then◌else◌}
use Rattle.std.specs.Int.{w8, w16, w32, w64, cast_signed, cast_unsigned}
use Rattle.std.proofs.lemmas.Int.{of_z-to_z}
use Rattle.std.proofs.lemmas.Option.{same_Some}
use Rattle.cc_cil.specs.declared.instruction.Instruction.{Instruction}
use Rattle.cc_cil.specs.declared.instruction.Instruction.TheVariants as the
use Rattle.cc_core.specs.declared.state.State.{State}
use Rattle.cc_core.specs.declared.types.Operator.TheVariants as op
use Rattle.cc_core.specs.declared.types.UnaryOperator.{UnaryOperator}
use Rattle.cc_core.specs.declared.types.UnaryOperator.TheVariants as unary
use Rattle.cc_core.specs.declared.world.Value.{Value, Int32, Int64}
use Rattle.cc_core.specs.declared.world.World.{World}
use Rattle.cc_core.specs.Numbers.{is_wide, is_signed, number, truth, size as size_of, narrowed, narrowed_if, compute, compute_alone, computed_alone, gives_truth, is_true}
use Rattle.cc_core.specs.Run.{Ran, convert, operate_alone, outcome_of_computed, truth_value}
use Rattle.cc_core.specs.Run as run
use Rattle.cc_core.specs.Typed.{is_number, FitsAlone, IsConstant}
use Rattle.cc_core.specs.Types as type
use Rattle.cc_core.specs.Types.{BareType}
use Rattle.cc_core.specs.Value as value
use Rattle.cc_code.specs.Instructions.{width}
use Rattle.cc_code.specs.Operators as code
use Rattle.cc_code.specs.Sizes.{constant_size, zero_size, conversion_size, unary_size}
use Rattle.cc_code.proofs.Sums.{zero_is}
use Rattle.cc_execution.specs.declared.operation.FundamentalType.{FundamentalType}
use Rattle.cc_execution.specs.declared.operation.FundamentalType.TheVariants as to
use Rattle.cc_execution.specs.declared.operation.Operation.TheVariants as does
use Rattle.cc_execution.specs.Fundamental.{core_type}
use Rattle.cc_execution.specs.Numbers.{operated, conversion, widening}
use Rattle.cc_execution.specs.State.{Next}
use Rattle.cc_execution.specs.Step.{given, placed_in}
use Rattle.cc_simulation.specs.Sites.{Site, Quiet, StandsAt, HasAt, Fine, Good, go, state_at}
use Rattle.cc_simulation.specs.Values.{IsOf}
use Rattle.cc_simulation.proofs.Operators.{computes}
use Rattle.cc_simulation.proofs.Ranges.{number_of, narrowed_of, promoted_fits, extended, widened_is, same_low, low_32, low_32_8, extended_truth, above_zero}
use Rattle.cc_simulation.proofs.Steps.{did, stays, at_same, meant_same}

-- ---- truths

pub truth_of : (wide : Bool) (a : ℕ) → is_true (number wide a) ≡ not (nat_eq a 0)
truth_of true a = refl
truth_of false a = refl

operated_two : (wide sg : Bool) (a b : ℕ) → operated op.Greater sg (number wide a) (number wide b) ≡ Some (compute wide sg op.Greater a b)
operated_two true sg a b = refl
operated_two false sg a b = refl

operated_equal : (wide : Bool) (a b : ℕ) → operated op.Equal true (number wide a) (number wide b) ≡ Some (gives_truth (nat_eq a b))
operated_equal true a b = refl
operated_equal false a b = refl

alone_is : (wide : Bool) (operator : UnaryOperator) (a : ℕ) → computed_alone operator (number wide a) ≡ Some (compute_alone wide operator a)
alone_is true operator a = refl
alone_is false operator a = refl

negated_below : (wide : Bool) (a : ℕ) → wide ≡ false → (2 ^ size_of wide - a) % 2 ^ size_of wide < 2 ^ 32
negated_below true a w = absurd (true≢false w)
negated_below false a w = omega arith

complement_below : (wide : Bool) (a : ℕ) → wide ≡ false → 2 ^ size_of wide - 1 - a < 2 ^ 32
complement_below true a w = absurd (true≢false w)
complement_below false a w = omega arith

-- ---- constants

-- a constant of a type is a value of it
pub constant_fits : (of : BareType) (n : ℕ) (v : Value) → is_number of ≡ true → narrowed of n ≡ Some v → IsOf of v
constant_fits of n v h e = let nr = narrowed_of of n h in subst (λ (v : Value). IsOf of v) (same_Some nr.value v (sym nr.is ∙ e)) nr.fits

module _ (h : Site) where
  constant_by : (wide : Bool) (at end n : ℕ) (of : BareType) (stack : List Value) (s : State) → (wide ≡ true → n < 2 ^ 64) → HasAt h at ((if wide then the.LoadLong (cast_signed w64 n) else the.LoadInt (cast_signed w32 (n % 2 ^ 32))) ∷ [])
      → at + (if wide then 9 else 5) ≡ end → IsOf of (elim wide [ true ↦ number true n | false ↦ number false (n % 2 ^ 32) ]) → Fine h s.world
      → StandsAt h.set 1 (go h at stack s.world) (λ (v : Value) (w : World). go h end (v ∷ stack) w) (Good h of) s.work (Ok (elim wide [ true ↦ number true n | false ↦ number false (n % 2 ^ 32) ]), s)
  constant_by true at end n of stack s small has size fits fine =
      did h.set.x h.set.classes h.set.frames (state_at h at stack s.world) (record { at = at; operation = does.PushInt64 n; next = at + 9 })
      (has.0 ∙ ap (λ (n : ℕ). Some (record { at = at; operation = does.PushInt64 n; next = at + 9 })) (of_z-to_z w64 n (small refl)))
      (stays h.set.x h.set.classes h.set.frames (Int64 n) s (fits, fine) (ap (λ (end : ℕ). go h end (Int64 n ∷ stack) s.world) size))
  constant_by false at end n of stack s small has size fits fine =
      did h.set.x h.set.classes h.set.frames (state_at h at stack s.world) (record { at = at; operation = does.PushInt32 (n % 2 ^ 32); next = at + 5 })
      (has.0 ∙ ap (λ (n : ℕ). Some (record { at = at; operation = does.PushInt32 n; next = at + 5 })) (of_z-to_z w32 (n % 2 ^ 32) (omega arith)))
      (stays h.set.x h.set.classes h.set.frames (Int32 (n % 2 ^ 32)) s (fits, fine) (ap (λ (end : ℕ). go h end (Int32 (n % 2 ^ 32) ∷ stack) s.world) size))

  pub constant_stands : (at end n : ℕ) (of : BareType) (stack : List Value) (s : State) → is_number of ≡ true → IsConstant of n → n < 2 ^ 64 → HasAt h at (code.constant of n ∷ []) → at + constant_size of ≡ end → Fine h s.world
      → StandsAt h.set 1 (go h at stack s.world) (λ (v : Value) (w : World). go h end (v ∷ stack) w) (Good h of) s.work (Ok (value.constant of n), s)
  constant_stands at end n of stack s num is small has size fine = constant_by (is_wide of) at end n of stack s (λ w. small) has size (constant_fits of n (value.constant of n) num is) fine

  zero_by : (wide : Bool) {A : Type 0} {ends : A → World → Next} {good : A → World → Type 0} {b w0 : ℕ} {ran : Ran A} (at : ℕ) (rest : List Instruction) (stack : List Value) (w : World)
      → HasAt h at ((if wide then the.LoadLong (pos 0) else the.LoadInt0) ∷ rest) → StandsAt h.set b (go h (at + width (if wide then the.LoadLong (pos 0) else the.LoadInt0)) (number wide 0 ∷ stack) w) ends good w0 ran
      → StandsAt h.set (suc b) (go h at stack w) ends good w0 ran
  zero_by true at rest stack w has m = did h.set.x h.set.classes h.set.frames (state_at h at stack w) (record { at = at; operation = does.PushInt64 0; next = at + 9 }) has.0 m
  zero_by false at rest stack w has m = did h.set.x h.set.classes h.set.frames (state_at h at stack w) (record { at = at; operation = does.PushInt32 0; next = at + 1 }) has.0 m

  -- zero is pushed
  pub zero_did : {A : Type 0} {ends : A → World → Next} {good : A → World → Type 0} {b w0 : ℕ} {ran : Ran A} (of : BareType) (at : ℕ) (rest : List Instruction) (stack : List Value) (w : World)
      → HasAt h at (code.zero of ∷ rest) → StandsAt h.set b (go h (at + width (code.zero of)) (number (is_wide of) 0 ∷ stack) w) ends good w0 ran → StandsAt h.set (suc b) (go h at stack w) ends good w0 ran
  zero_did of at rest stack w has m = zero_by (is_wide of) at rest stack w has m

-- ---- conversions

-- a value of the first type becomes one of the second
abbrev pub ConvertedAt : Site → ℕ → ℕ → BareType → BareType → Value → List Value → State → Type 0
ConvertedAt h at end from of v stack s = StandsAt h.set 2 (go h at (v ∷ stack) s.world) (λ (r : Value) (w : World). go h end (r ∷ stack) w) (Good h of) s.work (convert from of v s)

module _ (h : Site) (quiet : Quiet h.set) where
  -- an instruction that converts
  converts : (b at end : ℕ) (t : FundamentalType) (v u : Value) (stack : List Value) (of : BareType) (s : State) → placed_in h.set.x h.method at ≡ Some (record { at = at; operation = does.Convert t; next = at + 1 }) → conversion t v ≡ Some u → at + 1 ≡ end
      → IsOf of u → Fine h s.world → StandsAt h.set (suc b) (go h at (v ∷ stack) s.world) (λ (r : Value) (w : World). go h end (r ∷ stack) w) (Good h of) s.work (Ok u, s)
  converts b at end t v u stack of s p e f fits fine =
      did h.set.x h.set.classes h.set.frames (state_at h at (v ∷ stack) s.world) (record { at = at; operation = does.Convert t; next = at + 1 }) p
      (at_same h.set.x h.set.classes h.set.frames
      (ap (λ (o : Option Value). given o (λ (r : Value). go h (at + 1) (r ∷ stack) s.world)) e ∙ ap (λ (next : ℕ). go h next (u ∷ stack) s.world) f)
      (stays h.set.x h.set.classes h.set.frames u s (fits, fine) refl))

  -- to a type of 32 bits or fewer: the low bits alone matter
  low_stands : (t : FundamentalType) (from of : BareType) (at end : ℕ) (wide : Bool) (a : ℕ) (stack : List Value) (s : State) → ((n m : ℕ) → n % 2 ^ 32 ≡ m % 2 ^ 32 → narrowed (core_type t) n ≡ narrowed of m) → is_number of ≡ true
      → (wide ≡ false → a < 2 ^ 32) → placed_in h.set.x h.method at ≡ Some (record { at = at; operation = does.Convert t; next = at + 1 }) → at + 1 ≡ end → Fine h s.world → ConvertedAt h at end from of (number wide a) stack s
  low_stands t from of at end wide a stack s same num below p f fine =
      let nr = narrowed_of of (extended wide (is_signed from) a) num in
      meant_same h.set.x h.set.classes h.set.frames (ap (λ (o : Option Value). run.given o s) (ap (narrowed_if of) (widened_is wide from a) ∙ nr.is))
      (converts 1 at end t (number wide a) nr.value stack of s p
      (ap (narrowed_if (core_type t)) (widened_is wide (widening t) a) ∙ same (extended wide (is_signed (widening t)) a) (extended wide (is_signed from) a) (same_low wide (is_signed (widening t)) (is_signed from) a below) ∙ nr.is)
      f nr.fits fine)

  wide_by : (sg : Bool) (of : BareType) (at end : ℕ) (wide : Bool) (a : ℕ) (stack : List Value) (s : State) → HasAt h at ((if sg then the.ConvertI8 else the.ConvertU8) ∷ []) → at + 1 ≡ end → IsOf of (Int64 (extended wide sg a)) → Fine h s.world
      → StandsAt h.set 2 (go h at (number wide a ∷ stack) s.world) (λ (r : Value) (w : World). go h end (r ∷ stack) w) (Good h of) s.work (Ok (Int64 (extended wide sg a)), s)
  wide_by true of at end wide a stack s has f fits fine = converts 1 at end to.I8 (number wide a) (Int64 (extended wide true a)) stack of s has.0 (ap (narrowed_if type.I64) (widened_is wide type.I32 a)) f fits fine
  wide_by false of at end wide a stack s has f fits fine = converts 1 at end to.U8 (number wide a) (Int64 (extended wide false a)) stack of s has.0 (ap (narrowed_if type.U64) (widened_is wide type.U32 a)) f fits fine

  -- whether a number is not zero
  truth_core : (of : BareType) (at end : ℕ) (a : ℕ) (stack : List Value) (s : State) → HasAt h at (code.zero of ∷ the.CompareGreaterUnsigned ∷ []) → at + (zero_size of + 2) ≡ end → Fine h s.world
      → StandsAt h.set 2 (go h at (number (is_wide of) a ∷ stack) s.world) (λ (r : Value) (w : World). go h end (r ∷ stack) w) (Good h type.Bool) s.work (Ok (Int32 (truth (nat_lt 0 a))), s)
  truth_core of at end a stack s has size fine =
      let z = zero_is of in
      zero_did h of at (the.CompareGreaterUnsigned ∷ []) (number (is_wide of) a ∷ stack) s.world has
      (computes h quiet 0 (at + width (code.zero of)) (at + width (code.zero of) + 2) end op.Greater false (number (is_wide of) a) (number (is_wide of) 0) stack (gives_truth (nat_lt 0 a)) type.Bool s has.1.0
      (operated_two (is_wide of) false a 0) (omega (arith, z, size)) (nat_lt 0 a, refl) fine)

  -- the truth of a value of a type of numbers
  pub truth_stands : (of : BareType) (at end : ℕ) (v : Value) (stack : List Value) (s : State) → is_number of ≡ true → IsOf of v → HasAt h at (code.conversion of type.Bool) → at + conversion_size of type.Bool ≡ end → Fine h s.world
      → StandsAt h.set 2 (go h at (v ∷ stack) s.world) (λ (r : Value) (w : World). go h end (r ∷ stack) w) (Good h type.Bool) s.work (Ok (truth_value (is_true v)), s)
  truth_stands of at end v stack s num vi has size fine =
      let nv = number_of of v num vi in
      subst (λ (v : Value). StandsAt h.set 2 (go h at (v ∷ stack) s.world) (λ (r : Value) (w : World). go h end (r ∷ stack) w) (Good h type.Bool) s.work (Ok (truth_value (is_true v)), s)) (sym nv.is)
      (meant_same h.set.x h.set.classes h.set.frames (ap (λ (b : Bool). (Ok (truth_value b), s)) (truth_of (is_wide of) nv.bits ∙ sym (above_zero nv.bits)))
      (truth_core of at end nv.bits stack s has size fine))

  bool_stands : (from : BareType) (at end a : ℕ) (stack : List Value) (s : State) → (is_wide from ≡ false → a < 2 ^ 32) → HasAt h at (code.conversion from type.Bool) → at + conversion_size from type.Bool ≡ end → Fine h s.world
      → ConvertedAt h at end from type.Bool (number (is_wide from) a) stack s
  bool_stands from at end a stack s below has size fine =
      meant_same h.set.x h.set.classes h.set.frames
      (ap (λ (o : Option Value). run.given o s) (ap (narrowed_if type.Bool) (widened_is (is_wide from) from a))
      ∙ ap (λ (b : Bool). (Ok (Int32 (truth b)), s)) (extended_truth (is_wide from) (is_signed from) a below ∙ sym (above_zero a)))
      (truth_core from at end a stack s has size fine)

  conversion_by : (from of : BareType) (at end a : ℕ) (stack : List Value) (s : State) → is_number of ≡ true → (is_wide from ≡ false → a < 2 ^ 32) → HasAt h at (code.conversion from of) → at + conversion_size from of ≡ end → Fine h s.world
      → ConvertedAt h at end from of (number (is_wide from) a) stack s
  conversion_by from type.Bool at end a stack s num below has size fine = bool_stands from at end a stack s below has size fine
  conversion_by from type.Char at end a stack s num below has size fine = low_stands to.U2 from type.Char at end (is_wide from) a stack s (λ n m e. ap (λ (k : ℕ). Some (Int32 k)) (low_32 n m e)) refl below has.0 size fine
  conversion_by from type.I8 at end a stack s num below has size fine = low_stands to.I1 from type.I8 at end (is_wide from) a stack s (λ n m e. ap (λ (k : ℕ). Some (Int32 (cast_unsigned w32 (cast_signed w8 k)))) (low_32_8 n m e)) refl below has.0 size fine
  conversion_by from type.U8 at end a stack s num below has size fine = low_stands to.U1 from type.U8 at end (is_wide from) a stack s (λ n m e. ap (λ (k : ℕ). Some (Int32 k)) (low_32_8 n m e)) refl below has.0 size fine
  conversion_by from type.I16 at end a stack s num below has size fine = low_stands to.I2 from type.I16 at end (is_wide from) a stack s (λ n m e. ap (λ (k : ℕ). Some (Int32 (cast_unsigned w32 (cast_signed w16 k)))) (low_32 n m e)) refl below has.0 size fine
  conversion_by from type.U16 at end a stack s num below has size fine = low_stands to.U2 from type.U16 at end (is_wide from) a stack s (λ n m e. ap (λ (k : ℕ). Some (Int32 k)) (low_32 n m e)) refl below has.0 size fine
  conversion_by from type.I32 at end a stack s num below has size fine = low_stands to.I4 from type.I32 at end (is_wide from) a stack s (λ n m e. ap (λ (k : ℕ). Some (Int32 k)) e) refl below has.0 size fine
  conversion_by from type.U32 at end a stack s num below has size fine = low_stands to.U4 from type.U32 at end (is_wide from) a stack s (λ n m e. ap (λ (k : ℕ). Some (Int32 k)) e) refl below has.0 size fine
  conversion_by from type.I64 at end a stack s num below has size fine =
      meant_same h.set.x h.set.classes h.set.frames (ap (λ (o : Option ℕ). run.given (narrowed_if type.I64 o) s) (widened_is (is_wide from) from a))
      (wide_by (is_signed from) type.I64 at end (is_wide from) a stack s has size (_, refl) fine)
  conversion_by from type.U64 at end a stack s num below has size fine =
      meant_same h.set.x h.set.classes h.set.frames (ap (λ (o : Option ℕ). run.given (narrowed_if type.U64 o) s) (widened_is (is_wide from) from a))
      (wide_by (is_signed from) type.U64 at end (is_wide from) a stack s has size (_, refl) fine)
  conversion_by from _ at end a stack s num below has size fine = absurd (true≢false (sym num))

  -- a conversion of a value of one type of numbers to another
  pub conversion_stands : (from of : BareType) (at end : ℕ) (v : Value) (stack : List Value) (s : State) → is_number from ≡ true → is_number of ≡ true → IsOf from v → HasAt h at (code.conversion from of) → at + conversion_size from of ≡ end → Fine h s.world
      → ConvertedAt h at end from of v stack s
  conversion_stands from of at end v stack s nf nt vi has size fine =
      let nv = number_of from v nf vi in
      subst (λ (v : Value). ConvertedAt h at end from of v stack s) (sym nv.is) (conversion_by from of at end nv.bits stack s nt nv.below has size fine)

  -- ---- operators on one value

  abbrev pub AloneAt : ℕ → ℕ → UnaryOperator → BareType → Value → List Value → State → Type 0
  AloneAt at end operator result v stack s = StandsAt h.set 2 (go h at (v ∷ stack) s.world) (λ (r : Value) (w : World). go h end (r ∷ stack) w) (Good h result) s.work (operate_alone operator v s)

  -- one instruction that works on one value
  alone_core : (at end : ℕ) (of : BareType) (operator : UnaryOperator) (a : ℕ) (stack : List Value) (s : State) → placed_in h.set.x h.method at ≡ Some (record { at = at; operation = does.ComputeAlone operator; next = at + 1 }) → at + 1 ≡ end
      → IsOf of (compute_alone (is_wide of) operator a) → Fine h s.world → AloneAt at end operator of (number (is_wide of) a) stack s
  alone_core at end of operator a stack s p f fits fine =
      meant_same h.set.x h.set.classes h.set.frames (ap (λ (o : Option Value). run.given o s) (alone_is (is_wide of) operator a))
      (did h.set.x h.set.classes h.set.frames (state_at h at (number (is_wide of) a ∷ stack) s.world) (record { at = at; operation = does.ComputeAlone operator; next = at + 1 }) p
      (at_same h.set.x h.set.classes h.set.frames
      (ap (λ (o : Option Value). given o (λ (r : Value). go h (at + 1) (r ∷ stack) s.world)) (alone_is (is_wide of) operator a) ∙ ap (λ (next : ℕ). go h next (compute_alone (is_wide of) operator a ∷ stack) s.world) f)
      (stays h.set.x h.set.classes h.set.frames {b = 1} (compute_alone (is_wide of) operator a) s (fits, fine) refl)))

  alone_by : (at end : ℕ) (of result : BareType) (operator : UnaryOperator) (a : ℕ) (stack : List Value) (s : State) → FitsAlone operator of result → (is_wide of ≡ false → a < 2 ^ 32) → HasAt h at (code.unary_code operator of) → at + unary_size operator of ≡ end → Fine h s.world
      → AloneAt at end operator result (number (is_wide of) a) stack s
  alone_by at end of result unary.Negate a stack s fits below has size fine =
      subst (λ (result : BareType). AloneAt at end unary.Negate result (number (is_wide of) a) stack s) (sym fits.1)
      (alone_core at end of unary.Negate a stack s has.0 size (promoted_fits of ((2 ^ size_of (is_wide of) - a) % 2 ^ size_of (is_wide of)) fits.0 (λ w. negated_below (is_wide of) a w)) fine)
  alone_by at end of result unary.Complement a stack s fits below has size fine =
      subst (λ (result : BareType). AloneAt at end unary.Complement result (number (is_wide of) a) stack s) (sym fits.1)
      (alone_core at end of unary.Complement a stack s has.0 size (promoted_fits of (2 ^ size_of (is_wide of) - 1 - a) fits.0 (λ w. complement_below (is_wide of) a w)) fine)
  alone_by at end of result unary.Not a stack s fits below has size fine =
      let z = zero_is of in
      subst (λ (result : BareType). AloneAt at end unary.Not result (number (is_wide of) a) stack s) (sym fits.1)
      (meant_same h.set.x h.set.classes h.set.frames (ap (λ (o : Option Value). run.given o s) (alone_is (is_wide of) unary.Not a))
      (zero_did h of at (the.CompareEqual ∷ []) (number (is_wide of) a ∷ stack) s.world has
      (computes h quiet 0 (at + width (code.zero of)) (at + width (code.zero of) + 2) end op.Equal true (number (is_wide of) a) (number (is_wide of) 0) stack (gives_truth (nat_eq a 0)) type.Bool s has.1.0
      (operated_equal (is_wide of) a 0) (omega (arith, z, size)) (nat_eq a 0, refl) fine)))

  -- an operator on one value
  pub alone_stands : (at end : ℕ) (of result : BareType) (operator : UnaryOperator) (v : Value) (stack : List Value) (s : State) → is_number of ≡ true → FitsAlone operator of result → IsOf of v → HasAt h at (code.unary_code operator of) → at + unary_size operator of ≡ end → Fine h s.world
      → AloneAt at end operator result v stack s
  alone_stands at end of result operator v stack s num fits vi has size fine =
      let nv = number_of of v num vi in
      subst (λ (v : Value). AloneAt at end operator result v stack s) (sym nv.is) (alone_by at end of result operator nv.bits stack s fits nv.below has size fine)
