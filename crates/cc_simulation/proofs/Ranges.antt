-- Which values operators and conversions give, and what of them is left where they are stored.
use Rattle.std.proofs.Common.{◌≡◌, ℕ, zero, suc, ◌+◌, ◌-◌, ◌*◌, ◌/◌, ◌%◌, ◌^◌, ◌<◌, ◌≤◌, ◌⊎◌, inl, inr, ℤ, pos, negsuc, neg_ℤ, Bool, true, false, not, Some, refl, sym, ap, ◌∙◌, arith, true≢false, nat_eq, nat_lt, div-le_self, mod-lt, lt-ltb, le-ltb}
use Rattle.std.specs.Prelude.{bit_and, bit_or, bit_xor, if◌then◌else◌, nat_abs}
use Rattle.std.specs.Int.{w8, w16, w32, w64, cast_signed, cast_unsigned}
use Rattle.std.specs.Int.Bits.{and_lt}
use Rattle.std.proofs.lemmas.Bool.{cases_lt, ne_eqb}
use Rattle.std.proofs.lemmas.Nat.{or_lt, xor_lt}
use mir.Val.{sel}
use native.Mathlib.Nat.{mod-le}
use mir.ValLaws.{to_z-Fits}
use lib.Signed.{mag, quot_z, rem_z, shr_z}
use Rattle.cc_core.specs.declared.state.Computed.TheVariants.{Gives, Throws}
use Rattle.cc_core.specs.declared.types.Operator.{Operator}
use Rattle.cc_core.specs.declared.types.Operator.TheVariants as op
use Rattle.cc_core.specs.declared.world.Value.{Value, Int32, Int64}
use Rattle.cc_core.specs.Numbers.{is_wide, is_signed, number, truth, widened, narrowed, compute, overflows, quotient, remainder, shifted_right, zero_of, DivideByZero, Arithmetic}
use Rattle.cc_core.specs.Typed.{is_number, is_promoted, compares}
use Rattle.cc_core.specs.Types as type
use Rattle.cc_core.specs.Types.{BareType}
use Rattle.cc_execution.specs.declared.operation.FundamentalType.{FundamentalType}
use Rattle.cc_execution.specs.declared.operation.FundamentalType.TheVariants as the
use Rattle.cc_execution.specs.Fundamental.{core_type, stored}
use Rattle.cc_simulation.specs.Values.{IsOf, FitsComputed}

-- ---- signs

-- 32 bits, widened by their sign
pub widened_32 : (n : ℕ) → n < 2 ^ 32 → (cast_unsigned w64 (cast_signed w32 n) ≡ n) ⊎ (cast_unsigned w64 (cast_signed w32 n) ≡ n + (2 ^ 64 - 2 ^ 32))
widened_32 n h = elim (cases_lt n (2 ^ 31)) [
  | inl less ↦ inl (ap (λ (b : Bool). cast_unsigned w64 (sel b (pos n) (negsuc (2 ^ 32 - suc n)))) (lt-ltb n (2 ^ 31) less))
  | inr more ↦ let e : 2 ^ 64 - suc (2 ^ 32 - suc n) ≡ n + (2 ^ 64 - 2 ^ 32) = omega arith in
      inr (ap (λ (b : Bool). cast_unsigned w64 (sel b (pos n) (negsuc (2 ^ 32 - suc n)))) (le-ltb n (2 ^ 31) more) ∙ e)
]

widened_8 : (n : ℕ) → n < 2 ^ 8 → (cast_unsigned w32 (cast_signed w8 n) ≡ n) ⊎ (cast_unsigned w32 (cast_signed w8 n) ≡ n + (2 ^ 32 - 2 ^ 8))
widened_8 n h = elim (cases_lt n (2 ^ 7)) [
  | inl less ↦ inl (ap (λ (b : Bool). cast_unsigned w32 (sel b (pos n) (negsuc (2 ^ 8 - suc n)))) (lt-ltb n (2 ^ 7) less))
  | inr more ↦ let e : 2 ^ 32 - suc (2 ^ 8 - suc n) ≡ n + (2 ^ 32 - 2 ^ 8) = omega arith in
      inr (ap (λ (b : Bool). cast_unsigned w32 (sel b (pos n) (negsuc (2 ^ 8 - suc n)))) (le-ltb n (2 ^ 7) more) ∙ e)
]

widened_16 : (n : ℕ) → n < 2 ^ 16 → (cast_unsigned w32 (cast_signed w16 n) ≡ n) ⊎ (cast_unsigned w32 (cast_signed w16 n) ≡ n + (2 ^ 32 - 2 ^ 16))
widened_16 n h = elim (cases_lt n (2 ^ 15)) [
  | inl less ↦ inl (ap (λ (b : Bool). cast_unsigned w32 (sel b (pos n) (negsuc (2 ^ 16 - suc n)))) (lt-ltb n (2 ^ 15) less))
  | inr more ↦ let e : 2 ^ 32 - suc (2 ^ 16 - suc n) ≡ n + (2 ^ 32 - 2 ^ 16) = omega arith in
      inr (ap (λ (b : Bool). cast_unsigned w32 (sel b (pos n) (negsuc (2 ^ 16 - suc n)))) (le-ltb n (2 ^ 15) more) ∙ e)
]

below_8 : (n : ℕ) → n < 2 ^ 8 → cast_unsigned w32 (cast_signed w8 n) < 2 ^ 32
below_8 n h = elim (widened_8 n h) [ inl e ↦ omega arith | inr e ↦ omega arith ]

below_16 : (n : ℕ) → n < 2 ^ 16 → cast_unsigned w32 (cast_signed w16 n) < 2 ^ 32
below_16 n h = elim (widened_16 n h) [ inl e ↦ omega arith | inr e ↦ omega arith ]

low_8 : (n : ℕ) → n < 2 ^ 8 → cast_unsigned w32 (cast_signed w8 n) % 2 ^ 8 ≡ n
low_8 n h = elim (widened_8 n h) [ inl e ↦ omega arith | inr e ↦ omega arith ]

low_16 : (n : ℕ) → n < 2 ^ 16 → cast_unsigned w32 (cast_signed w16 n) % 2 ^ 16 ≡ n
low_16 n h = elim (widened_16 n h) [ inl e ↦ omega arith | inr e ↦ omega arith ]

-- ---- numbers

truth_below : (b : Bool) → truth b < 2 ^ 32
truth_below true = omega arith
truth_below false = omega arith

-- a value of a type of numbers, by its bits
pub record Number (of : BareType) (v : Value) : Type 0 where
  pub bits : ℕ
  pub is : v ≡ number (is_wide of) bits
  pub below : is_wide of ≡ false → bits < 2 ^ 32

pub number_of : (of : BareType) (v : Value) → is_number of ≡ true → IsOf of v → Number of v
number_of type.Bool v h p = record { bits = truth p.0; is = p.1; below = λ w. truth_below p.0 }
number_of type.Char v h p = record { bits = p.0; is = p.2; below = λ w. omega (arith, p.1) }
number_of type.I8 v h p = record { bits = cast_unsigned w32 (cast_signed w8 p.0); is = p.2; below = λ w. below_8 p.0 p.1 }
number_of type.U8 v h p = record { bits = p.0; is = p.2; below = λ w. omega (arith, p.1) }
number_of type.I16 v h p = record { bits = cast_unsigned w32 (cast_signed w16 p.0); is = p.2; below = λ w. below_16 p.0 p.1 }
number_of type.U16 v h p = record { bits = p.0; is = p.2; below = λ w. omega (arith, p.1) }
number_of type.I32 v h p = record { bits = p.0; is = p.2; below = λ w. p.1 }
number_of type.U32 v h p = record { bits = p.0; is = p.2; below = λ w. p.1 }
number_of type.I64 v h p = record { bits = p.0; is = p.1; below = λ w. absurd (true≢false w) }
number_of type.U64 v h p = record { bits = p.0; is = p.1; below = λ w. absurd (true≢false w) }
number_of _ v h p = absurd (true≢false (sym h))

-- what is left of a number at a type is a value of the type
pub record Narrowed (of : BareType) (n : ℕ) : Type 0 where
  pub value : Value
  pub is : narrowed of n ≡ Some value
  pub fits : IsOf of value

pub narrowed_of : (of : BareType) (n : ℕ) → is_number of ≡ true → Narrowed of n
narrowed_of type.Bool n h = record { value = Int32 (truth (not (nat_eq n 0))); is = refl; fits = (not (nat_eq n 0), refl) }
narrowed_of type.Char n h = record { value = Int32 (n % 2 ^ 16); is = refl; fits = (n % 2 ^ 16, omega arith, refl) }
narrowed_of type.I8 n h = record { value = Int32 (cast_unsigned w32 (cast_signed w8 (n % 2 ^ 8))); is = refl; fits = (n % 2 ^ 8, omega arith, refl) }
narrowed_of type.U8 n h = record { value = Int32 (n % 2 ^ 8); is = refl; fits = (n % 2 ^ 8, omega arith, refl) }
narrowed_of type.I16 n h = record { value = Int32 (cast_unsigned w32 (cast_signed w16 (n % 2 ^ 16))); is = refl; fits = (n % 2 ^ 16, omega arith, refl) }
narrowed_of type.U16 n h = record { value = Int32 (n % 2 ^ 16); is = refl; fits = (n % 2 ^ 16, omega arith, refl) }
narrowed_of type.I32 n h = record { value = Int32 (n % 2 ^ 32); is = refl; fits = (n % 2 ^ 32, omega arith, refl) }
narrowed_of type.U32 n h = record { value = Int32 (n % 2 ^ 32); is = refl; fits = (n % 2 ^ 32, omega arith, refl) }
narrowed_of type.I64 n h = record { value = Int64 n; is = refl; fits = (n, refl) }
narrowed_of type.U64 n h = record { value = Int64 n; is = refl; fits = (n, refl) }
narrowed_of _ n h = absurd (true≢false (sym h))

bool_stored : (b : Bool) → stored the.Boolean (Int32 (truth b)) ≡ Some (Int32 (truth b))
bool_stored true = refl
bool_stored false = refl

-- a variable holds a value of its type as it is
pub stored_is : (t : FundamentalType) (v : Value) → IsOf (core_type t) v → stored t v ≡ Some v
stored_is the.Boolean v p = ap (stored the.Boolean) p.1 ∙ bool_stored p.0 ∙ ap Some (sym p.1)
stored_is the.Char v p = let e : p.0 % 2 ^ 16 ≡ p.0 = omega (arith, p.1) in ap (stored the.Char) p.2 ∙ ap (λ (n : ℕ). Some (Int32 n)) e ∙ ap Some (sym p.2)
stored_is the.I1 v p = ap (stored the.I1) p.2 ∙ ap (λ (n : ℕ). Some (Int32 (cast_unsigned w32 (cast_signed w8 n)))) (low_8 p.0 p.1) ∙ ap Some (sym p.2)
stored_is the.U1 v p = let e : p.0 % 2 ^ 8 ≡ p.0 = omega (arith, p.1) in ap (stored the.U1) p.2 ∙ ap (λ (n : ℕ). Some (Int32 n)) e ∙ ap Some (sym p.2)
stored_is the.I2 v p = ap (stored the.I2) p.2 ∙ ap (λ (n : ℕ). Some (Int32 (cast_unsigned w32 (cast_signed w16 n)))) (low_16 p.0 p.1) ∙ ap Some (sym p.2)
stored_is the.U2 v p = let e : p.0 % 2 ^ 16 ≡ p.0 = omega (arith, p.1) in ap (stored the.U2) p.2 ∙ ap (λ (n : ℕ). Some (Int32 n)) e ∙ ap Some (sym p.2)
stored_is the.I4 v p = let e : p.0 % 2 ^ 32 ≡ p.0 = omega (arith, p.1) in ap (stored the.I4) p.2 ∙ ap (λ (n : ℕ). Some (Int32 n)) e ∙ ap Some (sym p.2)
stored_is the.U4 v p = let e : p.0 % 2 ^ 32 ≡ p.0 = omega (arith, p.1) in ap (stored the.U4) p.2 ∙ ap (λ (n : ℕ). Some (Int32 n)) e ∙ ap Some (sym p.2)
stored_is the.I8 v p = ap (stored the.I8) p.1 ∙ ap Some (sym p.1)
stored_is the.U8 v p = ap (stored the.U8) p.1 ∙ ap Some (sym p.1)

-- what a variable holds at first
pub zero_is : (of : BareType) → is_number of ≡ true → zero_of of ≡ Some (number (is_wide of) 0)
zero_is type.Bool h = refl
zero_is type.Char h = refl
zero_is type.I8 h = refl
zero_is type.U8 h = refl
zero_is type.I16 h = refl
zero_is type.U16 h = refl
zero_is type.I32 h = refl
zero_is type.U32 h = refl
zero_is type.I64 h = refl
zero_is type.U64 h = refl
zero_is _ h = absurd (true≢false (sym h))

pub zero_fits : (of : BareType) → is_number of ≡ true → IsOf of (number (is_wide of) 0)
zero_fits type.Bool h = (false, refl)
zero_fits type.Char h = (0, omega arith, refl)
zero_fits type.I8 h = (0, omega arith, refl)
zero_fits type.U8 h = (0, omega arith, refl)
zero_fits type.I16 h = (0, omega arith, refl)
zero_fits type.U16 h = (0, omega arith, refl)
zero_fits type.I32 h = (0, omega arith, refl)
zero_fits type.U32 h = (0, omega arith, refl)
zero_fits type.I64 h = (0, refl)
zero_fits type.U64 h = (0, refl)
zero_fits _ h = absurd (true≢false (sym h))

-- ---- operators

-- a number of a type in which operators work
pub promoted_fits : (of : BareType) (n : ℕ) → is_promoted of ≡ true → (is_wide of ≡ false → n < 2 ^ 32) → IsOf of (number (is_wide of) n)
promoted_fits type.I32 n h below = (n, below refl, refl)
promoted_fits type.U32 n h below = (n, below refl, refl)
promoted_fits type.I64 n h below = (n, refl)
promoted_fits type.U64 n h below = (n, refl)
promoted_fits _ n h below = absurd (true≢false (sym h))

negative_below : (n : ℕ) → cast_unsigned w32 (neg_ℤ (pos n)) < 2 ^ 32
negative_below zero = omega arith
negative_below (suc n) = omega arith

quotient_below : (x y : ℤ) → mag x < 2 ^ 31 → cast_unsigned w32 (quot_z x y) < 2 ^ 32
quotient_below (pos a) (pos b) h = let l = div-le_self a b in omega arith
quotient_below (pos a) (negsuc b) h = negative_below (a / suc b)
quotient_below (negsuc a) (pos b) h = negative_below (suc a / b)
quotient_below (negsuc a) (negsuc b) h = let l = div-le_self (suc a) (suc b) in omega arith

remainder_below : (x y : ℤ) → mag x < 2 ^ 31 → cast_unsigned w32 (rem_z x y) < 2 ^ 32
remainder_below (pos a) d h = let l : a % nat_abs d ≤ a = mod-le a (nat_abs d) in omega arith
remainder_below (negsuc a) d h = negative_below (suc a % nat_abs d)

shift_below : (x : ℤ) (m : ℕ) → mag x < 2 ^ 31 → cast_unsigned w32 (shr_z x m) < 2 ^ 32
shift_below (pos a) m h = let l = div-le_self a m in omega arith
shift_below (negsuc a) m h = omega arith

magnitude : (a : ℕ) → a < 2 ^ 32 → mag (cast_signed w32 a) < 2 ^ 31
magnitude a h = (to_z-Fits w32 a (record { fits = h })).sfits

quotient_32 : (signed : Bool) (a b : ℕ) → a < 2 ^ 32 → quotient false signed a b < 2 ^ 32
quotient_32 true a b h = quotient_below (cast_signed w32 a) (cast_signed w32 b) (magnitude a h)
quotient_32 false a b h = let l = div-le_self a b in omega arith

remainder_32 : (signed : Bool) (a b : ℕ) → a < 2 ^ 32 → remainder false signed a b < 2 ^ 32
remainder_32 true a b h = remainder_below (cast_signed w32 a) (cast_signed w32 b) (magnitude a h)
remainder_32 false a b h = let l : a % b ≤ a = mod-le a b in omega arith

shift_32 : (signed : Bool) (a b : ℕ) → a < 2 ^ 32 → shifted_right false signed a b < 2 ^ 32
shift_32 true a b h = shift_below (cast_signed w32 a) (2 ^ (b % 32)) (magnitude a h)
shift_32 false a b h = let l = div-le_self a (2 ^ (b % 32)) in omega arith

-- what an operator of a type gives is a value, or it is one of the two exceptions of a division
module _ (of : BareType) where
  divided_fits : (by_zero over : Bool) (v : Value) → IsOf of v → FitsComputed of (if by_zero then Throws DivideByZero else if over then Throws Arithmetic else Gives v)
  divided_fits true over v p = inl refl
  divided_fits false true v p = inr refl
  divided_fits false false v p = p

  module _ (fits : (n : ℕ) → n < 2 ^ 32 → IsOf of (Int32 n)) where
    compute_32 : (signed : Bool) (operator : Operator) (a b : ℕ) → compares operator ≡ false → a < 2 ^ 32 → b < 2 ^ 32 → FitsComputed of (compute false signed operator a b)
    compute_32 signed op.Add a b c p q = fits ((a + b) % 2 ^ 32) (omega arith)
    compute_32 signed op.Subtract a b c p q = fits ((a + (2 ^ 32 - b)) % 2 ^ 32) (omega arith)
    compute_32 signed op.Multiply a b c p q = fits (a * b % 2 ^ 32) (mod-lt (a * b) (omega arith))
    compute_32 signed op.Divide a b c p q = divided_fits (nat_eq b 0) (overflows false signed a b) (Int32 (quotient false signed a b)) (fits (quotient false signed a b) (quotient_32 signed a b p))
    compute_32 signed op.Remainder a b c p q = divided_fits (nat_eq b 0) (overflows false signed a b) (Int32 (remainder false signed a b)) (fits (remainder false signed a b) (remainder_32 signed a b p))
    compute_32 signed op.And a b c p q = fits (bit_and a b) (and_lt 32 a b p q)
    compute_32 signed op.Or a b c p q = fits (bit_or a b) (or_lt 32 a b p q)
    compute_32 signed op.ExclusiveOr a b c p q = fits (bit_xor a b) (xor_lt 32 a b p q)
    compute_32 signed op.ShiftLeft a b c p q = fits ((a * 2 ^ (b % 32)) % 2 ^ 32) (mod-lt (a * 2 ^ (b % 32)) (omega arith))
    compute_32 signed op.ShiftRight a b c p q = fits (shifted_right false signed a b) (shift_32 signed a b p)
    compute_32 signed _ a b c p q = absurd (true≢false c)

  module _ (fits : (n : ℕ) → IsOf of (Int64 n)) where
    compute_64 : (signed : Bool) (operator : Operator) (a b : ℕ) → compares operator ≡ false → FitsComputed of (compute true signed operator a b)
    compute_64 signed op.Add a b c = fits _
    compute_64 signed op.Subtract a b c = fits _
    compute_64 signed op.Multiply a b c = fits _
    compute_64 signed op.Divide a b c = divided_fits (nat_eq b 0) (overflows true signed a b) (Int64 (quotient true signed a b)) (fits _)
    compute_64 signed op.Remainder a b c = divided_fits (nat_eq b 0) (overflows true signed a b) (Int64 (remainder true signed a b)) (fits _)
    compute_64 signed op.And a b c = fits _
    compute_64 signed op.Or a b c = fits _
    compute_64 signed op.ExclusiveOr a b c = fits _
    compute_64 signed op.ShiftLeft a b c = fits _
    compute_64 signed op.ShiftRight a b c = fits _
    compute_64 signed _ a b c = absurd (true≢false c)

pub arithmetic_fits : (of : BareType) (operator : Operator) (a b : ℕ) → is_promoted of ≡ true → compares operator ≡ false → (is_wide of ≡ false → a < 2 ^ 32) → (is_wide of ≡ false → b < 2 ^ 32)
    → FitsComputed of (compute (is_wide of) (is_signed of) operator a b)
arithmetic_fits type.I32 operator a b h c p q = compute_32 type.I32 (λ n l. (n, l, refl)) true operator a b c (p refl) (q refl)
arithmetic_fits type.U32 operator a b h c p q = compute_32 type.U32 (λ n l. (n, l, refl)) false operator a b c (p refl) (q refl)
arithmetic_fits type.I64 operator a b h c p q = compute_64 type.I64 (λ n. (n, refl)) true operator a b c
arithmetic_fits type.U64 operator a b h c p q = compute_64 type.U64 (λ n. (n, refl)) false operator a b c
arithmetic_fits _ operator a b h c p q = absurd (true≢false (sym h))

pub comparison_fits : (wide signed : Bool) (operator : Operator) (a b : ℕ) → compares operator ≡ true → FitsComputed type.Bool (compute wide signed operator a b)
comparison_fits wide signed op.Equal a b c = (_, refl)
comparison_fits wide signed op.NotEqual a b c = (_, refl)
comparison_fits wide signed op.Less a b c = (_, refl)
comparison_fits wide signed op.Greater a b c = (_, refl)
comparison_fits wide signed op.LessOrEqual a b c = (_, refl)
comparison_fits wide signed op.GreaterOrEqual a b c = (_, refl)
comparison_fits wide signed _ a b c = absurd (true≢false (sym c))

-- ---- conversions

-- a number in 64 bits
abbrev pub extended : Bool → Bool → ℕ → ℕ
extended true signed a = a
extended false signed a = if signed then cast_unsigned w64 (cast_signed w32 a) else a

pub widened_is : (wide : Bool) (from : BareType) (a : ℕ) → widened from (number wide a) ≡ Some (extended wide (is_signed from) a)
widened_is true from a = refl
widened_is false from a = refl

extended_low : (wide signed : Bool) (a : ℕ) → (wide ≡ false → a < 2 ^ 32) → extended wide signed a % 2 ^ 32 ≡ a % 2 ^ 32
extended_low true signed a h = refl
extended_low false true a h = elim (widened_32 a (h refl)) [ inl e ↦ omega arith | inr e ↦ omega arith ]
extended_low false false a h = refl

-- two signs leave the same low bits
pub same_low : (wide s t : Bool) (a : ℕ) → (wide ≡ false → a < 2 ^ 32) → extended wide s a % 2 ^ 32 ≡ extended wide t a % 2 ^ 32
same_low wide s t a h = extended_low wide s a h ∙ sym (extended_low wide t a h)

pub low_32 : (n m : ℕ) → n % 2 ^ 32 ≡ m % 2 ^ 32 → n % 2 ^ 16 ≡ m % 2 ^ 16
low_32 n m e = omega arith

pub low_32_8 : (n m : ℕ) → n % 2 ^ 32 ≡ m % 2 ^ 32 → n % 2 ^ 8 ≡ m % 2 ^ 8
low_32_8 n m e = omega arith

-- a number is true where its bits are not 0, however it is widened
nonzero : (n : ℕ) → 0 < n → not (nat_eq n 0) ≡ true
nonzero n h = ap not (ne_eqb n 0 (λ e. absurd (omega arith)))

pub extended_truth : (wide signed : Bool) (a : ℕ) → (wide ≡ false → a < 2 ^ 32) → not (nat_eq (extended wide signed a) 0) ≡ not (nat_eq a 0)
extended_truth true signed a h = refl
extended_truth false true zero h = refl
extended_truth false true (suc a) h =
    let p : 0 < cast_unsigned w64 (cast_signed w32 (suc a)) = elim (widened_32 (suc a) (h refl)) [ inl e ↦ omega arith | inr e ↦ omega arith ] in
    nonzero (cast_unsigned w64 (cast_signed w32 (suc a))) p ∙ sym (nonzero (suc a) (omega arith))
extended_truth false false a h = refl

pub above_zero : (a : ℕ) → nat_lt 0 a ≡ not (nat_eq a 0)
above_zero zero = refl
above_zero (suc a) = lt-ltb 0 (suc a) (omega arith) ∙ sym (nonzero (suc a) (omega arith))
