-- What the parts of a text say of its number.
use Rattle.std.proofs.Common.{◌≡◌, ℕ, ◌<◌, ◌^◌, Bool, true, false, cond, ◌&&◌, ltb, List, length, Some, None, arith, refl, sym, ap, ◌∙◌, ◌⊎◌, inl, inr}
use Rattle.std.specs.Prelude.{ℤ, pos, negsuc, ◌<ℤ◌, FitsSigned}
use Rattle.std.specs.Int.{w128}
use Rattle.std.specs.Char.{is_ascii_digit}
use Rattle.std.specs.List.{list_all}
use Rattle.std.specs.Str.Parse.{starts_with_minus, without_leading_sign, signed_digits_value}
use Rattle.std.proofs.lemmas.Int.{ints}
use Rattle.cc_library.specs.Numerals.{signed_number, is_numeral}
use Rattle.cc_library.specs.Parsing.{signed_value}

chosen : {T : Type 0} (b : Bool) (x y : T) → b ≡ false → cond b x y ≡ y
chosen b x y e = ap (λ (t : Bool). cond t x y) e

taken : {T : Type 0} (b : Bool) (x y : T) → b ≡ true → cond b x y ≡ x
taken b x y e = ap (λ (t : Bool). cond t x y) e

-- the number of a text whose parts these are
pub no_number : (numeral digits : List ℕ) → digits ≡ without_leading_sign numeral → (ltb 0 (length digits) && list_all is_ascii_digit digits) ≡ false → signed_number numeral ≡ None
no_number numeral digits e test = chosen (is_numeral numeral) (Some (signed_digits_value 10 numeral)) None (rw e at test)

pub its_number : (numeral digits : List ℕ) (negative : Bool) → negative ≡ starts_with_minus numeral → digits ≡ without_leading_sign numeral → (ltb 0 (length digits) && list_all is_ascii_digit digits) ≡ true → signed_number numeral ≡ Some (signed_value negative digits)
its_number numeral digits negative sign e test =
    let same : signed_value negative digits ≡ signed_digits_value 10 numeral = rw (sign, e) refl in
    taken (is_numeral numeral) (Some (signed_digits_value 10 numeral)) None (rw e at test) ∙ ap (λ (z : ℤ). Some z) (sym same)

-- what 128 bits don't hold lies outside each range of numbers that they hold
above : (most : ℤ) → FitsSigned w128 most → (n : ℕ) → ¬ (n < 2 ^ 127) → most <ℤ pos n
above most fits n big = omega (arith, ints)

below : (least : ℤ) → FitsSigned w128 least → (n : ℕ) → ¬ (n < 2 ^ 127) → negsuc n <ℤ least
below least fits n big = omega (arith, ints)

pub lies_outside : (z least most : ℤ) → FitsSigned w128 least → FitsSigned w128 most → ¬ (FitsSigned w128 z) → (z <ℤ least) ⊎ (most <ℤ z)
lies_outside (pos n) least most fits_least fits_most not = inr (above most fits_most n (λ small. not (record { sfits = small })))
lies_outside (negsuc n) least most fits_least fits_most not = inl (below least fits_least n (λ small. not (record { sfits = small })))
