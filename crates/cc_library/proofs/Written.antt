-- The number that a text writes, as a relation and as a function.
use Rattle.std.proofs.Common.{◌≡◌, ℕ, suc, ◌+◌, ◌-◌, ◌<◌, ◌≤◌, ◌^◌, Bool, true, false, cond, ◌&&◌, eqb, ltb, List, [], ◌∷◌, ◌++◌, length, take, drop, get_or, reverse, Some, None, refl, sym, ap, subst, arith, inl, inr, ◌∙◌, append-nil, length-append, length-drop, length-take, lit<, lt_trans}
use borrow.Author.Tests.{lt-ltb, ltb-true}
use Rattle.std.specs.Prelude.{Option, ℤ, pos, negsuc, neg_ℤ, unsigned_abs}
use Rattle.std.specs.Char.{is_ascii_digit}
use Rattle.std.specs.Fmt.{signed_decimal, decimal}
use Rattle.std.specs.Int.{IsInRange}
use Rattle.std.specs.List.{AllPass, list_all, prefix_len, suffix_len}
use Rattle.std.specs.Str.Parse.{AllDigits, IsNumeral, digits_value, without_leading_sign, signed_digits_value}
use Rattle.std.proofs.Math.Seq.{take-append_seam, drop-append_seam}
use Rattle.std.proofs.lemmas.Bool.{cases_Bool, cases_lt}
use Rattle.std.proofs.lemmas.Bool.Decides.{nat_tests}
use Rattle.std.proofs.lemmas.Fmt.{decimal_is_IsNumeral_wide}
use Rattle.std.proofs.lemmas.List.{get_or-take, get_or-drop, get_or-reverse, get_or_append_left, get_or-append_right, take-append-drop}
use Rattle.std.proofs.lemmas.List.Sums.{prefix_len_is, prefix_len_passes, suffix_len_is, suffix_len-le-length}
use Rattle.std.proofs.lemmas.Str.Parse.{digit_at}
use Rattle.cc_library.specs.Numerals.{Writes, is_blank, is_numeral, number_of, signed_number, without_blanks, without_leading_blanks, without_trailing_blanks}
use Rattle.cc_library.proofs.Digits.{own}

-- no digit and no sign is a blank

digit_not_blank : (c : ℕ) → IsInRange 48 57 c → is_blank c ≡ false
unfolding is_blank
digit_not_blank c range = grind (arith, nat_tests)

minus_not_blank : is_blank 45 ≡ false
unfolding is_blank
minus_not_blank = refl

plus_not_blank : is_blank 43 ≡ false
unfolding is_blank
plus_not_blank = refl

-- how many units the sign of a text has

record Signed (xs : List ℕ) (n : ℕ) : Type 0 where
  short : n ≤ 1
  rest : without_leading_sign xs ≡ drop n xs
  sign : 0 < n → is_blank (get_or xs 0 0) ≡ false

equal : (m n : ℕ) → eqb m n ≡ true → m ≡ n
equal m n test = grind (arith, nat_tests)

sign_of : (xs : List ℕ) → (n : ℕ) × Signed xs n
sign_of xs =
    let first = get_or xs 0 0 in
    let tail = λ (minus : Bool) (plus : Bool). cond minus (drop 1 xs) (drop (cond plus 1 0) xs) in
    elim (cases_Bool (eqb first 45)) [
      | inl minus ↦ (
        1,
        record {
          short = omega arith;
          rest = ap (λ (t : Bool). tail t (eqb first 43)) minus;
          sign = λ some. ap is_blank (equal first 45 minus) ∙ minus_not_blank;
        },
      )
      | inr other ↦ elim (cases_Bool (eqb first 43)) [
        | inl plus ↦ (
          1,
          record {
            short = omega arith;
            rest = ap (λ (t : Bool). tail t (eqb first 43)) other ∙ ap (λ (t : Bool). tail false t) plus;
            sign = λ some. ap is_blank (equal first 43 plus) ∙ plus_not_blank;
          },
        )
        | inr none ↦ (
          0,
          record {
            short = omega arith;
            rest = ap (λ (t : Bool). tail t (eqb first 43)) other ∙ ap (λ (t : Bool). tail false t) none;
            sign = λ some. absurd (omega (arith, some));
          },
        )
      ]
    ]

-- the first and the last unit of a numeral are no blanks
numeral_digit : (xs : List ℕ) (n k : ℕ) → Signed xs n → IsNumeral 10 (without_leading_sign xs) → n ≤ k → k < length xs → is_blank (get_or xs k 0) ≡ false
numeral_digit xs n k signed numeral from within =
    let digits : AllDigits 10 (drop n xs) = subst (λ (l : List ℕ). AllDigits 10 l) signed.rest numeral.1 in
    let at : n + (k - n) ≡ k = omega arith in
    let digit = digit_at (drop n xs) (k - n) digits (omega (arith, length-drop n xs)) in
    digit_not_blank (get_or xs k 0) (subst (λ (c : ℕ). IsInRange 48 57 c) (get_or-drop n xs (k - n) 0 ∙ ap (λ (i : ℕ). get_or xs i 0) at) digit)

longer_than_sign : (xs : List ℕ) (n : ℕ) → Signed xs n → IsNumeral 10 (without_leading_sign xs) → n < length xs
longer_than_sign xs n signed numeral =
    omega (arith, numeral.0, ap (λ (l : List ℕ). length l) signed.rest, length-drop n xs)

first_not_blank : (xs : List ℕ) → IsNumeral 10 (without_leading_sign xs) → is_blank (get_or xs 0 0) ≡ false
first_not_blank xs numeral =
    let s = sign_of xs in
    let long = longer_than_sign xs s.0 s.1 numeral in
    elim (cases_lt 0 s.0) as (λ _. is_blank (get_or xs 0 0) ≡ false) [
      | inl some ↦ s.1.sign some
      | inr none ↦ numeral_digit xs s.0 0 s.1 numeral none (omega arith)
    ]

last_not_blank : (xs : List ℕ) → IsNumeral 10 (without_leading_sign xs) → is_blank (get_or xs (length xs - 1) 0) ≡ false
last_not_blank xs numeral =
    let s = sign_of xs in
    let long = longer_than_sign xs s.0 s.1 numeral in
    numeral_digit xs s.0 (length xs - 1) s.1 numeral (omega arith) (omega arith)

-- the blanks around a numeral are those that the function drops

leading : (before rest : List ℕ) → AllPass is_blank before → 0 < length rest → is_blank (get_or rest 0 0) ≡ false → without_leading_blanks (before ++ rest) ≡ rest
leading before rest blank some first =
    let count : prefix_len is_blank (before ++ rest) ≡ length before = prefix_len_is is_blank (before ++ rest) (length before) 0 (omega (arith, length-append before rest))
    (λ k within. ap is_blank (get_or_append_left before rest 0 k within) ∙ blank k 0 within)
    (λ _. ap is_blank (get_or-append_right before rest (length before) (length before) 0 refl (omega arith)) ∙ subst (λ (i : ℕ). is_blank (get_or rest i 0) ≡ false) (omega arith) first) in
    ap (λ (n : ℕ). drop n (before ++ rest)) count ∙ drop-append_seam before rest

trailing : (front behind : List ℕ) → AllPass is_blank behind → 0 < length front → is_blank (get_or front (length front - 1) 0) ≡ false → without_trailing_blanks (front ++ behind) ≡ front
trailing front behind blank some last =
    let size = length-append front behind in
    let count : suffix_len is_blank (front ++ behind) ≡ length (front ++ behind) - length front = suffix_len_is is_blank (front ++ behind) (length front) 0 (omega arith)
    (λ k from within. ap is_blank (get_or-append_right front behind (length front) k 0 refl from) ∙ blank (k - length front) 0 (omega arith))
    (λ _. ap is_blank (get_or_append_left front behind 0 (length front - 1) (omega arith)) ∙ last) in
    let kept : length (front ++ behind) - suffix_len is_blank (front ++ behind) ≡ length front = omega arith in
    ap (λ (n : ℕ). take n (front ++ behind)) kept ∙ take-append_seam front behind

-- what a text writes is the number that the function has

both_true : (a b : Bool) → a ≡ true → b ≡ true → (a && b) ≡ true
both_true a b p q = rw (p, q) refl

parts_true : (a b : Bool) → (a && b) ≡ true → (a ≡ true) × (b ≡ true)
parts_true true b e = (refl, e)
parts_true false b e = cc

numeral_passes : (ds : List ℕ) → IsNumeral 10 ds → (ltb 0 (length ds) && list_all is_ascii_digit ds) ≡ true
numeral_passes ds numeral = both_true _ _ (lt-ltb 0 (length ds) numeral.0) (own.from ds numeral.1)

passing_numeral : (ds : List ℕ) → (ltb 0 (length ds) && list_all is_ascii_digit ds) ≡ true → IsNumeral 10 ds
passing_numeral ds test = let parts = parts_true _ _ test in (ltb-true 0 (length ds) parts.0, own.to ds parts.1)

-- the number behind a test
number_if : List ℕ → Bool → Option ℤ
number_if xs test = cond test (Some (signed_digits_value 10 xs)) None

number_is : (xs : List ℕ) (test : Bool) → is_numeral xs ≡ test → signed_number xs ≡ number_if xs test
unfolding number_if
number_is xs test e = ap (λ (t : Bool). cond t (Some (signed_digits_value 10 xs)) None) e

numeral_number : (xs : List ℕ) → IsNumeral 10 (without_leading_sign xs) → signed_number xs ≡ Some (signed_digits_value 10 xs)
unfolding number_if
numeral_number xs numeral = number_is xs true (numeral_passes (without_leading_sign xs) numeral)

numeral_some : (xs : List ℕ) → IsNumeral 10 (without_leading_sign xs) → 0 < length xs
numeral_some xs numeral = let s = sign_of xs in omega (arith, longer_than_sign xs s.0 s.1 numeral)

pub written_number : (text : List ℕ) (value : ℤ) → Writes text value → number_of text ≡ Some value
written_number text value writes =
    let some = numeral_some writes.numeral writes.digits in
    let front = first_not_blank writes.numeral writes.digits in
    let rest : without_leading_blanks text ≡ writes.numeral ++ writes.behind =
    ap without_leading_blanks writes.parts
    ∙ leading writes.before (writes.numeral ++ writes.behind) writes.blank_before (omega (arith, length-append writes.numeral writes.behind))
    (ap is_blank (get_or_append_left writes.numeral writes.behind 0 0 some) ∙ front) in
    let numeral : without_blanks text ≡ writes.numeral =
    ap without_trailing_blanks rest ∙ trailing writes.numeral writes.behind writes.blank_behind some (last_not_blank writes.numeral writes.digits) in
    ap signed_number numeral ∙ numeral_number writes.numeral writes.digits ∙ ap (λ (z : ℤ). Some z) (sym writes.value_is)

-- the number that the function has is written

its_value : (test : Bool) (xs : List ℕ) (value : ℤ) → number_if xs test ≡ Some value → (test ≡ true) × (value ≡ signed_digits_value 10 xs)
unfolding number_if
its_value true xs value same = (refl, cc)
its_value false xs value same = cc

number_numeral : (xs : List ℕ) (value : ℤ) → signed_number xs ≡ Some value → IsNumeral 10 (without_leading_sign xs) × (value ≡ signed_digits_value 10 xs)
number_numeral xs value same =
    let found = its_value (is_numeral xs) xs value (sym (number_is xs (is_numeral xs) refl) ∙ same) in
    (passing_numeral (without_leading_sign xs) found.0, found.1)

prefix_blank : (xs : List ℕ) → AllPass is_blank (take (prefix_len is_blank xs) xs)
prefix_blank xs k d within =
    let below : k < prefix_len is_blank xs = omega (arith, length-take (prefix_len is_blank xs) xs) in
    ap is_blank (get_or-take (prefix_len is_blank xs) xs k d below) ∙ prefix_len_passes is_blank xs k d below

suffix_blank : (xs : List ℕ) → AllPass is_blank (drop (length xs - suffix_len is_blank xs) xs)
suffix_blank xs k d within =
    let n = length xs - suffix_len is_blank xs in
    let small = suffix_len-le-length is_blank xs in
    let inside : n + k < length xs = omega (arith, length-drop n xs) in
    let j = length xs - 1 - (n + k) in
    let at : length xs - 1 - j ≡ n + k = omega arith in
    let mirrored : get_or (reverse xs) j d ≡ get_or (drop n xs) k d =
    get_or-reverse xs j d (omega arith) ∙ ap (λ (i : ℕ). get_or xs i d) at ∙ sym (get_or-drop n xs k d) in
    ap is_blank (sym mirrored) ∙ prefix_len_passes is_blank (reverse xs) j d (omega arith)

pub number_written : (text : List ℕ) (value : ℤ) → number_of text ≡ Some value → Writes text value
number_written text value same =
    let rest = without_leading_blanks text in
    let front = prefix_len is_blank text in
    let n = length rest - suffix_len is_blank rest in
    let found = number_numeral (without_blanks text) value same in
    record {
      before = take front text;
      numeral = take n rest;
      behind = drop n rest;
      parts = sym (take-append-drop front text) ∙ ap (λ (l : List ℕ). take front text ++ l) (sym (take-append-drop n rest));
      blank_before = prefix_blank text;
      blank_behind = suffix_blank rest;
      digits = found.0;
      value_is = found.1;
    }

-- decimals

no_blanks : AllPass is_blank []
no_blanks k d within = absurd (omega (arith, within))

digits_have_no_sign : (ds : List ℕ) → IsNumeral 10 ds → (without_leading_sign ds ≡ ds) × (signed_digits_value 10 ds ≡ pos (digits_value 10 ds))
digits_have_no_sign ds numeral =
    let first = get_or ds 0 0 in
    let digit : IsInRange 48 57 first = digit_at ds 0 numeral.1 numeral.0 in
    let minus : eqb first 45 ≡ false = grind (arith, nat_tests) in
    let plus : eqb first 43 ≡ false = grind (arith, nat_tests) in
    let tail = λ (a : Bool) (b : Bool). cond a (drop 1 ds) (drop (cond b 1 0) ds) in
    let rest : without_leading_sign ds ≡ ds = ap (λ (t : Bool). tail t (eqb first 43)) minus ∙ ap (λ (t : Bool). tail false t) plus in
    let value = λ (a : Bool) (l : List ℕ). cond a (neg_ℤ (pos (digits_value 10 l))) (pos (digits_value 10 l)) in
    (rest, ap (λ (t : Bool). value t (without_leading_sign ds)) minus ∙ ap (λ (l : List ℕ). value false l) rest)

few_digits : (n : ℕ) → n < 2 ^ 128 → n < 10 ^ 64
few_digits n small = lt_trans small (lit< tt)

written_alone : (numeral : List ℕ) (value : ℤ) → IsNumeral 10 (without_leading_sign numeral) → value ≡ signed_digits_value 10 numeral → Writes numeral value
written_alone numeral value digits same = record {
  before = [];
  numeral = numeral;
  behind = [];
  parts = sym (append-nil numeral);
  blank_before = no_blanks;
  blank_behind = no_blanks;
  digits = digits;
  value_is = same;
}

pub decimal_written : (value : ℤ) → unsigned_abs value < 2 ^ 128 → Writes (signed_decimal value) value
decimal_written (pos n) small =
    let digits = decimal_is_IsNumeral_wide n (few_digits n small) in
    let plain = digits_have_no_sign (decimal n) digits.0 in
    written_alone (decimal n) (pos n) (subst (IsNumeral 10) (sym plain.0) digits.0) (sym (plain.1 ∙ ap (λ (m : ℕ). pos m) digits.1))
decimal_written (negsuc n) small =
    let digits = decimal_is_IsNumeral_wide (suc n) (few_digits (suc n) small) in
    written_alone (45 ∷ decimal (suc n)) (negsuc n) digits.0 (sym (ap (λ (m : ℕ). neg_ℤ (pos m)) digits.1))
