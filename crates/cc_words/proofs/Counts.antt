-- The number that digits write, by std's `parse`.
use Rattle.std.proofs.Common.{◌≡◌, ℕ, ◌<◌, ◌^◌, ◌==◌, Bool, true, false, cond, List, length, get_or, drop, Some, None, ltb, refl, ap, sym, subst, ◌∙◌, arith, rules}
use borrow.Author.Tests.{ltb-true, lt-ltb}
use Rattle.std.specs.Char.{is_ascii_digit}
use Rattle.std.specs.List.{list_all}
use Rattle.std.specs.Str.Parse.{IsNumeral, digits_value, without_leading_plus}
use Rattle.std.proofs.lemmas.Bool.Decides.{nat_tests}
use Rattle.std.proofs.lemmas.List.Sums.{AllPass-from_list_all}
use Rattle.std.proofs.lemmas.Str.Parse.{IsNumeralModel, numerals_by_value}

own : IsNumeralModel (λ ds. list_all is_ascii_digit ds ≡ true) (digits_value 10)
own = numerals_by_value _ (search rules)

not_plus : (c : ℕ) → is_ascii_digit c ≡ true → (c == 43) ≡ false
not_plus c digit = grind (arith, nat_tests)

-- no plus stands before digits
plain : (word : List ℕ) → 0 < length word → list_all is_ascii_digit word ≡ true → without_leading_plus word ≡ word
plain word some digits = ap (λ (t : Bool). drop (cond t 1 0) word) (not_plus (get_or word 0 0) (AllPass-from_list_all is_ascii_digit word digits 0 0 some))

value_if : (n most : ℕ) (t : Bool) → ltb n most ≡ t → ¬ (n < most) → None ≡ cond t (Some n) None
value_if n most true test above = absurd (above (ltb-true n most test))
value_if n most false test above = refl

pub is_value : (word : List ℕ) (x : ℕ) → 0 < length word → list_all is_ascii_digit word ≡ true
    → (IsNumeral 10 (without_leading_plus word) × (digits_value 10 (without_leading_plus word) < 2 ^ 32)) × (x ≡ digits_value 10 (without_leading_plus word))
    → Some x ≡ cond (ltb (digits_value 10 word) (2 ^ 32)) (Some (digits_value 10 word)) None
is_value word x some digits parsed =
    let same = plain word some digits in
    let below : digits_value 10 word < 2 ^ 32 = subst (λ (l : List ℕ). digits_value 10 l < 2 ^ 32) same parsed.0.1 in
    ap (λ (n : ℕ). Some n) (parsed.1 ∙ ap (digits_value 10) same) ∙ sym (ap (λ (t : Bool). cond t (Some (digits_value 10 word)) None) (lt-ltb (digits_value 10 word) (2 ^ 32) below))

pub is_no_value : (word : List ℕ) → 0 < length word → list_all is_ascii_digit word ≡ true
    → ¬ (IsNumeral 10 (without_leading_plus word) × (digits_value 10 (without_leading_plus word) < 2 ^ 32))
    → None ≡ cond (ltb (digits_value 10 word) (2 ^ 32)) (Some (digits_value 10 word)) None
is_no_value word some digits refused =
    let numeral : IsNumeral 10 word = (some, own.to word digits) in
    value_if (digits_value 10 word) (2 ^ 32) (ltb (digits_value 10 word) (2 ^ 32)) refl
    (λ (below : digits_value 10 word < 2 ^ 32). refused (subst (λ (l : List ℕ). IsNumeral 10 l × (digits_value 10 l < 2 ^ 32)) (sym (plain word some digits)) (numeral, below)))
