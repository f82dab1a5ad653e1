-- The number that digits write, digit by digit.
use Rattle.std.proofs.Common.{◌≡◌, ℕ, ◌+◌, ◌-◌, ◌*◌, ◌<◌, ◌≤◌, true, List, length, get_or, take, arith, rules, ap, ◌∙◌}
use Rattle.std.specs.Char.{is_ascii_digit, digit_value}
use Rattle.std.specs.Int.{IsInRange}
use Rattle.std.specs.List.{list_all}
use Rattle.std.specs.Str.Parse.{digits_value}
use Rattle.std.proofs.lemmas.Int.Digits.{digits_value_more}
use Rattle.std.proofs.lemmas.List.Sums.{AllPass-from_list_all}
use Rattle.std.proofs.lemmas.Str.{digit_value_digit}
use Rattle.std.proofs.lemmas.Str.Parse.{IsNumeralModel, numerals_by_value, digits_value-take-le, digit_at}

-- the test tells std's digits
pub own : IsNumeralModel (λ ds. list_all is_ascii_digit ds ≡ true) (digits_value 10)
own = numerals_by_value _ (search rules)

pub passes_at : (ds : List ℕ) (i : ℕ) → list_all is_ascii_digit ds ≡ true → i < length ds → is_ascii_digit (get_or ds i 0) ≡ true
passes_at ds i all within = AllPass-from_list_all is_ascii_digit ds all i 0 within

pub digits_value_step : (ds : List ℕ) (i : ℕ) → list_all is_ascii_digit ds ≡ true → i < length ds → digits_value 10 (take (i + 1) ds) ≡ digits_value 10 (take i ds) * 10 + (get_or ds i 0 - 48)
digits_value_step ds i all within =
    let range : IsInRange 48 57 (get_or ds i 0) = digit_at ds i (own.to ds all) within in
    let digit : digit_value (get_or ds i 0) + 48 ≡ get_or ds i 0 = digit_value_digit (get_or ds i 0) range in
    let same : digit_value (get_or ds i 0) ≡ get_or ds i 0 - 48 = omega arith in
    digits_value_more 10 ds i within ∙ ap (λ (d : ℕ). digits_value 10 (take i ds) * 10 + d) same

-- more digits make no smaller number
pub digits_value_grows : (ds : List ℕ) (i : ℕ) → digits_value 10 (take i ds) ≤ digits_value 10 ds
digits_value_grows ds i = digits_value-take-le 10 ds i (omega arith)
