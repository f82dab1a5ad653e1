-- The number that a text writes: an optional sign and one or more decimal digits, with blanks before and behind them.
use Rattle.std.specs.Prelude.{◌≡◌, ◌==◌, ◌||◌, ◌&&◌, ◌-◌, ℕ, nat_lt, Bool, Option, Some, None, List, ◌++◌, length, take, drop, ℤ, if◌then◌else◌}
use Rattle.std.specs.Char.{is_ascii_digit}
use Rattle.std.specs.List.{AllPass, list_all, prefix_len, suffix_len}
use Rattle.std.specs.Str.{byte}
use Rattle.std.specs.Str.Parse.{IsNumeral, without_leading_sign, signed_digits_value}

-- a space, tab, line feed, vertical tab, form feed or carriage return
unfoldable pub is_blank : ℕ → Bool
is_blank unit = unit == byte " " || unit == byte "\t" || unit == byte "\n" || unit == 11 || unit == 12 || unit == byte "\r"

pub record Writes (text : List ℕ) (value : ℤ) : Type 0 where
  pub before : List ℕ
  pub numeral : List ℕ
  pub behind : List ℕ
  pub parts : text ≡ before ++ (numeral ++ behind)
  pub blank_before : AllPass is_blank before
  pub blank_behind : AllPass is_blank behind
  pub digits : IsNumeral 10 (without_leading_sign numeral)
  pub value_is : value ≡ signed_digits_value 10 numeral

-- That number as a function, none where the text writes none.

-- the text without the blanks at its start, at its end, and at both
abbrev pub without_leading_blanks : List ℕ → List ℕ
without_leading_blanks text = drop (prefix_len is_blank text) text

abbrev pub without_trailing_blanks : List ℕ → List ℕ
without_trailing_blanks text = take (length text - suffix_len is_blank text) text

abbrev pub without_blanks : List ℕ → List ℕ
without_blanks text = without_trailing_blanks (without_leading_blanks text)

-- one digit or more stand behind the sign, and nothing else
abbrev pub is_numeral : List ℕ → Bool
is_numeral text = nat_lt 0 (length (without_leading_sign text)) && list_all is_ascii_digit (without_leading_sign text)

abbrev pub signed_number : List ℕ → Option ℤ
signed_number text = if is_numeral text then Some (signed_digits_value 10 text) else None

abbrev pub number_of : List ℕ → Option ℤ
number_of text = signed_number (without_blanks text)
