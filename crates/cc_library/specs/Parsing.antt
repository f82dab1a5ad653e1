-- What `parse_int` answers of the number that a text writes.
use Rattle.std.specs.Prelude.{◌≡◌, ◌≤ℤ◌, ◌<ℤ◌, ◌⊎◌, ℕ, Bool, cond, Option, Some, None, List, ℤ, pos, neg_ℤ}
use Rattle.std.specs.Str.Parse.{digits_value}
use Rattle.cc_library.specs.declared.numbers.Parsed.{Parsed}
use Rattle.cc_library.specs.declared.numbers.Parsed.TheVariants.{Value, Bad, Wide}

-- the number lies in the range, there is none, or it lies outside the range
abbrev pub IsParsed : Parsed → Option ℤ → ℤ → ℤ → Type 0
IsParsed (Value value) number least most = (number ≡ Some value) × (least ≤ℤ value) × (value ≤ℤ most)
IsParsed Bad number least most = number ≡ None
IsParsed Wide number least most = (value : ℤ) × (number ≡ Some value) × ((value <ℤ least) ⊎ (most <ℤ value))

-- the number that digits write behind a sign
abbrev pub signed_value : Bool → List ℕ → ℤ
signed_value is_negative digits = cond is_negative (neg_ℤ (pos (digits_value 10 digits))) (pos (digits_value 10 digits))
