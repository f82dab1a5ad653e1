-- Runs of bytes of one class, and the number that digits write.
use Rattle.std.specs.Prelude.{ℕ, ◌^◌, Bool, ◌||◌, ◌==◌, nat_lt, if◌then◌else◌, List, min, Option, Some, None}
use Rattle.std.specs.List.{prefix_len}
use Rattle.std.specs.Char.{is_digit, is_ascii_alphanumeric}
use Rattle.std.specs.Str.{byte}
use Rattle.std.specs.Str.Parse.{digits_value}

-- a byte of a word: a letter, a digit or `_` (ISO/IEC 14882:2003, 2.10, in ASCII)
abbrev pub is_word_byte : ℕ → Bool
is_word_byte b = is_ascii_alphanumeric b || b == byte "_"

-- how many digits stand at the front, of which at most so many are taken
abbrev pub digit_count : (radix most : ℕ) → List ℕ → ℕ
digit_count radix most bytes = min most (prefix_len (λ b. is_digit b radix) bytes)

-- the number that the digits write, where 64 bits hold it
abbrev pub number : (radix : ℕ) → List ℕ → Option ℕ
number radix digits = if nat_lt (digits_value radix digits) (2 ^ 64) then Some (digits_value radix digits) else None
