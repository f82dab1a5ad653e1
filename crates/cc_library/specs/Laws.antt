-- What holds of the texts and numbers of the library.
use Rattle.std.specs.Prelude.{◌≡◌, ◌<◌, ◌^◌, ◌↔◌, ℕ, Some, List, ℤ, unsigned_abs}
use Rattle.std.specs.Fmt.{signed_decimal}
use Rattle.cc_library.specs.Numerals.{Writes, number_of}
use Rattle.cc_library.specs.Texts.{Decodes, decoded_text}

-- a text writes exactly the number that the function has
abbrev pub OneNumber : Type 0
OneNumber = (text : List ℕ) (value : ℤ) → (number_of text ≡ Some value) ↔ Writes text value

-- bytes decode to exactly the text that the function has
abbrev pub OneDecoding : Type 0
OneDecoding = (bytes text : List ℕ) → (decoded_text bytes ≡ text) ↔ Decodes bytes text

-- the text of an i128 writes it
abbrev pub DecimalsAreRead : Type 0
DecimalsAreRead = (value : ℤ) → unsigned_abs value < 2 ^ 128 → number_of (signed_decimal value) ≡ Some value
