-- What the library makes of texts and bytes. A text is its units of UTF-16 (ECMA-335, I.8.2.2); UTF-8 is that of the Unicode Standard (3.9, D92).
-- An integer's text is std's `signed_decimal`, a character's is its one unit.
use Rattle.std.specs.Prelude.{ℕ, zero, suc, ◌==◌, Bool, true, false, Option, Some, None, List, [], ◌∷◌, ◌++◌, length, take, drop, position, codes, if◌then◌else◌}
use Rattle.std.specs.List.{flat_map}
use Rattle.std.specs.Char.{encode_utf8, IsScalar}
use Rattle.std.specs.Char.Escape.{encode_utf16}
use Rattle.std.specs.Char.Utf16.{utf16_lossy_chars}
use Rattle.std.specs.Str.{byte, chars, encode_utf8_all, StartsWithNoChar}
use Rattle.std.specs.Str.Lines.{strip_carriage_return}
use Rattle.std.specs.Str.Lossy.{utf8_valid_len}

abbrev pub boolean_text : Bool → List ℕ
boolean_text true = codes "True"
boolean_text false = codes "False"

-- the bytes that a text is printed as: its characters in UTF-8, with U+FFFD for a surrogate without its partner
abbrev pub printed_bytes : List ℕ → List ℕ
printed_bytes units = encode_utf8_all (utf16_lossy_chars units)

-- The text that bytes decode to, from their start to their end: a well-formed sequence of UTF-8 gives the units of its character, and a byte that begins none
-- gives U+FFFD.
pub data Decodes : List ℕ → List ℕ → Type 0 where
  nothing : Decodes [] []
  character : (c : ℕ) {bytes units : List ℕ} → IsScalar c → Decodes bytes units → Decodes (encode_utf8 c ++ bytes) (encode_utf16 c ++ units)
  replaced : (b : ℕ) {bytes units : List ℕ} → StartsWithNoChar (b ∷ bytes) → Decodes bytes units → Decodes (b ∷ bytes) (0xFFFD ∷ units)

-- That text as a function: the longest well-formed front, U+FFFD for the byte behind it, and so on behind that byte; k is more than the bytes that are replaced.
unfoldable pub decoded_within : ℕ → List ℕ → List ℕ
decoded_within zero bytes = []
decoded_within (suc k) bytes = let n = utf8_valid_len bytes in
    flat_map encode_utf16 (chars (take n bytes)) ++ (if n == length bytes then [] else 0xFFFD ∷ decoded_within k (drop (suc n) bytes))

abbrev pub decoded_text : List ℕ → List ℕ
decoded_text bytes = decoded_within (suc (length bytes)) bytes

-- where the first line feed stands
abbrev pub line_feed_in : List ℕ → Option ℕ
line_feed_in input = position (λ b. b == byte "\n") input

-- the first line of an input: up to its line feed and without one carriage return before it, or all of an input that has no line feed
abbrev pub line_to : Option ℕ → List ℕ → List ℕ
line_to None input = input
line_to (Some at) input = strip_carriage_return (take at input)

abbrev pub first_line : List ℕ → List ℕ
first_line input = line_to (line_feed_in input) input

-- how many bytes that line takes, its line feed included
abbrev pub length_to : Option ℕ → List ℕ → ℕ
length_to None input = length input
length_to (Some at) input = suc at

abbrev pub first_line_length : List ℕ → ℕ
first_line_length input = length_to (line_feed_in input) input
