-- What may stand between the quotes of a string or a character (ECMA-372, 9.1.3; ISO/IEC 14882:2003, 2.13.2).
use Rattle.std.specs.Prelude.{ℕ, ◌+◌, ◌-◌, ◌/◌, ◌%◌, ◌&&◌, ◌==◌, nat_lt, nat_le, if◌then◌else◌, List, length, take, drop, slice_index, Option, Some, None}
use Rattle.std.specs.Char.{is_digit}
use Rattle.std.specs.Str.{byte}
use Rattle.std.specs.Str.Parse.{digits_value}
use Rattle.bstr.specs.Utf8.{decoded}
use Rattle.cc_tree.specs.Digits.{digit_count}
use Rattle.cc_tree.specs.declared.piece.Element.{Element}
use Rattle.cc_tree.specs.declared.piece.Element.TheVariants.{One, Pair, BadByte, BadEscape}

-- a code point in UTF-16, written by n bytes
abbrev pub encoded : (code n : ℕ) → Element
encoded code n =
    if nat_lt code 0x10000 then One code n
    else Pair (0xD800 + (code - 0x10000) / 0x400) (0xDC00 + (code - 0x10000) % 0x400) n

-- From `least` to `most` digits, as many as there are, whose number is at most `limit`. `front` bytes of the escape
-- stand before them.
unfoldable pub numeric : (radix least most limit front : ℕ) → List ℕ → Element
numeric radix least most limit front bytes =
    let count = digit_count radix most bytes in
    let value = digits_value radix (take count bytes) in
    if nat_le least count && nat_le value limit then encoded value (front + count) else BadEscape (front + count)

-- the unit that a letter after a backslash stands for
abbrev pub letter : ℕ → Option ℕ
letter b =
    if b == byte "n" then Some 10
    else if b == byte "t" then Some 9
    else if b == byte "r" then Some 13
    else if b == byte "a" then Some 7
    else if b == byte "b" then Some 8
    else if b == byte "f" then Some 12
    else if b == byte "v" then Some 11
    else if b == byte "\\" then Some 92
    else if b == byte "'" then Some 39
    else if b == byte "\"" then Some 34
    else if b == byte "?" then Some 63
    else None

abbrev pub lettered : Option ℕ → Element
lettered None = BadEscape 2
lettered (Some unit) = One unit 2

-- an escape, from the byte after its backslash on
unfoldable pub escape : List ℕ → Element
escape bytes =
    let b = slice_index bytes 0 in
    if is_digit b 8 then numeric 8 1 3 0xFFFF 1 bytes
    else if b == byte "x" then numeric 16 1 (length bytes) 0xFFFF 2 (drop 1 bytes)
    else if b == byte "u" then numeric 16 4 4 0xFFFF 2 (drop 1 bytes)
    else if b == byte "U" then numeric 16 8 8 0x10FFFF 2 (drop 1 bytes)
    else lettered (letter b)

-- a character of n bytes in UTF-8, if there is one
abbrev pub character : Option ℕ → (n : ℕ) → Element
character None n = BadByte
character (Some code) n = encoded code n

-- what stands first
unfoldable pub element : List ℕ → Element
element bytes =
    if slice_index bytes 0 == byte "\\" && nat_lt 1 (length bytes) then escape (drop 1 bytes)
    else character (decoded bytes).char (decoded bytes).size
