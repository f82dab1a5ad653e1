-- What a number is: an integer literal (ECMA-372, 9.1.3; ISO/IEC 14882:2003, 2.13.1, with `long long` added).
use Rattle.std.specs.Prelude.{ℕ, ◌^◌, Bool, false, ◌==◌, nat_le, if◌then◌else◌, List, length, take, drop, slice_index, codes, Option, Some, None}
use Rattle.std.specs.Char.{eq_ignore_ascii_case}
use Rattle.std.specs.Str.{byte, str_eq_ignore_ascii_case}
use Rattle.cc_tree.specs.Digits.{digit_count, number}
use Rattle.cc_tree.specs.declared.token.Suffix.{Suffix}
use Rattle.cc_tree.specs.declared.token.Suffix.TheVariants.{Plain, U, Ll, Ull}
use Rattle.cc_tree.specs.declared.token.Radix.{Radix}
use Rattle.cc_tree.specs.declared.token.Radix.TheVariants.{Decimal, Hexadecimal, Octal}
use Rattle.cc_tree.specs.declared.piece.Numeral.{Numeral}
use Rattle.cc_tree.specs.declared.piece.Numeral.TheVariants.{Value, Malformed, TooWide}

-- the suffix that these letters are, each in either case
abbrev pub suffix : List ℕ → Option Suffix
suffix letters =
    if str_eq_ignore_ascii_case letters (codes "") then Some Plain
    else if str_eq_ignore_ascii_case letters (codes "u") then Some U
    else if str_eq_ignore_ascii_case letters (codes "ll") then Some Ll
    else if str_eq_ignore_ascii_case letters (codes "ull") then Some Ull
    else if str_eq_ignore_ascii_case letters (codes "llu") then Some Ull
    else None

-- A decimal number without `u` has a signed type, `long long` at most.
abbrev pub is_too_wide : Radix → Suffix → ℕ → Bool
is_too_wide Decimal Plain value = nat_le (2 ^ 63) value
is_too_wide Decimal Ll value = nat_le (2 ^ 63) value
is_too_wide radix suffix value = false

unfoldable pub valued : Radix → Suffix → Option ℕ → Numeral
valued radix suffix None = TooWide
valued radix suffix (Some value) = if is_too_wide radix suffix value then TooWide else Value value suffix radix

-- `count` digits stand at the front, and then the suffix, if there is one
abbrev pub suffixed : Radix → (base : ℕ) → List ℕ → (count : ℕ) → Option Suffix → Numeral
suffixed radix base bytes count None = Malformed
suffixed radix base bytes count (Some suffix) =
    if count == 0 then Malformed else valued radix suffix (number base (take count bytes))

-- digits, as many as there are, then a suffix
unfoldable pub written : Radix → (base : ℕ) → List ℕ → Numeral
written radix base bytes =
    let count = digit_count base (length bytes) bytes in
    suffixed radix base bytes count (suffix (drop count bytes))

-- `0x` and hexadecimal digits, `0` and octal digits, or decimal digits
unfoldable pub numeral : List ℕ → Numeral
numeral bytes =
    if slice_index bytes 0 == byte "0"
    then (
    if eq_ignore_ascii_case (slice_index bytes 1) (byte "x") then written Hexadecimal 16 (drop 2 bytes)
    else written Octal 8 bytes
    )
    else written Decimal 10 bytes
