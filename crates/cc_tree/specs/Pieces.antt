-- The piece that begins some bytes: the longest of its sort.
use Rattle.std.specs.Prelude.{ℕ, ◌+◌, Bool, true, false, ◌&&◌, ◌||◌, ◌==◌, nat_lt, nat_eq, if◌then◌else◌, List, length, take, drop, slice_index, codes, Option, Some, None}
use Rattle.std.specs.List.{prefix_len, starts_with}
use Rattle.std.specs.Char.{is_ascii_digit}
use Rattle.std.specs.Str.{byte, is_utf8}
use Rattle.std.specs.Str.Lossy.{utf8_valid_len}
use Rattle.cc_base.specs.declared.kind.Kind.{Kind}
use Rattle.cc_base.specs.declared.kind.Kind.TheVariants as kind
use Rattle.cc_tree.specs.declared.piece.Numeral.{Numeral}
use Rattle.cc_tree.specs.declared.piece.Numeral.TheVariants.{Value, Malformed, TooWide}
use Rattle.cc_tree.specs.declared.piece.Piece.{Piece}
use Rattle.cc_tree.specs.declared.piece.Piece.TheVariants.{Gap, Word, Number, Sign, Literal, Character, Refused}
use Rattle.cc_tree.specs.Digits.{is_word_byte}
use Rattle.cc_tree.specs.Numbers.{numeral}
use Rattle.cc_tree.specs.Quotes.{closing}
use Rattle.cc_tree.specs.Refusals.{span}
use Rattle.cc_tree.specs.Gaps.{is_on_line, is_blank, comment_len}
use Rattle.cc_tree.specs.Directives.{read_len}
use Rattle.cc_tree.specs.Signs.{sign_number}

abbrev pub refused : Kind → (past : ℕ) → Piece
refused why past = Refused why (span 0 past)

-- A number is a digit with all letters, digits, `_` and `.` that follow.
abbrev pub is_number_byte : ℕ → Bool
is_number_byte b = is_word_byte b || b == byte "."

abbrev pub number_piece : (n : ℕ) → Numeral → Piece
number_piece n (Value value suffix radix) = Number value suffix radix n
number_piece n Malformed = refused kind.BadLiteral n
number_piece n TooWide = refused kind.NumberTooWide n

unfoldable pub number : List ℕ → Piece
number bytes = let n = prefix_len is_number_byte bytes in number_piece n (numeral (take n bytes))

-- the piece, where the bytes are well-formed UTF-8; else the first that is not is refused
unfoldable pub checked : List ℕ → Piece → Piece
checked bytes piece =
    if is_utf8 bytes then piece
    else Refused kind.BadByte (span (utf8_valid_len bytes) (utf8_valid_len bytes + 1))

abbrev pub directive_piece : (line : List ℕ) → Option ℕ → Piece
directive_piece line None = refused kind.Directive (length line)
directive_piece line (Some n) = checked (take n line) (Gap (length line) true)

-- a directive line, from its `#` to before its line feed
unfoldable pub directive : List ℕ → Piece
directive bytes = let line = take (prefix_len is_on_line bytes) bytes in directive_piece line (read_len line)

-- a comment `//`, to before the line feed
unfoldable pub line_comment : List ℕ → (line_start : Bool) → Piece
line_comment bytes line_start = let n = prefix_len is_on_line bytes in checked (take n bytes) (Gap n line_start)

-- a comment `/* .. */`; one that crosses a line's end leads to the start of a line
unfoldable pub block_comment : List ℕ → (line_start : Bool) → Piece
block_comment bytes line_start =
    let n = comment_len bytes in
    if n == 0 then refused kind.UnclosedComment 2
    else checked (take n bytes) (Gap n (line_start || nat_lt (prefix_len is_on_line (take n bytes)) n))

abbrev pub is_quote : ℕ → Bool
is_quote b = b == byte "\"" || b == byte "'"

-- A string or a character whose opening quote stands at `start`: at 0, or at 1 behind the letter `L`. Where it is not
-- closed the quote is refused, and an `L` before it is a word.
abbrev pub quoted_piece : List ℕ → (start : ℕ) → (length : Option ℕ) → Piece
quoted_piece bytes start None = if start == 0 then refused kind.UnclosedText 1 else Word 1
quoted_piece bytes start (Some n) =
    if slice_index bytes start == byte "\"" then Literal start (start + 1 + n) else Character start (start + 1 + n)

unfoldable pub quoted : List ℕ → (start : ℕ) → Piece
quoted bytes start = quoted_piece bytes start (closing (slice_index bytes start) false 0 (drop (start + 1) bytes))

-- the sign that the front spells, or another piece
abbrev pub signed : (front : List ℕ) → Option ℕ → Piece → Piece
signed front None other = other
signed front (Some number) other = Sign number (length front)

-- the longest sign: none has over three bytes
unfoldable pub sign : List ℕ → Piece
sign bytes =
    signed (take 3 bytes) (sign_number (take 3 bytes))
    (signed (take 2 bytes) (sign_number (take 2 bytes))
    (signed (take 1 bytes) (sign_number (take 1 bytes)) (refused kind.BadByte 1)))

-- a string or a character behind an `L`
abbrev pub begins_wide : List ℕ → Bool
begins_wide bytes = slice_index bytes 0 == byte "L" && is_quote (slice_index bytes 1)

unfoldable pub token : List ℕ → Piece
token bytes =
    let b = slice_index bytes 0 in
    if is_ascii_digit b then number bytes
    else if is_quote b then quoted bytes 0
    else if begins_wide bytes then quoted bytes 1
    else if is_word_byte b then Word (prefix_len is_word_byte bytes)
    else sign bytes

-- The piece that begins the bytes, where `line_start` says that only blanks and comments stand before it on its line.
unfoldable pub piece : List ℕ → (line_start : Bool) → Piece
piece bytes line_start =
    let b = slice_index bytes 0 in
    if is_blank b then Gap 1 (line_start || b == byte "\n")
    else if b == byte "#" && line_start then directive bytes
    else if starts_with nat_eq bytes (codes "//") then line_comment bytes line_start
    else if starts_with nat_eq bytes (codes "/*") then block_comment bytes line_start
    else token bytes
