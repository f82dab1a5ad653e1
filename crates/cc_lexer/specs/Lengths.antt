-- How many bytes pieces and elements have.
use Rattle.std.specs.Prelude.{◌≤◌, ◌<◌, ℕ}
use Rattle.cc_tree.specs.declared.piece.Element.{Element}
use Rattle.cc_tree.specs.declared.piece.Element.TheVariants.{One, Pair, BadByte, BadEscape}
use Rattle.cc_tree.specs.declared.piece.Piece.{Piece}
use Rattle.cc_tree.specs.declared.piece.Piece.TheVariants.{Gap, Word, Number, Sign, Literal, Character, Refused}
use Rattle.cc_lexer.specs.Faults.{IsLexical}

-- how many bytes write an element
abbrev pub written_len : Element → ℕ
written_len (One unit n) = n
written_len (Pair high low n) = n
written_len BadByte = 1
written_len (BadEscape n) = n

-- The piece has at least one byte and at most so many. A refusal names bytes among them and is for a kind of its own.
abbrev pub IsPieceWithin : (len : ℕ) → Piece → Type 0
IsPieceWithin len (Gap n line_start) = (0 < n) × (n ≤ len)
IsPieceWithin len (Word n) = (0 < n) × (n ≤ len)
IsPieceWithin len (Number value suffix radix n) = (0 < n) × (n ≤ len)
IsPieceWithin len (Sign number n) = (0 < n) × (n ≤ len)
IsPieceWithin len (Literal start end) = (start < end) × (end < len)
IsPieceWithin len (Character start end) = (start < end) × (end < len)
IsPieceWithin len (Refused why place) = IsLexical why × (place.first ≤ len) × (place.past ≤ len)

-- the piece spells a token or is refused
abbrev pub IsToken : Piece → Type 0
IsToken (Gap n line_start) = ⊥
IsToken other = Unit {0}
