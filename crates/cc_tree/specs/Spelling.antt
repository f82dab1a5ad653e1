-- How tokens are spelled (ECMA-372, clause 9; ISO/IEC 14882:2003, clause 2): the relation between a source and its tokens,
-- or why and where it is refused.
use Rattle.std.specs.Prelude.{◌≡◌, ◌<◌, ◌≤◌, ◌+◌, ◌-◌, ◌⊎◌, ℕ, Bool, true, false, nat_eq, if◌then◌else◌, List, [], ◌∷◌, length, take, drop, Result, Ok, Err}
use Rattle.std.specs.List.{starts_with}
use Rattle.cc_base.specs.declared.kind.Kind.TheVariants as kind
use Rattle.cc_tree.specs.declared.token.Token.{Token}
use Rattle.cc_tree.specs.declared.token.TokenKind.{TokenKind}
use Rattle.cc_tree.specs.declared.token.TokenKind.TheVariants as token_kind
use Rattle.cc_tree.specs.declared.piece.Piece.{Piece}
use Rattle.cc_tree.specs.declared.piece.Piece.TheVariants as pieces
use Rattle.cc_tree.specs.Quotes.{Units, Decodes}
use Rattle.cc_tree.specs.Refusals.{span, Refusal, moved}
use Rattle.cc_tree.specs.Pieces.{piece}

-- the tokens of a source, or why and where it is refused
abbrev pub Reading : Type 0
Reading = Result (List Token) Refusal

-- the token that a piece spells and how many bytes it has, or why and where it is refused
abbrev pub Made : Type 0
Made = Result (TokenKind × ℕ) Refusal

abbrev pub token_at : (at n : ℕ) → TokenKind → Token
token_at at n kind = record { kind = kind; span = span at (at + n) }

-- what stands between the quotes at two places
abbrev pub body : (start end : ℕ) → List ℕ → List ℕ
body start end bytes = take (end - (start + 1)) (drop (start + 1) bytes)

abbrev pub literal : (start end : ℕ) → Units → Made
literal start end (Ok units) = Ok (token_kind.Literal units, end + 1)
literal start end (Err refusal) = Err (moved (start + 1) refusal)

-- a character is exactly one unit
abbrev pub character : (start end : ℕ) → Units → Made
character start end (Ok (unit ∷ [])) = Ok (token_kind.Character unit, end + 1)
character start end (Ok units) = Err (kind.BadLiteral, span start (end + 1))
character start end (Err refusal) = Err (moved (start + 1) refusal)

-- what a piece at the front of the bytes spells
abbrev pub Makes : Piece → List ℕ → Made → Type 0
Makes (pieces.Gap n line_start) bytes made = ⊥
Makes (pieces.Word n) bytes made = made ≡ Ok (token_kind.Word (take n bytes), n)
Makes (pieces.Number value suffix radix n) bytes made = made ≡ Ok (token_kind.Number value suffix radix, n)
Makes (pieces.Sign number n) bytes made = made ≡ Ok (token_kind.Sign number, n)
Makes (pieces.Literal start end) bytes made =
    (units : Units) × Decodes 0 (body start end bytes) units × (made ≡ literal start end units)
Makes (pieces.Character start end) bytes made =
    (units : Units) × Decodes 0 (body start end bytes) units × (made ≡ character start end units)
Makes (pieces.Refused why place) bytes made = made ≡ Err (why, place)

abbrev pub with_first : Token → Reading → Reading
with_first token (Ok tokens) = Ok (token ∷ tokens)
with_first token (Err refusal) = Err refusal

-- The bytes from the place `at` on are pieces in a row with these tokens, or the first place at which none begins is
-- refused. `line_start` says that only blanks and comments stand before `at` on its line.
pub data Spells : (line_start : Bool) → (at : ℕ) → List ℕ → Reading → Type 0 where
  ends : {line_start : Bool} {at : ℕ} → Spells line_start at [] (Ok [])
  gap : {line_start next : Bool} {at n : ℕ} {bytes : List ℕ} {reading : Reading}
      → 0 < length bytes → piece bytes line_start ≡ pieces.Gap n next
      → Spells next (at + n) (drop n bytes) reading → Spells line_start at bytes reading
  token : {line_start : Bool} {at : ℕ} {bytes : List ℕ} (kind : TokenKind) (n : ℕ) {reading : Reading}
      → 0 < length bytes → Makes (piece bytes line_start) bytes (Ok (kind, n))
      → Spells false (at + n) (drop n bytes) reading
      → Spells line_start at bytes (with_first (token_at at n kind) reading)
  refused : {line_start : Bool} {at : ℕ} {bytes : List ℕ} (refusal : Refusal)
      → 0 < length bytes → Makes (piece bytes line_start) bytes (Err refusal)
      → Spells line_start at bytes (Err (moved at refusal))

-- behind the byte order mark at the start, if there is one
abbrev pub start_of : List ℕ → ℕ
start_of source = if starts_with nat_eq source (0xEF ∷ 0xBB ∷ 0xBF ∷ []) then 3 else 0

-- A source of at most 1,048,576 bytes is spelled by its pieces; a longer one is refused.
abbrev pub Spelled : (source : List ℕ) → Reading → Type 0
Spelled source reading =
    ((1048576 < length source) × (reading ≡ Err (kind.SourceTooLong, span 1048576 1048577)))
    ⊎ ((length source ≤ 1048576) × Spells true (start_of source) (drop (start_of source) source) reading)
