-- Laws of the definition of spelling.
use Rattle.std.specs.Prelude.{◌≡◌, ◌<◌, ◌≤◌, ◌+◌, ℕ, true, false, nat_eq, List, ◌∷◌, ◌++◌, length, take, drop, slice_get, codes, Contains, Some, None}
use Rattle.std.specs.List.{starts_with}
use Rattle.cc_tree.specs.declared.piece.Piece.{Piece}
use Rattle.cc_tree.specs.declared.piece.Piece.TheVariants.{Sign}
use Rattle.cc_tree.specs.Gaps.{comment_end}
use Rattle.cc_tree.specs.Pieces.{sign, is_quote}
use Rattle.cc_tree.specs.Quotes.{Body, closing}
use Rattle.cc_tree.specs.Signs.{signs}
use Rattle.cc_tree.specs.Spelling.{Reading, Spelled}

-- a source has a reading
abbrev pub EachRead : Type 0
EachRead = (source : List ℕ) → (reading : Reading) × Spelled source reading

-- two readings of a source are the same
abbrev pub OneReading : Type 0
OneReading = (source : List ℕ) (a b : Reading) → Spelled source a → Spelled source b → a ≡ b

abbrev pub IsSignOfAtLeast : ℕ → Piece → Type 0
IsSignOfAtLeast least piece = (number len : ℕ) × (piece ≡ Sign number len) × (least ≤ len)

-- no sign that begins the bytes is longer than the one that is taken
abbrev pub TakesLongestSign : Type 0
TakesLongestSign =
    (bytes spelling : List ℕ) → Contains signs spelling → starts_with nat_eq bytes spelling ≡ true
    → IsSignOfAtLeast (length spelling) (sign bytes)

-- what is taken is the sign of the table with this number
abbrev pub TakesSign : Type 0
TakesSign =
    (bytes : List ℕ) (number len : ℕ) → sign bytes ≡ Sign number len → slice_get signs number ≡ Some (take len bytes)

-- a body without a bare quote is closed by the quote behind it
abbrev pub ClosesBody : Type 0
ClosesBody =
    (quote : ℕ) (body rest : List ℕ) → is_quote quote ≡ true → Body quote body
    → closing quote false 0 (body ++ quote ∷ rest) ≡ Some (length body)

-- what is closed is a body without a bare quote, and then the quote
pub record IsClosedAt (quote : ℕ) (bytes : List ℕ) (at : ℕ) : Type 0 where
  pub body : Body quote (take at bytes)
  pub closer : slice_get bytes at ≡ Some quote

abbrev pub ClosedBody : Type 0
ClosedBody =
    (quote : ℕ) (bytes : List ℕ) (at : ℕ) → closing quote false 0 bytes ≡ Some at → IsClosedAt quote bytes at

-- the comment's end is behind the first `*/`
pub record IsFirstEnd (bytes : List ℕ) (end : ℕ) : Type 0 where
  pub ends : (k : ℕ) × (k + 2 ≡ end) × (starts_with nat_eq (drop k bytes) (codes "*/") ≡ true)
  pub first : (k : ℕ) → k + 2 < end → starts_with nat_eq (drop k bytes) (codes "*/") ≡ false

abbrev pub EndsComment : Type 0
EndsComment = (bytes : List ℕ) (end : ℕ) → comment_end 0 bytes ≡ Some end → IsFirstEnd bytes end

-- a comment without an end has no `*/`
abbrev pub LeavesComment : Type 0
LeavesComment =
    (bytes : List ℕ) → comment_end 0 bytes ≡ None
    → (k : ℕ) → starts_with nat_eq (drop k bytes) (codes "*/") ≡ false
