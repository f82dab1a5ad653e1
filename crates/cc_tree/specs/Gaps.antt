-- Blanks and comments (ISO/IEC 14882:2003, 2.7).
use Rattle.std.specs.Prelude.{ℕ, zero, suc, ◌+◌, Bool, not, ◌&&◌, ◌||◌, ◌==◌, nat_lt, nat_eq, if◌then◌else◌, List, [], ◌∷◌, length, drop, slice_index, codes, unwrap_or, Option, Some, None}
use Rattle.std.specs.List.{starts_with}
use Rattle.std.specs.Str.{byte}

abbrev pub is_on_line : ℕ → Bool
is_on_line b = not (b == byte "\n")

-- space, tab, line feed, vertical tab, form feed, carriage return
abbrev pub is_blank : ℕ → Bool
is_blank b = b == byte " " || b == byte "\t" || b == byte "\n" || b == 11 || b == 12 || b == byte "\r"

-- the place behind the first `*/`, where the first byte stands at `at`
abbrev pub comment_end : (at : ℕ) → List ℕ → Option ℕ
comment_end at [] = None
comment_end at (b ∷ bytes) =
    if starts_with nat_eq (b ∷ bytes) (codes "*/") then Some (at + 2) else comment_end (at + 1) bytes

-- how many bytes the comment `/* .. */` at the front has, or 0 where none is closed
abbrev pub comment_len : List ℕ → ℕ
comment_len bytes = if starts_with nat_eq bytes (codes "/*") then unwrap_or (comment_end 2 (drop 2 bytes)) 0 else 0

-- how many bytes the blank or comment at the front has, or 0
abbrev pub gap_len : List ℕ → ℕ
gap_len bytes = if nat_lt 0 (length bytes) && is_blank (slice_index bytes 0) then 1 else comment_len bytes

-- behind at most so many blanks and comments
abbrev pub past_some_gaps : (most : ℕ) → List ℕ → List ℕ
past_some_gaps zero bytes = bytes
past_some_gaps (suc most) bytes =
    if nat_lt 0 (gap_len bytes) then past_some_gaps most (drop (gap_len bytes) bytes) else bytes

-- behind the blanks and comments at the front
abbrev pub past_gaps : List ℕ → List ℕ
past_gaps bytes = past_some_gaps (length bytes) bytes
