-- Directive lines (ISO/IEC 14882:2003, clause 16): the two that are skipped.
use Rattle.std.specs.Prelude.{ℕ, ◌-◌, Bool, not, ◌&&◌, ◌||◌, ◌==◌, nat_eq, if◌then◌else◌, List, length, drop, slice_index, codes, Option, Some, None}
use Rattle.std.specs.List.{starts_with}
use Rattle.cc_tree.specs.Digits.{is_word_byte}
use Rattle.cc_tree.specs.Gaps.{past_gaps}

abbrev pub begins_word : List ℕ → (word : List ℕ) → Bool
begins_word bytes word = starts_with nat_eq bytes word && not (is_word_byte (slice_index bytes (length word)))

-- nothing follows, or a comment up to the line's end
abbrev pub is_line_end : List ℕ → Bool
is_line_end bytes = length bytes == 0 || starts_with nat_eq bytes (codes "//")

-- `<mscorlib.dll>`, and then nothing but blanks and comments
abbrev pub is_library : List ℕ → Bool
is_library bytes = starts_with nat_eq bytes (codes "<mscorlib.dll>") && is_line_end (past_gaps (drop 14 bytes))

-- How many bytes of a skipped directive line, from its `#` on, are read as blanks, comments and words: all of a line
-- `#using <mscorlib.dll>`, and of a line with the word `pragma` those before that word. `None` for another directive.
unfoldable pub read_len : (line : List ℕ) → Option ℕ
read_len line =
    let word = past_gaps (drop 1 line) in
    if begins_word word (codes "pragma") then Some (length line - length word)
    else if begins_word word (codes "using") && is_library (past_gaps (drop 5 word)) then Some (length line)
    else None
