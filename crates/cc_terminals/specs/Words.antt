-- Sets of words, and words that may be missing.
use Rattle.std.specs.Prelude.{ℕ, List, [], ◌∷◌, Option, Some, None, Bool, cond}
use Rattle.std.specs.Str.{bytes_eq}
use Rattle.std.specs.HashSet.{HashSet, contains_by}
use denote.Ref.{Bor}

-- a set holds a word
abbrev pub holds : {S : Type 0} → HashSet (Bor (List ℕ)) S → List ℕ → Bool
holds set word = contains_by (λ key. bytes_eq word key.now) set

-- the word, or none
abbrev pub words_of : Option (Bor (List ℕ)) → List (List ℕ)
words_of None = []
words_of (Some word) = word.now ∷ []

-- what the first row of a word has
abbrev pub found_in : {R : Type 0} → List (List ℕ × R) → List ℕ → Option R
found_in [] word = None
found_in (row ∷ rows) word = cond (bytes_eq row.0 word) (Some row.1) (found_in rows word)
