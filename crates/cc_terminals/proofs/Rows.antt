-- What a word's row has, where the rows are read one after another.
use Rattle.std.proofs.Common.{◌≡◌, ℕ, Bool, true, false, cond, Option, Some, List, [], ◌∷◌, map, refl}
use Rattle.std.specs.Prelude.{find, option_map}
use Rattle.std.specs.Str.{bytes_eq}
use Rattle.cc_terminals.specs.Words.{found_in}

-- one row after the other
chosen : {A R : Type 0} (value : A → R) (b : Bool) (row : A) (found : Option A) (rest : Option R) → option_map value found ≡ rest → option_map value (cond b (Some row) found) ≡ cond b (Some (value row)) rest
chosen value true row found rest e = refl
chosen value false row found rest e = e

pub found_by_rows : {A R : Type 0} (letters : A → List ℕ) (value : A → R) (rows : List A) (word : List ℕ)
    → option_map value (find (λ row. bytes_eq (letters row) word) rows) ≡ found_in (map (λ row. (letters row, value row)) rows) word
found_by_rows letters value [] word = refl
found_by_rows letters value (row ∷ rows) word = chosen value (bytes_eq (letters row) word) row _ _ (found_by_rows letters value rows word)
