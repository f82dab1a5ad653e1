-- Parts of a tree, and rows that stand behind references.
use Rattle.std.proofs.Common.{◌≡◌, ℕ, List, [], ◌∷◌, Option, map, option_map, slice_get, refl, sym, ap, ◌∙◌}
use Rattle.std.proofs.lemmas.Option.{slice_get-map}

-- the seconds of pairs that are made of each element
pub map_seconds : {R A C : Type 0} (rows : List R) (first : R → A) (second : R → C) → map second rows ≡ map (λ (p : A × C). p.1) (map (λ (r : R). (first r, second r)) rows)
map_seconds [] first second = refl
map_seconds (row ∷ rows) first second = ap (λ l. second row ∷ l) (map_seconds rows first second)

-- what is made of the element at a place
pub made_at : {R A : Type 0} (rows : List R) (make : R → A) (at : ℕ) (found : Option R) (all : List A) → found ≡ slice_get rows at → map make rows ≡ all → option_map make found ≡ slice_get all at
made_at rows make at found all e h = ap (λ o. option_map make o) e ∙ sym (slice_get-map make rows at) ∙ ap (λ l. slice_get l at) h
