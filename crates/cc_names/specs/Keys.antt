-- Keys in order, and pairs of names of which the first leads to the second: a class to its bases, a value class to the types of what it holds.
use Rattle.std.specs.Prelude.{ℕ, zero, suc, List, [], ◌∷◌, length, Bool, false, cond, ◌||◌, Option, Some, None, slice_get}
use Rattle.std.specs.List.{list_any}
use Rattle.std.specs.Str.{bytes_eq}

-- the places of a key, the first of which has a number
abbrev pub places_from : ℕ → List (List ℕ) → List ℕ → List ℕ
places_from n [] key = []
places_from n (one ∷ keys) key = cond (bytes_eq one key) (n ∷ places_from (suc n) keys key) (places_from (suc n) keys key)

abbrev pub places : List (List ℕ) → List ℕ → List ℕ
places = places_from 0

abbrev pub has : List (List ℕ) → List ℕ → Bool
has keys key = list_any (λ one. bytes_eq one key) keys

-- pairs, by their firsts and their seconds in the same order
pub record Ways : Type 0 where
  pub firsts : List (List ℕ)
  pub seconds : List (List ℕ)

-- whether at most so many steps lead from a name to a name
abbrev pub leads_within : ℕ → Ways → List ℕ → List ℕ → Bool
leads_within zero ways from to = bytes_eq from to
leads_within (suc n) ways from to =
    bytes_eq from to || list_any (λ number. elim (slice_get ways.seconds number) [ None ↦ false | Some second ↦ leads_within n ways second to ]) (places ways.firsts from)

-- no way needs a pair twice
abbrev pub leads : Ways → List ℕ → List ℕ → Bool
leads ways = leads_within (length ways.firsts) ways

-- whether a name leads to a name, where there is one
abbrev pub leads_from : Ways → Option (List ℕ) → List ℕ → Bool
leads_from ways None to = false
leads_from ways (Some from) to = leads ways from to
