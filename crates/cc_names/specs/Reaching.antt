-- Which pairs were reached, and in which order.
use Rattle.std.specs.Prelude.{◌≡◌, ◌==◌, ◌<◌, ℕ, suc, List, [], ◌∷◌, Bool, true, false, Some, length, slice_get}
use Rattle.std.specs.List.{list_any}
use Rattle.std.specs.Str.{bytes_eq}
use Rattle.cc_names.specs.Keys.{Ways, places, leads_within}

-- a number stands in a list
abbrev pub In : List ℕ → ℕ → Type 0
In numbers number = (at : ℕ) × (slice_get numbers at ≡ Some number)

abbrev pub has_number : List ℕ → ℕ → Bool
has_number numbers number = list_any (λ one. one == number) numbers

-- how many are false
abbrev pub unused : List Bool → ℕ
unused [] = 0
unused (true ∷ more) = unused more
unused (false ∷ more) = suc (unused more)

-- What a search from a name to a name knows, when so many of the pairs that it reached are gone through.
pub record Searched (ways : Ways) (from to : List ℕ) (order : List ℕ) (done : ℕ) : Type 0 where
  pub start : (pair : ℕ) → In (places ways.firsts from) pair → In order pair
  pub onward : (at pair : ℕ) (name : List ℕ) (other : ℕ) → at < done → slice_get order at ≡ Some pair → slice_get ways.seconds pair ≡ Some name → In (places ways.firsts name) other → In order other
  pub apart : (at pair : ℕ) (name : List ℕ) → at < done → slice_get order at ≡ Some pair → slice_get ways.seconds pair ≡ Some name → bytes_eq name to ≡ false
  pub led : (at pair : ℕ) (name : List ℕ) → slice_get order at ≡ Some pair → slice_get ways.seconds pair ≡ Some name → leads_within (suc at) ways from name ≡ true
