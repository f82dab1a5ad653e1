-- Prefix codes: sets of texts of which none begins another, and the first place at which bytes leave them.
use Rattle.std.specs.Prelude.{◌≡◌, ◌<◌, ◌≤◌, ◌+◌, ℕ, List, ◌++◌, length, take}

-- no text of P begins another
abbrev pub IsCode : (List ℕ → Type 0) → Type 0
IsCode P = (a b x y : List ℕ) → P a → P b → a ++ x ≡ b ++ y → (a ≡ b) × (x ≡ y)

-- n is the first place at which no text of P continues the bytes before it, or where the bytes end too early
pub record IsBad (P : List ℕ → Type 0) (bytes : List ℕ) (n : ℕ) : Type 0 where
  pub within : n ≤ length bytes
  pub front : (more : List ℕ) × (0 < length more) × P (take n bytes ++ more)
  pub first : n < length bytes → (more : List ℕ) → P (take (n + 1) bytes ++ more) → ⊥

-- a text of P and then one of Q, which may depend on it
abbrev pub Then : (List ℕ → Type 0) → (List ℕ → List ℕ → Type 0) → List ℕ → Type 0
Then P Q text = (a : List ℕ) × (b : List ℕ) × P a × Q a b × (text ≡ a ++ b)
