-- Texts of rows, one behind the other.
use Rattle.std.specs.Prelude.{◌<◌, ◌≤◌, ◌+◌, ℕ, List, [], ◌++◌}

-- The texts of the rows from one up to another, where R says which text a row has.
pub data Rows (R : ℕ → List ℕ → Type 0) : ℕ → ℕ → List ℕ → Type 0 where
  none : {first past : ℕ} → past ≤ first → Rows R first past []
  row : {first past : ℕ} {text rest : List ℕ} → first < past → R first text → Rows R (first + 1) past rest → Rows R first past (text ++ rest)

-- a text is that of the rows before one, whatever text the others have
abbrev pub GoesTo : (ℕ → List ℕ → Type 0) → ℕ → ℕ → ℕ → List ℕ → Type 0
GoesTo R first at past text = (more : List ℕ) → Rows R at past more → Rows R first past (text ++ more)
