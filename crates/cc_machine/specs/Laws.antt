-- What makes runs and checks definite: a state has one next state, and a check has one answer.
use Rattle.std.specs.Prelude.{◌≡◌, ℕ, Option, List}
use Rattle.cc_cil.specs.Steps.{State, Step, Checks}

abbrev pub OneStep : Type 0
OneStep = (code : List ℕ) (s t u : State) → Step code s t → Step code s u → t ≡ u

abbrev pub OneAnswer : Type 0
OneAnswer = (code : List ℕ) (most at height : ℕ) (a b : Option ℕ) → Checks code most at height a → Checks code most at height b → a ≡ b
