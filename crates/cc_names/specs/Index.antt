-- The declarations of a source by their names.
use Rattle.std.specs.Prelude.{ℕ, List, [], Option, Some, None}
use Rattle.std.specs.Str.{bytes_eq}
use Rattle.std.specs.HashMap.{HashMap, get_by}
use Rattle.std.specs.declared.vec.Vec.{Vec}

abbrev pub numbers_or_none : Option (List ℕ) → List ℕ
numbers_or_none None = []
numbers_or_none (Some numbers) = numbers

-- the numbers under a name
abbrev pub numbers_under : {A S : Type 0} → HashMap (Vec ℕ A) (List ℕ) S → List ℕ → List ℕ
numbers_under map name = numbers_or_none (get_by (λ key. bytes_eq name key.items) map)
