-- The table of all that each class reaches, and how far a search for it has come.
use Rattle.std.specs.Prelude.{◌≡◌, ◌<◌, Bool, true, false, List, ◌++◌, length, slice_get, slice_index_or, count_by, All, Contains, Some}
use Rattle.cc_base.specs.declared.identifiers.ClassId.{ClassId}
use Rattle.cc_core.specs.Classes.{Reaches}

-- each class that a table names has a place in it
abbrev pub IsTable : List (List ClassId) → Type 0
IsTable steps = All (λ row. All (λ (class : ClassId). class.0 < length steps) row) steps

-- these are exactly the classes that one class reaches
pub record AreReached (steps : List (List ClassId)) (from : ClassId) (row : List ClassId) : Type 0 where
  pub sound : All (Reaches steps from) row
  pub complete : (to : ClassId) → Reaches steps from to → Contains row to

-- a table has at the place of each class those that it reaches
pub record IsClosure (steps rows : List (List ClassId)) : Type 0 where
  pub same_length : length rows ≡ length steps
  pub each : (from : ClassId) (row : List ClassId) → slice_get rows from.0 ≡ Some row → AreReached steps from row

-- the marks are those of exactly the classes that are found, each of which is found once
pub record AreMarked (marks : List Bool) (found : List ClassId) : Type 0 where
  pub marked : (class : ClassId) → slice_index_or marks class.0 false ≡ true → Contains found class
  pub within : All (λ (class : ClassId). class.0 < length marks) found
  pub counted : length found ≡ count_by (λ mark. mark) marks

-- all classes of a row were added to those found before, and nothing else
pub record IsAdded (row old new : List ClassId) : Type 0 where
  pub behind : List ClassId
  pub is : new ≡ old ++ behind
  pub of_row : All (Contains row) behind
  pub whole : All (Contains new) row
