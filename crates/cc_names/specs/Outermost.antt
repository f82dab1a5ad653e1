-- What stands outside classes, without the namespaces around it: each with the names of these (ECMA-372, 10; ISO/IEC 14882:2003, 7.3).
use Rattle.std.specs.Prelude.{ℕ, List, [], ◌∷◌, ◌++◌, map, codes, length, take, drop, Bool, true, false, cond, ◌&&◌, nat_le, Option, Some, None, is_some}
use Rattle.std.specs.Str.{bytes_eq}
use Rattle.cc_base.specs.declared.text.Span.{Span}
use Rattle.cc_tree.specs.declared.identifier.Identifier.{Identifier}
use Rattle.cc_tree.specs.declared.class.Class.{Class}
use Rattle.cc_tree.specs.declared.class.Enumeration.{Enumeration}
use Rattle.cc_tree.specs.declared.unit.Unit.{Unit}
use Rattle.cc_tree.specs.declared.unit.Template.{Template}
use Rattle.cc_tree.specs.declared.unit.Function.{Function}
use Rattle.cc_tree.specs.declared.unit.Outer.{Outer, Outer-F, fold-Outer}
use Rattle.cc_tree.specs.declared.unit.Outer.TheOpen as o

-- the name of a namespace: the names from the outermost in, each with `::` after it
abbrev pub Path : Type 0
Path = List ℕ

abbrev pub within : Path → List ℕ → Path
within path name = path ++ name ++ codes "::"

abbrev pub path_from : Path → List Identifier → Path
path_from path [] = path
path_from path (name ∷ names) = path_from (within path name.name) names

abbrev pub path_of : List Identifier → Path
path_of = path_from []

-- what follows a first part of a text
abbrev pub after : List ℕ → List ℕ → Option (List ℕ)
after text part = cond (nat_le (length part) (length text) && bytes_eq (take (length part) text) part) (Some (drop (length part) text)) None

-- whether the first namespace is the other one or one around it: its name begins the other one's
abbrev pub encloses : Path → Path → Bool
encloses outer inner = is_some (after inner outer)

-- what follows the name of a namespace in the name of one in it
abbrev pub after_name : Path → List ℕ → Option Path
after_name path name = elim (after path name) [ None ↦ None | Some rest ↦ after rest (codes "::") ]

abbrev pub is_empty : Path → Bool
is_empty [] = true
is_empty (letter ∷ letters) = false

-- whether a namespace is the one of some names
abbrev pub is_path : Path → List Identifier → Bool
is_path path [] = is_empty path
is_path path (name ∷ names) = elim (after_name path name.name) [ None ↦ false | Some inner ↦ is_path inner names ]

pub data Outermost : Type 0 where
  directive : List Identifier → Span → Outermost
  -- a part of the namespace of the path
  part : Outermost
  class_ : Class → Outermost
  enumeration : Enumeration → Outermost
  forward : Identifier → Outermost
  template : Template → Outermost
  function : Function → Outermost

-- one of them, with the namespace in which it stands
pub record Standing : Type 0 where
  pub path : Path
  pub what : Outermost

abbrev pub standing : Outermost → Path → List Standing
standing what path = record { path = path; what = what } ∷ []

abbrev pub all_standing : List (Path → List Standing) → Path → List Standing
all_standing [] path = []
all_standing (one ∷ more) path = one path ++ all_standing more path

abbrev pub standing_layer : Outer-F (Path → List Standing) → Path → List Standing
standing_layer (o.Using names span) path = standing (directive names span) path
standing_layer (o.Namespace name outers span) path = standing part (within path name.name) ++ all_standing outers (within path name.name)
standing_layer (o.Class class) path = standing (class_ class) path
standing_layer (o.Enumeration enum) path = standing (enumeration enum) path
standing_layer (o.VisibleClass visible class span) path = standing (class_ class) path
standing_layer (o.VisibleEnumeration visible enum span) path = standing (enumeration enum) path
standing_layer (o.Forward key name span) path = standing (forward name) path
standing_layer (o.Template one) path = standing (template one) path
standing_layer (o.Function one) path = standing (function one) path

abbrev pub standing_of : Outer → Path → List Standing
standing_of = fold-Outer (Path → List Standing) standing_layer

-- all that stands outside classes in a unit, in order of place
abbrev pub standings : Unit → List Standing
standings unit = all_standing (map standing_of unit.outers) []
