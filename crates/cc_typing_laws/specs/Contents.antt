-- What stands in the namespaces of a source, in order of place: the functions with a body, and the using directives (ECMA-372, 10 and 25; ISO/IEC 14882:2003, 7.3).
use Rattle.std.specs.Prelude.{List, [], ◌∷◌, ◌++◌, map, Option, Some, None}
use Rattle.cc_base.specs.declared.text.Span.{Span}
use Rattle.cc_tree.specs.declared.identifier.Identifier.{Identifier}
use Rattle.cc_tree.specs.declared.statement.Block.{Block}
use Rattle.cc_tree.specs.declared.unit.Function.{Function}
use Rattle.cc_tree.specs.declared.unit.Outer.{Outer, Outer-F, fold-Outer}
use Rattle.cc_tree.specs.declared.unit.Outer.TheOpen as o
use Rattle.cc_tree.specs.declared.unit.Unit as unit
use Rattle.cc_operations.specs.declared.source.Directed.{Directed}
use Rattle.cc_terms.specs.Resolving.{Path, within, path_from}

-- a function with a body, and the path of the namespaces around it
pub record Placed : Type 0 where
  pub path : Path
  pub function : Function
  pub body : Block

abbrev pub in_order : List (Path → List Placed) → Path → List Placed
in_order [] path = []
in_order (one ∷ more) path = one path ++ in_order more path

-- a prototype has no effect
abbrev pub placed : Function → Option Block → Path → List Placed
placed one None path = []
placed one (Some body) path = record { path = path; function = one; body = body } ∷ []

abbrev pub functions_layer : Outer-F (Path → List Placed) → Path → List Placed
functions_layer (o.Using names span) path = []
functions_layer (o.Namespace name outers span) path = in_order outers (within path name.name)
functions_layer (o.Class one) path = []
functions_layer (o.Enumeration one) path = []
functions_layer (o.VisibleClass visible one span) path = []
functions_layer (o.VisibleEnumeration visible one span) path = []
functions_layer (o.Forward key name span) path = []
functions_layer (o.Template one) path = []
functions_layer (o.Function one) path = placed one one.body path

abbrev pub functions_of : Outer → Path → List Placed
functions_of = fold-Outer (Path → List Placed) functions_layer

-- the functions of a unit
abbrev pub functions : unit.Unit → List Placed
functions tree = in_order (map functions_of tree.outers) []

abbrev pub joined : List (List Directed) → List Directed
joined [] = []
joined (one ∷ more) = one ++ joined more

-- the namespace of a directive is written out in full
abbrev pub directive : List Identifier → Span → Directed
directive names span = record { path = path_from [] names; past = span.past }

abbrev pub directed_layer : Outer-F (List Directed) → List Directed
directed_layer (o.Using names span) = directive names span ∷ []
directed_layer (o.Namespace name outers span) = joined outers
directed_layer (o.Class one) = []
directed_layer (o.Enumeration one) = []
directed_layer (o.VisibleClass visible one span) = []
directed_layer (o.VisibleEnumeration visible one span) = []
directed_layer (o.Forward key name span) = []
directed_layer (o.Template one) = []
directed_layer (o.Function one) = []

abbrev pub directed_of : Outer → List Directed
directed_of = fold-Outer (List Directed) directed_layer

-- the using directives of a unit
abbrev pub directed : unit.Unit → List Directed
directed tree = joined (map directed_of tree.outers)
