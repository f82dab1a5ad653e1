-- The using directives of a source, each with the namespace that it names (ISO/IEC 14882:2003, 7.3.4).
use Rattle.std.specs.Prelude.{ℕ, List, [], ◌∷◌, ◌++◌, map, find, Bool, true, false, ◌&&◌, Option, Some, None, slice_get}
use Rattle.std.specs.List.{filter_map}
use Rattle.cc_base.specs.declared.text.Span.{Span}
use Rattle.cc_tree.specs.declared.identifier.Identifier.{Identifier}
use Rattle.cc_tree.specs.declared.unit.Unit.{Unit}
use Rattle.cc_tree.specs.declared.unit.Outer.{Outer, Outer-F, fold-Outer}
use Rattle.cc_tree.specs.declared.unit.Outer.TheOpen as o
use Rattle.cc_names.specs.declared.scope.ItemKind.{ItemKind}
use Rattle.cc_names.specs.declared.scope.ItemKind.TheVariants as kind
use Rattle.cc_names.specs.declared.scope.Scope.{Scope}
use Rattle.cc_names.specs.declared.scope.Item.{Item}
use Rattle.cc_names.specs.declared.scope.Declared.{Declared}
use Rattle.cc_names.specs.declared.lookup.Directive.{Directive}
use Rattle.cc_names.specs.Lookup.{named, is_item, stands_in}

abbrev pub part_scope : ItemKind → Option ℕ
part_scope (kind.Namespace scope) = Some scope
part_scope _ = None

abbrev pub is_part : ItemKind → Bool
is_part (kind.Namespace scope) = true
is_part _ = false

abbrev pub scope_of_item : Option Item → Option ℕ
scope_of_item None = None
scope_of_item (Some item) = part_scope item.kind

abbrev pub scope_of_number : List Item → Option ℕ → Option ℕ
scope_of_number items None = None
scope_of_number items (Some number) = scope_of_item (slice_get items number)

abbrev pub directive_to : Span → Option ℕ → Option Directive
directive_to span None = None
directive_to span (Some scope) = Some (record { past = span.past; scope = scope })

module _ (scopes : List Scope) (items : List Item) where
  -- the first part of a name in the namespace of a scope
  abbrev pub first_part : ℕ → List ℕ → Option ℕ
  first_part scope name = find (λ number. is_item (λ item. is_part item.kind) (slice_get items number) && stands_in scopes items scope number) (named items name)

  abbrev pub next_part : Option ℕ → Identifier → Option ℕ
  next_part None name = None
  next_part (Some scope) name = scope_of_number items (first_part scope name.name)

  -- the scope of the first part of the namespace that names lead to from a scope, one after another
  abbrev pub namespace_from : Option ℕ → List Identifier → Option ℕ
  namespace_from scope [] = scope
  namespace_from scope (name ∷ path) = namespace_from (next_part scope name) path

  -- a directive that names a namespace from the outermost in
  abbrev pub directive_of : List Identifier → Span → Option Directive
  directive_of path span = directive_to span (namespace_from (Some 0) path)

  abbrev pub all_directives : List (List Directive) → List Directive
  all_directives [] = []
  all_directives (one ∷ more) = one ++ all_directives more

  abbrev pub or_nothing : Option Directive → List Directive
  or_nothing None = []
  or_nothing (Some one) = one ∷ []

  abbrev pub directives_layer : Outer-F (List Directive) → List Directive
  directives_layer (o.Using path span) = or_nothing (directive_of path span)
  directives_layer (o.Namespace name outers span) = all_directives outers
  directives_layer (o.Class one) = []
  directives_layer (o.Enumeration one) = []
  directives_layer (o.VisibleClass visible one span) = []
  directives_layer (o.VisibleEnumeration visible one span) = []
  directives_layer (o.Forward key name span) = []
  directives_layer (o.Template one) = []
  directives_layer (o.Function one) = []

  abbrev pub outer_directives : Outer → List Directive
  outer_directives = fold-Outer (List Directive) directives_layer

  abbrev pub directives : Unit → List Directive
  directives unit = all_directives (map outer_directives unit.outers)
