-- Which declaration a plain name means at a place (ECMA-372, 10.4 and 10.6; ISO/IEC 14882:2003, 3.4.1 and 10.2): the nearest scope that declares the name decides, local scopes from the inside out, then
-- the parameters, the class with its bases, the namespaces from the inside out, and last the namespaces of the using directives together. Declarations are told by their numbers.
use Rattle.std.specs.Prelude.{ℕ, zero, suc, List, [], ◌∷◌, ◌++◌, length, find, codes, Bool, true, false, cond, ◌&&◌, ◌||◌, not, ◌==◌, nat_le, Option, Some, None, slice_get}
use Rattle.std.specs.List.{list_any, filter_map, flat_map}
use Rattle.std.specs.Str.{bytes_eq}
use Rattle.cc_tree.specs.declared.class.ClassWord.{ClassWord}
use Rattle.cc_tree.specs.declared.class.ClassWord.TheVariants as class_word
use Rattle.cc_names.specs.declared.scope.ItemKind.{ItemKind}
use Rattle.cc_names.specs.declared.scope.ItemKind.TheVariants as kind
use Rattle.cc_names.specs.declared.scope.ScopeKind.{ScopeKind}
use Rattle.cc_names.specs.declared.scope.ScopeKind.TheVariants as scope_kind
use Rattle.cc_names.specs.declared.scope.Scope.{Scope}
use Rattle.cc_names.specs.declared.scope.Item.{Item}
use Rattle.cc_names.specs.declared.lookup.Found.{Found}
use Rattle.cc_names.specs.declared.lookup.Found.TheVariants as found
use Rattle.cc_names.specs.declared.lookup.Place.{Place}
use Rattle.cc_names.specs.declared.lookup.Directive.{Directive}

-- the numbers of the declarations of a name, the first of which has a number
abbrev pub named_from : ℕ → List Item → List ℕ → List ℕ
named_from n [] name = []
named_from n (item ∷ items) name = cond (bytes_eq item.name name) (n ∷ named_from (suc n) items name) (named_from (suc n) items name)

abbrev pub named : List Item → List ℕ → List ℕ
named = named_from 0

-- Scopes that are one: parts of one name in one namespace are one namespace.

-- the name of a namespace of which a scope is a part
abbrev pub part_name : ScopeKind → Option (List ℕ)
part_name scope_kind.Unit = None
part_name (scope_kind.Namespace name) = Some name
part_name (scope_kind.Class name) = None
part_name scope_kind.Enumeration = None
part_name scope_kind.Template = None
part_name scope_kind.Parameters = None
part_name scope_kind.Local = None

abbrev pub same_part_name : Option (List ℕ) → Option (List ℕ) → Bool
same_part_name None other = false
same_part_name (Some name) None = false
same_part_name (Some name) (Some other) = bytes_eq name other

abbrev pub both_of : Option ℕ → Option ℕ → Option (ℕ × ℕ)
both_of None other = None
both_of (Some first) None = None
both_of (Some first) (Some second) = Some (first, second)

-- the scopes around two parts of namespaces of one name
abbrev pub around_parts : Option Scope → Option Scope → Option (ℕ × ℕ)
around_parts None other = None
around_parts (Some one) None = None
around_parts (Some one) (Some other) = cond (same_part_name (part_name one.kind) (part_name other.kind)) (both_of one.parent other.parent) None

-- a scope has fewer scopes around it than there are
abbrev pub same_within : ℕ → List Scope → ℕ → ℕ → Bool
same_within zero scopes first second = first == second
same_within (suc n) scopes first second =
    first == second || elim (around_parts (slice_get scopes first) (slice_get scopes second)) [ None ↦ false | Some pair ↦ same_within n scopes pair.0 pair.1 ]

abbrev pub is_same_scope : List Scope → ℕ → ℕ → Bool
is_same_scope scopes = same_within (length scopes) scopes

-- What a declaration is, by its number.

abbrev pub or_none : Option ℕ → List ℕ
or_none None = []
or_none (Some number) = number ∷ []

abbrev pub is_item : (Item → Bool) → Option Item → Bool
is_item holds None = false
is_item holds (Some item) = holds item

abbrev pub is_function : ItemKind → Bool
is_function (kind.Function types) = true
is_function _ = false

abbrev pub is_class : ItemKind → Bool
is_class (kind.Class word scope bases) = true
is_class _ = false

abbrev pub is_interface : ItemKind → Bool
is_interface (kind.Class word scope bases) = elim word [ class_word.Ref ↦ false | class_word.Value ↦ false | class_word.Interface ↦ true ]
is_interface _ = false

-- whether two functions have equal parameter types
abbrev pub same_types : ItemKind → ItemKind → Bool
same_types (kind.Function types) other = elim other [ kind.Function others ↦ bytes_eq types others | _ ↦ false ]
same_types _ other = false

abbrev pub found_as : ItemKind → ℕ → Found
found_as (kind.Namespace scope) number = found.Namespace number
found_as (kind.Class word scope bases) number = found.TypeNamed number
found_as (kind.Enumeration scope) number = found.TypeNamed number
found_as (kind.ClassTemplate word) number = found.TypeNamed number
found_as kind.TemplateParameter number = found.TypeNamed number
found_as (kind.Function types) number = found.Functions number
found_as kind.FunctionTemplate number = found.Functions number
found_as kind.Enumerator number = found.Item number
found_as kind.Property number = found.Item number
found_as kind.Field number = found.Item number
found_as kind.Parameter number = found.Item number
found_as kind.Variable number = found.Item number

abbrev pub found_item : ℕ → Option Item → Option Found
found_item number None = None
found_item number (Some item) = Some (found_as item.kind number)

abbrev pub found_number : List Item → Option ℕ → Option Found
found_number items None = None
found_number items (Some number) = found_item number (slice_get items number)

abbrev pub class_scope : ItemKind → Option ℕ
class_scope (kind.Class word scope bases) = Some scope
class_scope _ = None

module _ (scopes : List Scope) (items : List Item) where
  -- whether a declaration stands in a scope
  abbrev pub stands_in : ℕ → ℕ → Bool
  stands_in scope number = is_item (λ item. is_same_scope scopes item.scope scope) (slice_get items number)

  -- whether a declaration ends before a place
  abbrev pub is_before : ℕ → ℕ → Bool
  is_before at number = is_item (λ item. nat_le item.span.past at) (slice_get items number)

  -- Classes and their bases.

  -- the class of a name, which is the only one of it
  abbrev pub class_named : List ℕ → Option ℕ
  class_named name = find (λ number. is_item (λ item. is_class item.kind) (slice_get items number)) (named items name)

  -- the first of some classes that is no interface, or else a class of the library
  abbrev pub class_base : List ℕ → List ℕ → List ℕ
  class_base otherwise [] = or_none (class_named otherwise)
  class_base otherwise (base ∷ bases) = cond (is_item (λ item. is_interface item.kind) (slice_get items base)) (class_base otherwise bases) (base ∷ [])

  -- Where the search goes on after a class: in its base class, which is the root of all classes where it names none; after an interface in its base interfaces, in order. The root has no base.
  abbrev pub bases_of : Item → List ℕ
  bases_of item = elim item.kind [
    | kind.Class word scope bases ↦ elim word [
      | class_word.Ref ↦ cond (bytes_eq item.name (codes "Object")) [] (class_base (codes "Object") (filter_map class_named bases))
      | class_word.Value ↦ class_base (codes "ValueType") (filter_map class_named bases)
      | class_word.Interface ↦ filter_map class_named bases
    ]
    | _ ↦ []
  ]

  abbrev pub next_classes : Option Item → List ℕ
  next_classes None = []
  next_classes (Some item) = bases_of item

  abbrev pub stands_in_class : Option Item → ℕ → Bool
  stands_in_class None number = false
  stands_in_class (Some item) number = elim (class_scope item.kind) [ None ↦ false | Some scope ↦ stands_in scope number ]

  -- whether a declaration is a member of a class
  abbrev pub is_member : ℕ → ℕ → Bool
  is_member class number = stands_in_class (slice_get items class) number

  -- a class and the classes in which the search goes on, nearest first; no class reaches itself, so there are fewer of them in a row than declarations
  abbrev pub chain_within : ℕ → ℕ → List ℕ
  chain_within zero class = []
  chain_within (suc n) class = class ∷ flat_map (chain_within n) (next_classes (slice_get items class))

  abbrev pub chain : ℕ → List ℕ
  chain = chain_within (length items)

  abbrev pub is_function_number : ℕ → Bool
  is_function_number number = is_item (λ item. is_function item.kind) (slice_get items number)

  abbrev pub equal_items : Option Item → Option Item → Bool
  equal_items None other = false
  equal_items (Some one) other = is_item (λ second. same_types one.kind second.kind) other

  -- What a name has in a chain, given the numbers of its declarations.
  module _ (numbers : List ℕ) where
    -- whether a member of a class is a function with the parameter types of another one
    abbrev pub hides : ℕ → ℕ → Bool
    hides class number = list_any (λ member. is_member class member && equal_items (slice_get items member) (slice_get items number)) numbers

    -- whether a declaration is a member of a class of a chain, and no equal function is a member of a class nearer to its front
    abbrev pub is_unhidden : List ℕ → ℕ → Bool
    is_unhidden [] number = false
    is_unhidden (class ∷ more) number = is_member class number || (not (hides class number) && is_unhidden more number)

    -- the first member in the nearest class that has one
    abbrev pub nearest : List ℕ → Option ℕ
    nearest [] = None
    nearest (class ∷ more) = elim (find (is_member class) numbers) [ None ↦ nearest more | Some member ↦ Some member ]

    -- The nearest class with a member of the name decides; if that is a function, all functions of the name in the chain are candidates, but for hidden ones.
    abbrev pub decided : List ℕ → Option ℕ → Option ℕ
    decided classes None = None
    decided classes (Some member) = cond (is_function_number member) (find (λ number. is_function_number number && is_unhidden classes number) numbers) (Some member)

    abbrev pub in_chain : List ℕ → Option ℕ
    in_chain classes = decided classes (nearest classes)

    abbrev pub in_class : Option ℕ → Option ℕ
    in_class None = None
    in_class (Some class) = in_chain (chain class)

    -- What a scope has of the name at a place. A local scope declares a variable only at places after the variable's name.
    abbrev pub in_scope : ℕ → ℕ → ScopeKind → Option ℕ
    in_scope at scope scope_kind.Unit = find (stands_in scope) numbers
    in_scope at scope (scope_kind.Namespace name) = find (stands_in scope) numbers
    in_scope at scope (scope_kind.Class name) = in_class (class_named name)
    in_scope at scope scope_kind.Enumeration = find (stands_in scope) numbers
    in_scope at scope scope_kind.Template = find (stands_in scope) numbers
    in_scope at scope scope_kind.Parameters = find (stands_in scope) numbers
    in_scope at scope scope_kind.Local = find (λ number. stands_in scope number && is_before at number) numbers

    abbrev pub or_else : Option ℕ → Option ℕ → Option ℕ
    or_else None other = other
    or_else (Some number) other = Some number

    -- from a scope outwards
    abbrev pub outwards : ℕ → ℕ → Option ℕ → Option ℕ
    outwards zero at scope = None
    outwards (suc n) at None = None
    outwards (suc n) at (Some scope) = elim (slice_get scopes scope) [ None ↦ None | Some one ↦ or_else (in_scope at scope one.kind) (outwards n at one.parent) ]

    -- in the namespaces of the directives that stand before a place, together
    abbrev pub by_directives : List Directive → ℕ → Option ℕ
    by_directives directives at = find (λ number. list_any (λ directive. nat_le directive.past at && stands_in directive.scope number) directives) numbers

  abbrev pub looked_up : List Directive → Place → List ℕ → Option Found
  looked_up directives place name =
      let numbers = named items name in
      found_number items (or_else numbers (outwards numbers (length scopes) place.at (Some place.scope)) (by_directives numbers directives place.at))
