-- What the classes of a unit are refused for (ECMA-372, 20.1.2, 21.1, 22.1, 24.1, 34.7): bases, members whose names disposal reserves, members that an interface or a value class cannot have, and value
-- classes that contain themselves. A base, or the type of what is held, that is not found at its place is no class: nothing is reached by it.
use Rattle.std.specs.Prelude.{ℕ, List, [], ◌∷◌, ◌++◌, map, codes, Bool, true, false, cond, ◌&&◌, ◌||◌, not, Option, Some, None, is_some}
use Rattle.std.specs.List.{flat_map, list_any}
use Rattle.std.specs.Str.{bytes_eq}
use Rattle.cc_base.specs.declared.text.Span.{Span}
use Rattle.cc_tree.specs.declared.identifier.Identifier.{Identifier}
use Rattle.cc_tree.specs.declared.type_name.TypeName.{TypeName, TypeName-F, fold-TypeName}
use Rattle.cc_tree.specs.declared.type_name.TypeName.TheOpen as t
use Rattle.cc_tree.specs.declared.member.Member.{Member}
use Rattle.cc_tree.specs.declared.member.Member.TheVariants as m
use Rattle.cc_tree.specs.declared.member.Storage.{Storage}
use Rattle.cc_tree.specs.declared.member.Storage.TheVariants as storage_word
use Rattle.cc_tree.specs.declared.member.PropertyName.{PropertyName}
use Rattle.cc_tree.specs.declared.member.PropertyName.TheVariants as property_name
use Rattle.cc_tree.specs.declared.class.Base.{Base}
use Rattle.cc_tree.specs.declared.class.Class.{Class}
use Rattle.cc_tree.specs.declared.class.ClassWord.{ClassWord}
use Rattle.cc_tree.specs.declared.class.ClassWord.TheVariants as class_word
use Rattle.cc_names.specs.declared.refusal.NameKind.TheVariants as kind
use Rattle.cc_names.specs.declared.known.Form.{Form}
use Rattle.cc_names.specs.declared.known.Form.TheVariants as form
use Rattle.cc_names.specs.declared.known.Known.{Known}
use Rattle.cc_names.specs.declared.classes.Earlier.{Earlier}
use Rattle.cc_names.specs.declared.classes.BaseSort.{BaseSort}
use Rattle.cc_names.specs.declared.classes.BaseSort.TheVariants as base_sort
use Rattle.cc_names.specs.Checks.{Checks, none, refused_if, both, joined}
use Rattle.cc_names.specs.Spelling.{spelling}
use Rattle.cc_names.specs.Keys.{Ways, leads_from}
use Rattle.cc_names.specs.Outermost.{Path, within}
use Rattle.cc_names.specs.Types.{found_type}
use Rattle.cc_names.specs.Spaces.{Space}
use Rattle.cc_names.specs.Forming.{is_array}
use Rattle.cc_names.specs.FullNames.{full_name, optional_full_name, name_list}

abbrev pub open_sort : Form → BaseSort
open_sort form.Value = base_sort.Closed
open_sort form.Handle = base_sort.Class
open_sort form.Interface = base_sort.Interface
open_sort form.NamedOnly = base_sort.Closed

abbrev pub known_sort : Option Known → BaseSort
known_sort None = base_sort.Unknown
known_sort (Some type_) = cond type_.is_open (open_sort type_.form) base_sort.Closed

-- What a base is to a class that derives from it; `array` is a type that no class derives from.
abbrev pub sort_layer : Space → Path → TypeName-F BaseSort → BaseSort
sort_layer space path (t.Fundamental of span) = base_sort.Unknown
sort_layer space path (t.Named qualifiers name arguments span) =
    cond (is_array qualifiers name.name) base_sort.Closed
    (known_sort (found_type space.types space.names space.directives (record { path = path; at = span.first }) qualifiers name.name))
sort_layer space path (t.Marked core is_handle tracks span) = base_sort.Unknown

abbrev pub sort_of_base : Space → Path → TypeName → BaseSort
sort_of_base space path = fold-TypeName BaseSort (sort_layer space path)

abbrev pub is_unknown : BaseSort → Bool
is_unknown base_sort.Unknown = true
is_unknown base_sort.Class = false
is_unknown base_sort.Interface = false
is_unknown base_sort.Closed = false

abbrev pub is_class : BaseSort → Bool
is_class base_sort.Unknown = false
is_class base_sort.Class = true
is_class base_sort.Interface = false
is_class base_sort.Closed = false

abbrev pub is_closed : BaseSort → Bool
is_closed base_sort.Unknown = false
is_closed base_sort.Class = false
is_closed base_sort.Interface = false
is_closed base_sort.Closed = true

-- an interface and a value class derive from interfaces alone
abbrev pub takes_class : ClassWord → Bool
takes_class class_word.Ref = true
takes_class class_word.Value = false
takes_class class_word.Interface = false

abbrev pub with_base : Space → Path → Earlier → Base → Earlier
with_base space path earlier base =
    record { names = earlier.names ++ name_list (full_name space path base.of); has_class = earlier.has_class || is_class (sort_of_base space path base.of) }

-- whether a name is among some
abbrev pub is_among : List (List ℕ) → Option (List ℕ) → Bool
is_among names None = false
is_among names (Some name) = list_any (λ other. bytes_eq other name) names

-- whether a class of a word cannot have a base of a sort and a full name after earlier ones
abbrev pub is_sealed_base : ClassWord → BaseSort → Option (List ℕ) → Earlier → Bool
is_sealed_base word sort name earlier = is_closed sort || is_among earlier.names name || (is_class sort && (not (takes_class word) || earlier.has_class))

-- what a base is refused for, after the earlier ones of its class
abbrev pub base_checks : Space → Path → Class → Earlier → Base → Checks
base_checks space path class earlier base =
    both (refused_if (leads_from space.bases (full_name space path base.of) (within path class.name.name)) kind.CyclicBase base.span)
    (both (refused_if (is_sealed_base class.key.word (sort_of_base space path base.of) (full_name space path base.of) earlier) kind.SealedBase base.span)
    (refused_if (not (is_unknown (sort_of_base space path base.of)) && bytes_eq (spelling base.of) (codes "IDisposable")) kind.ReservedMember base.span))

abbrev pub bases_checks : Space → Path → Class → Earlier → List Base → Checks
bases_checks space path class earlier [] = none
bases_checks space path class earlier (base ∷ bases) = both (base_checks space path class earlier base) (bases_checks space path class (with_base space path earlier base) bases)

abbrev pub no_bases : Earlier
no_bases = record { names = []; has_class = false }

-- the names of disposal's own functions
abbrev pub is_reserved : List ℕ → Bool
is_reserved name = bytes_eq name (codes "Dispose") || bytes_eq name (codes "Finalize")

abbrev pub is_reserved_property : PropertyName → Bool
is_reserved_property (property_name.Named name) = is_reserved name.name
is_reserved_property (property_name.Indexed span of) = false

abbrev pub is_static : Storage → Bool
is_static storage_word.Nothing = false
is_static storage_word.Static = true
is_static storage_word.Virtual = false

abbrev pub is_none : {A : Type 0} → List A → Bool
is_none [] = true
is_none (x ∷ xs) = false

-- whether the name of a member is reserved
abbrev pub has_reserved_name : Member → Bool
has_reserved_name (m.Access access span) = false
has_reserved_name (m.Fields is_static of names span) = list_any (λ name. is_reserved name.name) names
has_reserved_name (m.Function storage of name parameters modifiers overridden body span) = is_reserved name.name
has_reserved_name (m.Constructor name parameters initializers body span) = false
has_reserved_name (m.Destructor is_virtual name body span) = false
has_reserved_name (m.Finaliser name body span) = false
has_reserved_name (m.Property storage of name accessors span) = is_reserved_property name

-- An interface has no field, constructor, destructor or finaliser, and no trivial property, which has a field.
abbrev pub is_foreign_to_interface : Member → Bool
is_foreign_to_interface (m.Access access span) = false
is_foreign_to_interface (m.Fields is_static of names span) = true
is_foreign_to_interface (m.Function storage of name parameters modifiers overridden body span) = false
is_foreign_to_interface (m.Constructor name parameters initializers body span) = true
is_foreign_to_interface (m.Destructor is_virtual name body span) = true
is_foreign_to_interface (m.Finaliser name body span) = true
is_foreign_to_interface (m.Property storage of name accessors span) = is_none accessors

-- A value class has no constructor without parameters, no destructor and no finaliser.
abbrev pub is_foreign_to_value_class : Member → Bool
is_foreign_to_value_class (m.Access access span) = false
is_foreign_to_value_class (m.Fields is_static of names span) = false
is_foreign_to_value_class (m.Function storage of name parameters modifiers overridden body span) = false
is_foreign_to_value_class (m.Constructor name parameters initializers body span) = is_none parameters.items
is_foreign_to_value_class (m.Destructor is_virtual name body span) = true
is_foreign_to_value_class (m.Finaliser name body span) = true
is_foreign_to_value_class (m.Property storage of name accessors span) = false

abbrev pub is_foreign : ClassWord → Member → Bool
is_foreign class_word.Ref member = false
is_foreign class_word.Value member = is_foreign_to_value_class member
is_foreign class_word.Interface member = is_foreign_to_interface member

abbrev pub member_span : Member → Span
member_span (m.Access access span) = span
member_span (m.Fields is_static of names span) = span
member_span (m.Function storage of name parameters modifiers overridden body span) = span
member_span (m.Constructor name parameters initializers body span) = span
member_span (m.Destructor is_virtual name body span) = span
member_span (m.Finaliser name body span) = span
member_span (m.Property storage of name accessors span) = span

abbrev pub reserved_checks : ClassWord → Member → Checks
reserved_checks word member = refused_if (has_reserved_name member || is_foreign word member) kind.ReservedMember (member_span member)

-- the type of what an object of a class holds by a member: by fields that are not static, or by a trivial property
abbrev pub held_type : Member → Option TypeName
held_type (m.Access access span) = None
held_type (m.Fields is_static of names span) = cond is_static None (Some of)
held_type (m.Function storage of name parameters modifiers overridden body span) = None
held_type (m.Constructor name parameters initializers body span) = None
held_type (m.Destructor is_virtual name body span) = None
held_type (m.Finaliser name body span) = None
held_type (m.Property storage of name accessors span) = cond (not (is_none accessors) || is_static storage) None (Some of)

abbrev pub is_value_class : ClassWord → Bool
is_value_class class_word.Ref = false
is_value_class class_word.Value = true
is_value_class class_word.Interface = false

abbrev pub type_span_layer : TypeName-F Span → Span
type_span_layer (t.Fundamental of span) = span
type_span_layer (t.Named path name arguments span) = span
type_span_layer (t.Marked core is_handle tracks span) = span

abbrev pub type_span : TypeName → Span
type_span = fold-TypeName Span type_span_layer

-- a value class does not contain itself
abbrev pub held_checks : Space → Path → Class → Option TypeName → Checks
held_checks space path class None = none
held_checks space path class (Some of) = refused_if (leads_from space.held (full_name space path of) (within path class.name.name)) kind.NotAType (type_span of)

abbrev pub containment_checks : Space → Path → Class → Member → Checks
containment_checks space path class member = cond (is_value_class class.key.word) (held_checks space path class (held_type member)) none

abbrev pub member_checks : Space → Path → Class → Member → Checks
member_checks space path class member = both (reserved_checks class.key.word member) (containment_checks space path class member)

abbrev pub class_checks : Space → Path → Class → Checks
class_checks space path class = both (bases_checks space path class no_bases class.bases) (joined (map (member_checks space path class) class.members))

-- the full names of the bases of a class that are found
abbrev pub base_seconds : Space → Path → Class → List (List ℕ)
base_seconds space path class = flat_map (λ base. name_list (full_name space path base.of)) class.bases

-- the full names of the types of what a value class holds, of those that are found
abbrev pub held_seconds : Space → Path → Class → List (List ℕ)
held_seconds space path class = cond (is_value_class class.key.word) (flat_map (λ member. name_list (optional_full_name space path (held_type member))) class.members) []

-- a class with the namespace in which it stands
pub record Placed : Type 0 where
  pub path : Path
  pub class : Class

abbrev pub placed : Path → Class → Placed
placed path class = record { path = path; class = class }

-- the full names of classes, each as often as there is something that it leads to
abbrev pub ways_of : (Path → Class → List (List ℕ)) → List Placed → Ways
ways_of seconds classes = record {
  firsts = flat_map (λ one. map (λ second. within one.path one.class.name.name) (seconds one.path one.class)) classes;
  seconds = flat_map (λ one. seconds one.path one.class) classes;
}
