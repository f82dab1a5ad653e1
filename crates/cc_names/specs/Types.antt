-- The types that a source may name, and where it finds them: a type is found if its namespace encloses the place, is named by a directive before the place, or is written out in full
-- (ECMA-372, 10.4; ISO/IEC 14882:2003, 3.4.1 and 7.3.4).
use Rattle.std.specs.Prelude.{ℕ, List, [], ◌∷◌, ◌++◌, map, find, codes, Bool, true, false, cond, ◌&&◌, ◌||◌, not, Option, Some, None, nat_le, slice_get}
use Rattle.std.specs.List.{flat_map, list_any}
use Rattle.std.specs.Str.{bytes_eq}
use Rattle.cc_base.specs.declared.text.Span.{Span}
use Rattle.cc_tree.specs.declared.identifier.Identifier.{Identifier}
use Rattle.cc_tree.specs.declared.class.Class.{Class}
use Rattle.cc_tree.specs.declared.class.ClassWord.{ClassWord}
use Rattle.cc_tree.specs.declared.class.ClassWord.TheVariants as class_word
use Rattle.cc_tree.specs.declared.class.ClassModifier.{ClassModifier}
use Rattle.cc_tree.specs.declared.class.ClassModifier.TheVariants as class_modifier
use Rattle.cc_tree.specs.declared.unit.Template.{Template}
use Rattle.cc_tree.specs.declared.unit.Template.TheVariants as template_
use Rattle.cc_names.specs.declared.library.LibraryForm.{LibraryForm}
use Rattle.cc_names.specs.declared.library.LibraryForm.TheVariants as library_form
use Rattle.cc_names.specs.declared.catalogue.TheConstants.{LIBRARY}
use Rattle.cc_names.specs.declared.known.Form.{Form}
use Rattle.cc_names.specs.declared.known.Form.TheVariants as form
use Rattle.cc_names.specs.declared.known.Known.{Known}
use Rattle.cc_names.specs.declared.known.Directed.{Directed}
use Rattle.cc_names.specs.Keys.{places}
use Rattle.cc_names.specs.Outermost.{Path, path_of, encloses, is_path, Outermost, directive, part, class_, enumeration, forward, template, function, Standing}

-- a type with its name
pub record Named : Type 0 where
  pub name : List ℕ
  pub type_ : Known

abbrev pub is_sealed_word : ClassModifier → Bool
is_sealed_word class_modifier.Abstract = false
is_sealed_word class_modifier.Sealed = true

abbrev pub form_of : ClassWord → Form
form_of class_word.Ref = form.Handle
form_of class_word.Value = form.Value
form_of class_word.Interface = form.Interface

abbrev pub may_be_base : Form → Bool
may_be_base form.Value = false
may_be_base form.Handle = true
may_be_base form.Interface = true
may_be_base form.NamedOnly = false

abbrev pub known_class : Path → Bool → Class → Known
known_class path is_template class =
    record { path = path; is_template = is_template; form = form_of class.key.word; is_open = may_be_base (form_of class.key.word) && not (list_any is_sealed_word class.modifiers) }

abbrev pub named_class : Path → Bool → Class → Named
named_class path is_template class = record { name = class.name.name; type_ = known_class path is_template class }

abbrev pub enumeration_type : Path → Known
enumeration_type path = record { path = path; is_template = false; form = form.Value; is_open = false }

abbrev pub named_template : Path → Template → List Named
named_template path (template_.Class parameters one span) = named_class path true one ∷ []
named_template path (template_.Function parameters one span) = []

abbrev pub named_outermost : Path → Outermost → List Named
named_outermost path (directive names span) = []
named_outermost path part = []
named_outermost path (class_ one) = named_class path false one ∷ []
named_outermost path (enumeration one) = record { name = one.name.name; type_ = enumeration_type path } ∷ []
named_outermost path (forward name) = []
named_outermost path (template one) = named_template path one
named_outermost path (function one) = []

abbrev pub library_type_form : LibraryForm → Form
library_type_form library_form.Class = form.Handle
library_type_form library_form.SealedClass = form.Handle
library_type_form library_form.Interface = form.Interface
library_type_form library_form.Fundamental = form.Value
library_type_form library_form.NamedOnly = form.NamedOnly

abbrev pub is_open_form : LibraryForm → Bool
is_open_form library_form.Class = true
is_open_form library_form.SealedClass = false
is_open_form library_form.Interface = true
is_open_form library_form.Fundamental = false
is_open_form library_form.NamedOnly = false

abbrev pub system : Path
system = codes "System::"

abbrev pub library_type : LibraryForm → Known
library_type of = record { path = system; is_template = false; form = library_type_form of; is_open = is_open_form of }

abbrev pub library_named : List Named
library_named = map (λ row. record { name = row.0.now; type_ = library_type row.1 }) LIBRARY

-- all types that a unit may name; `array` is one too, which no namespace declares
abbrev pub named_types : List Standing → List Named
named_types all = library_named ++ flat_map (λ one. named_outermost one.path one.what) all

abbrev pub directed_outermost : Outermost → List Directed
directed_outermost (directive names span) = record { path = path_of names; past = span.past } ∷ []
directed_outermost part = []
directed_outermost (class_ one) = []
directed_outermost (enumeration one) = []
directed_outermost (forward name) = []
directed_outermost (template one) = []
directed_outermost (function one) = []

abbrev pub directed : List Standing → List Directed
directed all = flat_map (λ one. directed_outermost one.what) all

abbrev pub path_outermost : Path → Outermost → List Path
path_outermost path (directive names span) = []
path_outermost path part = path ∷ []
path_outermost path (class_ one) = []
path_outermost path (enumeration one) = []
path_outermost path (forward name) = []
path_outermost path (template one) = []
path_outermost path (function one) = []

-- the namespaces: the library's, and those that a unit has parts of
abbrev pub namespaces : List Standing → List Path
namespaces all = system ∷ flat_map (λ one. path_outermost one.path one.what) all

-- a place: the namespace around it, and the byte
pub record Here : Type 0 where
  pub path : Path
  pub at : ℕ

-- whether a directive before the place names a namespace
abbrev pub is_directed : List Directed → ℕ → Path → Bool
is_directed directives at path = list_any (λ one. nat_le one.past at && bytes_eq one.path path) directives

abbrev pub is_in_sight : List Directed → Here → List Identifier → Known → Bool
is_in_sight directives here [] type_ = encloses type_.path here.path || is_directed directives here.at type_.path
is_in_sight directives here (outer ∷ names) type_ = is_path type_.path (outer ∷ names)

abbrev pub is_type_in_sight : List Directed → Here → List Identifier → Option Known → Bool
is_type_in_sight directives here names None = false
is_type_in_sight directives here names (Some type_) = is_in_sight directives here names type_

abbrev pub type_of_number : List Known → Option ℕ → Option Known
type_of_number types None = None
type_of_number types (Some number) = slice_get types number

-- the number of the type that a name means, with the namespaces that are written before it: the first of that name in sight
abbrev pub found_number : List Known → List (List ℕ) → List Directed → Here → List Identifier → List ℕ → Option ℕ
found_number types names directives here path name = find (λ number. is_type_in_sight directives here path (slice_get types number)) (places names name)

abbrev pub found_type : List Known → List (List ℕ) → List Directed → Here → List Identifier → List ℕ → Option Known
found_type types names directives here path name = type_of_number types (found_number types names directives here path name)
