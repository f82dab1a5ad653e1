-- What a unit is refused for as to names, each refusal with its kind and place; the first in order of place decides, at one place the lowest kind (ECMA-372, 10.3, 10.4, 10.9.1, 12, 20 to 24).
use Rattle.std.specs.Prelude.{ℕ, List, [], ◌∷◌, ◌++◌, map, codes, Bool, true, false, cond, ◌&&◌, ◌||◌, not, Option, Some, None}
use Rattle.std.specs.List.{flat_map}
use Rattle.std.specs.Str.{bytes_eq}
use Rattle.cc_base.specs.declared.text.Span.{Span}
use Rattle.cc_base.specs.declared.kind.Kind.{Kind}
use Rattle.cc_tree.specs.declared.identifier.Identifier.{Identifier}
use Rattle.cc_tree.specs.declared.class.Class.{Class}
use Rattle.cc_tree.specs.declared.statement.Block.{Block}
use Rattle.cc_tree.specs.declared.unit.Unit.{Unit}
use Rattle.cc_tree.specs.declared.unit.Function.{Function}
use Rattle.cc_names.specs.declared.refusal.NameKind.TheVariants as kind
use Rattle.cc_names.specs.declared.scope.Declared.{Declared}
use Rattle.cc_names.specs.Checks.{Checks, none, refused_if, both, joined, refusals, first_refusal}
use Rattle.cc_names.specs.Faults.{pair_of}
use Rattle.cc_names.specs.Spelling.{spelling, signature}
use Rattle.cc_names.specs.Outermost.{Path, within, Outermost, directive, part, class_, enumeration, forward, template, function, Standing, standings}
use Rattle.cc_names.specs.Keys.{Ways, has}
use Rattle.cc_names.specs.Types.{named_types, directed, namespaces}
use Rattle.cc_names.specs.Spaces.{Space, with_ways}
use Rattle.cc_names.specs.Mentions as mentions
use Rattle.cc_names.specs.Classes as classes
use Rattle.cc_names.specs.Duplicates.{duplicate_checks}
use Rattle.cc_names.specs.Library.{declared}
use Rattle.cc_names.specs.LibraryRows.{nowhere}

-- What is in the space of a unit.

abbrev pub class_of : Outermost → List Class
class_of (directive names span) = []
class_of part = []
class_of (class_ one) = one ∷ []
class_of (enumeration one) = []
class_of (forward name) = []
class_of (template one) = []
class_of (function one) = []

-- the class, where there is one
abbrev pub class_list : Option Class → List Class
class_list None = []
class_list (Some one) = one ∷ []

abbrev pub function_list : Option Function → List Function
function_list None = []
function_list (Some one) = one ∷ []

abbrev pub has_body : Option Block → Bool
has_body None = false
has_body (Some body) = true

-- the functions with bodies
abbrev pub function_of : Outermost → List Function
function_of (directive names span) = []
function_of part = []
function_of (class_ one) = []
function_of (enumeration one) = []
function_of (forward name) = []
function_of (template one) = []
function_of (function one) = cond (has_body one.body) (one ∷ []) []

-- the full name of a class
abbrev pub class_key : Path → List ℕ → List ℕ
class_key = within

-- a function's full name, its parameter types and its result
abbrev pub function_key : Path → Function → List ℕ
function_key path one = within path one.name.name ++ signature one.parameters ++ codes ")" ++ spelling one.result

abbrev pub class_keys : List Standing → List (List ℕ)
class_keys all = flat_map (λ one. map (λ class. class_key one.path class.name.name) (class_of one.what)) all

abbrev pub function_keys : List Standing → List (List ℕ)
function_keys all = flat_map (λ one. map (function_key one.path) (function_of one.what)) all

abbrev pub classes_of : List Standing → List classes.Placed
classes_of all = flat_map (λ one. map (classes.placed one.path) (class_of one.what)) all

abbrev pub no_ways : Ways
no_ways = record { firsts = []; seconds = [] }

-- what is named, while no class leads to another
abbrev pub named_space : List Standing → Space
named_space all = record {
  types = map (λ one. one.type_) (named_types all);
  names = map (λ one. one.name) (named_types all);
  directives = directed all;
  paths = namespaces all;
  classes = class_keys all;
  functions = function_keys all;
  bases = no_ways;
  held = no_ways;
}

-- a class leads to the bases and to the held types that are found
abbrev pub space_of : List Standing → Space
space_of all =
    let named = named_space all in
    with_ways named (classes.ways_of (classes.base_seconds named) (classes_of all)) (classes.ways_of (classes.held_seconds named) (classes_of all))

-- A forward declaration is of a class that the source defines in the same namespace.
abbrev pub forward_checks : Space → Path → Identifier → Checks
forward_checks space path name = refused_if (not (has space.classes (class_key path name.name))) kind.UnknownName name.span

-- A prototype is of a function of the same types that the source defines in the same namespace.
abbrev pub is_unknown_prototype : Space → Path → Function → Bool
is_unknown_prototype space path one = not (has_body one.body) && not (has space.functions (function_key path one))

abbrev pub function_checks : Space → Path → Function → Checks
function_checks space path one = both (refused_if (is_unknown_prototype space path one) kind.UnknownName one.name.span) (mentions.function_checks space path one)

abbrev pub class_checks : Space → Path → Class → Checks
class_checks space path one = both (mentions.class_checks space path one) (classes.class_checks space path one)

-- what something outside classes is refused for
abbrev pub outermost_checks : Space → Path → Outermost → Checks
outermost_checks space path (directive names span) = mentions.path_checks space names
outermost_checks space path part = none
outermost_checks space path (class_ one) = class_checks space path one
outermost_checks space path (enumeration one) = none
outermost_checks space path (forward name) = forward_checks space path name
outermost_checks space path (template one) = none
outermost_checks space path (function one) = function_checks space path one

abbrev pub standing_checks : Space → Standing → Checks
standing_checks space one = outermost_checks space one.path one.what

-- `main`: the definitions of it outside namespaces

-- the result `int`, and no parameter or one array of strings
abbrev pub is_main_form : Function → Bool
is_main_form one = bytes_eq (spelling one.result) (codes "int") && (bytes_eq (signature one.parameters) [] || bytes_eq (signature one.parameters) (codes "array<String^,>^,"))

-- after whether one was there: one of another form, or that is not the first, is refused
abbrev pub main_checks : Bool → List Function → Checks
main_checks found [] = refused_if (not found) kind.BadMain nowhere
main_checks found (one ∷ others) = both (refused_if (found || not (is_main_form one)) kind.BadMain one.span) (main_checks true others)

-- a function, where it is named `main` and has a body
abbrev pub defined_main : Function → List Function
defined_main one = cond (has_body one.body && bytes_eq one.name.name (codes "main")) (one ∷ []) []

abbrev pub main_in : Outermost → List Function
main_in (directive names span) = []
main_in part = []
main_in (class_ one) = []
main_in (enumeration one) = []
main_in (forward name) = []
main_in (template one) = []
main_in (function one) = defined_main one

abbrev pub main_at : Path → Outermost → List Function
main_at [] what = main_in what
main_at (letter ∷ letters) what = []

abbrev pub main_of : Standing → List Function
main_of one = main_at one.path one.what

-- all together

abbrev pub unit_checks : Unit → Checks
unit_checks unit =
    let all = standings unit in
    both (duplicate_checks (declared unit).scopes (declared unit).items)
    (both (joined (map (standing_checks (space_of all)) all)) (main_checks false (flat_map main_of all)))

-- what a unit is refused for, with the place; nothing where it is accepted
abbrev pub refusal : Unit → Option (Kind × Span)
refusal unit = pair_of (first_refusal (refusals (unit_checks unit)))
