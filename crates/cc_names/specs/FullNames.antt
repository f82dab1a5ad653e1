-- The full names of the types that a source writes by their names alone, each found at its place (ECMA-372, 10.4; ISO/IEC 14882:2003, 3.4.1 and 7.3.4).
use Rattle.std.specs.Prelude.{ℕ, List, [], ◌∷◌, cond, Option, Some, None}
use Rattle.cc_base.specs.declared.text.Span.{Span}
use Rattle.cc_tree.specs.declared.identifier.Identifier.{Identifier}
use Rattle.cc_tree.specs.declared.type_name.TypeName.{TypeName, TypeName-F, fold-TypeName}
use Rattle.cc_tree.specs.declared.type_name.TypeName.TheOpen as t
use Rattle.cc_names.specs.declared.known.Known.{Known}
use Rattle.cc_names.specs.Spelling.{spelling}
use Rattle.cc_names.specs.Outermost.{Path, within}
use Rattle.cc_names.specs.Types.{found_type}
use Rattle.cc_names.specs.Spaces.{Space}
use Rattle.cc_names.specs.Forming.{is_array}

-- The type that a name without `^` or `%` means at its place, where it is found; no namespace declares `array`.
abbrev pub named_layer : Space → Path → TypeName-F (Option Known) → Option Known
named_layer space path (t.Fundamental of span) = None
named_layer space path (t.Named qualifiers name arguments span) =
    cond (is_array qualifiers name.name) None (found_type space.types space.names space.directives (record { path = path; at = span.first }) qualifiers name.name)
named_layer space path (t.Marked core is_handle tracks span) = None

abbrev pub named_type : Space → Path → TypeName → Option Known
named_type space path = fold-TypeName (Option Known) (named_layer space path)

-- a spelling in the namespace of a type
abbrev pub name_within : Option Known → List ℕ → Option (List ℕ)
name_within None spelled = None
name_within (Some type_) spelled = Some (within type_.path spelled)

-- the full name of a type that is found
abbrev pub full_name : Space → Path → TypeName → Option (List ℕ)
full_name space path of = name_within (named_type space path of) (spelling of)

-- the same of a type that may be missing
abbrev pub optional_full_name : Space → Path → Option TypeName → Option (List ℕ)
optional_full_name space path None = None
optional_full_name space path (Some of) = full_name space path of

-- a name, where there is one
abbrev pub name_list : Option (List ℕ) → List (List ℕ)
name_list None = []
name_list (Some name) = name ∷ []
