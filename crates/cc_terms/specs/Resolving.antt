-- What a name means at a place of a function (ECMA-372, 10.4; ISO/IEC 14882:2003, 3.4.1 and 3.4.3): the newest variable of the name, or else the functions of the nearest namespace around the place
-- that declares it, or else those of the namespaces of the using directives before the place together. A name behind namespaces is written out in full.
use Rattle.std.specs.Prelude.{ℕ, suc, List, [], ◌∷◌, ◌++◌, codes, find, Bool, cond, ◌&&◌, ◌==◌, nat_le, nat_eq, Option, Some, None, Ok}
use Rattle.std.specs.List.{list_any, starts_with}
use Rattle.std.specs.Str.{bytes_eq}
use Rattle.cc_base.specs.declared.text.Span.{Span}
use Rattle.cc_base.specs.declared.kind.Kind.TheVariants as kind
use Rattle.cc_tree.specs.declared.identifier.Identifier.{Identifier}
use Rattle.cc_operations.specs.declared.source.Directed.{Directed}
use Rattle.cc_operations.specs.declared.source.Frame.{Frame}
use Rattle.cc_operations.specs.declared.source.Known.{Known}
use Rattle.cc_operations.specs.declared.source.Source.{Source}
use Rattle.cc_operations.specs.declared.source.Variable.{Variable}
use Rattle.cc_operations.specs.declared.judged.ConsoleMember.TheVariants.{Write, WriteLine}
use Rattle.cc_operations.specs.Judgements.{Judged, refused, Meaning, is_place, are_functions, is_console}

-- How the functions of a name are found: the number of the declaration that a scope, a place and a name lead to, if it is that of a function.
abbrev pub Finds : Type 0
Finds = ℕ → ℕ → List ℕ → Option ℕ

-- ---- namespaces

-- the names of the namespaces around a place, from the outermost in, each with a `.` behind it
abbrev pub Path : Type 0
Path = List ℕ

-- a namespace in another one
abbrev pub within : Path → List ℕ → Path
within path name = path ++ name ++ codes "."

-- namespaces in one another
abbrev pub path_from : Path → List Identifier → Path
path_from path [] = path
path_from path (one ∷ names) = path_from (within path one.name) names

-- A namespace is around a place, or the place stands directly in it.
abbrev pub encloses : Path → Path → Bool
encloses path here = starts_with nat_eq here path

-- ---- functions, by their places among those of the source

-- those that pass a test, where the first has a place
abbrev pub those_from : ℕ → (Known → Bool) → List Known → List ℕ
those_from at test [] = []
those_from at test (one ∷ functions) = cond (test one) (at ∷ those_from (suc at) test functions) (those_from (suc at) test functions)

abbrev pub those : (Known → Bool) → List Known → List ℕ
those = those_from 0

-- a function of a name in a namespace
abbrev pub stands_there : Path → List ℕ → Known → Bool
stands_there path name one = bytes_eq one.path path && bytes_eq one.name name

-- a using directive before a place names a namespace
abbrev pub is_directed : List Directed → ℕ → Path → Bool
is_directed directed at path = list_any (λ one. nat_le one.past at && bytes_eq one.path path) directed

-- a function of a name in one of the namespaces that are named before a place
abbrev pub comes_by : List Directed → ℕ → List ℕ → Known → Bool
comes_by directed at name one = is_directed directed at one.path && bytes_eq one.name name

-- the function whose declaration has a number
abbrev pub numbered : ℕ → List Known → Option Known
numbered number functions = find (λ one. one.number == number) functions

-- The candidates of a name, once one declaration of it is found: those beside it where its namespace is around the place, and else all that the directives bring together.
abbrev pub candidates_by : Source → Path → ℕ → List ℕ → Option Known → List ℕ
candidates_by source here at name None = []
candidates_by source here at name (Some one) =
    cond (encloses one.path here) (those (stands_there one.path name) source.functions) (those (comes_by source.directed at name) source.functions)

-- ---- what names mean

abbrev pub unknown : Span → Judged Meaning
unknown span = refused kind.UnknownMember span

abbrev pub functions_or_unknown : Span → List ℕ → Judged Meaning
functions_or_unknown span [] = unknown span
functions_or_unknown span (first ∷ candidates) = Ok (are_functions span (first ∷ candidates))

abbrev pub by_found : Source → Path → Span → List ℕ → Option ℕ → Judged Meaning
by_found source here span name None = unknown span
by_found source here span name (Some number) = functions_or_unknown span (candidates_by source here span.first name (numbered number source.functions))

-- the newest of some variables that has a name, or else one that was found before
abbrev pub newest_from : List ℕ → Option Variable → List Variable → Option Variable
newest_from name found [] = found
newest_from name found (one ∷ variables) = newest_from name (cond (bytes_eq one.name name) (Some one) found) variables

abbrev pub newest : List ℕ → List Variable → Option Variable
newest name variables = newest_from name None variables

-- a name alone, for which a variable is found or none
abbrev pub plain : Finds → Source → Frame → List ℕ → Span → Option Variable → Judged Meaning
plain finds source frame name span (Some one) = Ok (is_place one.of one.local)
plain finds source frame name span None = by_found source frame.path span name (finds frame.scope span.first name)

-- a name with the namespaces that are written before it
abbrev pub resolved : Finds → Source → Frame → List Identifier → Identifier → Span → Judged Meaning
resolved finds source frame [] name span = plain finds source frame name.name span (newest name.name frame.variables)
resolved finds source frame (outer ∷ path) name span = functions_or_unknown span (those (stands_there (path_from [] (outer ∷ path)) name.name) source.functions)

-- a name behind `System::Console`
abbrev pub console_named : List ℕ → Span → Judged Meaning
console_named name span =
    cond (bytes_eq name (codes "Write")) (Ok (is_console span Write)) (cond (bytes_eq name (codes "WriteLine")) (Ok (is_console span WriteLine)) (unknown span))
