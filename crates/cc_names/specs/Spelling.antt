-- How a type is spelled where types are compared: by its first name, without its namespaces, since a name stands for one type in a source (ECMA-372, 12.1 and 12.3).
use Rattle.std.specs.Prelude.{ℕ, List, [], ◌∷◌, ◌++◌, codes, Bool, cond, Option, Some, None, map}
use Rattle.std.specs.Str.{bytes_eq}
use Rattle.cc_names.specs.declared.spelling.TheConstants.{LIBRARY_SPELLINGS}
use Rattle.cc_tree.specs.declared.identifier.Identifier.{Identifier}
use Rattle.cc_tree.specs.declared.type_name.FundamentalType.{FundamentalType}
use Rattle.cc_tree.specs.declared.type_name.FundamentalType.TheVariants as f
use Rattle.cc_tree.specs.declared.type_name.TypeName.{TypeName, TypeName-F, fold-TypeName}
use Rattle.cc_tree.specs.declared.type_name.TypeName.TheOpen as t
use Rattle.cc_tree.specs.declared.member.Parameters.{Parameters}
use Rattle.cc_tree.specs.declared.member.Parameter.{Parameter}

abbrev pub fundamental_spelling : FundamentalType → List ℕ
fundamental_spelling f.Void = codes "void"
fundamental_spelling f.Bool = codes "bool"
fundamental_spelling f.WideChar = codes "wchar_t"
fundamental_spelling f.SignedChar = codes "signed char"
fundamental_spelling f.UnsignedChar = codes "unsigned char"
fundamental_spelling f.Short = codes "short"
fundamental_spelling f.UnsignedShort = codes "unsigned short"
fundamental_spelling f.Int = codes "int"
fundamental_spelling f.UnsignedInt = codes "unsigned int"
fundamental_spelling f.LongLong = codes "long long"
fundamental_spelling f.UnsignedLongLong = codes "unsigned long long"

-- the library's names of the fundamental types mean the same types
abbrev pub library_spellings : List (List ℕ × List ℕ)
library_spellings = map (λ row. (row.0.now, row.1.now)) LIBRARY_SPELLINGS

abbrev pub first_spelling : List (List ℕ × List ℕ) → List ℕ → List ℕ
first_spelling [] name = name
first_spelling (pair ∷ pairs) name = cond (bytes_eq pair.0 name) pair.1 (first_spelling pairs name)

-- each spelling with a comma after it
abbrev pub with_commas : List (List ℕ) → List ℕ
with_commas [] = []
with_commas (spelling ∷ spellings) = spelling ++ codes "," ++ with_commas spellings

abbrev pub arguments_spelling : List (List ℕ) → List ℕ
arguments_spelling [] = []
arguments_spelling (one ∷ more) = codes "<" ++ with_commas (one ∷ more) ++ codes ">"

abbrev pub spelling_layer : TypeName-F (List ℕ) → List ℕ
spelling_layer (t.Fundamental of span) = fundamental_spelling of
spelling_layer (t.Named path name arguments span) = first_spelling library_spellings name.name ++ arguments_spelling arguments
spelling_layer (t.Marked core is_handle is_tracking span) = core ++ (cond is_handle (codes "^") []) ++ (cond is_tracking (codes "%") [])

abbrev pub spelling : TypeName → List ℕ
spelling = fold-TypeName (List ℕ) spelling_layer

-- the spellings of the types of a function's parameters
abbrev pub signature : Parameters → List ℕ
signature parameters = with_commas (map (λ parameter. spelling parameter.of) parameters.items)
