-- The classes of the library as a table of names has them.
use Rattle.std.specs.Prelude.{ℕ, suc, List, [], ◌∷◌, ◌++◌, map, codes, cond, Option, Some, None, option_map}
use Rattle.std.specs.Str.{bytes_eq}
use Rattle.cc_base.specs.declared.identifiers.ClassId.{ClassId}
use Rattle.cc_tree.specs.declared.class.ClassWord.{ClassWord}
use Rattle.cc_tree.specs.declared.class.ClassWord.TheVariants as word
use Rattle.cc_core.specs.declared.types.ClassInfo.{ClassInfo}
use Rattle.cc_core.specs.declared.types.ClassKind.{ClassKind}
use Rattle.cc_core.specs.declared.types.ClassKind.TheVariants as kind
use Rattle.cc_names.specs.declared.catalogue.TheConstants.{LIBRARY}
use Rattle.cc_typing_laws.specs.Programs.{library_class}

-- the first of some names that a name is, where the first has a number
abbrev pub number_of : ℕ → List ℕ → List (List ℕ) → Option ℕ
number_of number name [] = None
number_of number name (one ∷ names) = cond (bytes_eq one name) (Some number) (number_of (suc number) name names)

abbrev pub class_id : ℕ → ClassId
class_id number = record { 0 = number }

abbrev pub kind_of : ClassWord → ClassKind
kind_of word.Ref = kind.Ref
kind_of word.Value = kind.Value
kind_of word.Interface = kind.Interface

abbrev pub names : List (List ℕ)
names = map (λ row. row.0.now) LIBRARY

-- the class of a row: its name, the sort of class, and the name of its base
abbrev pub class_of : List ℕ → ClassWord → List ℕ → ClassInfo
class_of name word_ base = library_class (codes "System." ++ name) (kind_of word_) (option_map class_id (number_of 0 base names))
