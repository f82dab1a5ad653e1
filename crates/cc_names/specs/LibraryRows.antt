-- What the library declares: its namespace, its classes in order of their numbers, and of their members those that a class of a source inherits. Its scopes stand after those of the unit, its
-- declarations before them.
use Rattle.std.specs.Prelude.{ℕ, ◌+◌, List, [], ◌∷◌, ◌++◌, map, codes, length, Some}
use Rattle.std.specs.List.{enumerate_from}
use Rattle.cc_base.specs.declared.text.Span.{Span}
use Rattle.cc_tree.specs.declared.class.ClassWord.{ClassWord}
use Rattle.cc_names.specs.declared.catalogue.TheConstants.{LIBRARY}
use Rattle.cc_names.specs.declared.scope.ItemKind.{ItemKind}
use Rattle.cc_names.specs.declared.scope.ItemKind.TheVariants as kind
use Rattle.cc_names.specs.declared.scope.ScopeKind.TheVariants as scope
use Rattle.cc_names.specs.declared.scope.Scope.{Scope}
use Rattle.cc_names.specs.declared.scope.Item.{Item}
use Rattle.cc_names.specs.declared.scope.Declared.{Declared}

abbrev pub nowhere : Span
nowhere = record { first = 0; past = 0 }

abbrev pub base_names : List ℕ → List (List ℕ)
base_names [] = []
base_names (letter ∷ letters) = (letter ∷ letters) ∷ []

-- from the number that the library's first scope has, which is the one of its namespace
abbrev pub class_scope_of : ℕ → List ℕ → Scope
class_scope_of first name = record { kind = scope.Class name; parent = Some first; span = nowhere }

abbrev pub system_scope : Scope
system_scope = record { kind = scope.Namespace (codes "System"); parent = Some 0; span = nowhere }

abbrev pub library_scopes : ℕ → List Scope
library_scopes first = system_scope ∷ map (λ row. class_scope_of first row.0.now) LIBRARY

-- the class of a number has the scope of that number after the namespace's
abbrev pub class_item_of : ℕ → ℕ → List ℕ → ClassWord → List ℕ → Item
class_item_of first number name word base = record { kind = kind.Class word (first + 1 + number) (base_names base); name = name; span = nowhere; scope = first }

abbrev pub member_item_of : ℕ → ItemKind → List ℕ → ℕ → Item
member_item_of first kind_ name class = record { kind = kind_; name = name; span = nowhere; scope = first + 1 + class }

-- the number of the class `Exception`
abbrev pub exception : ℕ
exception = 17

abbrev pub library_items : ℕ → List Item
library_items first =
    record { kind = kind.Namespace first; name = codes "System"; span = nowhere; scope = 0 }
    ∷ map (λ row. class_item_of first row.0 row.1.0.now row.1.2 row.1.3.now) (enumerate_from 0 LIBRARY)
    ++ member_item_of first (kind.Function []) (codes "ToString") 0
    ∷ member_item_of first kind.Property (codes "Message") exception
    ∷ member_item_of first (kind.Function []) (codes "get_Message") exception
    ∷ []

-- the scopes and declarations of a unit with the library's
abbrev pub with_library : Declared → Declared
with_library own = record { scopes = own.scopes ++ library_scopes (length own.scopes); items = library_items (length own.scopes) ++ own.items }
