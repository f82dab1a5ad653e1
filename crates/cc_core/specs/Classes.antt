-- What holds of all classes together (ECMA-372, 12.2, 21, 22 and 24; ECMA-335, I.8.9).
use Rattle.std.specs.Prelude.{◌≡◌, ℕ, ◌<◌, ◌^◌, Bool, true, ◌&&◌, if◌then◌else◌, nat_lt, List, [], ◌∷◌, ◌++◌, map, length, slice_get, sum_by, Contains, IsTrue, Some}
use Rattle.std.specs.List.{list_all, flat_map}
use Rattle.std.specs.Option.{option_to_list}
use Rattle.cc_base.specs.declared.identifiers.ClassId.{ClassId}
use Rattle.cc_core.specs.declared.types.FieldInfo.{FieldInfo}
use Rattle.cc_core.specs.declared.types.MethodInfo.{MethodInfo}
use Rattle.cc_core.specs.declared.types.NamedFunction.{NamedFunction}
use Rattle.cc_core.specs.declared.types.ClassInfo.{ClassInfo}
use Rattle.cc_core.specs.declared.types.ClassKind.{ClassKind}
use Rattle.cc_core.specs.declared.types.ClassKind.TheVariants as kind
use Rattle.cc_core.specs.Types.{BareType, bare}
use Rattle.cc_core.specs.Types as type

-- the class of this number is among so many classes
abbrev pub id_within : ℕ → ClassId → Bool
id_within count class = nat_lt class.0 count

-- the class that a type names, if it names one, is among so many classes
abbrev pub type_within : ℕ → BareType → Bool
type_within count (type.Enum class) = id_within count class
type_within count (type.Value class) = id_within count class
type_within count (type.Handle class) = id_within count class
type_within count (type.Array element) = type_within count element
type_within count (type.Track target) = type_within count target
type_within count type.Void = true
type_within count type.Bool = true
type_within count type.Char = true
type_within count type.I8 = true
type_within count type.U8 = true
type_within count type.I16 = true
type_within count type.U16 = true
type_within count type.I32 = true
type_within count type.U32 = true
type_within count type.I64 = true
type_within count type.U64 = true
type_within count type.Null = true

-- each class that a member names is among so many classes
abbrev pub field_within : ℕ → FieldInfo → Bool
field_within count field = type_within count (bare field.holds)

abbrev pub named_within : ℕ → NamedFunction → Bool
named_within count named = id_within count named.class

abbrev pub method_within : ℕ → MethodInfo → Bool
method_within count method =
    list_all (λ of. type_within count (bare of)) method.parameters && type_within count (bare method.result) && list_all (named_within count) method.named

-- the classes that a class derives from directly: its base, and then the interfaces that it lists
abbrev pub parents : ClassInfo → List ClassId
parents class = option_to_list class.base ++ class.interfaces

-- each class that a class names, for itself or in a member, is among so many classes
abbrev pub class_within : ℕ → ClassInfo → Bool
class_within count class =
    list_all (id_within count) (parents class) && list_all (field_within count) class.fields && list_all (method_within count) class.methods

-- the value class that is part of each object that has such a field
abbrev pub part_of : BareType → List ClassId
part_of (type.Value class) = class ∷ []
part_of _ = []

abbrev pub field_part : FieldInfo → List ClassId
field_part field = if field.is_static then [] else part_of (bare field.holds)

-- the value classes of which a value of this class is made, where it is a value class itself
abbrev pub parts_in : ClassKind → ClassInfo → List ClassId
parts_in kind.Value class = flat_map field_part class.fields
parts_in _ class = []

abbrev pub parts : ClassInfo → List ClassId
parts class = parts_in class.kind class

-- A class reaches another one where steps lead there, at least one. The table has at the place of each class those to which one step leads.
pub data Reaches (steps : List (List ClassId)) : ClassId → ClassId → Type 0 where
  one : {from to : ClassId} {row : List ClassId} → slice_get steps from.0 ≡ Some row → Contains row to → Reaches steps from to
  more : {from by to : ClassId} {row : List ClassId} → slice_get steps from.0 ≡ Some row → Contains row by → Reaches steps by to → Reaches steps from to

-- a class derives from another one, through bases and interfaces
abbrev pub Derives : List ClassInfo → ClassId → ClassId → Type 0
Derives classes from to = Reaches (map parents classes) from to

-- a value of a value class has a value of another one in it
abbrev pub Holds : List ClassInfo → ClassId → ClassId → Type 0
Holds classes from to = Reaches (map parts classes) from to

-- What the classes of every program keep.
pub record AreClasses (classes : List ClassInfo) : Type 0 where
  pub few_classes : length classes < 2 ^ 32
  pub few_fields : sum_by (λ class. length class.fields) classes < 2 ^ 32
  pub few_methods : sum_by (λ class. length class.methods) classes < 2 ^ 32
  pub within : IsTrue (list_all (class_within (length classes)) classes)
  pub no_cycle : (class : ClassId) → Derives classes class class → ⊥
  pub no_part_of_itself : (class : ClassId) → Holds classes class class → ⊥
