-- Implicit conversions (ECMA-372, 14; C++, 4): a case for each rule, and where several rules cover two types the one of the lowest rank.
use Rattle.std.specs.Prelude.{◌≡◌, ℕ, ◌≤◌, Bool, true, false, List, Some, slice_get}
use Rattle.cc_base.specs.declared.identifiers.ClassId.{ClassId}
use Rattle.cc_core.specs.declared.types.ClassInfo.{ClassInfo}
use Rattle.cc_core.specs.declared.types.ClassKind.TheVariants as kind
use Rattle.cc_core.specs.Types.{BareType}
use Rattle.cc_core.specs.Types as type
use Rattle.cc_core.specs.Classes.{Derives}
use Rattle.cc_core.specs.Library.{object, boxed_class}
use Rattle.cc_convert.specs.declared.conversion.Way.{Way}
use Rattle.cc_convert.specs.declared.conversion.Way.TheVariants as way
use Rattle.cc_convert.specs.declared.conversion.Conversion.{Conversion}

-- bool, wchar_t and the integers of 8 or 16 bits
abbrev pub is_small : BareType → Bool
is_small type.Bool = true
is_small type.Char = true
is_small type.I8 = true
is_small type.U8 = true
is_small type.I16 = true
is_small type.U16 = true
is_small _ = false

-- those and the integers of 32 or 64 bits
abbrev pub is_fundamental : BareType → Bool
is_fundamental type.I32 = true
is_fundamental type.U32 = true
is_fundamental type.I64 = true
is_fundamental type.U64 = true
is_fundamental of = is_small of

-- a handle to an object or an array
abbrev pub is_handle : BareType → Bool
is_handle (type.Handle class) = true
is_handle (type.Array element) = true
is_handle _ = false

abbrev pub IsInterface : List ClassInfo → ClassId → Type 0
IsInterface classes class = (info : ClassInfo) × (slice_get classes class.0 ≡ Some info) × (info.kind ≡ kind.Interface)

-- how far a conversion is from none
abbrev pub rank_of : Way → ℕ
rank_of way.Same = 0
rank_of way.Promote = 1
rank_of way.Number = 2
rank_of way.Reference = 3
rank_of way.Boxed = 4

-- The rules of implicit conversions.
pub data Covers (classes : List ClassInfo) : Way → BareType → BareType → Type 0 where
  -- the same type
  same : {of : BareType} → Covers classes way.Same of of
  -- bool, wchar_t and integers of 8 or 16 bits to int
  promoted : {from : BareType} → is_small from ≡ true → Covers classes way.Promote from type.I32
  -- a fundamental type to any other
  number : {from to : BareType} → is_fundamental from ≡ true → is_fundamental to ≡ true → (from ≡ to → ⊥) → Covers classes way.Number from to
  -- a handle to a base class or to an interface that is implemented
  to_parent : {from to : ClassId} → Derives classes from to → Covers classes way.Reference (type.Handle from) (type.Handle to)
  -- any handle to Object^
  to_object : {from : BareType} → is_handle from ≡ true → Covers classes way.Reference from (type.Handle object)
  -- nullptr to any handle
  null : {to : BareType} → is_handle to ≡ true → Covers classes way.Reference type.Null to
  -- a fundamental type, an enum or a value class to Object^
  box : {from : BareType} {class : ClassId} → boxed_class from ≡ Some class → Covers classes way.Boxed from (type.Handle object)
  -- such a type to an interface that it implements
  box_as : {from : BareType} {class to : ClassId} → boxed_class from ≡ Some class → IsInterface classes to → Derives classes class to → Covers classes way.Boxed from (type.Handle to)

-- The implicit conversion from a type to another: by a rule that covers them, and none of a lower rank does.
pub record IsConversion (classes : List ClassInfo) (from to : BareType) (conversion : Conversion) : Type 0 where
  pub covered : Covers classes conversion.way from to
  pub rank : conversion.rank ≡ rank_of conversion.way
  pub lowest : (other : Way) → Covers classes other from to → conversion.rank ≤ rank_of other
