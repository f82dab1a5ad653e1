-- Types as they are told apart.
use Rattle.cc_base.specs.declared.identifiers.ClassId.{ClassId}
use Rattle.cc_core.specs.declared.types.CoreType.{CoreType}
use Rattle.cc_core.specs.declared.types.CoreType.TheVariants as core

-- A type without the place in memory at which its part stands. Two types are the same where these are equal.
pub data BareType : Type 0 where
  Void Bool Char I8 U8 I16 U16 I32 U32 I64 U64 Null : BareType
  Enum Value Handle : ClassId → BareType
  Array Track : BareType → BareType

abbrev pub bare : CoreType → BareType
bare core.Void = Void
bare core.Bool = Bool
bare core.Char = Char
bare core.I8 = I8
bare core.U8 = U8
bare core.I16 = I16
bare core.U16 = U16
bare core.I32 = I32
bare core.U32 = U32
bare core.I64 = I64
bare core.U64 = U64
bare core.Null = Null
bare (core.Enum class) = Enum class
bare (core.Value class) = Value class
bare (core.Handle class) = Handle class
bare (core.Array' place element) = Array (bare element)
bare (core.Track' place target) = Track (bare target)
