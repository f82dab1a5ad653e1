-- Classes of the library that the language itself names. The library's classes are the first: Object, String, ValueType, Enum, and then
-- those of the fundamental types, Boolean, Char, SByte, Byte, Int16, UInt16, Int32, UInt32, Int64 and UInt64.
use Rattle.std.specs.Prelude.{ℕ, Option, Some, None}
use Rattle.cc_base.specs.declared.identifiers.ClassId.{ClassId}
use Rattle.cc_core.specs.Types.{BareType}
use Rattle.cc_core.specs.Types as type

abbrev pub class_of_number : ℕ → ClassId
class_of_number number = record { 0 = number }

-- System::Object
abbrev pub object : ClassId
object = class_of_number 0

-- the class of the objects into which values of a type are boxed (ECMA-372, 12.1; ECMA-335, I.8.2.4)
abbrev pub boxed_class : BareType → Option ClassId
boxed_class type.Bool = Some (class_of_number 4)
boxed_class type.Char = Some (class_of_number 5)
boxed_class type.I8 = Some (class_of_number 6)
boxed_class type.U8 = Some (class_of_number 7)
boxed_class type.I16 = Some (class_of_number 8)
boxed_class type.U16 = Some (class_of_number 9)
boxed_class type.I32 = Some (class_of_number 10)
boxed_class type.U32 = Some (class_of_number 11)
boxed_class type.I64 = Some (class_of_number 12)
boxed_class type.U64 = Some (class_of_number 13)
boxed_class (type.Enum class) = Some class
boxed_class (type.Value class) = Some class
boxed_class _ = None
