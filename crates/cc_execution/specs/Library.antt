-- The library's classes (assembly mscorlib, namespace System), by their numbers, and the members that the machine has (ECMA-335, IV).
--   class_named space name     the number of the class with this name
--   library_call name s        the member of Console with this name and signature
use Rattle.std.specs.Prelude.{ℕ, Bool, true, false, List, [], ◌∷◌, ◌++◌, map, codes, position, Option, Some, None, option_map, if◌then◌else◌}
use Rattle.std.specs.Str.{bytes_eq}
use Rattle.cc_base.specs.declared.identifiers.ClassId.{ClassId}
use Rattle.cc_module.specs.declared.element.Element.{Element}
use Rattle.cc_module.specs.declared.element.Element.TheVariants as the
use Rattle.cc_module.specs.declared.signature.TypeSignature.{TypeSignature}
use Rattle.cc_module.specs.declared.signature.Signature.{Signature}
use Rattle.cc_module.specs.declared.signature.Signature.TheVariants.{Method}
use Rattle.cc_core.specs.declared.library_call.LibraryCall.{LibraryCall}
use Rattle.cc_core.specs.declared.library_call.LibraryCall.TheVariants.{Write, WriteLine, WriteEmptyLine}
use Rattle.cc_core.specs.declared.library_call.Printed.{Printed}
use Rattle.cc_core.specs.declared.library_call.Printed.TheVariants as printed

-- ---- classes

-- their names, in order of their numbers
unfoldable pub class_names : List (List ℕ)
class_names = codes "Object" ∷ codes "String" ∷ codes "ValueType" ∷ codes "Enum" ∷ codes "Boolean" ∷ codes "Char" ∷ codes "SByte" ∷ codes "Byte" ∷ codes "Int16" ∷ codes "UInt16"
    ∷ codes "Int32" ∷ codes "UInt32" ∷ codes "Int64" ∷ codes "UInt64" ∷ codes "IDisposable" ∷ codes "Console" ∷ codes "GC" ∷ codes "Exception" ∷ codes "SystemException"
    ∷ codes "ArithmeticException" ∷ codes "DivideByZeroException" ∷ codes "OverflowException" ∷ codes "NullReferenceException" ∷ codes "IndexOutOfRangeException"
    ∷ codes "InvalidCastException" ∷ codes "ArgumentException" ∷ codes "InvalidOperationException" ∷ codes "FormatException" ∷ []

abbrev pub class_number : ℕ → ClassId
class_number n = record { 0 = n }

abbrev pub derives_from : ℕ → Option ClassId
derives_from n = Some (class_number n)

-- their base classes: ValueType for Enum and the fundamental types, Object for String, ValueType, Console, GC and Exception; Object and the interface IDisposable have none
unfoldable pub class_bases : List (Option ClassId)
class_bases = None ∷ derives_from 0 ∷ derives_from 0 ∷ derives_from 2 ∷ derives_from 2 ∷ derives_from 2 ∷ derives_from 2 ∷ derives_from 2 ∷ derives_from 2 ∷ derives_from 2
    ∷ derives_from 2 ∷ derives_from 2 ∷ derives_from 2 ∷ derives_from 2 ∷ None ∷ derives_from 0 ∷ derives_from 0 ∷ derives_from 0 ∷ derives_from 17
    ∷ derives_from 18 ∷ derives_from 19 ∷ derives_from 19 ∷ derives_from 18 ∷ derives_from 18
    ∷ derives_from 18 ∷ derives_from 18 ∷ derives_from 18 ∷ derives_from 18 ∷ []

abbrev pub CONSOLE : ℕ
CONSOLE = 15

abbrev pub NULL_REFERENCE : ClassId
NULL_REFERENCE = class_number 22

-- how many there are
abbrev pub LIBRARY_CLASSES : ℕ
LIBRARY_CLASSES = 28

abbrev pub class_named : List ℕ → List ℕ → Option ClassId
class_named namespace name = if bytes_eq namespace (codes "System") then option_map class_number (position (bytes_eq name) class_names) else None

-- a name with the names of its namespaces before it
abbrev pub full_name : List ℕ → List ℕ → List ℕ
full_name [] name = name
full_name (c ∷ namespace) name = (c ∷ namespace) ++ codes "." ++ name

unfoldable pub library_names : List (List ℕ)
library_names = map (full_name (codes "System")) class_names

-- ---- members

-- of which types Console writes a value
abbrev pub printed_type : Element → Option Printed
printed_type the.Boolean = Some printed.Bool
printed_type the.Char = Some printed.Char
printed_type the.I4 = Some printed.I32
printed_type the.U4 = Some printed.U32
printed_type the.I8 = Some printed.I64
printed_type the.U8 = Some printed.U64
printed_type _ = None

abbrev pub printed_alone : List Element → Option Printed
printed_alone [] = None
printed_alone (e ∷ []) = printed_type e
printed_alone (e ∷ f ∷ elements) = None

abbrev pub write_call : List TypeSignature → Option LibraryCall
write_call [] = None
write_call (t ∷ []) = option_map Write (printed_alone t.elements)
write_call (t ∷ u ∷ types) = None

abbrev pub write_line_call : List TypeSignature → Option LibraryCall
write_line_call [] = Some WriteEmptyLine
write_line_call (t ∷ []) = option_map WriteLine (printed_alone t.elements)
write_line_call (t ∷ u ∷ types) = None

abbrev pub is_void : List Element → Bool
is_void (the.Void ∷ []) = true
is_void _ = false

abbrev pub named_call : List ℕ → List TypeSignature → Option LibraryCall
named_call name parameters =
    if bytes_eq name (codes "Write") then write_call parameters
    else if bytes_eq name (codes "WriteLine") then write_line_call parameters
    else None

-- a static method of Console that is not generic and gives nothing
abbrev pub library_call : List ℕ → Signature → Option LibraryCall
library_call name (Method false None result parameters) = if is_void result.elements then named_call name parameters else None
library_call name _ = None
