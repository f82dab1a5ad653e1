-- The spelling of a signature consists of bytes (ECMA-335, II.23.2).
use Rattle.std.proofs.Common.{◌≡◌, ℕ, ◌+◌, ◌*◌, ◌/◌, ◌%◌, ◌^◌, ◌<◌, Bool, true, false, Option, Some, None, List, [], ◌∷◌, ◌++◌, length, refl, arith}
use borrow.Author.Tests.{ltb-true}
use Rattle.std.specs.Prelude.{if◌then◌else◌}
use Rattle.std.specs.List.{AllByRecursion, flat_map}
use Rattle.cc_layout.specs.Numbers.{AreBytes}
use Rattle.cc_layout.specs.Compressed.{compressed}
use Rattle.cc_layout.proofs.Numbers.{AreBytes-append}
use Rattle.cc_layout.proofs.CompressedForms.{Form, one, two, four, form_of}
use Rattle.cc_module.specs.declared.element.Element.{Element}
use Rattle.cc_module.specs.declared.element.Element.TheVariants as the
use Rattle.cc_module.specs.declared.signature.TypeSignature.{TypeSignature}
use Rattle.cc_module.specs.declared.signature.Signature.{Signature}
use Rattle.cc_module.specs.declared.signature.Signature.TheVariants.{Field, Method, Locals, Property, Instantiation, Plain}
use Rattle.cc_module.specs.Signatures.{coded, mark, operand, element_bytes, FitsElement, IsType, AreTypes, type_bytes, types_bytes, counted_bytes, typed_bytes, FitsGeneric, generic_bytes, generic_mark, this_mark, signature_bytes, HasSpelling}

number_by : (v : ℕ) → v < 2 ^ 29 → Form v → AreBytes (compressed v)
number_by v low (one a e) = rw e (omega arith, tt)
number_by v low (two a b e) = rw e (omega arith, (omega arith, tt))
number_by v low (four a e) = rw e (omega arith, (omega arith, (omega arith, (omega arith, tt))))

number : (v : ℕ) → v < 2 ^ 29 → AreBytes (compressed v)
number v low = number_by v low (form_of v)

mark_low : (e : Element) → mark e < 256
mark_low the.Void = omega arith
mark_low the.Boolean = omega arith
mark_low the.Char = omega arith
mark_low the.I1 = omega arith
mark_low the.U1 = omega arith
mark_low the.I2 = omega arith
mark_low the.U2 = omega arith
mark_low the.I4 = omega arith
mark_low the.U4 = omega arith
mark_low the.I8 = omega arith
mark_low the.U8 = omega arith
mark_low the.String = omega arith
mark_low the.Pointer = omega arith
mark_low (the.ValueType t) = omega arith
mark_low (the.Class t) = omega arith
mark_low (the.TypeVariable n) = omega arith
mark_low (the.Instance v t n) = omega arith
mark_low the.Object = omega arith
mark_low the.Array = omega arith
mark_low (the.MethodVariable n) = omega arith

kind_low : (is_value : Bool) → (if is_value then 0x11 else 0x12) < 256
kind_low true = omega arith
kind_low false = omega arith

behind : (e : Element) → FitsElement e → AreBytes (operand e)
behind (the.ValueType t) h = number (coded t) h
behind (the.Class t) h = number (coded t) h
behind (the.TypeVariable n) h = number n h
behind (the.Instance v t n) h = (kind_low v, AreBytes-append (compressed (coded t)) (compressed n) (number (coded t) h.0) (number n h.1))
behind (the.MethodVariable n) h = number n h
behind the.Void h = tt
behind the.Boolean h = tt
behind the.Char h = tt
behind the.I1 h = tt
behind the.U1 h = tt
behind the.I2 h = tt
behind the.U2 h = tt
behind the.I4 h = tt
behind the.U4 h = tt
behind the.I8 h = tt
behind the.U8 h = tt
behind the.String h = tt
behind the.Pointer h = tt
behind the.Object h = tt
behind the.Array h = tt

elements : (es : List Element) → AllByRecursion FitsElement es → AreBytes (flat_map element_bytes es)
elements [] h = tt
elements (e ∷ es) h = AreBytes-append (element_bytes e) (flat_map element_bytes es) (mark_low e, behind e h.0) (elements es h.1)

one_type : (t : TypeSignature) → IsType t → AreBytes (type_bytes t)
one_type t is = elements t.elements is.fits

each_type : (types : List TypeSignature) → AllByRecursion IsType types → AreBytes (types_bytes types)
each_type [] h = tt
each_type (t ∷ types) h = AreBytes-append (type_bytes t) (types_bytes types) (one_type t h.0) (each_type types h.1)

counted : (types : List TypeSignature) → AreTypes types → AreBytes (counted_bytes types)
counted types are = AreBytes-append (compressed (length types)) (types_bytes types) (number (length types) are.few) (each_type types are.each)

typed : (t : TypeSignature) (types : List TypeSignature) → IsType t → AreTypes types → AreBytes (typed_bytes t types)
typed t types is are =
    AreBytes-append (compressed (length types)) (type_bytes t ++ types_bytes types) (number (length types) are.few) (AreBytes-append (type_bytes t) (types_bytes types) (one_type t is) (each_type types are.each))

first_low : (this : Bool) (generic : Option ℕ) → this_mark this + generic_mark generic < 256
first_low true None = omega arith
first_low true (Some n) = omega arith
first_low false None = omega arith
first_low false (Some n) = omega arith

property_low : (this : Bool) → this_mark this + 0x08 < 256
property_low true = omega arith
property_low false = omega arith

generic_number : (generic : Option ℕ) → FitsGeneric generic → AreBytes (generic_bytes generic)
generic_number None h = tt
generic_number (Some n) h = number n h

pub are_bytes : (s : Signature) → HasSpelling s → AreBytes (signature_bytes s)
are_bytes (Field t) h = (ltb-true 0x06 256 refl, one_type t h)
are_bytes (Method this generic result parameters) h = (first_low this generic, AreBytes-append (generic_bytes generic) (typed_bytes result parameters) (generic_number generic h.0) (typed result parameters h.1 h.2))
are_bytes (Locals types) h = (ltb-true 0x07 256 refl, counted types h)
are_bytes (Property this holds indexes) h = (property_low this, typed holds indexes h.0 h.1)
are_bytes (Instantiation types) h = (ltb-true 0x0A 256 refl, counted types h)
are_bytes (Plain t) h = one_type t h.0
