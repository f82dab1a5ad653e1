-- How signatures are spelled (ECMA-335, II.23.2).
--   element_bytes e      a mark, and the row or number that belongs to it
--   type_bytes t         the elements of a type, each before those of the types that it is made of
--   head s, types s      the bytes before the types of a signature, and its types
--   signature_bytes s    the bytes of the signature
--   HasSpelling s        each type is one whole type, and numbers and counts have a compressed form
--   IsBadBlob blob n     the first place at which the blob leaves the signatures
use Rattle.std.specs.Prelude.{◌≡◌, ◌≢◌, ◌<◌, ◌≤◌, ◌^◌, ℕ, zero, suc, ◌+◌, ◌*◌, Bool, List, [], ◌∷◌, ◌++◌, length, take, Option, Some, None, if◌then◌else◌}
use Rattle.std.specs.List.{flat_map, AllByRecursion}
use Rattle.cc_layout.specs.Codes.{Then}
use Rattle.cc_layout.specs.Compressed.{compressed, IsCompressed}
use Rattle.cc_module.specs.declared.element.TypeDefOrRef.{TypeDefOrRef}
use Rattle.cc_module.specs.declared.element.TypeDefOrRef.TheVariants.{TypeDef, TypeRef, TypeSpec}
use Rattle.cc_module.specs.declared.element.Element.{Element}
use Rattle.cc_module.specs.declared.element.Element.TheVariants as the
use Rattle.cc_module.specs.declared.fault.BlobFault.{BlobFault}
use Rattle.cc_module.specs.declared.fault.BlobFault.TheVariants.{Bad, Memory}
use Rattle.cc_module.specs.declared.signature.TypeSignature.{TypeSignature}
use Rattle.cc_module.specs.declared.signature.Signature.{Signature}
use Rattle.cc_module.specs.declared.signature.Signature.TheVariants.{Field, Method, Locals, Property, Instantiation, Plain}

-- ---- elements (II.23.1.16)

-- a row and the tag of its table in the two lowest bits (II.23.2.8)
abbrev pub coded : TypeDefOrRef → ℕ
coded (TypeDef row) = row * 4
coded (TypeRef row) = row * 4 + 1
coded (TypeSpec row) = row * 4 + 2

abbrev pub mark : Element → ℕ
mark the.Void = 0x01
mark the.Boolean = 0x02
mark the.Char = 0x03
mark the.I1 = 0x04
mark the.U1 = 0x05
mark the.I2 = 0x06
mark the.U2 = 0x07
mark the.I4 = 0x08
mark the.U4 = 0x09
mark the.I8 = 0x0A
mark the.U8 = 0x0B
mark the.String = 0x0E
mark the.Pointer = 0x10
mark (the.ValueType t) = 0x11
mark (the.Class t) = 0x12
mark (the.TypeVariable n) = 0x13
mark (the.Instance v t n) = 0x15
mark the.Object = 0x1C
mark the.Array = 0x1D
mark (the.MethodVariable n) = 0x1E

-- what stands behind the mark
abbrev pub operand : Element → List ℕ
operand (the.ValueType t) = compressed (coded t)
operand (the.Class t) = compressed (coded t)
operand (the.TypeVariable n) = compressed n
operand (the.Instance v t n) = (if v then 0x11 else 0x12) ∷ compressed (coded t) ++ compressed n
operand (the.MethodVariable n) = compressed n
operand the.Void = []
operand the.Boolean = []
operand the.Char = []
operand the.I1 = []
operand the.U1 = []
operand the.I2 = []
operand the.U2 = []
operand the.I4 = []
operand the.U4 = []
operand the.I8 = []
operand the.U8 = []
operand the.String = []
operand the.Pointer = []
operand the.Object = []
operand the.Array = []

abbrev pub element_bytes : Element → List ℕ
element_bytes e = mark e ∷ operand e

-- how many types stand behind the element
abbrev pub arity : Element → ℕ
arity (the.Instance v t n) = n
arity the.Pointer = 1
arity the.Array = 1
arity (the.ValueType t) = 0
arity (the.Class t) = 0
arity (the.TypeVariable n) = 0
arity (the.MethodVariable n) = 0
arity the.Void = 0
arity the.Boolean = 0
arity the.Char = 0
arity the.I1 = 0
arity the.U1 = 0
arity the.I2 = 0
arity the.U2 = 0
arity the.I4 = 0
arity the.U4 = 0
arity the.I8 = 0
arity the.U8 = 0
arity the.String = 0
arity the.Object = 0

-- a compressed number holds 29 bits
abbrev pub FitsElement : Element → Type 0
FitsElement (the.ValueType t) = coded t < 2 ^ 29
FitsElement (the.Class t) = coded t < 2 ^ 29
FitsElement (the.TypeVariable n) = n < 2 ^ 29
FitsElement (the.Instance v t n) = (coded t < 2 ^ 29) × (n < 2 ^ 29)
FitsElement (the.MethodVariable n) = n < 2 ^ 29
FitsElement the.Void = Unit {0}
FitsElement the.Boolean = Unit {0}
FitsElement the.Char = Unit {0}
FitsElement the.I1 = Unit {0}
FitsElement the.U1 = Unit {0}
FitsElement the.I2 = Unit {0}
FitsElement the.U2 = Unit {0}
FitsElement the.I4 = Unit {0}
FitsElement the.U4 = Unit {0}
FitsElement the.I8 = Unit {0}
FitsElement the.U8 = Unit {0}
FitsElement the.String = Unit {0}
FitsElement the.Pointer = Unit {0}
FitsElement the.Object = Unit {0}
FitsElement the.Array = Unit {0}

-- the marks of elements
abbrev pub marks : List ℕ
marks = 0x01 ∷ 0x02 ∷ 0x03 ∷ 0x04 ∷ 0x05 ∷ 0x06 ∷ 0x07 ∷ 0x08 ∷ 0x09 ∷ 0x0A ∷ 0x0B ∷ 0x0E ∷ 0x10 ∷ 0x11 ∷ 0x12 ∷ 0x13 ∷ 0x15 ∷ 0x1C ∷ 0x1D ∷ 0x1E ∷ []

-- no element has the mark
abbrev pub IsNoMark : ℕ → Type 0
IsNoMark code = AllByRecursion (λ other. code ≢ other) marks

-- ---- types (II.23.2.12)

-- how many types are still wanted after the elements, where so many were wanted before
abbrev pub wanted : ℕ → List Element → Option ℕ
wanted count [] = Some count
wanted zero (e ∷ elements) = None
wanted (suc count) (e ∷ elements) = wanted (arity e + count) elements

-- the elements are those of one type
pub record IsType (t : TypeSignature) : Type 0 where
  pub whole : wanted 1 t.elements ≡ Some 0
  pub fits : AllByRecursion FitsElement t.elements

abbrev pub type_bytes : TypeSignature → List ℕ
type_bytes t = flat_map element_bytes t.elements

abbrev pub types_bytes : List TypeSignature → List ℕ
types_bytes types = flat_map type_bytes types

-- ---- signatures

abbrev pub generic_mark : Option ℕ → ℕ
generic_mark None = 0x00
generic_mark (Some count) = 0x10

abbrev pub this_mark : Bool → ℕ
this_mark has_this = if has_this then 0x20 else 0x00

abbrev pub generic_bytes : Option ℕ → List ℕ
generic_bytes None = []
generic_bytes (Some count) = compressed count

abbrev pub counted_bytes : List TypeSignature → List ℕ
counted_bytes types = compressed (length types) ++ types_bytes types

-- a count, then one type more than it says
abbrev pub typed_bytes : TypeSignature → List TypeSignature → List ℕ
typed_bytes first types = compressed (length types) ++ (type_bytes first ++ types_bytes types)

abbrev pub signature_bytes : Signature → List ℕ
signature_bytes (Field t) = 0x06 ∷ type_bytes t
signature_bytes (Method has_this generic result parameters) = (this_mark has_this + generic_mark generic) ∷ (generic_bytes generic ++ typed_bytes result parameters)
signature_bytes (Locals types) = 0x07 ∷ counted_bytes types
signature_bytes (Property has_this holds indexes) = (this_mark has_this + 0x08) ∷ typed_bytes holds indexes
signature_bytes (Instantiation types) = 0x0A ∷ counted_bytes types
signature_bytes (Plain t) = type_bytes t

abbrev pub FitsGeneric : Option ℕ → Type 0
FitsGeneric None = Unit {0}
FitsGeneric (Some count) = count < 2 ^ 29

-- the types are few enough to be counted, and each is one whole type
pub record AreTypes (types : List TypeSignature) : Type 0 where
  pub few : length types < 2 ^ 29
  pub each : AllByRecursion IsType types

-- a type alone is neither void nor a pointer
abbrev pub BeginsAlone : List Element → Type 0
BeginsAlone [] = Unit {0}
BeginsAlone (e ∷ elements) = (mark e ≡ 0x01 → ⊥) × (mark e ≡ 0x10 → ⊥)

abbrev pub HasSpelling : Signature → Type 0
HasSpelling (Field t) = IsType t
HasSpelling (Method has_this generic result parameters) = FitsGeneric generic × IsType result × AreTypes parameters
HasSpelling (Locals types) = AreTypes types
HasSpelling (Property has_this holds indexes) = IsType holds × AreTypes indexes
HasSpelling (Instantiation types) = AreTypes types
HasSpelling (Plain t) = IsType t × BeginsAlone t.elements

abbrev pub IsSignature : List ℕ → Type 0
IsSignature text = (s : Signature) × HasSpelling s × (text ≡ signature_bytes s)

-- the blob is no text of P, its bytes before n go on to one, and none goes on from one byte more
pub record IsBadWhole (P : List ℕ → Type 0) (blob : List ℕ) (n : ℕ) : Type 0 where
  pub within : n ≤ length blob
  pub front : (more : List ℕ) × P (take n blob ++ more)
  pub first : n < length blob → (more : List ℕ) → P (take (n + 1) blob ++ more) → ⊥
  pub none : P blob → ⊥

-- a signature has one spelling, and a spelling is of one signature
abbrev pub OneSignature : Type 0
OneSignature = (r s : Signature) → HasSpelling r → HasSpelling s → signature_bytes r ≡ signature_bytes s → r ≡ s

-- ---- the parts that a reader takes one after the other

abbrev pub IsToken : List ℕ → Type 0
IsToken text = (t : TypeDefOrRef) × (coded t < 2 ^ 29) × (text ≡ compressed (coded t))

abbrev pub IsElement : List ℕ → Type 0
IsElement text = (e : Element) × FitsElement e × (text ≡ element_bytes e)

-- what may follow a mark
abbrev pub IsOperand : ℕ → List ℕ → Type 0
IsOperand code text = (e : Element) × FitsElement e × (mark e ≡ code) × (text ≡ operand e)

abbrev pub IsOneType : List ℕ → Type 0
IsOneType text = (t : TypeSignature) × IsType t × (text ≡ type_bytes t)

abbrev pub IsTypes : ℕ → List ℕ → Type 0
IsTypes count text = (types : List TypeSignature) × (length types ≡ count) × AllByRecursion IsType types × (text ≡ types_bytes types)

-- a count, and so many types and `extra` ones more
abbrev pub IsCounted : ℕ → List ℕ → Type 0
IsCounted extra text = (count : ℕ) × (types : List TypeSignature) × (count < 2 ^ 29) × (length types ≡ count + extra) × AllByRecursion IsType types × (text ≡ compressed count ++ types_bytes types)

-- a number of type parameters, and then a count, so many types and one more
abbrev pub IsGeneric : List ℕ → Type 0
IsGeneric = Then IsCompressed (λ _. IsCounted 1)

-- a fault with so many bytes before it
abbrev pub moved : ℕ → BlobFault → BlobFault
moved before (Bad place) = Bad (before + place)
moved before Memory = Memory

-- the bytes that signatures other than types begin with, and that of void, which stands alone nowhere
abbrev pub heads : List ℕ
heads = 0x00 ∷ 0x01 ∷ 0x06 ∷ 0x07 ∷ 0x08 ∷ 0x0A ∷ 0x10 ∷ 0x20 ∷ 0x28 ∷ 0x30 ∷ []

abbrev pub IsPlainLead : ℕ → Type 0
IsPlainLead lead = AllByRecursion (λ other. lead ≢ other) heads
