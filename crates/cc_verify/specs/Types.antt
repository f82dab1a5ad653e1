-- The types that signatures give to methods and variables, as the evaluation stack sees them (ECMA-335, II.23.2 and III.1.1).
--   Spells blob s           the blob is the signature
--   is_built_signature s    its types are those that the machine has
--   AreReadings m r         what the signature columns of a module hold
--   environment_of m r      what the rows of a module stand for
use Rattle.std.specs.Prelude.{◌≡◌, ◌&&◌, ◌||◌, not, ℕ, Bool, true, false, List, [], ◌∷◌, map, Option, Some, None}
use Rattle.cc_base.specs.declared.identifiers.ClassId.{ClassId}
use Rattle.cc_module.specs.declared.element.Element.{Element}
use Rattle.cc_module.specs.declared.element.Element.TheVariants as the
use Rattle.cc_module.specs.declared.signature.TypeSignature.{TypeSignature}
use Rattle.cc_module.specs.declared.signature.Signature.{Signature}
use Rattle.cc_module.specs.declared.signature.Signature.TheVariants.{Field, Method, Locals, Property, Instantiation, Plain}
use Rattle.cc_module.specs.declared.rows.TypeRefRow.{TypeRefRow}
use Rattle.cc_module.specs.declared.rows.MethodDefRow.{MethodDefRow}
use Rattle.cc_module.specs.declared.rows.MemberRefRow.{MemberRefRow}
use Rattle.cc_module.specs.declared.rows.StandAloneSigRow.{StandAloneSigRow}
use Rattle.cc_module.specs.declared.module.Module.{Module}
use Rattle.cc_module.specs.Signatures.{HasSpelling, signature_bytes}
use Rattle.cc_verify.specs.declared.stack_type.StackType.{StackType}
use Rattle.cc_verify.specs.declared.stack_type.StackType.TheVariants.{Int32, Int64}
use Rattle.cc_verify.specs.declared.environment.MethodType.{MethodType}
use Rattle.cc_verify.specs.declared.environment.Environment.{Environment}
use Rattle.cc_verify.specs.declared.readings.Readings.{Readings}
use Rattle.cc_verify.specs.Library.{class_named, only, is_void, is_generic}

abbrev pub Spells : List ℕ → Signature → Type 0
Spells blob s = HasSpelling s × (blob ≡ signature_bytes s)

-- ---- types that the machine has

-- the type on the stack of a value of a fundamental type (I.12.1)
abbrev pub stack_type : Element → Option StackType
stack_type the.Boolean = Some Int32
stack_type the.Char = Some Int32
stack_type the.I1 = Some Int32
stack_type the.U1 = Some Int32
stack_type the.I2 = Some Int32
stack_type the.U2 = Some Int32
stack_type the.I4 = Some Int32
stack_type the.U4 = Some Int32
stack_type the.I8 = Some Int64
stack_type the.U8 = Some Int64
stack_type _ = None

abbrev pub stack_type_of : Option Element → Option StackType
stack_type_of None = None
stack_type_of (Some e) = stack_type e

-- the type of a value of a type that is made of no other
abbrev pub value_type : List Element → Option StackType
value_type t = stack_type_of (only t)

abbrev pub is_number : Option StackType → Bool
is_number None = false
is_number (Some type) = true

-- a fundamental type, or void
abbrev pub is_built_type : List Element → Bool
is_built_type t = is_void t || is_number (value_type t)

abbrev pub is_array : Element → Bool
is_array the.Array = true
is_array _ = false

abbrev pub is_string : Element → Bool
is_string the.String = true
is_string _ = false

-- an array of strings: the type of a program's arguments
abbrev pub is_text_array : List Element → Bool
is_text_array [] = false
is_text_array (e ∷ []) = false
is_text_array (e ∷ f ∷ []) = is_array e && is_string f
is_text_array (e ∷ f ∷ g ∷ elements) = false

abbrev pub are_built_types : List TypeSignature → Bool
are_built_types [] = true
are_built_types (t ∷ types) = is_built_type t.elements && are_built_types types

abbrev pub are_built_parameters : List TypeSignature → Bool
are_built_parameters [] = true
are_built_parameters (t ∷ types) = (is_text_array t.elements || is_built_type t.elements) && are_built_parameters types

-- A method that is not generic, over types that the machine has. What is of another kind breaks a rule of its own.
abbrev pub is_built_method : Signature → Bool
is_built_method (Method has_this generic result parameters) = not (is_generic generic) && (is_built_type result.elements && are_built_parameters parameters)
is_built_method (Field t) = true
is_built_method (Locals types) = true
is_built_method (Property has_this holds indexes) = true
is_built_method (Instantiation types) = true
is_built_method (Plain t) = true

-- a reference to such a method without a this, and to no field
abbrev pub is_built_reference : Signature → Bool
is_built_reference (Method has_this generic result parameters) = not has_this && (not (is_generic generic) && (is_built_type result.elements && are_built_types parameters))
is_built_reference (Field t) = false
is_built_reference (Locals types) = true
is_built_reference (Property has_this holds indexes) = true
is_built_reference (Instantiation types) = true
is_built_reference (Plain t) = true

abbrev pub are_built_locals : Signature → Bool
are_built_locals (Locals types) = are_built_types types
are_built_locals (Method has_this generic result parameters) = true
are_built_locals (Field t) = true
are_built_locals (Property has_this holds indexes) = true
are_built_locals (Instantiation types) = true
are_built_locals (Plain t) = true

-- ---- what signature columns hold

-- the signature that a blob is, if it is one
abbrev pub IsReading : List ℕ → Option Signature → Type 0
IsReading blob (Some s) = Spells blob s
IsReading blob None = (s : Signature) → Spells blob s → ⊥

-- one by one
abbrev pub Zip : {A B : Type 0} → (A → B → Type 0) → List A → List B → Type 0
Zip P [] [] = Unit {0}
Zip P [] (b ∷ others) = ⊥
Zip P (a ∷ rows) [] = ⊥
Zip P (a ∷ rows) (b ∷ others) = P a b × Zip P rows others

pub record AreReadings (m : Module) (r : Readings) : Type 0 where
  pub methods : Zip (λ (row : MethodDefRow) (s : Option Signature). IsReading row.signature s) m.methods r.methods
  pub references : Zip (λ (row : MemberRefRow) (s : Option Signature). IsReading row.signature s) m.member_refs r.references
  pub locals : Zip (λ (row : StandAloneSigRow) (s : Option Signature). IsReading row.signature s) m.stand_alone_sigs r.locals

-- ---- what rows stand for, where they keep the rules on rows; what stands for nothing has no variables

abbrev pub value_types : List TypeSignature → List (Option StackType)
value_types types = map (λ (t : TypeSignature). value_type t.elements) types

abbrev pub no_method : MethodType
no_method = record { parameters = []; result = None }

abbrev pub type_of_signature : Signature → MethodType
type_of_signature (Method has_this generic result parameters) = record { parameters = value_types parameters; result = value_type result.elements }
type_of_signature (Field t) = no_method
type_of_signature (Locals types) = no_method
type_of_signature (Property has_this holds indexes) = no_method
type_of_signature (Instantiation types) = no_method
type_of_signature (Plain t) = no_method

abbrev pub method_type : Option Signature → MethodType
method_type None = no_method
method_type (Some s) = type_of_signature s

-- the types of values, without those that have none
abbrev pub with_some : Option StackType → List StackType → List StackType
with_some None types = types
with_some (Some type) types = type ∷ types

abbrev pub some_types : List TypeSignature → List StackType
some_types [] = []
some_types (t ∷ types) = with_some (value_type t.elements) (some_types types)

abbrev pub locals_of_signature : Signature → List StackType
locals_of_signature (Locals types) = some_types types
locals_of_signature (Method has_this generic result parameters) = []
locals_of_signature (Field t) = []
locals_of_signature (Property has_this holds indexes) = []
locals_of_signature (Instantiation types) = []
locals_of_signature (Plain t) = []

abbrev pub local_types : Option Signature → List StackType
local_types None = []
local_types (Some s) = locals_of_signature s

-- Object, where there is none
abbrev pub or_object : Option ClassId → ClassId
or_object None = record { 0 = 0 }
or_object (Some class) = class

abbrev pub class_or_object : TypeRefRow → ClassId
class_or_object x = or_object (class_named x.namespace x.name)

abbrev pub environment_of : Module → Readings → Environment
environment_of m r = record {
  classes = map class_or_object m.type_refs;
  methods = map method_type r.methods;
  references = map method_type r.references;
  locals = map local_types r.locals;
}
