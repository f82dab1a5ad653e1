-- Which module stands behind what the machine executes (ECMA-335, II.22, II.23.2 and II.25.4): its signatures are read, its code is decoded, and its tokens are resolved.
--   IsLoaded m x     the module is loaded as this
use Rattle.std.specs.Prelude.{◌≡◌, ℕ, zero, suc, ◌+◌, ◌==◌, Bool, true, false, List, [], ◌∷◌, ◌++◌, map, length, slice_get, Option, Some, None, if◌then◌else◌}
use Rattle.std.specs.List.{flat_map}
use Rattle.std.specs.Char.Escape.{encode_utf16}
use Rattle.std.specs.Str.{chars}
use Rattle.cc_base.specs.declared.identifiers.ClassId.{ClassId}
use Rattle.cc_cil.specs.declared.instruction.Instruction.{Instruction}
use Rattle.cc_cil.specs.declared.body.Body.{Body}
use Rattle.cc_cil.specs.Instructions.{spelling}
use Rattle.cc_cil.specs.Steps.{Stands}
use Rattle.cc_core.specs.declared.library_call.LibraryCall.{LibraryCall}
use Rattle.cc_module.specs.declared.element.TypeDefOrRef.{TypeDefOrRef}
use Rattle.cc_module.specs.declared.element.TypeDefOrRef.TheVariants.{TypeDef, TypeRef, TypeSpec}
use Rattle.cc_module.specs.declared.index.MemberRefParent.{MemberRefParent}
use Rattle.cc_module.specs.declared.index.MemberRefParent.TheVariants as parent
use Rattle.cc_module.specs.declared.signature.Signature.{Signature}
use Rattle.cc_module.specs.declared.signature.Signature.TheVariants as sig
use Rattle.cc_module.specs.declared.rows.TypeRefRow.{TypeRefRow}
use Rattle.cc_module.specs.declared.rows.TypeDefRow.{TypeDefRow}
use Rattle.cc_module.specs.declared.rows.MethodDefRow.{MethodDefRow}
use Rattle.cc_module.specs.declared.rows.MemberRefRow.{MemberRefRow}
use Rattle.cc_module.specs.declared.rows.StandAloneSigRow.{StandAloneSigRow}
use Rattle.cc_module.specs.declared.module.Module.{Module}
use Rattle.cc_module.specs.Signatures.{HasSpelling, signature_bytes}
use Rattle.cc_module.specs.Methods.{NamesMethod, body_of}
use Rattle.cc_execution.specs.declared.operation.FundamentalType.{FundamentalType}
use Rattle.cc_execution.specs.declared.executable.PlacedOperation.{PlacedOperation}
use Rattle.cc_execution.specs.declared.executable.Method.{Method}
use Rattle.cc_execution.specs.declared.executable.ClassRow.{ClassRow}
use Rattle.cc_execution.specs.declared.executable.Executable.{Executable}
use Rattle.cc_execution.specs.Fundamental.{fundamental_each, parameter_types, result_of}
use Rattle.cc_execution.specs.Library.{class_bases, class_named, class_number, full_name, library_call, library_names, CONSOLE, LIBRARY_CLASSES}
use Rattle.cc_execution.specs.Operations.{Names, names_in, at_row, resolve, row_of}

-- the blob is the signature
abbrev pub Spells : List ℕ → Signature → Type 0
Spells blob s = HasSpelling s × (blob ≡ signature_bytes s)

-- one for each, in order, by their rows from this one on
abbrev pub Rows : {A B : Type 0} → (ℕ → A → B → Type 0) → ℕ → List A → List B → Type 0
Rows P row [] [] = Unit {0}
Rows P row [] (b ∷ others) = ⊥
Rows P row (a ∷ rows) [] = ⊥
Rows P row (a ∷ rows) (b ∷ others) = P row a b × Rows P (suc row) rows others

-- ---- code

-- The operations of code from an offset on: whole instructions, one after another, up to the code's end, each of which the machine has.
pub data Decodes (names : Names) (code : List ℕ) : ℕ → List PlacedOperation → Type 0 where
  ends : {at : ℕ} → at ≡ length code → Decodes names code at []
  goes : {at : ℕ} {rest : List PlacedOperation} (i : Instruction) (placed : PlacedOperation) → Stands code at i → placed.at ≡ at → placed.next ≡ at + length (spelling i)
      → resolve names placed.next i ≡ Some placed.operation → Decodes names code placed.next rest → Decodes names code at (placed ∷ rest)

-- ---- methods

abbrev pub parameters_in : Signature → Option (List (Option FundamentalType))
parameters_in (sig.Method false None result parameters) = Some (parameter_types parameters)
parameters_in _ = None

abbrev pub result_in : Signature → Option (Option FundamentalType)
result_in (sig.Method false None result parameters) = result_of result.elements
result_in _ = None

abbrev pub locals_in : Signature → Option (List FundamentalType)
locals_in (sig.Locals types) = fundamental_each types
locals_in _ = None

abbrev pub AreLocalsOf : Option StandAloneSigRow → List FundamentalType → Type 0
AreLocalsOf None types = ⊥
AreLocalsOf (Some row) types = (s : Signature) × Spells row.signature s × (locals_in s ≡ Some types)

abbrev pub AreLocalsIf : Bool → Option StandAloneSigRow → List FundamentalType → Type 0
AreLocalsIf true row types = types ≡ []
AreLocalsIf false row types = AreLocalsOf row types

-- the local variables that a token names, none where it is 0
abbrev pub AreLocals : Module → ℕ → List FundamentalType → Type 0
AreLocals m token types = AreLocalsIf (token == 0) (at_row m.stand_alone_sigs (row_of token)) types

abbrev pub body_at : Module → Option ℕ → Option Body
body_at m None = None
body_at m (Some place) = slice_get m.bodies place

-- A method without a body has no operations.
abbrev pub HasBody : Module → Executable → Method → Option Body → Type 0
HasBody m x method None = (method.locals ≡ []) × (method.operations ≡ []) × (method.clauses ≡ []) × (method.max_stack ≡ 0)
HasBody m x method (Some body) = AreLocals m body.locals method.locals × Decodes (names_in x method) body.code 0 method.operations × (method.clauses ≡ body.clauses) × (method.max_stack ≡ body.max_stack)

-- a static method that is not generic, with its variables and its code
pub record IsMethod (m : Module) (x : Executable) (row : ℕ) (def : MethodDefRow) (method : Method) : Type 0 where
  pub signature : Signature
  pub spells : Spells def.signature signature
  pub parameters : parameters_in signature ≡ Some method.parameters
  pub result : result_in signature ≡ Some method.result
  pub body : HasBody m x method (body_at m (body_of m row))

-- ---- members of the library

abbrev pub is_console : Option ClassId → Bool
is_console None = false
is_console (Some class) = class.0 == CONSOLE

abbrev pub class_of_reference : Option TypeRefRow → Option ClassId
class_of_reference None = None
class_of_reference (Some row) = class_named row.namespace row.name

abbrev pub parent_class : Module → MemberRefParent → Option ClassId
parent_class m (parent.TypeRef row) = class_of_reference (at_row m.type_refs row)
parent_class m (parent.TypeDef row) = None
parent_class m (parent.TypeSpec row) = None

pub record IsReference (m : Module) (row : ℕ) (of : MemberRefRow) (call : LibraryCall) : Type 0 where
  pub signature : Signature
  pub spells : Spells of.signature signature
  pub console : is_console (parent_class m of.class) ≡ true
  pub member : library_call of.name signature ≡ Some call

-- ---- classes: the library's, then those of TypeDef

abbrev pub own_class : ℕ → ClassId
own_class row = class_number (LIBRARY_CLASSES + row)

-- the class that a column names; the row 0 names none
abbrev pub base_of : Module → TypeDefOrRef → Option ClassId
base_of m (TypeDef zero) = None
base_of m (TypeDef (suc n)) = Some (own_class n)
base_of m (TypeRef row) = class_of_reference (at_row m.type_refs row)
base_of m (TypeSpec row) = None

abbrev pub is_class : ℕ → Option ClassId → Bool
is_class n None = false
is_class n (Some class) = class.0 == n

-- the tokens of the rows of TypeRef from this one on that name a class of the library
abbrev pub reference_tokens : ℕ → ℕ → List TypeRefRow → List ℕ
reference_tokens n row [] = []
reference_tokens n row (r ∷ rows) =
    if is_class n (class_named r.namespace r.name) then (0x01000000 + row) ∷ reference_tokens n (suc row) rows
    else reference_tokens n (suc row) rows

-- the library's classes from this one on
abbrev pub library_rows : Module → ℕ → List (Option ClassId) → List ClassRow
library_rows m n [] = []
library_rows m n (base ∷ bases) = record { tokens = reference_tokens n 1 m.type_refs; base = base } ∷ library_rows m (suc n) bases

-- those of TypeDef from this row on
abbrev pub own_rows : Module → ℕ → List TypeDefRow → List ClassRow
own_rows m row [] = []
own_rows m row (r ∷ rows) = record { tokens = (0x02000000 + row) ∷ []; base = base_of m r.extends } ∷ own_rows m (suc row) rows

abbrev pub classes_of : Module → List ClassRow
classes_of m = library_rows m 0 class_bases ++ own_rows m 1 m.type_defs

-- the full name of a type, as a text
abbrev pub type_name : TypeDefRow → List ℕ
type_name row = flat_map encode_utf16 (chars (full_name row.namespace row.name))

abbrev pub names_of : Module → List (List ℕ)
names_of m = library_names ++ map type_name m.type_defs

-- ---- the module

pub record IsLoaded (m : Module) (x : Executable) : Type 0 where
  pub methods : Rows (IsMethod m x) 1 m.methods x.methods
  pub references : Rows (IsReference m) 1 m.member_refs x.references
  pub classes : x.classes ≡ classes_of m
  pub names : x.names ≡ names_of m
  pub entry : NamesMethod m m.entry (x.entry + 1)
