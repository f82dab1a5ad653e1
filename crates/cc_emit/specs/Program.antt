-- The module of a straight program, row by row (ECMA-335, II.22): `main`, which prints and returns, and the entry `<start>`, which calls it.
--   module_of code   the module whose `main` has this code
use Rattle.std.specs.Prelude.{ℕ, ◌+◌, Bool, false, Option, None, List, [], ◌∷◌, ◌++◌, codes, length}
use Rattle.cc_cil.specs.declared.body.Body.{Body}
use Rattle.cc_cil.specs.declared.instruction.Instruction.TheVariants as the
use Rattle.cc_cil.specs.Bodies.{body_bytes}
use Rattle.cc_cil.specs.Instructions.{spelling}
use Rattle.cc_module.specs.declared.element.Element.TheVariants as element
use Rattle.cc_module.specs.declared.element.TypeDefOrRef.TheVariants as type
use Rattle.cc_module.specs.declared.index.MemberRefParent.TheVariants as parent
use Rattle.cc_module.specs.declared.index.ResolutionScope.TheVariants as scope
use Rattle.cc_module.specs.declared.signature.TypeSignature.{TypeSignature}
use Rattle.cc_module.specs.declared.signature.Signature.{Signature}
use Rattle.cc_module.specs.declared.signature.Signature.TheVariants.{Method}
use Rattle.cc_module.specs.declared.rows.ModuleRow.{ModuleRow}
use Rattle.cc_module.specs.declared.rows.TypeRefRow.{TypeRefRow}
use Rattle.cc_module.specs.declared.rows.TypeDefRow.{TypeDefRow}
use Rattle.cc_module.specs.declared.rows.MethodDefRow.{MethodDefRow}
use Rattle.cc_module.specs.declared.rows.MemberRefRow.{MemberRefRow}
use Rattle.cc_module.specs.declared.rows.AssemblyRow.{AssemblyRow}
use Rattle.cc_module.specs.declared.rows.AssemblyRefRow.{AssemblyRefRow}
use Rattle.cc_module.specs.declared.module.Module.{Module}
use Rattle.cc_module.specs.Signatures.{signature_bytes}
use Rattle.cc_module.specs.Storable.{FIRST_BODY, aligned}

-- ---- signatures (II.23.2)

abbrev pub void : TypeSignature
void = record { elements = element.Void ∷ [] }

abbrev pub int : TypeSignature
int = record { elements = element.I4 ∷ [] }

-- an array of strings
abbrev pub strings : TypeSignature
strings = record { elements = element.Array ∷ element.String ∷ [] }

-- of a static method that isn't generic
abbrev pub static_method : TypeSignature → List TypeSignature → Signature
static_method result parameters = Method false None result parameters

abbrev pub write_line_signature : Signature
write_line_signature = static_method void (int ∷ [])

abbrev pub main_signature : Signature
main_signature = static_method int []

abbrev pub start_signature : Signature
start_signature = static_method int (strings ∷ [])

-- ---- bodies (II.25.4)

-- the terms of a straight source hold at most 256 values at a time
abbrev pub main_body : List ℕ → Body
main_body code = record { max_stack = 256; locals = 0; code = code; clauses = [] }

-- `main` is called and its result returned
abbrev pub start_code : List ℕ
start_code = spelling (the.Call 0x06000001) ++ spelling the.Return

abbrev pub start_body : Body
start_body = record { max_stack = 8; locals = 0; code = start_code; clauses = [] }

-- where the body of `<start>` begins: behind that of `main`, at a multiple of four
unfoldable pub start_place : List ℕ → ℕ
start_place code = aligned (FIRST_BODY + length (body_bytes (main_body code)))

-- ---- rows

abbrev pub module_row : ModuleRow
module_row = record { name = codes "program.exe" }

-- System.Console of mscorlib
abbrev pub console_row : TypeRefRow
console_row = record { scope = scope.AssemblyRef 1; name = codes "Console"; namespace = codes "System" }

-- the type that has the functions outside classes: it extends none
abbrev pub globals_row : TypeDefRow
globals_row = record { flags = 0; name = codes "<Module>"; namespace = []; extends = type.TypeDef 0; fields = record { 0 = 1 }; methods = record { 0 = 1 } }

-- public and static (II.23.1.10)
abbrev pub PUBLIC_STATIC : ℕ
PUBLIC_STATIC = 0x16

abbrev pub main_row : MethodDefRow
main_row = record { rva = FIRST_BODY; flags = PUBLIC_STATIC; name = codes "main"; signature = signature_bytes main_signature; parameters = record { 0 = 1 } }

abbrev pub start_row : List ℕ → MethodDefRow
start_row code = record { rva = start_place code; flags = PUBLIC_STATIC; name = codes "<start>"; signature = signature_bytes start_signature; parameters = record { 0 = 1 } }

-- Console.WriteLine(int32)
abbrev pub write_line_row : MemberRefRow
write_line_row = record { class = parent.TypeRef 1; name = codes "WriteLine"; signature = signature_bytes write_line_signature }

abbrev pub assembly_row : AssemblyRow
assembly_row = record { version = record { major = 0; minor = 0; build = 0; revision = 0 }; name = codes "program" }

-- the eight last bytes of the hash of the library's public key
abbrev pub library_token : List ℕ
library_token = 0xB7 ∷ 0x7A ∷ 0x5C ∷ 0x56 ∷ 0x19 ∷ 0x34 ∷ 0xE0 ∷ 0x89 ∷ []

abbrev pub library_row : AssemblyRefRow
library_row = record { version = record { major = 4; minor = 0; build = 0; revision = 0 }; token = library_token; name = codes "mscorlib" }

-- ---- the module

-- the token of `<start>`
abbrev pub ENTRY : ℕ
ENTRY = 0x06000002

abbrev pub module_of : List ℕ → Module
module_of code = record {
  modules = module_row ∷ [];
  type_refs = console_row ∷ [];
  type_defs = globals_row ∷ [];
  fields = [];
  methods = main_row ∷ start_row code ∷ [];
  params = [];
  interface_impls = [];
  member_refs = write_line_row ∷ [];
  constants = [];
  stand_alone_sigs = [];
  property_maps = [];
  properties = [];
  method_semantics = [];
  method_impls = [];
  type_specs = [];
  assemblies = assembly_row ∷ [];
  assembly_refs = library_row ∷ [];
  generic_params = [];
  method_specs = [];
  generic_param_constraints = [];
  bodies = main_body code ∷ start_body ∷ [];
  texts = [];
  entry = ENTRY;
}

-- the largest code, in bytes
abbrev pub code_limit : ℕ
code_limit = 51200000

-- the largest image, in bytes
abbrev pub image_limit : ℕ
image_limit = 268435456
