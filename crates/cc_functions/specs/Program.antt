-- The module of a program of functions, row by row (ECMA-335, II.22): each function with its code, and the entry `<start>`, which calls `main` and returns its result.
--   functions_module functions main   the module of these functions, of which `main` is the one at this place
--   module_of methods entry           the module of these methods, with this entry
--   body row f, bodies row methods    the body of a method, and those of methods, the first signature of whose local variables stands in this row
use Rattle.std.specs.Prelude.{ℕ, suc, ◌+◌, Option, Some, None, List, [], ◌∷◌, ◌++◌, codes, length, map}
use Rattle.std.specs.List.{flat_map}
use Rattle.cc_cil.specs.declared.body.Body.{Body}
use Rattle.cc_cil.specs.declared.instruction.Instruction.TheVariants as the
use Rattle.cc_cil.specs.Instructions.{spelling}
use Rattle.cc_module.specs.declared.element.Element.{Element}
use Rattle.cc_module.specs.declared.element.Element.TheVariants as element
use Rattle.cc_module.specs.declared.index.MemberRefParent.TheVariants as parent
use Rattle.cc_module.specs.declared.signature.TypeSignature.{TypeSignature}
use Rattle.cc_module.specs.declared.signature.Signature.{Signature}
use Rattle.cc_module.specs.declared.rows.MethodDefRow.{MethodDefRow}
use Rattle.cc_module.specs.declared.rows.MemberRefRow.{MemberRefRow}
use Rattle.cc_module.specs.declared.rows.StandAloneSigRow.{StandAloneSigRow}
use Rattle.cc_module.specs.declared.module.Module.{Module}
use Rattle.cc_module.specs.Signatures.{signature_bytes}
use Rattle.cc_module.specs.Storable.{FIRST_BODY, body_places}
use Rattle.cc_emit.specs.Program.{PUBLIC_STATIC, void, static_method, start_signature, module_row, console_row, globals_row, assembly_row, library_row}
use Rattle.cc_functions.specs.declared.function.Function.{Function}

-- ---- tokens (III.1.9): the number of a table in the highest byte, and a row, counted from 1

-- of MethodDef
abbrev pub METHOD : ℕ
METHOD = 0x06000000

-- of StandAloneSig
abbrev pub SIGNATURE : ℕ
SIGNATURE = 0x11000000

-- ---- the entry

-- `main`, which stands at this place, is called and its result returned
abbrev pub start_code : ℕ → List ℕ
start_code main = spelling (the.Call (METHOD + main + 1)) ++ spelling the.Return

abbrev pub start : ℕ → Function
start main = record { name = codes "<start>"; signature = start_signature; locals = None; max_stack = 8; code = start_code main }

-- ---- local variables (II.22.36)

abbrev pub local_row : Option Signature → List StandAloneSigRow
local_row None = []
local_row (Some s) = record { signature = signature_bytes s } ∷ []

-- one row for each method that has local variables, in order
abbrev pub local_rows : List Function → List StandAloneSigRow
local_rows methods = flat_map (λ f. local_row f.locals) methods

-- the token of the signature of local variables that stands in a row, 0 where there are none
abbrev pub locals_token : ℕ → Option Signature → ℕ
locals_token row None = 0
locals_token row (Some s) = SIGNATURE + row

-- ---- bodies (II.25.4)

abbrev pub body : ℕ → Function → Body
body row f = record { max_stack = f.max_stack; locals = locals_token row f.locals; code = f.code; clauses = [] }

abbrev pub bodies : ℕ → List Function → List Body
bodies row [] = []
bodies row (f ∷ methods) = body row f ∷ bodies (length (local_row f.locals) + row) methods

-- ---- methods (II.22.26)

-- The names of parameters are not known, so that no parameter has a row (II.22.33).
abbrev pub method_row : ℕ → Function → MethodDefRow
method_row place f = record { rva = place; flags = PUBLIC_STATIC; name = f.name; signature = signature_bytes f.signature; parameters = record { 0 = 1 } }

-- each with its body at its place
abbrev pub rows_at : List ℕ → List Function → List MethodDefRow
rows_at places [] = []
rows_at [] (f ∷ methods) = []
rows_at (place ∷ places) (f ∷ methods) = method_row place f ∷ rows_at places methods

abbrev pub method_rows : List Function → List MethodDefRow
method_rows methods = rows_at (body_places FIRST_BODY (bodies 1 methods)) methods

-- ---- members of Console (II.22.25): each is static and gives nothing

abbrev pub member_row : List ℕ → List TypeSignature → MemberRefRow
member_row name parameters = record { class = parent.TypeRef 1; name = name; signature = signature_bytes (static_method void parameters) }

-- that prints a value of this type
abbrev pub printing_row : List ℕ → Element → MemberRefRow
printing_row name of = member_row name (record { elements = of ∷ [] } ∷ [])

abbrev pub printing : List ℕ → List MemberRefRow
printing name = map (printing_row name) (element.Boolean ∷ element.Char ∷ element.I4 ∷ element.U4 ∷ element.I8 ∷ element.U8 ∷ [])

-- Write and WriteLine of each such type, in the order of the types, and WriteLine without a value
abbrev pub console_members : List MemberRefRow
console_members = printing (codes "Write") ++ (printing (codes "WriteLine") ++ member_row (codes "WriteLine") [] ∷ [])

-- ---- the module

abbrev pub module_of : List Function → ℕ → Module
module_of methods entry = record {
  modules = module_row ∷ [];
  type_refs = console_row ∷ [];
  type_defs = globals_row ∷ [];
  fields = [];
  methods = method_rows methods;
  params = [];
  interface_impls = [];
  member_refs = console_members;
  constants = [];
  stand_alone_sigs = local_rows methods;
  property_maps = [];
  properties = [];
  method_semantics = [];
  method_impls = [];
  type_specs = [];
  assemblies = assembly_row ∷ [];
  assembly_refs = library_row ∷ [];
  generic_params = [];
  method_specs = [];
  generic_param_constraints = [];
  bodies = bodies 1 methods;
  texts = [];
  entry = entry;
}

-- the functions in their order, and `<start>` behind them
abbrev pub methods_of : List Function → ℕ → List Function
methods_of functions main = functions ++ start main ∷ []

abbrev pub functions_module : List Function → ℕ → Module
functions_module functions main = module_of (methods_of functions main) (METHOD + length functions + 1)
