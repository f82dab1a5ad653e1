-- A program as a module has it: its functions, their variables and their code.
--   function_site ..          where the code of a function stands that runs
--   Compiled set tokens f n   the method at a place is the function's: its variables are of its types, and its code is the function's
--   CompiledProgram ..        so is each function that is called, and no method has a handler
use Rattle.std.specs.Prelude.{◌≡◌, ℕ, ◌<◌, ◌^◌, List, [], ◌++◌, map, length, Option, Some, None, slice_get}
use Rattle.cc_base.specs.declared.identifiers.MethodId.{MethodId}
use Rattle.cc_cil.specs.declared.instruction.Instruction.TheVariants as the
use Rattle.cc_core.specs.declared.library_call.LibraryCall.{LibraryCall}
use Rattle.cc_core.specs.declared.tree.Dispatch.TheVariants.{Direct}
use Rattle.cc_core.specs.declared.types.CoreType.{CoreType}
use Rattle.cc_core.specs.declared.world.Value.{Value}
use Rattle.cc_core.specs.Typed.{IsCallable}
use Rattle.cc_core.specs.Types as type
use Rattle.cc_core.specs.Types.{BareType, bare}
use Rattle.cc_code.specs.declared.tokens.Tokens.{Tokens}
use Rattle.cc_code.specs.Functions.{function_instructions, function_size}
use Rattle.cc_code.specs.Terms.{call, library_token}
use Rattle.cc_execution.specs.declared.executable.Method.{Method}
use Rattle.cc_execution.specs.declared.operation.FundamentalType.{FundamentalType}
use Rattle.cc_execution.specs.declared.operation.Operation.TheVariants as does
use Rattle.cc_execution.specs.Fundamental.{core_type}
use Rattle.cc_execution.specs.Operations.{names_in, resolve}
use Rattle.cc_execution.specs.State.{Frame}
use Rattle.cc_region.specs.declared.tree.RegionFunction.{RegionFunction}
use Rattle.cc_region.specs.Bare.{region_of}
use Rattle.cc_region.specs.Frames.{function_for}
use Rattle.cc_region.specs.Typed.{IsFit}
use Rattle.cc_simulation.specs.Sites.{Setting, Site, Quiet, HasAt}
use Rattle.cc_simulation.specs.Ways.{IsSmallRegion}

abbrev pub site_of : Setting → ℕ → Method → List BareType → List Frame → List (List Value) → Site
site_of set place method locals callers outer = record { set = set; method = place; names = names_in set.x method; locals = locals; pending = []; callers = callers; outer = outer }

abbrev pub function_site : Setting → ℕ → Method → RegionFunction → List Frame → List (List Value) → Site
function_site set place method f callers outer = site_of set place method (map bare f.locals) callers outer

-- the type of what a method returns, none for void
abbrev pub HasResult : BareType → Option FundamentalType → Type 0
HasResult of None = of ≡ type.Void
HasResult of (Some t) = core_type t ≡ of

pub record Compiled (set : Setting) (tokens : Tokens) (f : RegionFunction) (place : ℕ) : Type 0 where
  pub method : Method
  pub is : slice_get set.x.methods place ≡ Some method
  -- the parameters, and the variables behind them
  pub front : List CoreType
  pub back : List CoreType
  pub parts : f.locals ≡ front ++ back
  pub front_types : List FundamentalType
  pub back_types : List FundamentalType
  pub front_typed : map core_type front_types ≡ map bare front
  pub back_typed : map core_type back_types ≡ map bare back
  pub parameters : method.parameters ≡ map Some front_types
  pub locals : method.locals ≡ back_types
  pub result : HasResult (bare f.result) method.result
  pub code : (callers : List Frame) (outer : List (List Value)) → HasAt (function_site set place method f callers outer) 0 (function_instructions tokens (length front) f)
  pub fit : IsFit set.classes (map bare f.locals) (bare f.result) [] (region_of f.body)
  pub small : IsSmallRegion (region_of f.body)
  pub few : length f.locals < 2 ^ 16
  pub size : function_size f < 2 ^ 31

-- a function that is called, with arguments of these types and a result of this type
pub record Called (set : Setting) (functions : List RegionFunction) (tokens : Tokens) (method : MethodId) (given : List BareType) (result : BareType) : Type 0 where
  pub f : RegionFunction
  pub found : function_for method functions ≡ Some f
  pub place : ℕ
  pub compiled : Compiled set tokens f place
  pub token : (caller : Method) (next : ℕ) → resolve (names_in set.x caller) next (call tokens Direct method.0) ≡ Some (does.Call place)
  pub given_is : given ≡ map bare compiled.front
  pub result_is : bare f.result ≡ result

pub record CompiledProgram (set : Setting) (functions : List RegionFunction) (tokens : Tokens) : Type 0 where
  pub quiet : Quiet set
  pub members : (caller : Method) (member : LibraryCall) (next : ℕ) → resolve (names_in set.x caller) next (the.Call (library_token tokens member)) ≡ Some (does.CallLibrary member)
  pub called : (method : MethodId) (given : List BareType) (result : BareType) → IsCallable set.classes method given result → Called set functions tokens method given result
