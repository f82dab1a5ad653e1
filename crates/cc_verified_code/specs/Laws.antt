-- What holds of the code of each function (ECMA-335, III.1.7 and III.1.8).
use Rattle.std.specs.Prelude.{◌≡◌, ℕ, ◌+◌, ◌<◌, ◌≤◌, ◌^◌, List, [], ◌∷◌, map, take, drop, length, None}
use Rattle.cc_cil.specs.declared.instruction.Instruction.{Instruction}
use Rattle.cc_core.specs.declared.types.ClassInfo.{ClassInfo}
use Rattle.cc_core.specs.Types.{bare}
use Rattle.cc_region.specs.declared.tree.RegionFunction.{RegionFunction}
use Rattle.cc_region.specs.Typed.{IsFunction}
use Rattle.cc_code.specs.declared.tokens.Tokens.{Tokens}
use Rattle.cc_code.specs.Functions.{function_instructions, function_size, function_height}
use Rattle.cc_code.specs.Instructions.{width, bytes}
use Rattle.cc_verify.specs.declared.environment.Environment.{Environment}
use Rattle.cc_verify.specs.declared.environment.Frame.{Frame}
use Rattle.cc_verify.specs.declared.method.Method.{Method}
use Rattle.cc_verify.specs.declared.places.Place.{Place}
use Rattle.cc_verify.specs.Rules.{CodeVerdict}
use Rattle.cc_verified_code.specs.Kinds.{kind, parameter_kind, result_kind, IsResult, HasMethods}

-- the places of instructions that stand one after another
abbrev pub code_places : ℕ → List Instruction → List Place
code_places lo [] = []
code_places lo (i ∷ code) = record { at = lo; instruction = i; next = lo + width i } ∷ code_places (lo + width i) code

-- a method with this code and without clauses
abbrev pub method_with_code : Environment → Frame → ℕ → List Instruction → Method
method_with_code e f most code = record { environment = e; frame = f; clauses = []; places = code_places 0 code; most = most; size = bytes code }

-- the variables of a method are those of a function, of which so many are parameters
pub record IsFrameOf (f : Frame) (function : RegionFunction) (parameters : ℕ) : Type 0 where
  pub arguments : f.arguments ≡ map parameter_kind (take parameters (map bare function.locals))
  pub locals : f.locals ≡ map kind (drop parameters (map bare function.locals))
  pub result : f.result ≡ result_kind (bare function.result)

-- the code breaks none of the verifier's rules on code
abbrev pub KeepsTheRules : Environment → Frame → ℕ → List Instruction → Type 0
KeepsTheRules e f most code = CodeVerdict (method_with_code e f most code) (bytes code) [] None (code_places 0 code) None

-- so does the code of each function that is well typed and fit, where its tokens name methods of the types of what it calls, its result is a number or nothing, and its size, its variables and its stack are within their limits
abbrev pub FunctionsKeepTheRules : Type 0
FunctionsKeepTheRules =
    (e : Environment) (classes : List ClassInfo) (tokens : Tokens) (f : Frame) (parameters most : ℕ) (function : RegionFunction) → HasMethods e classes tokens → IsFunction classes function → IsResult (bare function.result)
    → IsFrameOf f function parameters → length function.locals < 2 ^ 16 → function_size function < 2 ^ 31 → function_height function ≤ most → KeepsTheRules e f most (function_instructions tokens parameters function)
