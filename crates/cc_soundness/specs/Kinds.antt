-- What the types of an executable are to the verifier: the types of values on the evaluation stack (ECMA-335, I.12.1 and III.1.1).
--   kind t            the type on the stack of a value of a fundamental type
--   method_kinds m    the types of a method's parameters and of its result
--   frame_kinds m     those of its variables
use Rattle.std.specs.Prelude.{◌≡◌, List, [], ◌∷◌, map, Option, Some, None, option_map}
use Rattle.cc_core.specs.declared.library_call.LibraryCall.{LibraryCall}
use Rattle.cc_core.specs.declared.library_call.LibraryCall.TheVariants.{Write, WriteLine, WriteEmptyLine}
use Rattle.cc_execution.specs.declared.operation.FundamentalType.{FundamentalType}
use Rattle.cc_execution.specs.declared.operation.FundamentalType.TheVariants.{Boolean, Char, I1, U1, I2, U2, I4, U4, I8, U8}
use Rattle.cc_execution.specs.declared.executable.Executable.{Executable}
use Rattle.cc_execution.specs.declared.executable.Method.{Method}
use Rattle.cc_execution.specs.Step.{printed_type}
use Rattle.cc_verify.specs.declared.stack_type.StackType.{StackType}
use Rattle.cc_verify.specs.declared.stack_type.StackType.TheVariants.{Int32, Int64}
use Rattle.cc_verify.specs.declared.environment.MethodType.{MethodType}
use Rattle.cc_verify.specs.declared.environment.Environment.{Environment}
use Rattle.cc_verify.specs.declared.environment.Frame.{Frame}

abbrev pub kind : FundamentalType → StackType
kind Boolean = Int32
kind Char = Int32
kind I1 = Int32
kind U1 = Int32
kind I2 = Int32
kind U2 = Int32
kind I4 = Int32
kind U4 = Int32
kind I8 = Int64
kind U8 = Int64

-- of parameters; those that no operation loads have none
abbrev pub kinds : List (Option FundamentalType) → List (Option StackType)
kinds types = map (option_map kind) types

abbrev pub method_kinds : Method → MethodType
method_kinds m = record { parameters = kinds m.parameters; result = option_map kind m.result }

-- those of a member of the library
abbrev pub member_kinds : LibraryCall → MethodType
member_kinds (Write of) = record { parameters = Some (kind (printed_type of)) ∷ []; result = None }
member_kinds (WriteLine of) = record { parameters = Some (kind (printed_type of)) ∷ []; result = None }
member_kinds WriteEmptyLine = record { parameters = []; result = None }

abbrev pub frame_kinds : Method → Frame
frame_kinds m = record { arguments = kinds m.parameters; locals = map kind m.locals; result = option_map kind m.result }

-- what tokens stand for in the code of an executable
pub record IsEnvironment (x : Executable) (e : Environment) : Type 0 where
  pub methods : e.methods ≡ map method_kinds x.methods
  pub references : e.references ≡ map member_kinds x.references
