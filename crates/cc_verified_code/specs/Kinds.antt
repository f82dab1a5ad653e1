-- What the types of a program are to the verifier (ECMA-335, III.1.1).
--   kind of                the type on the evaluation stack of a number of a type
--   behind of s            the stack behind an expression of a type
--   HasMethods ..          the tokens name methods with these types
--   HasVariables ..        the indexes name the variables of a function, of which so many are parameters
use Rattle.std.specs.Prelude.{◌≡◌, ℕ, ◌-◌, Bool, true, false, List, [], ◌∷◌, map, nat_lt, slice_get, slice_index, Option, Some, None, ⊤}
use Rattle.cc_base.specs.declared.identifiers.MethodId.{MethodId}
use Rattle.cc_core.specs.declared.library_call.LibraryCall.{LibraryCall}
use Rattle.cc_core.specs.declared.types.ClassInfo.{ClassInfo}
use Rattle.cc_core.specs.Numbers.{is_wide}
use Rattle.cc_core.specs.Typed.{IsNumber, AreNumbers, IsCallable, taken_by}
use Rattle.cc_core.specs.Types as type
use Rattle.cc_core.specs.Types.{BareType}
use Rattle.cc_code.specs.declared.tokens.Tokens.{Tokens}
use Rattle.cc_code.specs.Operators.{index}
use Rattle.cc_code.specs.Terms.{library_token}
use Rattle.cc_verify.specs.declared.environment.Environment.{Environment}
use Rattle.cc_verify.specs.declared.environment.Frame.{Frame}
use Rattle.cc_verify.specs.declared.environment.MethodType.{MethodType}
use Rattle.cc_verify.specs.declared.stack_type.StackType.{StackType}
use Rattle.cc_verify.specs.declared.stack_type.StackType.TheVariants.{Int32, Int64}
use Rattle.cc_verify.specs.Transitions.{Stack, method_of}

-- an integer of 64 bits, or of 32
abbrev pub integer : Bool → StackType
integer true = Int64
integer false = Int32

abbrev pub kind : BareType → StackType
kind of = integer (is_wide of)

-- nothing is left by an expression of the type `void`
abbrev pub behind : BareType → Stack → Stack
behind type.Void s = s
behind of s = kind of ∷ s

-- behind expressions, from left to right
abbrev pub behind_all : List BareType → Stack → Stack
behind_all [] s = s
behind_all (of ∷ types) s = behind_all types (behind of s)

-- ---- methods

abbrev pub result_kind : BareType → Option StackType
result_kind type.Void = None
result_kind of = Some (kind of)

abbrev pub parameter_kind : BareType → Option StackType
parameter_kind of = Some (kind of)

abbrev pub method_type : List BareType → BareType → MethodType
method_type parameters result = record { parameters = map parameter_kind parameters; result = result_kind result }

-- a number or nothing is returned
abbrev pub IsResult : BareType → Type 0
IsResult type.Void = ⊤
IsResult of = IsNumber of

pub record HasMethod (e : Environment) (token : ℕ) (parameters : List BareType) (result : BareType) : Type 0 where
  pub numbers : AreNumbers parameters
  pub number : IsResult result
  pub is : method_of e token ≡ Some (method_type parameters result)

pub record HasMethods (e : Environment) (classes : List ClassInfo) (tokens : Tokens) : Type 0 where
  pub functions : (method : MethodId) (given : List BareType) (result : BareType) → IsCallable classes method given result → HasMethod e (slice_index tokens.functions method.0) given result
  pub members : (call : LibraryCall) → HasMethod e (library_token tokens call) (taken_by call) type.Void

-- ---- variables

pub record HasVariables (f : Frame) (locals : List BareType) (parameters : ℕ) : Type 0 where
  pub numbers : (x : ℕ) (of : BareType) → slice_get locals x ≡ Some of → IsNumber of
  pub arguments : (x : ℕ) (of : BareType) → slice_get locals x ≡ Some of → nat_lt x parameters ≡ true → slice_get f.arguments (index x) ≡ Some (Some (kind of))
  pub own : (x : ℕ) (of : BareType) → slice_get locals x ≡ Some of → nat_lt x parameters ≡ false → slice_get f.locals (index (x - parameters)) ≡ Some (kind of)
