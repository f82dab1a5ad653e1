-- What the machine does at each instruction (ECMA-335, III.3 and III.4), with the tokens and the target that it names resolved.
--   resolve names next i   the operation of an instruction behind which the next one begins, where the machine has it
use Rattle.std.specs.Prelude.{ℕ, zero, suc, map, ◌+◌, ◌/◌, ◌%◌, ◌^◌, ◌==◌, ℤ, pos, negsuc, ◌+ℤ◌, Bool, true, false, List, [], ◌∷◌, length, slice_get, Option, Some, None, option_map, if◌then◌else◌}
use Rattle.std.specs.Int.{w32, w64, cast_unsigned}
use Rattle.cc_cil.specs.declared.instruction.Instruction.{Instruction}
use Rattle.cc_cil.specs.declared.instruction.Instruction.TheVariants as the
use Rattle.cc_core.specs.declared.types.Operator.{Operator}
use Rattle.cc_core.specs.declared.types.Operator.TheVariants as op
use Rattle.cc_core.specs.declared.types.UnaryOperator.TheVariants as unary
use Rattle.cc_execution.specs.declared.operation.FundamentalType.{FundamentalType}
use Rattle.cc_execution.specs.declared.operation.FundamentalType.TheVariants as to
use Rattle.cc_execution.specs.declared.operation.Operation.{Operation}
use Rattle.cc_execution.specs.declared.operation.Operation.TheVariants as does
use Rattle.cc_core.specs.declared.library_call.LibraryCall.{LibraryCall}
use Rattle.cc_execution.specs.declared.executable.Executable.{Executable}
use Rattle.cc_execution.specs.declared.executable.Method.{Method}

-- What the operands of a method's instructions name: methods, of which the types of the parameters are told, members of the library, and variables.
pub record Names : Type 0 where
  pub methods : List (List (Option FundamentalType))
  pub references : List LibraryCall
  pub parameters : List (Option FundamentalType)
  pub locals : List FundamentalType

abbrev pub names_in : Executable → Method → Names
names_in x m = record { methods = map (λ (other : Method). other.parameters) x.methods; references = x.references; parameters = m.parameters; locals = m.locals }

-- ---- variables: the arguments that operations load, and then the local variables

abbrev pub with_type : Option FundamentalType → List FundamentalType → List FundamentalType
with_type None types = types
with_type (Some t) types = t ∷ types

-- the types of the parameters that operations load
abbrev pub loaded : List (Option FundamentalType) → List FundamentalType
loaded [] = []
loaded (p ∷ parameters) = with_type p (loaded parameters)

-- the place and the type of an argument, where so many variables stand before these
abbrev pub argument_from : ℕ → List (Option FundamentalType) → ℕ → Option (ℕ × FundamentalType)
argument_from place [] n = None
argument_from place (None ∷ parameters) zero = None
argument_from place (Some t ∷ parameters) zero = Some (place, t)
argument_from place (None ∷ parameters) (suc n) = argument_from place parameters n
argument_from place (Some t ∷ parameters) (suc n) = argument_from (suc place) parameters n

abbrev pub argument : Names → ℕ → Option (ℕ × FundamentalType)
argument names n = argument_from 0 names.parameters n

abbrev pub local : Names → ℕ → Option (ℕ × FundamentalType)
local names n = option_map (λ t. (length (loaded names.parameters) + n, t)) (slice_get names.locals n)

abbrev pub load : Option (ℕ × FundamentalType) → Option Operation
load variable = option_map (λ v. does.LoadVariable v.0) variable

abbrev pub store : Option (ℕ × FundamentalType) → Option Operation
store variable = option_map (λ v. does.StoreVariable v.0 v.1) variable

-- ---- tokens (III.1.9): the table in the highest byte, and below it the row, counted from 1

abbrev pub table_of : ℕ → ℕ
table_of token = token / 2 ^ 24

abbrev pub row_of : ℕ → ℕ
row_of token = token % 2 ^ 24

abbrev pub at_row : {A : Type 0} → List A → ℕ → Option A
at_row rows zero = None
at_row rows (suc n) = slice_get rows n

abbrev pub are_loaded : List (Option FundamentalType) → Bool
are_loaded [] = true
are_loaded (None ∷ parameters) = false
are_loaded (Some t ∷ parameters) = are_loaded parameters

-- a method whose parameters are all of types that operations load
abbrev pub call_method : Option (List (Option FundamentalType)) → ℕ → Option Operation
call_method None n = None
call_method (Some parameters) n = if are_loaded parameters then Some (does.Call n) else None

abbrev pub call_defined : Names → ℕ → Option Operation
call_defined names zero = None
call_defined names (suc n) = call_method (slice_get names.methods n) n

abbrev pub call : Names → ℕ → Option Operation
call names token =
    if table_of token == 0x06 then call_defined names (row_of token)
    else if table_of token == 0x0A then option_map does.CallLibrary (at_row names.references (row_of token))
    else None

-- ---- targets, which are counted from the next instruction on

-- a place of the code, where it does not lie before the code
abbrev pub natural : ℤ → Option ℕ
natural (pos n) = Some n
natural (negsuc n) = None

abbrev pub target : ℕ → ℤ → Option ℕ
target next offset = natural (pos next +ℤ offset)

abbrev pub branch : ℕ → ℤ → Option Operation
branch next offset = option_map does.Branch (target next offset)

abbrev pub branch_if : Bool → ℕ → ℤ → Option Operation
branch_if truth next offset = option_map (does.BranchIf truth) (target next offset)

abbrev pub branch_compare : Operator → Bool → ℕ → ℤ → Option Operation
branch_compare operator is_signed next offset = option_map (does.BranchCompare operator is_signed) (target next offset)

abbrev pub leave : ℕ → ℤ → Option Operation
leave next offset = option_map does.Leave (target next offset)

-- ---- the table: addresses, objects, strings, arrays and virtual calls are still to come

abbrev pub resolve : Names → ℕ → Instruction → Option Operation
resolve names next the.Nop = Some does.Nothing
resolve names next the.LoadArgument0 = load (argument names 0)
resolve names next the.LoadArgument1 = load (argument names 1)
resolve names next the.LoadArgument2 = load (argument names 2)
resolve names next the.LoadArgument3 = load (argument names 3)
resolve names next (the.LoadArgumentShort n) = load (argument names n)
resolve names next (the.LoadArgument n) = load (argument names n)
resolve names next the.LoadLocal0 = load (local names 0)
resolve names next the.LoadLocal1 = load (local names 1)
resolve names next the.LoadLocal2 = load (local names 2)
resolve names next the.LoadLocal3 = load (local names 3)
resolve names next (the.LoadLocalShort n) = load (local names n)
resolve names next (the.LoadLocal n) = load (local names n)
resolve names next the.StoreLocal0 = store (local names 0)
resolve names next the.StoreLocal1 = store (local names 1)
resolve names next the.StoreLocal2 = store (local names 2)
resolve names next the.StoreLocal3 = store (local names 3)
resolve names next (the.StoreLocalShort n) = store (local names n)
resolve names next (the.StoreLocal n) = store (local names n)
resolve names next (the.StoreArgumentShort n) = store (argument names n)
resolve names next (the.StoreArgument n) = store (argument names n)
resolve names next the.LoadNull = Some does.PushNull
resolve names next the.LoadIntMinus1 = Some (does.PushInt32 0xFFFFFFFF)
resolve names next the.LoadInt0 = Some (does.PushInt32 0)
resolve names next the.LoadInt1 = Some (does.PushInt32 1)
resolve names next the.LoadInt2 = Some (does.PushInt32 2)
resolve names next the.LoadInt3 = Some (does.PushInt32 3)
resolve names next the.LoadInt4 = Some (does.PushInt32 4)
resolve names next the.LoadInt5 = Some (does.PushInt32 5)
resolve names next the.LoadInt6 = Some (does.PushInt32 6)
resolve names next the.LoadInt7 = Some (does.PushInt32 7)
resolve names next the.LoadInt8 = Some (does.PushInt32 8)
resolve names next (the.LoadIntShort n) = Some (does.PushInt32 (cast_unsigned w32 n))
resolve names next (the.LoadInt n) = Some (does.PushInt32 (cast_unsigned w32 n))
resolve names next (the.LoadLong n) = Some (does.PushInt64 (cast_unsigned w64 n))
resolve names next the.Duplicate = Some does.Duplicate
resolve names next the.Pop = Some does.Pop
resolve names next (the.Call token) = call names token
resolve names next the.Return = Some does.Return
resolve names next (the.BranchShort n) = branch next n
resolve names next (the.BranchFalseShort n) = branch_if false next n
resolve names next (the.BranchTrueShort n) = branch_if true next n
resolve names next (the.Branch n) = branch next n
resolve names next (the.BranchFalse n) = branch_if false next n
resolve names next (the.BranchTrue n) = branch_if true next n
resolve names next (the.BranchEqual n) = branch_compare op.Equal true next n
resolve names next (the.BranchGreaterEqual n) = branch_compare op.GreaterOrEqual true next n
resolve names next (the.BranchGreater n) = branch_compare op.Greater true next n
resolve names next (the.BranchLessEqual n) = branch_compare op.LessOrEqual true next n
resolve names next (the.BranchLess n) = branch_compare op.Less true next n
resolve names next (the.BranchNotEqual n) = branch_compare op.NotEqual false next n
resolve names next (the.BranchGreaterEqualUnsigned n) = branch_compare op.GreaterOrEqual false next n
resolve names next (the.BranchGreaterUnsigned n) = branch_compare op.Greater false next n
resolve names next (the.BranchLessEqualUnsigned n) = branch_compare op.LessOrEqual false next n
resolve names next (the.BranchLessUnsigned n) = branch_compare op.Less false next n
resolve names next the.Add = Some (does.Compute op.Add true)
resolve names next the.Subtract = Some (does.Compute op.Subtract true)
resolve names next the.Multiply = Some (does.Compute op.Multiply true)
resolve names next the.Divide = Some (does.Compute op.Divide true)
resolve names next the.DivideUnsigned = Some (does.Compute op.Divide false)
resolve names next the.Remainder = Some (does.Compute op.Remainder true)
resolve names next the.RemainderUnsigned = Some (does.Compute op.Remainder false)
resolve names next the.And = Some (does.Compute op.And true)
resolve names next the.Or = Some (does.Compute op.Or true)
resolve names next the.Xor = Some (does.Compute op.ExclusiveOr true)
resolve names next the.ShiftLeft = Some (does.Compute op.ShiftLeft true)
resolve names next the.ShiftRight = Some (does.Compute op.ShiftRight true)
resolve names next the.ShiftRightUnsigned = Some (does.Compute op.ShiftRight false)
resolve names next the.Negate = Some (does.ComputeAlone unary.Negate)
resolve names next the.Not = Some (does.ComputeAlone unary.Complement)
resolve names next the.ConvertI1 = Some (does.Convert to.I1)
resolve names next the.ConvertI2 = Some (does.Convert to.I2)
resolve names next the.ConvertI4 = Some (does.Convert to.I4)
resolve names next the.ConvertI8 = Some (does.Convert to.I8)
resolve names next the.ConvertU4 = Some (does.Convert to.U4)
resolve names next the.ConvertU8 = Some (does.Convert to.U8)
resolve names next the.ConvertU2 = Some (does.Convert to.U2)
resolve names next the.ConvertU1 = Some (does.Convert to.U1)
resolve names next the.Throw = Some does.Throw
resolve names next the.Rethrow = Some does.Rethrow
resolve names next the.EndFinally = Some does.EndFinally
resolve names next (the.Leave n) = leave next n
resolve names next (the.LeaveShort n) = leave next n
resolve names next the.CompareEqual = Some (does.Compute op.Equal true)
resolve names next the.CompareGreater = Some (does.Compute op.Greater true)
resolve names next the.CompareGreaterUnsigned = Some (does.Compute op.Greater false)
resolve names next the.CompareLess = Some (does.Compute op.Less true)
resolve names next the.CompareLessUnsigned = Some (does.Compute op.Less false)
resolve names next (the.LoadArgumentAddressShort n) = None
resolve names next (the.LoadArgumentAddress n) = None
resolve names next (the.LoadLocalAddressShort n) = None
resolve names next (the.LoadLocalAddress n) = None
resolve names next (the.CallVirtual n) = None
resolve names next (the.NewObject n) = None
resolve names next (the.LoadObject n) = None
resolve names next (the.StoreObject n) = None
resolve names next (the.InitializeObject n) = None
resolve names next (the.LoadString n) = None
resolve names next (the.CastClass n) = None
resolve names next (the.IsInstance n) = None
resolve names next (the.LoadField n) = None
resolve names next (the.LoadFieldAddress n) = None
resolve names next (the.StoreField n) = None
resolve names next (the.LoadStaticField n) = None
resolve names next (the.LoadStaticFieldAddress n) = None
resolve names next (the.StoreStaticField n) = None
resolve names next (the.Box n) = None
resolve names next (the.UnboxAny n) = None
resolve names next (the.NewArray n) = None
resolve names next (the.LoadElementAddress n) = None
resolve names next (the.LoadElement n) = None
resolve names next (the.StoreElement n) = None
resolve names next (the.LoadFunction n) = None
resolve names next (the.Constrained n) = None
resolve names next the.LoadLength = None
