-- The instructions of constants, variables, conversions and operators (ECMA-335, III.1.5 and III.3).
use Rattle.std.specs.Prelude.{ℕ, ◌-◌, ◌%◌, ◌^◌, List, [], ◌∷◌, ◌++◌, Bool, true, false, ◌&&◌, nat_lt, if◌then◌else◌, pos}
use Rattle.std.specs.Int.{w32, w64, cast_signed}
use Rattle.cc_cil.specs.declared.instruction.Instruction.{Instruction}
use Rattle.cc_cil.specs.declared.instruction.Instruction.TheVariants as the
use Rattle.cc_core.specs.declared.tree.UpdateResult.{UpdateResult}
use Rattle.cc_core.specs.declared.tree.UpdateResult.TheVariants.{New, Old}
use Rattle.cc_core.specs.declared.types.Operator.{Operator}
use Rattle.cc_core.specs.declared.types.Operator.TheVariants as op
use Rattle.cc_core.specs.declared.types.UnaryOperator.{UnaryOperator}
use Rattle.cc_core.specs.declared.types.UnaryOperator.TheVariants as unary
use Rattle.cc_core.specs.Types as type
use Rattle.cc_core.specs.Types.{BareType}
use Rattle.cc_core.specs.Numbers.{is_wide, is_signed, is_shift}

-- ---- constants and variables

-- a constant of a type, by its bits
abbrev pub constant : BareType → ℕ → Instruction
constant of n = if is_wide of then the.LoadLong (cast_signed w64 n) else the.LoadInt (cast_signed w32 (n % 2 ^ 32))

abbrev pub zero : BareType → Instruction
zero of = if is_wide of then the.LoadLong (pos 0) else the.LoadInt0

-- The variables of a function are its parameters, which are arguments, and then its local variables (I.12.3.2). An index has two bytes: functions with more variables than these can tell apart have no code that does what they mean.
abbrev pub index : ℕ → ℕ
index n = n % 2 ^ 16

abbrev pub load : ℕ → ℕ → Instruction
load parameters x = if nat_lt x parameters then the.LoadArgument (index x) else the.LoadLocal (index (x - parameters))

abbrev pub store : ℕ → ℕ → Instruction
store parameters x = if nat_lt x parameters then the.StoreArgument (index x) else the.StoreLocal (index (x - parameters))

-- drops the value of a type, of which `void` has none
abbrev pub drop_value : BareType → List Instruction
drop_value type.Void = []
drop_value _ = the.Pop ∷ []

-- The value that stood at a place before an update is kept under the new one, or the new one is kept when it is stored.
abbrev pub keep_old : UpdateResult → List Instruction
keep_old Old = the.Duplicate ∷ []
keep_old New = []

abbrev pub keep_new : UpdateResult → List Instruction
keep_new Old = []
keep_new New = the.Duplicate ∷ []

-- ---- conversions

-- to 64 bits, by the sign of the type
abbrev pub widening : BareType → Instruction
widening from = if is_signed from then the.ConvertI8 else the.ConvertU8

-- a number of the first type as one of the second
abbrev pub conversion : BareType → BareType → List Instruction
conversion from type.Bool = zero from ∷ the.CompareGreaterUnsigned ∷ []
conversion from type.Char = the.ConvertU2 ∷ []
conversion from type.I8 = the.ConvertI1 ∷ []
conversion from type.U8 = the.ConvertU1 ∷ []
conversion from type.I16 = the.ConvertI2 ∷ []
conversion from type.U16 = the.ConvertU2 ∷ []
conversion from type.I32 = the.ConvertI4 ∷ []
conversion from type.U32 = the.ConvertU4 ∷ []
conversion from type.I64 = widening from ∷ []
conversion from type.U64 = widening from ∷ []
conversion from (type.Enum of) = the.ConvertI4 ∷ []
conversion from _ = []

-- ---- operators

-- an operator on two values of a type with a sign or without; `!=` and the two orders with `=` deny what this one gives
abbrev pub operation : Bool → Operator → Instruction
operation signed op.Add = the.Add
operation signed op.Subtract = the.Subtract
operation signed op.Multiply = the.Multiply
operation true op.Divide = the.Divide
operation false op.Divide = the.DivideUnsigned
operation true op.Remainder = the.Remainder
operation false op.Remainder = the.RemainderUnsigned
operation signed op.And = the.And
operation signed op.Or = the.Or
operation signed op.ExclusiveOr = the.Xor
operation signed op.ShiftLeft = the.ShiftLeft
operation true op.ShiftRight = the.ShiftRight
operation false op.ShiftRight = the.ShiftRightUnsigned
operation signed op.Equal = the.CompareEqual
operation signed op.NotEqual = the.CompareEqual
operation true op.Less = the.CompareLess
operation false op.Less = the.CompareLessUnsigned
operation true op.GreaterOrEqual = the.CompareLess
operation false op.GreaterOrEqual = the.CompareLessUnsigned
operation true op.Greater = the.CompareGreater
operation false op.Greater = the.CompareGreaterUnsigned
operation true op.LessOrEqual = the.CompareGreater
operation false op.LessOrEqual = the.CompareGreaterUnsigned

abbrev pub denies : Operator → Bool
denies op.NotEqual = true
denies op.LessOrEqual = true
denies op.GreaterOrEqual = true
denies _ = false

-- not, of what a comparison gives
abbrev pub denial : List Instruction
denial = the.LoadInt0 ∷ the.CompareEqual ∷ []

-- an operator whose left operand has this type
abbrev pub operator_code : BareType → Operator → List Instruction
operator_code of operator = operation (is_signed of) operator ∷ (if denies operator then denial else [])

-- a count of 64 bits of a shift, of which the low bits alone count, as one of 32
abbrev pub count_code : Operator → BareType → List Instruction
count_code operator right = if is_shift operator && is_wide right then the.ConvertI4 ∷ [] else []

abbrev pub unary_code : UnaryOperator → BareType → List Instruction
unary_code unary.Negate of = the.Negate ∷ []
unary_code unary.Complement of = the.Not ∷ []
unary_code unary.Not of = zero of ∷ the.CompareEqual ∷ []

-- a right operand, of the second type, behind a left one of the first type, and the operator
abbrev pub operated : Operator → BareType → BareType → List Instruction → List Instruction
operated operator left right operand = operand ++ (count_code operator right ++ operator_code left operator)

-- behind a value of a place: what an update stores there, by an operator that works in the type `common` and by an operand of the type `right`
abbrev pub changed : BareType → Operator → BareType → UpdateResult → BareType → List Instruction → List Instruction
changed of operator common result right operand = keep_old result ++ (conversion of common ++ (operated operator common right operand ++ (conversion common of ++ keep_new result)))
