-- What operators and conversions make of values on the evaluation stack (ECMA-335, III.1.5), by the definitions of the core of the language.
use Rattle.std.specs.Prelude.{Bool, true, false, not, Option, Some, None, nat_eq, if◌then◌else◌}
use Rattle.std.specs.Str.{bytes_eq}
use Rattle.cc_core.specs.declared.state.Computed.{Computed}
use Rattle.cc_core.specs.declared.types.Operator.{Operator}
use Rattle.cc_core.specs.declared.types.Operator.TheVariants as op
use Rattle.cc_core.specs.declared.world.Value.{Value, Int32, Int64, Null, Object, Literal}
use Rattle.cc_core.specs.Types.{BareType}
use Rattle.cc_core.specs.Types as type
use Rattle.cc_core.specs.Numbers.{compute, converted, gives_truth, is_shift}
use Rattle.cc_execution.specs.declared.operation.FundamentalType.{FundamentalType}
use Rattle.cc_execution.specs.declared.operation.FundamentalType.TheVariants as the
use Rattle.cc_execution.specs.Fundamental.{core_type}

-- two references are to one object; equal literals are one object
abbrev pub is_same : Value → Value → Option Bool
is_same Null Null = Some true
is_same Null (Object b) = Some false
is_same Null (Literal text) = Some false
is_same (Object a) Null = Some false
is_same (Object a) (Object b) = Some (nat_eq a b)
is_same (Object a) (Literal text) = Some false
is_same (Literal text) Null = Some false
is_same (Literal text) (Object b) = Some false
is_same (Literal text) (Literal other) = Some (bytes_eq text other)
is_same _ _ = None

-- references compare for being equal alone
abbrev pub compared : Operator → Option Bool → Option Computed
compared op.Equal (Some same) = Some (gives_truth same)
compared op.NotEqual (Some same) = Some (gives_truth (not same))
compared _ _ = None

-- an operator on two values, of which the second is on top: two numbers of one width, or a number and the count of a shift
abbrev pub operated : Operator → Bool → Value → Value → Option Computed
operated operator is_signed (Int32 a) (Int32 b) = Some (compute false is_signed operator a b)
operated operator is_signed (Int64 a) (Int64 b) = if is_shift operator then None else Some (compute true is_signed operator a b)
operated operator is_signed (Int64 a) (Int32 b) = if is_shift operator then Some (compute true is_signed operator a b) else None
operated operator is_signed (Int32 a) (Int64 b) = None
operated operator is_signed a b = compared operator (is_same a b)

-- A number is widened by its sign, save where it becomes an int64 without one.
abbrev pub widening : FundamentalType → BareType
widening the.U8 = type.U32
widening _ = type.I32

-- a number as one of a type
abbrev pub conversion : FundamentalType → Value → Option Value
conversion to v = converted (widening to) (core_type to) v
