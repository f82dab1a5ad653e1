-- Numbers as the bits that the evaluation stack holds (ECMA-335, I.12.1.2), and what conversions and operators make of them
-- (ECMA-372, 14 and 15; C++, 4.5 to 4.7, 4.12 and 5; ECMA-335, III.1.5).
use Rattle.std.specs.Prelude.{ℕ, ◌+◌, ◌-◌, ◌*◌, ◌/◌, ◌%◌, ◌^◌, Bool, true, false, ◌&&◌, not, Option, Some, None, nat_eq, nat_lt, int_lt, bit_and, bit_or, bit_xor, int_div, int_rem, if◌then◌else◌}
use Rattle.std.specs.Int.{Width, w8, w16, w32, w64, cast_signed, cast_unsigned, int_shr}
use Rattle.cc_base.specs.declared.identifiers.ClassId.{ClassId}
use Rattle.cc_core.specs.declared.types.Operator.{Operator}
use Rattle.cc_core.specs.declared.types.Operator.TheVariants as op
use Rattle.cc_core.specs.declared.types.UnaryOperator.{UnaryOperator}
use Rattle.cc_core.specs.declared.types.UnaryOperator.TheVariants as unary
use Rattle.cc_core.specs.declared.world.Value.{Value, Int32, Int64, Object, Literal}
use Rattle.cc_core.specs.declared.state.Computed.{Computed}
use Rattle.cc_core.specs.declared.state.Computed.TheVariants.{Gives, Throws}
use Rattle.cc_core.specs.Types as type
use Rattle.cc_core.specs.Types.{BareType}

-- a type of 64 bits
abbrev pub is_wide : BareType → Bool
is_wide type.I64 = true
is_wide type.U64 = true
is_wide _ = false

-- a type of numbers with a sign; an enum has int beneath it
abbrev pub is_signed : BareType → Bool
is_signed type.I8 = true
is_signed type.I16 = true
is_signed type.I32 = true
is_signed type.I64 = true
is_signed (type.Enum of) = true
is_signed _ = false

abbrev pub width : Bool → Width
width true = w64
width false = w32

-- how many bits those are
abbrev pub size : Bool → ℕ
size true = 64
size false = 32

-- a value of 64 bits, or of 32
abbrev pub number : Bool → ℕ → Value
number true n = Int64 n
number false n = Int32 n

abbrev pub truth : Bool → ℕ
truth true = 1
truth false = 0

-- ---- conversions

-- a number in 64 bits, widened by its sign where its type has one
abbrev pub widened : BareType → Value → Option ℕ
widened from (Int32 n) = Some (if is_signed from then cast_unsigned w64 (cast_signed w32 n) else n)
widened from (Int64 n) = Some n
widened from _ = None

-- what is left of 64 bits at a type: its low bits, and at bool whether there is one
abbrev pub narrowed : BareType → ℕ → Option Value
narrowed type.Bool n = Some (Int32 (truth (not (nat_eq n 0))))
narrowed type.Char n = Some (Int32 (n % 2 ^ 16))
narrowed type.I8 n = Some (Int32 (cast_unsigned w32 (cast_signed w8 (n % 2 ^ 8))))
narrowed type.U8 n = Some (Int32 (n % 2 ^ 8))
narrowed type.I16 n = Some (Int32 (cast_unsigned w32 (cast_signed w16 (n % 2 ^ 16))))
narrowed type.U16 n = Some (Int32 (n % 2 ^ 16))
narrowed type.I32 n = Some (Int32 (n % 2 ^ 32))
narrowed type.U32 n = Some (Int32 (n % 2 ^ 32))
narrowed (type.Enum of) n = Some (Int32 (n % 2 ^ 32))
narrowed type.I64 n = Some (Int64 n)
narrowed type.U64 n = Some (Int64 n)
narrowed _ n = None

abbrev pub narrowed_if : BareType → Option ℕ → Option Value
narrowed_if to None = None
narrowed_if to (Some n) = narrowed to n

-- a number of the first type as one of the second
abbrev pub converted : BareType → BareType → Value → Option Value
converted from to v = narrowed_if to (widened from v)

-- ---- operators

abbrev pub gives_truth : Bool → Computed
gives_truth b = Gives (Int32 (truth b))

abbrev pub DivideByZero : ClassId
DivideByZero = record { 0 = 20 }

abbrev pub Arithmetic : ClassId
Arithmetic = record { 0 = 19 }

-- the first is less than the second
abbrev pub is_less : Bool → Bool → ℕ → ℕ → Bool
is_less wide true a b = int_lt (cast_signed (width wide) a) (cast_signed (width wide) b)
is_less wide false a b = nat_lt a b

-- the least number with a sign, divided by -1, is no number of its type
abbrev pub overflows : Bool → Bool → ℕ → ℕ → Bool
overflows wide true a b = nat_eq a (2 ^ (size wide - 1)) && nat_eq b (2 ^ size wide - 1)
overflows wide false a b = false

-- the quotient, towards zero, and the remainder, which has the sign of the first
abbrev pub quotient : Bool → Bool → ℕ → ℕ → ℕ
quotient wide true a b = cast_unsigned (width wide) (int_div (cast_signed (width wide) a) (cast_signed (width wide) b))
quotient wide false a b = a / b

abbrev pub remainder : Bool → Bool → ℕ → ℕ → ℕ
remainder wide true a b = cast_unsigned (width wide) (int_rem (cast_signed (width wide) a) (cast_signed (width wide) b))
remainder wide false a b = a % b

-- a quotient or a remainder, where there is one
abbrev pub divided : Bool → Bool → ℕ → ℕ → ℕ → Computed
divided wide signed a b n =
    if nat_eq b 0 then Throws DivideByZero
    else if overflows wide signed a b then Throws Arithmetic
    else Gives (number wide n)

-- a shift by the low bits of its count; to the right a number with a sign keeps it
abbrev pub shifted_left : Bool → ℕ → ℕ → ℕ
shifted_left wide a count = (a * 2 ^ (count % size wide)) % 2 ^ size wide

abbrev pub shifted_right : Bool → Bool → ℕ → ℕ → ℕ
shifted_right wide true a count = cast_unsigned (width wide) (int_shr (cast_signed (width wide) a) (count % size wide))
shifted_right wide false a count = a / 2 ^ (count % size wide)

-- an operator on two numbers of one type, of 64 bits or of 32, with a sign or without
abbrev pub compute : Bool → Bool → Operator → ℕ → ℕ → Computed
compute wide signed op.Add a b = Gives (number wide ((a + b) % 2 ^ size wide))
compute wide signed op.Subtract a b = Gives (number wide ((a + (2 ^ size wide - b)) % 2 ^ size wide))
compute wide signed op.Multiply a b = Gives (number wide (a * b % 2 ^ size wide))
compute wide signed op.Divide a b = divided wide signed a b (quotient wide signed a b)
compute wide signed op.Remainder a b = divided wide signed a b (remainder wide signed a b)
compute wide signed op.And a b = Gives (number wide (bit_and a b))
compute wide signed op.Or a b = Gives (number wide (bit_or a b))
compute wide signed op.ExclusiveOr a b = Gives (number wide (bit_xor a b))
compute wide signed op.ShiftLeft a b = Gives (number wide (shifted_left wide a b))
compute wide signed op.ShiftRight a b = Gives (number wide (shifted_right wide signed a b))
compute wide signed op.Equal a b = gives_truth (nat_eq a b)
compute wide signed op.NotEqual a b = gives_truth (not (nat_eq a b))
compute wide signed op.Less a b = gives_truth (is_less wide signed a b)
compute wide signed op.Greater a b = gives_truth (is_less wide signed b a)
compute wide signed op.LessOrEqual a b = gives_truth (not (is_less wide signed b a))
compute wide signed op.GreaterOrEqual a b = gives_truth (not (is_less wide signed a b))

abbrev pub is_shift : Operator → Bool
is_shift op.ShiftLeft = true
is_shift op.ShiftRight = true
is_shift _ = false

-- An operator on two values, of which the left one has this type. The count of a shift may be of another width.
abbrev pub computed : BareType → Operator → Value → Value → Option Computed
computed type operator (Int32 a) (Int32 b) = Some (compute false (is_signed type) operator a b)
computed type operator (Int64 a) (Int64 b) = Some (compute true (is_signed type) operator a b)
computed type operator (Int32 a) (Int64 b) = if is_shift operator then Some (compute false (is_signed type) operator a b) else None
computed type operator (Int64 a) (Int32 b) = if is_shift operator then Some (compute true (is_signed type) operator a b) else None
computed type operator _ _ = None

-- a condition holds: a number that is not zero, or a handle that is not null
abbrev pub is_true : Value → Bool
is_true (Int32 n) = not (nat_eq n 0)
is_true (Int64 n) = not (nat_eq n 0)
is_true (Object at) = true
is_true (Literal text) = true
is_true _ = false

abbrev pub compute_alone : Bool → UnaryOperator → ℕ → Value
compute_alone wide unary.Negate n = number wide ((2 ^ size wide - n) % 2 ^ size wide)
compute_alone wide unary.Complement n = number wide (2 ^ size wide - 1 - n)
compute_alone wide unary.Not n = Int32 (truth (nat_eq n 0))

-- an operator on one value
abbrev pub computed_alone : UnaryOperator → Value → Option Value
computed_alone operator (Int32 n) = Some (compute_alone false operator n)
computed_alone operator (Int64 n) = Some (compute_alone true operator n)
computed_alone operator _ = None

-- what a variable of a type holds at first
abbrev pub zero_of : BareType → Option Value
zero_of type = narrowed type 0
