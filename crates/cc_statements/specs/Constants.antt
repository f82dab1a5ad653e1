-- Constants: numbers, characters, truth values, and unary and binary operators and casts of constants, but no division by 0 or -1 (ISO/IEC 14882:2003, 5.19). Their values are those that the source meaning gives.
use Rattle.std.specs.Prelude.{ℕ, ◌-◌, ◌^◌, Bool, true, false, ◌&&◌, ◌||◌, ◌==◌, cond, Option, Some, None}
use Rattle.cc_core.specs.declared.state.Computed.{Computed}
use Rattle.cc_core.specs.declared.state.Computed.TheVariants.{Gives, Throws}
use Rattle.cc_core.specs.declared.types.Operator.{Operator}
use Rattle.cc_core.specs.declared.types.Operator.TheVariants as op
use Rattle.cc_core.specs.declared.world.Value.{Value, Int32, Int64}
use Rattle.cc_core.specs.Term as term
use Rattle.cc_core.specs.Term.{Term, type_of}
use Rattle.cc_core.specs.Types.{BareType}
use Rattle.cc_core.specs.Numbers.{converted, computed, computed_alone, is_signed, is_true, truth}
use Rattle.cc_core.specs.Value.{constant}

abbrev pub gives_value : Option Computed → Option Value
gives_value None = None
gives_value (Some (Gives value)) = Some value
gives_value (Some (Throws of)) = None

abbrev pub divides : Operator → Bool
divides op.Divide = true
divides op.Remainder = true
divides _ = false

-- 0, or -1 of a type with a sign
abbrev pub is_edge : Bool → Value → Bool
is_edge signed (Int32 n) = n == 0 || (signed && n == 2 ^ 32 - 1)
is_edge signed (Int64 n) = n == 0 || (signed && n == 2 ^ 64 - 1)
is_edge signed _ = false

abbrev pub operate : BareType → Operator → Option Value → Option Value → Option Value
operate of operator None other = None
operate of operator (Some left) None = None
operate of operator (Some left) (Some right) = cond (divides operator && is_edge (is_signed of) right) None (gives_value (computed of operator left right))

abbrev pub and_then : {A B : Type 0} → Option A → (A → Option B) → Option B
and_then None step = None
and_then (Some a) step = step a

abbrev pub truth_of : Bool → Value
truth_of b = Int32 (truth b)

abbrev pub both : Option Value → Option Value → Option Value
both first second = and_then first (λ v. and_then second (λ u. Some (truth_of (is_true v && is_true u))))

abbrev pub either : Option Value → Option Value → Option Value
either first second = and_then first (λ v. and_then second (λ u. Some (truth_of (is_true v || is_true u))))

-- the value of a typed term that is a constant
abbrev pub constant_value : Term → Option Value
constant_value (term.Number of n) = Some (constant of n)
constant_value (term.Convert of x) = and_then (constant_value x) (converted (type_of x) of)
constant_value (term.Unary of operator x) = and_then (constant_value x) (computed_alone operator)
constant_value (term.Binary of operator left right) = operate (type_of left) operator (constant_value left) (constant_value right)
constant_value (term.And of first second) = both (constant_value first) (constant_value second)
constant_value (term.Or of first second) = either (constant_value first) (constant_value second)
constant_value _ = None

abbrev pub bits : Value → Option ℕ
bits (Int32 n) = Some n
bits (Int64 n) = Some n
bits _ = None
