-- The values of types, and what code leaves of them on the evaluation stack (ECMA-335, I.12.1.2).
--   IsOf type v          a value of the type: of a number the low bits that the type has, widened by its sign
--   AreOf types vs       one of each type
--   pushed type v stack  the stack with the value on it; `void` has none
use Rattle.std.specs.Prelude.{◌≡◌, ◌⊎◌, ℕ, ◌<◌, ◌^◌, List, [], ◌∷◌, Bool, ⊤}
use Rattle.std.specs.Int.{w8, w16, w32, cast_signed, cast_unsigned}
use Rattle.cc_core.specs.declared.world.Value.{Value, Int32, Int64}
use Rattle.cc_base.specs.declared.identifiers.ClassId.{ClassId}
use Rattle.cc_core.specs.declared.state.Computed.{Computed}
use Rattle.cc_core.specs.declared.state.Computed.TheVariants.{Gives, Throws}
use Rattle.cc_core.specs.Numbers.{truth, DivideByZero, Arithmetic}
use Rattle.cc_core.specs.Types as type
use Rattle.cc_core.specs.Types.{BareType}

-- 32 bits below a bound
abbrev pub IsBelow : ℕ → Value → Type 0
IsBelow bound v = (n : ℕ) × (n < bound) × (v ≡ Int32 n)

abbrev pub IsOf : BareType → Value → Type 0
IsOf type.Void v = ⊤
IsOf type.Bool v = (b : Bool) × (v ≡ Int32 (truth b))
IsOf type.Char v = IsBelow (2 ^ 16) v
IsOf type.I8 v = (n : ℕ) × (n < 2 ^ 8) × (v ≡ Int32 (cast_unsigned w32 (cast_signed w8 n)))
IsOf type.U8 v = IsBelow (2 ^ 8) v
IsOf type.I16 v = (n : ℕ) × (n < 2 ^ 16) × (v ≡ Int32 (cast_unsigned w32 (cast_signed w16 n)))
IsOf type.U16 v = IsBelow (2 ^ 16) v
IsOf type.I32 v = IsBelow (2 ^ 32) v
IsOf type.U32 v = IsBelow (2 ^ 32) v
IsOf type.I64 v = (n : ℕ) × (v ≡ Int64 n)
IsOf type.U64 v = (n : ℕ) × (v ≡ Int64 n)
IsOf _ v = ⊥

abbrev pub AreOf : List BareType → List Value → Type 0
AreOf [] [] = ⊤
AreOf [] (v ∷ vs) = ⊥
AreOf (of ∷ types) [] = ⊥
AreOf (of ∷ types) (v ∷ vs) = IsOf of v × AreOf types vs

abbrev pub pushed : BareType → Value → List Value → List Value
pushed type.Void v stack = stack
pushed _ v stack = v ∷ stack

-- the values of arguments, the first deepest
abbrev pub pushed_each : List Value → List Value → List Value
pushed_each [] stack = stack
pushed_each (v ∷ vs) stack = pushed_each vs (v ∷ stack)

-- the exceptions that a division throws
abbrev pub IsArithmetic : ClassId → Type 0
IsArithmetic class = (class ≡ DivideByZero) ⊎ (class ≡ Arithmetic)

-- an operator gave a value of the type, or one of those exceptions
abbrev pub FitsComputed : BareType → Computed → Type 0
FitsComputed of (Gives v) = IsOf of v
FitsComputed of (Throws class) = IsArithmetic class
