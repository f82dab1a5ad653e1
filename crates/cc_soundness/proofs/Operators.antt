-- What operators make of values of types that they are allowed.
use Rattle.std.proofs.Common.{◌≡◌, ℕ, ◌<◌, refl, sym, ap, subst, arith, ◌⊎◌, inl, inr}
use Rattle.std.specs.Prelude.{Bool, true, false, Some, None, nat_eq, if◌then◌else◌}
use Rattle.cc_core.specs.declared.state.Computed.{Computed}
use Rattle.cc_core.specs.declared.state.Computed.TheVariants.{Gives, Throws}
use Rattle.cc_core.specs.declared.types.Operator.{Operator}
use Rattle.cc_core.specs.declared.types.Operator.TheVariants as op
use Rattle.cc_core.specs.declared.types.UnaryOperator.{UnaryOperator}
use Rattle.cc_core.specs.declared.types.UnaryOperator.TheVariants as unary
use Rattle.cc_core.specs.declared.world.Value.{Value}
use Rattle.cc_core.specs.declared.world.Value.TheVariants as value
use Rattle.cc_core.specs.Numbers.{number, divided, overflows, quotient, remainder, DivideByZero, Arithmetic, compute, is_shift, computed_alone, compute_alone}
use Rattle.cc_execution.specs.Library.{LIBRARY_CLASSES}
use Rattle.cc_execution.specs.Numbers.{compared, operated, conversion}
use Rattle.cc_execution.specs.declared.operation.FundamentalType.{FundamentalType}
use Rattle.cc_execution.specs.declared.operation.FundamentalType.TheVariants.{Boolean, Char, I1, U1, I2, U2, I4, U4, I8, U8}
use Rattle.cc_verify.specs.declared.stack_type.StackType.{StackType}
use Rattle.cc_verify.specs.declared.stack_type.StackType.TheVariants.{Int32, Int64, Null, Object}
use Rattle.cc_verify.specs.Transitions.{is_integer, same_integer, may_equal, may_shift}
use Rattle.cc_soundness.specs.Kinds.{kind}
use Rattle.cc_soundness.specs.States.{HasType}
use Rattle.cc_soundness.proofs.Values.{int32_is, int64_is, reference_is}

-- ---- which operators compare, and which make a number of their operands' type

abbrev pub is_equality : Operator → Bool
is_equality op.Equal = true
is_equality op.NotEqual = true
is_equality _ = false

abbrev pub is_comparison : Operator → Bool
is_comparison op.Equal = true
is_comparison op.NotEqual = true
is_comparison op.Less = true
is_comparison op.Greater = true
is_comparison op.LessOrEqual = true
is_comparison op.GreaterOrEqual = true
is_comparison _ = false

abbrev pub is_arithmetic : Operator → Bool
is_arithmetic op.Or = true
is_arithmetic op.ExclusiveOr = true
is_arithmetic op.And = true
is_arithmetic op.Add = true
is_arithmetic op.Subtract = true
is_arithmetic op.Multiply = true
is_arithmetic op.Divide = true
is_arithmetic op.Remainder = true
is_arithmetic _ = false

-- a value of the type, or an exception of the library
abbrev pub Makes : ℕ → StackType → Computed → Type 0
Makes n t (Gives v) = HasType n t v
Makes n t (Throws class) = class.0 < LIBRARY_CLASSES

abbrev of_width : Bool → StackType
of_width true = Int64
of_width false = Int32

number_is : (n : ℕ) (wide : Bool) (k : ℕ) → HasType n (of_width wide) (number wide k)
number_is n true k = tt
number_is n false k = tt

either_makes : (n : ℕ) (t : StackType) (b : Bool) (c d : Computed) → Makes n t c → Makes n t d → Makes n t (if b then c else d)
either_makes n t true c d g h = g
either_makes n t false c d g h = h

divided_is : (n : ℕ) (wide is_signed : Bool) (a b k : ℕ) → Makes n (of_width wide) (divided wide is_signed a b k)
divided_is n wide is_signed a b k =
    either_makes n (of_width wide) (nat_eq b 0) (Throws DivideByZero) (if overflows wide is_signed a b then Throws Arithmetic else Gives (number wide k)) (omega arith)
    (either_makes n (of_width wide) (overflows wide is_signed a b) (Throws Arithmetic) (Gives (number wide k)) (omega arith) (number_is n wide k))

arithmetic_is : (n : ℕ) (wide is_signed : Bool) (o : Operator) (a b : ℕ) → is_arithmetic o ≡ true → Makes n (of_width wide) (compute wide is_signed o a b)
arithmetic_is n wide is_signed op.Add a b h = number_is n wide _
arithmetic_is n wide is_signed op.Subtract a b h = number_is n wide _
arithmetic_is n wide is_signed op.Multiply a b h = number_is n wide _
arithmetic_is n wide is_signed op.Divide a b h = divided_is n wide is_signed a b (quotient wide is_signed a b)
arithmetic_is n wide is_signed op.Remainder a b h = divided_is n wide is_signed a b (remainder wide is_signed a b)
arithmetic_is n wide is_signed op.And a b h = number_is n wide _
arithmetic_is n wide is_signed op.Or a b h = number_is n wide _
arithmetic_is n wide is_signed op.ExclusiveOr a b h = number_is n wide _
arithmetic_is n wide is_signed o a b h = cc

shift_is : (n : ℕ) (wide is_signed : Bool) (o : Operator) (a b : ℕ) → is_shift o ≡ true → Makes n (of_width wide) (compute wide is_signed o a b)
shift_is n wide is_signed op.ShiftLeft a b h = number_is n wide _
shift_is n wide is_signed op.ShiftRight a b h = number_is n wide _
shift_is n wide is_signed o a b h = cc

comparison_is : (n : ℕ) (wide is_signed : Bool) (o : Operator) (a b : ℕ) → is_comparison o ≡ true → Makes n Int32 (compute wide is_signed o a b)
comparison_is n wide is_signed op.Equal a b h = tt
comparison_is n wide is_signed op.NotEqual a b h = tt
comparison_is n wide is_signed op.Less a b h = tt
comparison_is n wide is_signed op.Greater a b h = tt
comparison_is n wide is_signed op.LessOrEqual a b h = tt
comparison_is n wide is_signed op.GreaterOrEqual a b h = tt
comparison_is n wide is_signed o a b h = cc

-- they are no shifts
arithmetic_no_shift : (o : Operator) → is_arithmetic o ≡ true → is_shift o ≡ false
arithmetic_no_shift op.ShiftLeft h = let bad : false ≡ true = h in cc
arithmetic_no_shift op.ShiftRight h = let bad : false ≡ true = h in cc
arithmetic_no_shift o h = refl

comparison_no_shift : (o : Operator) → is_comparison o ≡ true → is_shift o ≡ false
comparison_no_shift op.ShiftLeft h = let bad : false ≡ true = h in cc
comparison_no_shift op.ShiftRight h = let bad : false ≡ true = h in cc
comparison_no_shift o h = refl

pub equality_compares : (o : Operator) → is_equality o ≡ true → is_comparison o ≡ true
equality_compares op.Equal h = refl
equality_compares op.NotEqual h = refl
equality_compares o h = cc

-- ---- operators on two values

abbrev pub Operated : ℕ → StackType → Operator → Bool → Value → Value → Type 0
Operated n t o is_signed v u = (c : Computed) × (operated o is_signed v u ≡ Some c) × Makes n t c

wide_pair : (o : Operator) (is_signed : Bool) (a b : ℕ) → is_shift o ≡ false → operated o is_signed (value.Int64 a) (value.Int64 b) ≡ Some (compute true is_signed o a b)
wide_pair o is_signed a b e = ap (λ z. if z then None else Some (compute true is_signed o a b)) e

wide_shift : (o : Operator) (is_signed : Bool) (a b : ℕ) → is_shift o ≡ true → operated o is_signed (value.Int64 a) (value.Int32 b) ≡ Some (compute true is_signed o a b)
wide_shift o is_signed a b e = ap (λ z. if z then Some (compute true is_signed o a b) else None) e

module _ (n : ℕ) (o : Operator) (is_signed : Bool) where
  -- on values that are numbers
  on_int32s : (t : StackType) (v u : Value) → ((a b : ℕ) → Operated n t o is_signed (value.Int32 a) (value.Int32 b)) → HasType n Int32 v → HasType n Int32 u → Operated n t o is_signed v u
  on_int32s t v u known h k =
      let a = int32_is n v h in
      let b = int32_is n u k in
      subst (λ z. Operated n t o is_signed z u) (sym a.1) (subst (λ z. Operated n t o is_signed (value.Int32 a.0) z) (sym b.1) (known a.0 b.0))

  on_int64s : (t : StackType) (v u : Value) → ((a b : ℕ) → Operated n t o is_signed (value.Int64 a) (value.Int64 b)) → HasType n Int64 v → HasType n Int64 u → Operated n t o is_signed v u
  on_int64s t v u known h k =
      let a = int64_is n v h in
      let b = int64_is n u k in
      subst (λ z. Operated n t o is_signed z u) (sym a.1) (subst (λ z. Operated n t o is_signed (value.Int64 a.0) z) (sym b.1) (known a.0 b.0))

  on_both : (t : StackType) (v u : Value) → ((a b : ℕ) → Operated n t o is_signed (value.Int64 a) (value.Int32 b)) → HasType n Int64 v → HasType n Int32 u → Operated n t o is_signed v u
  on_both t v u known h k =
      let a = int64_is n v h in
      let b = int32_is n u k in
      subst (λ z. Operated n t o is_signed z u) (sym a.1) (subst (λ z. Operated n t o is_signed (value.Int64 a.0) z) (sym b.1) (known a.0 b.0))

  -- two integers of one type, for one of the type
  pub binary_ok : is_arithmetic o ≡ true → (a b : StackType) (v u : Value) → same_integer a b ≡ true → HasType n a v → HasType n b u → Operated n a o is_signed v u
  binary_ok k Int32 Int32 v u s h g = on_int32s Int32 v u (λ a b. (compute false is_signed o a b, refl, arithmetic_is n false is_signed o a b k)) h g
  binary_ok k Int64 Int64 v u s h g = on_int64s Int64 v u (λ a b. (compute true is_signed o a b, wide_pair o is_signed a b (arithmetic_no_shift o k), arithmetic_is n true is_signed o a b k)) h g
  binary_ok k a b v u s h g = cc

  -- for an int32
  pub order_ok : is_comparison o ≡ true → (a b : StackType) (v u : Value) → same_integer a b ≡ true → HasType n a v → HasType n b u → Operated n Int32 o is_signed v u
  order_ok k Int32 Int32 v u s h g = on_int32s Int32 v u (λ a b. (compute false is_signed o a b, refl, comparison_is n false is_signed o a b k)) h g
  order_ok k Int64 Int64 v u s h g = on_int64s Int32 v u (λ a b. (compute true is_signed o a b, wide_pair o is_signed a b (comparison_no_shift o k), comparison_is n true is_signed o a b k)) h g
  order_ok k a b v u s h g = cc

  -- an integer and an int32
  pub shift_ok : is_shift o ≡ true → (a b : StackType) (v u : Value) → may_shift a b ≡ true → HasType n a v → HasType n b u → Operated n a o is_signed v u
  shift_ok k Int32 Int32 v u s h g = on_int32s Int32 v u (λ a b. (compute false is_signed o a b, refl, shift_is n false is_signed o a b k)) h g
  shift_ok k Int64 Int32 v u s h g = on_both Int64 v u (λ a b. (compute true is_signed o a b, wide_shift o is_signed a b k, shift_is n true is_signed o a b k)) h g
  shift_ok k a b v u s h g = cc

  compared_ok : is_equality o ≡ true → (b : Bool) → (c : Computed) × (compared o (Some b) ≡ Some c) × Makes n Int32 c
  compared_ok k b = by_operator o k where
    by_operator : (o : Operator) → is_equality o ≡ true → (c : Computed) × (compared o (Some b) ≡ Some c) × Makes n Int32 c
    by_operator op.Equal k = (_, refl, tt)
    by_operator op.NotEqual k = (_, refl, tt)
    by_operator o k = cc

  -- two references
  references_ok : is_equality o ≡ true → (v u : Value) → (v ≡ value.Null) ⊎ ((e : ℕ) × (v ≡ value.Object e) × (e < n)) → (u ≡ value.Null) ⊎ ((e : ℕ) × (u ≡ value.Object e) × (e < n)) → Operated n Int32 o is_signed v u
  references_ok k v u (inl a) (inl b) = subst (λ z. Operated n Int32 o is_signed z u) (sym a) (subst (λ z. Operated n Int32 o is_signed value.Null z) (sym b) (compared_ok k true))
  references_ok k v u (inl a) (inr b) = subst (λ z. Operated n Int32 o is_signed z u) (sym a) (subst (λ z. Operated n Int32 o is_signed value.Null z) (sym b.1) (compared_ok k false))
  references_ok k v u (inr a) (inl b) = subst (λ z. Operated n Int32 o is_signed z u) (sym a.1) (subst (λ z. Operated n Int32 o is_signed (value.Object a.0) z) (sym b) (compared_ok k false))
  references_ok k v u (inr a) (inr b) = subst (λ z. Operated n Int32 o is_signed z u) (sym a.1) (subst (λ z. Operated n Int32 o is_signed (value.Object a.0) z) (sym b.1) (compared_ok k (nat_eq a.0 b.0)))

  pub equal_ok : is_equality o ≡ true → (a b : StackType) (v u : Value) → may_equal a b ≡ true → HasType n a v → HasType n b u → Operated n Int32 o is_signed v u
  equal_ok k Int32 b v u s h g = order_ok (equality_compares o k) Int32 b v u s h g
  equal_ok k Int64 b v u s h g = order_ok (equality_compares o k) Int64 b v u s h g
  equal_ok k Null b v u s h g = references_ok k v u (reference_is n Null v refl h) (reference_is n b u s g)
  equal_ok k (Object class) b v u s h g = references_ok k v u (reference_is n (Object class) v refl h) (reference_is n b u s g)

-- ---- operators on one value

abbrev pub is_negation : UnaryOperator → Bool
is_negation unary.Negate = true
is_negation unary.Complement = true
is_negation unary.Not = false

alone_is : (n : ℕ) (o : UnaryOperator) (wide : Bool) (a : ℕ) → is_negation o ≡ true → HasType n (of_width wide) (compute_alone wide o a)
alone_is n unary.Negate wide a k = number_is n wide _
alone_is n unary.Complement wide a k = number_is n wide _
alone_is n unary.Not wide a k = let bad : false ≡ true = k in cc

pub alone_ok : (n : ℕ) (o : UnaryOperator) (a : StackType) (v : Value) → is_negation o ≡ true → is_integer a ≡ true → HasType n a v → (u : Value) × (computed_alone o v ≡ Some u) × HasType n a u
alone_ok n o Int32 v k i h = let a = int32_is n v h in subst (λ z. (u : Value) × (computed_alone o z ≡ Some u) × HasType n Int32 u) (sym a.1) (compute_alone false o a.0, refl, alone_is n o false a.0 k)
alone_ok n o Int64 v k i h = let a = int64_is n v h in subst (λ z. (u : Value) × (computed_alone o z ≡ Some u) × HasType n Int64 u) (sym a.1) (compute_alone true o a.0, refl, alone_is n o true a.0 k)
alone_ok n o Null v k i h = cc
alone_ok n o (Object class) v k i h = cc

-- ---- conversions

converted_int32 : (n : ℕ) (t : FundamentalType) (a : ℕ) → (u : Value) × (conversion t (value.Int32 a) ≡ Some u) × HasType n (kind t) u
converted_int32 n Boolean a = (_, refl, tt)
converted_int32 n Char a = (_, refl, tt)
converted_int32 n I1 a = (_, refl, tt)
converted_int32 n U1 a = (_, refl, tt)
converted_int32 n I2 a = (_, refl, tt)
converted_int32 n U2 a = (_, refl, tt)
converted_int32 n I4 a = (_, refl, tt)
converted_int32 n U4 a = (_, refl, tt)
converted_int32 n I8 a = (_, refl, tt)
converted_int32 n U8 a = (_, refl, tt)

converted_int64 : (n : ℕ) (t : FundamentalType) (a : ℕ) → (u : Value) × (conversion t (value.Int64 a) ≡ Some u) × HasType n (kind t) u
converted_int64 n Boolean a = (_, refl, tt)
converted_int64 n Char a = (_, refl, tt)
converted_int64 n I1 a = (_, refl, tt)
converted_int64 n U1 a = (_, refl, tt)
converted_int64 n I2 a = (_, refl, tt)
converted_int64 n U2 a = (_, refl, tt)
converted_int64 n I4 a = (_, refl, tt)
converted_int64 n U4 a = (_, refl, tt)
converted_int64 n I8 a = (_, refl, tt)
converted_int64 n U8 a = (_, refl, tt)

pub converts : (n : ℕ) (t : FundamentalType) (a : StackType) (v : Value) → is_integer a ≡ true → HasType n a v → (u : Value) × (conversion t v ≡ Some u) × HasType n (kind t) u
converts n t Int32 v i h = let a = int32_is n v h in subst (λ z. (u : Value) × (conversion t z ≡ Some u) × HasType n (kind t) u) (sym a.1) (converted_int32 n t a.0)
converts n t Int64 v i h = let a = int64_is n v h in subst (λ z. (u : Value) × (conversion t z ≡ Some u) × HasType n (kind t) u) (sym a.1) (converted_int64 n t a.0)
converts n t Null v i h = cc
converts n t (Object class) v i h = cc
