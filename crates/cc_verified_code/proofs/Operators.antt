-- The instructions of constants, variables, conversions and operators keep the rules.
use Rattle.std.proofs.Common.{◌≡◌, ℕ, ◌+◌, ◌-◌, ◌%◌, ◌^◌, ◌≤◌, ℤ, pos, List, [], ◌∷◌, ◌++◌, Bool, true, false, length, Some, None, refl, sym, ap, ◌∙◌, subst, arith, if◌then◌else◌, cond, nat_lt, slice_get}
use Rattle.std.specs.Int.{w32, w64, cast_signed}
use Rattle.cc_cil.specs.declared.instruction.Instruction.{Instruction}
use Rattle.cc_cil.specs.declared.instruction.Instruction.TheVariants as the
use Rattle.cc_core.specs.declared.tree.UpdateResult.{UpdateResult}
use Rattle.cc_core.specs.declared.tree.UpdateResult.TheVariants.{New, Old}
use Rattle.cc_core.specs.declared.types.Operator.{Operator}
use Rattle.cc_core.specs.declared.types.Operator.TheVariants as op
use Rattle.cc_core.specs.declared.types.UnaryOperator.{UnaryOperator}
use Rattle.cc_core.specs.declared.types.UnaryOperator.TheVariants as unary
use Rattle.cc_core.specs.Numbers.{is_wide, is_signed}
use Rattle.cc_core.specs.Typed.{IsNumber, IsPromoted, compares, result_of, FitsRight, FitsAlone}
use Rattle.cc_core.specs.Types as type
use Rattle.cc_core.specs.Types.{BareType}
use Rattle.cc_code.specs.Instructions.{bytes}
use Rattle.cc_code.specs.Heights.{conversion_height, unary_height, kept}
use Rattle.cc_code.specs.Operators.{constant, zero as zero_of, index, load, store, drop_value, widening, conversion, operation, operator_code, denial, count_code, unary_code, operated, changed}
use Rattle.cc_verify.specs.declared.environment.Environment.{Environment}
use Rattle.cc_verify.specs.declared.environment.Frame.{Frame}
use Rattle.cc_verify.specs.declared.stack_type.StackType.{StackType}
use Rattle.cc_verify.specs.declared.stack_type.StackType.TheVariants.{Int32, Int64}
use Rattle.cc_verify.specs.declared.transition.Transition.{Transition}
use Rattle.cc_verify.specs.declared.transition.Transition.TheVariants as to
use Rattle.cc_verify.specs.Transitions.{Stack, transition_of, same_integer, may_equal, is_integer, may_shift, is_built_variable, push_variable, store_variable, push_local, store_local, local_fits}
use Rattle.cc_verified_code.specs.Kinds.{integer, kind, behind, HasVariables}
use Rattle.cc_verified_code.specs.Rows.{Table, Takes}
use Rattle.cc_verified_code.specs.Flows.{Flows}
use Rattle.cc_verified_code.proofs.Pieces.{nothing, both, plain, plain_as}

-- ---- types

pub number_behind : (of : BareType) (s : Stack) → IsNumber of → behind of s ≡ kind of ∷ s
number_behind type.Void s n = let bad : false ≡ true = n in cc
number_behind type.Bool s n = refl
number_behind type.Char s n = refl
number_behind type.I8 s n = refl
number_behind type.U8 s n = refl
number_behind type.I16 s n = refl
number_behind type.U16 s n = refl
number_behind type.I32 s n = refl
number_behind type.U32 s n = refl
number_behind type.I64 s n = refl
number_behind type.U64 s n = refl
number_behind type.Null s n = let bad : false ≡ true = n in cc
number_behind (type.Enum of) s n = let bad : false ≡ true = n in cc
number_behind (type.Value of) s n = let bad : false ≡ true = n in cc
number_behind (type.Handle of) s n = let bad : false ≡ true = n in cc
number_behind (type.Array of) s n = let bad : false ≡ true = n in cc
number_behind (type.Track of) s n = let bad : false ≡ true = n in cc

pub promoted_number : (of : BareType) → IsPromoted of → IsNumber of
promoted_number type.Void p = let bad : false ≡ true = p in cc
promoted_number type.Bool p = let bad : false ≡ true = p in cc
promoted_number type.Char p = let bad : false ≡ true = p in cc
promoted_number type.I8 p = let bad : false ≡ true = p in cc
promoted_number type.U8 p = let bad : false ≡ true = p in cc
promoted_number type.I16 p = let bad : false ≡ true = p in cc
promoted_number type.U16 p = let bad : false ≡ true = p in cc
promoted_number type.I32 p = refl
promoted_number type.U32 p = refl
promoted_number type.I64 p = refl
promoted_number type.U64 p = refl
promoted_number type.Null p = let bad : false ≡ true = p in cc
promoted_number (type.Enum of) p = let bad : false ≡ true = p in cc
promoted_number (type.Value of) p = let bad : false ≡ true = p in cc
promoted_number (type.Handle of) p = let bad : false ≡ true = p in cc
promoted_number (type.Array of) p = let bad : false ≡ true = p in cc
promoted_number (type.Track of) p = let bad : false ≡ true = p in cc

pub conversion_low : (of : BareType) → conversion_height of ≤ 2
conversion_low type.Void = omega arith
conversion_low type.Bool = omega arith
conversion_low type.Char = omega arith
conversion_low type.I8 = omega arith
conversion_low type.U8 = omega arith
conversion_low type.I16 = omega arith
conversion_low type.U16 = omega arith
conversion_low type.I32 = omega arith
conversion_low type.U32 = omega arith
conversion_low type.I64 = omega arith
conversion_low type.U64 = omega arith
conversion_low type.Null = omega arith
conversion_low (type.Enum of) = omega arith
conversion_low (type.Value of) = omega arith
conversion_low (type.Handle of) = omega arith
conversion_low (type.Array of) = omega arith
conversion_low (type.Track of) = omega arith

pub same_kind : (w : Bool) → same_integer (integer w) (integer w) ≡ true
same_kind true = refl
same_kind false = refl

equal_kind : (w : Bool) → may_equal (integer w) (integer w) ≡ true
equal_kind true = refl
equal_kind false = refl

an_integer : (w : Bool) → is_integer (integer w) ≡ true
an_integer true = refl
an_integer false = refl

shifted_kind : (w : Bool) → may_shift (integer w) Int32 ≡ true
shifted_kind true = refl
shifted_kind false = refl

pub let_through : {A : Type 0} (b : Bool) (x : A) → b ≡ true → (if b then Some x else None) ≡ Some x
let_through true x h = refl
let_through false x h = let bad : false ≡ true = h in cc

-- ---- transitions

module _ (e : Environment) (f : Frame) (most : ℕ) where
  abbrev T : Transition → Stack → Stack → Type 0
  T t s out = Takes e f most t s out

  pub nothing_takes : (s : Stack) → length s ≤ most → T to.Nothing s s
  nothing_takes s h = record { does = refl; built = refl; stores = refl; outside = refl; under = length s; taken = omega arith; given = omega arith; high = h; high_behind = h }

  pub push_takes : (k : StackType) (s : Stack) → length s + 1 ≤ most → T (to.Push k) s (k ∷ s)
  push_takes k s h = record { does = refl; built = refl; stores = refl; outside = refl; under = length s; taken = omega arith; given = omega arith; high = omega (arith, h); high_behind = omega (arith, h) }

  pub duplicate_takes : (k : StackType) (s : Stack) → length s + 2 ≤ most → T to.Duplicate (k ∷ s) (k ∷ k ∷ s)
  duplicate_takes k s h = record { does = refl; built = refl; stores = refl; outside = refl; under = length s; taken = omega arith; given = omega arith; high = omega (arith, h); high_behind = omega (arith, h) }

  pub pop_takes : (k : StackType) (s : Stack) → length s + 1 ≤ most → T to.Pop (k ∷ s) s
  pop_takes k s h = record { does = refl; built = refl; stores = refl; outside = refl; under = length s; taken = omega arith; given = omega arith; high = omega (arith, h); high_behind = omega (arith, h) }

  pub branch_takes : (n : ℤ) (s : Stack) → length s ≤ most → T (to.Branch n) s s
  branch_takes n s h = record { does = refl; built = refl; stores = refl; outside = refl; under = length s; taken = omega arith; given = omega arith; high = h; high_behind = h }

  pub branch_if_takes : (n : ℤ) (k : StackType) (s : Stack) → length s + 1 ≤ most → T (to.BranchIf n) (k ∷ s) s
  branch_if_takes n k s h = record { does = refl; built = refl; stores = refl; outside = refl; under = length s; taken = omega arith; given = omega arith; high = omega (arith, h); high_behind = omega (arith, h) }

  pub branch_equal_takes : (n : ℤ) (w : Bool) (s : Stack) → length s + 2 ≤ most → T (to.BranchEqual n) (integer w ∷ integer w ∷ s) s
  branch_equal_takes n w s h = record { does = let_through (may_equal (integer w) (integer w)) s (equal_kind w); built = refl; stores = refl; outside = refl; under = length s; taken = omega arith; given = omega arith; high = omega (arith, h); high_behind = omega (arith, h) }

  pub leave_takes : (n : ℤ) → T (to.Leave n) [] []
  leave_takes n = record { does = refl; built = refl; stores = refl; outside = refl; under = 0; taken = refl; given = refl; high = omega arith; high_behind = omega arith }

  binary_takes : (w : Bool) (s : Stack) → length s + 2 ≤ most → T to.Binary (integer w ∷ integer w ∷ s) (integer w ∷ s)
  binary_takes w s h = record { does = let_through (same_integer (integer w) (integer w)) (integer w ∷ s) (same_kind w); built = refl; stores = refl; outside = refl; under = length s; taken = omega arith; given = omega arith; high = omega (arith, h); high_behind = omega (arith, h) }

  shift_takes : (w : Bool) (s : Stack) → length s + 2 ≤ most → T to.Shift (Int32 ∷ integer w ∷ s) (integer w ∷ s)
  shift_takes w s h = record { does = let_through (may_shift (integer w) Int32) (integer w ∷ s) (shifted_kind w); built = refl; stores = refl; outside = refl; under = length s; taken = omega arith; given = omega arith; high = omega (arith, h); high_behind = omega (arith, h) }

  order_takes : (w : Bool) (s : Stack) → length s + 2 ≤ most → T to.Order (integer w ∷ integer w ∷ s) (Int32 ∷ s)
  order_takes w s h = record { does = let_through (same_integer (integer w) (integer w)) (Int32 ∷ s) (same_kind w); built = refl; stores = refl; outside = refl; under = length s; taken = omega arith; given = omega arith; high = omega (arith, h); high_behind = omega (arith, h) }

  equal_takes : (w : Bool) (s : Stack) → length s + 2 ≤ most → T to.Equal (integer w ∷ integer w ∷ s) (Int32 ∷ s)
  equal_takes w s h = record { does = let_through (may_equal (integer w) (integer w)) (Int32 ∷ s) (equal_kind w); built = refl; stores = refl; outside = refl; under = length s; taken = omega arith; given = omega arith; high = omega (arith, h); high_behind = omega (arith, h) }

  unary_takes : (w : Bool) (s : Stack) → length s + 1 ≤ most → T to.Unary (integer w ∷ s) (integer w ∷ s)
  unary_takes w s h = record { does = let_through (is_integer (integer w)) (integer w ∷ s) (an_integer w); built = refl; stores = refl; outside = refl; under = length s; taken = omega arith; given = omega arith; high = omega (arith, h); high_behind = omega (arith, h) }

  convert_takes : (w : Bool) (k : StackType) (s : Stack) → length s + 1 ≤ most → T (to.Convert k) (integer w ∷ s) (k ∷ s)
  convert_takes w k s h = record { does = let_through (is_integer (integer w)) (k ∷ s) (an_integer w); built = refl; stores = refl; outside = refl; under = length s; taken = omega arith; given = omega arith; high = omega (arith, h); high_behind = omega (arith, h) }

  -- ---- variables

  load_argument_takes : (n : ℕ) (k : StackType) (s : Stack) → slice_get f.arguments n ≡ Some (Some k) → length s + 1 ≤ most → T (to.LoadArgument n) s (k ∷ s)
  load_argument_takes n k s v h = record { does = ap (λ o. push_variable o s) v; built = ap is_built_variable v; stores = refl; outside = refl; under = length s; taken = omega arith; given = omega arith; high = omega (arith, h); high_behind = omega (arith, h) }

  load_local_takes : (n : ℕ) (k : StackType) (s : Stack) → slice_get f.locals n ≡ Some k → length s + 1 ≤ most → T (to.LoadLocal n) s (k ∷ s)
  load_local_takes n k s v h = record { does = ap (λ o. push_local o s) v; built = refl; stores = refl; outside = refl; under = length s; taken = omega arith; given = omega arith; high = omega (arith, h); high_behind = omega (arith, h) }

  store_argument_takes : (n : ℕ) (w : Bool) (s : Stack) → slice_get f.arguments n ≡ Some (Some (integer w)) → length s + 1 ≤ most → T (to.StoreArgument n) (integer w ∷ s) s
  store_argument_takes n w s v h = record { does = ap (λ o. store_variable o (integer w ∷ s)) v ∙ let_through (same_integer (integer w) (integer w)) s (same_kind w); built = ap is_built_variable v; stores = refl; outside = refl; under = length s; taken = omega arith; given = omega arith; high = omega (arith, h); high_behind = omega (arith, h) }

  store_local_takes : (n : ℕ) (w : Bool) (s : Stack) → slice_get f.locals n ≡ Some (integer w) → length s + 1 ≤ most → T (to.StoreLocal n) (integer w ∷ s) s
  store_local_takes n w s v h = record { does = ap (λ o. store_local o (integer w ∷ s)) v; built = refl; stores = ap (λ o. local_fits o (integer w ∷ s)) v ∙ same_kind w; outside = refl; under = length s; taken = omega arith; given = omega arith; high = omega (arith, h); high_behind = omega (arith, h) }

-- ---- what operators do

abbrev how : Operator → Transition
how op.Or = to.Binary
how op.ExclusiveOr = to.Binary
how op.And = to.Binary
how op.Equal = to.Equal
how op.NotEqual = to.Equal
how op.Less = to.Order
how op.Greater = to.Order
how op.LessOrEqual = to.Order
how op.GreaterOrEqual = to.Order
how op.ShiftLeft = to.Shift
how op.ShiftRight = to.Shift
how op.Add = to.Binary
how op.Subtract = to.Binary
how op.Multiply = to.Binary
how op.Divide = to.Binary
how op.Remainder = to.Binary

operation_is : (signed : Bool) (operator : Operator) → transition_of (operation signed operator) ≡ how operator
operation_is true op.Or = refl
operation_is true op.ExclusiveOr = refl
operation_is true op.And = refl
operation_is true op.Equal = refl
operation_is true op.NotEqual = refl
operation_is true op.Less = refl
operation_is true op.Greater = refl
operation_is true op.LessOrEqual = refl
operation_is true op.GreaterOrEqual = refl
operation_is true op.ShiftLeft = refl
operation_is true op.ShiftRight = refl
operation_is true op.Add = refl
operation_is true op.Subtract = refl
operation_is true op.Multiply = refl
operation_is true op.Divide = refl
operation_is true op.Remainder = refl
operation_is false op.Or = refl
operation_is false op.ExclusiveOr = refl
operation_is false op.And = refl
operation_is false op.Equal = refl
operation_is false op.NotEqual = refl
operation_is false op.Less = refl
operation_is false op.Greater = refl
operation_is false op.LessOrEqual = refl
operation_is false op.GreaterOrEqual = refl
operation_is false op.ShiftLeft = refl
operation_is false op.ShiftRight = refl
operation_is false op.Add = refl
operation_is false op.Subtract = refl
operation_is false op.Multiply = refl
operation_is false op.Divide = refl
operation_is false op.Remainder = refl

module _ (e : Environment) (f : Frame) (most : ℕ) (Given : Table → Type 0) where
  abbrev F : List Instruction → ℕ → Stack → Stack → Type 0
  F code lo s out = Flows e f most Given code lo s out

  constant_by : (w : Bool) (a b : ℤ) (lo : ℕ) (s : Stack) → length s + 1 ≤ most → F ((if w then the.LoadLong a else the.LoadInt b) ∷ []) lo s (integer w ∷ s)
  constant_by true a b lo s h = plain e f most Given (the.LoadLong a) lo s (Int64 ∷ s) refl refl (push_takes e f most Int64 s h)
  constant_by false a b lo s h = plain e f most Given (the.LoadInt b) lo s (Int32 ∷ s) refl refl (push_takes e f most Int32 s h)

  pub constant_flows : (of : BareType) (n lo : ℕ) (s : Stack) → length s + 1 ≤ most → F (constant of n ∷ []) lo s (kind of ∷ s)
  constant_flows of n lo s h = constant_by (is_wide of) (cast_signed w64 n) (cast_signed w32 (n % 2 ^ 32)) lo s h

  zero_by : (w : Bool) (lo : ℕ) (s : Stack) → length s + 1 ≤ most → F ((if w then the.LoadLong (pos 0) else the.LoadInt0) ∷ []) lo s (integer w ∷ s)
  zero_by true lo s h = plain e f most Given (the.LoadLong (pos 0)) lo s (Int64 ∷ s) refl refl (push_takes e f most Int64 s h)
  zero_by false lo s h = plain e f most Given the.LoadInt0 lo s (Int32 ∷ s) refl refl (push_takes e f most Int32 s h)

  pub zero_flows : (of : BareType) (lo : ℕ) (s : Stack) → length s + 1 ≤ most → F (zero_of of ∷ []) lo s (kind of ∷ s)
  zero_flows of lo s h = zero_by (is_wide of) lo s h

  -- ---- variables

  module _ (locals : List BareType) (parameters : ℕ) (has : HasVariables f locals parameters) where
    load_by : (b : Bool) (x : ℕ) (of : BareType) (lo : ℕ) (s : Stack) → nat_lt x parameters ≡ b → slice_get locals x ≡ Some of → length s + 1 ≤ most
        → F ((if b then the.LoadArgument (index x) else the.LoadLocal (index (x - parameters))) ∷ []) lo s (kind of ∷ s)
    load_by true x of lo s b v h = plain e f most Given (the.LoadArgument (index x)) lo s (kind of ∷ s) refl refl (load_argument_takes e f most (index x) (kind of) s (has.arguments x of v b) h)
    load_by false x of lo s b v h = plain e f most Given (the.LoadLocal (index (x - parameters))) lo s (kind of ∷ s) refl refl (load_local_takes e f most (index (x - parameters)) (kind of) s (has.own x of v b) h)

    pub load_flows : (x : ℕ) (of : BareType) (lo : ℕ) (s : Stack) → slice_get locals x ≡ Some of → length s + 1 ≤ most → F (load parameters x ∷ []) lo s (kind of ∷ s)
    load_flows x of lo s v h = load_by (nat_lt x parameters) x of lo s refl v h

    store_by : (b : Bool) (x : ℕ) (of : BareType) (lo : ℕ) (s : Stack) → nat_lt x parameters ≡ b → slice_get locals x ≡ Some of → length s + 1 ≤ most
        → F ((if b then the.StoreArgument (index x) else the.StoreLocal (index (x - parameters))) ∷ []) lo (kind of ∷ s) s
    store_by true x of lo s b v h = plain e f most Given (the.StoreArgument (index x)) lo (kind of ∷ s) s refl refl (store_argument_takes e f most (index x) (is_wide of) s (has.arguments x of v b) h)
    store_by false x of lo s b v h = plain e f most Given (the.StoreLocal (index (x - parameters))) lo (kind of ∷ s) s refl refl (store_local_takes e f most (index (x - parameters)) (is_wide of) s (has.own x of v b) h)

    pub store_flows : (x : ℕ) (of : BareType) (lo : ℕ) (s : Stack) → slice_get locals x ≡ Some of → length s + 1 ≤ most → F (store parameters x ∷ []) lo (kind of ∷ s) s
    store_flows x of lo s v h = store_by (nat_lt x parameters) x of lo s refl v h

  -- ---- parts that come one after another, wherever the second begins

  pub chain : (a b : List Instruction) (lo : ℕ) (s t out : Stack) → F a lo s t → F b (lo + bytes a) t out → F (a ++ b) lo s out
  chain a b lo s t out x y = both e f most Given a b lo (lo + bytes a) s t out refl x y

  drop_one : (k : StackType) (lo : ℕ) (s : Stack) → length s + 1 ≤ most → F (the.Pop ∷ []) lo (k ∷ s) s
  drop_one k lo s h = plain e f most Given the.Pop lo (k ∷ s) s refl refl (pop_takes e f most k s h)

  -- an expression's value is dropped
  pub drop_flows : (of : BareType) (lo : ℕ) (s : Stack) → length (behind of s) ≤ most → F (drop_value of) lo (behind of s) s
  drop_flows type.Void lo s h = nothing e f most Given lo s
  drop_flows type.Bool lo s h = drop_one (kind type.Bool) lo s (omega (arith, h))
  drop_flows type.Char lo s h = drop_one (kind type.Char) lo s (omega (arith, h))
  drop_flows type.I8 lo s h = drop_one (kind type.I8) lo s (omega (arith, h))
  drop_flows type.U8 lo s h = drop_one (kind type.U8) lo s (omega (arith, h))
  drop_flows type.I16 lo s h = drop_one (kind type.I16) lo s (omega (arith, h))
  drop_flows type.U16 lo s h = drop_one (kind type.U16) lo s (omega (arith, h))
  drop_flows type.I32 lo s h = drop_one (kind type.I32) lo s (omega (arith, h))
  drop_flows type.U32 lo s h = drop_one (kind type.U32) lo s (omega (arith, h))
  drop_flows type.I64 lo s h = drop_one (kind type.I64) lo s (omega (arith, h))
  drop_flows type.U64 lo s h = drop_one (kind type.U64) lo s (omega (arith, h))
  drop_flows type.Null lo s h = drop_one (kind type.Null) lo s (omega (arith, h))
  drop_flows (type.Enum of) lo s h = drop_one (kind (type.Enum of)) lo s (omega (arith, h))
  drop_flows (type.Value of) lo s h = drop_one (kind (type.Value of)) lo s (omega (arith, h))
  drop_flows (type.Handle of) lo s h = drop_one (kind (type.Handle of)) lo s (omega (arith, h))
  drop_flows (type.Array of) lo s h = drop_one (kind (type.Array of)) lo s (omega (arith, h))
  drop_flows (type.Track of) lo s h = drop_one (kind (type.Track of)) lo s (omega (arith, h))

  -- ---- conversions

  convert_one : (i : Instruction) (w : Bool) (k : StackType) (lo : ℕ) (s : Stack) → transition_of i ≡ to.Convert k → length s + 1 ≤ most → F (i ∷ []) lo (integer w ∷ s) (k ∷ s)
  convert_one i w k lo s t h = plain_as e f most Given i (to.Convert k) lo (integer w ∷ s) (k ∷ s) t refl refl (convert_takes e f most w k s h)

  widening_is : (signed : Bool) → transition_of (if signed then the.ConvertI8 else the.ConvertU8) ≡ to.Convert Int64
  widening_is true = refl
  widening_is false = refl

  pub conversion_flows : (from of : BareType) (lo : ℕ) (s : Stack) → IsNumber of → length s + conversion_height of ≤ most → F (conversion from of) lo (kind from ∷ s) (kind of ∷ s)
  conversion_flows from type.Bool lo s n h =
      chain (zero_of from ∷ []) (the.CompareGreaterUnsigned ∷ []) lo (kind from ∷ s) (kind from ∷ kind from ∷ s) (Int32 ∷ s) (zero_flows from lo (kind from ∷ s) (omega (arith, h)))
      (plain e f most Given the.CompareGreaterUnsigned (lo + bytes (zero_of from ∷ [])) (kind from ∷ kind from ∷ s) (Int32 ∷ s) refl refl (order_takes e f most (is_wide from) s h))
  conversion_flows from type.Void lo s n h = let bad : false ≡ true = n in cc
  conversion_flows from type.Char lo s n h = convert_one the.ConvertU2 (is_wide from) Int32 lo s refl h
  conversion_flows from type.I8 lo s n h = convert_one the.ConvertI1 (is_wide from) Int32 lo s refl h
  conversion_flows from type.U8 lo s n h = convert_one the.ConvertU1 (is_wide from) Int32 lo s refl h
  conversion_flows from type.I16 lo s n h = convert_one the.ConvertI2 (is_wide from) Int32 lo s refl h
  conversion_flows from type.U16 lo s n h = convert_one the.ConvertU2 (is_wide from) Int32 lo s refl h
  conversion_flows from type.I32 lo s n h = convert_one the.ConvertI4 (is_wide from) Int32 lo s refl h
  conversion_flows from type.U32 lo s n h = convert_one the.ConvertU4 (is_wide from) Int32 lo s refl h
  conversion_flows from type.I64 lo s n h = convert_one (widening from) (is_wide from) Int64 lo s (widening_is (is_signed from)) h
  conversion_flows from type.U64 lo s n h = convert_one (widening from) (is_wide from) Int64 lo s (widening_is (is_signed from)) h
  conversion_flows from type.Null lo s n h = let bad : false ≡ true = n in cc
  conversion_flows from (type.Enum of) lo s n h = let bad : false ≡ true = n in cc
  conversion_flows from (type.Value of) lo s n h = let bad : false ≡ true = n in cc
  conversion_flows from (type.Handle of) lo s n h = let bad : false ≡ true = n in cc
  conversion_flows from (type.Array of) lo s n h = let bad : false ≡ true = n in cc
  conversion_flows from (type.Track of) lo s n h = let bad : false ≡ true = n in cc

  -- ---- operators

  binary_one : (signed : Bool) (operator : Operator) (w : Bool) (lo : ℕ) (s : Stack) → how operator ≡ to.Binary → length s + 2 ≤ most → F (operation signed operator ∷ []) lo (integer w ∷ integer w ∷ s) (integer w ∷ s)
  binary_one signed operator w lo s t h = plain_as e f most Given (operation signed operator) to.Binary lo (integer w ∷ integer w ∷ s) (integer w ∷ s) (operation_is signed operator ∙ t) refl refl (binary_takes e f most w s h)

  shift_one : (signed : Bool) (operator : Operator) (w : Bool) (lo : ℕ) (s : Stack) → how operator ≡ to.Shift → length s + 2 ≤ most → F (operation signed operator ∷ []) lo (Int32 ∷ integer w ∷ s) (integer w ∷ s)
  shift_one signed operator w lo s t h = plain_as e f most Given (operation signed operator) to.Shift lo (Int32 ∷ integer w ∷ s) (integer w ∷ s) (operation_is signed operator ∙ t) refl refl (shift_takes e f most w s h)

  order_one : (signed : Bool) (operator : Operator) (w : Bool) (lo : ℕ) (s : Stack) → how operator ≡ to.Order → length s + 2 ≤ most → F (operation signed operator ∷ []) lo (integer w ∷ integer w ∷ s) (Int32 ∷ s)
  order_one signed operator w lo s t h = plain_as e f most Given (operation signed operator) to.Order lo (integer w ∷ integer w ∷ s) (Int32 ∷ s) (operation_is signed operator ∙ t) refl refl (order_takes e f most w s h)

  equal_one : (signed : Bool) (operator : Operator) (w : Bool) (lo : ℕ) (s : Stack) → how operator ≡ to.Equal → length s + 2 ≤ most → F (operation signed operator ∷ []) lo (integer w ∷ integer w ∷ s) (Int32 ∷ s)
  equal_one signed operator w lo s t h = plain_as e f most Given (operation signed operator) to.Equal lo (integer w ∷ integer w ∷ s) (Int32 ∷ s) (operation_is signed operator ∙ t) refl refl (equal_takes e f most w s h)

  equal_zero : (i : Instruction) (w : Bool) (lo : ℕ) (s : Stack) → length s + 2 ≤ most → F (i ∷ []) lo (integer w ∷ s) (integer w ∷ integer w ∷ s) → F (i ∷ the.CompareEqual ∷ []) lo (integer w ∷ s) (Int32 ∷ s)
  equal_zero i w lo s h x =
      chain (i ∷ []) (the.CompareEqual ∷ []) lo (integer w ∷ s) (integer w ∷ integer w ∷ s) (Int32 ∷ s) x
      (plain e f most Given the.CompareEqual (lo + bytes (i ∷ [])) (integer w ∷ integer w ∷ s) (Int32 ∷ s) refl refl (equal_takes e f most w s h))

  -- what a comparison gave is denied
  denied : (i : Instruction) (lo : ℕ) (s t : Stack) → length t + 2 ≤ most → F (i ∷ []) lo s (Int32 ∷ t) → F (i ∷ denial) lo s (Int32 ∷ t)
  denied i lo s t h x =
      chain (i ∷ []) denial lo s (Int32 ∷ t) (Int32 ∷ t) x (equal_zero the.LoadInt0 false (lo + bytes (i ∷ [])) t h
      (plain e f most Given the.LoadInt0 (lo + bytes (i ∷ [])) (Int32 ∷ t) (Int32 ∷ Int32 ∷ t) refl refl (push_takes e f most Int32 (Int32 ∷ t) (omega (arith, h)))))

  count_by : (w : Bool) (k : StackType) (lo : ℕ) (s : Stack) → length s + 2 ≤ most → F (if w then the.ConvertI4 ∷ [] else []) lo (integer w ∷ k ∷ s) (Int32 ∷ k ∷ s)
  count_by true k lo s h = convert_one the.ConvertI4 true Int32 lo (k ∷ s) refl (omega (arith, h))
  count_by false k lo s h = nothing e f most Given lo (Int32 ∷ k ∷ s)

  same_right : (code : List Instruction) (left right : BareType) (lo : ℕ) (s out : Stack) → right ≡ left → F code lo (kind left ∷ kind left ∷ s) out → F code lo (kind right ∷ kind left ∷ s) out
  same_right code left right lo s out q x = subst (λ (r : BareType). F code lo (kind r ∷ kind left ∷ s) out) (sym q) x

  pub applied_flows : (operator : Operator) (left right : BareType) (lo : ℕ) (s : Stack) → FitsRight operator left right → length s + 2 ≤ most
      → F (count_code operator right ++ operator_code left operator) lo (kind right ∷ kind left ∷ s) (kind (result_of operator left) ∷ s)
  applied_flows op.Or left right lo s fits h = same_right (operator_code left op.Or) left right lo s (kind left ∷ s) fits (binary_one (is_signed left) op.Or (is_wide left) lo s refl h)
  applied_flows op.ExclusiveOr left right lo s fits h = same_right (operator_code left op.ExclusiveOr) left right lo s (kind left ∷ s) fits (binary_one (is_signed left) op.ExclusiveOr (is_wide left) lo s refl h)
  applied_flows op.And left right lo s fits h = same_right (operator_code left op.And) left right lo s (kind left ∷ s) fits (binary_one (is_signed left) op.And (is_wide left) lo s refl h)
  applied_flows op.Equal left right lo s fits h = same_right (operator_code left op.Equal) left right lo s (Int32 ∷ s) fits (equal_one (is_signed left) op.Equal (is_wide left) lo s refl h)
  applied_flows op.NotEqual left right lo s fits h = same_right (operator_code left op.NotEqual) left right lo s (Int32 ∷ s) fits (denied (operation (is_signed left) op.NotEqual) lo (kind left ∷ kind left ∷ s) s h (equal_one (is_signed left) op.NotEqual (is_wide left) lo s refl h))
  applied_flows op.Less left right lo s fits h = same_right (operator_code left op.Less) left right lo s (Int32 ∷ s) fits (order_one (is_signed left) op.Less (is_wide left) lo s refl h)
  applied_flows op.Greater left right lo s fits h = same_right (operator_code left op.Greater) left right lo s (Int32 ∷ s) fits (order_one (is_signed left) op.Greater (is_wide left) lo s refl h)
  applied_flows op.LessOrEqual left right lo s fits h = same_right (operator_code left op.LessOrEqual) left right lo s (Int32 ∷ s) fits (denied (operation (is_signed left) op.LessOrEqual) lo (kind left ∷ kind left ∷ s) s h (order_one (is_signed left) op.LessOrEqual (is_wide left) lo s refl h))
  applied_flows op.GreaterOrEqual left right lo s fits h = same_right (operator_code left op.GreaterOrEqual) left right lo s (Int32 ∷ s) fits (denied (operation (is_signed left) op.GreaterOrEqual) lo (kind left ∷ kind left ∷ s) s h (order_one (is_signed left) op.GreaterOrEqual (is_wide left) lo s refl h))
  applied_flows op.ShiftLeft left right lo s fits h =
      chain (count_code op.ShiftLeft right) (operator_code left op.ShiftLeft) lo (kind right ∷ kind left ∷ s) (Int32 ∷ kind left ∷ s) (kind left ∷ s) (count_by (is_wide right) (kind left) lo s h)
      (shift_one (is_signed left) op.ShiftLeft (is_wide left) (lo + bytes (count_code op.ShiftLeft right)) s refl h)
  applied_flows op.ShiftRight left right lo s fits h =
      chain (count_code op.ShiftRight right) (operator_code left op.ShiftRight) lo (kind right ∷ kind left ∷ s) (Int32 ∷ kind left ∷ s) (kind left ∷ s) (count_by (is_wide right) (kind left) lo s h)
      (shift_one (is_signed left) op.ShiftRight (is_wide left) (lo + bytes (count_code op.ShiftRight right)) s refl h)
  applied_flows op.Add left right lo s fits h = same_right (operator_code left op.Add) left right lo s (kind left ∷ s) fits (binary_one (is_signed left) op.Add (is_wide left) lo s refl h)
  applied_flows op.Subtract left right lo s fits h = same_right (operator_code left op.Subtract) left right lo s (kind left ∷ s) fits (binary_one (is_signed left) op.Subtract (is_wide left) lo s refl h)
  applied_flows op.Multiply left right lo s fits h = same_right (operator_code left op.Multiply) left right lo s (kind left ∷ s) fits (binary_one (is_signed left) op.Multiply (is_wide left) lo s refl h)
  applied_flows op.Divide left right lo s fits h = same_right (operator_code left op.Divide) left right lo s (kind left ∷ s) fits (binary_one (is_signed left) op.Divide (is_wide left) lo s refl h)
  applied_flows op.Remainder left right lo s fits h = same_right (operator_code left op.Remainder) left right lo s (kind left ∷ s) fits (binary_one (is_signed left) op.Remainder (is_wide left) lo s refl h)

  pub unary_flows : (operator : UnaryOperator) (operand result : BareType) (lo : ℕ) (s : Stack) → FitsAlone operator operand result → length s + unary_height operator ≤ most → F (unary_code operator operand) lo (kind operand ∷ s) (kind result ∷ s)
  unary_flows unary.Negate operand result lo s fits h =
      subst (λ (r : BareType). F (the.Negate ∷ []) lo (kind operand ∷ s) (kind r ∷ s)) (sym fits.1) (plain e f most Given the.Negate lo (kind operand ∷ s) (kind operand ∷ s) refl refl (unary_takes e f most (is_wide operand) s h))
  unary_flows unary.Complement operand result lo s fits h =
      subst (λ (r : BareType). F (the.Not ∷ []) lo (kind operand ∷ s) (kind r ∷ s)) (sym fits.1) (plain e f most Given the.Not lo (kind operand ∷ s) (kind operand ∷ s) refl refl (unary_takes e f most (is_wide operand) s h))
  unary_flows unary.Not operand result lo s fits h =
      subst (λ (r : BareType). F (zero_of operand ∷ the.CompareEqual ∷ []) lo (kind operand ∷ s) (kind r ∷ s)) (sym fits.1) (equal_zero (zero_of operand) (is_wide operand) lo s h (zero_flows operand lo (kind operand ∷ s) (omega (arith, h))))

  -- ---- updates

  twice : (k : StackType) (lo : ℕ) (s : Stack) → length s + 2 ≤ most → F (the.Duplicate ∷ []) lo (k ∷ s) (k ∷ k ∷ s)
  twice k lo s h = plain e f most Given the.Duplicate lo (k ∷ s) (k ∷ k ∷ s) refl refl (duplicate_takes e f most k s h)

  -- the operator works on a converted value, and what it gives is converted back
  module _ (of : BareType) (operator : Operator) (common right : BareType) (operand : List Instruction) (lo : ℕ) (s : Stack)
      (number : IsNumber of) (promoted : IsPromoted common) (gives : compares operator ≡ false) (fits : FitsRight operator common right) where
    same_result : kind (result_of operator common) ≡ kind common
    same_result = by_test (compares operator) gives
      where
        by_test : (b : Bool) → b ≡ false → kind (cond b type.Bool common) ≡ kind common
        by_test false h = refl
        by_test true h = let bad : true ≡ false = h in cc

    pub worked_flows : (back : List Instruction) (out : Stack) → length s + 2 ≤ most → ((at : ℕ) → F operand at (kind common ∷ s) (kind right ∷ kind common ∷ s)) → ((at : ℕ) → F back at (kind of ∷ s) out)
        → F (conversion of common ++ (operated operator common right operand ++ (conversion common of ++ back))) lo (kind of ∷ s) out
    worked_flows back out h x y =
        let applied = count_code operator right ++ operator_code common operator in
        let n = promoted_number common promoted in
        let low = conversion_low common in
        let high = conversion_low of in
        let at1 = lo + bytes (conversion of common) in
        let at2 = at1 + bytes operand in
        let at3 = at1 + bytes (operated operator common right operand) in
        chain (conversion of common) (operated operator common right operand ++ (conversion common of ++ back)) lo (kind of ∷ s) (kind common ∷ s) out (conversion_flows of common lo s n (omega (arith, h, low)))
        (chain (operated operator common right operand) (conversion common of ++ back) at1 (kind common ∷ s) (kind common ∷ s) out
        (chain operand applied at1 (kind common ∷ s) (kind right ∷ kind common ∷ s) (kind common ∷ s) (x at1)
        (subst (λ (k : StackType). F applied at2 (kind right ∷ kind common ∷ s) (k ∷ s)) same_result (applied_flows operator common right at2 s fits h)))
        (chain (conversion common of) back at3 (kind common ∷ s) (kind of ∷ s) out (conversion_flows common of at3 s number (omega (arith, h, high))) (y (at3 + bytes (conversion common of)))))

  pub changed_flows : (of : BareType) (operator : Operator) (common : BareType) (result : UpdateResult) (right : BareType) (operand : List Instruction) (lo : ℕ) (s : Stack)
      → IsNumber of → IsPromoted common → compares operator ≡ false → FitsRight operator common right → length s + kept result + 1 ≤ most
      → ((at : ℕ) (t : Stack) → length t ≤ length s + kept result → F operand at t (kind right ∷ t))
      → F (changed of operator common result right operand) lo (kind of ∷ s) (kind of ∷ kind of ∷ s)
  changed_flows of operator common New right operand lo s number promoted gives fits h x =
      worked_flows of operator common right operand lo s number promoted gives fits (the.Duplicate ∷ []) (kind of ∷ kind of ∷ s) (omega (arith, h)) (λ at. x at (kind common ∷ s) (omega arith)) (λ at. twice (kind of) at s (omega (arith, h)))
  changed_flows of operator common Old right operand lo s number promoted gives fits h x =
      let work = conversion of common ++ (operated operator common right operand ++ (conversion common of ++ [])) in
      chain (the.Duplicate ∷ []) work lo (kind of ∷ s) (kind of ∷ kind of ∷ s) (kind of ∷ kind of ∷ s) (twice (kind of) lo s (omega (arith, h)))
      (worked_flows of operator common right operand (lo + bytes (the.Duplicate ∷ [])) (kind of ∷ s) number promoted gives fits [] (kind of ∷ kind of ∷ s) (omega (arith, h)) (λ at. x at (kind common ∷ kind of ∷ s) (omega arith))
      (λ at. nothing e f most Given at (kind of ∷ kind of ∷ s)))
