-- Which operations are those of which transitions: the verifier's table of instructions and the machine's agree.
use Rattle.std.proofs.Common.{◌≡◌, ℕ, refl}
use Rattle.std.specs.Prelude.{Bool, true, false, Some, None}
use Rattle.std.specs.Int.{w32, w64, cast_unsigned}
use Rattle.cc_cil.specs.declared.instruction.Instruction.{Instruction}
use Rattle.cc_cil.specs.declared.instruction.Instruction.TheVariants as the
use Rattle.cc_core.specs.declared.types.Operator.{Operator}
use Rattle.cc_core.specs.declared.types.Operator.TheVariants as op
use Rattle.cc_core.specs.declared.types.UnaryOperator.{UnaryOperator}
use Rattle.cc_core.specs.declared.types.UnaryOperator.TheVariants as unary
use Rattle.cc_core.specs.Numbers.{is_shift}
use Rattle.cc_execution.specs.declared.operation.FundamentalType.{FundamentalType}
use Rattle.cc_execution.specs.declared.operation.FundamentalType.TheVariants as of
use Rattle.cc_execution.specs.declared.operation.Operation.{Operation}
use Rattle.cc_execution.specs.declared.operation.Operation.TheVariants as does
use Rattle.cc_execution.specs.Operations.{Names, argument, local, load, store, call, branch, branch_if, branch_compare, leave, resolve}
use Rattle.cc_verify.specs.declared.stack_type.StackType.TheVariants.{Int32, Int64, Null, Object}
use Rattle.cc_verify.specs.declared.transition.Transition.{Transition}
use Rattle.cc_verify.specs.declared.transition.Transition.TheVariants as to
use Rattle.cc_verify.specs.Transitions.{transition_of}
use Rattle.cc_soundness.specs.Kinds.{kind}
use Rattle.cc_soundness.proofs.Operators.{is_equality, is_comparison, is_arithmetic, is_negation}

-- the operation is one of the transition
abbrev pub Matches : Names → ℕ → Transition → Operation → Type 0
Matches names next to.Nothing o = Some does.Nothing ≡ Some o
Matches names next (to.LoadArgument n) o = load (argument names n) ≡ Some o
Matches names next (to.StoreArgument n) o = store (argument names n) ≡ Some o
Matches names next (to.LoadLocal n) o = load (local names n) ≡ Some o
Matches names next (to.StoreLocal n) o = store (local names n) ≡ Some o
Matches names next (to.Push Int32) o = (n : ℕ) × (Some (does.PushInt32 n) ≡ Some o)
Matches names next (to.Push Int64) o = (n : ℕ) × (Some (does.PushInt64 n) ≡ Some o)
Matches names next (to.Push Null) o = Some does.PushNull ≡ Some o
Matches names next (to.Push (Object class)) o = ⊥
Matches names next to.Duplicate o = Some does.Duplicate ≡ Some o
Matches names next to.Pop o = Some does.Pop ≡ Some o
Matches names next (to.Call token) o = call names token ≡ Some o
Matches names next to.Return o = Some does.Return ≡ Some o
Matches names next (to.Branch n) o = branch next n ≡ Some o
Matches names next (to.BranchIf n) o = (truth : Bool) × (branch_if truth next n ≡ Some o)
Matches names next (to.BranchOrdered n) o = (operator : Operator) × (is_signed : Bool) × (is_comparison operator ≡ true) × (branch_compare operator is_signed next n ≡ Some o)
Matches names next (to.BranchEqual n) o = (operator : Operator) × (is_signed : Bool) × (is_equality operator ≡ true) × (branch_compare operator is_signed next n ≡ Some o)
Matches names next to.Binary o = (operator : Operator) × (is_signed : Bool) × (is_arithmetic operator ≡ true) × (Some (does.Compute operator is_signed) ≡ Some o)
Matches names next to.Shift o = (operator : Operator) × (is_signed : Bool) × (is_shift operator ≡ true) × (Some (does.Compute operator is_signed) ≡ Some o)
Matches names next to.Unary o = (operator : UnaryOperator) × (is_negation operator ≡ true) × (Some (does.ComputeAlone operator) ≡ Some o)
Matches names next (to.Convert type) o = (t : FundamentalType) × (kind t ≡ type) × (Some (does.Convert t) ≡ Some o)
Matches names next to.Order o = (operator : Operator) × (is_signed : Bool) × (is_comparison operator ≡ true) × (Some (does.Compute operator is_signed) ≡ Some o)
Matches names next to.Equal o = (operator : Operator) × (is_signed : Bool) × (is_equality operator ≡ true) × (Some (does.Compute operator is_signed) ≡ Some o)
Matches names next to.Throw o = Some does.Throw ≡ Some o
Matches names next to.Rethrow o = Some does.Rethrow ≡ Some o
Matches names next to.EndFinally o = Some does.EndFinally ≡ Some o
Matches names next (to.Leave n) o = leave next n ≡ Some o
Matches names next to.NotBuilt o = ⊥

pub none_some : {A : Type 0} {a : A} {P : Type 0} → None ≡ Some a → P
none_some {a = a} h = let bad : None ≡ Some a = h in cc

pub matches : (names : Names) (next : ℕ) (i : Instruction) (o : Operation) → resolve names next i ≡ Some o → Matches names next (transition_of i) o
matches names next the.Nop o h = h
matches names next the.LoadArgument0 o h = h
matches names next the.LoadArgument1 o h = h
matches names next the.LoadArgument2 o h = h
matches names next the.LoadArgument3 o h = h
matches names next (the.LoadArgumentShort n) o h = h
matches names next (the.LoadArgument n) o h = h
matches names next the.LoadLocal0 o h = h
matches names next the.LoadLocal1 o h = h
matches names next the.LoadLocal2 o h = h
matches names next the.LoadLocal3 o h = h
matches names next (the.LoadLocalShort n) o h = h
matches names next (the.LoadLocal n) o h = h
matches names next the.StoreLocal0 o h = h
matches names next the.StoreLocal1 o h = h
matches names next the.StoreLocal2 o h = h
matches names next the.StoreLocal3 o h = h
matches names next (the.StoreLocalShort n) o h = h
matches names next (the.StoreLocal n) o h = h
matches names next (the.LoadArgumentAddressShort n) o h = none_some h
matches names next (the.LoadArgumentAddress n) o h = none_some h
matches names next (the.LoadLocalAddressShort n) o h = none_some h
matches names next (the.LoadLocalAddress n) o h = none_some h
matches names next (the.StoreArgumentShort n) o h = h
matches names next (the.StoreArgument n) o h = h
matches names next the.LoadNull o h = h
matches names next the.LoadIntMinus1 o h = (0xFFFFFFFF, h)
matches names next the.LoadInt0 o h = (0, h)
matches names next the.LoadInt1 o h = (1, h)
matches names next the.LoadInt2 o h = (2, h)
matches names next the.LoadInt3 o h = (3, h)
matches names next the.LoadInt4 o h = (4, h)
matches names next the.LoadInt5 o h = (5, h)
matches names next the.LoadInt6 o h = (6, h)
matches names next the.LoadInt7 o h = (7, h)
matches names next the.LoadInt8 o h = (8, h)
matches names next (the.LoadIntShort n) o h = ((cast_unsigned w32 n), h)
matches names next (the.LoadInt n) o h = ((cast_unsigned w32 n), h)
matches names next (the.LoadLong n) o h = ((cast_unsigned w64 n), h)
matches names next the.Duplicate o h = h
matches names next the.Pop o h = h
matches names next (the.Call n) o h = h
matches names next (the.CallVirtual n) o h = none_some h
matches names next (the.NewObject n) o h = none_some h
matches names next the.Return o h = h
matches names next (the.BranchShort n) o h = h
matches names next (the.BranchFalseShort n) o h = (false, h)
matches names next (the.BranchTrueShort n) o h = (true, h)
matches names next (the.Branch n) o h = h
matches names next (the.BranchFalse n) o h = (false, h)
matches names next (the.BranchTrue n) o h = (true, h)
matches names next (the.BranchEqual n) o h = (op.Equal, true, refl, h)
matches names next (the.BranchGreaterEqual n) o h = (op.GreaterOrEqual, true, refl, h)
matches names next (the.BranchGreater n) o h = (op.Greater, true, refl, h)
matches names next (the.BranchLessEqual n) o h = (op.LessOrEqual, true, refl, h)
matches names next (the.BranchLess n) o h = (op.Less, true, refl, h)
matches names next (the.BranchNotEqual n) o h = (op.NotEqual, false, refl, h)
matches names next (the.BranchGreaterEqualUnsigned n) o h = (op.GreaterOrEqual, false, refl, h)
matches names next (the.BranchGreaterUnsigned n) o h = (op.Greater, false, refl, h)
matches names next (the.BranchLessEqualUnsigned n) o h = (op.LessOrEqual, false, refl, h)
matches names next (the.BranchLessUnsigned n) o h = (op.Less, false, refl, h)
matches names next the.Add o h = (op.Add, true, refl, h)
matches names next the.Subtract o h = (op.Subtract, true, refl, h)
matches names next the.Multiply o h = (op.Multiply, true, refl, h)
matches names next the.Divide o h = (op.Divide, true, refl, h)
matches names next the.DivideUnsigned o h = (op.Divide, false, refl, h)
matches names next the.Remainder o h = (op.Remainder, true, refl, h)
matches names next the.RemainderUnsigned o h = (op.Remainder, false, refl, h)
matches names next the.And o h = (op.And, true, refl, h)
matches names next the.Or o h = (op.Or, true, refl, h)
matches names next the.Xor o h = (op.ExclusiveOr, true, refl, h)
matches names next the.ShiftLeft o h = (op.ShiftLeft, true, refl, h)
matches names next the.ShiftRight o h = (op.ShiftRight, true, refl, h)
matches names next the.ShiftRightUnsigned o h = (op.ShiftRight, false, refl, h)
matches names next the.Negate o h = (unary.Negate, refl, h)
matches names next the.Not o h = (unary.Complement, refl, h)
matches names next the.ConvertI1 o h = (of.I1, refl, h)
matches names next the.ConvertI2 o h = (of.I2, refl, h)
matches names next the.ConvertI4 o h = (of.I4, refl, h)
matches names next the.ConvertI8 o h = (of.I8, refl, h)
matches names next the.ConvertU4 o h = (of.U4, refl, h)
matches names next the.ConvertU8 o h = (of.U8, refl, h)
matches names next the.ConvertU2 o h = (of.U2, refl, h)
matches names next the.ConvertU1 o h = (of.U1, refl, h)
matches names next (the.LoadObject n) o h = none_some h
matches names next (the.StoreObject n) o h = none_some h
matches names next (the.InitializeObject n) o h = none_some h
matches names next (the.LoadString n) o h = none_some h
matches names next (the.CastClass n) o h = none_some h
matches names next (the.IsInstance n) o h = none_some h
matches names next the.Throw o h = h
matches names next the.Rethrow o h = h
matches names next (the.LoadField n) o h = none_some h
matches names next (the.LoadFieldAddress n) o h = none_some h
matches names next (the.StoreField n) o h = none_some h
matches names next (the.LoadStaticField n) o h = none_some h
matches names next (the.LoadStaticFieldAddress n) o h = none_some h
matches names next (the.StoreStaticField n) o h = none_some h
matches names next (the.Box n) o h = none_some h
matches names next (the.UnboxAny n) o h = none_some h
matches names next (the.NewArray n) o h = none_some h
matches names next the.LoadLength o h = none_some h
matches names next (the.LoadElementAddress n) o h = none_some h
matches names next (the.LoadElement n) o h = none_some h
matches names next (the.StoreElement n) o h = none_some h
matches names next the.EndFinally o h = h
matches names next (the.Leave n) o h = h
matches names next (the.LeaveShort n) o h = h
matches names next the.CompareEqual o h = (op.Equal, true, refl, h)
matches names next the.CompareGreater o h = (op.Greater, true, refl, h)
matches names next the.CompareGreaterUnsigned o h = (op.Greater, false, refl, h)
matches names next the.CompareLess o h = (op.Less, true, refl, h)
matches names next the.CompareLessUnsigned o h = (op.Less, false, refl, h)
matches names next (the.LoadFunction n) o h = none_some h
matches names next (the.Constrained n) o h = none_some h
