-- What each instruction does to the evaluation stack (ECMA-335, III.1.3, III.3 and III.4). A stack is the list of the types of its values, the one on top first.
--   transition_of i      the one table: what an instruction takes and gives, if the machine has it
--   is_built e f t       the machine has the instruction for the variables and the method that it names
--   takes e f t          how many values it takes, and `gives` how many it leaves in their place
--   effect e f t s       the stack behind it, where its operands have the types that it asks for
--   stores_fit f t s     what it stores to a local variable is of the variable's type
--   falls t, jump t n    whether the next instruction follows, and which other place may
use Rattle.std.specs.Prelude.{◌≡◌, ◌==◌, ◌&&◌, ◌/◌, ◌%◌, ◌^◌, ℕ, zero, suc, ℤ, pos, negsuc, ◌+ℤ◌, Bool, true, false, List, [], ◌∷◌, length, reverse, slice_get, nat_le, Option, Some, None, if◌then◌else◌}
use Rattle.cc_cil.specs.declared.instruction.Instruction.{Instruction}
use Rattle.cc_cil.specs.declared.instruction.Instruction.TheVariants as the
use Rattle.cc_verify.specs.declared.stack_type.StackType.{StackType}
use Rattle.cc_verify.specs.declared.stack_type.StackType.TheVariants.{Int32, Int64, Null, Object}
use Rattle.cc_verify.specs.declared.transition.Transition.{Transition}
use Rattle.cc_verify.specs.declared.transition.Transition.TheVariants as to
use Rattle.cc_verify.specs.declared.environment.MethodType.{MethodType}
use Rattle.cc_verify.specs.declared.environment.Environment.{Environment}
use Rattle.cc_verify.specs.declared.environment.Frame.{Frame}

abbrev pub Stack : Type 0
Stack = List StackType

-- ---- the table (III.3 and III.4)

-- Arguments and variables are loaded and stored, constants and null are pushed; addresses, objects, strings and virtual calls are still to come.
abbrev pub transition_of : Instruction → Transition
transition_of the.Nop = to.Nothing
transition_of the.LoadArgument0 = to.LoadArgument 0
transition_of the.LoadArgument1 = to.LoadArgument 1
transition_of the.LoadArgument2 = to.LoadArgument 2
transition_of the.LoadArgument3 = to.LoadArgument 3
transition_of (the.LoadArgumentShort n) = to.LoadArgument n
transition_of (the.LoadArgument n) = to.LoadArgument n
transition_of the.LoadLocal0 = to.LoadLocal 0
transition_of the.LoadLocal1 = to.LoadLocal 1
transition_of the.LoadLocal2 = to.LoadLocal 2
transition_of the.LoadLocal3 = to.LoadLocal 3
transition_of (the.LoadLocalShort n) = to.LoadLocal n
transition_of (the.LoadLocal n) = to.LoadLocal n
transition_of the.StoreLocal0 = to.StoreLocal 0
transition_of the.StoreLocal1 = to.StoreLocal 1
transition_of the.StoreLocal2 = to.StoreLocal 2
transition_of the.StoreLocal3 = to.StoreLocal 3
transition_of (the.StoreLocalShort n) = to.StoreLocal n
transition_of (the.StoreLocal n) = to.StoreLocal n
transition_of (the.LoadArgumentAddressShort n) = to.NotBuilt
transition_of (the.LoadArgumentAddress n) = to.NotBuilt
transition_of (the.LoadLocalAddressShort n) = to.NotBuilt
transition_of (the.LoadLocalAddress n) = to.NotBuilt
transition_of (the.StoreArgumentShort n) = to.StoreArgument n
transition_of (the.StoreArgument n) = to.StoreArgument n
transition_of the.LoadNull = to.Push Null
transition_of the.LoadIntMinus1 = to.Push Int32
transition_of the.LoadInt0 = to.Push Int32
transition_of the.LoadInt1 = to.Push Int32
transition_of the.LoadInt2 = to.Push Int32
transition_of the.LoadInt3 = to.Push Int32
transition_of the.LoadInt4 = to.Push Int32
transition_of the.LoadInt5 = to.Push Int32
transition_of the.LoadInt6 = to.Push Int32
transition_of the.LoadInt7 = to.Push Int32
transition_of the.LoadInt8 = to.Push Int32
transition_of (the.LoadIntShort n) = to.Push Int32
transition_of (the.LoadInt n) = to.Push Int32
transition_of (the.LoadLong n) = to.Push Int64
transition_of the.Duplicate = to.Duplicate
transition_of the.Pop = to.Pop
transition_of (the.Call n) = to.Call n
transition_of (the.CallVirtual n) = to.NotBuilt
transition_of (the.NewObject n) = to.NotBuilt
transition_of the.Return = to.Return
transition_of (the.BranchShort n) = to.Branch n
transition_of (the.BranchFalseShort n) = to.BranchIf n
transition_of (the.BranchTrueShort n) = to.BranchIf n
transition_of (the.Branch n) = to.Branch n
transition_of (the.BranchFalse n) = to.BranchIf n
transition_of (the.BranchTrue n) = to.BranchIf n
transition_of (the.BranchEqual n) = to.BranchEqual n
transition_of (the.BranchGreaterEqual n) = to.BranchOrdered n
transition_of (the.BranchGreater n) = to.BranchOrdered n
transition_of (the.BranchLessEqual n) = to.BranchOrdered n
transition_of (the.BranchLess n) = to.BranchOrdered n
transition_of (the.BranchNotEqual n) = to.BranchEqual n
transition_of (the.BranchGreaterEqualUnsigned n) = to.BranchOrdered n
transition_of (the.BranchGreaterUnsigned n) = to.BranchOrdered n
transition_of (the.BranchLessEqualUnsigned n) = to.BranchOrdered n
transition_of (the.BranchLessUnsigned n) = to.BranchOrdered n
transition_of the.Add = to.Binary
transition_of the.Subtract = to.Binary
transition_of the.Multiply = to.Binary
transition_of the.Divide = to.Binary
transition_of the.DivideUnsigned = to.Binary
transition_of the.Remainder = to.Binary
transition_of the.RemainderUnsigned = to.Binary
transition_of the.And = to.Binary
transition_of the.Or = to.Binary
transition_of the.Xor = to.Binary
transition_of the.ShiftLeft = to.Shift
transition_of the.ShiftRight = to.Shift
transition_of the.ShiftRightUnsigned = to.Shift
transition_of the.Negate = to.Unary
transition_of the.Not = to.Unary
transition_of the.ConvertI1 = to.Convert Int32
transition_of the.ConvertI2 = to.Convert Int32
transition_of the.ConvertI4 = to.Convert Int32
transition_of the.ConvertI8 = to.Convert Int64
transition_of the.ConvertU4 = to.Convert Int32
transition_of the.ConvertU8 = to.Convert Int64
transition_of the.ConvertU2 = to.Convert Int32
transition_of the.ConvertU1 = to.Convert Int32
transition_of (the.LoadObject n) = to.NotBuilt
transition_of (the.StoreObject n) = to.NotBuilt
transition_of (the.InitializeObject n) = to.NotBuilt
transition_of (the.LoadString n) = to.NotBuilt
transition_of (the.CastClass n) = to.NotBuilt
transition_of (the.IsInstance n) = to.NotBuilt
transition_of the.Throw = to.Throw
transition_of the.Rethrow = to.Rethrow
transition_of (the.LoadField n) = to.NotBuilt
transition_of (the.LoadFieldAddress n) = to.NotBuilt
transition_of (the.StoreField n) = to.NotBuilt
transition_of (the.LoadStaticField n) = to.NotBuilt
transition_of (the.LoadStaticFieldAddress n) = to.NotBuilt
transition_of (the.StoreStaticField n) = to.NotBuilt
transition_of (the.Box n) = to.NotBuilt
transition_of (the.UnboxAny n) = to.NotBuilt
transition_of (the.NewArray n) = to.NotBuilt
transition_of the.LoadLength = to.NotBuilt
transition_of (the.LoadElementAddress n) = to.NotBuilt
transition_of (the.LoadElement n) = to.NotBuilt
transition_of (the.StoreElement n) = to.NotBuilt
transition_of the.EndFinally = to.EndFinally
transition_of (the.Leave n) = to.Leave n
transition_of (the.LeaveShort n) = to.Leave n
transition_of the.CompareEqual = to.Equal
transition_of the.CompareGreater = to.Order
transition_of the.CompareGreaterUnsigned = to.Order
transition_of the.CompareLess = to.Order
transition_of the.CompareLessUnsigned = to.Order
transition_of (the.LoadFunction n) = to.NotBuilt
transition_of (the.Constrained n) = to.NotBuilt

-- ---- what tokens name (III.1.9): the table in the highest byte, and below it the row, counted from 1

abbrev pub table_of : ℕ → ℕ
table_of token = token / 2 ^ 24

abbrev pub row_of : ℕ → ℕ
row_of token = token % 2 ^ 24

abbrev pub at_row : {A : Type 0} → List A → ℕ → Option A
at_row rows zero = None
at_row rows (suc n) = slice_get rows n

-- the method that a token names, of MethodDef or of MemberRef
abbrev pub method_of : Environment → ℕ → Option MethodType
method_of e token = if table_of token == 0x06 then at_row e.methods (row_of token) else if table_of token == 0x0A then at_row e.references (row_of token) else None

-- ---- types

abbrev pub is_integer : StackType → Bool
is_integer Int32 = true
is_integer Int64 = true
is_integer Null = false
is_integer (Object class) = false

abbrev pub is_reference : StackType → Bool
is_reference Int32 = false
is_reference Int64 = false
is_reference Null = true
is_reference (Object class) = true

abbrev pub same_integer : StackType → StackType → Bool
same_integer Int32 Int32 = true
same_integer Int64 Int64 = true
same_integer _ _ = false

-- two that may be compared for being equal
abbrev pub may_equal : StackType → StackType → Bool
may_equal Int32 b = same_integer Int32 b
may_equal Int64 b = same_integer Int64 b
may_equal Null b = is_reference b
may_equal (Object class) b = is_reference b

-- An integer fits its own type alone. No variable of a type that the machine has holds a reference yet.
abbrev pub fits : StackType → Option StackType → Bool
fits a None = false
fits a (Some b) = same_integer a b

-- Exception and the classes that derive from it, which are the library's from 17 to 27
abbrev pub is_exception_class : ℕ → Bool
is_exception_class class = nat_le 17 class && nat_le class 27

-- what may be thrown: an exception, or null, for which the machine throws one of its own
abbrev pub is_thrown : StackType → Bool
is_thrown Int32 = false
is_thrown Int64 = false
is_thrown Null = true
is_thrown (Object class) = is_exception_class class.0

-- ---- which of them the machine has

-- where there is a variable, it is of a type that the machine has
abbrev pub is_built_variable : Option (Option StackType) → Bool
is_built_variable None = true
is_built_variable (Some None) = false
is_built_variable (Some (Some type)) = true

abbrev pub are_built : List (Option StackType) → Bool
are_built [] = true
are_built (None ∷ types) = false
are_built (Some type ∷ types) = are_built types

abbrev pub is_built_callee : Option MethodType → Bool
is_built_callee None = true
is_built_callee (Some m) = are_built m.parameters

abbrev pub is_built : Environment → Frame → Transition → Bool
is_built e f to.NotBuilt = false
is_built e f (to.LoadArgument n) = is_built_variable (slice_get f.arguments n)
is_built e f (to.StoreArgument n) = is_built_variable (slice_get f.arguments n)
is_built e f (to.Call token) = is_built_callee (method_of e token)
is_built e f _ = true

-- ---- counts

abbrev pub result_count : Option StackType → ℕ
result_count None = 0
result_count (Some type) = 1

abbrev pub parameter_count : Option MethodType → ℕ
parameter_count None = 0
parameter_count (Some m) = length m.parameters

abbrev pub callee_result_count : Option MethodType → ℕ
callee_result_count None = 0
callee_result_count (Some m) = result_count m.result

abbrev pub takes : Environment → Frame → Transition → ℕ
takes e f to.Nothing = 0
takes e f (to.LoadArgument n) = 0
takes e f (to.StoreArgument n) = 1
takes e f (to.LoadLocal n) = 0
takes e f (to.StoreLocal n) = 1
takes e f (to.Push type) = 0
takes e f to.Duplicate = 1
takes e f to.Pop = 1
takes e f (to.Call token) = parameter_count (method_of e token)
takes e f to.Return = result_count f.result
takes e f (to.Branch n) = 0
takes e f (to.BranchIf n) = 1
takes e f (to.BranchOrdered n) = 2
takes e f (to.BranchEqual n) = 2
takes e f to.Binary = 2
takes e f to.Shift = 2
takes e f to.Unary = 1
takes e f (to.Convert type) = 1
takes e f to.Order = 2
takes e f to.Equal = 2
takes e f to.Throw = 1
takes e f to.Rethrow = 0
takes e f to.EndFinally = 0
takes e f (to.Leave n) = 0
takes e f to.NotBuilt = 0

-- values that are taken and left in place are counted in both
abbrev pub gives : Environment → Frame → Transition → ℕ
gives e f to.Nothing = 0
gives e f (to.LoadArgument n) = 1
gives e f (to.StoreArgument n) = 0
gives e f (to.LoadLocal n) = 1
gives e f (to.StoreLocal n) = 0
gives e f (to.Push type) = 1
gives e f to.Duplicate = 2
gives e f to.Pop = 0
gives e f (to.Call token) = callee_result_count (method_of e token)
gives e f to.Return = 0
gives e f (to.Branch n) = 0
gives e f (to.BranchIf n) = 0
gives e f (to.BranchOrdered n) = 0
gives e f (to.BranchEqual n) = 0
gives e f to.Binary = 1
gives e f to.Shift = 1
gives e f to.Unary = 1
gives e f (to.Convert type) = 1
gives e f to.Order = 1
gives e f to.Equal = 1
gives e f to.Throw = 0
gives e f to.Rethrow = 0
gives e f to.EndFinally = 0
gives e f (to.Leave n) = 0
gives e f to.NotBuilt = 0

-- ---- the stack behind an instruction

-- the variable on top of the stack
abbrev pub push_variable : Option (Option StackType) → Stack → Option Stack
push_variable None s = None
push_variable (Some None) s = None
push_variable (Some (Some type)) s = Some (type ∷ s)

-- without the value on top, which fits the variable
abbrev pub store_variable : Option (Option StackType) → Stack → Option Stack
store_variable None s = None
store_variable (Some variable) [] = None
store_variable (Some variable) (a ∷ s) = if fits a variable then Some s else None

-- without the value on top, where there is the variable
abbrev pub store_local : Option StackType → Stack → Option Stack
store_local None s = None
store_local (Some type) [] = None
store_local (Some type) (a ∷ s) = Some s

abbrev pub push_local : Option StackType → Stack → Option Stack
push_local None s = None
push_local (Some type) s = Some (type ∷ s)

abbrev pub push_result : Option StackType → Option Stack → Option Stack
push_result result None = None
push_result None (Some s) = Some s
push_result (Some type) (Some s) = Some (type ∷ s)

-- without the arguments, the last of which is on top: of these parameters from the last
abbrev pub pop_arguments : List (Option StackType) → Stack → Option Stack
pop_arguments [] s = Some s
pop_arguments (p ∷ parameters) [] = None
pop_arguments (p ∷ parameters) (a ∷ s) = if fits a p then pop_arguments parameters s else None

abbrev pub call : Option MethodType → Stack → Option Stack
call None s = None
call (Some m) s = push_result m.result (pop_arguments (reverse m.parameters) s)

-- the result alone
abbrev pub return : Option StackType → Stack → Option Stack
return None [] = Some []
return None (a ∷ s) = None
return (Some type) [] = None
return (Some type) (a ∷ []) = if fits a (Some type) then Some [] else None
return (Some type) (a ∷ b ∷ s) = None

abbrev pub pop_one : Stack → Option Stack
pop_one [] = None
pop_one (a ∷ s) = Some s

abbrev pub duplicate : Stack → Option Stack
duplicate [] = None
duplicate (a ∷ s) = Some (a ∷ a ∷ s)

-- one value, which the test lets through, for one of a type
abbrev pub one_for : (StackType → Bool) → (StackType → Stack → Stack) → Stack → Option Stack
one_for test put [] = None
one_for test put (a ∷ s) = if test a then Some (put a s) else None

-- two values, the one on top second, which the test lets through, for what is put in their place
abbrev pub two_for : (StackType → StackType → Bool) → (StackType → Stack → Stack) → Stack → Option Stack
two_for test put [] = None
two_for test put (b ∷ []) = None
two_for test put (b ∷ a ∷ s) = if test a b then Some (put a s) else None

-- an integer, and on top of it an int32
abbrev pub may_shift : StackType → StackType → Bool
may_shift a b = is_integer a && same_integer Int32 b

abbrev pub put_same : StackType → Stack → Stack
put_same a s = a ∷ s

abbrev pub put_nothing : StackType → Stack → Stack
put_nothing a s = s

abbrev pub put_int32 : StackType → Stack → Stack
put_int32 a s = Int32 ∷ s

abbrev pub empty_stack : StackType → Stack → Stack
empty_stack a s = []

abbrev pub effect : Environment → Frame → Transition → Stack → Option Stack
effect e f to.Nothing s = Some s
effect e f (to.LoadArgument n) s = push_variable (slice_get f.arguments n) s
effect e f (to.StoreArgument n) s = store_variable (slice_get f.arguments n) s
effect e f (to.LoadLocal n) s = push_local (slice_get f.locals n) s
effect e f (to.StoreLocal n) s = store_local (slice_get f.locals n) s
effect e f (to.Push type) s = Some (type ∷ s)
effect e f to.Duplicate s = duplicate s
effect e f to.Pop s = pop_one s
effect e f (to.Call token) s = call (method_of e token) s
effect e f to.Return s = return f.result s
effect e f (to.Branch n) s = Some s
effect e f (to.BranchIf n) s = pop_one s
effect e f (to.BranchOrdered n) s = two_for same_integer put_nothing s
effect e f (to.BranchEqual n) s = two_for may_equal put_nothing s
effect e f to.Binary s = two_for same_integer put_same s
effect e f to.Shift s = two_for may_shift put_same s
effect e f to.Unary s = one_for is_integer put_same s
effect e f (to.Convert type) s = one_for is_integer (λ a rest. type ∷ rest) s
effect e f to.Order s = two_for same_integer put_int32 s
effect e f to.Equal s = two_for may_equal put_int32 s
effect e f to.Throw s = one_for is_thrown empty_stack s
effect e f to.Rethrow s = Some []
effect e f to.EndFinally s = Some []
effect e f (to.Leave n) s = Some []
effect e f to.NotBuilt s = None

-- ---- local variables are stored by their fixed types

abbrev pub local_fits : Option StackType → Stack → Bool
local_fits None s = true
local_fits (Some type) [] = true
local_fits (Some type) (a ∷ s) = fits a (Some type)

abbrev pub stores_fit : Frame → Transition → Stack → Bool
stores_fit f (to.StoreLocal n) s = local_fits (slice_get f.locals n) s
stores_fit f _ s = true

-- ---- where it leads

-- the next instruction may follow
abbrev pub falls : Transition → Bool
falls to.Return = false
falls (to.Branch n) = false
falls to.Throw = false
falls to.Rethrow = false
falls to.EndFinally = false
falls (to.Leave n) = false
falls _ = true

-- the offset of a branch or a leave from the next instruction on
abbrev pub branch_offset : Transition → Option ℤ
branch_offset (to.Branch n) = Some n
branch_offset (to.BranchIf n) = Some n
branch_offset (to.BranchOrdered n) = Some n
branch_offset (to.BranchEqual n) = Some n
branch_offset (to.Leave n) = Some n
branch_offset _ = None

-- a place of the code, where it does not lie before the code
abbrev pub natural : ℤ → Option ℕ
natural (pos n) = Some n
natural (negsuc n) = None

abbrev pub target : ℕ → Option ℤ → Option ℕ
target next None = None
target next (Some offset) = natural (pos next +ℤ offset)

-- the other place that may follow
abbrev pub jump : Transition → ℕ → Option ℕ
jump t next = target next (branch_offset t)

abbrev pub is_some_offset : Option ℤ → Bool
is_some_offset None = false
is_some_offset (Some offset) = true

-- it branches, or leaves
abbrev pub branches : Transition → Bool
branches t = is_some_offset (branch_offset t)

abbrev pub is_leave : Transition → Bool
is_leave (to.Leave n) = true
is_leave _ = false

-- ---- what a call that works on a stack in place did: whether there is a stack behind, and which

abbrev pub Leaves : Bool → Option Stack → Stack → Type 0
Leaves true behind new = behind ≡ Some new
Leaves false behind new = behind ≡ None
