-- One step of a run: the operation that is next (ECMA-335, III.3 and III.4).
--   step x frames s   what the next operation leads to, where so many frames may be open at a time
use Rattle.std.specs.Prelude.{ℕ, ◌+◌, ◌==◌, List, [], ◌∷◌, ◌++◌, length, map, slice_get, Bool, true, false, Option, Some, None, nat_lt, if◌then◌else◌}
use Rattle.std.specs.Int.{w32, cast_signed}
use Rattle.cc_base.specs.declared.running.Ending.TheVariants as ending
use Rattle.cc_core.specs.declared.library_call.LibraryCall.{LibraryCall}
use Rattle.cc_core.specs.declared.library_call.LibraryCall.TheVariants.{Write, WriteLine, WriteEmptyLine}
use Rattle.cc_core.specs.declared.library_call.Printed.{Printed}
use Rattle.cc_core.specs.declared.library_call.Printed.TheVariants as printed
use Rattle.cc_core.specs.declared.state.Computed.{Computed}
use Rattle.cc_core.specs.declared.state.Computed.TheVariants as computing
use Rattle.cc_core.specs.declared.world.Value.{Value, Int32, Int64, Null, Object}
use Rattle.cc_core.specs.declared.world.World.{World}
use Rattle.cc_core.specs.Frames.{entered, left}
use Rattle.cc_core.specs.LibraryCalls.{printed_bytes}
use Rattle.cc_core.specs.Numbers.{is_true, computed_alone}
use Rattle.cc_core.specs.Run.{with_output, with_variable}
use Rattle.cc_execution.specs.declared.operation.FundamentalType.{FundamentalType}
use Rattle.cc_execution.specs.declared.operation.FundamentalType.TheVariants as type
use Rattle.cc_execution.specs.declared.operation.Operation.{Operation}
use Rattle.cc_execution.specs.declared.operation.Operation.TheVariants as does
use Rattle.cc_execution.specs.declared.executable.Executable.{Executable}
use Rattle.cc_execution.specs.declared.executable.Method.{Method}
use Rattle.cc_execution.specs.declared.executable.PlacedOperation.{PlacedOperation}
use Rattle.cc_execution.specs.Fundamental.{stored, stored_each, zero_of}
use Rattle.cc_execution.specs.Library.{NULL_REFERENCE}
use Rattle.cc_execution.specs.Operations.{loaded}
use Rattle.cc_execution.specs.Numbers.{operated, conversion}
use Rattle.cc_execution.specs.State.{Frame, State, Next, Ends, Stuck}
use Rattle.cc_execution.specs.Handlers.{go_on, throw, throw_made, leave, end_handler, rethrow}

-- ---- parts of steps

-- what there is, to go on with
abbrev pub given : {A : Type 0} → Option A → (A → Next) → Next
given None go = Stuck
given (Some a) go = go a

-- the value on top, and the stack below it
abbrev pub popping : List Value → (Value → List Value → Next) → Next
popping [] go = Stuck
popping (v ∷ stack) go = go v stack

-- the two values on top, the one below first
abbrev pub popping_two : List Value → (Value → Value → List Value → Next) → Next
popping_two (b ∷ a ∷ stack) go = go a b stack
popping_two _ go = Stuck

-- one value for each of these, the last from the top, before those that are taken already
abbrev pub popping_each : {A : Type 0} → List A → List Value → List Value → (List Value → List Value → Next) → Next
popping_each [] taken stack go = go taken stack
popping_each (a ∷ more) taken [] go = Stuck
popping_each (a ∷ more) taken (v ∷ stack) go = popping_each more (v ∷ taken) stack go

-- on at an offset of the method, with this stack and this world
abbrev pub goes_to : State → ℕ → List Value → World → Next
goes_to s at stack w = go_on s.now.method at stack s.now.pending s.callers w

-- ---- variables

abbrev pub store : ℕ → Value → World → (World → Next) → Next
store place v w go = if nat_lt place (length w.variables) then go (with_variable place v w) else Stuck

-- ---- numbers

-- what was computed, or the exception of a division
abbrev pub on_computed : Executable → State → Computed → (Value → Next) → Next
on_computed x s (computing.Gives v) go = go v
on_computed x s (computing.Throws class) go = throw_made x class s

-- to the target where the truth of a value is this, and else on
abbrev pub branch_on : State → ℕ → ℕ → List Value → Bool → Next
branch_on s target next stack taken = goes_to s (if taken then target else next) stack s.world

abbrev pub is_truth : Bool → Value → Bool
is_truth truth v = if truth then is_true v else (if is_true v then false else true)

-- ---- exceptions

abbrev pub throw_value : Executable → Value → State → Next
throw_value x (Object e) s = throw x e s
throw_value x Null s = throw_made x NULL_REFERENCE s
throw_value x _ s = Stuck

-- ---- the library

-- the type of the parameter of a member that prints
abbrev pub printed_type : Printed → FundamentalType
printed_type printed.Bool = type.Boolean
printed_type printed.Char = type.Char
printed_type printed.I32 = type.I4
printed_type printed.U32 = type.U4
printed_type printed.I64 = type.I8
printed_type printed.U64 = type.U8

abbrev pub print : State → ℕ → List Value → Option (List ℕ) → List ℕ → Next
print s next stack text behind = given text (λ bytes. goes_to s next stack (with_output (bytes ++ behind) s.world))

-- the value on top is the argument
abbrev pub print_value : Printed → List ℕ → ℕ → State → Next
print_value of behind next s = popping s.now.stack (λ v stack. given (stored (printed_type of) v) (λ argument. print s next stack (printed_bytes of argument) behind))

abbrev pub call_library : LibraryCall → ℕ → State → Next
call_library (Write of) next s = print_value of [] next s
call_library (WriteLine of) next s = print_value of (10 ∷ []) next s
call_library WriteEmptyLine next s = print s next s.now.stack (Some []) (10 ∷ [])

-- ---- calls

abbrev pub zeros_of : List FundamentalType → List Value
zeros_of types = map zero_of types

-- The caller waits at its call, without the arguments. The variables of the new frame are the arguments and zero for each local variable (I.12.3.2.2 and II.15.4.1.3).
abbrev pub enter : Executable → ℕ → ℕ → Method → List Value → List Value → State → Next
enter x frames n method arguments stack s =
    if nat_lt (length s.callers + 1) frames
    then go_on n 0 [] [] (record s.now { stack = stack } ∷ s.callers) (entered (arguments ++ zeros_of method.locals) s.world)
    else Ends ending.DepthLimit s.world

abbrev pub call : Executable → ℕ → ℕ → State → Next
call x frames n s =
    given (slice_get x.methods n) (λ method. popping_each (loaded method.parameters) [] s.now.stack (λ taken stack.
    given (stored_each (loaded method.parameters) taken) (λ arguments. enter x frames n method arguments stack s)))

-- ---- returns

-- the result of the entry ends the run
abbrev pub return_last : List Value → World → Next
return_last (Int32 n ∷ []) w = Ends (ending.Returned (cast_signed w32 n)) w
return_last _ w = Stuck

abbrev pub placed_at : List PlacedOperation → ℕ → Option PlacedOperation
placed_at [] at = None
placed_at (p ∷ operations) at = if p.at == at then Some p else placed_at operations at

abbrev pub operations_of : Option Method → List PlacedOperation
operations_of None = []
operations_of (Some method) = method.operations

abbrev pub placed_in : Executable → ℕ → ℕ → Option PlacedOperation
placed_in x method at = placed_at (operations_of (slice_get x.methods method)) at

-- the caller goes on behind its call, with what was returned on its stack
abbrev pub return_to : Executable → List Frame → List Value → World → Next
return_to x [] result w = return_last result w
return_to x (f ∷ callers) result w = given (placed_in x f.method f.at) (λ p. go_on f.method p.next (result ++ f.stack) f.pending callers (left w))

-- the result alone is on the stack, where there is one
abbrev pub return_result : Executable → Option FundamentalType → List Value → State → Next
return_result x None [] s = return_to x s.callers [] s.world
return_result x (Some of) (v ∷ []) s = given (stored of v) (λ result. return_to x s.callers (result ∷ []) s.world)
return_result x _ _ s = Stuck

abbrev pub return : Executable → State → Next
return x s = given (slice_get x.methods s.now.method) (λ method. return_result x method.result s.now.stack s)

-- ---- the operations

abbrev pub act : Executable → ℕ → Operation → ℕ → State → Next
act x frames does.Nothing next s = goes_to s next s.now.stack s.world
act x frames (does.LoadVariable place) next s = given (slice_get s.world.variables place) (λ v. goes_to s next (v ∷ s.now.stack) s.world)
act x frames (does.StoreVariable place of) next s =
    popping s.now.stack (λ v stack. given (stored of v) (λ held. store place held s.world (goes_to s next stack)))
act x frames (does.PushInt32 n) next s = goes_to s next (Int32 n ∷ s.now.stack) s.world
act x frames (does.PushInt64 n) next s = goes_to s next (Int64 n ∷ s.now.stack) s.world
act x frames does.PushNull next s = goes_to s next (Null ∷ s.now.stack) s.world
act x frames does.Duplicate next s = popping s.now.stack (λ v stack. goes_to s next (v ∷ v ∷ stack) s.world)
act x frames does.Pop next s = popping s.now.stack (λ v stack. goes_to s next stack s.world)
act x frames (does.Call n) next s = call x frames n s
act x frames (does.CallLibrary of) next s = call_library of next s
act x frames does.Return next s = return x s
act x frames (does.Branch target) next s = goes_to s target s.now.stack s.world
act x frames (does.BranchIf truth target) next s = popping s.now.stack (λ v stack. branch_on s target next stack (is_truth truth v))
act x frames (does.BranchCompare operator is_signed target) next s =
    popping_two s.now.stack (λ a b stack. given (operated operator is_signed a b) (λ c. on_computed x s c (λ v. branch_on s target next stack (is_true v))))
act x frames (does.Compute operator is_signed) next s =
    popping_two s.now.stack (λ a b stack. given (operated operator is_signed a b) (λ c. on_computed x s c (λ v. goes_to s next (v ∷ stack) s.world)))
act x frames (does.ComputeAlone operator) next s =
    popping s.now.stack (λ a stack. given (computed_alone operator a) (λ v. goes_to s next (v ∷ stack) s.world))
act x frames (does.Convert to) next s = popping s.now.stack (λ a stack. given (conversion to a) (λ v. goes_to s next (v ∷ stack) s.world))
act x frames does.Throw next s = popping s.now.stack (λ v stack. throw_value x v s)
act x frames does.Rethrow next s = rethrow x s.now.pending s
act x frames does.EndFinally next s = end_handler x s.now.pending s
act x frames (does.Leave target) next s = leave x target s

abbrev pub step : Executable → ℕ → State → Next
step x frames s = given (placed_in x s.now.method s.now.at) (λ p. act x frames p.operation p.next s)
