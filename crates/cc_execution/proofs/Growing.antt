-- What was printed and told only grows.
use Rattle.std.proofs.Common.{◌+◌, ℕ, zero, suc, List, [], ◌∷◌, ◌++◌, length, sym, ap, ◌∙◌, append_assoc, append-nil}
use Rattle.std.specs.Prelude.{Bool, true, false, Option, Some, None, nat_lt, slice_get, if◌then◌else◌}
use Rattle.cc_base.specs.declared.identifiers.ClassId.{ClassId}
use Rattle.cc_base.specs.declared.running.Ending.TheVariants as ending
use Rattle.cc_cil.specs.declared.body.ClauseKind.{ClauseKind}
use Rattle.cc_cil.specs.declared.body.ClauseKind.TheVariants.{Catch, Finally, Fault}
use Rattle.cc_core.specs.declared.library_call.LibraryCall.{LibraryCall}
use Rattle.cc_core.specs.declared.library_call.LibraryCall.TheVariants.{Write, WriteLine, WriteEmptyLine}
use Rattle.cc_core.specs.declared.library_call.Printed.{Printed}
use Rattle.cc_core.specs.declared.state.Computed.{Computed}
use Rattle.cc_core.specs.declared.state.Computed.TheVariants as computing
use Rattle.cc_core.specs.declared.world.Object.{Object}
use Rattle.cc_core.specs.declared.world.Value.{Value}
use Rattle.cc_core.specs.declared.world.Value.TheVariants as value
use Rattle.cc_core.specs.declared.world.World.{World}
use Rattle.cc_core.specs.Frames.{left}
use Rattle.cc_core.specs.Laws.{Front}
use Rattle.cc_core.specs.LibraryCalls.{printed_bytes}
use Rattle.cc_core.specs.Numbers.{computed_alone}
use Rattle.cc_core.specs.Run.{exception, with_object}
use Rattle.cc_core.specs.SourceRun.{message_of}
use Rattle.cc_execution.specs.declared.operation.FundamentalType.{FundamentalType}
use Rattle.cc_execution.specs.declared.operation.Operation.{Operation}
use Rattle.cc_execution.specs.declared.operation.Operation.TheVariants as does
use Rattle.cc_execution.specs.declared.executable.Executable.{Executable}
use Rattle.cc_execution.specs.declared.executable.Method.{Method}
use Rattle.cc_execution.specs.Fundamental.{stored, stored_each}
use Rattle.cc_execution.specs.Library.{NULL_REFERENCE}
use Rattle.cc_execution.specs.Links.{Link, Protected, Handling, left_for}
use Rattle.cc_execution.specs.Numbers.{operated, conversion}
use Rattle.cc_execution.specs.Operations.{loaded}
use Rattle.cc_execution.specs.State.{Pending, Unwinding, Leaving, Caught, Frame, State, Next, Goes, Ends, Stuck, then_go}
use Rattle.cc_execution.specs.Handlers.{aborts, uncaught, aborted, matches, catches, callers_catch, chain_at, go_on, outer, unwind_at, unwind, unwind_callers, raise, throw, throw_made, with_world, leave_at, go_out, leave, end_handler, rethrow}
use Rattle.cc_execution.specs.Step.{given, popping, popping_two, popping_each, goes_to, store, on_computed, throw_value, print, print_value, printed_type, call_library, enter, call, return_last, return_to, return_result, placed_in, act, step}
use Rattle.cc_execution.specs.Run.{runs}
use Rattle.cc_execution.specs.Laws.{Grows, GrowsTo}

-- ---- worlds

front_same : {A : Type 0} (xs : List A) → Front xs xs
front_same xs = ([], append-nil xs)

front_more : {A : Type 0} (xs more ys : List A) → Front xs ys → Front xs (ys ++ more)
front_more xs more ys (between, e) = (between ++ more, sym (append_assoc xs between more) ∙ ap (λ l. l ++ more) e)

front_through : {A : Type 0} (xs ys zs : List A) → Front xs ys → Front ys zs → Front xs zs
front_through xs ys zs (a, e) (b, f) = (a ++ b, sym (append_assoc xs a b) ∙ ap (λ l. l ++ b) e ∙ f)

pub same : (w : World) → Grows w w
same w = record { output = front_same w.output; events = front_same w.events }

pub through : (u v w : World) → Grows u v → Grows v w → Grows u w
through u v w g h = record { output = front_through u.output v.output w.output g.output h.output; events = front_through u.events v.events w.events g.events h.events }

pub further : (v w : World) (o : Next) → Grows v w → GrowsTo w o → GrowsTo v o
further v w (Goes s) g h = through v w s.world g h
further v w (Ends ending last) g h = through v w last g h
further v w Stuck g h = tt

-- ---- parts of steps

module _ (w0 : World) where
  either_grows : (b : Bool) (p q : Next) → GrowsTo w0 p → GrowsTo w0 q → GrowsTo w0 (if b then p else q)
  either_grows true p q g h = g
  either_grows false p q g h = h

  given_grows : {A : Type 0} (a : Option A) (go : A → Next) → ((x : A) → GrowsTo w0 (go x)) → GrowsTo w0 (given a go)
  given_grows None go g = tt
  given_grows (Some x) go g = g x

  popping_grows : (stack : List Value) (go : Value → List Value → Next) → ((v : Value) (rest : List Value) → GrowsTo w0 (go v rest)) → GrowsTo w0 (popping stack go)
  popping_grows [] go g = tt
  popping_grows (v ∷ stack) go g = g v stack

  popping_two_grows : (stack : List Value) (go : Value → Value → List Value → Next) → ((a b : Value) (rest : List Value) → GrowsTo w0 (go a b rest)) → GrowsTo w0 (popping_two stack go)
  popping_two_grows [] go g = tt
  popping_two_grows (b ∷ []) go g = tt
  popping_two_grows (b ∷ a ∷ stack) go g = g a b stack

  popping_each_grows : {A : Type 0} (each : List A) (taken stack : List Value) (go : List Value → List Value → Next) → ((vs rest : List Value) → GrowsTo w0 (go vs rest)) → GrowsTo w0 (popping_each each taken stack go)
  popping_each_grows [] taken stack go g = g taken stack
  popping_each_grows (a ∷ more) taken [] go g = tt
  popping_each_grows (a ∷ more) taken (v ∷ stack) go g = popping_each_grows more (v ∷ taken) stack go g

  -- ---- exceptions and leaves

  module _ (x : Executable) where
    aborts_grows : (name message : Option (List ℕ)) (w : World) → Grows w0 w → GrowsTo w0 (aborts name message w)
    aborts_grows None message w g = tt
    aborts_grows (Some name) None w g = tt
    aborts_grows (Some name) (Some message) w g = g

    uncaught_grows : (object : Option Object) (w : World) → Grows w0 w → GrowsTo w0 (uncaught x object w)
    uncaught_grows None w g = tt
    uncaught_grows (Some object) w g = aborts_grows (slice_get x.names (object.«class»).0) (message_of (slice_get x.names (object.«class»).0) object.holds) w g

    aborted_grows : (e : ℕ) (w : World) → Grows w0 w → GrowsTo w0 (aborted x e w)
    aborted_grows e w g = uncaught_grows (slice_get w.heap e) w g

    unwind_at_grows : (kind : ClauseKind) (matching : Bool) (into cleans other : Next) → GrowsTo w0 into → GrowsTo w0 cleans → GrowsTo w0 other → GrowsTo w0 (unwind_at kind matching into cleans other)
    unwind_at_grows Catch matching into cleans other g h k = either_grows matching into other g k
    unwind_at_grows Finally matching into cleans other g h k = h
    unwind_at_grows Fault matching into cleans other g h k = h

    left_grows : (w : World) → Grows w0 w → Grows w0 (left w)
    left_grows w g = record { output = g.output; events = g.events }

    unwind_grows : (further : World → Next) → ((w : World) → Grows w0 w → GrowsTo w0 (further w)) → (e : ℕ) (links : List Link) (method : ℕ) (pending : List Pending) (callers : List Frame) (w : World)
        → Grows w0 w → GrowsTo w0 (unwind x further e links method pending callers w)
    unwind_grows further h e [] method pending callers w g = h (left w) (left_grows w g)
    unwind_grows further h e (Handling c ∷ links) method pending callers w g = unwind_grows further h e links method (outer pending) callers w g
    unwind_grows further h e (Protected c ∷ links) method pending callers w g =
        unwind_at_grows c.kind (matches x w c.«class» e) (go_on method c.handler_first (value.Object e ∷ []) (Caught e ∷ pending) callers w) (go_on method c.handler_first [] (Unwinding e ∷ pending) callers w)
        (unwind x further e links method pending callers w) g g (unwind_grows further h e links method pending callers w g)

    unwind_callers_grows : (e : ℕ) (callers : List Frame) (w : World) → Grows w0 w → GrowsTo w0 (unwind_callers x e callers w)
    unwind_callers_grows e [] w g = aborted_grows e w g
    unwind_callers_grows e (f ∷ callers) w g =
        unwind_grows (unwind_callers x e callers) (unwind_callers_grows e callers) e (chain_at x f.method f.at) f.method f.pending callers w g

    raise_grows : (e : ℕ) (links : List Link) (method : ℕ) (pending : List Pending) (callers : List Frame) (w : World) → Grows w0 w → GrowsTo w0 (raise x e links method pending callers w)
    raise_grows e links method pending callers w g = unwind_grows (unwind_callers x e callers) (unwind_callers_grows e callers) e links method pending callers w g

    throw_grows : (e : ℕ) (s : State) → Grows w0 s.world → GrowsTo w0 (throw x e s)
    throw_grows e s g =
        either_grows (catches x s.world e (chain_at x s.now.method s.now.at) (callers_catch x s.world e s.callers))
        (raise x e (chain_at x s.now.method s.now.at) s.now.method s.now.pending s.callers s.world) (aborted x e s.world)
        (raise_grows e (chain_at x s.now.method s.now.at) s.now.method s.now.pending s.callers s.world g) (aborted_grows e s.world g)

    made_grows : (w : World) (object : Object) → Grows w0 w → Grows w0 (with_object object 3 w)
    made_grows w object g = record { output = g.output; events = g.events }

    throw_made_grows : (class : ClassId) (s : State) → Grows w0 s.world → GrowsTo w0 (throw_made x class s)
    throw_made_grows class s g =
        either_grows (nat_lt s.world.cells 3) (Ends ending.HeapLimit s.world) (throw x (length s.world.heap) (with_world (with_object (exception class) 3 s.world) s)) g
        (throw_grows (length s.world.heap) (with_world (with_object (exception class) 3 s.world) s) (made_grows s.world (exception class) g))

    leave_at_grows : (kind : ClauseKind) (cleans other : Next) → GrowsTo w0 cleans → GrowsTo w0 other → GrowsTo w0 (leave_at kind cleans other)
    leave_at_grows Catch cleans other g h = h
    leave_at_grows Finally cleans other g h = g
    leave_at_grows Fault cleans other g h = h

    go_out_grows : (to : ℕ) (links : List Link) (method : ℕ) (pending : List Pending) (callers : List Frame) (w : World) → Grows w0 w → GrowsTo w0 (go_out to links method pending callers w)
    go_out_grows to [] method pending callers w g = g
    go_out_grows to (Handling c ∷ links) method pending callers w g = go_out_grows to links method (outer pending) callers w g
    go_out_grows to (Protected c ∷ links) method pending callers w g =
        leave_at_grows c.kind (go_on method c.handler_first [] (Leaving to ∷ pending) callers w) (go_out to links method pending callers w) g (go_out_grows to links method pending callers w g)

    leave_grows : (to : ℕ) (s : State) → Grows w0 s.world → GrowsTo w0 (leave x to s)
    leave_grows to s g = go_out_grows to (left_for (chain_at x s.now.method s.now.at) to) s.now.method s.now.pending s.callers s.world g

    end_handler_grows : (pending : List Pending) (s : State) → Grows w0 s.world → GrowsTo w0 (end_handler x pending s)
    end_handler_grows [] s g = tt
    end_handler_grows (Unwinding e ∷ pending) s g = raise_grows e (chain_at x s.now.method s.now.at) s.now.method s.now.pending s.callers s.world g
    end_handler_grows (Leaving to ∷ pending) s g = leave_grows to s g
    end_handler_grows (Caught e ∷ pending) s g = tt

    rethrow_grows : (pending : List Pending) (s : State) → Grows w0 s.world → GrowsTo w0 (rethrow x pending s)
    rethrow_grows [] s g = tt
    rethrow_grows (Unwinding e ∷ pending) s g = tt
    rethrow_grows (Leaving to ∷ pending) s g = tt
    rethrow_grows (Caught e ∷ pending) s g = throw_grows e s g

    throw_value_grows : (v : Value) (s : State) → Grows w0 s.world → GrowsTo w0 (throw_value x v s)
    throw_value_grows value.Nothing s g = tt
    throw_value_grows (value.Int32 n) s g = tt
    throw_value_grows (value.Int64 n) s g = tt
    throw_value_grows value.Null s g = throw_made_grows NULL_REFERENCE s g
    throw_value_grows (value.Object e) s g = throw_grows e s g
    throw_value_grows (value.Literal text) s g = tt
    throw_value_grows value.Unbound s g = tt
    throw_value_grows (value.Pointer place) s g = tt
    throw_value_grows _ s g = tt

    on_computed_grows : (s : State) (c : Computed) (go : Value → Next) → Grows w0 s.world → ((v : Value) → GrowsTo w0 (go v)) → GrowsTo w0 (on_computed x s c go)
    on_computed_grows s (computing.Gives v) go g h = h v
    on_computed_grows s (computing.Throws class) go g h = throw_made_grows class s g

    -- ---- calls

    return_last_grows : (result : List Value) (w : World) → Grows w0 w → GrowsTo w0 (return_last result w)
    return_last_grows [] w g = tt
    return_last_grows (value.Int32 n ∷ []) w g = g
    return_last_grows (value.Int32 n ∷ v ∷ more) w g = tt
    return_last_grows (_ ∷ more) w g = tt

    return_to_grows : (callers : List Frame) (result : List Value) (w : World) → Grows w0 w → GrowsTo w0 (return_to x callers result w)
    return_to_grows [] result w g = return_last_grows result w g
    return_to_grows (f ∷ callers) result w g =
        given_grows (placed_in x f.method f.at) (λ p. go_on f.method p.next (result ++ f.stack) f.pending callers (left w)) (λ p. left_grows w g)

    return_result_grows : (type : Option FundamentalType) (stack : List Value) (s : State) → Grows w0 s.world → GrowsTo w0 (return_result x type stack s)
    return_result_grows None [] s g = return_to_grows s.callers [] s.world g
    return_result_grows None (v ∷ stack) s g = tt
    return_result_grows (Some of) [] s g = tt
    return_result_grows (Some of) (v ∷ []) s g = given_grows (stored of v) (λ result. return_to x s.callers (result ∷ []) s.world) (λ result. return_to_grows s.callers (result ∷ []) s.world g)
    return_result_grows (Some of) (v ∷ u ∷ stack) s g = tt

-- ---- one step, and many

module _ (x : Executable) (frames : ℕ) (s : State) where
  enter_grows : (n : ℕ) (method : Method) (arguments stack : List Value) → GrowsTo s.world (enter x frames n method arguments stack s)
  enter_grows n method arguments stack = either_grows s.world (nat_lt (length s.callers + 1) frames) _ _ (record { output = front_same s.world.output; events = front_same s.world.events }) (same s.world)

  call_grows : (n : ℕ) → GrowsTo s.world (call x frames n s)
  call_grows n =
      given_grows s.world (slice_get x.methods n) _ (λ method. popping_each_grows s.world (loaded method.parameters) [] s.now.stack _ (λ taken stack.
      given_grows s.world (stored_each (loaded method.parameters) taken) _ (λ arguments. enter_grows n method arguments stack)))

  print_grows : (next : ℕ) (stack : List Value) (text : Option (List ℕ)) (behind : List ℕ) → GrowsTo s.world (print s next stack text behind)
  print_grows next stack text behind =
      given_grows s.world text _ (λ bytes. record { output = front_more s.world.output (bytes ++ behind) s.world.output (front_same s.world.output); events = front_same s.world.events })

  print_value_grows : (of : Printed) (behind : List ℕ) (next : ℕ) → GrowsTo s.world (print_value of behind next s)
  print_value_grows of behind next =
      popping_grows s.world s.now.stack _ (λ v stack. given_grows s.world (stored (printed_type of) v) _ (λ argument. print_grows next stack (printed_bytes of argument) behind))

  call_library_grows : (of : LibraryCall) (next : ℕ) → GrowsTo s.world (call_library of next s)
  call_library_grows (Write of) next = print_value_grows of [] next
  call_library_grows (WriteLine of) next = print_value_grows of (10 ∷ []) next
  call_library_grows WriteEmptyLine next = print_grows next s.now.stack (Some []) (10 ∷ [])

  store_grows : (place : ℕ) (v : Value) (go : World → Next) → ((w : World) → Grows s.world w → GrowsTo s.world (go w)) → GrowsTo s.world (store place v s.world go)
  store_grows place v go g = either_grows s.world (nat_lt place (length s.world.variables)) _ Stuck (g _ (record { output = front_same s.world.output; events = front_same s.world.events })) tt

  act_grows : (o : Operation) (next : ℕ) → GrowsTo s.world (act x frames o next s)
  act_grows does.Nothing next = same s.world
  act_grows (does.LoadVariable place) next = given_grows s.world (slice_get s.world.variables place) _ (λ v. same s.world)
  act_grows (does.StoreVariable place of) next =
      popping_grows s.world s.now.stack _ (λ v stack. given_grows s.world (stored of v) _ (λ held. store_grows place held (goes_to s next stack) (λ w g. g)))
  act_grows (does.PushInt32 n) next = same s.world
  act_grows (does.PushInt64 n) next = same s.world
  act_grows does.PushNull next = same s.world
  act_grows does.Duplicate next = popping_grows s.world s.now.stack _ (λ v stack. same s.world)
  act_grows does.Pop next = popping_grows s.world s.now.stack _ (λ v stack. same s.world)
  act_grows (does.Call n) next = call_grows n
  act_grows (does.CallLibrary of) next = call_library_grows of next
  act_grows does.Return next = given_grows s.world (slice_get x.methods s.now.method) _ (λ method. return_result_grows s.world x method.result s.now.stack s (same s.world))
  act_grows (does.Branch target) next = same s.world
  act_grows (does.BranchIf truth target) next = popping_grows s.world s.now.stack _ (λ v stack. same s.world)
  act_grows (does.BranchCompare operator is_signed target) next =
      popping_two_grows s.world s.now.stack _ (λ a b stack. given_grows s.world (operated operator is_signed a b) _ (λ c. on_computed_grows s.world x s c _ (same s.world) (λ v. same s.world)))
  act_grows (does.Compute operator is_signed) next =
      popping_two_grows s.world s.now.stack _ (λ a b stack. given_grows s.world (operated operator is_signed a b) _ (λ c. on_computed_grows s.world x s c _ (same s.world) (λ v. same s.world)))
  act_grows (does.ComputeAlone operator) next = popping_grows s.world s.now.stack _ (λ a stack. given_grows s.world (computed_alone operator a) _ (λ v. same s.world))
  act_grows (does.Convert to) next = popping_grows s.world s.now.stack _ (λ a stack. given_grows s.world (conversion to a) _ (λ v. same s.world))
  act_grows does.Throw next = popping_grows s.world s.now.stack _ (λ v stack. throw_value_grows s.world x v s (same s.world))
  act_grows does.Rethrow next = rethrow_grows s.world x s.now.pending s (same s.world)
  act_grows does.EndFinally next = end_handler_grows s.world x s.now.pending s (same s.world)
  act_grows (does.Leave target) next = leave_grows s.world x target s (same s.world)

  pub step_grows : GrowsTo s.world (step x frames s)
  step_grows = given_grows s.world (placed_in x s.now.method s.now.at) _ (λ p. act_grows p.operation p.next)

module _ (x : Executable) (frames : ℕ) where
  behind_grows : (n : ℕ) (w : World) → ((t : State) → GrowsTo t.world (runs x frames n t)) → (o : Next) → GrowsTo w o → GrowsTo w (then_go o (runs x frames n))
  behind_grows n w known (Goes t) g = further w t.world (runs x frames n t) g (known t)
  behind_grows n w known (Ends ending last) g = g
  behind_grows n w known Stuck g = tt

  pub runs_grow_here : (n : ℕ) (s : State) → GrowsTo s.world (runs x frames n s)
  runs_grow_here zero s = same s.world
  runs_grow_here (suc n) s = behind_grows n s.world (runs_grow_here n) (step x frames s) (step_grows x frames s)

pub runs_grow : (x : Executable) (frames n : ℕ) (s : State) → GrowsTo s.world (runs x frames n s)
runs_grow x frames n s = runs_grow_here x frames n s
