-- Frames, exceptions and leaves go well.
use Rattle.std.proofs.Common.{◌≡◌, ℕ, zero, suc, ◌-◌, ◌<◌, ◌≤◌, List, [], ◌∷◌, ◌++◌, length, take, map, refl, sym, ap, ◌∙◌, subst, arith, append_assoc, length-append}
use Rattle.std.specs.Prelude.{Bool, true, false, not, Option, Some, None, nat_lt, slice_get, if◌then◌else◌}
use Rattle.cc_base.specs.declared.identifiers.ClassId.{ClassId}
use Rattle.cc_base.specs.declared.running.Ending.TheVariants as ending
use Rattle.cc_cil.specs.declared.body.ClauseKind.{ClauseKind}
use Rattle.cc_cil.specs.declared.body.ClauseKind.TheVariants.{Catch, Finally, Fault}
use Rattle.cc_cil.specs.declared.body.Clause.{Clause}
use Rattle.cc_core.specs.declared.world.Object.{Object}
use Rattle.cc_core.specs.declared.world.Value.{Value}
use Rattle.cc_core.specs.declared.world.Value.TheVariants as value
use Rattle.cc_core.specs.declared.world.World.{World}
use Rattle.cc_core.specs.Frames.{left, or_none}
use Rattle.cc_core.specs.Run.{exception, with_object}
use Rattle.cc_core.specs.SourceRun.{message_of}
use Rattle.cc_execution.specs.declared.operation.FundamentalType.{FundamentalType}
use Rattle.cc_execution.specs.declared.executable.Executable.{Executable}
use Rattle.cc_execution.specs.declared.executable.Method.{Method}
use Rattle.cc_execution.specs.Library.{LIBRARY_CLASSES}
use Rattle.cc_execution.specs.Links.{Protected, Handling, chain, left_for}
use Rattle.cc_execution.specs.State.{Pending, Unwinding, Leaving, Caught, Frame, State, Next, Ends}
use Rattle.cc_execution.specs.Handlers.{aborts, uncaught, aborted, matches, catches, callers_catch, clauses_at, chain_at, go_on, outer, unwind_at, unwind, unwind_callers, raise, throw, throw_made, with_world, leave_at, go_out, leave, end_handler, rethrow}
use Rattle.cc_verify.specs.declared.environment.Environment.{Environment}
use Rattle.cc_verify.specs.declared.stack_type.StackType.TheVariants as type
use Rattle.cc_verify.specs.Transitions.{Stack}
use Rattle.cc_verify.specs.Regions.{in_try, in_handler, is_catch, is_clause, each_clause, innermost_handler, is_cleanup, is_catch_handler}
use Rattle.cc_verify.specs.Rules.{Given}
use Rattle.cc_soundness.specs.Kinds.{kind}
use Rattle.cc_soundness.specs.Regions.{handling, Nested, enters_not, EachClause}
use Rattle.cc_soundness.specs.Typed.{Has, BeginsHandler, IsTyped, KeepsRules}
use Rattle.cc_soundness.specs.States.{HaveTypes, IsException, AreExceptions, RunsFor, RunFor, IsFrame, Wait, variable_types, GoesWell}
use Rattle.cc_soundness.proofs.Values.{types_grow}
use Rattle.cc_soundness.proofs.Nesting.{implied, clash, not_both, each_back, each_append, handling_append, handling_none, handling_same, nested_at, after_try, after_handler, enters_from, leaves_by, goes_on_by, each_is}

-- ---- lists

last_at : {A : Type 0} (rest : List A) (a : A) → slice_get (rest ++ a ∷ []) (length rest) ≡ Some a
last_at [] a = refl
last_at (r ∷ rest) a = last_at rest a

take_rest : {A : Type 0} (rest : List A) (a : A) → take (length rest) (rest ++ a ∷ []) ≡ rest
take_rest [] a = refl
take_rest (r ∷ rest) a = ap (λ l. r ∷ l) (take_rest rest a)

before_last : {A : Type 0} (rest : List A) (a : A) → length (rest ++ a ∷ []) - 1 ≡ length rest
before_last rest a = omega (arith, length-append rest (a ∷ []))

-- the variables of the frame around
left_variables : (saved rest : List (List Value)) (variables : List Value) → saved ≡ rest ++ variables ∷ [] → or_none (slice_get saved (length saved - 1)) ≡ variables
left_variables saved rest variables e =
    ap (λ l. or_none (slice_get l (length l - 1))) e ∙ ap (λ n. or_none (slice_get (rest ++ variables ∷ []) n)) (before_last rest variables) ∙ ap or_none (last_at rest variables)

left_saved : (saved rest : List (List Value)) (variables : List Value) → saved ≡ rest ++ variables ∷ [] → take (length saved - 1) saved ≡ rest
left_saved saved rest variables e =
    ap (λ l. take (length l - 1) l) e ∙ ap (λ n. take n (rest ++ variables ∷ [])) (before_last rest variables) ∙ take_rest rest variables

more_objects : (heap : List Object) (o : Object) → length heap ≤ length (heap ++ o ∷ [])
more_objects heap o = omega (arith, length-append heap (o ∷ []))

new_object : (heap : List Object) (o : Object) → length heap < length (heap ++ o ∷ [])
new_object heap o = omega (arith, length-append heap (o ∷ []))

-- ---- clauses that handle

split_on : (before : List Clause) (c : Clause) (cs all : List Clause) → all ≡ before ++ c ∷ cs → all ≡ (before ++ c ∷ []) ++ cs
split_on before c cs all e = e ∙ sym (append_assoc before (c ∷ []) cs)

abbrev first_kind : List Clause → Option ClauseKind
first_kind [] = None
first_kind (c ∷ cs) = Some c.kind

innermost_if : (b : Bool) (c : Clause) (rest : Option ClauseKind) (cs : List Clause) → rest ≡ first_kind cs → (if b then Some c.kind else rest) ≡ first_kind (if b then c ∷ cs else cs)
innermost_if true c rest cs e = refl
innermost_if false c rest cs e = e

innermost_is : (cs : List Clause) (at : ℕ) → innermost_handler cs at ≡ first_kind (handling cs at)
innermost_is [] at = refl
innermost_is (c ∷ cs) at = innermost_if (in_handler c at) c (innermost_handler cs at) (handling cs at) (innermost_is cs at)

-- the innermost handler is that of one of the clauses
record IsFirstHandling (all : List Clause) (at : ℕ) (c : Clause) : Type 0 where
  before : List Clause
  after : List Clause
  split : all ≡ before ++ c ∷ after
  inside : in_handler c at ≡ true

same_head : (c d : Clause) (cs ds : List Clause) → c ∷ cs ≡ d ∷ ds → c ≡ d
same_head c d cs ds e = ap (head_or c) e where
  head_or : Clause → List Clause → Clause
  head_or c [] = c
  head_or c (d ∷ ds) = d

first_handling : (cs : List Clause) (at : ℕ) (c : Clause) (hs : List Clause) → handling cs at ≡ c ∷ hs → IsFirstHandling cs at c
first_handling [] at c hs e = let bad : [] ≡ c ∷ hs = e in cc
first_handling (d ∷ cs) at c hs e = by_test (in_handler d at) refl (first_handling cs at c hs) e where
  by_test : (b : Bool) → in_handler d at ≡ b → (handling cs at ≡ c ∷ hs → IsFirstHandling cs at c) → (if b then d ∷ handling cs at else handling cs at) ≡ c ∷ hs → IsFirstHandling (d ∷ cs) at c
  by_test true i rec e = let same = same_head d c (handling cs at) hs e in record { before = []; after = cs; split = ap (λ z. z ∷ cs) same; inside = subst (λ z. in_handler z at ≡ true) same i }
  by_test false i rec e = let r = rec e in record { before = d ∷ r.before; after = r.after; split = ap (λ l. d ∷ l) r.split; inside = r.inside }

-- ---- what stays as objects are made

run_for_grows : (cs : List Clause) (t : Given) (a b : ℕ) → a ≤ b → (c : Clause) (p : Pending) → RunsFor cs t a c p → RunsFor cs t b c p
run_for_grows cs t a b le c (Caught e) h = (h.0, omega (arith, le, h.1))
run_for_grows cs t a b le c (Unwinding e) h = (h.0, omega (arith, le, h.1))
run_for_grows cs t a b le c (Leaving to) h = h

pub runs_for_grow : (cs : List Clause) (t : Given) (a b : ℕ) → a ≤ b → (hs : List Clause) (pending : List Pending) → RunFor cs t a hs pending → RunFor cs t b hs pending
runs_for_grow cs t a b le [] [] h = tt
runs_for_grow cs t a b le [] (p ∷ pending) h = absurd h
runs_for_grow cs t a b le (c ∷ hs) [] h = absurd h
runs_for_grow cs t a b le (c ∷ hs) (p ∷ pending) h = (run_for_grows cs t a b le c p h.0, runs_for_grow cs t a b le hs pending h.1)

frame_grows : (m : Method) (t : Given) (a b : ℕ) → a ≤ b → (at : ℕ) (pending : List Pending) (variables : List Value) → IsFrame m t a at pending variables → IsFrame m t b at pending variables
frame_grows m t a b le at pending variables h = record {
  variables = types_grow a b le (map kind (variable_types m)) variables h.variables;
  pending = runs_for_grow m.clauses t a b le (handling m.clauses at) pending h.pending;
}

popped : (cs : List Clause) (t : Given) (n : ℕ) (c : Clause) (hs : List Clause) (pending : List Pending) → RunFor cs t n (c ∷ hs) pending → RunFor cs t n hs (outer pending)
popped cs t n c hs [] h = absurd h
popped cs t n c hs (p ∷ pending) h = h.1

module _ (x : Executable) where
  pub object_at : (heap : List Object) (e : ℕ) → AreExceptions x heap → e < length heap → (o : Object) × (slice_get heap e ≡ Some o) × IsException x o
  object_at [] e h lt = absurd (omega (arith, lt))
  object_at (o ∷ heap) zero h lt = (o, refl, h.0)
  object_at (o ∷ heap) (suc e) h lt = object_at heap e h.1 (omega (arith, lt))

  exceptions_append : (heap : List Object) (o : Object) → AreExceptions x heap → IsException x o → AreExceptions x (heap ++ o ∷ [])
  exceptions_append [] o h k = (k, tt)
  exceptions_append (p ∷ heap) o h k = (h.0, exceptions_append heap o h.1 k)

module _ (x : Executable) (tables : ℕ → Given) where
  waits_grow : (a b : ℕ) → a ≤ b → (callers : List Frame) (saved : List (List Value)) (result : Option FundamentalType) → Wait x tables a callers saved result → Wait x tables b callers saved result
  waits_grow a b le [] saved result h = h
  waits_grow a b le (f ∷ callers) saved result h =
      (h.0, h.1, h.2, h.3, h.4, frame_grows h.0 (tables f.method) a b le f.at f.pending h.3 h.5, h.6, h.7, h.8, types_grow a b le h.8 f.stack h.9, h.10, h.11, waits_grow a b le callers h.2 h.0.result h.12)

  -- of a typed state all but the offset, the stack and the pending ways of the innermost frame
  pub record Held (n : ℕ) (callers : List Frame) (w : World) (m : Method) : Type 0 where
    pub is : slice_get x.methods n ≡ Some m
    pub variables : HaveTypes (length w.heap) (map kind (variable_types m)) w.variables
    pub objects : AreExceptions x w.heap
    pub waits : Wait x tables (length w.heap) callers w.callers m.result

  pub go_ok : (n : ℕ) (callers : List Frame) (w : World) (m : Method) → Held n callers w m → (at : ℕ) (s : Stack) (stack : List Value) (pending : List Pending)
      → Has (tables n) at s → HaveTypes (length w.heap) s stack → RunFor m.clauses (tables n) (length w.heap) (handling m.clauses at) pending → GoesWell x tables (go_on n at stack pending callers w)
  go_ok n callers w m held at s stack pending h v r =
      record { method = m; is = held.is; frame = record { variables = held.variables; pending = r }; stack = s; has = h; values = v; objects = held.objects; callers = held.waits }

  -- the frame around, when this one is dropped
  pub left_held : (n : ℕ) (f : Frame) (callers : List Frame) (w : World) (m : Method) (held : Held n (f ∷ callers) w m) → Held f.method callers (left w) (held.waits.0)
  left_held n f callers w m held =
      let h = held.waits in
      record {
        is = h.1;
        variables = subst (λ l. HaveTypes (length w.heap) (map kind (variable_types h.0)) l) (sym (left_variables w.callers h.2 h.3 h.4)) h.5.variables;
        objects = held.objects;
        waits = subst (λ l. Wait x tables (length w.heap) callers l h.0.result) (sym (left_saved w.callers h.2 h.3 h.4)) h.12;
      }

  either_well : (b : Bool) (p q : Next) → GoesWell x tables p → GoesWell x tables q → GoesWell x tables (if b then p else q)
  either_well true p q g h = g
  either_well false p q g h = h

  aborts_ok : (name message : Option (List ℕ)) (w : World) (n m : List ℕ) → name ≡ Some n → message ≡ Some m → GoesWell x tables (aborts name message w)
  aborts_ok name message w n m e f = subst (λ z. GoesWell x tables (aborts z message w)) (sym e) (subst (λ z. GoesWell x tables (aborts (Some n) z w)) (sym f) tt)

  aborted_ok : (k : ℕ) (w : World) → AreExceptions x w.heap → k < length w.heap → GoesWell x tables (aborted x k w)
  aborted_ok k w h lt =
      let o = object_at x w.heap k h lt in
      subst (λ z. GoesWell x tables (uncaught x z w)) (sym o.1)
      (aborts_ok (slice_get x.names (o.0.«class»).0) (message_of (slice_get x.names (o.0.«class»).0) o.0.holds) w o.2.name o.2.message o.2.named (ap (λ z. message_of z o.0.holds) o.2.named ∙ o.2.told))

  module _ (e : Environment) (good : KeepsRules x e tables) where
    module _ (n : ℕ) (m : Method) (callers : List Frame) (w : World) (held : Held n callers w m) where
      typed : IsTyped x e m (tables n)
      typed = good.methods n m held.is

      nested_here : (before : List Clause) (c : Clause) (cs : List Clause) → m.clauses ≡ before ++ c ∷ cs → Nested (before ++ c ∷ cs)
      nested_here before c cs split = subst Nested split typed.nested

      clause_here : (before : List Clause) (c : Clause) (cs : List Clause) → m.clauses ≡ before ++ c ∷ cs → is_clause c ≡ true
      clause_here before c cs split = (nested_at before c cs (nested_here before c cs split)).0

      begins_here : (before : List Clause) (c : Clause) (cs : List Clause) → m.clauses ≡ before ++ c ∷ cs → BeginsHandler (tables n) c.kind c.handler_first
      begins_here before c cs split = (each_back (λ (d : Clause). BeginsHandler (tables n) d.kind d.handler_first) before (c ∷ cs) (subst (EachClause (λ (d : Clause). BeginsHandler (tables n) d.kind d.handler_first)) split typed.handlers)).0

      -- a handler is entered from its try
      enters : (before : List Clause) (c : Clause) (cs : List Clause) → m.clauses ≡ before ++ c ∷ cs → (at : ℕ) → in_try c at ≡ true → (p : Pending) (pending : List Pending) (s : Stack) (stack : List Value)
          → Has (tables n) c.handler_first s → HaveTypes (length w.heap) s stack → RunsFor m.clauses (tables n) (length w.heap) c p → RunFor m.clauses (tables n) (length w.heap) (handling cs at) pending
          → GoesWell x tables (go_on n c.handler_first stack (p ∷ pending) callers w)
      enters before c cs split at t p pending s stack h v r rest =
          let around : handling m.clauses c.handler_first ≡ c ∷ handling cs at = ap (λ l. handling l c.handler_first) split ∙ enters_from before c cs (nested_here before c cs split) at t in
          go_ok n callers w m held c.handler_first s stack (p ∷ pending) h v (subst (λ l. RunFor m.clauses (tables n) (length w.heap) l (p ∷ pending)) (sym around) (r, rest))

      -- ---- exceptions

      module _ (k : ℕ) (there : k < length w.heap) where
        unwinds_at : (before : List Clause) (c : Clause) (cs : List Clause) → m.clauses ≡ before ++ c ∷ cs → (at : ℕ) → in_try c at ≡ true → (pending : List Pending) → RunFor m.clauses (tables n) (length w.heap) (handling cs at) pending
            → (of : ClauseKind) → c.kind ≡ of → BeginsHandler (tables n) of c.handler_first → (matching : Bool) (other : Next) → GoesWell x tables other
            → GoesWell x tables (unwind_at of matching (go_on n c.handler_first (value.Object k ∷ []) (Caught k ∷ pending) callers w) (go_on n c.handler_first [] (Unwinding k ∷ pending) callers w) other)
        unwinds_at before c cs split at t pending r Catch is b matching other g =
            either_well matching _ other (enters before c cs split at t (Caught k) pending (type.Object b.0 ∷ []) (value.Object k ∷ []) b.1 (there, tt) (ap is_catch is, there) r) g
        unwinds_at before c cs split at t pending r Finally is b matching other g = enters before c cs split at t (Unwinding k) pending [] [] b tt (ap is_catch is, there) r
        unwinds_at before c cs split at t pending r Fault is b matching other g = enters before c cs split at t (Unwinding k) pending [] [] b tt (ap is_catch is, there) r

        by_link : (further : World → Next) (before : List Clause) (c : Clause) (cs : List Clause) → m.clauses ≡ before ++ c ∷ cs → (at : ℕ)
            → ((pending : List Pending) → RunFor m.clauses (tables n) (length w.heap) (handling cs at) pending → GoesWell x tables (unwind x further k (chain cs at) n pending callers w))
            → (a b : Bool) → in_try c at ≡ a → in_handler c at ≡ b → (pending : List Pending) → RunFor m.clauses (tables n) (length w.heap) (if b then c ∷ handling cs at else handling cs at) pending
            → GoesWell x tables (unwind x further k ((if a then Protected c ∷ [] else if b then Handling c ∷ [] else []) ++ chain cs at) n pending callers w)
        by_link further before c cs split at rec true true t h pending r = clash (in_handler c at) h (not_both c at (clause_here before c cs split) t)
        by_link further before c cs split at rec true false t h pending r = unwinds_at before c cs split at t pending r c.kind refl (begins_here before c cs split) (matches x w c.class k) _ (rec pending r)
        by_link further before c cs split at rec false true t h pending r = rec (outer pending) (popped m.clauses (tables n) (length w.heap) c (handling cs at) pending r)
        by_link further before c cs split at rec false false t h pending r = rec pending r

        unwinds : (further : World → Next) → GoesWell x tables (further (left w)) → (cs before : List Clause) → m.clauses ≡ before ++ cs → (at : ℕ) (pending : List Pending)
            → RunFor m.clauses (tables n) (length w.heap) (handling cs at) pending → GoesWell x tables (unwind x further k (chain cs at) n pending callers w)
        unwinds further go [] before split at pending r = go
        unwinds further go (c ∷ cs) before split at pending r =
            by_link further before c cs split at (unwinds further go cs (before ++ c ∷ []) (split_on before c cs m.clauses split) at) (in_try c at) (in_handler c at) refl refl pending r

      -- ---- leaves

      module _ (at to : ℕ) (out : each_clause (enters_not at to) m.clauses ≡ true) (empty : Has (tables n) to []) where
        out_here : (before : List Clause) (c : Clause) (cs : List Clause) → m.clauses ≡ before ++ c ∷ cs → each_clause (enters_not at to) (before ++ c ∷ cs) ≡ true
        out_here before c cs split = subst (λ l. each_clause (enters_not at to) l ≡ true) split out

        -- the target, with the handlers that are around it
        arrives : (before cs : List Clause) → m.clauses ≡ before ++ cs → EachClause (λ (d : Clause). in_handler d to ≡ false) before → handling cs to ≡ handling cs at
            → (pending : List Pending) → RunFor m.clauses (tables n) (length w.heap) (handling cs at) pending → GoesWell x tables (go_on n to [] pending callers w)
        arrives before cs split none same pending r =
            let around : handling m.clauses to ≡ handling cs at = ap (λ l. handling l to) split ∙ handling_append before cs to ∙ ap (λ l. l ++ handling cs to) (handling_none before to none) ∙ same in
            go_ok n callers w m held to [] [] pending empty tt (subst (λ l. RunFor m.clauses (tables n) (length w.heap) l pending) (sym around) r)

        both_tries : (before : List Clause) (c : Clause) (cs : List Clause) → m.clauses ≡ before ++ c ∷ cs → in_try c at ≡ true → in_try c to ≡ true → handling cs to ≡ handling cs at
        both_tries before c cs split t u =
            let z = nested_here before c cs split in handling_same cs to c.handler_first (after_try before c cs z to u) ∙ sym (handling_same cs at c.handler_first (after_try before c cs z at t))

        both_handlers : (before : List Clause) (c : Clause) (cs : List Clause) → m.clauses ≡ before ++ c ∷ cs → in_handler c at ≡ true → in_handler c to ≡ true → handling cs to ≡ handling cs at
        both_handlers before c cs split t u =
            let z = nested_here before c cs split in handling_same cs to c.handler_first (after_handler before c cs z to u) ∙ sym (handling_same cs at c.handler_first (after_handler before c cs z at t))

        leaves_at : (before : List Clause) (c : Clause) (cs : List Clause) → m.clauses ≡ before ++ c ∷ cs → in_try c at ≡ true → in_try c to ≡ false → (pending : List Pending) → RunFor m.clauses (tables n) (length w.heap) (handling cs at) pending
            → (of : ClauseKind) → c.kind ≡ of → BeginsHandler (tables n) of c.handler_first → (other : Next) → GoesWell x tables other
            → GoesWell x tables (leave_at of (go_on n c.handler_first [] (Leaving to ∷ pending) callers w) other)
        leaves_at before c cs split t u pending r Catch is b other g = g
        leaves_at before c cs split t u pending r Fault is b other g = g
        leaves_at before c cs split t u pending r Finally is b other g =
            let by = leaves_by before c cs (nested_here before c cs split) at to t u (out_here before c cs split) in
            let all : each_clause (enters_not c.handler_first to) m.clauses ≡ true = subst (λ l. each_clause (enters_not c.handler_first to) l ≡ true) (sym split) by.1 in
            enters before c cs split at t (Leaving to) pending [] [] b tt (ap is_catch is, empty, by.0, all) r

        -- past a link that is left, or at the target where it lies in what the link stands for
        try_left : (before : List Clause) (c : Clause) (cs : List Clause) → m.clauses ≡ before ++ c ∷ cs → EachClause (λ (d : Clause). in_handler d to ≡ false) before
            → ((pending : List Pending) → in_handler c to ≡ false → RunFor m.clauses (tables n) (length w.heap) (handling cs at) pending → GoesWell x tables (go_out to (left_for (chain cs at) to) n pending callers w))
            → in_try c at ≡ true → (u : Bool) → in_try c to ≡ u → (pending : List Pending) → RunFor m.clauses (tables n) (length w.heap) (handling cs at) pending
            → GoesWell x tables (go_out to (if u then [] else Protected c ∷ left_for (chain cs at) to) n pending callers w)
        try_left before c cs split none rec t true u pending r =
            let no = not_both c to (clause_here before c cs split) u in
            arrives (before ++ c ∷ []) cs (split_on before c cs m.clauses split) (each_append (λ (d : Clause). in_handler d to ≡ false) before (c ∷ []) none (no, tt)) (both_tries before c cs split t u) pending r
        try_left before c cs split none rec t false u pending r =
            let by = leaves_by before c cs (nested_here before c cs split) at to t u (out_here before c cs split) in
            leaves_at before c cs split t u pending r c.kind refl (begins_here before c cs split) _ (rec pending by.0 r)

        handler_left : (before : List Clause) (c : Clause) (cs : List Clause) → m.clauses ≡ before ++ c ∷ cs → EachClause (λ (d : Clause). in_handler d to ≡ false) before
            → ((pending : List Pending) → in_handler c to ≡ false → RunFor m.clauses (tables n) (length w.heap) (handling cs at) pending → GoesWell x tables (go_out to (left_for (chain cs at) to) n pending callers w))
            → (h : in_handler c at ≡ true) → (u : Bool) → in_handler c to ≡ u → (pending : List Pending) → RunFor m.clauses (tables n) (length w.heap) (c ∷ handling cs at) pending
            → GoesWell x tables (go_out to (if u then [] else Handling c ∷ left_for (chain cs at) to) n pending callers w)
        handler_left before c cs split none rec h true u pending r =
            let here : handling (c ∷ cs) at ≡ c ∷ handling cs at = ap (λ b. if b then c ∷ handling cs at else handling cs at) h in
            let there : handling (c ∷ cs) to ≡ c ∷ handling cs at = ap (λ b. if b then c ∷ handling cs to else handling cs to) u ∙ ap (λ l. c ∷ l) (both_handlers before c cs split h u) in
            arrives before (c ∷ cs) split none (there ∙ sym here) pending (subst (λ l. RunFor m.clauses (tables n) (length w.heap) l pending) (sym here) r)
        handler_left before c cs split none rec h false u pending r = rec (outer pending) u (popped m.clauses (tables n) (length w.heap) c (handling cs at) pending r)

        not_entered : (before : List Clause) (c : Clause) (cs : List Clause) → m.clauses ≡ before ++ c ∷ cs → in_handler c at ≡ false → in_handler c to ≡ false
        not_entered before c cs split h =
            let all = each_is (enters_not at to) (before ++ c ∷ cs) (out_here before c cs split) in
            let mine = (each_back (λ (d : Clause). enters_not at to d ≡ true) before (c ∷ cs) all).0 in
            by_test (in_handler c to) refl mine where
              by_test : (b : Bool) → in_handler c to ≡ b → enters_not at to c ≡ true → in_handler c to ≡ false
              by_test true e mine = clash (in_handler c at) (implied (in_handler c to) (in_handler c at) mine e) h
              by_test false e mine = e

        link_left : (before : List Clause) (c : Clause) (cs : List Clause) → m.clauses ≡ before ++ c ∷ cs → EachClause (λ (d : Clause). in_handler d to ≡ false) before
            → ((pending : List Pending) → in_handler c to ≡ false → RunFor m.clauses (tables n) (length w.heap) (handling cs at) pending → GoesWell x tables (go_out to (left_for (chain cs at) to) n pending callers w))
            → (a b : Bool) → in_try c at ≡ a → in_handler c at ≡ b → (pending : List Pending) → RunFor m.clauses (tables n) (length w.heap) (if b then c ∷ handling cs at else handling cs at) pending
            → GoesWell x tables (go_out to (left_for ((if a then Protected c ∷ [] else if b then Handling c ∷ [] else []) ++ chain cs at) to) n pending callers w)
        link_left before c cs split none rec true true t h pending r = clash (in_handler c at) h (not_both c at (clause_here before c cs split) t)
        link_left before c cs split none rec true false t h pending r = try_left before c cs split none rec t (in_try c to) refl pending r
        link_left before c cs split none rec false true t h pending r = handler_left before c cs split none rec h (in_handler c to) refl pending r
        link_left before c cs split none rec false false t h pending r = rec pending (not_entered before c cs split h) r

        goes_out : (cs before : List Clause) → m.clauses ≡ before ++ cs → EachClause (λ (d : Clause). in_handler d to ≡ false) before → (pending : List Pending)
            → RunFor m.clauses (tables n) (length w.heap) (handling cs at) pending → GoesWell x tables (go_out to (left_for (chain cs at) to) n pending callers w)
        goes_out [] before split none pending r = arrives before [] split none refl pending r
        goes_out (c ∷ cs) before split none pending r =
            link_left before c cs split none
            (λ pending no r. goes_out cs (before ++ c ∷ []) (split_on before c cs m.clauses split) (each_append (λ (d : Clause). in_handler d to ≡ false) before (c ∷ []) none (no, tt)) pending r)
            (in_try c at) (in_handler c at) refl refl pending r

    -- ---- the two passes

    clauses_are : (n : ℕ) (m : Method) → slice_get x.methods n ≡ Some m → (at : ℕ) → chain_at x n at ≡ chain m.clauses at
    clauses_are n m is at = ap (λ o. chain (clauses_at o) at) is

    unwinds_callers : (callers : List Frame) (n : ℕ) (m : Method) (w : World) → Held n callers w m → (k : ℕ) → k < length w.heap → GoesWell x tables (unwind_callers x k callers (left w))
    unwinds_callers [] n m w held k there = aborted_ok k (left w) held.objects there
    unwinds_callers (f ∷ callers) n m w held k there =
        let h = held.waits in
        let below = left_held n f callers w m held in
        subst (λ l. GoesWell x tables (unwind x (unwind_callers x k callers) k l f.method f.pending callers (left w))) (sym (clauses_are f.method h.0 h.1 f.at))
        (unwinds f.method h.0 callers (left w) below k there (unwind_callers x k callers) (unwinds_callers callers f.method h.0 (left w) below k there) h.0.clauses [] refl f.at f.pending h.5.pending)

    module _ (s : State) (m : Method) (held : Held s.now.method s.callers s.world m) (r : RunFor m.clauses (tables s.now.method) (length s.world.heap) (handling m.clauses s.now.at) s.now.pending) where
      raises : (k : ℕ) → k < length s.world.heap → GoesWell x tables (raise x k (chain_at x s.now.method s.now.at) s.now.method s.now.pending s.callers s.world)
      raises k there =
          subst (λ l. GoesWell x tables (raise x k l s.now.method s.now.pending s.callers s.world)) (sym (clauses_are s.now.method m held.is s.now.at))
          (unwinds s.now.method m s.callers s.world held k there (unwind_callers x k s.callers) (unwinds_callers s.callers s.now.method m s.world held k there) m.clauses [] refl s.now.at s.now.pending r)

      pub throws : (k : ℕ) → k < length s.world.heap → GoesWell x tables (throw x k s)
      throws k there = either_well (catches x s.world k (chain_at x s.now.method s.now.at) (callers_catch x s.world k s.callers)) _ _ (raises k there) (aborted_ok k s.world held.objects there)

      pub leaves : (to : ℕ) → each_clause (enters_not s.now.at to) m.clauses ≡ true → Has (tables s.now.method) to [] → GoesWell x tables (leave x to s)
      leaves to out empty =
          subst (λ l. GoesWell x tables (go_out to (left_for l to) s.now.method s.now.pending s.callers s.world)) (sym (clauses_are s.now.method m held.is s.now.at))
          (goes_out s.now.method m s.callers s.world held s.now.at to out empty m.clauses [] refl tt s.now.pending r)

      -- the end of a cleanup's handler
      ends_by : (hs : List Clause) (pending : List Pending) → handling m.clauses s.now.at ≡ hs → is_cleanup (first_kind hs) ≡ true → RunFor m.clauses (tables s.now.method) (length s.world.heap) hs pending → GoesWell x tables (end_handler x pending s)
      ends_by [] pending e i h = let bad : false ≡ true = i in cc
      ends_by (c ∷ hs) [] e i h = absurd h
      ends_by (c ∷ hs) (Caught k ∷ pending) e i h = let no : not (is_catch c.kind) ≡ false = ap not h.0.0 in clash (not (is_catch c.kind)) i no
      ends_by (c ∷ hs) (Unwinding k ∷ pending) e i h = raises k h.0.1
      ends_by (c ∷ hs) (Leaving to ∷ pending) e i h =
          let q = first_handling m.clauses s.now.at c hs e in
          let z : Nested (q.before ++ c ∷ q.after) = subst Nested q.split (good.methods s.now.method m held.is).nested in
          let all = goes_on_by q.before c q.after z s.now.at to q.inside h.0.2 (subst (λ l. each_clause (enters_not c.handler_first to) l ≡ true) q.split h.0.3) in
          leaves to (subst (λ l. each_clause (enters_not s.now.at to) l ≡ true) (sym q.split) all) h.0.1

      pub handler_ends : is_cleanup (innermost_handler m.clauses s.now.at) ≡ true → GoesWell x tables (end_handler x s.now.pending s)
      handler_ends i = ends_by (handling m.clauses s.now.at) s.now.pending refl (subst (λ z. is_cleanup z ≡ true) (innermost_is m.clauses s.now.at) i) r

      again_by : (hs : List Clause) (pending : List Pending) → is_catch_handler (first_kind hs) ≡ true → RunFor m.clauses (tables s.now.method) (length s.world.heap) hs pending → GoesWell x tables (rethrow x pending s)
      again_by [] pending i h = let bad : false ≡ true = i in cc
      again_by (c ∷ hs) [] i h = absurd h
      again_by (c ∷ hs) (Caught k ∷ pending) i h = throws k h.0.1
      again_by (c ∷ hs) (Unwinding k ∷ pending) i h = clash (is_catch c.kind) i h.0.0
      again_by (c ∷ hs) (Leaving to ∷ pending) i h = clash (is_catch c.kind) i h.0.0

      pub throws_again : is_catch_handler (innermost_handler m.clauses s.now.at) ≡ true → GoesWell x tables (rethrow x s.now.pending s)
      throws_again i = again_by (handling m.clauses s.now.at) s.now.pending (subst (λ z. is_catch_handler z ≡ true) (innermost_is m.clauses s.now.at) i) r

    -- ---- exceptions that the machine makes

    exception_is : (class : ClassId) → class.0 < LIBRARY_CLASSES → IsException x (exception class)
    exception_is class lt = let name = good.names class.0 lt in record { name = name.0; message = name.0; named = name.1; told = refl }

    pub made_held : (n : ℕ) (callers : List Frame) (w : World) (m : Method) → Held n callers w m → (class : ClassId) → class.0 < LIBRARY_CLASSES → Held n callers (with_object (exception class) 3 w) m
    made_held n callers w m held class lt =
        let le = more_objects w.heap (exception class) in
        record {
          is = held.is;
          variables = types_grow (length w.heap) (length (w.heap ++ exception class ∷ [])) le (map kind (variable_types m)) w.variables held.variables;
          objects = exceptions_append x w.heap (exception class) held.objects (exception_is class lt);
          waits = waits_grow (length w.heap) (length (w.heap ++ exception class ∷ [])) le callers w.callers m.result held.waits;
        }

    pub throws_made : (s : State) (m : Method) → Held s.now.method s.callers s.world m → RunFor m.clauses (tables s.now.method) (length s.world.heap) (handling m.clauses s.now.at) s.now.pending
        → (class : ClassId) → class.0 < LIBRARY_CLASSES → GoesWell x tables (throw_made x class s)
    throws_made s m held r class lt =
        let heap = s.world.heap in
        let more = heap ++ exception class ∷ [] in
        either_well (nat_lt s.world.cells 3) (Ends ending.HeapLimit s.world) (throw x (length heap) (with_world (with_object (exception class) 3 s.world) s)) tt
        (throws (with_world (with_object (exception class) 3 s.world) s) m (made_held s.now.method s.callers s.world m held class lt)
        (runs_for_grow m.clauses (tables s.now.method) (length heap) (length more) (more_objects heap (exception class)) (handling m.clauses s.now.at) s.now.pending r)
        (length heap) (new_object heap (exception class)))
