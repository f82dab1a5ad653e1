-- Each operation goes well where its instruction keeps the rules.
use Rattle.std.proofs.Common.{◌≡◌, ℕ, zero, suc, ◌+◌, ◌<◌, List, [], ◌∷◌, ◌++◌, length, map, reverse, refl, sym, ap, ◌∙◌, subst, arith, ◌⊎◌, inl, inr, lt-ltb, append-nil}
use Rattle.std.specs.Prelude.{Bool, true, false, ◌==◌, ℤ, pos, negsuc, ◌+ℤ◌, Option, Some, None, option_map, nat_lt, slice_get, if◌then◌else◌}
use Rattle.std.proofs.lemmas.List.{length-map, length-reverse, map-append, reverse-append, reverse-reverse}
use Rattle.std.proofs.lemmas.Option.{same_Some, slice_get_within, slice_get-map}
use Rattle.cc_base.specs.declared.identifiers.ClassId.{ClassId}
use Rattle.cc_base.specs.declared.running.Ending.TheVariants as ending
use Rattle.cc_core.specs.declared.library_call.LibraryCall.{LibraryCall}
use Rattle.cc_core.specs.declared.library_call.LibraryCall.TheVariants.{Write, WriteLine, WriteEmptyLine}
use Rattle.cc_core.specs.declared.library_call.Printed.{Printed}
use Rattle.cc_core.specs.declared.library_call.Printed.TheVariants as printed
use Rattle.cc_core.specs.declared.state.Computed.{Computed}
use Rattle.cc_core.specs.declared.state.Computed.TheVariants as computing
use Rattle.cc_core.specs.declared.types.Operator.{Operator}
use Rattle.cc_core.specs.declared.types.UnaryOperator.{UnaryOperator}
use Rattle.cc_core.specs.declared.world.Value.{Value}
use Rattle.cc_core.specs.declared.world.Value.TheVariants as value
use Rattle.cc_core.specs.declared.world.World.{World}
use Rattle.cc_core.specs.Frames.{entered, left}
use Rattle.cc_core.specs.LibraryCalls.{printed_bytes}
use Rattle.cc_core.specs.Numbers.{is_true, computed_alone}
use Rattle.cc_core.specs.Run.{with_output, with_variable}
use Rattle.cc_execution.specs.declared.operation.FundamentalType.{FundamentalType}
use Rattle.cc_execution.specs.declared.operation.FundamentalType.TheVariants as of
use Rattle.cc_execution.specs.declared.operation.Operation.{Operation}
use Rattle.cc_execution.specs.declared.operation.Operation.TheVariants as does
use Rattle.cc_execution.specs.declared.executable.Executable.{Executable}
use Rattle.cc_execution.specs.declared.executable.Method.{Method}
use Rattle.cc_execution.specs.declared.executable.PlacedOperation.{PlacedOperation}
use Rattle.cc_execution.specs.Fundamental.{stored, stored_each}
use Rattle.cc_execution.specs.Library.{LIBRARY_CLASSES, NULL_REFERENCE}
use Rattle.cc_execution.specs.Operations.{Names, names_in, loaded, argument_from, argument, local, load, store, at_row, row_of, table_of, are_loaded, call_method, call_defined, natural, target}
use Rattle.cc_execution.specs.Numbers.{operated, conversion}
use Rattle.cc_execution.specs.State.{Frame, State, Next, Ends, Stuck}
use Rattle.cc_execution.specs.Handlers.{go_on, throw_made}
use Rattle.cc_execution.specs.Step.{given, popping, popping_two, popping_each, goes_to, on_computed, branch_on, is_truth, throw_value, printed_type, print, print_value, call_library, zeros_of, enter, return_last, placed_at, operations_of, placed_in, return_to, return_result, act}
use Rattle.cc_execution.specs.Step as machine
use Rattle.cc_verify.specs.declared.environment.Environment.{Environment}
use Rattle.cc_verify.specs.declared.stack_type.StackType.{StackType}
use Rattle.cc_verify.specs.declared.stack_type.StackType.TheVariants.{Int32, Int64, Null, Object}
use Rattle.cc_verify.specs.declared.transition.Transition.{Transition}
use Rattle.cc_verify.specs.declared.transition.Transition.TheVariants as to
use Rattle.cc_verify.specs.Transitions.{Stack, fits, same_integer, may_equal, may_shift, is_integer, is_thrown, push_variable, store_variable, store_local, push_local, push_result, pop_arguments, pop_one, duplicate, one_for, two_for, put_same, put_nothing, put_int32, empty_stack, effect, local_fits, stores_fit, falls, jump, is_leave, method_of}
use Rattle.cc_verify.specs.Transitions as rules
use Rattle.cc_verify.specs.Regions.{innermost_handler}
use Rattle.cc_verify.specs.Rules.{Given, stands}
use Rattle.cc_soundness.specs.Kinds.{kind, kinds, method_kinds, member_kinds, frame_kinds}
use Rattle.cc_soundness.specs.Regions.{handling}
use Rattle.cc_soundness.specs.Typed.{Has, Passes, Jumps, KeepsRules}
use Rattle.cc_soundness.specs.States.{HasType, HaveTypes, RunFor, with_result, variable_types, GoesWell}
use Rattle.cc_soundness.proofs.Values.{types_append, types_length, type_at, types_set, int32_is, int64_is, reference_is, fits_is, zeros_are, stored_is, stored_are}
use Rattle.cc_soundness.proofs.Nesting.{passing, exiting, beginning}
use Rattle.cc_soundness.proofs.Operators.{Makes, Operated, is_negation, binary_ok, order_ok, shift_ok, equal_ok, alone_ok, converts}
use Rattle.cc_soundness.proofs.Matching.{Matches, none_some}
use Rattle.cc_soundness.proofs.Frames.{Held, go_ok, left_held, throws, leaves, handler_ends, throws_again, throws_made}

-- ---- options and lists

some_of : {A B : Type 0} (f : A → B) (o : Option A) (b : B) → option_map f o ≡ Some b → (a : A) × (o ≡ Some a) × (f a ≡ b)
some_of f None b h = none_some h
some_of f (Some a) b h = (a, refl, same_Some (f a) b h)

if_some : {A : Type 0} (b : Bool) (a c : A) → (if b then Some a else None) ≡ Some c → (b ≡ true) × (a ≡ c)
if_some true a c h = (refl, same_Some a c h)
if_some false a c h = none_some h

get_front : {A : Type 0} (xs ys : List A) (i : ℕ) (a : A) → slice_get xs i ≡ Some a → slice_get (xs ++ ys) i ≡ Some a
get_front [] ys i a h = none_some h
get_front (x ∷ xs) ys zero a h = h
get_front (x ∷ xs) ys (suc i) a h = get_front xs ys i a h

get_back : {A : Type 0} (xs ys : List A) (i : ℕ) (a : A) → slice_get ys i ≡ Some a → slice_get (xs ++ ys) (length xs + i) ≡ Some a
get_back [] ys i a h = let e : 0 + i ≡ i = omega arith in subst (λ n. slice_get ys n ≡ Some a) (sym e) h
get_back (x ∷ xs) ys i a h = let e : suc (length xs) + i ≡ suc (length xs + i) = omega arith in subst (λ n. slice_get (x ∷ (xs ++ ys)) n ≡ Some a) (sym e) (get_back xs ys i a h)

get_map : {A B : Type 0} (f : A → B) (xs : List A) (i : ℕ) (a : A) → slice_get xs i ≡ Some a → slice_get (map f xs) i ≡ Some (f a)
get_map f xs i a h = slice_get-map f xs i ∙ ap (option_map f) h

map_reversed : {A B : Type 0} (f : A → B) (xs : List A) → map f (reverse xs) ≡ reverse (map f xs)
map_reversed f [] = refl
map_reversed f (x ∷ xs) = ap (map f) (reverse-append (x ∷ []) xs) ∙ map-append f (reverse xs) (x ∷ []) ∙ ap (λ l. l ++ f x ∷ []) (map_reversed f xs) ∙ sym (reverse-append (f x ∷ []) (map f xs))

onto : {A : Type 0} → List A → List A → List A
onto [] ys = ys
onto (x ∷ xs) ys = onto xs (x ∷ ys)

onto_is : {A : Type 0} (xs ys : List A) → onto xs ys ≡ reverse xs ++ ys
unfolding onto
onto_is [] ys = refl
onto_is (x ∷ xs) ys = onto_is xs (x ∷ ys) ∙ sym (ap (λ l. l ++ ys) (reverse-append (x ∷ []) xs) ∙ append_three (reverse xs) x ys) where
  append_three : {A : Type 0} (zs : List A) (x : A) (ys : List A) → (zs ++ x ∷ []) ++ ys ≡ zs ++ x ∷ ys
  append_three [] x ys = refl
  append_three (z ∷ zs) x ys = ap (λ l. z ∷ l) (append_three zs x ys)

onto_back : {A : Type 0} (xs : List A) → onto (reverse xs) [] ≡ xs
onto_back xs = onto_is (reverse xs) [] ∙ append-nil (reverse (reverse xs)) ∙ reverse-reverse xs

-- ---- variables that tokens name

record Named (parameters : List (Option FundamentalType)) (base n place : ℕ) (t : FundamentalType) : Type 0 where
  at : ℕ
  is : place ≡ base + at
  has : slice_get (loaded parameters) at ≡ Some t
  kind_is : slice_get (kinds parameters) n ≡ Some (Some (kind t))

argument_is : (parameters : List (Option FundamentalType)) (base n : ℕ) (v : ℕ × FundamentalType) → argument_from base parameters n ≡ Some v → Named parameters base n v.0 v.1
argument_is [] base n v h = none_some h
argument_is (None ∷ parameters) base zero v h = none_some h
argument_is (Some t ∷ parameters) base zero v h =
    let e : ◌≡◌ {A = ℕ × FundamentalType} (base, t) v = same_Some _ _ h in
    record { at = 0; is = omega (arith, ap (λ z. z.0) e); has = ap (λ (z : ℕ × FundamentalType). Some z.1) e; kind_is = ap (λ (z : ℕ × FundamentalType). Some (Some (kind z.1))) e }
argument_is (None ∷ parameters) base (suc n) v h = let r = argument_is parameters base n v h in record { at = r.at; is = r.is; has = r.has; kind_is = r.kind_is }
argument_is (Some t ∷ parameters) base (suc n) v h = let r = argument_is parameters (suc base) n v h in record { at = suc r.at; is = omega (arith, r.is); has = r.has; kind_is = r.kind_is }

loaded_kinds : (parameters : List (Option FundamentalType)) → are_loaded parameters ≡ true → kinds parameters ≡ map (λ k. Some k) (map kind (loaded parameters))
loaded_kinds [] h = refl
loaded_kinds (None ∷ parameters) h = let bad : false ≡ true = h in cc
loaded_kinds (Some t ∷ parameters) h = ap (λ l. Some (kind t) ∷ l) (loaded_kinds parameters h)

pub same_natural : (z : ℤ) → natural z ≡ rules.natural z
same_natural (pos n) = refl
same_natural (negsuc n) = refl

-- ---- arguments on the stack

pops_are : (ks : List StackType) (s rest : Stack) → pop_arguments (map (λ k. Some k) ks) s ≡ Some rest → s ≡ ks ++ rest
pops_are [] s rest h = same_Some s rest h
pops_are (k ∷ ks) [] rest h = none_some h
pops_are (k ∷ ks) (a ∷ s) rest h = by_test (fits a (Some k)) refl (pops_are ks s rest) h where
  by_test : (b : Bool) → fits a (Some k) ≡ b → (pop_arguments (map (λ k. Some k) ks) s ≡ Some rest → s ≡ ks ++ rest) → (if b then pop_arguments (map (λ k. Some k) ks) s else None) ≡ Some rest → a ∷ s ≡ k ∷ (ks ++ rest)
  by_test true e rec h = ap (λ z. z ∷ s) (fits_is a k e) ∙ ap (λ l. k ∷ l) (rec h)
  by_test false e rec h = none_some h

result_on : (r : Option FundamentalType) (p : Option Stack) (out : Stack) → push_result (option_map kind r) p ≡ Some out → (rest : Stack) × (p ≡ Some rest) × (with_result r rest ≡ out)
result_on None None out h = none_some h
result_on None (Some s) out h = (s, refl, same_Some s out h)
result_on (Some t) None out h = none_some h
result_on (Some t) (Some s) out h = (s, refl, same_Some (kind t ∷ s) out h)

-- what a call takes, and what it gives
record Called (parameters : List (Option FundamentalType)) (result : Option FundamentalType) (s out : Stack) : Type 0 where
  rest : Stack
  is : s ≡ reverse (map kind (loaded parameters)) ++ rest
  gives : with_result result rest ≡ out

called : (parameters : List (Option FundamentalType)) (result : Option FundamentalType) (s out : Stack) → are_loaded parameters ≡ true
    → push_result (option_map kind result) (pop_arguments (reverse (kinds parameters)) s) ≡ Some out → Called parameters result s out
called parameters result s out all h =
    let r = result_on result (pop_arguments (reverse (kinds parameters)) s) out h in
    let same : map (λ k. Some k) (reverse (map kind (loaded parameters))) ≡ reverse (kinds parameters) = map_reversed (λ k. Some k) (map kind (loaded parameters)) ∙ ap reverse (sym (loaded_kinds parameters all)) in
    record { rest = r.0; is = pops_are (reverse (map kind (loaded parameters))) s r.0 (ap (λ l. pop_arguments l s) same ∙ r.1); gives = r.2 }

-- ---- two values, and one

record Two (test : StackType → StackType → Bool) (put : StackType → Stack → Stack) (s out : Stack) : Type 0 where
  under : StackType
  top : StackType
  rest : Stack
  is : s ≡ top ∷ under ∷ rest
  passes : test under top ≡ true
  gives : put under rest ≡ out

two_is : (test : StackType → StackType → Bool) (put : StackType → Stack → Stack) (s out : Stack) → two_for test put s ≡ Some out → Two test put s out
two_is test put [] out h = none_some h
two_is test put (b ∷ []) out h = none_some h
two_is test put (b ∷ a ∷ s) out h = let p = if_some (test a b) (put a s) out h in record { under = a; top = b; rest = s; is = refl; passes = p.0; gives = p.1 }

record One (test : StackType → Bool) (put : StackType → Stack → Stack) (s out : Stack) : Type 0 where
  top : StackType
  rest : Stack
  is : s ≡ top ∷ rest
  passes : test top ≡ true
  gives : put top rest ≡ out

one_is : (test : StackType → Bool) (put : StackType → Stack → Stack) (s out : Stack) → one_for test put s ≡ Some out → One test put s out
one_is test put [] out h = none_some h
one_is test put (a ∷ s) out h = let p = if_some (test a) (put a s) out h in record { top = a; rest = s; is = refl; passes = p.0; gives = p.1 }

-- ---- what is printed

printed_ok : (n : ℕ) (what : Printed) (v : Value) → HasType n (kind (printed_type what)) v → (bytes : List ℕ) × (printed_bytes what v ≡ Some bytes)
printed_ok n printed.Bool v h = let i = int32_is n v h in subst (λ z. (bytes : List ℕ) × (printed_bytes printed.Bool z ≡ Some bytes)) (sym i.1) (_, refl)
printed_ok n printed.Char v h = let i = int32_is n v h in subst (λ z. (bytes : List ℕ) × (printed_bytes printed.Char z ≡ Some bytes)) (sym i.1) (_, refl)
printed_ok n printed.I32 v h = let i = int32_is n v h in subst (λ z. (bytes : List ℕ) × (printed_bytes printed.I32 z ≡ Some bytes)) (sym i.1) (_, refl)
printed_ok n printed.U32 v h = let i = int32_is n v h in subst (λ z. (bytes : List ℕ) × (printed_bytes printed.U32 z ≡ Some bytes)) (sym i.1) (_, refl)
printed_ok n printed.I64 v h = let i = int64_is n v h in subst (λ z. (bytes : List ℕ) × (printed_bytes printed.I64 z ≡ Some bytes)) (sym i.1) (_, refl)
printed_ok n printed.U64 v h = let i = int64_is n v h in subst (λ z. (bytes : List ℕ) × (printed_bytes printed.U64 z ≡ Some bytes)) (sym i.1) (_, refl)

-- ---- parts of steps

module _ (Well : Next → Type 0) where
  pub given_ok : {A : Type 0} (o : Option A) (go : A → Next) (a : A) → o ≡ Some a → Well (go a) → Well (given o go)
  given_ok o go a e h = subst (λ z. Well (given z go)) (sym e) h

  if_ok : (b : Bool) (p q : Next) → b ≡ true → Well p → Well (if b then p else q)
  if_ok b p q e h = subst (λ z. Well (if z then p else q)) (sym e) h

  pub either_ok : (b : Bool) (p q : Next) → Well p → Well q → Well (if b then p else q)
  either_ok true p q g h = g
  either_ok false p q g h = h

  popping_ok : (n : ℕ) (t : StackType) (rest : Stack) (stack : List Value) (go : Value → List Value → Next) → HaveTypes n (t ∷ rest) stack
      → ((v : Value) (under : List Value) → HasType n t v → HaveTypes n rest under → Well (go v under)) → Well (popping stack go)
  popping_ok n t rest [] go h k = absurd h
  popping_ok n t rest (v ∷ stack) go h k = k v stack h.0 h.1

  popping_two_ok : (n : ℕ) (b a : StackType) (rest : Stack) (stack : List Value) (go : Value → Value → List Value → Next) → HaveTypes n (b ∷ a ∷ rest) stack
      → ((v u : Value) (under : List Value) → HasType n a v → HasType n b u → HaveTypes n rest under → Well (go v u under)) → Well (popping_two stack go)
  popping_two_ok n b a rest [] go h k = absurd h
  popping_two_ok n b a rest (u ∷ []) go h k = absurd h.1
  popping_two_ok n b a rest (u ∷ v ∷ stack) go h k = k v u stack h.1.0 h.0 h.1.1

  popping_each_ok : {A : Type 0} (n : ℕ) (each : List A) (qs ts : List StackType) (rest : Stack) (taken stack : List Value) (go : List Value → List Value → Next) → length each ≡ length qs
      → HaveTypes n ts taken → HaveTypes n (qs ++ rest) stack → ((vs under : List Value) → HaveTypes n (onto qs ts) vs → HaveTypes n rest under → Well (go vs under)) → Well (popping_each each taken stack go)
  unfolding onto
  popping_each_ok n [] [] ts rest taken stack go e h g k = k taken stack h g
  popping_each_ok n [] (q ∷ qs) ts rest taken stack go e h g k = absurd (omega (arith, e))
  popping_each_ok n (a ∷ each) [] ts rest taken stack go e h g k = absurd (omega (arith, e))
  popping_each_ok n (a ∷ each) (q ∷ qs) ts rest taken [] go e h g k = absurd g
  popping_each_ok n (a ∷ each) (q ∷ qs) ts rest taken (v ∷ stack) go e h g k = popping_each_ok n each qs (q ∷ ts) rest (v ∷ taken) stack go (omega (arith, e)) (g.0, h) g.1 k

-- ---- returns

result_back : (r : Option FundamentalType) (s : Stack) → with_result r [] ++ s ≡ with_result r s
result_back None s = refl
result_back (Some t) s = refl

module _ (x : Executable) (tables : ℕ → Given) (e : Environment) (good : KeepsRules x e tables) where
  last_ok : (n : ℕ) (values : List Value) (w : World) → HaveTypes n (with_result (Some of.I4) []) values → GoesWell x tables (return_last values w)
  last_ok n [] w h = absurd h
  last_ok n (v ∷ values) w h = by_rest values h.1 where
    by_rest : (values : List Value) → HaveTypes n [] values → GoesWell x tables (return_last (v ∷ values) w)
    by_rest (u ∷ values) k = absurd k
    by_rest [] k = let i = int32_is n v h.0 in subst (λ z. GoesWell x tables (return_last (z ∷ []) w)) (sym i.1) tt

  returns_ok : (n : ℕ) (callers : List Frame) (w : World) (m : Method) → Held x tables n callers w m → (values : List Value) → HaveTypes (length w.heap) (with_result m.result []) values → GoesWell x tables (return_to x callers values w)
  returns_ok n [] w m held values v = last_ok (length w.heap) values w (subst (λ r. HaveTypes (length w.heap) (with_result r []) values) held.waits.1 v)
  returns_ok n (f ∷ callers) w m held values v =
      let h = held.waits in
      let below = left_held x tables n f callers w m held in
      let placed : placed_in x f.method f.at ≡ Some h.6 = ap (λ o. placed_at (operations_of o) f.at) h.1 ∙ h.7 in
      let around = passing f.at h.6.next h.0.clauses h.11 in
      given_ok (GoesWell x tables) (placed_in x f.method f.at) (λ p. go_on f.method p.next (values ++ f.stack) f.pending callers (left w)) h.6 placed
      (go_ok x tables f.method callers (left w) h.0 below h.6.next (with_result m.result h.8) (values ++ f.stack) f.pending h.10
      (subst (λ l. HaveTypes (length w.heap) l (values ++ f.stack)) (result_back m.result h.8) (types_append (length w.heap) (with_result m.result []) h.8 values f.stack v h.9))
      (subst (λ l. RunFor h.0.clauses (tables f.method) (length w.heap) l f.pending) around h.5.pending))

  module _ (frames : ℕ) (s : State) (m : Method) (held : Held x tables s.now.method s.callers s.world m)
      (runs : RunFor m.clauses (tables s.now.method) (length s.world.heap) (handling m.clauses s.now.at) s.now.pending)
      (st : Stack) (values : HaveTypes (length s.world.heap) st s.now.stack) (placed : PlacedOperation) (placed_is : placed_at m.operations s.now.at ≡ Some placed) where
    abbrev pub Well : Next → Type 0
    Well o = GoesWell x tables o

    abbrev pub objects : ℕ
    objects = length s.world.heap

    abbrev pub next : ℕ
    next = placed.next

    abbrev pub Leads : ℕ → Stack → Type 0
    Leads at out = Passes m.clauses (tables s.now.method) s.now.at at out

    goes : (at : ℕ) (out : Stack) (stack : List Value) → Leads at out → HaveTypes objects out stack → Well (goes_to s at stack s.world)
    goes at out stack p h =
        go_ok x tables s.now.method s.callers s.world m held at out stack s.now.pending p.0 h (subst (λ l. RunFor m.clauses (tables s.now.method) objects l s.now.pending) (passing s.now.at at m.clauses p.1) runs)

    -- the same with values of these types
    abbrev on : Stack → Type 0
    on out = HaveTypes objects out s.now.stack

    is_stack : (other : Stack) → st ≡ other → on other
    is_stack other same = subst (λ l. on l) same values

    raised : (class : ClassId) → class.0 < LIBRARY_CLASSES → Well (throw_made x class s)
    raised class lt = throws_made x tables e good s m held runs class lt

    -- ---- variables

    load_ok : (place : ℕ) (t : FundamentalType) → slice_get (variable_types m) place ≡ Some t → Leads next (kind t ∷ st) → Well (act x frames (does.LoadVariable place) next s)
    load_ok place t has p =
        let q = type_at objects (map kind (variable_types m)) s.world.variables place (kind t) held.variables (get_map kind (variable_types m) place t has) in
        given_ok Well (slice_get s.world.variables place) (λ v. goes_to s next (v ∷ s.now.stack) s.world) q.0 q.1 (goes next (kind t ∷ st) (q.0 ∷ s.now.stack) p (q.2, values))

    set_held : (place : ℕ) (t : FundamentalType) (u : Value) → slice_get (variable_types m) place ≡ Some t → HasType objects (kind t) u → Held x tables s.now.method s.callers (with_variable place u s.world) m
    set_held place t u has h = record {
      is = held.is;
      variables = types_set objects (map kind (variable_types m)) s.world.variables place (kind t) u held.variables (get_map kind (variable_types m) place t has) h;
      objects = held.objects;
      waits = held.waits;
    }

    in_variables : (place : ℕ) (t : FundamentalType) → slice_get (variable_types m) place ≡ Some t → nat_lt place (length s.world.variables) ≡ true
    in_variables place t has =
        let a = slice_get_within (map kind (variable_types m)) place (kind t) (get_map kind (variable_types m) place t has) in
        let b = types_length objects (map kind (variable_types m)) s.world.variables held.variables in
        lt-ltb place (length s.world.variables) (omega (arith, a, b))

    store_ok : (place : ℕ) (t : FundamentalType) (rest : Stack) → slice_get (variable_types m) place ≡ Some t → st ≡ kind t ∷ rest → Leads next rest → Well (act x frames (does.StoreVariable place t) next s)
    store_ok place t rest has same p =
        popping_ok Well objects (kind t) rest s.now.stack _ (is_stack (kind t ∷ rest) same) (λ v under h g.
        let u = stored_is objects t v h in
        given_ok Well (stored t v) (λ new. machine.store place new s.world (goes_to s next under)) u.0 u.1
        (if_ok Well (nat_lt place (length s.world.variables)) _ Stuck (in_variables place t has)
        (go_ok x tables s.now.method s.callers (with_variable place u.0 s.world) m (set_held place t u.0 has u.2) next rest under s.now.pending p.0 g
        (subst (λ l. RunFor m.clauses (tables s.now.method) objects l s.now.pending) (passing s.now.at next m.clauses p.1) runs))))

    -- ---- numbers

    computed_ok : (t : StackType) (c : Computed) (go : Value → Next) → Makes objects t c → ((v : Value) → HasType objects t v → Well (go v)) → Well (on_computed x s c go)
    computed_ok t (computing.Gives v) go h k = k v h
    computed_ok t (computing.Throws class) go h k = raised class h

    -- an operator on the two values on top
    compute_ok : (test : StackType → StackType → Bool) (put : StackType → Stack → Stack) (out : Stack) (operator : Operator) (is_signed : Bool) (two : Two test put st out) (t : StackType)
        → ((v u : Value) → HasType objects two.under v → HasType objects two.top u → Operated objects t operator is_signed v u) → Leads next (t ∷ two.rest) → Well (act x frames (does.Compute operator is_signed) next s)
    compute_ok test put out operator is_signed two t known p =
        popping_two_ok Well objects two.top two.under two.rest s.now.stack _ (is_stack (two.top ∷ two.under ∷ two.rest) two.is) (λ v u under h g k.
        let c = known v u h g in
        given_ok Well (operated operator is_signed v u) (λ c. on_computed x s c (λ v. goes_to s next (v ∷ under) s.world)) c.0 c.1
        (computed_ok t c.0 _ c.2 (λ r hr. goes next (t ∷ two.rest) (r ∷ under) p (hr, k))))

    branch_ok : (to : ℕ) (rest : Stack) (under : List Value) (taken : Bool) → Leads to rest → Leads next rest → HaveTypes objects rest under → Well (branch_on s to next under taken)
    branch_ok to rest under true p q h = goes to rest under p h
    branch_ok to rest under false p q h = goes next rest under q h

    compare_ok : (test : StackType → StackType → Bool) (put : StackType → Stack → Stack) (out : Stack) (operator : Operator) (is_signed : Bool) (to : ℕ) (two : Two test put st out)
        → ((v u : Value) → HasType objects two.under v → HasType objects two.top u → Operated objects Int32 operator is_signed v u) → Leads to two.rest → Leads next two.rest
        → Well (act x frames (does.BranchCompare operator is_signed to) next s)
    compare_ok test put out operator is_signed to two known p q =
        popping_two_ok Well objects two.top two.under two.rest s.now.stack _ (is_stack (two.top ∷ two.under ∷ two.rest) two.is) (λ v u under h g k.
        let c = known v u h g in
        given_ok Well (operated operator is_signed v u) (λ c. on_computed x s c (λ v. branch_on s to next under (is_true v))) c.0 c.1
        (computed_ok Int32 c.0 _ c.2 (λ r hr. branch_ok to two.rest under (is_true r) p q k)))

    branch_if_ok : (truth : Bool) (to : ℕ) (a : StackType) (rest : Stack) → st ≡ a ∷ rest → Leads to rest → Leads next rest → Well (act x frames (does.BranchIf truth to) next s)
    branch_if_ok truth to a rest same p q = popping_ok Well objects a rest s.now.stack _ (is_stack (a ∷ rest) same) (λ v under h g. branch_ok to rest under (is_truth truth v) p q g)

    alone_is_ok : (operator : UnaryOperator) (a : StackType) (rest : Stack) → is_negation operator ≡ true → is_integer a ≡ true → st ≡ a ∷ rest → Leads next (a ∷ rest) → Well (act x frames (does.ComputeAlone operator) next s)
    alone_is_ok operator a rest k i same p =
        popping_ok Well objects a rest s.now.stack _ (is_stack (a ∷ rest) same) (λ v under h g.
        let u = alone_ok objects operator a v k i h in
        given_ok Well (computed_alone operator v) (λ v. goes_to s next (v ∷ under) s.world) u.0 u.1 (goes next (a ∷ rest) (u.0 ∷ under) p (u.2, g)))

    convert_ok : (t : FundamentalType) (a : StackType) (rest : Stack) → is_integer a ≡ true → st ≡ a ∷ rest → Leads next (kind t ∷ rest) → Well (act x frames (does.Convert t) next s)
    convert_ok t a rest i same p =
        popping_ok Well objects a rest s.now.stack _ (is_stack (a ∷ rest) same) (λ v under h g.
        let u = converts objects t a v i h in
        given_ok Well (conversion t v) (λ v. goes_to s next (v ∷ under) s.world) u.0 u.1 (goes next (kind t ∷ rest) (u.0 ∷ under) p (u.2, g)))

    -- ---- the stack

    pop_ok : (a : StackType) (rest : Stack) → st ≡ a ∷ rest → Leads next rest → Well (act x frames does.Pop next s)
    pop_ok a rest same p = popping_ok Well objects a rest s.now.stack _ (is_stack (a ∷ rest) same) (λ v under h g. goes next rest under p g)

    duplicate_ok : (a : StackType) (rest : Stack) → st ≡ a ∷ rest → Leads next (a ∷ a ∷ rest) → Well (act x frames does.Duplicate next s)
    duplicate_ok a rest same p = popping_ok Well objects a rest s.now.stack _ (is_stack (a ∷ rest) same) (λ v under h g. goes next (a ∷ a ∷ rest) (v ∷ v ∷ under) p (h, (h, g)))

    -- ---- exceptions

    throw_type : (a : StackType) (v : Value) → is_thrown a ≡ true → HasType objects a v → Well (throw_value x v s)
    throw_type Int32 v i h = cc
    throw_type Int64 v i h = cc
    throw_type Null v i h = throw_reference v (reference_is objects Null v refl h) where
      throw_reference : (v : Value) → (v ≡ value.Null) ⊎ ((k : ℕ) × (v ≡ value.Object k) × (k < objects)) → Well (throw_value x v s)
      throw_reference v (inl q) = subst (λ z. Well (throw_value x z s)) (sym q) (raised NULL_REFERENCE (omega arith))
      throw_reference v (inr q) = subst (λ z. Well (throw_value x z s)) (sym q.1) (throws x tables e good s m held runs q.0 q.2)
    throw_type (Object class) v i h = throw_reference v (reference_is objects (Object class) v refl h) where
      throw_reference : (v : Value) → (v ≡ value.Null) ⊎ ((k : ℕ) × (v ≡ value.Object k) × (k < objects)) → Well (throw_value x v s)
      throw_reference v (inl q) = subst (λ z. Well (throw_value x z s)) (sym q) (raised NULL_REFERENCE (omega arith))
      throw_reference v (inr q) = subst (λ z. Well (throw_value x z s)) (sym q.1) (throws x tables e good s m held runs q.0 q.2)

    throw_ok : (a : StackType) (rest : Stack) → is_thrown a ≡ true → st ≡ a ∷ rest → Well (act x frames does.Throw next s)
    throw_ok a rest i same = popping_ok Well objects a rest s.now.stack _ (is_stack (a ∷ rest) same) (λ v under h g. throw_type a v i h)

    -- ---- calls

    enter_ok : (n : ℕ) (callee : Method) (arguments under : List Value) (rest out : Stack) → slice_get x.methods n ≡ Some callee → HaveTypes objects (map kind (loaded callee.parameters)) arguments
        → HaveTypes objects rest under → with_result callee.result rest ≡ out → Leads next out → Well (enter x frames n callee arguments under s)
    enter_ok n callee arguments under rest out is h g gives p =
        let ok = good.methods n callee is in
        let variables = types_append objects (map kind (loaded callee.parameters)) (map kind callee.locals) arguments (zeros_of callee.locals) h (zeros_are objects callee.locals) in
        let new : Held x tables n (record s.now { stack = under } ∷ s.callers) (entered (arguments ++ zeros_of callee.locals) s.world) callee = record {
          is = is;
          variables = subst (λ l. HaveTypes objects l (arguments ++ zeros_of callee.locals)) (sym (map-append kind (loaded callee.parameters) callee.locals)) variables;
          objects = held.objects;
          waits = (m, held.is, s.world.callers, s.world.variables, refl, record { variables = held.variables; pending = runs }, placed, placed_is, rest, g, subst (Has (tables s.now.method) next) (sym gives) p.0, p.1, held.waits);
        } in
        either_ok Well (nat_lt (length s.callers + 1) frames) _ (Ends ending.DepthLimit s.world)
        (go_ok x tables n (record s.now { stack = under } ∷ s.callers) (entered (arguments ++ zeros_of callee.locals) s.world) callee new 0 [] [] [] ok.start tt
        (subst (λ l. RunFor callee.clauses (tables n) objects l []) (sym (beginning callee.clauses ok.outside)) tt))
        tt

    call_ok : (n : ℕ) (callee : Method) (out : Stack) → slice_get x.methods n ≡ Some callee → Called callee.parameters callee.result st out → Leads next out → Well (act x frames (does.Call n) next s)
    call_ok n callee out is c p =
        let ts = map kind (loaded callee.parameters) in
        let size : length (loaded callee.parameters) ≡ length (reverse ts) = sym (length-reverse ts ∙ length-map (loaded callee.parameters) kind) in
        given_ok Well (slice_get x.methods n) _ callee is
        (popping_each_ok Well objects (loaded callee.parameters) (reverse ts) [] c.rest [] s.now.stack _ size tt (is_stack (reverse ts ++ c.rest) c.is) (λ taken under h g.
        let u = stored_are objects (loaded callee.parameters) taken (subst (λ l. HaveTypes objects l taken) (onto_back ts) h) in
        given_ok Well (stored_each (loaded callee.parameters) taken) _ u.0 u.1 (enter_ok n callee u.0 under c.rest out is u.2 g c.gives p)))

    print_ok : (rest : Stack) (under : List Value) (bytes behind : List ℕ) → HaveTypes objects rest under → Leads next rest → Well (goes_to s next under (with_output (bytes ++ behind) s.world))
    print_ok rest under bytes behind g p =
        let new : Held x tables s.now.method s.callers (with_output (bytes ++ behind) s.world) m = record { is = held.is; variables = held.variables; objects = held.objects; waits = held.waits } in
        go_ok x tables s.now.method s.callers (with_output (bytes ++ behind) s.world) m new next rest under s.now.pending p.0 g
        (subst (λ l. RunFor m.clauses (tables s.now.method) objects l s.now.pending) (passing s.now.at next m.clauses p.1) runs)

    print_value_ok : (what : Printed) (behind : List ℕ) (rest : Stack) → st ≡ kind (printed_type what) ∷ rest → Leads next rest → Well (print_value what behind next s)
    print_value_ok what behind rest same p =
        popping_ok Well objects (kind (printed_type what)) rest s.now.stack _ (is_stack (kind (printed_type what) ∷ rest) same) (λ v under h g.
        let u = stored_is objects (printed_type what) v h in
        let b = printed_ok objects what u.0 u.2 in
        given_ok Well (stored (printed_type what) v) _ u.0 u.1 (given_ok Well (printed_bytes what u.0) _ b.0 b.1 (print_ok rest under b.0 behind g p)))

    library_ok : (which : LibraryCall) (out : Stack) → rules.call (Some (member_kinds which)) st ≡ Some out → Leads next out → Well (act x frames (does.CallLibrary which) next s)
    library_ok (Write what) out h p =
        let r = result_on None (pop_arguments (Some (kind (printed_type what)) ∷ []) st) out h in
        print_value_ok what [] r.0 (pops_are (kind (printed_type what) ∷ []) st r.0 r.1) (subst (λ l. Leads next l) (sym r.2) p)
    library_ok (WriteLine what) out h p =
        let r = result_on None (pop_arguments (Some (kind (printed_type what)) ∷ []) st) out h in
        print_value_ok what (10 ∷ []) r.0 (pops_are (kind (printed_type what) ∷ []) st r.0 r.1) (subst (λ l. Leads next l) (sym r.2) p)
    library_ok WriteEmptyLine out h p =
        let same : st ≡ out = same_Some st out h in print_ok out s.now.stack [] (10 ∷ []) (is_stack out same) p

    -- ---- returns

    return_ok : (r : Option FundamentalType) (out : Stack) → m.result ≡ r → rules.return (option_map kind r) st ≡ Some out → Well (return_result x r s.now.stack s)
    return_ok None out is h = nothing st s.now.stack h values where
      nothing : (st : Stack) (stack : List Value) → rules.return None st ≡ Some out → HaveTypes objects st stack → Well (return_result x None stack s)
      nothing [] [] h v = returns_ok s.now.method s.callers s.world m held [] (subst (λ r. HaveTypes objects (with_result r []) []) (sym is) tt)
      nothing [] (u ∷ stack) h v = absurd v
      nothing (a ∷ st) stack h v = none_some h
    return_ok (Some t) out is h = something st s.now.stack h values where
      something : (st : Stack) (stack : List Value) → rules.return (Some (kind t)) st ≡ Some out → HaveTypes objects st stack → Well (return_result x (Some t) stack s)
      something [] stack h v = none_some h
      something (a ∷ []) [] h v = absurd v
      something (a ∷ []) (u ∷ w ∷ stack) h v = absurd v.1
      something (a ∷ []) (u ∷ []) h v =
          let p = if_some (fits a (Some (kind t))) [] out h in
          let k = stored_is objects t u (subst (λ z. HasType objects z u) (fits_is a (kind t) p.0) v.0) in
          given_ok Well (stored t u) (λ result. return_to x s.callers (result ∷ []) s.world) k.0 k.1
          (returns_ok s.now.method s.callers s.world m held (k.0 ∷ []) (subst (λ r. HaveTypes objects (with_result r []) (k.0 ∷ [])) (sym is) (k.2, tt)))
      something (a ∷ b ∷ st) stack h v = none_some h

    returns : (out : Stack) → rules.return (option_map kind m.result) st ≡ Some out → Well (act x frames does.Return next s)
    returns out h = given_ok Well (slice_get x.methods s.now.method) (λ method. return_result x method.result s.now.stack s) m held.is (return_ok m.result out refl h)

    -- ---- calls by tokens

    abbrev pub names : Names
    names = names_in x m

    defined_ok : (row : ℕ) (o : Operation) (out : Stack) → call_defined names row ≡ Some o → rules.call (rules.at_row e.methods row) st ≡ Some out → Leads next out → Well (act x frames o next s)
    defined_ok zero o out h ef p = none_some h
    defined_ok (suc n) o out h ef p = by_callee (slice_get x.methods n) refl
        (sym (ap (λ l. call_method l n) (slice_get-map (λ (other : Method). other.parameters) x.methods n)) ∙ h)
        (sym (ap (λ l. rules.call l st) (ap (λ l. slice_get l n) good.environment.methods ∙ slice_get-map method_kinds x.methods n)) ∙ ef) where
          by_callee : (c : Option Method) → slice_get x.methods n ≡ c → call_method (option_map (λ (other : Method). other.parameters) c) n ≡ Some o → rules.call (option_map method_kinds c) st ≡ Some out → Well (act x frames o next s)
          by_callee None is h ef = none_some h
          by_callee (Some callee) is h ef =
              let q = if_some (are_loaded callee.parameters) (does.Call n) o h in
              subst (λ z. Well (act x frames z next s)) q.1 (call_ok n callee out is (called callee.parameters callee.result st out q.0 ef) p)

    referred_ok : (row : ℕ) (o : Operation) (out : Stack) → option_map does.CallLibrary (at_row x.references row) ≡ Some o → rules.call (rules.at_row e.references row) st ≡ Some out → Leads next out → Well (act x frames o next s)
    referred_ok zero o out h ef p = none_some h
    referred_ok (suc n) o out h ef p = by_member (slice_get x.references n) h
        (sym (ap (λ l. rules.call l st) (ap (λ l. slice_get l n) good.environment.references ∙ slice_get-map member_kinds x.references n)) ∙ ef) where
          by_member : (c : Option LibraryCall) → option_map does.CallLibrary c ≡ Some o → rules.call (option_map member_kinds c) st ≡ Some out → Well (act x frames o next s)
          by_member None h ef = none_some h
          by_member (Some which) h ef = subst (λ z. Well (act x frames z next s)) (same_Some (does.CallLibrary which) o h) (library_ok which out ef p)

    token_ok : (token : ℕ) (o : Operation) (out : Stack) (a b : Bool)
        → (if a then call_defined names (row_of token) else if b then option_map does.CallLibrary (at_row x.references (row_of token)) else None) ≡ Some o
        → rules.call (if a then rules.at_row e.methods (row_of token) else if b then rules.at_row e.references (row_of token) else None) st ≡ Some out → Leads next out → Well (act x frames o next s)
    token_ok token o out true b h ef p = defined_ok (row_of token) o out h ef p
    token_ok token o out false true h ef p = referred_ok (row_of token) o out h ef p
    token_ok token o out false false h ef p = none_some h

    -- ---- by transitions

    is_op : (a o : Operation) → Some a ≡ Some o → Well (act x frames a next s) → Well (act x frames o next s)
    is_op a o h g = subst (λ z. Well (act x frames z next s)) (same_Some a o h) g

    target_is : (f : ℕ → Operation) (offset : ℤ) (o : Operation) → option_map f (target next offset) ≡ Some o → (to : ℕ) × (rules.natural (pos next +ℤ offset) ≡ Some to) × (f to ≡ o)
    target_is f offset o h = let r = some_of f (target next offset) o h in (r.0, sym (same_natural (pos next +ℤ offset)) ∙ r.1, r.2)

    -- what follows a transition keeps the rules
    pub record Follows (t : Transition) (out : Stack) : Type 0 where
      pub leaves_it : effect e (frame_kinds m) t st ≡ Some out
      pub stores : stores_fit (frame_kinds m) t st ≡ true
      pub fall : falls t ≡ true → Leads next out
      pub jump_to : (at : ℕ) → jump t next ≡ Some at → Jumps t m.clauses (tables s.now.method) s.now.at at out
      pub stays : stands t (innermost_handler m.clauses s.now.at) ≡ true

    load_argument : (n : ℕ) (o : Operation) (out : Stack) → load (argument names n) ≡ Some o → Follows (to.LoadArgument n) out → Well (act x frames o next s)
    load_argument n o out h k =
        let v = some_of (λ (v : ℕ × FundamentalType). does.LoadVariable v.0) (argument names n) o h in
        let a = argument_is m.parameters 0 n v.0 v.1 in
        let place : slice_get (variable_types m) v.0.0 ≡ Some v.0.1 = subst (λ i. slice_get (variable_types m) i ≡ Some v.0.1) (omega (arith, a.is)) (get_front (loaded m.parameters) m.locals a.at v.0.1 a.has) in
        let gives : kind v.0.1 ∷ st ≡ out = same_Some _ out (sym (ap (λ z. push_variable z st) a.kind_is) ∙ k.leaves_it) in
        subst (λ z. Well (act x frames z next s)) v.2 (load_ok v.0.0 v.0.1 place (subst (λ l. Leads next l) (sym gives) (k.fall refl)))

    local_is : (n : ℕ) (v : ℕ × FundamentalType) → local names n ≡ Some v → (slice_get (variable_types m) v.0 ≡ Some v.1) × (slice_get (map kind m.locals) n ≡ Some (kind v.1))
    local_is n v h =
        let r = some_of (λ t. (length (loaded m.parameters) + n, t)) (slice_get m.locals n) v h in
        let here : slice_get (variable_types m) (length (loaded m.parameters) + n) ≡ Some r.0 = get_back (loaded m.parameters) m.locals n r.0 r.1 in
        (subst (λ (z : ℕ × FundamentalType). slice_get (variable_types m) z.0 ≡ Some z.1) r.2 here, subst (λ (z : ℕ × FundamentalType). slice_get (map kind m.locals) n ≡ Some (kind z.1)) r.2 (get_map kind m.locals n r.0 r.1))

    load_local : (n : ℕ) (o : Operation) (out : Stack) → load (local names n) ≡ Some o → Follows (to.LoadLocal n) out → Well (act x frames o next s)
    load_local n o out h k =
        let v = some_of (λ (v : ℕ × FundamentalType). does.LoadVariable v.0) (local names n) o h in
        let a = local_is n v.0 v.1 in
        let gives : kind v.0.1 ∷ st ≡ out = same_Some _ out (sym (ap (λ z. push_local z st) a.1) ∙ k.leaves_it) in
        subst (λ z. Well (act x frames z next s)) v.2 (load_ok v.0.0 v.0.1 a.0 (subst (λ l. Leads next l) (sym gives) (k.fall refl)))

    stored_argument : (t : StackType) (s out : Stack) → store_variable (Some (Some t)) s ≡ Some out → s ≡ t ∷ out
    stored_argument t [] out h = none_some h
    stored_argument t (a ∷ s) out h = let p = if_some (fits a (Some t)) s out h in ap (λ z. z ∷ s) (fits_is a t p.0) ∙ ap (λ l. t ∷ l) p.1

    store_argument : (n : ℕ) (o : Operation) (out : Stack) → store (argument names n) ≡ Some o → Follows (to.StoreArgument n) out → Well (act x frames o next s)
    store_argument n o out h k =
        let v = some_of (λ (v : ℕ × FundamentalType). does.StoreVariable v.0 v.1) (argument names n) o h in
        let a = argument_is m.parameters 0 n v.0 v.1 in
        let place : slice_get (variable_types m) v.0.0 ≡ Some v.0.1 = subst (λ i. slice_get (variable_types m) i ≡ Some v.0.1) (omega (arith, a.is)) (get_front (loaded m.parameters) m.locals a.at v.0.1 a.has) in
        let same : st ≡ kind v.0.1 ∷ out = stored_argument (kind v.0.1) st out (sym (ap (λ z. store_variable z st) a.kind_is) ∙ k.leaves_it) in
        subst (λ z. Well (act x frames z next s)) v.2 (store_ok v.0.0 v.0.1 out place same (k.fall refl))

    stored_local : (t : StackType) (s out : Stack) → store_local (Some t) s ≡ Some out → local_fits (Some t) s ≡ true → s ≡ t ∷ out
    stored_local t [] out h f = none_some h
    stored_local t (a ∷ s) out h f = ap (λ z. z ∷ s) (fits_is a t f) ∙ ap (λ l. t ∷ l) (same_Some s out h)

    store_to_local : (n : ℕ) (o : Operation) (out : Stack) → store (local names n) ≡ Some o → Follows (to.StoreLocal n) out → Well (act x frames o next s)
    store_to_local n o out h k =
        let v = some_of (λ (v : ℕ × FundamentalType). does.StoreVariable v.0 v.1) (local names n) o h in
        let a = local_is n v.0 v.1 in
        let same : st ≡ kind v.0.1 ∷ out = stored_local (kind v.0.1) st out (sym (ap (λ z. store_local z st) a.1) ∙ k.leaves_it) (sym (ap (λ z. local_fits z st) a.1) ∙ k.stores) in
        subst (λ z. Well (act x frames z next s)) v.2 (store_ok v.0.0 v.0.1 out a.0 same (k.fall refl))

    popped_is : (s out : Stack) → pop_one s ≡ Some out → (a : StackType) × (s ≡ a ∷ out)
    popped_is [] out h = none_some h
    popped_is (a ∷ s) out h = (a, ap (λ l. a ∷ l) (same_Some s out h))

    duplicated_is : (s out : Stack) → duplicate s ≡ Some out → (a : StackType) × (rest : Stack) × (s ≡ a ∷ rest) × (a ∷ a ∷ rest ≡ out)
    duplicated_is [] out h = none_some h
    duplicated_is (a ∷ s) out h = (a, s, refl, same_Some (a ∷ a ∷ s) out h)

    pub by_transition : (t : Transition) (o : Operation) (out : Stack) → Matches names next t o → Follows t out → Well (act x frames o next s)
    by_transition to.Nothing o out h k = is_op does.Nothing o h (goes next out s.now.stack (k.fall refl) (is_stack out (same_Some st out k.leaves_it)))
    by_transition (to.LoadArgument n) o out h k = load_argument n o out h k
    by_transition (to.StoreArgument n) o out h k = store_argument n o out h k
    by_transition (to.LoadLocal n) o out h k = load_local n o out h k
    by_transition (to.StoreLocal n) o out h k = store_to_local n o out h k
    by_transition (to.Push Int32) o out h k = is_op (does.PushInt32 h.0) o h.1 (goes next (Int32 ∷ st) (value.Int32 h.0 ∷ s.now.stack) (subst (λ l. Leads next l) (sym (same_Some (Int32 ∷ st) out k.leaves_it)) (k.fall refl)) (tt, values))
    by_transition (to.Push Int64) o out h k = is_op (does.PushInt64 h.0) o h.1 (goes next (Int64 ∷ st) (value.Int64 h.0 ∷ s.now.stack) (subst (λ l. Leads next l) (sym (same_Some (Int64 ∷ st) out k.leaves_it)) (k.fall refl)) (tt, values))
    by_transition (to.Push Null) o out h k = is_op does.PushNull o h (goes next (Null ∷ st) (value.Null ∷ s.now.stack) (subst (λ l. Leads next l) (sym (same_Some (Null ∷ st) out k.leaves_it)) (k.fall refl)) (tt, values))
    by_transition (to.Push (Object class)) o out h k = absurd h
    by_transition to.Duplicate o out h k =
        let d = duplicated_is st out k.leaves_it in is_op does.Duplicate o h (duplicate_ok d.0 d.1 d.2 (subst (λ l. Leads next l) (sym d.3) (k.fall refl)))
    by_transition to.Pop o out h k = let d = popped_is st out k.leaves_it in is_op does.Pop o h (pop_ok d.0 out d.1 (k.fall refl))
    by_transition (to.Call token) o out h k = token_ok token o out (table_of token == 0x06) (table_of token == 0x0A) h k.leaves_it (k.fall refl)
    by_transition to.Return o out h k = is_op does.Return o h (returns out k.leaves_it)
    by_transition (to.Branch n) o out h k =
        let t = target_is does.Branch n o h in
        subst (λ z. Well (act x frames z next s)) t.2 (goes t.0 out s.now.stack (k.jump_to t.0 t.1) (is_stack out (same_Some st out k.leaves_it)))
    by_transition (to.BranchIf n) o out h k =
        let t = target_is (does.BranchIf h.0) n o h.1 in
        let d = popped_is st out k.leaves_it in
        subst (λ z. Well (act x frames z next s)) t.2 (branch_if_ok h.0 t.0 d.0 out d.1 (k.jump_to t.0 t.1) (k.fall refl))
    by_transition (to.BranchOrdered n) o out h k =
        let t = target_is (does.BranchCompare h.0 h.1) n o h.3 in
        let two = two_is same_integer put_nothing st out k.leaves_it in
        subst (λ z. Well (act x frames z next s)) t.2
        (compare_ok same_integer put_nothing out h.0 h.1 t.0 two (λ v u a b. order_ok objects h.0 h.1 h.2 two.under two.top v u two.passes a b)
        (subst (λ l. Leads t.0 l) (sym two.gives) (k.jump_to t.0 t.1)) (subst (λ l. Leads next l) (sym two.gives) (k.fall refl)))
    by_transition (to.BranchEqual n) o out h k =
        let t = target_is (does.BranchCompare h.0 h.1) n o h.3 in
        let two = two_is may_equal put_nothing st out k.leaves_it in
        subst (λ z. Well (act x frames z next s)) t.2
        (compare_ok may_equal put_nothing out h.0 h.1 t.0 two (λ v u a b. equal_ok objects h.0 h.1 h.2 two.under two.top v u two.passes a b)
        (subst (λ l. Leads t.0 l) (sym two.gives) (k.jump_to t.0 t.1)) (subst (λ l. Leads next l) (sym two.gives) (k.fall refl)))
    by_transition to.Binary o out h k =
        let two = two_is same_integer put_same st out k.leaves_it in
        is_op (does.Compute h.0 h.1) o h.3 (compute_ok same_integer put_same out h.0 h.1 two two.under (λ v u a b. binary_ok objects h.0 h.1 h.2 two.under two.top v u two.passes a b) (subst (λ l. Leads next l) (sym two.gives) (k.fall refl)))
    by_transition to.Shift o out h k =
        let two = two_is may_shift put_same st out k.leaves_it in
        is_op (does.Compute h.0 h.1) o h.3 (compute_ok may_shift put_same out h.0 h.1 two two.under (λ v u a b. shift_ok objects h.0 h.1 h.2 two.under two.top v u two.passes a b) (subst (λ l. Leads next l) (sym two.gives) (k.fall refl)))
    by_transition to.Unary o out h k =
        let d = one_is is_integer put_same st out k.leaves_it in
        is_op (does.ComputeAlone h.0) o h.2 (alone_is_ok h.0 d.top d.rest h.1 d.passes d.is (subst (λ l. Leads next l) (sym d.gives) (k.fall refl)))
    by_transition (to.Convert type) o out h k =
        let d = one_is is_integer (λ a rest. type ∷ rest) st out k.leaves_it in
        is_op (does.Convert h.0) o h.2 (convert_ok h.0 d.top d.rest d.passes d.is (subst (λ l. Leads next l) (sym (ap (λ z. z ∷ d.rest) h.1 ∙ d.gives)) (k.fall refl)))
    by_transition to.Order o out h k =
        let two = two_is same_integer put_int32 st out k.leaves_it in
        is_op (does.Compute h.0 h.1) o h.3 (compute_ok same_integer put_int32 out h.0 h.1 two Int32 (λ v u a b. order_ok objects h.0 h.1 h.2 two.under two.top v u two.passes a b) (subst (λ l. Leads next l) (sym two.gives) (k.fall refl)))
    by_transition to.Equal o out h k =
        let two = two_is may_equal put_int32 st out k.leaves_it in
        is_op (does.Compute h.0 h.1) o h.3 (compute_ok may_equal put_int32 out h.0 h.1 two Int32 (λ v u a b. equal_ok objects h.0 h.1 h.2 two.under two.top v u two.passes a b) (subst (λ l. Leads next l) (sym two.gives) (k.fall refl)))
    by_transition to.Throw o out h k = let d = one_is is_thrown empty_stack st out k.leaves_it in is_op does.Throw o h (throw_ok d.top d.rest d.passes d.is)
    by_transition to.Rethrow o out h k = is_op does.Rethrow o h (throws_again x tables e good s m held runs k.stays)
    by_transition to.EndFinally o out h k = is_op does.EndFinally o h (handler_ends x tables e good s m held runs k.stays)
    by_transition (to.Leave n) o out h k =
        let t = target_is does.Leave n o h in
        let j = k.jump_to t.0 t.1 in
        subst (λ z. Well (act x frames z next s)) t.2
        (leaves x tables e good s m held runs t.0 (exiting s.now.at t.0 m.clauses j.1) (subst (Has (tables s.now.method) t.0) (sym (same_Some [] out k.leaves_it)) j.0))
    by_transition to.NotBuilt o out h k = absurd h
