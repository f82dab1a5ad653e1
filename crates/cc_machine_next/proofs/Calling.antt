-- A call: the arguments on the stack, and the frame that is entered.
use Rattle.std.proofs.Common.{◌≡◌, ℕ, ◌+◌, ◌≤◌, suc, List, [], ◌∷◌, ◌++◌, length, refl, sym, ap, ◌∙◌, subst, arith, append_assoc, append-nil, length-append}
use Rattle.std.specs.Prelude.{Bool, true, false, Some, map, reverse, slice_get, nat_lt, if◌then◌else◌}
use Rattle.std.proofs.lemmas.List.{length-reverse}
use Rattle.cc_base.specs.declared.identifiers.ClassId.{ClassId}
use Rattle.cc_base.specs.declared.running.Ending.TheVariants as ending
use Rattle.cc_core.specs.declared.world.Value.{Value}
use Rattle.cc_execution.specs.declared.executable.Executable.{Executable}
use Rattle.cc_execution.specs.declared.executable.Method.{Method}
use Rattle.cc_execution.specs.declared.operation.Operation.TheVariants as does
use Rattle.cc_execution.specs.Fundamental.{stored_each}
use Rattle.cc_execution.specs.Operations.{loaded}
use Rattle.cc_execution.specs.State.{Next, Goes, Ends}
use Rattle.cc_execution.specs.Step.{act, given, popping_each, enter, zeros_of}
use Rattle.std.proofs.lemmas.Option.{same_Some}
use Rattle.cc_machine_next.specs.declared.tables.MethodEntry.{MethodEntry}
use Rattle.cc_machine_next.specs.declared.tables.Tables.{Tables}
use Rattle.cc_machine_next.specs.Tables.{IsTable}
use Rattle.cc_machine_next.specs.Frames as spec
use Rattle.cc_machine_next.specs.Frames.{HeldFrame, Frames, with_stack}
use Rattle.cc_machine_next.specs.RunState.{frame_of, variables_in, state_with, world_with, IsFine, ReachForEach, HasRoom}
use Rattle.cc_machine_next.proofs.Slices.{reverse_cons, reverse_twice}
use Rattle.cc_machine_next.proofs.Operations.{given_some}
use Rattle.cc_machine_next.proofs.Storing.{stored_count}

-- values that are taken from the top
pub record Taken (n : ℕ) (taken stack : List Value) (go : List Value → List Value → Next) (o : Next) : Type 0 where
  pub values : List Value
  pub rest : List Value
  pub stack_is : stack ≡ values ++ rest
  pub count : length values ≡ n
  pub leads : o ≡ go (reverse values ++ taken) rest

pub takes : {A : Type 0} (x : Executable) (each : List A) (taken stack : List Value) (go : List Value → List Value → Next) → IsFine x (popping_each each taken stack go) → Taken (length each) taken stack go (popping_each each taken stack go)
takes x [] taken stack go fine = record { values = []; rest = stack; stack_is = refl; count = refl; leads = refl }
takes x (a ∷ each) taken [] go fine = absurd fine
takes x (a ∷ each) taken (v ∷ stack) go fine =
    let t = takes x each (v ∷ taken) stack go fine in
    record {
      values = v ∷ t.values;
      rest = t.rest;
      stack_is = ap (λ l. v ∷ l) t.stack_is;
      count = ap suc t.count;
      leads = t.leads ∙ ap (λ l. go l t.rest) (sym (append_assoc (reverse t.values) (v ∷ []) taken) ∙ ap (λ l. l ++ taken) (sym (reverse_cons v t.values)));
    }

module _ (x : Executable) (limit n next : ℕ) (f : Frames) (heap : List ClassId) (room : ℕ) (output : List ℕ) where
  -- what a fine call finds
  pub record Called : Type 0 where
    pub method : Method
    pub is_method : slice_get x.methods n ≡ Some method
    pub arguments : List Value
    pub values : List Value
    pub rest : List Value
    pub stack_is : f.now.stack ≡ reverse arguments ++ rest
    pub count : length arguments ≡ length (loaded method.parameters)
    pub are_stored : stored_each (loaded method.parameters) arguments ≡ Some values
    pub leads : act x limit (does.Call n) next (state_with f heap room output) ≡ enter x limit n method values rest (state_with f heap room output)

  pub called : IsFine x (act x limit (does.Call n) next (state_with f heap room output)) → Called
  called fine =
      let s = state_with f heap room output in
      let m = given_some x (slice_get x.methods n) (λ method. popping_each (loaded method.parameters) [] f.now.stack (λ taken stack. given (stored_each (loaded method.parameters) taken) (λ arguments. enter x limit n method arguments stack s))) fine in
      let method = m.0 in
      let types = loaded method.parameters in
      let go = λ (taken stack : List Value). given (stored_each types taken) (λ arguments. enter x limit n method arguments stack s) in
      let e = ap (λ o. given o (λ method. popping_each (loaded method.parameters) [] f.now.stack (λ taken stack. given (stored_each (loaded method.parameters) taken) (λ arguments. enter x limit n method arguments stack s)))) m.1 in
      let t = takes x types [] f.now.stack go (subst (IsFine x) e fine) in
      let vs = reverse t.values ++ [] in
      let w = given_some x (stored_each types vs) (λ arguments. enter x limit n method arguments t.rest s) (subst (IsFine x) (e ∙ t.leads) fine) in
      let plain : vs ≡ reverse t.values = append-nil (reverse t.values) in
      record {
        method = method;
        is_method = m.1;
        arguments = vs;
        values = w.0;
        rest = t.rest;
        stack_is = t.stack_is ∙ ap (λ l. l ++ t.rest) (sym (ap reverse plain ∙ reverse_twice t.values));
        count = ap length plain ∙ length-reverse t.values ∙ t.count;
        are_stored = w.1;
        leads = e ∙ t.leads ∙ ap (λ o. given o (λ arguments. enter x limit n method arguments t.rest s)) w.1;
      }

  -- the entry of the method that is called
  pub record Callee (e : MethodEntry) : Type 0 where
    pub call : Called
    pub parameters : e.parameters ≡ loaded call.method.parameters
    pub locals : e.locals ≡ call.method.locals
    pub max_stack : e.max_stack ≡ call.method.max_stack
    pub are_stored : stored_each e.parameters call.arguments ≡ Some call.values
    pub count : length call.values ≡ length e.parameters
    pub height : length e.parameters ≤ length f.now.stack

  pub callee : (t : Tables) (e : MethodEntry) → IsTable x t → slice_get t.methods n ≡ Some e → IsFine x (act x limit (does.Call n) next (state_with f heap room output)) → Callee e
  callee t e table there fine =
      let k = called fine in
      let m = table.each n k.method k.is_method in
      let same : e ≡ m.0 = same_Some e m.0 (sym there ∙ m.1) in
      let parameters : e.parameters ≡ loaded k.method.parameters = ap (λ (z : MethodEntry). z.parameters) same ∙ m.2.parameters in
      let stored = ap (λ ts. stored_each ts k.arguments) parameters ∙ k.are_stored in
      let deep : length f.now.stack ≡ length k.arguments + length k.rest = ap length k.stack_is ∙ length-append (reverse k.arguments) k.rest ∙ ap (λ j. j + length k.rest) (length-reverse k.arguments) in
      record {
        call = k;
        parameters = parameters;
        locals = ap (λ (z : MethodEntry). z.locals) same ∙ m.2.locals;
        max_stack = ap (λ (z : MethodEntry). z.max_stack) same ∙ m.2.max_stack;
        are_stored = stored;
        count = stored_count e.parameters k.arguments k.values stored;
        height = omega (arith, deep, k.count, ap length parameters);
      }

  -- a method that is called has an entry
  pub has_entry : (t : Tables) → IsTable x t → IsFine x (act x limit (does.Call n) next (state_with f heap room output)) → (e : MethodEntry) × (slice_get t.methods n ≡ Some e)
  has_entry t table fine = let k = called fine in let m = table.each n k.method k.is_method in (m.0, m.1)

if_so : (b : Bool) (p q : Next) → b ≡ true → (if b then p else q) ≡ p
if_so b p q e = ap (λ z. if z then p else q) e

if_not : (b : Bool) (p q : Next) → b ≡ false → (if b then p else q) ≡ q
if_not b p q e = ap (λ z. if z then p else q) e

module _ (x : Executable) (limit n : ℕ) (f : Frames) (heap : List ClassId) (room : ℕ) (output : List ℕ) (method : Method) (values rest : List Value) where
  -- there is no frame left
  pub enters_none : nat_lt (length (map frame_of f.below) + 1) limit ≡ false
      → enter x limit n method values rest (state_with f heap room output) ≡ Ends ending.DepthLimit (world_with f heap room output)
  enters_none e = if_not (nat_lt (length (map frame_of f.below) + 1) limit) _ (Ends ending.DepthLimit (world_with f heap room output)) e

  -- the frame is entered
  pub enters : (f1 f2 : Frames) (floor size : ℕ) (stack : List Value) → nat_lt (length (map frame_of f.below) + 1) limit ≡ true → f1 ≡ with_stack stack f → f2 ≡ spec.entered n (values ++ zeros_of method.locals) rest floor size f1
      → enter x limit n method values rest (state_with f heap room output) ≡ Goes (state_with f2 heap room output)
  enters f1 f2 floor size stack e g h =
      let outer : reverse (map variables_in f.below) ++ f.now.variables ∷ [] ≡ reverse (map variables_in (record f.now { stack = rest } ∷ f.below)) = sym (reverse_cons f.now.variables (map variables_in f.below)) in
      if_so (nat_lt (length (map frame_of f.below) + 1) limit) _ (Ends ending.DepthLimit (world_with f heap room output)) e
      ∙ ap (λ l. Goes (record (state_with (spec.entered n (values ++ zeros_of method.locals) rest floor size (with_stack stack f)) heap room output) {
        world = record (world_with (spec.entered n (values ++ zeros_of method.locals) rest floor size (with_stack stack f)) heap room output) { callers = l };
      })) outer
      ∙ ap (λ z. Goes (state_with (spec.entered n (values ++ zeros_of method.locals) rest floor size z) heap room output)) (sym g)
      ∙ ap (λ z. Goes (state_with z heap room output)) (sym h)

-- more cells reach as far
pub reach_grows : (x : Executable) (size size2 : ℕ) (below : List HeldFrame) → size ≤ size2 → ReachForEach x size below → ReachForEach x size2 below
reach_grows x size size2 [] l h = tt
reach_grows x size size2 (f ∷ below) l ((m, e, r), h) = ((m, e, omega (arith, l, r)), reach_grows x size size2 below l h)

-- the frame that is entered has its room, and the others keep theirs
pub room_entered : (x : Executable) (f f1 f2 : Frames) (n : ℕ) (variables rest stack : List Value) (method : Method) → HasRoom x f → f1 ≡ with_stack stack f → slice_get x.methods n ≡ Some method → f1.size ≤ f2.size
    → f2.now.floor + method.max_stack ≤ f2.size → f2 ≡ spec.entered n variables rest f2.now.floor f2.size f1 → HasRoom x f2
room_entered x f f1 f2 n variables rest stack method h g is grown reach e =
    let size : f.size ≤ f2.size = subst (λ (z : Frames). z.size ≤ f2.size) g grown in
    subst (HasRoom x) (sym (e ∙ ap (spec.entered n variables rest f2.now.floor f2.size) g))
    (record { now = (method, is, reach); below = ((h.now.0, h.now.1, omega (arith, size, h.now.2)), reach_grows x f.size f2.size f.below size h.below) })
