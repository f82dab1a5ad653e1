-- A return to the frame that waits.
use Rattle.std.proofs.Common.{◌≡◌, ℕ, ◌+◌, ◌-◌, ◌<◌, ◌≤◌, suc, List, [], ◌∷◌, ◌++◌, length, refl, sym, ap, ◌∙◌, subst, arith, take, length-append}
use Rattle.std.specs.Prelude.{Some, None, map, reverse, slice_get}
use Rattle.std.proofs.Math.Seq.{take-append_seam}
use Rattle.cc_base.specs.declared.identifiers.ClassId.{ClassId}
use Rattle.cc_core.specs.declared.world.Value.{Value}
use Rattle.cc_core.specs.declared.world.World.{World}
use Rattle.cc_core.specs.Frames.{left, or_none}
use Rattle.cc_execution.specs.declared.executable.Executable.{Executable}
use Rattle.cc_execution.specs.declared.executable.PlacedOperation.{PlacedOperation}
use Rattle.cc_execution.specs.State.{State, Goes, Stuck}
use Rattle.cc_execution.specs.Handlers.{go_on}
use Rattle.cc_execution.specs.Step.{given, placed_in, return, return_to, return_result, return_last}
use Rattle.cc_execution.specs.Fundamental.{stored}
use Rattle.cc_execution.specs.declared.operation.FundamentalType.{FundamentalType}
use Rattle.cc_execution.specs.declared.executable.Method.{Method}
use Rattle.std.proofs.lemmas.Option.{same_Some}
use Rattle.cc_machine_next.specs.declared.tables.MethodEntry.{MethodEntry}
use Rattle.cc_machine_next.specs.declared.tables.Tables.{Tables}
use Rattle.cc_machine_next.specs.Tables.{IsTable}
use Rattle.cc_machine_next.specs.Frames.{HeldFrame, Frames, pushed, dropped, gone_to}
use Rattle.cc_machine_next.specs.RunState.{frame_of, variables_in, state_with, world_with, IsFine, ReachForEach, HasRoom}
use Rattle.cc_machine_next.proofs.Slices.{reverse_cons}
use Rattle.cc_machine_next.proofs.Operations.{given_some, room_for}

last_there : {A : Type 0} (xs : List A) (y : A) → slice_get (xs ++ y ∷ []) (length xs) ≡ Some y
last_there [] y = refl
last_there (x ∷ xs) y = last_there xs y

-- the variables of the callers without the last, and the last
pub left_list : (vs : List (List Value)) (v : List Value) (all : List (List Value)) → all ≡ vs ++ v ∷ [] → (or_none (slice_get all (length all - 1)) ≡ v) × (take (length all - 1) all ≡ vs)
left_list vs v all e =
    let n : length all - 1 ≡ length vs = omega (arith, ap length e, length-append vs (v ∷ [])) in (
      ap (λ k. or_none (slice_get all k)) n ∙ ap (λ l. or_none (slice_get l (length vs))) e ∙ ap or_none (last_there vs v),
      ap (λ k. take k all) n ∙ ap (take (length vs)) e ∙ take-append_seam vs (v ∷ []),
    )

module _ (f : Frames) (heap : List ClassId) (room : ℕ) (output : List ℕ) (h : HeldFrame) (bs : List HeldFrame) (e : f.below ≡ h ∷ bs) where
  outer : reverse (map variables_in f.below) ≡ reverse (map variables_in bs) ++ h.variables ∷ []
  outer = ap (λ l. reverse (map variables_in l)) e ∙ reverse_cons h.variables (map variables_in bs)

  -- without the innermost frame the world is that of the frames that are left
  pub left_world : left (world_with f heap room output) ≡ world_with (dropped h bs f) heap room output
  left_world =
      let parts = left_list (reverse (map variables_in bs)) h.variables (reverse (map variables_in f.below)) outer in
      ap (λ v. record (world_with f heap room output) { variables = v; callers = take (length (reverse (map variables_in f.below)) - 1) (reverse (map variables_in f.below)) }) parts.0
      ∙ ap (λ l. record (world_with f heap room output) { variables = h.variables; callers = l }) parts.1

  module _ (x : Executable) (result : List Value) where
    there : return_to x (map frame_of f.below) result (world_with f heap room output)
        ≡ given (placed_in x h.method h.at) (λ p. go_on h.method p.next (result ++ h.stack) [] (map frame_of bs) (left (world_with f heap room output)))
    there = ap (λ l. return_to x (map frame_of l) result (world_with f heap room output)) e

    pub caller_placed : IsFine x (return_to x (map frame_of f.below) result (world_with f heap room output)) → (p : PlacedOperation) × (placed_in x h.method h.at ≡ Some p)
    caller_placed fine =
        given_some x (placed_in x h.method h.at) (λ p. go_on h.method p.next (result ++ h.stack) [] (map frame_of bs) (left (world_with f heap room output))) (subst (IsFine x) there fine)

    pub returns_to : (p : PlacedOperation) → placed_in x h.method h.at ≡ Some p
        → return_to x (map frame_of f.below) result (world_with f heap room output) ≡ go_on h.method p.next (result ++ h.stack) [] (map frame_of bs) (world_with (dropped h bs f) heap room output)
    returns_to p s =
        there ∙ ap (λ z. given z (λ q. go_on h.method q.next (result ++ h.stack) [] (map frame_of bs) (left (world_with f heap room output)))) s
        ∙ ap (go_on h.method p.next (result ++ h.stack) [] (map frame_of bs)) left_world

  module _ (x : Executable) (f1 f2 f3 : Frames) (d : f1 ≡ dropped h bs f) (p : PlacedOperation) (s : placed_in x h.method h.at ≡ Some p) (at : ℕ) (n : at ≡ p.next) where
    -- on behind the call, without a value
    pub goes_back : f2 ≡ gone_to at f1 → return_to x (map frame_of f.below) [] (world_with f heap room output) ≡ Goes (state_with f2 heap room output)
    goes_back g =
        returns_to x [] p s ∙ ap (λ k. Goes (state_with (gone_to k (dropped h bs f)) heap room output)) (sym n)
        ∙ ap (λ z. Goes (state_with (gone_to at z) heap room output)) (sym d) ∙ ap (λ z. Goes (state_with z heap room output)) (sym g)

    -- on with a value
    pub goes_back_with : (v : Value) → f2 ≡ pushed v f1 → f3 ≡ gone_to at f2 → return_to x (map frame_of f.below) (v ∷ []) (world_with f heap room output) ≡ Goes (state_with f3 heap room output)
    goes_back_with v g k =
        returns_to x (v ∷ []) p s ∙ ap (λ k. Goes (state_with (gone_to k (pushed v (dropped h bs f))) heap room output)) (sym n)
        ∙ ap (λ z. Goes (state_with (gone_to at (pushed v z)) heap room output)) (sym d)
        ∙ ap (λ z. Goes (state_with (gone_to at z) heap room output)) (sym g) ∙ ap (λ z. Goes (state_with z heap room output)) (sym k)

  -- there is room for what is returned
  pub room_back : (x : Executable) (f1 : Frames) (v : Value) → HasRoom x f → IsFine x (return_to x (map frame_of f.below) (v ∷ []) (world_with f heap room output)) → f1 ≡ dropped h bs f → f1.now.floor + length f1.now.stack < f1.size
  room_back x f1 v r fine d =
      let p = caller_placed x (v ∷ []) fine in
      let fits = subst (IsFine x) (returns_to x (v ∷ []) p.0 p.1) fine in
      let each = subst (ReachForEach x f.size) e r.below in
      let low : h.floor + suc (length h.stack) ≤ f.size = room_for x h f.size (suc (length h.stack)) each.0 fits in
      let below : h.floor + length h.stack < f.size = omega (arith, low) in
      subst (λ (z : Frames). z.now.floor + length z.now.stack < z.size) (sym d) below

-- the frames that are left have their room
pub room_dropped : (x : Executable) (f g : Frames) (h : HeldFrame) (bs : List HeldFrame) → f.below ≡ h ∷ bs → g ≡ dropped h bs f → HasRoom x f → HasRoom x g
room_dropped x f g h bs e d r = let each = subst (ReachForEach x f.size) e r.below in subst (HasRoom x) (sym d) (record { now = each.0; below = each.1 })

-- a frame waits, or none does
pub a_caller : (below : List HeldFrame) → 0 < length below → (h : HeldFrame) × (bs : List HeldFrame) × (below ≡ h ∷ bs)
a_caller [] l = absurd (omega (arith, l))
a_caller (h ∷ bs) l = (h, bs, refl)

pub no_caller : (below : List HeldFrame) → length below ≡ 0 → below ≡ []
no_caller [] e = refl
no_caller (h ∷ bs) e = absurd (omega (arith, e))

-- ---- the result

pub none_result : (x : Executable) (s : State) (stack : List Value) → IsFine x (return_result x None stack s) → return_result x None stack s ≡ return_to x s.callers [] s.world
none_result x s [] h = refl
none_result x s (v ∷ vs) h = absurd h

-- one value is on the stack, and is returned as a variable of the type holds it
pub record OneResult (x : Executable) (s : State) (of : FundamentalType) (stack : List Value) : Type 0 where
  pub value : Value
  pub held : Value
  pub is_stack : stack ≡ value ∷ []
  pub is_stored : stored of value ≡ Some held
  pub leads : return_result x (Some of) stack s ≡ return_to x s.callers (held ∷ []) s.world

pub one_result : (x : Executable) (s : State) (of : FundamentalType) (stack : List Value) → IsFine x (return_result x (Some of) stack s) → OneResult x s of stack
one_result x s of [] h = absurd h
one_result x s of (v ∷ []) h =
    let g = given_some x (stored of v) (λ result. return_to x s.callers (result ∷ []) s.world) h in
    record { value = v; held = g.0; is_stack = refl; is_stored = g.1; leads = ap (λ o. given o (λ result. return_to x s.callers (result ∷ []) s.world)) g.1 }
one_result x s of (v ∷ u ∷ vs) h = absurd h

-- the method that returns
pub record Returned (x : Executable) (s : State) : Type 0 where
  pub method : Method
  pub is_method : slice_get x.methods s.now.method ≡ Some method
  pub leads : return x s ≡ return_result x method.result s.now.stack s
  pub fine : IsFine x (return_result x method.result s.now.stack s)

pub returned : (x : Executable) (s : State) → IsFine x (return x s) → Returned x s
returned x s fine =
    let go = λ (method : Method). return_result x method.result s.now.stack s in
    let g = given_some x (slice_get x.methods s.now.method) go fine in
    let e = ap (λ o. given o go) g.1 in
    record { method = g.0; is_method = g.1; leads = e; fine = subst (IsFine x) e fine }

-- the entry has no caller to go back to
pub never_back : (x : Executable) (f : Frames) (heap : List ClassId) (room : ℕ) (output : List ℕ) → length f.below ≡ 0 → IsFine x (return_to x (map frame_of f.below) [] (world_with f heap room output)) → ⊥
never_back x f heap room output e fine = subst (λ l. IsFine x (return_to x (map frame_of l) [] (world_with f heap room output))) (no_caller f.below e) fine

pub ends_last : (x : Executable) (f : Frames) (result : List Value) → length f.below ≡ 0 → (w : World) → return_to x (map frame_of f.below) result w ≡ return_last result w
ends_last x f result e w = ap (λ l. return_to x (map frame_of l) result w) (no_caller f.below e)

pub stuck_last : (x : Executable) (f : Frames) (v : Value) (w : World) → length f.below ≡ 0 → return_last (v ∷ []) w ≡ Stuck → IsFine x (return_to x (map frame_of f.below) (v ∷ []) w) → ⊥
stuck_last x f v w none stuck fine = subst (IsFine x) (ends_last x f (v ∷ []) none w ∙ stuck) fine

module _ (x : Executable) (s : State) (fine : IsFine x (return x s)) where
  -- the entry of the method that returns
  pub record Returner (e : MethodEntry) : Type 0 where
    pub from : Returned x s
    pub result : e.result ≡ from.method.result

  pub returner : (t : Tables) (e : MethodEntry) → IsTable x t → slice_get t.methods s.now.method ≡ Some e → Returner e
  returner t e table there =
      let r = returned x s fine in
      let m = table.each s.now.method r.method r.is_method in
      record { from = r; result = ap (λ (z : MethodEntry). z.result) (same_Some e m.0 (sym there ∙ m.1)) ∙ m.2.result }

  pub has_returner : (t : Tables) → IsTable x t → (e : MethodEntry) × (slice_get t.methods s.now.method ≡ Some e)
  has_returner t table = let r = returned x s fine in let m = table.each s.now.method r.method r.is_method in (m.0, m.1)

  module _ (e : MethodEntry) (r : Returner e) where
    -- without a value
    pub plain : e.result ≡ None → return x s ≡ return_to x s.callers [] s.world
    plain q =
        let n : r.from.method.result ≡ None = sym r.result ∙ q in
        let at = ap (λ o. return_result x o s.now.stack s) n in
        r.from.leads ∙ at ∙ none_result x s s.now.stack (subst (IsFine x) at r.from.fine)

    -- with one
    pub valued : (of : FundamentalType) → e.result ≡ Some of → OneResult x s of s.now.stack
    valued of q =
        let at = ap (λ o. return_result x o s.now.stack s) (sym r.result ∙ q) in
        one_result x s of s.now.stack (subst (IsFine x) at r.from.fine)

    pub valued_leads : (of : FundamentalType) (q : e.result ≡ Some of) → return x s ≡ return_to x s.callers ((valued of q).held ∷ []) s.world
    valued_leads of q = r.from.leads ∙ ap (λ o. return_result x o s.now.stack s) (sym r.result ∙ q) ∙ (valued of q).leads

pub heads : (v u : Value) (rest more : List Value) → v ∷ rest ≡ u ∷ more → v ≡ u
heads v u rest more e = cc
