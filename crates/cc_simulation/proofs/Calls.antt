-- The machine does what calls mean, by how many frames are left.
use Rattle.std.proofs.Common.{◌≡◌, ℕ, zero, suc, ◌+◌, ◌-◌, List, [], ◌∷◌, ◌++◌, map, length, drop, take, Bool, true, false, Option, Some, None, refl, sym, ap, ◌∙◌, subst, arith, slice_get, nat_lt, lt-ltb, le-ltb, length-append, true≢false}
use Rattle.std.specs.Prelude.{Ok, Err, if◌then◌else◌, option_map, ⊤}
use Rattle.cc_base.specs.declared.identifiers.MethodId.{MethodId}
use Rattle.cc_base.specs.declared.running.Ending.TheVariants as ending
use Rattle.cc_cil.specs.declared.instruction.Instruction.{Instruction}
use Rattle.cc_cil.specs.declared.instruction.Instruction.TheVariants as the
use Rattle.cc_core.specs.declared.state.State.{State}
use Rattle.cc_core.specs.declared.state.Stop.{Stop}
use Rattle.cc_core.specs.declared.state.Stop.TheVariants.{Throws, HeapLimit, DepthLimit, Going, Wrong}
use Rattle.cc_core.specs.declared.tree.Dispatch.TheVariants.{Direct}
use Rattle.cc_core.specs.declared.types.ClassInfo.{ClassInfo}
use Rattle.cc_core.specs.declared.types.CoreType.{CoreType}
use Rattle.cc_core.specs.declared.types.CoreType.TheVariants as core
use Rattle.cc_core.specs.declared.world.Value.{Value, Nothing}
use Rattle.cc_core.specs.declared.world.World.{World}
use Rattle.cc_core.specs.Frames as source
use Rattle.cc_core.specs.Frames.{entered, left, or_none, in_frame, end_value, variables_of}
use Rattle.cc_core.specs.Numbers.{is_wide, number}
use Rattle.cc_core.specs.Numbers as narrow
use Rattle.cc_core.specs.Run as run
use Rattle.cc_core.specs.Run.{Ran, Does, Calls, tick, in_world}
use Rattle.cc_core.specs.Typed.{is_number, AreNumbers, IsCallable}
use Rattle.cc_core.specs.Types as type
use Rattle.cc_core.specs.Types.{BareType, bare}
use Rattle.cc_code.specs.declared.tokens.Tokens.{Tokens}
use Rattle.cc_code.specs.Functions.{end_code}
use Rattle.cc_code.specs.Instructions.{width}
use Rattle.cc_code.specs.Operators as code
use Rattle.cc_code.specs.Regions.{region_code}
use Rattle.cc_code.specs.Sizes.{region_size}
use Rattle.cc_code.specs.Terms.{call}
use Rattle.cc_code.proofs.RegionSums.{region_is}
use Rattle.cc_execution.specs.declared.executable.Method.{Method}
use Rattle.cc_execution.specs.declared.executable.PlacedOperation.{PlacedOperation}
use Rattle.cc_execution.specs.declared.operation.FundamentalType.{FundamentalType}
use Rattle.cc_execution.specs.declared.operation.FundamentalType.TheVariants as to
use Rattle.cc_execution.specs.declared.operation.Operation.TheVariants as does
use Rattle.cc_execution.specs.Fundamental.{core_type, stored_each}
use Rattle.cc_execution.specs.Handlers.{go_on}
use Rattle.cc_execution.specs.Operations.{loaded}
use Rattle.cc_execution.specs.Run.{seen_in}
use Rattle.cc_execution.specs.State.{Frame, Next, Ends}
use Rattle.cc_execution.specs.Step as step
use Rattle.cc_execution.specs.Step.{given, act, popping_each, zeros_of, placed_in, return_result, return_to}
use Rattle.cc_region.specs.declared.tree.RegionFunction.{RegionFunction}
use Rattle.cc_region.specs.Bare.{region_of}
use Rattle.cc_region.specs.Frames.{calls_with, call_function, enter, returned, function_for}
use Rattle.cc_region.specs.Leave as way
use Rattle.cc_region.specs.Leave.{Way}
use Rattle.cc_region.specs.Outcome.{outcome_of}
use Rattle.cc_region.specs.Typed.{a_loop}
use Rattle.cc_simulation.specs.Compiled.{site_of, function_site, HasResult, Compiled, CompiledProgram}
use Rattle.cc_simulation.specs.Known.{Knows}
use Rattle.cc_simulation.specs.Sites.{Setting, Site, StandsAt, HasAt, Fine, Good, go, state_at, frame_at, placed}
use Rattle.cc_simulation.specs.Stretches.{Got, IsMeant, stopped}
use Rattle.cc_simulation.specs.Values.{IsOf, AreOf, pushed, pushed_each}
use Rattle.cc_simulation.specs.Ways.{leads, WayGood, Low, Returns}
use Rattle.cc_simulation.proofs.Conversions.{zero_did}
use Rattle.cc_simulation.proofs.Parts.{none_some, has_front, has_back, pushed_is}
use Rattle.cc_simulation.proofs.Ranges.{stored_is, zero_is, zero_fits}
use Rattle.cc_simulation.proofs.Regions.{region_stands}
use Rattle.cc_simulation.proofs.Steps.{did, stays, more, at_same, meant_same, ticks, after}
use Rattle.cc_simulation.proofs.Throws.{last_is, ended_right}
use Rattle.cc_simulation.proofs.Variables.{core_number, are_numbers, all_loaded, map_length, map_append, drop_front, loads, stores, numbers, stored_all, zeros_are, zeros_fit, are_both, are_length}

-- ---- lists

take_front : {A : Type 0} (xs ys : List A) (n : ℕ) → n ≡ length xs → take n (xs ++ ys) ≡ xs
take_front [] ys zero e = refl
take_front [] ys (suc n) e = absurd (omega (arith, e))
take_front (x ∷ xs) ys zero e = absurd (omega (arith, e))
take_front (x ∷ xs) ys (suc n) e = ap (λ l. x ∷ l) (take_front xs ys n (omega (arith, e)))

-- the values of arguments are taken from the stack, whatever the types are
same_count : (a b : List FundamentalType) (taken stack : List Value) (go : List Value → List Value → Next) → length a ≡ length b → popping_each a taken stack go ≡ popping_each b taken stack go
same_count [] [] taken stack go e = refl
same_count [] (t ∷ b) taken stack go e = absurd (omega (arith, e))
same_count (t ∷ a) [] taken stack go e = absurd (omega (arith, e))
same_count (t ∷ a) (u ∷ b) taken [] go e = refl
same_count (t ∷ a) (u ∷ b) taken (v ∷ stack) go e = same_count a b (v ∷ taken) stack go (omega (arith, e))

taken_from : (vs : List Value) (types rest : List FundamentalType) (taken stack : List Value) (go : List Value → List Value → Next) → length types ≡ length vs + length rest
    → popping_each types taken (pushed_each vs stack) go ≡ popping_each rest (vs ++ taken) stack go
taken_from [] types rest taken stack go e = same_count types rest taken stack go (omega (arith, e))
taken_from (v ∷ vs) types rest taken stack go e = taken_from vs types (to.I4 ∷ rest) taken (v ∷ stack) go (omega (arith, e))

all_taken : (vs : List Value) (types : List FundamentalType) (stack : List Value) (go : List Value → List Value → Next) → length types ≡ length vs → popping_each types [] (pushed_each vs stack) go ≡ go vs stack
all_taken vs types stack go e = taken_from vs types [] [] stack go (omega (arith, e)) ∙ ap (λ (l : List Value). go l stack) (append_nil vs)
  where
    append_nil : (l : List Value) → l ++ [] ≡ l
    append_nil [] = refl
    append_nil (v ∷ l) = ap (λ (l : List Value). v ∷ l) (append_nil l)

-- ---- results

abbrev OnVoid : BareType → Type 0
OnVoid type.Void = ⊤
OnVoid _ = ⊥

end_value_void : (c : CoreType) → bare c ≡ type.Void → end_value c ≡ Some Nothing
end_value_void core.Void e = refl
end_value_void _ e = absurd (subst OnVoid (sym e) tt)

end_value_number : (c : CoreType) → is_number (bare c) ≡ true → end_value c ≡ narrow.zero_of (bare c)
end_value_number core.Void e = absurd (true≢false (sym e))
end_value_number _ e = refl

end_code_number : (of : BareType) → is_number of ≡ true → end_code of ≡ code.zero of ∷ the.Return ∷ []
end_code_number type.Bool e = refl
end_code_number type.Char e = refl
end_code_number type.I8 e = refl
end_code_number type.U8 e = refl
end_code_number type.I16 e = refl
end_code_number type.U16 e = refl
end_code_number type.I32 e = refl
end_code_number type.U32 e = refl
end_code_number type.I64 e = refl
end_code_number type.U64 e = refl
end_code_number _ e = absurd (true≢false (sym e))

result_number : (of : BareType) (t : FundamentalType) → core_type t ≡ of → is_number of ≡ true
result_number of t e = subst (λ (o : BareType). is_number o ≡ true) e (core_number t)

low_none : Low []
low_none number = (omega arith, omega arith)

-- ---- frames

-- how the run stands is seen alike when the frame is left
stopped_left : (classes : List ClassInfo) (e : Stop) (s : State) → seen_in s.world (stopped classes e s) ≡ seen_in (left s.world) (stopped classes e (in_world left s))
stopped_left classes (Throws at) s = refl
stopped_left classes HeapLimit s = refl
stopped_left classes DepthLimit s = refl
stopped_left classes Going s = refl
stopped_left classes Wrong s = refl

right_left : (classes : List ClassInfo) (e : Stop) (s : State) → IsMeant classes e s → IsMeant classes e (in_world left s)
right_left classes (Throws at) s h = h
right_left classes HeapLimit s h = h
right_left classes DepthLimit s h = h
right_left classes Going s h = h
right_left classes Wrong s h = h

module _ (set : Setting) where
  framed_r : (from : Next) (ends1 : Way → World → Next) (good1 : Way → World → Type 0) (ends2 : Value → World → Next) (good2 : Value → World → Type 0) (w0 b b1 : ℕ) (of : CoreType) (ran : Ran Way)
      → Got set.x set.classes set.frames set.turns b from ends1 good1 w0 ran
      → ((a : Way) (s : State) → good1 a s.world → StandsAt set b1 (ends1 a s.world) ends2 good2 s.work (in_frame (returned of (Ok a, s))))
      → StandsAt set (b + b1) from ends2 good2 w0 (in_frame (returned of ran))
  framed_r from ends1 good1 ends2 good2 w0 b b1 of (Ok a, s) m further = after set.x set.classes set.frames (b + b1) m.1 (further a s m.0) (omega arith)
  framed_r from ends1 good1 ends2 good2 w0 b b1 of (Err e, s) m further =
      record { got = (right_left set.classes e s m.0, record { steps = m.1.steps; least = m.1.least; most = omega (arith, m.1.most); same = m.1.same ∙ stopped_left set.classes e s }) }

  -- the end of a body as the end of its call
  framed : {from : Next} {ends1 : Way → World → Next} {good1 : Way → World → Type 0} {ends2 : Value → World → Next} {good2 : Value → World → Type 0} {w0 : ℕ} (b b1 : ℕ) (of : CoreType) (ran : Ran Way)
      → StandsAt set b from ends1 good1 w0 ran
      → ((a : Way) (s : State) → good1 a s.world → StandsAt set b1 (ends1 a s.world) ends2 good2 s.work (in_frame (returned of (Ok a, s))))
      → StandsAt set (b + b1) from ends2 good2 w0 (in_frame (returned of ran))
  framed b b1 of ran m further = framed_r _ _ _ _ _ _ b b1 of ran m.got further

-- the frame around is as it was
left_fine : (h : Site) (s w : World) → Fine h s → w.callers ≡ s.callers ++ s.variables ∷ [] → Fine h (left w)
left_fine h s w fine e =
    let n : length (s.callers ++ s.variables ∷ []) - 1 ≡ length s.callers = (let l = length-append s.callers (s.variables ∷ []) in omega (arith, l)) in
    let vs : (left w).variables ≡ s.variables =
    ap (λ (cs : List (List Value)). or_none (slice_get cs (length cs - 1))) e ∙ ap (λ (n : ℕ). or_none (slice_get (s.callers ++ s.variables ∷ []) n)) n ∙ ap or_none (last_is s.callers s.variables) in
    let cs : (left w).callers ≡ s.callers =
    ap (λ (cs : List (List Value)). take (length cs - 1) cs) e ∙ take_front s.callers (s.variables ∷ []) (length (s.callers ++ s.variables ∷ []) - 1) n in
    (subst (λ (l : List Value). AreOf h.locals l) (sym vs) fine.0, cs ∙ fine.1)

-- ---- calls

module _ (set : Setting) (functions : List RegionFunction) (tokens : Tokens) (program : CompiledProgram set functions tokens) where
  abbrev pub CallsStand : ℕ → Type 0
  CallsStand d = (place : ℕ) (caller : Method) (locals : List BareType) (callers : List Frame) (outer : List (List Value)) → d + (length callers + 1) ≡ set.frames
      → (method : MethodId) (given : List BareType) (result : BareType) → IsCallable set.classes method given result → (at : ℕ) (vs stack : List Value) (s : State)
      → HasAt (site_of set place caller locals callers outer) at (call tokens Direct method.0 ∷ []) → AreOf given vs → Fine (site_of set place caller locals callers outer) s.world
      → StandsAt set 1 (go (site_of set place caller locals callers outer) at (pushed_each vs stack) s.world) (λ (v : Value) (w : World). go (site_of set place caller locals callers outer) (at + 5) (pushed result v stack) w)
      (Good (site_of set place caller locals callers outer) result) s.work (calls_with set.classes functions set.turns d method vs s)

  -- what is known in a function that runs with so many frames left
  knows : (d : ℕ) → CallsStand d → (f : RegionFunction) (place : ℕ) (c : Compiled set tokens f place) (callers : List Frame) (outer : List (List Value)) → d + (length callers + 1) ≡ set.frames
      → Knows (function_site set place c.method f callers outer) tokens (length c.front) (calls_with set.classes functions set.turns d)
  knows d ih f place c callers outer room = record {
    quiet = program.quiet;
    numbers = numbers set tokens f place c;
    loads = loads set tokens f place c;
    stores = stores set tokens f place c;
    members = λ member next. program.members c.method member next;
    arguments = λ method given result is.
        let k = program.called method given result is in
        subst (λ (types : List BareType). AreNumbers types) (k.compiled.front_typed ∙ sym k.given_is) (are_numbers k.compiled.front_types);
    calls = λ method given result is at vs stack s has p fine. more set.x set.classes set.frames set.turns 64 (ih place c.method (map bare f.locals) callers outer room method given result is at vs stack s has p fine) (omega arith) (omega arith);
  }

  -- ---- the machine enters a method

  entered_is : (h : Site) (f : RegionFunction) (place : ℕ) (c : Compiled set tokens f place) (at : ℕ) (vs stack : List Value) (w : World) → AreOf (map core_type c.front_types) vs → nat_lt (length h.callers + 1) set.frames ≡ true
      → step.call set.x set.frames place (state_at h at (pushed_each vs stack) w) ≡ go_on place 0 [] [] (frame_at h at stack ∷ h.callers) (entered (vs ++ zeros_of c.back_types) w)
  entered_is h f place c at vs stack w p room =
      let st = state_at h at (pushed_each vs stack) w in
      let count : length c.front_types ≡ length vs = sym (are_length (map core_type c.front_types) vs p ∙ map_length core_type c.front_types) in
      ap (λ (o : Option Method). given o (λ method. popping_each (loaded method.parameters) [] (pushed_each vs stack) (λ taken stack. given (stored_each (loaded method.parameters) taken) (λ arguments. step.enter set.x set.frames place method arguments stack st)))) c.is
      ∙ ap (λ (l : List FundamentalType). popping_each l [] (pushed_each vs stack) (λ taken stack. given (stored_each l taken) (λ arguments. step.enter set.x set.frames place c.method arguments stack st))) (ap loaded c.parameters ∙ all_loaded c.front_types)
      ∙ all_taken vs c.front_types stack (λ taken stack. given (stored_each c.front_types taken) (λ arguments. step.enter set.x set.frames place c.method arguments stack st)) count
      ∙ ap (λ (o : Option (List Value)). given o (λ arguments. step.enter set.x set.frames place c.method arguments stack st)) (stored_all c.front_types vs p)
      ∙ ap (λ (b : Bool). if b then go_on place 0 [] [] (frame_at h at stack ∷ h.callers) (entered (vs ++ zeros_of c.method.locals) w) else Ends ending.DepthLimit w) room
      ∙ ap (λ (types : List FundamentalType). go_on place 0 [] [] (frame_at h at stack ∷ h.callers) (entered (vs ++ zeros_of types) w)) c.locals

  -- where there is no frame left it ends
  limit_is : (h : Site) (f : RegionFunction) (place : ℕ) (c : Compiled set tokens f place) (at : ℕ) (vs stack : List Value) (w : World) → AreOf (map core_type c.front_types) vs → nat_lt (length h.callers + 1) set.frames ≡ false
      → step.call set.x set.frames place (state_at h at (pushed_each vs stack) w) ≡ Ends ending.DepthLimit w
  limit_is h f place c at vs stack w p room =
      let st = state_at h at (pushed_each vs stack) w in
      let count : length c.front_types ≡ length vs = sym (are_length (map core_type c.front_types) vs p ∙ map_length core_type c.front_types) in
      ap (λ (o : Option Method). given o (λ method. popping_each (loaded method.parameters) [] (pushed_each vs stack) (λ taken stack. given (stored_each (loaded method.parameters) taken) (λ arguments. step.enter set.x set.frames place method arguments stack st)))) c.is
      ∙ ap (λ (l : List FundamentalType). popping_each l [] (pushed_each vs stack) (λ taken stack. given (stored_each l taken) (λ arguments. step.enter set.x set.frames place c.method arguments stack st))) (ap loaded c.parameters ∙ all_loaded c.front_types)
      ∙ all_taken vs c.front_types stack (λ taken stack. given (stored_each c.front_types taken) (λ arguments. step.enter set.x set.frames place c.method arguments stack st)) count
      ∙ ap (λ (o : Option (List Value)). given o (λ arguments. step.enter set.x set.frames place c.method arguments stack st)) (stored_all c.front_types vs p)
      ∙ ap (λ (b : Bool). if b then go_on place 0 [] [] (frame_at h at stack ∷ h.callers) (entered (vs ++ zeros_of c.method.locals) w) else Ends ending.DepthLimit w) room

  -- the meaning enters the function
  meant_is : (d : ℕ) (f : RegionFunction) (place : ℕ) (c : Compiled set tokens f place) (method : MethodId) (vs : List Value) (s : State) → function_for method functions ≡ Some f → AreOf (map core_type c.front_types) vs
      → calls_with set.classes functions set.turns (suc d) method vs s
      ≡ in_frame (returned f.result (outcome_of set.classes (calls_with set.classes functions set.turns d) set.turns (region_of f.body) (in_world (entered (vs ++ zeros_of c.back_types)) (tick s))))
  meant_is d f place c method vs s found p =
      let go_in = outcome_of set.classes (calls_with set.classes functions set.turns d) set.turns in
      let count : length vs ≡ length c.front = are_length (map core_type c.front_types) vs p ∙ ap length c.front_typed ∙ map_length bare c.front in
      let rest : drop (length vs) f.locals ≡ c.back = ap (drop (length vs)) c.parts ∙ drop_front c.front c.back (length vs) count in
      ap (λ (o : Option RegionFunction). call_function go_in o vs s) found
      ∙ ap (λ (l : List CoreType). enter (option_map (λ zeros. vs ++ zeros) (source.zeros_of l)) f.result (go_in (region_of f.body)) (tick s)) rest
      ∙ ap (λ (o : Option (List Value)). enter (option_map (λ zeros. vs ++ zeros) o) f.result (go_in (region_of f.body)) (tick s)) (zeros_are c.back_types c.back c.back_typed)

  -- ---- in a function that was called

  -- The caller's frame, and the function with its place; the caller's world at the call.
  module _ (place0 : ℕ) (caller : Method) (locals : List BareType) (callers : List Frame) (outer : List (List Value)) (f : RegionFunction) (place : ℕ) (c : Compiled set tokens f place) (at : ℕ) (stack : List Value) (before : World)
      (fine : Fine (site_of set place0 caller locals callers outer) before)
      (at_call : placed_in set.x place0 at ≡ Some (record { at = at; operation = does.Call place; next = at + 5 })) where
    abbrev here : Site
    here = site_of set place0 caller locals callers outer

    abbrev inside : Site
    inside = function_site set place c.method f (frame_at here at stack ∷ callers) (before.callers ++ before.variables ∷ [])

    abbrev result : BareType
    result = bare f.result

    abbrev returns : Value → World → Next
    returns v w = go here (at + 5) (pushed result v stack) (left w)

    back_to : (results : List Value) (w : World) → return_to set.x (frame_at here at stack ∷ callers) results w ≡ go here (at + 5) (results ++ stack) (left w)
    back_to results w = ap (λ (o : Option PlacedOperation). given o (λ p. go_on place0 p.next (results ++ stack) [] callers (left w))) at_call

    returned_by : (r : Option FundamentalType) → HasResult result r → (now : ℕ) (v : Value) (w : World) → IsOf result v → return_result set.x r (pushed result v []) (state_at inside now (pushed result v []) w) ≡ returns v w
    returned_by None e now v w vi =
        subst (λ (of : BareType). return_result set.x None (pushed of v []) (state_at inside now (pushed of v []) w) ≡ go here (at + 5) (pushed of v stack) (left w)) (sym e) (back_to [] w)
    returned_by (Some t) e now v w vi =
        let num = result_number result t e in
        ap (λ (st : List Value). return_result set.x (Some t) st (state_at inside now st w)) (pushed_is result v [] num)
        ∙ ap (λ (o : Option Value). given o (λ r. return_to set.x (frame_at here at stack ∷ callers) (r ∷ []) w)) (stored_is t v (subst (λ (o : BareType). IsOf o v) (sym e) vi))
        ∙ back_to (v ∷ []) w
        ∙ ap (λ (st : List Value). go here (at + 5) st (left w)) (sym (pushed_is result v stack num))

    return_is : (now next : ℕ) (v : Value) (w : World) → IsOf result v → act set.x set.frames does.Return next (state_at inside now (pushed result v []) w) ≡ returns v w
    return_is now next v w vi =
        ap (λ (o : Option Method). given o (λ m. return_result set.x m.result (pushed result v []) (state_at inside now (pushed result v []) w))) c.is ∙ returned_by c.method.result c.result now v w vi

    returning : Returns inside result returns
    returning = record { returned = return_is }

    abbrev CalleeAt : ℕ → Next → ℕ → Ran Value → Type 0
    CalleeAt b from work ran = StandsAt set b from (λ (v : Value) (w : World). go here (at + 5) (pushed result v stack) w) (Good here result) work ran

    abbrev size : ℕ
    size = region_size (region_of f.body)

    -- what is returned where the body ends normally
    end_by : (r : Option FundamentalType) → HasResult result r → HasAt inside size (end_code result) → (s : State) → Fine inside s.world → CalleeAt 3 (go inside size [] s.world) s.work (in_frame (returned f.result (Ok way.Next, s)))
    end_by None e has s g =
        let has' = subst (λ (of : BareType). HasAt inside size (end_code of)) e has in
        let vi : IsOf result Nothing = subst (λ (of : BareType). IsOf of Nothing) (sym e) tt in
        let none : pushed result Nothing [] ≡ [] = ap (λ (of : BareType). pushed of Nothing []) e in
        meant_same set.x set.classes set.frames (ap (λ (o : Option Value). in_frame (run.given o s)) (end_value_void f.result e))
        (did set.x set.classes set.frames (state_at inside size [] s.world) (record { at = size; operation = does.Return; next = size + 1 }) has'.0
        (at_same set.x set.classes set.frames (ap (λ (st : List Value). act set.x set.frames does.Return (size + 1) (state_at inside size st s.world)) (sym none) ∙ return_is size (size + 1) Nothing s.world vi)
        (stays set.x set.classes set.frames {b = 2} Nothing (in_world left s) (vi, left_fine here before s.world fine g.1) refl)))
    end_by (Some t) e has s g =
        let num = result_number result t e in
        let has' = subst (λ (l : List Instruction). HasAt inside size l) (end_code_number result num) has in
        let zero = number (is_wide result) 0 in
        let vi = zero_fits result num in
        let next = size + width (code.zero result) in
        meant_same set.x set.classes set.frames (ap (λ (o : Option Value). in_frame (run.given o s)) (end_value_number f.result num ∙ zero_is result num))
        (zero_did inside result size (the.Return ∷ []) [] s.world has'
        (did set.x set.classes set.frames (state_at inside next (zero ∷ []) s.world) (record { at = next; operation = does.Return; next = next + 1 }) has'.1.0
        (at_same set.x set.classes set.frames (ap (λ (st : List Value). act set.x set.frames does.Return (next + 1) (state_at inside next st s.world)) (sym (pushed_is result zero [] num)) ∙ return_is next (next + 1) zero s.world vi)
        (stays set.x set.classes set.frames {b = 1} zero (in_world left s) (vi, left_fine here before s.world fine g.1) refl))))

    has : HasAt inside 0 (region_code tokens (length c.front) (region_of f.body) 0 [] ++ end_code result)
    has = c.code (frame_at here at stack ∷ callers) (before.callers ++ before.variables ∷ [])

    ends_at : 0 + size ≡ size
    ends_at = omega arith

    end_has : HasAt inside size (end_code result)
    end_has = has_back inside 0 size (region_code tokens (length c.front) (region_of f.body) 0 []) (end_code result)
        (let r = region_is tokens (length c.front) (region_of f.body) 0 [] in omega (arith, r)) has

    ways : (a : Way) (s : State) → WayGood inside result [] a s.world → CalleeAt 3 (leads inside size [] returns a s.world) s.work (in_frame (returned f.result (Ok a, s)))
    ways way.Next s g = end_by c.method.result c.result end_has s g
    ways (way.Break number) s g = absurd (omega (arith, g.0))
    ways (way.Continue number) s g = none_some a_loop g.0
    ways (way.Return v) s g = stays set.x set.classes set.frames v (in_world left s) (g.0, left_fine here before s.world fine g.1.1) refl

    body_stands : (d : ℕ) → CallsStand d → suc d + (length callers + 1) ≡ set.frames → (s : State) → Fine inside s.world
        → CalleeAt 3 (go inside 0 [] s.world) s.work (in_frame (returned f.result (outcome_of set.classes (calls_with set.classes functions set.turns d) set.turns (region_of f.body) s)))
    body_stands d ih room s g =
        framed set 0 3 f.result (outcome_of set.classes (calls_with set.classes functions set.turns d) set.turns (region_of f.body) s)
        (region_stands inside tokens (length c.front) (calls_with set.classes functions set.turns d) (knows d ih f place c (frame_at here at stack ∷ callers) (before.callers ++ before.variables ∷ []) (omega (arith, room)))
        result returns returning (region_of f.body) [] c.fit c.small 0 size [] s
        (has_front inside 0 (region_code tokens (length c.front) (region_of f.body) 0 []) (end_code result) has) ends_at (let l = c.size in omega (arith, l)) low_none g)
        ways

  both_typed : (f : RegionFunction) (place : ℕ) (c : Compiled set tokens f place) → map core_type c.front_types ++ map core_type c.back_types ≡ map bare f.locals
  both_typed f place c =
      ap (λ (l : List BareType). l ++ map core_type c.back_types) c.front_typed ∙ ap (λ (l : List BareType). map bare c.front ++ l) c.back_typed ∙ sym (map_append bare c.front c.back) ∙ ap (map bare) (sym c.parts)

  pub calls_stand : (d : ℕ) → CallsStand d
  calls_stand zero place0 caller locals callers outer room method given result is at vs stack s has p fine =
      let k = program.called method given result is in
      let vi : AreOf (map core_type k.compiled.front_types) vs = subst (λ (types : List BareType). AreOf types vs) (k.given_is ∙ sym k.compiled.front_typed) p in
      let h = site_of set place0 caller locals callers outer in
      let full : nat_lt (length callers + 1) set.frames ≡ false = le-ltb (length callers + 1) set.frames (omega (arith, room)) in
      did set.x set.classes set.frames (state_at h at (pushed_each vs stack) s.world) (record { at = at; operation = does.Call k.place; next = at + 5 }) (has.0 ∙ ap (placed at (at + 5)) (k.token caller (at + 5)))
      (at_same set.x set.classes set.frames (limit_is h k.f k.place k.compiled at vs stack s.world vi full)
      (record { got = ((λ q. ended_right ending.DepthLimit q), record { steps = 0; least = omega arith; most = omega arith; same = refl }) }))
  calls_stand (suc d) place0 caller locals callers outer room method given result is at vs stack s has p fine =
      let k = program.called method given result is in
      let c = k.compiled in
      let vi : AreOf (map core_type c.front_types) vs = subst (λ (types : List BareType). AreOf types vs) (k.given_is ∙ sym c.front_typed) p in
      let h = site_of set place0 caller locals callers outer in
      let at_call = has.0 ∙ ap (placed at (at + 5)) (k.token caller (at + 5)) in
      let free : nat_lt (length callers + 1) set.frames ≡ true = lt-ltb (length callers + 1) set.frames (omega (arith, room)) in
      let all : AreOf (map bare k.f.locals) (vs ++ zeros_of c.back_types) =
      subst (λ (types : List BareType). AreOf types (vs ++ zeros_of c.back_types)) (both_typed k.f k.place c) (are_both (map core_type c.front_types) (map core_type c.back_types) vs (zeros_of c.back_types) vi (zeros_fit c.back_types)) in
      subst (λ (result : BareType). StandsAt set 1 (go h at (pushed_each vs stack) s.world) (λ (v : Value) (w : World). go h (at + 5) (pushed result v stack) w) (Good h result) s.work (calls_with set.classes functions set.turns (suc d) method vs s)) k.result_is
      (did set.x set.classes set.frames (state_at h at (pushed_each vs stack) s.world) (record { at = at; operation = does.Call k.place; next = at + 5 }) at_call
      (at_same set.x set.classes set.frames (entered_is h k.f k.place c at vs stack s.world vi free)
      (meant_same set.x set.classes set.frames (meant_is d k.f k.place c method vs s k.found vi)
      (ticks set.x set.classes set.frames 0
      (more set.x set.classes set.frames set.turns 64
      (body_stands place0 caller locals callers outer k.f k.place c at stack s.world fine at_call d (calls_stand d) room (in_world (entered (vs ++ zeros_of c.back_types)) (tick s)) (all, refl))
      (omega arith) (omega arith))))))
