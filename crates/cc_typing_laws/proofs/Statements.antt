-- What a statement adds to its scope is sound.
use Rattle.std.proofs.Common.{◌≡◌, Bool, true, false, cond, List, [], ◌∷◌, ◌++◌, Option, Some, None, Ok, refl, ap, subst}
use Rattle.std.specs.Prelude.{⊤}
use Rattle.cc_base.specs.declared.text.Span.{Span}
use Rattle.cc_base.specs.declared.kind.Kind.TheVariants as kind
use Rattle.cc_tree.specs.declared.type_name.FundamentalType.{FundamentalType}
use Rattle.cc_tree.specs.declared.expression.Expression.{Expression}
use Rattle.cc_tree.specs.declared.statement.ForStart.{ForStart}
use Rattle.cc_tree.specs.declared.statement.ForStart.TheVariants as start
use Rattle.cc_core.specs.declared.tree.LoopKind.{LoopKind}
use Rattle.cc_core.specs.declared.tree.LoopKind.TheVariants.{TestFirst, BodyFirst}
use Rattle.cc_core.specs.declared.types.ClassInfo.{ClassInfo}
use Rattle.cc_core.specs.Types.{BareType}
use Rattle.cc_core.specs.Types as type
use Rattle.cc_core.specs.Step as step
use Rattle.cc_core.specs.Step.{Step, Steps}
use Rattle.cc_core.specs.Term.{Term}
use Rattle.cc_core.specs.Typed.{IsTypedIf, FitsResult, IsSound, HasProperSwitches, declares}
use Rattle.cc_operations.specs.declared.source.Source.{Source}
use Rattle.cc_operations.specs.declared.source.Frame.{Frame}
use Rattle.cc_operations.specs.Choosing.{Pick, Chooses}
use Rattle.cc_operations.specs.Numbers.{core, is_void}
use Rattle.cc_operations.specs.Judgements.{Judged, refused, next, Value}
use Rattle.cc_operations.specs.Operations as spec
use Rattle.cc_statements.specs.declared.stand.Stand.{Stand}
use Rattle.cc_statements.specs.Steps.{Part, steps_from, inside, in_loop, scope, at, tested, left, otherwise, leaves, value, done_alone, started, test_of, advance_of, conditional, while_loop, do_loop, for_loop, returned}
use Rattle.cc_terms.specs.Resolving.{Finds}
use Rattle.cc_typing_laws.proofs.TypeKinds.{number_core}
use Rattle.cc_typing_laws.proofs.Calls.{FitsSource, is_the_void}
use Rattle.cc_typing_laws.proofs.Expressions.{FitsVariable}
use Rattle.cc_typing_laws.proofs.Frames.{Ready, covers_before, grown_none, grown_both, grown_left, ready_left}
use Rattle.cc_typing_laws.proofs.Made.{GoodSteps, GoodStep, IsGood, unless_at, unless_tested, good_append, good_none, scope_good, alone_good, condition_good, GoodValue, value_good, GoodAs, converted_good}
use Rattle.cc_typing_laws.proofs.Declarations.{local_good}
use Rattle.cc_typing_laws.proofs.Lists.{Each}
use Rattle.cc_typing_laws.proofs.Refusals.{Unless, next_unless, unless_may}

-- what follows where a condition has a value
next_tested : {B : Type 0} (Q : B → Type 0) (void : Bool) (span : Span) (made : Step) (then : List Step → Judged B) → (void ≡ false → Unless Q (then (made ∷ []))) → Unless Q (next (cond void (spec.no_conversion span) (Ok (made ∷ []))) then)
next_tested Q true span made then h = tt
next_tested Q false span made then h = h refl

module _ (classes : List ClassInfo) where
  -- a scope, with what is known of it
  abbrev GoodScope : Stand → Frame → Step × Frame → Type 0
  GoodScope stand frame made = GoodStep classes stand frame made × (declares (step.next_step made.0 step.no_steps) ≡ false)

  abbrev pub IsGoodIf : Option Part → Type 0
  IsGoodIf None = ⊤
  IsGoodIf (Some part) = IsGood classes part

  otherwise_good : (second : Option Part) (stand : Stand) (frame : Frame) → IsGoodIf second → Unless (GoodScope stand frame) (otherwise second stand frame)
  otherwise_good None stand frame h = (record { grown = grown_none frame; good = λ locals result covers ready. ((tt, tt), ready) }, refl)
  otherwise_good (Some part) stand frame h = scope_good classes part stand frame h

  -- a statement that adds no variables
  pub still_good : (stand : Stand) (frame : Frame) (made : Step) → declares (step.next_step made step.no_steps) ≡ false
      → ((locals : List BareType) (result : FundamentalType) → Ready locals result frame → IsSound classes locals (core result) stand.breaks stand.continues made × HasProperSwitches made) → GoodSteps classes stand frame (made ∷ [], frame)
  still_good stand frame made silent h = alone_good classes stand frame made frame silent (record { grown = grown_none frame; good = λ locals result covers ready. (h locals result ready, ready) })

  pub leaves_good : (stand : Stand) (frame : Frame) (may : Bool) (made : Step) (span : Span) → (may ≡ true → GoodSteps classes stand frame (made ∷ [], frame)) → Unless (GoodSteps classes stand frame) (at (leaves may made span) frame)
  leaves_good stand frame may made span h =
      unless_at (GoodSteps classes stand frame) (leaves may made span) frame
      (unless_may (λ all. GoodSteps classes stand frame (all, frame)) may (Ok (made ∷ [])) (refused kind.BadBreak span) h tt)

  pub break_good : (span : Span) (stand : Stand) (frame : Frame) → Unless (GoodSteps classes stand frame) (at (leaves stand.breaks step.Break span) frame)
  break_good span stand frame = leaves_good stand frame stand.breaks step.Break span (λ e. still_good stand frame step.Break refl (λ locals result ready. (e, tt)))

  pub continue_good : (span : Span) (stand : Stand) (frame : Frame) → Unless (GoodSteps classes stand frame) (at (leaves stand.continues step.Continue span) frame)
  continue_good span stand frame = leaves_good stand frame stand.continues step.Continue span (λ e. still_good stand frame step.Continue refl (λ locals result ready. (e, tt)))

  pub empty_good : (stand : Stand) (frame : Frame) → GoodSteps classes stand frame (step.Block step.no_steps ∷ [], frame)
  empty_good stand frame = still_good stand frame (step.Block step.no_steps) refl (λ locals result ready. (tt, tt))

  pub block_alone : (block : Part) → IsGood classes block → IsGood classes (λ stand frame. next (scope block stand frame) (λ made. Ok (made.0 ∷ [], made.1)))
  block_alone block h stand frame =
      next_unless (GoodScope stand frame) (GoodSteps classes stand frame) (scope block stand frame) (λ made. Ok (made.0 ∷ [], made.1)) (scope_good classes block stand frame h)
      (λ made m. alone_good classes stand frame made.0 made.1 m.1 m.0)

  module _ (pick : Pick) (chooses : Chooses classes pick) (finds : Finds) (source : Source) (fits_source : FitsSource classes source.functions) where
    abbrev Gives : Frame → Value → Type 0
    Gives frame given = GoodValue classes pick chooses finds source fits_source frame given

    gives : (x : Expression) (frame : Frame) → Unless (Gives frame) (value pick finds source x frame)
    gives x frame = value_good classes pick chooses finds source fits_source x frame

    pub done_good : (x : Expression) (stand : Stand) (frame : Frame) → Unless (GoodSteps classes stand frame) (at (done_alone pick finds source x frame) frame)
    done_good x stand frame =
        unless_at (GoodSteps classes stand frame) (done_alone pick finds source x frame) frame
        (next_unless (Gives frame) (λ all. GoodSteps classes stand frame (all, frame)) (value pick finds source x frame) (λ given. Ok (step.Do given.term ∷ [])) (gives x frame)
        (λ given g. still_good stand frame (step.Do given.term) refl (λ locals result ready. ((g locals ready.variables).typed, tt))))

    -- ---- conditionals

    if_step : (stand : Stand) (frame : Frame) (given : Value) (one other : Step × Frame) → is_void given.of ≡ false → Gives frame given → GoodStep classes stand frame one → GoodStep classes stand one.1 other
        → GoodStep classes stand frame (step.If given.term one.0 other.0, other.1)
    if_step stand frame given one other v g h k = record {
      grown = grown_both frame one.1 other.1 h.grown k.grown;
      good = λ locals result covers ready.
          let first = h.good locals result (covers_before locals one.1 other.1 k.grown covers) ready in
          let second = k.good locals result covers first.1 in
          (((condition_good classes locals given v (g locals ready.variables), first.0.0, second.0.0), (first.0.1, second.0.1)), second.1);
    }

    pub if_good : (x : Expression) (first : Part) (second : Option Part) (span : Span) → IsGood classes first → IsGoodIf second → IsGood classes (conditional pick finds source x first second span)
    if_good x first second span h k stand frame =
        next_unless (Gives frame) (GoodSteps classes stand frame) (value pick finds source x frame)
        (λ given. next (scope first stand frame) (λ one. next (otherwise second stand one.1) (λ other. at (tested span given.of (step.If given.term one.0 other.0)) other.1))) (gives x frame)
        (λ given g. next_unless (GoodScope stand frame) (GoodSteps classes stand frame) (scope first stand frame)
        (λ one. next (otherwise second stand one.1) (λ other. at (tested span given.of (step.If given.term one.0 other.0)) other.1)) (scope_good classes first stand frame h)
        (λ one m. next_unless (GoodScope stand one.1) (GoodSteps classes stand frame) (otherwise second stand one.1) (λ other. at (tested span given.of (step.If given.term one.0 other.0)) other.1) (otherwise_good second stand one.1 k)
        (λ other n. unless_tested (GoodSteps classes stand frame) span given.of (step.If given.term one.0 other.0) other.1
        (λ v. alone_good classes stand frame (step.If given.term one.0 other.0) other.1 refl (if_step stand frame given one other v g m.0 n.0)))))

    -- ---- loops

    abbrev IsTypedBehind : Frame → Option Term → Type 0
    IsTypedBehind frame after = (locals : List BareType) → Each (FitsVariable locals) frame.variables → IsTypedIf classes locals after

    loop_step : (kind : LoopKind) (around stand : Stand) (frame : Frame) (given : Value) (after : Option Term) (made : Step × Frame) → is_void given.of ≡ false → Gives frame given → IsTypedBehind frame after → GoodStep classes (in_loop stand) frame made
        → GoodStep classes around frame (step.Loop kind given.term after made.0, made.1)
    loop_step kind around stand frame given after made v g a h = record {
      grown = h.grown;
      good = λ locals result covers ready.
          let body = h.good locals result covers ready in
          (((condition_good classes locals given v (g locals ready.variables), a locals ready.variables, body.0.0), body.0.1), body.1);
    }

    pub while_good : (x : Expression) (body : Part) (span : Span) → IsGood classes body → IsGood classes (while_loop pick finds source x body span)
    while_good x body span h stand frame =
        next_unless (Gives frame) (GoodSteps classes stand frame) (value pick finds source x frame)
        (λ given. next (scope body (in_loop stand) frame) (λ made. at (tested span given.of (step.Loop TestFirst given.term None made.0)) made.1)) (gives x frame)
        (λ given g. next_unless (GoodScope (in_loop stand) frame) (GoodSteps classes stand frame) (scope body (in_loop stand) frame) (λ made. at (tested span given.of (step.Loop TestFirst given.term None made.0)) made.1)
        (scope_good classes body (in_loop stand) frame h)
        (λ made m. unless_tested (GoodSteps classes stand frame) span given.of (step.Loop TestFirst given.term None made.0) made.1
        (λ v. alone_good classes stand frame (step.Loop TestFirst given.term None made.0) made.1 refl (loop_step TestFirst stand stand frame given None made v g (λ locals fits. tt) m.0))))

    do_step : (stand : Stand) (frame : Frame) (given : Value) (made : Step × Frame) → is_void given.of ≡ false → Gives made.1 given → GoodStep classes (in_loop stand) frame made → GoodStep classes stand frame (step.Loop BodyFirst given.term None made.0, made.1)
    do_step stand frame given made v g h = record {
      grown = h.grown;
      good = λ locals result covers ready.
          let body = h.good locals result covers ready in
          (((condition_good classes locals given v (g locals body.1.variables), tt, body.0.0), body.0.1), body.1);
    }

    pub do_good : (body : Part) (x : Expression) (span : Span) → IsGood classes body → IsGood classes (do_loop pick finds source body x span)
    do_good body x span h stand frame =
        next_unless (GoodScope (in_loop stand) frame) (GoodSteps classes stand frame) (scope body (in_loop stand) frame)
        (λ made. next (value pick finds source x made.1) (λ given. at (tested span given.of (step.Loop BodyFirst given.term None made.0)) made.1)) (scope_good classes body (in_loop stand) frame h)
        (λ made m. next_unless (Gives made.1) (GoodSteps classes stand frame) (value pick finds source x made.1) (λ given. at (tested span given.of (step.Loop BodyFirst given.term None made.0)) made.1) (gives x made.1)
        (λ given g. unless_tested (GoodSteps classes stand frame) span given.of (step.Loop BodyFirst given.term None made.0) made.1
        (λ v. alone_good classes stand frame (step.Loop BodyFirst given.term None made.0) made.1 refl (do_step stand frame given made v g m.0))))

    started_good : (first : ForStart) (stand : Stand) (frame : Frame) → Unless (GoodSteps classes (inside stand) frame) (started pick finds source first frame)
    started_good start.Nothing stand frame = good_none classes (inside stand) frame
    started_good (start.Local one) stand frame = local_good classes pick chooses finds source fits_source stand one frame
    started_good (start.Expression x) stand frame = done_good x (inside stand) frame

    test_good : (condition : Option Expression) (frame : Frame) → Unless (Gives frame) (test_of pick finds source condition frame)
    test_good None frame = λ locals fits. record { typed = (refl, refl); type = refl }
    test_good (Some x) frame = gives x frame

    advance_good : (advance : Option Expression) (frame : Frame) → Unless (IsTypedBehind frame) (advance_of pick finds source advance frame)
    advance_good None frame = λ locals fits. tt
    advance_good (Some x) frame = next_unless (Gives frame) (IsTypedBehind frame) (value pick finds source x frame) (λ given. Ok (Some given.term)) (gives x frame) (λ given g locals fits. (g locals fits).typed)

    -- a `for` is a scope as a whole
    for_step : (stand : Stand) (frame : Frame) (begun : List Step × Frame) (given : Value) (after : Option Term) (made : Step × Frame) → is_void given.of ≡ false → GoodSteps classes (inside stand) frame begun → Gives begun.1 given → IsTypedBehind begun.1 after
        → GoodStep classes (in_loop stand) begun.1 made → GoodSteps classes stand frame (step.Block (steps_from (begun.0 ++ step.Loop TestFirst given.term after made.0 ∷ [])) ∷ [], left frame made.1)
    for_step stand frame begun given after made v h g a k =
        let loop : Step = step.Loop TestFirst given.term after made.0 in
        let turns : GoodSteps classes (inside stand) begun.1 (step.Loop TestFirst given.term after made.0 ∷ [], made.1) =
        alone_good classes (inside stand) begun.1 (step.Loop TestFirst given.term after made.0) made.1 refl (loop_step TestFirst (inside stand) stand begun.1 given after made v g a k) in
        let all = good_append classes (inside stand) frame begun.1 made.1 begun.0 (step.Loop TestFirst given.term after made.0 ∷ []) h turns in
        alone_good classes stand frame (step.Block (steps_from (begun.0 ++ step.Loop TestFirst given.term after made.0 ∷ []))) (left frame made.1) refl (record {
          grown = grown_left frame frame made.1 all.grown;
          good = λ locals result covers ready.
              let inner = all.good locals result covers ready in
              ((inner.0.sound, inner.0.switches), ready_left locals result frame made.1 inner.1);
        })

    pub for_good : (first : ForStart) (condition advance : Option Expression) (body : Part) (span : Span) → IsGood classes body → IsGood classes (for_loop pick finds source first condition advance body span)
    for_good first condition advance body span h stand frame =
        next_unless (GoodSteps classes (inside stand) frame) (GoodSteps classes stand frame) (started pick finds source first frame)
        (λ begun. next (test_of pick finds source condition begun.1) (λ given. next (advance_of pick finds source advance begun.1) (λ after. next (scope body (in_loop stand) begun.1) (λ made.
        next (tested span given.of (step.Loop TestFirst given.term after made.0)) (λ turns. Ok (step.Block (steps_from (begun.0 ++ turns)) ∷ [], left frame made.1)))))) (started_good first stand frame)
        (λ begun m. next_unless (Gives begun.1) (GoodSteps classes stand frame) (test_of pick finds source condition begun.1)
        (λ given. next (advance_of pick finds source advance begun.1) (λ after. next (scope body (in_loop stand) begun.1) (λ made.
        next (tested span given.of (step.Loop TestFirst given.term after made.0)) (λ turns. Ok (step.Block (steps_from (begun.0 ++ turns)) ∷ [], left frame made.1))))) (test_good condition begun.1)
        (λ given g. next_unless (IsTypedBehind begun.1) (GoodSteps classes stand frame) (advance_of pick finds source advance begun.1)
        (λ after. next (scope body (in_loop stand) begun.1) (λ made. next (tested span given.of (step.Loop TestFirst given.term after made.0)) (λ turns. Ok (step.Block (steps_from (begun.0 ++ turns)) ∷ [], left frame made.1)))) (advance_good advance begun.1)
        (λ after a. next_unless (GoodScope (in_loop stand) begun.1) (GoodSteps classes stand frame) (scope body (in_loop stand) begun.1)
        (λ made. next (tested span given.of (step.Loop TestFirst given.term after made.0)) (λ turns. Ok (step.Block (steps_from (begun.0 ++ turns)) ∷ [], left frame made.1))) (scope_good classes body (in_loop stand) begun.1 h)
        (λ made n. next_tested (GoodSteps classes stand frame) (is_void given.of) span (step.Loop TestFirst given.term after made.0) (λ turns. Ok (step.Block (steps_from (begun.0 ++ turns)) ∷ [], left frame made.1))
        (λ v. for_step stand frame begun given after made v m g a n.0)))))

    -- ---- returns

    returns : (x : Option Expression) (span : Span) (stand : Stand) (frame : Frame) → Unless (λ made. GoodSteps classes stand frame (made, frame)) (returned pick finds source x span frame)
    returns None span stand frame =
        unless_may (λ made. GoodSteps classes stand frame (made, frame)) (is_void frame.result) (Ok (step.Return None ∷ [])) (spec.no_conversion span)
        (λ v. still_good stand frame (step.Return None) refl (λ locals result ready. (subst (λ (of : FundamentalType). core of ≡ type.Void) ready.result_is (ap core (is_the_void frame.result v)), tt))) tt
    returns (Some x) span stand frame =
        next_unless (Gives frame) (λ made. GoodSteps classes stand frame (made, frame)) (value pick finds source x frame) (λ given. next (spec.converted span frame.result given) (λ made. Ok (step.Return (Some made.term) ∷ []))) (gives x frame)
        (λ given g. next_unless (GoodAs classes pick chooses finds source fits_source frame frame.result) (λ made. GoodSteps classes stand frame (made, frame)) (spec.converted span frame.result given) (λ made. Ok (step.Return (Some made.term) ∷ []))
        (converted_good classes pick chooses finds source fits_source span frame.result frame given g)
        (λ made m. still_good stand frame (step.Return (Some made.term)) refl (λ locals result ready.
        let has = m.1 locals ready.variables in
        (subst (λ (of : FundamentalType). FitsResult classes locals (core of) (Some made.term)) ready.result_is (has.typed, number_core frame.result m.0, has.type), tt))))

    pub return_good : (x : Option Expression) (span : Span) (stand : Stand) (frame : Frame) → Unless (GoodSteps classes stand frame) (at (returned pick finds source x span frame) frame)
    return_good x span stand frame = unless_at (GoodSteps classes stand frame) (returned pick finds source x span frame) frame (returns x span stand frame)
