-- What the typing of a part of a function makes: statements that are sound in the function's body, whatever variables it has in the end.
use Rattle.std.proofs.Common.{◌≡◌, Bool, true, false, cond, ◌||◌, List, [], ◌∷◌, ◌++◌, Ok, Err, refl, sym, subst}
use Rattle.std.proofs.lemmas.Bool.{false≢true}
use Rattle.cc_base.specs.declared.text.Span.{Span}
use Rattle.cc_tree.specs.declared.type_name.FundamentalType.{FundamentalType}
use Rattle.cc_tree.specs.declared.expression.Expression.{Expression}
use Rattle.cc_core.specs.declared.types.ClassInfo.{ClassInfo}
use Rattle.cc_core.specs.Types.{BareType}
use Rattle.cc_core.specs.Step as step
use Rattle.cc_core.specs.Step.{Step, Steps}
use Rattle.cc_core.specs.Typed.{IsNumber, IsCondition, IsSound, AreSound, HasProperSwitches, HaveProperSwitches, declares}
use Rattle.cc_operations.specs.declared.source.Source.{Source}
use Rattle.cc_operations.specs.declared.source.Frame.{Frame}
use Rattle.cc_operations.specs.Choosing.{Pick, Chooses}
use Rattle.cc_operations.specs.Numbers.{core, is_void}
use Rattle.cc_operations.specs.Judgements.{Judged, Value}
use Rattle.cc_operations.specs.Operations as spec
use Rattle.cc_statements.specs.declared.stand.Stand.{Stand}
use Rattle.cc_statements.specs.Steps.{Part, steps_from, in_row, inside, scope, at, tested, left, value}
use Rattle.cc_terms.specs.Resolving.{Finds}
use Rattle.cc_typing_laws.proofs.TypeKinds.{number_core}
use Rattle.cc_typing_laws.proofs.Terms.{Has, Sound, converted_sound}
use Rattle.cc_typing_laws.proofs.Calls.{FitsSource}
use Rattle.cc_typing_laws.proofs.Expressions.{FitsVariable, value_sound}
use Rattle.cc_typing_laws.proofs.Frames.{Grown, grown_none, grown_both, Covers, covers_before, Ready, ready_left, grown_left}
use Rattle.cc_typing_laws.proofs.Lists.{Each}
use Rattle.cc_typing_laws.proofs.Refusals.{Unless, next_unless, unless_cond, unless_given, unless_both}
use Rattle.cc_typing_laws.proofs.Tests.{neither}

-- ---- what is judged, with the variables behind it

pub unless_at : {A : Type 0} (Q : A × Frame → Type 0) (judged : Judged A) (frame : Frame) → Unless (λ made. Q (made, frame)) judged → Unless Q (at judged frame)
unless_at Q (Ok made) frame h = h
unless_at Q (Err refusal) frame h = tt

at_if : (Q : List Step × Frame → Type 0) (void : Bool) (span : Span) (made : Step) (frame : Frame) → (void ≡ false → Q (made ∷ [], frame)) → Unless Q (at (cond void (spec.no_conversion span) (Ok (made ∷ []))) frame)
at_if Q true span made frame h = tt
at_if Q false span made frame h = h refl

-- a statement with a condition is refused where the condition has no value
pub unless_tested : (Q : List Step × Frame → Type 0) (span : Span) (of : FundamentalType) (made : Step) (frame : Frame) → (is_void of ≡ false → Q (made ∷ [], frame)) → Unless Q (at (tested span of made) frame)
unless_tested Q span of made frame h = at_if Q (is_void of) span made frame h

module _ (classes : List ClassInfo) where
  -- statements that are sound in a body where such stands around them
  pub record SoundSteps (locals : List BareType) (result : FundamentalType) (stand : Stand) (steps : List Step) : Type 0 where
    pub sound : AreSound classes locals (core result) stand.breaks stand.continues (steps_from steps)
    pub switches : HaveProperSwitches (steps_from steps)

  -- What a part makes of a function: its statements are sound in each body that has the variables behind it, and declare variables only where they may.
  pub record GoodSteps (stand : Stand) (before : Frame) (made : List Step × Frame) : Type 0 where
    pub grown : Grown before made.1
    pub silent : stand.declares ≡ false → declares (steps_from made.0) ≡ false
    pub good : (locals : List BareType) (result : FundamentalType) → Covers locals made.1 → Ready locals result before → SoundSteps locals result stand made.0 × Ready locals result made.1

  -- the same of one statement
  pub record GoodStep (stand : Stand) (before : Frame) (made : Step × Frame) : Type 0 where
    pub grown : Grown before made.1
    pub good : (locals : List BareType) (result : FundamentalType) → Covers locals made.1 → Ready locals result before
        → (IsSound classes locals (core result) stand.breaks stand.continues made.0 × HasProperSwitches made.0) × Ready locals result made.1

  abbrev pub IsGood : Part → Type 0
  IsGood part = (stand : Stand) (frame : Frame) → Unless (GoodSteps stand frame) (part stand frame)

  -- ---- statements in a row

  sound_append : (locals : List BareType) (result : BareType) (breaks continues : Bool) (one other : List Step) → AreSound classes locals result breaks continues (steps_from one) → AreSound classes locals result breaks continues (steps_from other)
      → AreSound classes locals result breaks continues (steps_from (one ++ other))
  sound_append locals result breaks continues [] other h k = k
  sound_append locals result breaks continues (x ∷ one) other h k = (h.0, sound_append locals result breaks continues one other h.1 k)

  switches_append : (one other : List Step) → HaveProperSwitches (steps_from one) → HaveProperSwitches (steps_from other) → HaveProperSwitches (steps_from (one ++ other))
  switches_append [] other h k = k
  switches_append (x ∷ one) other h k = (h.0, switches_append one other h.1 k)

  silent_append : (one other : List Step) → declares (steps_from one) ≡ false → declares (steps_from other) ≡ false → declares (steps_from (one ++ other)) ≡ false
  silent_append [] other h k = k
  silent_append (step.Block steps ∷ one) other h k = silent_append one other h k
  silent_append (step.Do x ∷ one) other h k = silent_append one other h k
  silent_append (step.Throw x ∷ one) other h k = silent_append one other h k
  silent_append (step.Delete x ∷ one) other h k = silent_append one other h k
  silent_append (step.Declare local of x ∷ one) other h k = absurd (false≢true (sym h))
  silent_append (step.DeclareStack local x ∷ one) other h k = silent_append one other h k
  silent_append (step.If x first second ∷ one) other h k = silent_append one other h k
  silent_append (step.Loop kind x after body ∷ one) other h k = silent_append one other h k
  silent_append (step.ForEach local x body ∷ one) other h k = silent_append one other h k
  silent_append (step.Switch local x inner ∷ one) other h k = silent_append one other h k
  silent_append (step.Break ∷ one) other h k = silent_append one other h k
  silent_append (step.Continue ∷ one) other h k = silent_append one other h k
  silent_append (step.Rethrow ∷ one) other h k = silent_append one other h k
  silent_append (step.Return x ∷ one) other h k = silent_append one other h k
  silent_append (step.Try body caught last ∷ one) other h k = silent_append one other h k

  steps_append : (locals : List BareType) (result : FundamentalType) (stand : Stand) (one other : List Step) → SoundSteps locals result stand one → SoundSteps locals result stand other → SoundSteps locals result stand (one ++ other)
  steps_append locals result stand one other h k = record {
    sound = sound_append locals (core result) stand.breaks stand.continues one other h.sound k.sound;
    switches = switches_append one other h.switches k.switches;
  }

  pub good_append : (stand : Stand) (one two three : Frame) (first second : List Step) → GoodSteps stand one (first, two) → GoodSteps stand two (second, three) → GoodSteps stand one (first ++ second, three)
  good_append stand one two three first second h k = record {
    grown = grown_both one two three h.grown k.grown;
    silent = λ s. silent_append first second (h.silent s) (k.silent s);
    good = λ locals result covers ready.
        let before = h.good locals result (covers_before locals two three k.grown covers) ready in
        let behind = k.good locals result covers before.1 in
        (steps_append locals result stand first second before.0 behind.0, behind.1);
  }

  pub good_none : (stand : Stand) (frame : Frame) → GoodSteps stand frame ([], frame)
  good_none stand frame = record { grown = grown_none frame; silent = λ s. refl; good = λ locals result covers ready. (record { sound = tt; switches = tt }, ready) }

  pub row_good : (stand : Stand) (parts : List Part) (before : Frame) (done : List Step) (frame : Frame) → Each IsGood parts → GoodSteps stand before (done, frame) → Unless (GoodSteps stand before) (in_row stand parts done frame)
  row_good stand [] before done frame h k = k
  row_good stand (part ∷ parts) before done frame h k =
      next_unless (GoodSteps stand frame) (GoodSteps stand before) (part stand frame) (λ made. in_row stand parts (done ++ made.0) made.1) (h.0 stand frame)
      (λ made m. row_good stand parts before (done ++ made.0) made.1 h.1 (good_append stand before frame made.1 done made.0 k m))

  -- a scope is a block
  pub scope_good : (part : Part) (stand : Stand) (frame : Frame) → IsGood part → Unless (λ made. GoodStep stand frame made × (declares (step.next_step made.0 step.no_steps) ≡ false)) (scope part stand frame)
  scope_good part stand frame h =
      next_unless (GoodSteps (inside stand) frame) (λ made. GoodStep stand frame made × (declares (step.next_step made.0 step.no_steps) ≡ false)) (part (inside stand) frame) (λ made. Ok (step.Block (steps_from made.0), left frame made.1)) (h (inside stand) frame)
      (λ made m. (
        record {
          grown = grown_left frame frame made.1 m.grown;
          good = λ locals result covers ready.
              let inner = m.good locals result covers ready in
              ((inner.0.sound, inner.0.switches), ready_left locals result frame made.1 inner.1);
        },
        refl,
      ))

  -- a statement alone
  pub alone_good : (stand : Stand) (frame : Frame) (made : Step) (after : Frame) → declares (step.next_step made step.no_steps) ≡ false → GoodStep stand frame (made, after) → GoodSteps stand frame (made ∷ [], after)
  alone_good stand frame made after silent h = record {
    grown = h.grown;
    silent = λ s. silent;
    good = λ locals result covers ready.
        let one = h.good locals result covers ready in
        (record { sound = (one.0.0, tt); switches = (one.0.1, tt) }, one.1);
  }

  -- ---- values

  pub condition_good : (locals : List BareType) (given : Value) → is_void given.of ≡ false → Sound classes locals given → IsCondition classes locals given.term
  condition_good locals given v s = (s.typed, subst IsNumber (sym s.type) (number_core given.of v))

  module _ (pick : Pick) (chooses : Chooses classes pick) (finds : Finds) (source : Source) (fits_source : FitsSource classes source.functions) where
    -- what an expression gives is well typed in each body that has its variables
    abbrev pub GoodValue : Frame → Value → Type 0
    GoodValue frame given = (locals : List BareType) → Each (FitsVariable locals) frame.variables → Sound classes locals given

    pub value_good : (x : Expression) (frame : Frame) → Unless (GoodValue frame) (value pick finds source x frame)
    value_good x frame =
        unless_given (λ locals. Each (FitsVariable locals) frame.variables) (λ locals given. Sound classes locals given) (value pick finds source x frame)
        (λ locals fits. value_sound classes locals pick chooses finds source fits_source frame fits x)

    -- what is converted has a value, and so does that to which it is
    abbrev pub GoodAs : Frame → FundamentalType → Value → Type 0
    GoodAs frame to made = (is_void to ≡ false) × ((locals : List BareType) → Each (FitsVariable locals) frame.variables → Has classes locals made.term to)

    pub converted_good : (span : Span) (to : FundamentalType) (frame : Frame) (given : Value) → GoodValue frame given → Unless (GoodAs frame to) (spec.converted span to given)
    converted_good span to frame given g =
        unless_both (λ made. is_void to ≡ false) (λ made. (locals : List BareType) → Each (FitsVariable locals) frame.variables → Has classes locals made.term to) (spec.converted span to given)
        (unless_cond (λ made. is_void to ≡ false) (is_void given.of || is_void to) (spec.no_conversion span) (Ok (spec.convert to given)) tt (λ e. (neither (is_void given.of) (is_void to) e).1))
        (unless_given (λ locals. Each (FitsVariable locals) frame.variables) (λ locals made. Has classes locals made.term to) (spec.converted span to given)
        (λ locals fits. converted_sound classes locals span to given (g locals fits)))
