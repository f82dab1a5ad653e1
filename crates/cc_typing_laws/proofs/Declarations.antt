-- Local variables are declared with types that have values, and initialisers of their types.
use Rattle.std.proofs.Common.{◌≡◌, Bool, true, false, cond, ◌||◌, List, [], ◌∷◌, ◌++◌, length, Option, Some, None, Ok, refl, sym, ◌∙◌}
use Rattle.std.specs.Prelude.{⊤}
use Rattle.std.proofs.lemmas.Bool.{false≢true}
use Rattle.cc_base.specs.declared.text.Span.{Span}
use Rattle.cc_base.specs.declared.kind.Kind.TheVariants as kind
use Rattle.cc_tree.specs.declared.type_name.FundamentalType.{FundamentalType}
use Rattle.cc_tree.specs.declared.statement.Local.{Local}
use Rattle.cc_tree.specs.declared.statement.Declarator.{Declarator}
use Rattle.cc_tree.specs.declared.statement.Initializer.{Initializer}
use Rattle.cc_tree.specs.declared.statement.Initializer.TheVariants as initial
use Rattle.cc_core.specs.declared.types.ClassInfo.{ClassInfo}
use Rattle.cc_core.specs.Types.{BareType}
use Rattle.cc_core.specs.Step as step
use Rattle.cc_core.specs.Step.{Step, Steps}
use Rattle.cc_core.specs.Term.{Term}
use Rattle.cc_core.specs.Typed as core_typed
use Rattle.cc_core.specs.Typed.{declares}
use Rattle.cc_operations.specs.declared.source.Source.{Source}
use Rattle.cc_operations.specs.declared.source.Frame.{Frame}
use Rattle.cc_operations.specs.Choosing.{Pick, Chooses}
use Rattle.cc_operations.specs.Numbers.{core, is_void, written}
use Rattle.cc_operations.specs.Judgements.{refused, next, Value}
use Rattle.cc_operations.specs.Operations as spec
use Rattle.cc_statements.specs.declared.stand.Stand.{Stand}
use Rattle.cc_statements.specs.Steps.{Typed, Part, steps_from, inside, local_id, with_variable, without_value, value, initial_value, declared, all_declared, local_declared}
use Rattle.cc_statements.specs.Steps as steps
use Rattle.cc_terms.specs.Resolving.{Finds}
use Rattle.cc_typing_laws.proofs.TypeKinds.{number_core}
use Rattle.cc_typing_laws.proofs.Calls.{FitsSource}
use Rattle.cc_typing_laws.proofs.Expressions.{FitsVariable}
use Rattle.cc_typing_laws.proofs.Frames.{grown_variable, ready_variable}
use Rattle.cc_typing_laws.proofs.Made.{GoodSteps, GoodStep, IsGood, good_append, good_none, GoodValue, value_good, GoodAs, converted_good}
use Rattle.cc_typing_laws.proofs.Lists.{Each, get_next}
use Rattle.cc_typing_laws.proofs.Refusals.{Unless, next_unless, unless_cond, unless_any}
use Rattle.cc_typing_laws.proofs.Tests.{neither}

module _ (classes : List ClassInfo) (pick : Pick) (chooses : Chooses classes pick) (finds : Finds) (source : Source) (fits_source : FitsSource classes source.functions) where
  -- an initialiser of a variable's type
  abbrev GoodInitial : Frame → FundamentalType → Option Term → Type 0
  GoodInitial frame of first = (locals : List BareType) → Each (FitsVariable locals) frame.variables → core_typed.FitsVariable classes locals (core of) first

  initial_good : (of : FundamentalType) (span : Span) (first : Initializer) (frame : Frame) → Unless (GoodInitial frame of) (initial_value pick finds source of span first frame)
  initial_good of span initial.Nothing frame = unless_cond (GoodInitial frame of) (is_void of) (spec.no_conversion span) (Ok None) tt (λ v locals fits. tt)
  initial_good of span (initial.Value x) frame =
      next_unless (GoodValue classes pick chooses finds source fits_source frame) (GoodInitial frame of) (value pick finds source x frame) (λ given. next (spec.converted span of given) (λ made. Ok (Some made.term)))
      (value_good classes pick chooses finds source fits_source x frame)
      (λ given g. next_unless (GoodAs classes pick chooses finds source fits_source frame of) (GoodInitial frame of) (spec.converted span of given) (λ made. Ok (Some made.term))
      (converted_good classes pick chooses finds source fits_source span of frame given g)
      (λ made m locals fits. let has = m.1 locals fits in (has.typed, has.type)))
  initial_good of span (initial.Elements arguments) frame = tt
  initial_good of span (initial.Arguments arguments) frame = tt

  -- no initialiser serves for a variable that has no values
  void_refused : (of : FundamentalType) (span : Span) (first : Initializer) (frame : Frame) → is_void of ≡ true → Unless (λ (made : Option Term). ⊥) (initial_value pick finds source of span first frame)
  void_refused of span initial.Nothing frame v = unless_cond (λ (made : Option Term). ⊥) (is_void of) (spec.no_conversion span) (Ok None) tt (λ n. false≢true (sym n ∙ v))
  void_refused of span (initial.Value x) frame v =
      next_unless (λ given. ⊤) (λ (made : Option Term). ⊥) (value pick finds source x frame) (λ given. next (spec.converted span of given) (λ made. Ok (Some made.term)))
      (unless_any (value pick finds source x frame))
      (λ given g. next_unless (λ (made : Value). ⊥) (λ (made : Option Term). ⊥) (spec.converted span of given) (λ made. Ok (Some made.term))
      (unless_cond (λ (made : Value). ⊥) (is_void given.of || is_void of) (spec.no_conversion span) (Ok (spec.convert of given)) tt (λ n. false≢true (sym (neither (is_void given.of) (is_void of) n).1 ∙ v)))
      (λ made m. m))
  void_refused of span (initial.Elements arguments) frame v = tt
  void_refused of span (initial.Arguments arguments) frame v = tt

  declared_if : (stand : Stand) (of : FundamentalType) (one : Declarator) (frame : Frame) (void : Bool) → is_void of ≡ void → Unless (GoodStep classes stand frame) (declared pick finds source of one frame)
  declared_if stand of one frame true v =
      let with_it = with_variable of one.name.name frame in
      next_unless (λ (made : Option Term). ⊥) (GoodStep classes stand frame) (initial_value pick finds source of one.span one.initializer with_it) (λ first. Ok (step.Declare (local_id (length frame.locals)) (core of) first, with_it))
      (void_refused of one.span one.initializer with_it v) (λ first m. absurd m)
  declared_if stand of one frame false v =
      let with_it = with_variable of one.name.name frame in
      next_unless (GoodInitial with_it of) (GoodStep classes stand frame) (initial_value pick finds source of one.span one.initializer with_it) (λ first. Ok (step.Declare (local_id (length frame.locals)) (core of) first, with_it))
      (initial_good of one.span one.initializer with_it)
      (λ first m. record {
        grown = grown_variable of one.name.name frame v;
        good = λ locals result covers ready.
            let behind = ready_variable locals result of one.name.name frame v covers ready in
            (((covers (length frame.locals) of (get_next frame.locals [] of), number_core of v, m locals behind.variables), tt), behind);
      })

  declared_good : (stand : Stand) (of : FundamentalType) (one : Declarator) (frame : Frame) → Unless (GoodStep classes stand frame) (declared pick finds source of one frame)
  declared_good stand of one frame = declared_if stand of one frame (is_void of) refl

  -- where variables may be declared
  one_inside : (stand : Stand) (frame : Frame) (made : Step) (after : Frame) → GoodStep classes (inside stand) frame (made, after) → GoodSteps classes (inside stand) frame (made ∷ [], after)
  one_inside stand frame made after h = record {
    grown = h.grown;
    silent = λ s. absurd (false≢true (sym s));
    good = λ locals result covers ready.
        let one = h.good locals result covers ready in
        (record { sound = (one.0.0, tt); switches = (one.0.1, tt) }, one.1);
  }

  all_good : (stand : Stand) (of : FundamentalType) (ones : List Declarator) (before : Frame) (done : List Step) (frame : Frame) → GoodSteps classes (inside stand) before (done, frame)
      → Unless (GoodSteps classes (inside stand) before) (all_declared pick finds source of ones done frame)
  all_good stand of [] before done frame h = h
  all_good stand of (one ∷ more) before done frame h =
      next_unless (GoodStep classes (inside stand) frame) (GoodSteps classes (inside stand) before) (declared pick finds source of one frame) (λ made. all_declared pick finds source of more (done ++ made.0 ∷ []) made.1)
      (declared_good (inside stand) of one frame)
      (λ made m. all_good stand of more before (done ++ made.0 ∷ []) made.1 (good_append classes (inside stand) before frame made.1 done (made.0 ∷ []) h (one_inside stand frame made.0 made.1 m)))

  pub local_good : (stand : Stand) (one : Local) (frame : Frame) → Unless (GoodSteps classes (inside stand) frame) (local_declared pick finds source one frame)
  local_good stand one frame = all_good stand (written one.of) one.declarators frame [] frame (good_none classes (inside stand) frame)

  -- a section that isn't the last declares no variable
  declared_there : (stand : Stand) (frame : Frame) (made : List Step × Frame) → stand.declares ≡ true → GoodSteps classes (inside stand) frame made → GoodSteps classes stand frame made
  declared_there stand frame made d h = record {
    grown = h.grown;
    silent = λ s. absurd (false≢true (sym s ∙ d));
    good = λ locals result covers ready.
        let all = h.good locals result covers ready in
        (record { sound = all.0.sound; switches = all.0.switches }, all.1);
  }

  may_declare : (stand : Stand) (span : Span) (frame : Frame) (made : List Step × Frame) (may : Bool) → stand.declares ≡ may → GoodSteps classes (inside stand) frame made
      → Unless (GoodSteps classes stand frame) (cond may (Ok made) (refused kind.BadBreak span))
  may_declare stand span frame made true d h = declared_there stand frame made d h
  may_declare stand span frame made false d h = tt

  pub declaration_good : (one : Local) (span : Span) → IsGood classes (steps.local pick finds source one span)
  declaration_good one span stand frame =
      next_unless (GoodSteps classes (inside stand) frame) (GoodSteps classes stand frame) (local_declared pick finds source one frame) (λ made. cond stand.declares (Ok made) (refused kind.BadBreak span))
      (local_good stand one frame) (λ made m. may_declare stand span frame made stand.declares refl m)
