-- The labels of a switch are distinct, and its sections are sound.
use Rattle.std.proofs.Common.{◌≡◌, ℕ, Bool, true, false, cond, nat_eq, List, [], ◌∷◌, ◌++◌, length, Ok, refl, sym, ap, ◌∙◌, subst, append_assoc, append-nil}
use Rattle.std.specs.Prelude.{⊤}
use Rattle.std.proofs.lemmas.Bool.{false≢true, eqb-true, eq-eqb}
use Rattle.cc_base.specs.declared.text.Span.{Span}
use Rattle.cc_base.specs.declared.kind.Kind.TheVariants as kind
use Rattle.cc_tree.specs.declared.type_name.FundamentalType.{FundamentalType}
use Rattle.cc_tree.specs.declared.type_name.FundamentalType.TheVariants as f
use Rattle.cc_tree.specs.declared.expression.Expression.{Expression}
use Rattle.cc_tree.specs.declared.statement.Label.{Label}
use Rattle.cc_core.specs.declared.tree.SwitchLabel.{SwitchLabel}
use Rattle.cc_core.specs.declared.tree.SwitchLabel.TheVariants.{Case, Default}
use Rattle.cc_core.specs.declared.types.ClassInfo.{ClassInfo}
use Rattle.cc_core.specs.Types.{BareType}
use Rattle.cc_core.specs.Step as step
use Rattle.cc_core.specs.Step.{Step, Steps, Sections}
use Rattle.cc_core.specs.Typed.{IsPromoted, is_promoted, AreLabels, AreSections, labels_of, same_label, IsNew, AreDistinct, declares, DeclareLast, SectionsHaveProperSwitches, IsVariable}
use Rattle.cc_operations.specs.declared.source.Source.{Source}
use Rattle.cc_operations.specs.declared.source.Frame.{Frame}
use Rattle.cc_operations.specs.Choosing.{Pick, Chooses}
use Rattle.cc_operations.specs.Numbers.{core, is_void, promoted}
use Rattle.cc_operations.specs.Judgements.{refused, next, Value}
use Rattle.cc_operations.specs.Operations as spec
use Rattle.cc_statements.specs.declared.stand.Stand.{Stand}
use Rattle.cc_statements.specs.Steps.{Typed, Part, Branch, Made, steps_from, sections_from, in_section, left, local_id, with_temporary, at, label_span, is_seen, none_behind, switch_made, compared, new_label, label_of, value, section, switch}
use Rattle.cc_statements.specs.Steps as steps
use Rattle.cc_terms.specs.Resolving.{Finds}
use Rattle.cc_typing_laws.proofs.TypeKinds.{promoted_works}
use Rattle.cc_typing_laws.proofs.Terms.{convert_has}
use Rattle.cc_typing_laws.proofs.Calls.{FitsSource}
use Rattle.cc_typing_laws.proofs.Frames.{Grown, Covers, Ready, covers_before, grown_none, grown_both, grown_left, ready_left, grown_temporary, ready_temporary}
use Rattle.cc_typing_laws.proofs.Made.{GoodSteps, GoodStep, IsGood, alone_good, unless_tested, GoodValue, value_good}
use Rattle.cc_typing_laws.proofs.Lists.{Each, get_next, each_last}
use Rattle.cc_typing_laws.proofs.Refusals.{Unless, next_unless, unless_cond, unless_any}
use Rattle.cc_typing_laws.proofs.Tests.{neither}
use Rattle.cc_typing_laws.proofs.Expressions.{plain_number}

-- ---- labels

number_flip : (n m : ℕ) → nat_eq n m ≡ false → nat_eq m n ≡ false
number_flip n m e = go (nat_eq m n) refl
  where
    go : (b : Bool) → nat_eq m n ≡ b → nat_eq m n ≡ false
    go true h = absurd (false≢true (sym e ∙ eq-eqb n m (sym (eqb-true m n h))))
    go false h = h

label_flip : (one other : SwitchLabel) → same_label one other ≡ false → same_label other one ≡ false
label_flip (Case n) (Case m) e = number_flip n m e
label_flip (Case n) Default e = refl
label_flip Default (Case m) e = refl
label_flip Default Default e = absurd (false≢true (sym e))

new_append : (one : SwitchLabel) (labels : List SwitchLabel) (fresh : SwitchLabel) → IsNew one labels → same_label one fresh ≡ false → IsNew one (labels ++ fresh ∷ [])
new_append one [] fresh h k = (k, tt)
new_append one (other ∷ labels) fresh h k = (h.0, new_append one labels fresh h.1 k)

distinct_append : (labels : List SwitchLabel) (fresh : SwitchLabel) → AreDistinct labels → is_seen fresh labels ≡ false → AreDistinct (labels ++ fresh ∷ [])
distinct_append [] fresh h k = (tt, tt)
distinct_append (one ∷ labels) fresh h k =
    let apart = neither (same_label fresh one) (is_seen fresh labels) k in
    (new_append one labels fresh h.0 (label_flip fresh one apart.0), distinct_append labels fresh h.1 apart.1)

new_distinct : (one : Label) (seen : List SwitchLabel) (found : SwitchLabel) → AreDistinct seen → Unless (λ fresh. AreDistinct (seen ++ fresh ∷ [])) (new_label one seen found)
new_distinct one seen found h =
    unless_cond (λ fresh. AreDistinct (seen ++ fresh ∷ [])) (is_seen found seen) (refused kind.BadBreak (label_span one)) (Ok found) tt (λ e. distinct_append seen found h e)

-- the bits of each label are those of a constant
are_labels : (classes : List ClassInfo) (locals : List BareType) (of : FundamentalType) (labels : List SwitchLabel) → is_promoted (core of) ≡ true → AreLabels classes locals (core of) labels
are_labels classes locals of [] h = tt
are_labels classes locals of (Case n ∷ labels) h = ((plain_number classes locals of n h).typed.1, are_labels classes locals of labels h)
are_labels classes locals of (Default ∷ labels) h = are_labels classes locals of labels h

-- ---- sections in a row

labels_append : (done : List Made) (one : Made) → labels_of (sections_from (done ++ one ∷ [])) ≡ labels_of (sections_from done) ++ one.labels
labels_append [] one = append-nil one.labels
labels_append (first ∷ done) one = ap (λ labels. first.labels ++ labels) (labels_append done one) ∙ sym (append_assoc first.labels (labels_of (sections_from done)) one.labels)

last_append : (done : List Made) (one : Made) → Each (λ made. declares (steps_from made.steps) ≡ false) done → DeclareLast (sections_from (done ++ one ∷ []))
last_append [] one h = tt
last_append (first ∷ []) one h = (h.0, tt)
last_append (first ∷ second ∷ done) one h = (h.0, last_append (second ∷ done) one h.1)

-- sections that stand before others declare no variables
abbrev SilentBefore : List Branch → List Made → Type 0
SilentBefore [] done = ⊤
SilentBefore (branch ∷ more) done = Each (λ made. declares (steps_from made.steps) ≡ false) done

module _ (classes : List ClassInfo) where
  sections_append : (locals : List BareType) (result : BareType) (continues : Bool) (of : BareType) (done : List Made) (one : Made) → AreSections classes locals result continues of (sections_from done) → AreSections classes locals result continues of (sections_from (one ∷ []))
      → AreSections classes locals result continues of (sections_from (done ++ one ∷ []))
  sections_append locals result continues of [] one h k = k
  sections_append locals result continues of (first ∷ done) one h k = (h.0, h.1, sections_append locals result continues of done one h.2 k)

  proper_append : (done : List Made) (one : Made) → SectionsHaveProperSwitches (sections_from done) → SectionsHaveProperSwitches (sections_from (one ∷ [])) → SectionsHaveProperSwitches (sections_from (done ++ one ∷ []))
  proper_append [] one h k = k
  proper_append (first ∷ done) one h k = (h.0, proper_append done one h.1 k)

  -- What sections make of a function: each is sound in each body that has the variables behind them.
  record GoodSections (stand : Stand) (operand : FundamentalType) (before : Frame) (made : List Made × Frame) : Type 0 where
    grown : Grown before made.1
    distinct : AreDistinct (labels_of (sections_from made.0))
    last : DeclareLast (sections_from made.0)
    good : (locals : List BareType) (result : FundamentalType) → Covers locals made.1 → Ready locals result before
        → (AreSections classes locals (core result) stand.continues (core operand) (sections_from made.0) × SectionsHaveProperSwitches (sections_from made.0)) × Ready locals result made.1

  -- the same of one section
  record GoodSection (stand : Stand) (operand : FundamentalType) (seen : List SwitchLabel) (is_last : Bool) (before : Frame) (made : Made × Frame) : Type 0 where
    grown : Grown before made.1
    distinct : AreDistinct (seen ++ made.0.labels)
    silent : is_last ≡ false → declares (steps_from made.0.steps) ≡ false
    good : (locals : List BareType) (result : FundamentalType) → Covers locals made.1 → Ready locals result before
        → (AreSections classes locals (core result) stand.continues (core operand) (sections_from (made.0 ∷ [])) × SectionsHaveProperSwitches (sections_from (made.0 ∷ []))) × Ready locals result made.1

  abbrev pub IsGoodBranch : Branch → Type 0
  IsGoodBranch branch = IsGood classes branch.body

  section_append : (stand : Stand) (operand : FundamentalType) (seen : List SwitchLabel) (is_last : Bool) (one two three : Frame) (done : List Made) (made : Made) → labels_of (sections_from done) ≡ seen
      → Each (λ other. declares (steps_from other.steps) ≡ false) done → GoodSections stand operand one (done, two) → GoodSection stand operand seen is_last two (made, three)
      → GoodSections stand operand one (done ++ made ∷ [], three)
  section_append stand operand seen is_last one two three done made e silent h k = record {
    grown = grown_both one two three h.grown k.grown;
    distinct = subst AreDistinct (ap (λ labels. labels ++ made.labels) (sym e) ∙ sym (labels_append done made)) k.distinct;
    last = last_append done made silent;
    good = λ locals result covers ready.
        let before = h.good locals result (covers_before locals two three k.grown covers) ready in
        let behind = k.good locals result covers before.1 in
        ((sections_append locals (core result) stand.continues (core operand) done made before.0.0 behind.0.0, proper_append done made before.0.1 behind.0.1), behind.1);
  }

  module _ (pick : Pick) (chooses : Chooses classes pick) (finds : Finds) (source : Source) (fits_source : FitsSource classes source.functions) where
    labels_distinct : (operand : FundamentalType) (frame : Frame) (seen : List SwitchLabel) (labels : List Label) (done : List SwitchLabel) → AreDistinct (seen ++ done)
        → Unless (λ made. AreDistinct (seen ++ made)) (steps.labels_of pick finds source operand frame seen labels done)
    labels_distinct operand frame seen [] done h = h
    labels_distinct operand frame seen (one ∷ more) done h =
        next_unless (λ found. ⊤) (λ made. AreDistinct (seen ++ made)) (label_of pick finds source operand frame one)
        (λ found. next (new_label one (seen ++ done) found) (λ fresh. steps.labels_of pick finds source operand frame seen more (done ++ fresh ∷ [])))
        (unless_any (label_of pick finds source operand frame one))
        (λ found t. next_unless (λ fresh. AreDistinct ((seen ++ done) ++ fresh ∷ [])) (λ made. AreDistinct (seen ++ made)) (new_label one (seen ++ done) found)
        (λ fresh. steps.labels_of pick finds source operand frame seen more (done ++ fresh ∷ [])) (new_distinct one (seen ++ done) found h)
        (λ fresh d. labels_distinct operand frame seen more (done ++ fresh ∷ []) (subst AreDistinct (append_assoc seen done (fresh ∷ [])) d)))

    section_good : (operand : FundamentalType) (seen : List SwitchLabel) (is_last : Bool) (branch : Branch) (stand : Stand) (frame : Frame) → is_promoted (core operand) ≡ true → AreDistinct seen → IsGoodBranch branch
        → Unless (GoodSection stand operand seen is_last frame) (section pick finds source operand seen is_last branch stand frame)
    section_good operand seen is_last branch stand frame works distinct h =
        next_unless (λ labels. AreDistinct (seen ++ labels)) (GoodSection stand operand seen is_last frame) (steps.labels_of pick finds source operand frame seen branch.labels [])
        (λ labels. next (branch.body (in_section is_last stand) frame) (λ made. Ok (record { labels = labels; steps = made.0 }, left frame made.1)))
        (labels_distinct operand frame seen branch.labels [] (subst AreDistinct (sym (append-nil seen)) distinct))
        (λ labels d. next_unless (GoodSteps classes (in_section is_last stand) frame) (GoodSection stand operand seen is_last frame) (branch.body (in_section is_last stand) frame)
        (λ made. Ok (record { labels = labels; steps = made.0 }, left frame made.1)) (h (in_section is_last stand) frame)
        (λ made m. record {
          grown = grown_left frame frame made.1 m.grown;
          distinct = d;
          silent = m.silent;
          good = λ locals result covers ready.
              let inner = m.good locals result covers ready in
              (((are_labels classes locals operand labels works, inner.0.sound, tt), (inner.0.switches, tt)), ready_left locals result frame made.1 inner.1);
        }))

    silent_behind : (more : List Branch) (done : List Made) (made : Made) → Each (λ other. declares (steps_from other.steps) ≡ false) done → (none_behind more ≡ false → declares (steps_from made.steps) ≡ false) → SilentBefore more (done ++ made ∷ [])
    silent_behind [] done made h k = tt
    silent_behind (branch ∷ more) done made h k = each_last (λ other. declares (steps_from other.steps) ≡ false) done made h (k refl)

    sections_good : (operand : FundamentalType) (seen : List SwitchLabel) (branches : List Branch) (done : List Made) (stand : Stand) (before frame : Frame) → is_promoted (core operand) ≡ true → labels_of (sections_from done) ≡ seen → SilentBefore branches done
        → Each IsGoodBranch branches → GoodSections stand operand before (done, frame) → Unless (GoodSections stand operand before) (steps.sections pick finds source operand seen branches done stand frame)
    sections_good operand seen [] done stand before frame works e silent h k = k
    sections_good operand seen (branch ∷ more) done stand before frame works e silent h k =
        next_unless (GoodSection stand operand seen (none_behind more) frame) (GoodSections stand operand before) (section pick finds source operand seen (none_behind more) branch stand frame)
        (λ made. steps.sections pick finds source operand (seen ++ made.0.labels) more (done ++ made.0 ∷ []) stand made.1)
        (section_good operand seen (none_behind more) branch stand frame works (subst AreDistinct e k.distinct) h.0)
        (λ made m. sections_good operand (seen ++ made.0.labels) more (done ++ made.0 ∷ []) stand before made.1 works (labels_append done made.0 ∙ ap (λ labels. labels ++ made.0.labels) e)
        (silent_behind more done made.0 silent m.silent) h.1 (section_append stand operand seen (none_behind more) before frame made.1 done made.0 e silent k m))

    no_sections_good : (stand : Stand) (operand : FundamentalType) (frame : Frame) → GoodSections stand operand frame ([], frame)
    no_sections_good stand operand frame = record { grown = grown_none frame; distinct = tt; last = tt; good = λ locals result covers ready. ((tt, tt), ready) }

    none_before : (branches : List Branch) → SilentBefore branches []
    none_before [] = tt
    none_before (branch ∷ more) = tt

    -- ---- switches

    compared_works : (void : Bool) (of : FundamentalType) → is_void of ≡ void → is_promoted (core (cond void f.LongLong (promoted of))) ≡ true
    compared_works true of v = refl
    compared_works false of v = (promoted_works of v).is

    compared_is : (of : FundamentalType) → is_void of ≡ false → compared of ≡ promoted of
    compared_is of v = ap (λ void. cond void f.LongLong (promoted of)) v

    switch_step : (x : Expression) (span : Span) (stand : Stand) (frame : Frame) (given : Value) (made : List Made × Frame) → is_void given.of ≡ false → GoodValue classes pick chooses finds source fits_source frame given
        → GoodSections stand (compared given.of) (with_temporary (promoted given.of) frame) made
        → GoodStep classes stand frame (step.Switch (local_id (length frame.locals)) (spec.convert (promoted given.of) given).term (sections_from made.0), made.1)
    switch_step x span stand frame given made v g h =
        let of = promoted given.of in
        let works = promoted_works given.of v in
        record {
          grown = grown_both frame (with_temporary of frame) made.1 (grown_temporary of frame works.valued) h.grown;
          good = λ locals result covers ready.
              let inner = h.good locals result covers (ready_temporary locals result of frame ready) in
              let operand = convert_has classes locals of given v works.valued (g locals ready.variables) in
              let there = covers_before locals (with_temporary of frame) made.1 h.grown covers (length frame.locals) of (get_next frame.locals [] of) in (
                (
                  (
                    operand.typed,
                    subst IsPromoted (sym operand.type) works.is,
                    subst (IsVariable locals (local_id (length frame.locals))) (sym operand.type) there,
                    subst (λ type. AreSections classes locals (core result) stand.continues type (sections_from made.0)) (ap core (compared_is given.of v) ∙ sym operand.type) inner.0.0,
                  ),
                  (h.distinct, h.last, inner.0.1),
                ),
                inner.1,
              );
        }

    pub switch_good : (x : Expression) (branches : List Branch) (span : Span) → Each IsGoodBranch branches → IsGood classes (switch pick finds source x branches span)
    switch_good x branches span h stand frame =
        next_unless (GoodValue classes pick chooses finds source fits_source frame) (GoodSteps classes stand frame) (value pick finds source x frame)
        (λ given. next (steps.sections pick finds source (compared given.of) [] branches [] stand (with_temporary (promoted given.of) frame)) (λ made. at (switch_made span (local_id (length frame.locals)) given made.0) made.1))
        (value_good classes pick chooses finds source fits_source x frame)
        (λ given g. next_unless (GoodSections stand (compared given.of) (with_temporary (promoted given.of) frame)) (GoodSteps classes stand frame)
        (steps.sections pick finds source (compared given.of) [] branches [] stand (with_temporary (promoted given.of) frame)) (λ made. at (switch_made span (local_id (length frame.locals)) given made.0) made.1)
        (sections_good (compared given.of) [] branches [] stand (with_temporary (promoted given.of) frame) (with_temporary (promoted given.of) frame) (compared_works (is_void given.of) given.of refl) refl (none_before branches) h
        (no_sections_good stand (compared given.of) (with_temporary (promoted given.of) frame)))
        (λ made m. unless_tested (GoodSteps classes stand frame) span given.of (step.Switch (local_id (length frame.locals)) (spec.convert (promoted given.of) given).term (sections_from made.0)) made.1
        (λ v. alone_good classes stand frame (step.Switch (local_id (length frame.locals)) (spec.convert (promoted given.of) given).term (sections_from made.0)) made.1 refl (switch_step x span stand frame given made v g m))))
