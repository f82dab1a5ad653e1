-- How the parts of a statement lead to what it is, or to the refusal that ends it: one law for each place where a part decides.
use Rattle.std.proofs.Common.{◌≡◌, ap, ◌∙◌, length, List, [], ◌∷◌, ◌++◌, Bool, Option, None, Ok, Err}
use Rattle.cc_base.specs.declared.text.Span.{Span}
use Rattle.cc_tree.specs.declared.expression.Expression.{Expression}
use Rattle.cc_tree.specs.declared.statement.ForStart.{ForStart}
use Rattle.cc_core.specs.declared.tree.LoopKind.TheVariants.{TestFirst, BodyFirst}
use Rattle.cc_core.specs.declared.tree.SwitchLabel.{SwitchLabel}
use Rattle.cc_core.specs.Step as step
use Rattle.cc_core.specs.Step.{Step}
use Rattle.cc_core.specs.Term.{Term}
use Rattle.cc_operations.specs.declared.judged.Refusal.{Refusal}
use Rattle.cc_operations.specs.declared.source.Source.{Source}
use Rattle.cc_operations.specs.declared.source.Frame.{Frame}
use Rattle.cc_operations.specs.Choosing.{Pick}
use Rattle.cc_operations.specs.Judgements.{Judged, next, Value}
use Rattle.cc_operations.specs.Numbers.{promoted}
use Rattle.cc_tree.specs.declared.type_name.FundamentalType.{FundamentalType}
use Rattle.cc_terms.specs.Resolving.{Finds}
use Rattle.cc_statements.specs.declared.stand.Stand.{Stand}
use Rattle.cc_statements.specs.Steps.{Typed, Part, Branch, Made, at, scope, inside, in_loop, in_section, left, with_temporary, local_id, steps_from, tested, switch_made, compared, otherwise, value, started, test_of, advance_of, conditional, while_loop, do_loop, for_loop, labels_of, section, sections, switch}
use Rattle.cc_statements.proofs.Going.{ended, went}

-- ---- a scope, and a block as a statement

abbrev scope_end : Frame → List Step × Frame → Typed Step
scope_end frame made = Ok (step.Block (steps_from made.0), left frame made.1)

pub scope_gone : (part : Part) (stand : Stand) (frame : Frame) (refusal : Refusal) → Err refusal ≡ part (inside stand) frame → Err refusal ≡ scope part stand frame
scope_gone part stand frame refusal e = ended (part (inside stand) frame) refusal (scope_end frame) e

pub scope_made : (part : Part) (stand : Stand) (frame : Frame) (steps : List Step) (behind after : Frame) (made : Step)
    → Ok (steps, behind) ≡ part (inside stand) frame → made ≡ step.Block (steps_from steps) → after ≡ left frame behind → Ok (made, after) ≡ scope part stand frame
scope_made part stand frame steps behind after made e f h =
    went (part (inside stand) frame) (steps, behind) (scope_end frame) (Ok (made, after)) e (ap (λ (m : Step). Ok (m, after)) f ∙ ap (λ (a : Frame). Ok (step.Block (steps_from steps), a)) h)

abbrev alone_end : Step × Frame → Typed (List Step)
alone_end made = Ok (made.0 ∷ [], made.1)

pub alone_gone : (part : Part) (stand : Stand) (frame : Frame) (refusal : Refusal) → Err refusal ≡ scope part stand frame → Err refusal ≡ next (scope part stand frame) alone_end
alone_gone part stand frame refusal e = ended (scope part stand frame) refusal alone_end e

pub alone_made : (part : Part) (stand : Stand) (frame : Frame) (one : Step) (after : Frame) (steps : List Step) → Ok (one, after) ≡ scope part stand frame → steps ≡ one ∷ []
    → Ok (steps, after) ≡ next (scope part stand frame) alone_end
alone_made part stand frame one after steps e f = went (scope part stand frame) (one, after) alone_end (Ok (steps, after)) e (ap (λ (s : List Step). Ok (s, after)) f)

module _ (pick : Pick) (finds : Finds) (source : Source) where
  abbrev term : Expression → Frame → Judged Value
  term = value pick finds source

  -- ---- an `if`

  abbrev if_end : Span → Value → Step → Step × Frame → Typed (List Step)
  if_end span given one other = at (tested span given.of (step.If given.term one other.0)) other.1

  abbrev if_second : Option Part → Span → Stand → Value → Step × Frame → Typed (List Step)
  if_second second span stand given one = next (otherwise second stand one.1) (if_end span given one.0)

  abbrev if_first : Part → Option Part → Span → Stand → Frame → Value → Typed (List Step)
  if_first first second span stand frame given = next (scope first stand frame) (if_second second span stand given)

  pub if_gone : (x : Expression) (first : Part) (second : Option Part) (span : Span) (stand : Stand) (frame : Frame) (refusal : Refusal)
      → Err refusal ≡ term x frame → Err refusal ≡ conditional pick finds source x first second span stand frame
  if_gone x first second span stand frame refusal e = ended (term x frame) refusal (if_first first second span stand frame) e

  pub if_first_gone : (x : Expression) (first : Part) (second : Option Part) (span : Span) (stand : Stand) (frame : Frame) (given : Value) (refusal : Refusal)
      → Ok given ≡ term x frame → Err refusal ≡ scope first stand frame → Err refusal ≡ conditional pick finds source x first second span stand frame
  if_first_gone x first second span stand frame given refusal e f =
      went (term x frame) given (if_first first second span stand frame) (Err refusal) e (ended (scope first stand frame) refusal (if_second second span stand given) f)

  pub if_second_gone : (x : Expression) (first : Part) (second : Option Part) (span : Span) (stand : Stand) (frame : Frame) (given : Value) (one : Step) (after : Frame) (refusal : Refusal)
      → Ok given ≡ term x frame → Ok (one, after) ≡ scope first stand frame → Err refusal ≡ otherwise second stand after → Err refusal ≡ conditional pick finds source x first second span stand frame
  if_second_gone x first second span stand frame given one after refusal e f h =
      went (term x frame) given (if_first first second span stand frame) (Err refusal) e
      (went (scope first stand frame) (one, after) (if_second second span stand given) (Err refusal) f
      (ended (otherwise second stand after) refusal (if_end span given one) h))

  pub if_made : (x : Expression) (first : Part) (second : Option Part) (span : Span) (stand : Stand) (frame : Frame) (given : Value) (one : Step) (after : Frame) (other : Step) (last : Frame) (made : Judged (List Step))
      → Ok given ≡ term x frame → Ok (one, after) ≡ scope first stand frame → Ok (other, last) ≡ otherwise second stand after → made ≡ tested span given.of (step.If given.term one other)
      → at made last ≡ conditional pick finds source x first second span stand frame
  if_made x first second span stand frame given one after other last made e f h k =
      went (term x frame) given (if_first first second span stand frame) (at made last) e
      (went (scope first stand frame) (one, after) (if_second second span stand given) (at made last) f
      (went (otherwise second stand after) (other, last) (if_end span given one) (at made last) h (ap (λ (j : Judged (List Step)). at j last) k)))

  -- ---- a `while`

  abbrev while_end : Span → Value → Step × Frame → Typed (List Step)
  while_end span given made = at (tested span given.of (step.Loop TestFirst given.term None made.0)) made.1

  abbrev while_body : Part → Span → Stand → Frame → Value → Typed (List Step)
  while_body body span stand frame given = next (scope body (in_loop stand) frame) (while_end span given)

  pub while_gone : (x : Expression) (body : Part) (span : Span) (stand : Stand) (frame : Frame) (refusal : Refusal) → Err refusal ≡ term x frame → Err refusal ≡ while_loop pick finds source x body span stand frame
  while_gone x body span stand frame refusal e = ended (term x frame) refusal (while_body body span stand frame) e

  pub while_body_gone : (x : Expression) (body : Part) (span : Span) (stand : Stand) (frame : Frame) (given : Value) (refusal : Refusal)
      → Ok given ≡ term x frame → Err refusal ≡ scope body (in_loop stand) frame → Err refusal ≡ while_loop pick finds source x body span stand frame
  while_body_gone x body span stand frame given refusal e f =
      went (term x frame) given (while_body body span stand frame) (Err refusal) e (ended (scope body (in_loop stand) frame) refusal (while_end span given) f)

  pub while_made : (x : Expression) (body : Part) (span : Span) (stand : Stand) (frame : Frame) (given : Value) (one : Step) (after : Frame) (made : Judged (List Step))
      → Ok given ≡ term x frame → Ok (one, after) ≡ scope body (in_loop stand) frame → made ≡ tested span given.of (step.Loop TestFirst given.term None one)
      → at made after ≡ while_loop pick finds source x body span stand frame
  while_made x body span stand frame given one after made e f h =
      went (term x frame) given (while_body body span stand frame) (at made after) e
      (went (scope body (in_loop stand) frame) (one, after) (while_end span given) (at made after) f (ap (λ (j : Judged (List Step)). at j after) h))

  -- ---- a `do`

  abbrev do_end : Span → Step × Frame → Value → Typed (List Step)
  do_end span made given = at (tested span given.of (step.Loop BodyFirst given.term None made.0)) made.1

  abbrev do_test : Expression → Span → Step × Frame → Typed (List Step)
  do_test x span made = next (term x made.1) (do_end span made)

  pub do_gone : (body : Part) (x : Expression) (span : Span) (stand : Stand) (frame : Frame) (refusal : Refusal)
      → Err refusal ≡ scope body (in_loop stand) frame → Err refusal ≡ do_loop pick finds source body x span stand frame
  do_gone body x span stand frame refusal e = ended (scope body (in_loop stand) frame) refusal (do_test x span) e

  pub do_test_gone : (body : Part) (x : Expression) (span : Span) (stand : Stand) (frame : Frame) (one : Step) (after : Frame) (refusal : Refusal)
      → Ok (one, after) ≡ scope body (in_loop stand) frame → Err refusal ≡ term x after → Err refusal ≡ do_loop pick finds source body x span stand frame
  do_test_gone body x span stand frame one after refusal e f =
      went (scope body (in_loop stand) frame) (one, after) (do_test x span) (Err refusal) e (ended (term x after) refusal (do_end span (one, after)) f)

  pub do_made : (body : Part) (x : Expression) (span : Span) (stand : Stand) (frame : Frame) (one : Step) (after : Frame) (given : Value) (made : Judged (List Step))
      → Ok (one, after) ≡ scope body (in_loop stand) frame → Ok given ≡ term x after → made ≡ tested span given.of (step.Loop BodyFirst given.term None one)
      → at made after ≡ do_loop pick finds source body x span stand frame
  do_made body x span stand frame one after given made e f h =
      went (scope body (in_loop stand) frame) (one, after) (do_test x span) (at made after) e
      (went (term x after) given (do_end span (one, after)) (at made after) f (ap (λ (j : Judged (List Step)). at j after) h))

  -- ---- a `for`

  abbrev for_end : Frame → List Step × Frame → Step × Frame → List Step → Typed (List Step)
  for_end frame begun made turns = Ok (step.Block (steps_from (begun.0 ++ turns)) ∷ [], left frame made.1)

  abbrev for_turns : Span → Frame → List Step × Frame → Value → Option Term → Step × Frame → Typed (List Step)
  for_turns span frame begun given after made = next (tested span given.of (step.Loop TestFirst given.term after made.0)) (for_end frame begun made)

  abbrev for_body : Part → Span → Stand → Frame → List Step × Frame → Value → Option Term → Typed (List Step)
  for_body body span stand frame begun given after = next (scope body (in_loop stand) begun.1) (for_turns span frame begun given after)

  abbrev for_advance : Option Expression → Part → Span → Stand → Frame → List Step × Frame → Value → Typed (List Step)
  for_advance advance body span stand frame begun given = next (advance_of pick finds source advance begun.1) (for_body body span stand frame begun given)

  abbrev for_test : Option Expression → Option Expression → Part → Span → Stand → Frame → List Step × Frame → Typed (List Step)
  for_test condition advance body span stand frame begun = next (test_of pick finds source condition begun.1) (for_advance advance body span stand frame begun)

  module _ (start : ForStart) (condition advance : Option Expression) (body : Part) (span : Span) (stand : Stand) (frame : Frame) where
    abbrev whole : Typed (List Step)
    whole = for_loop pick finds source start condition advance body span stand frame

    pub for_gone : (refusal : Refusal) → Err refusal ≡ started pick finds source start frame → Err refusal ≡ whole
    for_gone refusal e = ended (started pick finds source start frame) refusal (for_test condition advance body span stand frame) e

    for_went : (first : List Step) (begun : Frame) (made : Typed (List Step)) → Ok (first, begun) ≡ started pick finds source start frame → made ≡ for_test condition advance body span stand frame (first, begun) → made ≡ whole
    for_went first begun made e f = went (started pick finds source start frame) (first, begun) (for_test condition advance body span stand frame) made e f

    pub for_test_gone : (first : List Step) (begun : Frame) (refusal : Refusal) → Ok (first, begun) ≡ started pick finds source start frame → Err refusal ≡ test_of pick finds source condition begun → Err refusal ≡ whole
    for_test_gone first begun refusal e f = for_went first begun (Err refusal) e (ended (test_of pick finds source condition begun) refusal (for_advance advance body span stand frame (first, begun)) f)

    for_tested : (first : List Step) (begun : Frame) (given : Value) (made : Typed (List Step)) → Ok (first, begun) ≡ started pick finds source start frame → Ok given ≡ test_of pick finds source condition begun
        → made ≡ for_advance advance body span stand frame (first, begun) given → made ≡ whole
    for_tested first begun given made e f h = for_went first begun made e (went (test_of pick finds source condition begun) given (for_advance advance body span stand frame (first, begun)) made f h)

    pub for_advance_gone : (first : List Step) (begun : Frame) (given : Value) (refusal : Refusal) → Ok (first, begun) ≡ started pick finds source start frame → Ok given ≡ test_of pick finds source condition begun
        → Err refusal ≡ advance_of pick finds source advance begun → Err refusal ≡ whole
    for_advance_gone first begun given refusal e f h =
        for_tested first begun given (Err refusal) e f (ended (advance_of pick finds source advance begun) refusal (for_body body span stand frame (first, begun) given) h)

    for_advanced : (first : List Step) (begun : Frame) (given : Value) (after : Option Term) (made : Typed (List Step)) → Ok (first, begun) ≡ started pick finds source start frame → Ok given ≡ test_of pick finds source condition begun
        → Ok after ≡ advance_of pick finds source advance begun → made ≡ for_body body span stand frame (first, begun) given after → made ≡ whole
    for_advanced first begun given after made e f h k =
        for_tested first begun given made e f (went (advance_of pick finds source advance begun) after (for_body body span stand frame (first, begun) given) made h k)

    pub for_body_gone : (first : List Step) (begun : Frame) (given : Value) (after : Option Term) (refusal : Refusal) → Ok (first, begun) ≡ started pick finds source start frame → Ok given ≡ test_of pick finds source condition begun
        → Ok after ≡ advance_of pick finds source advance begun → Err refusal ≡ scope body (in_loop stand) begun → Err refusal ≡ whole
    for_body_gone first begun given after refusal e f h k =
        for_advanced first begun given after (Err refusal) e f h (ended (scope body (in_loop stand) begun) refusal (for_turns span frame (first, begun) given after) k)

    for_went_round : (first : List Step) (begun : Frame) (given : Value) (after : Option Term) (one : Step) (last : Frame) (made : Typed (List Step)) → Ok (first, begun) ≡ started pick finds source start frame → Ok given ≡ test_of pick finds source condition begun
        → Ok after ≡ advance_of pick finds source advance begun → Ok (one, last) ≡ scope body (in_loop stand) begun → made ≡ for_turns span frame (first, begun) given after (one, last) → made ≡ whole
    for_went_round first begun given after one last made e f h k m =
        for_advanced first begun given after made e f h (went (scope body (in_loop stand) begun) (one, last) (for_turns span frame (first, begun) given after) made k m)

    pub for_turns_gone : (first : List Step) (begun : Frame) (given : Value) (after : Option Term) (one : Step) (last : Frame) (refusal : Refusal) → Ok (first, begun) ≡ started pick finds source start frame → Ok given ≡ test_of pick finds source condition begun
        → Ok after ≡ advance_of pick finds source advance begun → Ok (one, last) ≡ scope body (in_loop stand) begun → Err refusal ≡ tested span given.of (step.Loop TestFirst given.term after one) → Err refusal ≡ whole
    for_turns_gone first begun given after one last refusal e f h k m =
        for_went_round first begun given after one last (Err refusal) e f h k (ended (tested span given.of (step.Loop TestFirst given.term after one)) refusal (for_end frame (first, begun) (one, last)) m)

    pub for_made : (first : List Step) (begun : Frame) (given : Value) (after : Option Term) (one : Step) (last : Frame) (turns steps : List Step) (left_behind : Frame)
        → Ok (first, begun) ≡ started pick finds source start frame → Ok given ≡ test_of pick finds source condition begun → Ok after ≡ advance_of pick finds source advance begun → Ok (one, last) ≡ scope body (in_loop stand) begun
        → Ok turns ≡ tested span given.of (step.Loop TestFirst given.term after one) → steps ≡ step.Block (steps_from (first ++ turns)) ∷ [] → left_behind ≡ left frame last → Ok (steps, left_behind) ≡ whole
    for_made first begun given after one last turns steps left_behind e f h k m is behind =
        for_went_round first begun given after one last (Ok (steps, left_behind)) e f h k
        (went (tested span given.of (step.Loop TestFirst given.term after one)) turns (for_end frame (first, begun) (one, last)) (Ok (steps, left_behind)) m
        (ap (λ (s : List Step). Ok (s, left_behind)) is ∙ ap (λ (a : Frame). Ok (step.Block (steps_from (first ++ turns)) ∷ [], a)) behind))

  -- ---- a section of a switch

  abbrev section_end : List SwitchLabel → Frame → List Step × Frame → Typed Made
  section_end labels frame made = Ok (record { labels = labels; steps = made.0 }, left frame made.1)

  abbrev section_body : Bool → Branch → Stand → Frame → List SwitchLabel → Typed Made
  section_body last branch stand frame labels = next (branch.body (in_section last stand) frame) (section_end labels frame)

  module _ (operand : FundamentalType) (seen : List SwitchLabel) (last : Bool) (branch : Branch) (stand : Stand) (frame : Frame) where
    abbrev one_section : Typed Made
    one_section = section pick finds source operand seen last branch stand frame

    pub section_gone : (refusal : Refusal) → Err refusal ≡ labels_of pick finds source operand frame seen branch.labels [] → Err refusal ≡ one_section
    section_gone refusal e = ended (labels_of pick finds source operand frame seen branch.labels []) refusal (section_body last branch stand frame) e

    pub section_body_gone : (labels : List SwitchLabel) (refusal : Refusal) → Ok labels ≡ labels_of pick finds source operand frame seen branch.labels [] → Err refusal ≡ branch.body (in_section last stand) frame → Err refusal ≡ one_section
    section_body_gone labels refusal e f =
        went (labels_of pick finds source operand frame seen branch.labels []) labels (section_body last branch stand frame) (Err refusal) e (ended (branch.body (in_section last stand) frame) refusal (section_end labels frame) f)

    pub section_made : (labels : List SwitchLabel) (steps : List Step) (behind after : Frame) → Ok labels ≡ labels_of pick finds source operand frame seen branch.labels []
        → Ok (steps, behind) ≡ branch.body (in_section last stand) frame → after ≡ left frame behind → Ok (record { labels = labels; steps = steps }, after) ≡ one_section
    section_made labels steps behind after e f h =
        went (labels_of pick finds source operand frame seen branch.labels []) labels (section_body last branch stand frame) (Ok (record { labels = labels; steps = steps }, after)) e
        (went (branch.body (in_section last stand) frame) (steps, behind) (section_end labels frame) (Ok (record { labels = labels; steps = steps }, after)) f
        (ap (λ (a : Frame). Ok (record { labels = labels; steps = steps }, a)) h))

  -- ---- a switch

  abbrev switch_end : Span → Frame → Value → List Made × Frame → Typed (List Step)
  switch_end span frame given made = at (switch_made span (local_id (length frame.locals)) given made.0) made.1

  abbrev switch_sections : List Branch → Span → Stand → Frame → Value → Typed (List Step)
  switch_sections branches span stand frame given =
      next (sections pick finds source (compared given.of) [] branches [] stand (with_temporary (promoted given.of) frame)) (switch_end span frame given)

  module _ (x : Expression) (branches : List Branch) (span : Span) (stand : Stand) (frame : Frame) where
    abbrev whole_switch : Typed (List Step)
    whole_switch = switch pick finds source x branches span stand frame

    pub switch_gone : (refusal : Refusal) → Err refusal ≡ term x frame → Err refusal ≡ whole_switch
    switch_gone refusal e = ended (term x frame) refusal (switch_sections branches span stand frame) e

    pub switch_sections_gone : (given : Value) (with_it : Frame) (refusal : Refusal) → Ok given ≡ term x frame → with_it ≡ with_temporary (promoted given.of) frame
        → Err refusal ≡ sections pick finds source (compared given.of) [] branches [] stand with_it → Err refusal ≡ whole_switch
    switch_sections_gone given with_it refusal e is f =
        went (term x frame) given (switch_sections branches span stand frame) (Err refusal) e
        (ended (sections pick finds source (compared given.of) [] branches [] stand (with_temporary (promoted given.of) frame)) refusal (switch_end span frame given)
        (f ∙ ap (sections pick finds source (compared given.of) [] branches [] stand) is))

    pub switch_all_made : (given : Value) (with_it : Frame) (all : List Made) (after : Frame) (made : Judged (List Step)) → Ok given ≡ term x frame → with_it ≡ with_temporary (promoted given.of) frame
        → Ok (all, after) ≡ sections pick finds source (compared given.of) [] branches [] stand with_it → made ≡ switch_made span (local_id (length frame.locals)) given all → at made after ≡ whole_switch
    switch_all_made given with_it all after made e is f h =
        went (term x frame) given (switch_sections branches span stand frame) (at made after) e
        (went (sections pick finds source (compared given.of) [] branches [] stand (with_temporary (promoted given.of) frame)) (all, after) (switch_end span frame given) (at made after)
        (f ∙ ap (sections pick finds source (compared given.of) [] branches [] stand) is) (ap (λ (j : Judged (List Step)). at j after) h))
