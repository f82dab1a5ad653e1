-- The machine does what loops mean.
use Rattle.std.proofs.Common.{◌≡◌, ℕ, zero, suc, ◌+◌, ◌<◌, ◌≤◌, ◌^◌, List, [], ◌∷◌, Bool, true, false, Option, Some, None, refl, ap, subst, arith}
use Rattle.std.specs.Prelude.{Ok, Err, if◌then◌else◌}
use Rattle.cc_core.specs.declared.state.State.{State}
use Rattle.cc_core.specs.declared.state.Stop.TheVariants.{Going}
use Rattle.cc_core.specs.declared.world.Value.{Value}
use Rattle.cc_core.specs.declared.world.World.{World}
use Rattle.cc_core.specs.Numbers.{is_true}
use Rattle.cc_core.specs.Run.{Does, Calls, bind, gives, stops, tick, by_truth}
use Rattle.cc_core.specs.Term.{Term, type_of}
use Rattle.cc_core.specs.Typed.{IsTypedIf}
use Rattle.cc_core.specs.Types.{BareType}
use Rattle.cc_core.specs.Value.{value_of}
use Rattle.cc_code.specs.declared.targets.Target.{Target}
use Rattle.cc_code.specs.declared.tokens.Tokens.{Tokens}
use Rattle.cc_code.specs.Operators.{drop_value}
use Rattle.cc_code.specs.Regions.{target, do_if_code, region_code}
use Rattle.cc_code.specs.Sizes.{term_size, do_if_size, region_size}
use Rattle.cc_code.specs.Terms.{term_code}
use Rattle.cc_code.proofs.Sums.{term_is}
use Rattle.cc_execution.specs.declared.operation.Operation.TheVariants as does
use Rattle.cc_execution.specs.State.{Next}
use Rattle.cc_execution.specs.Step.{placed_in}
use Rattle.cc_region.specs.Leave as way
use Rattle.cc_region.specs.Leave.{Way, then_next, after_body, turns, turns_after}
use Rattle.cc_region.specs.Outcome.{do_if, outcome_of}
use Rattle.cc_region.specs.Region.{Region}
use Rattle.cc_region.specs.Typed.{Aim, a_loop}
use Rattle.cc_simulation.specs.Known.{IsSmallIf, Knows}
use Rattle.cc_simulation.specs.Sites.{Site, HasAt, Fine, go, state_at}
use Rattle.cc_simulation.specs.Ways.{leads, WayGood, Low}
use Rattle.cc_simulation.proofs.Exits.{WaysWithin, WaysAt, nexts}
use Rattle.cc_simulation.proofs.Parts.{has_front, has_back, drops}
use Rattle.cc_simulation.proofs.Steps.{did, did_more, stays, more, at_same, ticks, binds, onward}
use Rattle.cc_simulation.proofs.Throws.{going_right}
use Rattle.cc_simulation.proofs.Terms.{NumberStands, term_stands}

module _ (h : Site) (tokens : Tokens) (parameters : ℕ) (k : Calls) (known : Knows h tokens parameters k) (result : BareType) (returns : Value → World → Next) where
  -- what a region does, inside constructs at which its exits may be aimed
  abbrev pub RegionStands : List Aim → Region → Type 0
  RegionStands aims r = (at end : ℕ) (around : List Target) (s : State) → HasAt h at (region_code tokens parameters r at around) → at + region_size r ≡ end → end < 2 ^ 31 → Low around → Fine h s.world
      → WaysAt h result returns 0 (go h at [] s.world) end around aims s.work (outcome_of h.set.classes k h.set.turns r s)

  -- an expression whose value is dropped, where there is one
  pub do_if_stands : (e : Option Term) → IsTypedIf h.set.classes h.locals e → IsSmallIf e → (at end : ℕ) (around : List Target) (aims : List Aim) (s : State) → HasAt h at (do_if_code tokens parameters e) → at + do_if_size e ≡ end → Fine h s.world
      → WaysAt h result returns 1 (go h at [] s.world) end around aims s.work (do_if h.set.classes k e s)
  do_if_stands None t small at end around aims s has size fine = let f : at ≡ end = omega (arith, size) in stays h.set.x h.set.classes h.set.frames way.Next s fine (ap (λ (n : ℕ). go h n [] s.world) f)
  do_if_stands (Some e) t small at end around aims s has size fine =
      let mid = at + term_size e in
      let te = term_is tokens parameters e in
      binds h.set.x h.set.classes h.set.frames 0 1 (term_stands h tokens parameters k known e t small at mid [] s (has_front h at (term_code tokens parameters e) (drop_value (type_of e)) has) refl fine)
      (λ v s1 g. drops h 0 mid end (type_of e) v [] s1.world (has_back h at mid (term_code tokens parameters e) (drop_value (type_of e)) (ap (λ (n : ℕ). at + n) te) has) (omega (arith, size))
      (stays h.set.x h.set.classes h.set.frames way.Next s1 g.1 refl))

  -- A loop whose parts stand at these offsets.
  module _ (c : Term) (test : NumberStands h tokens parameters k known c) (after : Option Term) (body : Region) (aims : List Aim) (around : List Target) (body_at step_at test_at br past end : ℕ)
      (has_test : HasAt h test_at (term_code tokens parameters c)) (test_size : test_at + term_size c ≡ br)
      (back_to : placed_in h.set.x h.method br ≡ Some (record { at = br; operation = does.BranchIf true body_at; next = past }))
      (nop : placed_in h.set.x h.method past ≡ Some (record { at = past; operation = does.Nothing; next = end }))
      (body_runs : (s : State) → Fine h s.world → WaysAt h result returns 0 (go h body_at [] s.world) step_at (target past step_at ∷ around) (a_loop ∷ aims) s.work (outcome_of h.set.classes k h.set.turns body s)) where
    left : (n b : ℕ) (s : State) → Fine h s.world → WaysWithin h result returns n (b + 1) (go h past [] s.world) end around aims s.work (Ok way.Next, s)
    left n b s fine = let e : suc b ≡ b + 1 = omega arith in
        subst (λ (b : ℕ). WaysWithin h result returns n b (go h past [] s.world) end around aims s.work (Ok way.Next, s)) e
        (did h.set.x h.set.classes h.set.frames (state_at h past [] s.world) (record { at = past; operation = does.Nothing; next = end }) nop (stays h.set.x h.set.classes h.set.frames {n = n} {b = b} way.Next s fine refl))

    at_once : (b : ℕ) (at : ℕ) (s : State) → WaysWithin h result returns 0 b (go h at [] s.world) end around aims s.work (Err Going, s)
    at_once b at s = record { got = ((λ q. going_right q), record { steps = 0; least = omega arith; most = omega arith; same = refl }) }

    abbrev means_test : Does Value
    means_test = value_of h.set.classes k c

    abbrev means_body : Does Way
    means_body = outcome_of h.set.classes k h.set.turns body

    abbrev means_after : Does Way
    means_after = do_if h.set.classes k after

    -- that tests first
    module _ (step_runs : (s : State) → Fine h s.world → WaysAt h result returns 1 (go h step_at [] s.world) test_at around aims s.work (do_if h.set.classes k after s)) where
      pub turns_stand : (t : ℕ) → t ≤ h.set.turns → (s : State) → Fine h s.world → WaysWithin h result returns t 4 (go h test_at [] s.world) end around aims s.work (turns t means_test means_body means_after s)
      turns_stand zero le s fine =
          binds h.set.x h.set.classes h.set.frames 0 4 (more h.set.x h.set.classes h.set.frames 0 0 (test test_at br [] s has_test test_size fine) le (omega arith))
          (λ v s1 g. did h.set.x h.set.classes h.set.frames (state_at h br (v ∷ []) s1.world) (record { at = br; operation = does.BranchIf true body_at; next = past }) back_to (by v s1 g.1 (is_true v)))
        where
          by : (v : Value) (s1 : State) → Fine h s1.world → (b : Bool) → WaysWithin h result returns 0 3 (go h (if b then body_at else past) [] s1.world) end around aims s1.work (elim b [ true ↦ stops Going s1 | false ↦ gives way.Next s1 ])
          by v s1 g true = at_once 3 body_at s1
          by v s1 g false = left 0 2 s1 g
      turns_stand (suc t) le s fine =
          binds h.set.x h.set.classes h.set.frames 0 4 (more h.set.x h.set.classes h.set.frames (suc t) 0 (test test_at br [] s has_test test_size fine) le (omega arith))
          (λ v s1 g. did_more h.set.x h.set.classes h.set.frames (state_at h br (v ∷ []) s1.world) (record { at = br; operation = does.BranchIf true body_at; next = past }) back_to (by (λ s3 g3. turns_stand t (omega arith) s3 g3) s1 g.1 (is_true v)))
        where
          again : ((s3 : State) → Fine h s3.world → WaysWithin h result returns t 4 (go h test_at [] s3.world) end around aims s3.work (turns t means_test means_body means_after s3)) → (s2 : State) → Fine h s2.world → WaysWithin h result returns t 67 (go h step_at [] s2.world) end around aims s2.work (then_next (means_after s2) (turns t means_test means_body means_after))
          again ih s2 g = more h.set.x h.set.classes h.set.frames t 67 (nexts h result returns t 1 4 test_at end around aims (more h.set.x h.set.classes h.set.frames t 1 (step_runs s2 g) (omega arith) (omega arith)) ih) (omega arith) (omega arith)

          ways : ((s3 : State) → Fine h s3.world → WaysWithin h result returns t 4 (go h test_at [] s3.world) end around aims s3.work (turns t means_test means_body means_after s3)) → (a : Way) (s2 : State) → WayGood h result (a_loop ∷ aims) a s2.world
              → WaysWithin h result returns t 67 (leads h step_at (target past step_at ∷ around) returns a s2.world) end around aims s2.work (after_body (Ok a, s2) (λ s3. then_next (means_after s3) (turns t means_test means_body means_after)))
          ways ih way.Next s2 g = again ih s2 g
          ways ih (way.Break zero) s2 g = left t 66 s2 g.1
          ways ih (way.Break (suc number)) s2 g = stays h.set.x h.set.classes h.set.frames (way.Break number) s2 (omega (arith, g.0), g.1) refl
          ways ih (way.Continue zero) s2 g = again ih s2 g.1
          ways ih (way.Continue (suc number)) s2 g = stays h.set.x h.set.classes h.set.frames (way.Continue number) s2 (g.0, g.1) refl
          ways ih (way.Return v) s2 g = stays h.set.x h.set.classes h.set.frames (way.Return v) s2 g refl

          by : ((s3 : State) → Fine h s3.world → WaysWithin h result returns t 4 (go h test_at [] s3.world) end around aims s3.work (turns t means_test means_body means_after s3)) → (s1 : State) → Fine h s1.world → (b : Bool)
              → WaysWithin h result returns t 3 (go h (if b then body_at else past) [] s1.world) end around aims s1.work
              (elim b [ true ↦ after_body (means_body (tick s1)) (λ s2. then_next (means_after s2) (turns t means_test means_body means_after)) | false ↦ gives way.Next s1 ])
          by ih s1 g true =
              ticks h.set.x h.set.classes h.set.frames 3 (onward h.set.x h.set.classes h.set.frames (λ ran. after_body ran (λ s3. then_next (means_after s3) (turns t means_test means_body means_after))) (λ e s. refl) 0 67 (more h.set.x h.set.classes h.set.frames t 0 (body_runs (tick s1) g) (omega arith) (omega arith)) (ways ih))
          by ih s1 g false = left t 2 s1 g

    -- that tests behind its body, with nothing between them
    module _ (no_step : step_at ≡ test_at) where
      pub after_stand : (t : ℕ) → t ≤ h.set.turns → (s : State) → Fine h s.world → WaysWithin h result returns t 4 (go h body_at [] s.world) end around aims s.work (turns_after t means_test means_body s)
      after_stand zero le s fine = at_once 4 body_at s
      after_stand (suc t) le s fine =
          ticks h.set.x h.set.classes h.set.frames 4 (onward h.set.x h.set.classes h.set.frames (λ ran. after_body ran (λ s1. bind (means_test s1) (λ v. by_truth v (turns_after t means_test means_body) (gives way.Next)))) (λ e s. refl) 0 68 (more h.set.x h.set.classes h.set.frames (suc t) 0 (body_runs (tick s) fine) le (omega arith)) (ways (λ s3 g3. after_stand t (omega arith) s3 g3)))
        where
          by : ((s3 : State) → Fine h s3.world → WaysWithin h result returns t 4 (go h body_at [] s3.world) end around aims s3.work (turns_after t means_test means_body s3)) → (s2 : State) → Fine h s2.world → (b : Bool) → WaysWithin h result returns t 67 (go h (if b then body_at else past) [] s2.world) end around aims s2.work (elim b [ true ↦ turns_after t means_test means_body s2 | false ↦ gives way.Next s2 ])
          by ih s2 g true = more h.set.x h.set.classes h.set.frames t 67 (ih s2 g) (omega arith) (omega arith)
          by ih s2 g false = left t 66 s2 g

          tests : ((s3 : State) → Fine h s3.world → WaysWithin h result returns t 4 (go h body_at [] s3.world) end around aims s3.work (turns_after t means_test means_body s3)) → (s1 : State) → Fine h s1.world → WaysWithin h result returns (suc t) 68 (go h step_at [] s1.world) end around aims s1.work (bind (means_test s1) (λ v. by_truth v (turns_after t means_test means_body) (gives way.Next)))
          tests ih s1 g =
              at_same h.set.x h.set.classes h.set.frames (ap (λ (n : ℕ). go h n [] s1.world) no_step)
              (binds h.set.x h.set.classes h.set.frames 0 68 (more h.set.x h.set.classes h.set.frames (suc t) 0 (test test_at br [] s1 has_test test_size g) le (omega arith))
              (λ v s2 g2. did_more h.set.x h.set.classes h.set.frames (state_at h br (v ∷ []) s2.world) (record { at = br; operation = does.BranchIf true body_at; next = past }) back_to (by ih s2 g2.1 (is_true v))))

          ways : ((s3 : State) → Fine h s3.world → WaysWithin h result returns t 4 (go h body_at [] s3.world) end around aims s3.work (turns_after t means_test means_body s3)) → (a : Way) (s1 : State) → WayGood h result (a_loop ∷ aims) a s1.world
              → WaysWithin h result returns (suc t) 68 (leads h step_at (target past step_at ∷ around) returns a s1.world) end around aims s1.work (after_body (Ok a, s1) (λ s2. bind (means_test s2) (λ v. by_truth v (turns_after t means_test means_body) (gives way.Next))))
          ways ih way.Next s1 g = tests ih s1 g
          ways ih (way.Break zero) s1 g = left (suc t) 67 s1 g.1
          ways ih (way.Break (suc number)) s1 g = stays h.set.x h.set.classes h.set.frames (way.Break number) s1 (omega (arith, g.0), g.1) refl
          ways ih (way.Continue zero) s1 g = tests ih s1 g.1
          ways ih (way.Continue (suc number)) s1 g = stays h.set.x h.set.classes h.set.frames (way.Continue number) s1 (g.0, g.1) refl
          ways ih (way.Return v) s1 g = stays h.set.x h.set.classes h.set.frames (way.Return v) s1 g refl
