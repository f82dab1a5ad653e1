-- How regions are left, and how they follow one another.
use Rattle.std.proofs.Common.{◌≡◌, ℕ, zero, suc, ◌+◌, ◌<◌, ◌^◌, List, [], ◌∷◌, Option, Some, None, refl, sym, ap, ◌∙◌, subst, arith}
use Rattle.std.specs.Prelude.{Ok, ⊤, option_map}
use Rattle.cc_core.specs.declared.state.State.{State}
use Rattle.cc_core.specs.declared.world.Value.{Value}
use Rattle.cc_core.specs.declared.world.World.{World}
use Rattle.cc_core.specs.Run.{Ran, Does}
use Rattle.cc_core.specs.Types.{BareType}
use Rattle.cc_code.specs.declared.targets.Target.{Target}
use Rattle.cc_code.specs.Regions.{target, leave}
use Rattle.cc_simulation.proofs.Targets.{leave_lands}
use Rattle.cc_execution.specs.declared.operation.Operation.TheVariants as does
use Rattle.cc_execution.specs.Handlers.{go_out}
use Rattle.cc_execution.specs.Links.{Link, left_for}
use Rattle.cc_execution.specs.Operations.{natural}
use Rattle.cc_execution.specs.State.{Next}
use Rattle.cc_execution.specs.Step.{placed_in}
use Rattle.cc_region.specs.Leave as way
use Rattle.cc_region.specs.Leave.{Way, then_next, left_block}
use Rattle.cc_region.specs.Typed.{Aim, a_block, a_loop}
use Rattle.cc_simulation.specs.Sites.{Site, Quiet, StandsAt, HasAt, Fine, go, state_at, placed}
use Rattle.cc_simulation.specs.Stretches.{Stands}
use Rattle.cc_simulation.specs.Ways.{leads, WayGood, Low}
use Rattle.cc_simulation.proofs.Steps.{did, stays, at_same, onward}

no_loop : {A : Type 0} → Some a_block ≡ Some a_loop → A
no_loop {A} e = absurd (subst (λ (o : Option Aim). elim o as (λ (o : Option Aim). Type 0) [ None ↦ ⊤ | Some aim ↦ elim aim as (λ (aim : Aim). Type 0) [ a_block ↦ ⊤ | a_loop ↦ ⊥ ] ]) e tt)

-- the targets inside one more construct
pub low_more : (breaks continues : ℕ) (around : List Target) → breaks < 2 ^ 31 → continues < 2 ^ 31 → Low around → Low (target breaks continues ∷ around)
low_more breaks continues around p q low zero = (p, q)
low_more breaks continues around p q low (suc number) = low number

module _ (h : Site) (result : BareType) (returns : Value → World → Next) where
  -- within so many turns
  abbrev pub WaysWithin : ℕ → ℕ → Next → ℕ → List Target → List Aim → ℕ → Ran Way → Type 0
  WaysWithin n b from end around aims work ran = Stands h.set.x h.set.classes h.set.frames n b from (leads h end around returns) (WayGood h result aims) work ran

  abbrev pub WaysAt : ℕ → Next → ℕ → List Target → List Aim → ℕ → Ran Way → Type 0
  WaysAt b from end around aims work ran = WaysWithin h.set.turns b from end around aims work ran

  -- a region, and then the next
  pub nexts : {from : Next} {w0 : ℕ} {ran : Ran Way} {next : Does Way} (n b b1 mid end : ℕ) (around : List Target) (aims : List Aim) → WaysWithin n b from mid around aims w0 ran
      → ((s : State) → Fine h s.world → WaysWithin n b1 (go h mid [] s.world) end around aims s.work (next s)) → WaysWithin n (b + b1) from end around aims w0 (then_next ran next)
  nexts {next = next} n b b1 mid end around aims m go_on = onward h.set.x h.set.classes h.set.frames (λ ran. then_next ran next) (λ e s. refl) b b1 m ways
    where
      ways : (a : Way) (s : State) → WayGood h result aims a s.world → Stands h.set.x h.set.classes h.set.frames n b1 (leads h mid around returns a s.world) (leads h end around returns) (WayGood h result aims) s.work (then_next (Ok a, s) next)
      ways way.Next s g = go_on s g
      ways (way.Break number) s g = stays h.set.x h.set.classes h.set.frames (way.Break number) s g refl
      ways (way.Continue number) s g = stays h.set.x h.set.classes h.set.frames (way.Continue number) s g refl
      ways (way.Return v) s g = stays h.set.x h.set.classes h.set.frames (way.Return v) s g refl

  -- a region, and then an instruction where it ended normally
  pub then_nop : {from : Next} {w0 : ℕ} {ran : Ran Way} (b mid end : ℕ) (around : List Target) (aims : List Aim) → WaysAt b from mid around aims w0 ran
      → placed_in h.set.x h.method mid ≡ Some (record { at = mid; operation = does.Nothing; next = end }) → WaysAt (b + 1) from end around aims w0 ran
  then_nop b mid end around aims m p = onward h.set.x h.set.classes h.set.frames (λ (ran : Ran Way). ran) (λ e s. refl) b 1 m ways
    where
      ways : (a : Way) (s : State) → WayGood h result aims a s.world → StandsAt h.set 1 (leads h mid around returns a s.world) (leads h end around returns) (WayGood h result aims) s.work (Ok a, s)
      ways way.Next s g = did h.set.x h.set.classes h.set.frames (state_at h mid [] s.world) (record { at = mid; operation = does.Nothing; next = end }) p (stays h.set.x h.set.classes h.set.frames {b = 0} way.Next s g refl)
      ways (way.Break number) s g = stays h.set.x h.set.classes h.set.frames (way.Break number) s g refl
      ways (way.Continue number) s g = stays h.set.x h.set.classes h.set.frames (way.Continue number) s g refl
      ways (way.Return v) s g = stays h.set.x h.set.classes h.set.frames (way.Return v) s g refl

  pub then_jump : {from : Next} {w0 : ℕ} {ran : Ran Way} (b mid next end : ℕ) (around : List Target) (aims : List Aim) → WaysAt b from mid around aims w0 ran
      → placed_in h.set.x h.method mid ≡ Some (record { at = mid; operation = does.Branch end; next = next }) → WaysAt (b + 1) from end around aims w0 ran
  then_jump b mid next end around aims m p = onward h.set.x h.set.classes h.set.frames (λ (ran : Ran Way). ran) (λ e s. refl) b 1 m ways
    where
      ways : (a : Way) (s : State) → WayGood h result aims a s.world → StandsAt h.set 1 (leads h mid around returns a s.world) (leads h end around returns) (WayGood h result aims) s.work (Ok a, s)
      ways way.Next s g = did h.set.x h.set.classes h.set.frames (state_at h mid [] s.world) (record { at = mid; operation = does.Branch end; next = next }) p (stays h.set.x h.set.classes h.set.frames {b = 0} way.Next s g refl)
      ways (way.Break number) s g = stays h.set.x h.set.classes h.set.frames (way.Break number) s g refl
      ways (way.Continue number) s g = stays h.set.x h.set.classes h.set.frames (way.Continue number) s g refl
      ways (way.Return v) s g = stays h.set.x h.set.classes h.set.frames (way.Return v) s g refl

  -- the body of a Block or a Switch, and the instruction at its end
  pub block_left : {from : Next} {w0 : ℕ} {ran : Ran Way} (b mid end continues : ℕ) (around : List Target) (aims : List Aim) → WaysAt b from mid (target mid continues ∷ around) (a_block ∷ aims) w0 ran
      → placed_in h.set.x h.method mid ≡ Some (record { at = mid; operation = does.Nothing; next = end }) → WaysAt (b + 1) from end around aims w0 (left_block ran)
  block_left b mid end continues around aims m p = onward h.set.x h.set.classes h.set.frames left_block (λ e s. refl) b 1 m ways
    where
      ways : (a : Way) (s : State) → WayGood h result (a_block ∷ aims) a s.world → StandsAt h.set 1 (leads h mid (target mid continues ∷ around) returns a s.world) (leads h end around returns) (WayGood h result aims) s.work (left_block (Ok a, s))
      ways way.Next s g = did h.set.x h.set.classes h.set.frames (state_at h mid [] s.world) (record { at = mid; operation = does.Nothing; next = end }) p (stays h.set.x h.set.classes h.set.frames {b = 0} way.Next s g refl)
      ways (way.Break zero) s g = did h.set.x h.set.classes h.set.frames (state_at h mid [] s.world) (record { at = mid; operation = does.Nothing; next = end }) p (stays h.set.x h.set.classes h.set.frames {b = 0} way.Next s g.1 refl)
      ways (way.Break (suc number)) s g = stays h.set.x h.set.classes h.set.frames (way.Break number) s (omega (arith, g.0), g.1) refl
      ways (way.Continue zero) s g = no_loop g.0
      ways (way.Continue (suc number)) s g = stays h.set.x h.set.classes h.set.frames (way.Continue number) s (g.0, g.1) refl
      ways (way.Return v) s g = stays h.set.x h.set.classes h.set.frames (way.Return v) s g refl

  -- an exit
  pub leave_stands : (quiet : Quiet h.set) (at to end : ℕ) (around : List Target) (aims : List Aim) (a : Way) (s : State) → HasAt h at (leave at to ∷ []) → at + 5 < 2 ^ 31 → to < 2 ^ 31 → WayGood h result aims a s.world
      → leads h end around returns a s.world ≡ go h to [] s.world → WaysAt 1 (go h at [] s.world) end around aims s.work (Ok a, s)
  leave_stands quiet at to end around aims a s has p q g e =
      did h.set.x h.set.classes h.set.frames (state_at h at [] s.world) (record { at = at; operation = does.Leave to; next = at + 5 })
      (has.0 ∙ ap (λ z. placed at (at + 5) (option_map does.Leave (natural z))) (leave_lands (at + 5) to p q))
      (at_same h.set.x h.set.classes h.set.frames (ap (λ (links : List Link). go_out to (left_for links to) h.method h.pending h.callers s.world) (quiet.no_handlers h.method at))
      (stays h.set.x h.set.classes h.set.frames {b = 0} a s g (sym e)))
