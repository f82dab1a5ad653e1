-- Where the ways out of a region lead, and what holds there.
--   leads h end around returns way w   on behind the region, to the target of its exit, or to a return with the value
--   WayGood h result aims way w        the exit is aimed at something, a value is one of the function's result, and all is fine
--   Low around                         the targets have offsets of 31 bits
--   Returns h result returns           what the instruction `ret` leads to
--   AreSmall..                         the bits of each constant fit 64 bits
use Rattle.std.specs.Prelude.{◌≡◌, ℕ, ◌<◌, ◌^◌, List, [], ◌∷◌, length, Some, slice_get, ⊤}
use Rattle.cc_core.specs.declared.tree.SwitchLabel.{SwitchLabel}
use Rattle.cc_core.specs.declared.tree.SwitchLabel.TheVariants.{Case, Default}
use Rattle.cc_core.specs.declared.world.Value.{Value}
use Rattle.cc_core.specs.declared.world.World.{World}
use Rattle.cc_core.specs.Types.{BareType}
use Rattle.cc_code.specs.declared.targets.Target.{Target}
use Rattle.cc_code.specs.Regions.{break_at, continue_at}
use Rattle.cc_execution.specs.declared.operation.Operation.TheVariants as does
use Rattle.cc_execution.specs.State.{Next}
use Rattle.cc_execution.specs.Step.{act}
use Rattle.cc_region.specs.Leave as way
use Rattle.cc_region.specs.Leave.{Way}
use Rattle.cc_region.specs.Region as region
use Rattle.cc_region.specs.Region.{Region, Regions, Sections}
use Rattle.cc_region.specs.Typed.{Aim, a_loop}
use Rattle.cc_simulation.specs.Known.{IsSmall, IsSmallIf}
use Rattle.cc_simulation.specs.Sites.{Site, Fine, go, state_at}
use Rattle.cc_simulation.specs.Values.{IsOf, pushed}

abbrev pub leads : Site → ℕ → List Target → (Value → World → Next) → Way → World → Next
leads h end around returns way.Next w = go h end [] w
leads h end around returns (way.Break number) w = go h (break_at around number) [] w
leads h end around returns (way.Continue number) w = go h (continue_at around number) [] w
leads h end around returns (way.Return v) w = returns v w

abbrev pub WayGood : Site → BareType → List Aim → Way → World → Type 0
WayGood h result aims way.Next w = Fine h w
WayGood h result aims (way.Break number) w = (number < length aims) × Fine h w
WayGood h result aims (way.Continue number) w = (slice_get aims number ≡ Some a_loop) × Fine h w
WayGood h result aims (way.Return v) w = IsOf result v × Fine h w

abbrev pub Low : List Target → Type 0
Low around = (number : ℕ) → (break_at around number < 2 ^ 31) × (continue_at around number < 2 ^ 31)

pub record Returns (h : Site) (result : BareType) (returns : Value → World → Next) : Type 0 where
  pub returned : (at next : ℕ) (v : Value) (w : World) → IsOf result v → act h.set.x h.set.frames does.Return next (state_at h at (pushed result v []) w) ≡ returns v w

abbrev pub AreSmallLabels : List SwitchLabel → Type 0
AreSmallLabels [] = ⊤
AreSmallLabels (Case n ∷ labels) = (n < 2 ^ 64) × AreSmallLabels labels
AreSmallLabels (Default ∷ labels) = AreSmallLabels labels

abbrev mutual
  pub IsSmallRegion : Region → Type 0
  IsSmallRegion (region.Sequence regions) = AreSmallRegions regions
  IsSmallRegion (region.Do e) = IsSmall e
  IsSmallRegion (region.Declare x of e) = IsSmallIf e
  IsSmallRegion (region.If condition first second) = IsSmall condition × IsSmallRegion first × IsSmallRegion second
  IsSmallRegion (region.Block body) = IsSmallRegion body
  IsSmallRegion (region.Switch x e sections) = IsSmall e × AreSmallSections sections
  IsSmallRegion (region.Loop kind condition after body) = IsSmall condition × IsSmallIf after × IsSmallRegion body
  IsSmallRegion (region.Return e) = IsSmallIf e
  IsSmallRegion _ = ⊤

  pub AreSmallRegions : Regions → Type 0
  AreSmallRegions region.no_regions = ⊤
  AreSmallRegions (region.next_region first rest) = IsSmallRegion first × AreSmallRegions rest

  pub AreSmallSections : Sections → Type 0
  AreSmallSections region.no_sections = ⊤
  AreSmallSections (region.next_section labels body rest) = AreSmallLabels labels × AreSmallRegions body × AreSmallSections rest
