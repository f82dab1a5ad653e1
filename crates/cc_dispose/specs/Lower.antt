-- What each statement, function and program becomes.
use Rattle.std.specs.Prelude.{◌≡◌, ℕ, zero, suc, List, [], ◌∷◌, map, ⊤}
use Rattle.cc_core.specs.declared.tree.FunctionBody.{FunctionBody}
use Rattle.cc_core.specs.declared.tree.ProgramParts.{ProgramParts}
use Rattle.cc_core.specs.declared.tree.Section.{Section}
use Rattle.cc_core.specs.declared.tree.SwitchLabel.{SwitchLabel}
use Rattle.cc_core.specs.Types.{bare}
use Rattle.cc_core.specs.Bare.{step_of}
use Rattle.cc_core.specs.Step as step
use Rattle.cc_core.specs.Step.{Step, Steps, Sections}
use Rattle.cc_region.specs.declared.tree.RegionFunction.{RegionFunction}
use Rattle.cc_region.specs.declared.tree.RegionParts.{RegionParts}
use Rattle.cc_region.specs.declared.tree.RegionSection.{RegionSection}
use Rattle.cc_region.specs.Bare.{region_of}
use Rattle.cc_region.specs.Region as region
use Rattle.cc_region.specs.Region.{Region, Regions}

-- The region of a statement, where so many Switches stand between it and the innermost Loop around it. A `break` is aimed at the innermost Switch or Loop, a `continue` at the innermost Loop. A form that isn't built has no meaning, and becomes one that has none either.
abbrev mutual
  pub lowered : ℕ → Step → Region
  lowered inner (step.Block steps) = region.Sequence (lowered_all inner steps)
  lowered inner (step.Do e) = region.Do e
  lowered inner (step.Declare x type e) = region.Declare x type e
  lowered inner (step.If condition first second) = region.If condition (lowered inner first) (lowered inner second)
  lowered inner (step.Loop kind condition after body) = region.Loop kind condition after (lowered zero body)
  lowered inner (step.Switch x e sections) = region.Switch x e (lowered_sections (suc inner) sections)
  lowered inner step.Break = region.Break zero
  lowered inner step.Continue = region.Continue inner
  lowered inner (step.Return e) = region.Return e
  lowered inner (step.Throw e) = region.Throw e
  lowered inner _ = region.Rethrow

  pub lowered_all : ℕ → Steps → Regions
  lowered_all inner step.no_steps = region.no_regions
  lowered_all inner (step.next_step first rest) = region.next_region (lowered inner first) (lowered_all inner rest)

  pub lowered_sections : ℕ → Sections → region.Sections
  lowered_sections inner step.no_sections = region.no_sections
  lowered_sections inner (step.next_section labels body rest) = region.next_section labels (lowered_all inner body) (lowered_sections inner rest)

-- The labels and the regions of a section, and what those of a switch's section become.
abbrev pub bare_section : RegionSection → List SwitchLabel × List Region
bare_section section = (section.labels, map region_of section.body)

abbrev pub lowered_section : ℕ → Section → List SwitchLabel × List Region
lowered_section inner section = (section.labels, map (λ a. lowered inner (step_of a)) section.body)

-- The function of a body: it has the body's number and types, and the region of its statement.
pub record IsLowered (body : FunctionBody) (function : RegionFunction) : Type 0 where
  pub method : function.method ≡ body.method
  pub result : bare function.result ≡ bare body.result
  pub locals : map bare function.locals ≡ map bare body.locals
  pub region : region_of function.body ≡ lowered zero (step_of body.body)

-- the functions of bodies, one for each in their order
abbrev pub AreLowered : List FunctionBody → List RegionFunction → Type 0
AreLowered [] [] = ⊤
AreLowered [] (f ∷ functions) = ⊥
AreLowered (b ∷ bodies) [] = ⊥
AreLowered (b ∷ bodies) (f ∷ functions) = IsLowered b f × AreLowered bodies functions

-- The region program of a program: it has the same classes and the same `main`, and the functions of the bodies.
pub record IsLoweredProgram (program : ProgramParts) (made : RegionParts) : Type 0 where
  pub classes : made.classes ≡ program.classes
  pub functions : AreLowered program.bodies made.functions
  pub main : made.main ≡ program.main
