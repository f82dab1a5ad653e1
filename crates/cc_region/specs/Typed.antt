-- Which regions are well typed and fit, and which region programs (ECMA-372, 12, 14, 15 and 16), with a case for each form that is built. What isn't built yet is never well typed.
use Rattle.std.specs.Prelude.{◌≡◌, ℕ, ◌<◌, List, [], ◌∷◌, map, length, take, Bool, true, false, ⊤, Option, Some, None, slice_get}
use Rattle.cc_base.specs.declared.identifiers.MethodId.{MethodId}
use Rattle.cc_core.specs.declared.types.ClassInfo.{ClassInfo}
use Rattle.cc_core.specs.declared.types.MethodInfo.{MethodInfo}
use Rattle.cc_core.specs.Term.{type_of}
use Rattle.cc_core.specs.Types.{BareType, bare}
use Rattle.cc_core.specs.Typed.{IsTyped, IsTypedIf, IsCondition, IsVariable, IsNumber, IsPromoted, FitsVariable, FitsResult, AreLabels, AreNumbers, methods_of, with_bodies, IsMain}
use Rattle.cc_region.specs.declared.tree.RegionFunction.{RegionFunction}
use Rattle.cc_region.specs.declared.tree.RegionParts.{RegionParts}
use Rattle.cc_region.specs.Bare.{region_of}
use Rattle.cc_region.specs.Region.{Region, Regions, Sections, Sequence, Do, Declare, If, Block, Switch, Loop, Break, Continue, Return, no_regions, next_region, no_sections, next_section}

-- a construct that a Break or a Continue may be aimed at
pub data Aim : Type 0 where
  a_block : Aim
  a_loop : Aim

-- In a function of these classes with local variables of these types and this result, where these constructs stand around the region, the innermost first.
module _ (classes : List ClassInfo) (locals : List BareType) (result : BareType) where
  abbrev mutual
    pub IsFit : List Aim → Region → Type 0
    IsFit around (Sequence regions) = AreFit around regions
    IsFit around (Do e) = IsTyped classes locals e
    IsFit around (Declare local of e) = IsVariable locals local of × IsNumber of × FitsVariable classes locals of e
    IsFit around (If condition first second) = IsCondition classes locals condition × IsFit around first × IsFit around second
    IsFit around (Block body) = IsFit (a_block ∷ around) body
    IsFit around (Switch local e sections) =
        IsTyped classes locals e × IsPromoted (type_of e) × IsVariable locals local (type_of e) × AreFitSections (a_block ∷ around) (type_of e) sections
    IsFit around (Loop kind condition after body) = IsCondition classes locals condition × IsTypedIf classes locals after × IsFit (a_loop ∷ around) body
    IsFit around (Break number) = number < length around
    IsFit around (Continue number) = slice_get around number ≡ Some a_loop
    IsFit around (Return e) = FitsResult classes locals result e
    IsFit around _ = ⊥

    pub AreFit : List Aim → Regions → Type 0
    AreFit around no_regions = ⊤
    AreFit around (next_region first rest) = IsFit around first × AreFit around rest

    pub AreFitSections : List Aim → BareType → Sections → Type 0
    AreFitSections around of no_sections = ⊤
    AreFitSections around of (next_section labels body rest) = AreLabels classes locals of labels × AreFit around body × AreFitSections around of rest

-- A function: its variables are of types that are built, the parameters first, and its body is fit.
pub record IsFunction (classes : List ClassInfo) (f : RegionFunction) : Type 0 where
  pub function : MethodInfo
  pub is : slice_get (methods_of classes) f.method.0 ≡ Some function
  pub result : bare f.result ≡ bare function.result
  pub parameters : take (length function.parameters) (map bare f.locals) ≡ map bare function.parameters
  pub variables : AreNumbers (map bare f.locals)
  pub fit : IsFit classes (map bare f.locals) (bare f.result) [] (region_of f.body)

abbrev pub AreFunctions : List ClassInfo → List RegionFunction → Type 0
AreFunctions classes [] = ⊤
AreFunctions classes (f ∷ functions) = IsFunction classes f × AreFunctions classes functions

abbrev pub region_parts : List ClassInfo → List RegionFunction → MethodId → RegionParts
region_parts classes functions main = record { classes = classes; functions = functions; main = main }

-- What the parts of every region program keep, beside what holds of all classes.
pub record IsRegionProgram (parts : RegionParts) : Type 0 where
  -- each function with a body is there once, in order of the numbers, and no other
  pub each : map (λ f. f.method) parts.functions ≡ with_bodies 0 (methods_of parts.classes)
  pub fit : AreFunctions parts.classes parts.functions
  pub main : IsMain parts.classes parts.main
