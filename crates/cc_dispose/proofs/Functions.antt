-- Lists of functions, one after another, and whole programs.
use Rattle.std.proofs.Common.{◌≡◌, ℕ, ◌+◌, ◌<◌, List, [], ◌∷◌, ◌++◌, length, take, sym, ap, ◌∙◌, subst}
use Rattle.std.specs.Prelude.{get_or}
use Rattle.std.proofs.lemmas.List.{take_more}
use Rattle.cc_base.specs.declared.identifiers.MethodId.{MethodId}
use Rattle.cc_core.specs.declared.tree.FunctionBody.{FunctionBody}
use Rattle.cc_core.specs.declared.tree.ProgramParts.{ProgramParts}
use Rattle.cc_core.specs.declared.types.ClassInfo.{ClassInfo}
use Rattle.cc_core.specs.Typed.{IsProgram}
use Rattle.cc_region.specs.declared.tree.RegionFunction.{RegionFunction}
use Rattle.cc_region.specs.declared.tree.RegionParts.{RegionParts}
use Rattle.cc_region.specs.Typed.{IsRegionProgram, region_parts}
use Rattle.cc_dispose.specs.Lower.{IsLowered, AreLowered, IsLoweredProgram}
use Rattle.cc_dispose.proofs.Fits.{program_fits}

one_more : (bodies : List FunctionBody) (functions : List RegionFunction) (b : FunctionBody) (f : RegionFunction) → AreLowered bodies functions → IsLowered b f
    → AreLowered (bodies ++ b ∷ []) (functions ++ f ∷ [])
one_more [] [] b f l h = (h, tt)
one_more [] (g ∷ functions) b f l h = absurd l
one_more (c ∷ bodies) [] b f l h = absurd l
one_more (c ∷ bodies) (g ∷ functions) b f l h = (l.0, one_more bodies functions b f l.1 h)

-- the function of one more body of a list
pub next_function : (bodies : List FunctionBody) (i : ℕ) (b : FunctionBody) (functions : List RegionFunction) (f : RegionFunction) → i < length bodies → b ≡ get_or bodies i b
    → AreLowered (take i bodies) functions → IsLowered b f → (all : List RegionFunction) → all ≡ functions ++ f ∷ [] → AreLowered (take (i + 1) bodies) all
next_function bodies i b functions f h is l one all e =
    subst (λ fs. AreLowered (take (i + 1) bodies) fs) (sym e)
    (subst (λ bs. AreLowered bs (functions ++ f ∷ [])) (ap (λ x. take i bodies ++ x ∷ []) is ∙ sym (take_more bodies i b h)) (one_more (take i bodies) functions b f l one))

module _ (program : ProgramParts) (classes : List ClassInfo) (bodies : List FunctionBody) (functions : List RegionFunction) (main : MethodId)
    (p : classes ≡ program.classes) (q : bodies ≡ program.bodies) (l : AreLowered bodies functions) (r : main ≡ program.main) where
  -- the lowered functions of a program are those of a region program
  pub lowered_fits : IsProgram program → IsRegionProgram (region_parts classes functions main)
  lowered_fits h =
      subst (λ w. IsRegionProgram (region_parts w functions main)) (sym p)
      (subst (λ m. IsRegionProgram (region_parts program.classes functions m)) (sym r)
      (program_fits program.classes program.bodies program.main functions (subst (λ bs. AreLowered bs functions) q l) h))

  pub lowered_program : (made : RegionParts) → made ≡ region_parts classes functions main → IsLoweredProgram program made
  lowered_program made e = subst (IsLoweredProgram program) (sym e) (record { classes = p; functions = subst (λ bs. AreLowered bs functions) q l; main = r })
