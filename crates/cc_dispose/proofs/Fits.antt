-- The region of a sound statement is fit, and the lowered functions of a program are those of a region program.
use Rattle.std.proofs.Common.{◌≡◌, ℕ, zero, suc, ◌<◌, List, [], ◌∷◌, Bool, true, false, Option, Some, None, refl, sym, ap, ◌∙◌, subst, map, length, arith, take}
use Rattle.std.specs.Prelude.{slice_get, ⊤}
use Rattle.cc_base.specs.declared.identifiers.MethodId.{MethodId}
use Rattle.cc_core.specs.declared.tree.FunctionBody.{FunctionBody}
use Rattle.cc_core.specs.declared.types.ClassInfo.{ClassInfo}
use Rattle.cc_core.specs.Term.{type_of}
use Rattle.cc_core.specs.Types.{BareType, bare}
use Rattle.cc_core.specs.Step as step
use Rattle.cc_core.specs.Step.{Step, Steps, Sections}
use Rattle.cc_core.specs.Bare.{step_of}
use Rattle.cc_core.specs.Typed.{IsSound, AreSound, AreSections, AreNumbers, methods_of, IsBody, AreBodies, IsProgram, program_parts}
use Rattle.cc_region.specs.declared.tree.RegionFunction.{RegionFunction}
use Rattle.cc_region.specs.Bare.{region_of}
use Rattle.cc_region.specs.Typed.{Aim, a_block, a_loop, IsFit, AreFit, AreFitSections, IsFunction, AreFunctions, IsRegionProgram, region_parts}
use Rattle.cc_dispose.specs.Lower.{lowered, lowered_all, lowered_sections, IsLowered, AreLowered}

-- What stands around a region where a `break` and a `continue` may stand: something to end, and the Loop of this number.
record Aimed (breaks continues : Bool) (inner : ℕ) (around : List Aim) : Type 0 where
  pub something : breaks ≡ true → zero < length around
  pub loop : continues ≡ true → slice_get around inner ≡ Some a_loop

in_loop : (around : List Aim) → Aimed true true zero (a_loop ∷ around)
in_loop around = record { something = λ p. omega arith; loop = λ p. refl }

in_switch : {breaks continues : Bool} {inner : ℕ} {around : List Aim} → Aimed breaks continues inner around → Aimed true continues (suc inner) (a_block ∷ around)
in_switch h = record { something = λ p. omega arith; loop = λ p. h.loop p }

module _ (classes : List ClassInfo) (locals : List BareType) (result : BareType) where
  mutual
    fits : (breaks continues : Bool) (inner : ℕ) (around : List Aim) → Aimed breaks continues inner around → (a : Step)
        → IsSound classes locals result breaks continues a → IsFit classes locals result around (lowered inner a)
    fits breaks continues inner around h (step.Block steps) p = all_fit breaks continues inner around h steps p
    fits breaks continues inner around h (step.Do e) p = p
    fits breaks continues inner around h (step.Declare x of e) p = p
    fits breaks continues inner around h (step.If c a b) p = (p.0, fits breaks continues inner around h a p.1, fits breaks continues inner around h b p.2)
    fits breaks continues inner around h (step.Loop kind c after body) p = (p.0, p.1, fits true true zero (a_loop ∷ around) (in_loop around) body p.2)
    fits breaks continues inner around h (step.Switch x e sections) p =
        (p.0, p.1, p.2, sections_fit continues (suc inner) (a_block ∷ around) (in_switch h) (type_of e) sections p.3)
    fits breaks continues inner around h step.Break p = h.something p
    fits breaks continues inner around h step.Continue p = h.loop p
    fits breaks continues inner around h (step.Return e) p = p
    fits breaks continues inner around h _ p = absurd p

    all_fit : (breaks continues : Bool) (inner : ℕ) (around : List Aim) → Aimed breaks continues inner around → (l : Steps)
        → AreSound classes locals result breaks continues l → AreFit classes locals result around (lowered_all inner l)
    all_fit breaks continues inner around h step.no_steps p = tt
    all_fit breaks continues inner around h (step.next_step a rest) p = (fits breaks continues inner around h a p.0, all_fit breaks continues inner around h rest p.1)

    sections_fit : (continues : Bool) (inner : ℕ) (around : List Aim) → Aimed true continues inner around → (of : BareType) (l : Sections)
        → AreSections classes locals result continues of l → AreFitSections classes locals result around of (lowered_sections inner l)
    sections_fit continues inner around h of step.no_sections p = tt
    sections_fit continues inner around h of (step.next_section labels body rest) p =
        (p.0, all_fit true continues inner around h body p.1, sections_fit continues inner around h of rest p.2)

-- ---- functions and programs

nowhere : Aimed false false zero []
nowhere = record { something = λ p. absurd cc; loop = λ p. absurd cc }

function_fits : (classes : List ClassInfo) (b : FunctionBody) (f : RegionFunction) → IsLowered b f → IsBody classes b → IsFunction classes f
function_fits classes b f l h = record {
  function = h.function;
  is = ap (λ id. slice_get (methods_of classes) id.0) l.method ∙ h.is;
  result = l.result ∙ h.result;
  parameters = ap (take (length h.function.parameters)) l.locals ∙ h.parameters;
  variables = subst AreNumbers (sym l.locals) h.variables;
  fit = subst (λ region. IsFit classes (map bare f.locals) (bare f.result) [] region) (sym l.region)
      (subst (λ of. IsFit classes (map bare f.locals) of [] (lowered zero (step_of b.body))) (sym l.result)
      (subst (λ locals. IsFit classes locals (bare b.result) [] (lowered zero (step_of b.body))) (sym l.locals)
      (fits classes (map bare b.locals) (bare b.result) false false zero [] nowhere (step_of b.body) h.sound)));
}

functions_fit : (classes : List ClassInfo) (bodies : List FunctionBody) (functions : List RegionFunction) → AreLowered bodies functions → AreBodies classes bodies → AreFunctions classes functions
functions_fit classes [] [] l h = tt
functions_fit classes [] (f ∷ functions) l h = absurd l
functions_fit classes (b ∷ bodies) [] l h = absurd l
functions_fit classes (b ∷ bodies) (f ∷ functions) l h = (function_fits classes b f l.0 h.0, functions_fit classes bodies functions l.1 h.1)

methods_are : (bodies : List FunctionBody) (functions : List RegionFunction) → AreLowered bodies functions → map (λ f. f.method) functions ≡ map (λ b. b.method) bodies
methods_are [] [] l = refl
methods_are [] (f ∷ functions) l = absurd l
methods_are (b ∷ bodies) [] l = absurd l
methods_are (b ∷ bodies) (f ∷ functions) l = ap (λ id. id ∷ map (λ f. f.method) functions) l.0.method ∙ ap (λ ids. b.method ∷ ids) (methods_are bodies functions l.1)

pub program_fits : (classes : List ClassInfo) (bodies : List FunctionBody) (main : MethodId) (functions : List RegionFunction)
    → AreLowered bodies functions → IsProgram (program_parts classes bodies main) → IsRegionProgram (region_parts classes functions main)
program_fits classes bodies main functions l h = record {
  each = methods_are bodies functions l ∙ h.each;
  fit = functions_fit classes bodies functions l h.typed;
  main = h.main;
}
