-- The methods of a module, one after another, and the module whole.
use Rattle.std.proofs.Common.{◌≡◌, ◌≤◌, ◌<◌, ◌+◌, ℕ, List, [], ◌∷◌, length, drop, refl, sym, ap, subst, ◌∙◌, get_or}
use Rattle.std.specs.Prelude.{Option, Some, None, slice_get}
use Rattle.std.proofs.lemmas.List.{drop_more, drop_all}
use Rattle.std.proofs.lemmas.Option.{slice_get-get_or, get_or_from_slice_get}
use Rattle.cc_cil.specs.declared.body.Body.{Body}
use Rattle.cc_module.specs.declared.module.Module.{Module}
use Rattle.cc_module.specs.Methods.{body_of}
use Rattle.cc_verify.specs.declared.environment.MethodType.{MethodType}
use Rattle.cc_verify.specs.declared.environment.Environment.{Environment}
use Rattle.cc_verify.specs.declared.environment.Frame.{Frame}
use Rattle.cc_verify.specs.declared.places.Broken.{Broken}
use Rattle.cc_verify.specs.declared.readings.Readings.{Readings}
use Rattle.cc_verify.specs.declared.fault.VerifyFault.TheVariants as fault
use Rattle.cc_verify.specs.Rules.{MethodVerdict}
use Rattle.cc_verify.specs.Types.{AreReadings, environment_of, no_method}
use Rattle.cc_verify.specs.ClassRules.{body_at, first_class_fault}
use Rattle.cc_verify.specs.Verified.{frame_of, BodyVerdict, CodesVerdict, all, broken, kept, of_class, of_fault, of_none, FirstFault}

-- ---- one method

-- what is found of a method's body, where the method was read from its place
pub own_found : (e : Environment) (methods : List MethodType) (before : ℕ) (t method : MethodType) (body : Body) (frame : Frame) (v : Option Broken) → methods ≡ e.methods → method ≡ get_or methods before method → slice_get e.methods before ≡ Some t
    → frame ≡ frame_of e method body → MethodVerdict e frame body v → MethodVerdict e (frame_of e t body) body v
own_found e methods before t method body frame v same is there f found =
    let read : method ≡ t = is ∙ ap (λ l. get_or l before method) same ∙ get_or_from_slice_get e.methods before t method there in
    subst (λ x. MethodVerdict e x body v) (f ∙ ap (λ x. frame_of e x body) read) found

-- of a method without a body nothing is found
pub no_body : (e : Environment) (t : MethodType) (o : Option Body) → None ≡ o → BodyVerdict e t o None
no_body e t o same = subst (λ x. BodyVerdict e t x None) same refl

-- ---- the methods in order

-- what is found of the methods from here on is found of all
abbrev pub Leads : Module → Environment → ℕ → Type 0
Leads m e before = (verdict : Option (ℕ × Broken)) → CodesVerdict m e (before + 1) (drop before e.methods) verdict → CodesVerdict m e 1 e.methods verdict

-- what is found of the method that has so many before it
abbrev pub Finds : Module → Environment → ℕ → Option Broken → Type 0
Finds m e before found = (t : MethodType) → slice_get e.methods before ≡ Some t → BodyVerdict e t (body_at m (body_of m (before + 1))) found

found_there : (m : Module) (e around : Environment) (before : ℕ) (found v : Option Broken) → around ≡ e → before < length e.methods → Finds m around before found → found ≡ v
    → BodyVerdict e (get_or e.methods before no_method) (body_at m (body_of m (before + 1))) v
found_there m e around before found v same lt finds is =
    let moved : Finds m e before v = subst (λ x. Finds m x before v) same (subst (λ f. Finds m around before f) is finds) in
    moved (get_or e.methods before no_method) (slice_get-get_or e.methods before no_method lt)

pub codes_kept : (m : Module) (e around : Environment) (before : ℕ) (found : Option Broken) → around ≡ e → before < length e.methods → Finds m around before found → found ≡ None → Leads m e before → Leads m e (before + 1)
codes_kept m e around before found same lt finds is leads verdict more =
    leads verdict (subst (λ l. CodesVerdict m e (before + 1) l verdict) (sym (drop_more e.methods before no_method lt)) (kept (found_there m e around before found None same lt finds is) more))

pub codes_broken : (m : Module) (e around : Environment) (before : ℕ) (found : Option Broken) (b : Broken) → around ≡ e → before < length e.methods → Finds m around before found → found ≡ Some b → Leads m e before
    → CodesVerdict m e 1 e.methods (Some (before + 1, b))
codes_broken m e around before found b same lt finds is leads =
    leads (Some (before + 1, b)) (subst (λ l. CodesVerdict m e (before + 1) l (Some (before + 1, b))) (sym (drop_more e.methods before no_method lt)) (broken (found_there m e around before found (Some b) same lt finds is)))

pub codes_end : (m : Module) (e : Environment) (before : ℕ) → length e.methods ≤ before → Leads m e before → CodesVerdict m e 1 e.methods None
codes_end m e before past leads = leads None (subst (λ l. CodesVerdict m e (before + 1) l None) (sym (drop_all before e.methods past)) all)

-- ---- the module whole

pub class_first : (m : Module) (r : Readings) (found : Option (ℕ × ℕ)) (at : ℕ × ℕ) → AreReadings m r → found ≡ first_class_fault m r → found ≡ Some at → FirstFault m (Some (fault.BadClass at.0 at.1))
class_first m r found at are same is = (r, are, of_class {at = at} (sym same ∙ is))

-- what the code is found to break is the module's first fault, where no row breaks a rule
same_codes : (m : Module) (e f : Environment) (verdict v : Option (ℕ × Broken)) → e ≡ f → verdict ≡ v → CodesVerdict m e 1 e.methods verdict → CodesVerdict m f 1 f.methods v
same_codes m e f verdict v same is found = subst (λ x. CodesVerdict m x 1 x.methods v) same (subst (CodesVerdict m e 1 e.methods) is found)

pub none_first : (m : Module) (r : Readings) (found : Option (ℕ × ℕ)) (e : Environment) (verdict : Option (ℕ × Broken)) → AreReadings m r → found ≡ first_class_fault m r → found ≡ None → e ≡ environment_of m r → CodesVerdict m e 1 e.methods verdict
    → verdict ≡ None → FirstFault m None
none_first m r found e verdict are same is there codes empty = (r, are, of_none (sym same ∙ is) (same_codes m e (environment_of m r) verdict None there empty codes))

pub code_first : (m : Module) (r : Readings) (found : Option (ℕ × ℕ)) (e : Environment) (verdict : Option (ℕ × Broken)) (at : ℕ × Broken) → AreReadings m r → found ≡ first_class_fault m r → found ≡ None → e ≡ environment_of m r
    → CodesVerdict m e 1 e.methods verdict → verdict ≡ Some at → FirstFault m (Some (fault.BadCode at.0 at.1.at at.1.rule))
code_first m r found e verdict at are same is there codes some = (r, are, of_fault {row = at.0} {b = at.1} (sym same ∙ is) (same_codes m e (environment_of m r) verdict (Some at) there some codes))
