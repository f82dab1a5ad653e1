-- Parts that are judged one after another.
use Rattle.std.proofs.Common.{◌≡◌, sym, ap, ◌∙◌, List, Result, Ok, Err}
use Rattle.std.specs.Prelude.{IfOk}
use Rattle.cc_core.specs.declared.types.ClassInfo.{ClassInfo}
use Rattle.cc_operations.specs.declared.judged.Refusal.{Refusal}
use Rattle.cc_operations.specs.declared.source.Frame.{Frame}
use Rattle.cc_operations.specs.Choosing.{Pick, Chooses}
use Rattle.cc_operations.specs.Judgements.{Judged, next, judged_by}
use Rattle.cc_statements.specs.Steps.{Typed, at, with_frame}

-- a refused part refuses the whole, and one that is made leads on
pub ended : {A B : Type 0} (part : Judged A) (refusal : Refusal) (step : A → Judged B) → Err refusal ≡ part → Err refusal ≡ next part step
ended part refusal step e = ap (λ m. next m step) e

pub went : {A B : Type 0} (part : Judged A) (a : A) (step : A → Judged B) (made : Judged B) → Ok a ≡ part → made ≡ step a → made ≡ next part step
went part a step made e f = f ∙ ap (λ m. next m step) e

-- what a function answered, which is said of its result without the places in memory
pub gone : {A B : Type 0} (bare : A → B) (judged : Judged A) (refusal : Refusal) (part : Judged B) → judged ≡ Err refusal → judged_by bare judged ≡ part → Err refusal ≡ part
gone bare judged refusal part is says = sym (ap (judged_by bare) is) ∙ says

pub gave : {A B : Type 0} (bare : A → B) (judged : Judged A) (a : A) (part : Judged B) → judged ≡ Ok a → judged_by bare judged ≡ part → Ok (bare a) ≡ part
gave bare judged a part is says = sym (ap (judged_by bare) is) ∙ says

pub gone_with : {A B : Type 0} (bare : A → B) (judged : Judged A) (refusal : Refusal) (after : Frame) (part : Typed B) → judged ≡ Err refusal → with_frame bare judged after ≡ part → Err refusal ≡ part
gone_with bare judged refusal after part is says = sym (ap (λ (j : Judged _). with_frame bare j after) is) ∙ says

pub gave_with : {A B : Type 0} (bare : A → B) (judged : Judged A) (a : A) (after : Frame) (part : Typed B) → judged ≡ Ok a → with_frame bare judged after ≡ part → Ok (bare a, after) ≡ part
gave_with bare judged a after part is says = sym (ap (λ (j : Judged _). with_frame bare j after) is) ∙ says

-- what a function answered is answered for another one, which means the same
pub same : {A B E : Type 0} (bare : A → B) (answer : Result (Judged A) E) (after : Frame) (classes : List ClassInfo) (old new : Pick → Typed B) → ((choice : Pick) → new choice ≡ old choice)
    → IfOk answer (λ judged. (choice : Pick) → Chooses classes choice → with_frame bare judged after ≡ old choice)
    → IfOk answer (λ judged. (choice : Pick) → Chooses classes choice → with_frame bare judged after ≡ new choice)
same bare (Ok judged) after classes old new is says = λ choice chooses. says choice chooses ∙ sym (is choice)
same bare (Err e) after classes old new is says = tt

-- what a function that knows nothing of choices answered is answered
pub led : {A B E : Type 0} (bare : A → B) (answer : Result (Judged A) E) (after : Frame) (classes : List ClassInfo) (told : Judged B) (new : Pick → Typed B)
    → ((made : Judged B) → made ≡ told → (choice : Pick) → Chooses classes choice → at made after ≡ new choice)
    → IfOk answer (λ judged. judged_by bare judged ≡ told)
    → IfOk answer (λ judged. (choice : Pick) → Chooses classes choice → with_frame bare judged after ≡ new choice)
led bare (Ok judged) after classes told new leads says = leads (judged_by bare judged) says
led bare (Err e) after classes told new leads says = tt

-- what is said of a value by each choice, with the variables behind it
pub joined : {A B E : Type 0} (bare : A → B) (answer : Result (Judged A) E) (after : Frame) (classes : List ClassInfo) (old : Pick → Judged B) (new : Pick → Typed B)
    → ((choice : Pick) → new choice ≡ at (old choice) after)
    → IfOk answer (λ judged. (choice : Pick) → Chooses classes choice → judged_by bare judged ≡ old choice)
    → IfOk answer (λ judged. (choice : Pick) → Chooses classes choice → with_frame bare judged after ≡ new choice)
joined bare (Ok judged) after classes old new is says = λ choice chooses. ap (λ (j : Judged _). at j after) (says choice chooses) ∙ sym (is choice)
joined bare (Err e) after classes old new is says = tt
