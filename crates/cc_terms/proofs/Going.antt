-- Parts that are judged one after another.
use Rattle.std.proofs.Common.{◌≡◌, ap, ◌∙◌, Ok, Err}
use Rattle.cc_operations.specs.declared.judged.Refusal.{Refusal}
use Rattle.cc_operations.specs.Judgements.{Judged, next}

-- a refused part refuses the whole, and one that is made leads on
pub ended : {A B : Type 0} (part : Judged A) (refusal : Refusal) (step : A → Judged B) → Err refusal ≡ part → Err refusal ≡ next part step
ended part refusal step e = ap (λ m. next m step) e

pub went : {A B : Type 0} (part : Judged A) (a : A) (step : A → Judged B) (made : Judged B) → Ok a ≡ part → made ≡ step a → made ≡ next part step
went part a step made e f = f ∙ ap (λ m. next m step) e
