-- The choice that is made is the language's.
use Rattle.std.proofs.Common.{◌≡◌, ℕ, ap, ◌∙◌, List, Ok, Err, subst}
use Rattle.cc_base.specs.declared.text.Span.{Span}
use Rattle.cc_core.specs.declared.types.ClassInfo.{ClassInfo}
use Rattle.cc_core.specs.declared.types.CoreType.{CoreType}
use Rattle.cc_convert.specs.declared.overload.Signature.{Signature}
use Rattle.cc_convert.specs.declared.overload.Choice.{Choice}
use Rattle.cc_convert.specs.Overloads.{IsChoice}
use Rattle.cc_convert.proofs.LawProofs.{one_choice}
use Rattle.cc_operations.specs.declared.judged.Refusal.{Refusal}
use Rattle.cc_operations.specs.Judgements.{Judged, next}
use Rattle.cc_operations.specs.Choosing.{Types, Pick, Chooses, taken, given_types, signatures_of}

pub picked : (classes : List ClassInfo) (candidates : List Signature) (given : List CoreType) (span : Span) (made : Choice) → IsChoice classes given candidates made
    → (choice : Pick) → Chooses classes choice → (parameters : List Types) (arguments : Types) → candidates ≡ signatures_of parameters → given ≡ given_types arguments
    → taken made span ≡ taken (choice parameters arguments) span
picked classes candidates given span made is choice chooses parameters arguments e f =
    let here = subst (λ g. IsChoice classes g (signatures_of parameters) made) f (subst (λ l. IsChoice classes given l made) e is) in
    ap (λ m. taken m span) (one_choice classes (given_types arguments) (signatures_of parameters) made (choice parameters arguments) here (chooses parameters arguments))

-- a call that is refused by the choice, and one that takes a candidate
pub refused_by : {B : Type 0} (made : Judged ℕ) (refusal : Refusal) (step : ℕ → Judged B) → Err refusal ≡ made → Err refusal ≡ next made step
refused_by made refusal step e = ap (λ m. next m step) e

pub took : {B : Type 0} (made : Judged ℕ) (best : ℕ) (judged : Judged B) (step : ℕ → Judged B) → Ok best ≡ made → judged ≡ step best → judged ≡ next made step
took made best judged step e f = f ∙ ap (λ m. next m step) e
