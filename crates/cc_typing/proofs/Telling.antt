-- A fault that tells a refusal refuses what is refused so.
use Rattle.std.proofs.Common.{◌≡◌, Option, Some, None, Err, sym, ap, ◌∙◌}
use Rattle.cc_base.specs.declared.text.Span.{Span}
use Rattle.cc_base.specs.declared.kind.Kind.{Kind}
use Rattle.cc_operations.specs.declared.judged.Refusal.{Refusal}
use Rattle.cc_operations.specs.Judgements.{Judged}
use Rattle.cc_typing.specs.Faults.{Refuses, TellsPair}

pub refuses_as_told : {A : Type 0} (found : Option (Kind × Span)) (one : Refusal) (judged : Judged A) → TellsPair found one → Err one ≡ judged → Refuses found judged
refuses_as_told None one judged told e = tt
refuses_as_told (Some pair) one judged told e = sym e ∙ ap (λ (p : Kind × Span). Err (record { kind = p.0; span = p.1 })) (sym told)
