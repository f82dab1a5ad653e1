-- The kind and the place of each fault.
use Rattle.std.specs.Prelude.{Option, Some, None, ◌≡◌, Err}
use Rattle.cc_base.specs.declared.text.Span.{Span}
use Rattle.cc_base.specs.declared.kind.Kind.{Kind}
use Rattle.cc_base.specs.declared.kind.Kind.TheVariants as kind
use Rattle.cc_operations.specs.declared.judged.Refusal.{Refusal}
use Rattle.cc_operations.specs.Judgements.{Judged}
use Rattle.cc_typing.specs.declared.fault.TypeFault.{TypeFault}
use Rattle.cc_typing.specs.declared.fault.TypeFault.TheVariants as fault

-- want of memory is no refusal
abbrev pub refusal : TypeFault → Option (Kind × Span)
refusal (fault.NoConversion span) = Some (kind.NoConversion, span)
refusal (fault.NoOverload span) = Some (kind.NoOverload, span)
refusal (fault.AmbiguousCall span) = Some (kind.AmbiguousCall, span)
refusal (fault.NotAssignable span) = Some (kind.NotAssignable, span)
refusal (fault.BadBreak span) = Some (kind.BadBreak, span)
refusal (fault.MissingReturn span) = Some (kind.MissingReturn, span)
refusal (fault.TooManyArguments span) = Some (kind.TooManyArguments, span)
refusal (fault.UnknownMember span) = Some (kind.UnknownMember, span)
refusal fault.Memory = None

-- a fault is the refusal, or want of memory
abbrev pub Refuses : {A : Type 0} → Option (Kind × Span) → Judged A → Type 0
Refuses None judged = Unit {0}
Refuses (Some one) judged = judged ≡ Err (record { kind = one.0; span = one.1 })

-- the fault that tells a refusal; typing refuses by no other kind than these
abbrev pub TellsPair : Option (Kind × Span) → Refusal → Type 0
TellsPair None refusal = Unit {0}
TellsPair (Some pair) refusal = pair ≡ (refusal.kind, refusal.span)

abbrev pub Tells : TypeFault → Refusal → Type 0
Tells fault one = TellsPair (refusal fault) one
