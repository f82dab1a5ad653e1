-- The kind and the place of each fault.
use Rattle.std.specs.Prelude.{Option, Some, None, ◌≡◌}
use Rattle.cc_base.specs.declared.text.Span.{Span}
use Rattle.cc_base.specs.declared.kind.Kind.{Kind}
use Rattle.cc_base.specs.declared.kind.Kind.TheVariants as kind
use Rattle.cc_names.specs.declared.fault.NameFault.{NameFault}
use Rattle.cc_names.specs.declared.fault.NameFault.TheVariants as fault
use Rattle.cc_names.specs.declared.refusal.NameKind.{NameKind}
use Rattle.cc_names.specs.declared.refusal.NameKind.TheVariants as name_kind
use Rattle.cc_names.specs.declared.refusal.Refusal.{Refusal}

-- want of memory is no refusal
abbrev pub refusal : NameFault → Option (Kind × Span)
refusal (fault.Duplicate span) = Some (kind.Duplicate, span)
refusal (fault.UnknownName span) = Some (kind.UnknownName, span)
refusal (fault.NotAType span) = Some (kind.NotAType, span)
refusal (fault.CyclicBase span) = Some (kind.CyclicBase, span)
refusal (fault.SealedBase span) = Some (kind.SealedBase, span)
refusal (fault.ReservedMember span) = Some (kind.ReservedMember, span)
refusal (fault.BadMain span) = Some (kind.BadMain, span)
refusal fault.Memory = None

-- the kind of a refusal among those of a source
abbrev pub kind_of : NameKind → Kind
kind_of name_kind.Duplicate = kind.Duplicate
kind_of name_kind.UnknownName = kind.UnknownName
kind_of name_kind.NotAType = kind.NotAType
kind_of name_kind.CyclicBase = kind.CyclicBase
kind_of name_kind.SealedBase = kind.SealedBase
kind_of name_kind.ReservedMember = kind.ReservedMember
kind_of name_kind.BadMain = kind.BadMain

abbrev pub pair_of : Option Refusal → Option (Kind × Span)
pair_of None = None
pair_of (Some one) = Some (kind_of one.kind, one.span)

-- a fault is the refusal, or want of memory
abbrev pub Refuses : Option (Kind × Span) → Option (Kind × Span) → Type 0
Refuses None refusal = Unit {0}
Refuses (Some one) refusal = refusal ≡ Some one
