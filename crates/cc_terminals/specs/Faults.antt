-- The kind and the place of each fault.
use Rattle.std.specs.Prelude.{Option, Some, None}
use Rattle.cc_base.specs.declared.text.Span.{Span}
use Rattle.cc_base.specs.declared.kind.Kind.{Kind}
use Rattle.cc_base.specs.declared.kind.Kind.TheVariants as kind
use Rattle.cc_terminals.specs.declared.fault.ParseFault.{ParseFault}
use Rattle.cc_terminals.specs.declared.fault.ParseFault.TheVariants as fault

-- want of memory is no refusal
abbrev pub refusal : ParseFault → Option (Kind × Span)
refusal (fault.Syntax span) = Some (kind.Syntax, span)
refusal (fault.TooDeep span) = Some (kind.TooDeep, span)
refusal (fault.OutsideProfile span) = Some (kind.OutsideProfile, span)
refusal (fault.NativePointer span) = Some (kind.NativePointer, span)
refusal (fault.FloatType span) = Some (kind.FloatType, span)
refusal (fault.MixedMode span) = Some (kind.MixedMode, span)
refusal fault.Memory = None
