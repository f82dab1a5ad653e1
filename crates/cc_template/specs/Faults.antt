-- The kind and the place of each fault.
use Rattle.std.specs.Prelude.{ℕ, Option, Some, None, Result, Ok, Err}
use Rattle.cc_base.specs.declared.text.Span.{Span}
use Rattle.cc_base.specs.declared.kind.Kind.{Kind}
use Rattle.cc_base.specs.declared.kind.Kind.TheVariants as kind
use Rattle.cc_template.specs.declared.fault.TemplateFault.{TemplateFault}
use Rattle.cc_template.specs.declared.fault.TemplateFault.TheVariants as fault

-- want of memory is no refusal
abbrev pub refusal : TemplateFault → Option (Kind × Span)
refusal (fault.WrongArguments span) = Some (kind.WrongArguments, span)
refusal (fault.TemplateDepth span) = Some (kind.TemplateDepth, span)
refusal (fault.TooManyNodes span) = Some (kind.TooManyNodes, span)
refusal fault.Memory = None

-- a count, or the fault of a node that makes a count pass its limit
abbrev pub too_many : Result ℕ Span → Result ℕ TemplateFault
too_many (Ok count) = Ok count
too_many (Err span) = Err (fault.TooManyNodes span)
