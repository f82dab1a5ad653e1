-- Places in a source, and refusals of it.
use Rattle.std.specs.Prelude.{ℕ, ◌+◌}
use Rattle.cc_base.specs.declared.kind.Kind.{Kind}
use Rattle.cc_base.specs.declared.text.Span.{Span}

abbrev pub span : (first past : ℕ) → Span
span first past = record { first = first; past = past }

-- why a source is refused, and the bytes that a message names
abbrev pub Refusal : Type 0
Refusal = Kind × Span

-- a refusal whose span counts from the place `at`
abbrev pub moved : (at : ℕ) → Refusal → Refusal
moved at refusal = (refusal.0, span (at + refusal.1.first) (at + refusal.1.past))
