-- Laws of the straight form and of its refusals.
use Rattle.std.specs.Prelude.{◌≡◌, ◌⊎◌, ℕ, List}
use Rattle.cc_base.specs.declared.text.Span.{Span}
use Rattle.cc_base.specs.declared.kind.Kind.{Kind}
use Rattle.cc_tree.specs.declared.unit.Unit as unit
use Rattle.cc_core.specs.StraightSource.{Source}
use Rattle.cc_straight.specs.Form.{IsStraight, FirstUnbuilt}
use Rattle.cc_straight.specs.Reading.{Purpose, Reads, Refuses}

-- A tree is straight, or it has a first node that isn't built.
abbrev pub StraightOrUnbuilt : Type 0
StraightOrUnbuilt = (tree : unit.Unit) → ((source : Source) × IsStraight tree source) ⊎ ((span : Span) × FirstUnbuilt tree span)

-- It is never both.
abbrev pub NeverBoth : Type 0
NeverBoth = (tree : unit.Unit) (source : Source) (span : Span) → IsStraight tree source → FirstUnbuilt tree span → ⊥

-- A text spells at most one straight source.
abbrev pub OneSource : Type 0
OneSource = (text : List ℕ) (a b : Source) → Reads text a → Reads text b → a ≡ b

-- A text that is refused, to be executed or to be checked, spells no straight source.
abbrev pub RefusedReadsNone : Type 0
RefusedReadsNone = (purpose : Purpose) (text : List ℕ) (why : Kind) (place : Span) (source : Source) → Refuses purpose text why place → Reads text source → ⊥
