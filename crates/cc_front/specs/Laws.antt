-- Laws of the typed programs of texts.
use Rattle.std.specs.Prelude.{◌≡◌, ℕ, List}
use Rattle.cc_base.specs.declared.text.Span.{Span}
use Rattle.cc_base.specs.declared.kind.Kind.{Kind}
use Rattle.cc_base.specs.declared.running.Limits.{Limits}
use Rattle.cc_core.specs.declared.tree.ProgramParts.{ProgramParts}
use Rattle.cc_core.specs.SourceRun.{run_of}
use Rattle.cc_front.specs.Reading.{AreSame, Types, Refuses}

-- A text has at most one typed program, but for where its parts stand in memory.
abbrev pub OneProgram : Type 0
OneProgram = (text : List ℕ) (a b : ProgramParts) → Types text a → Types text b → AreSame a b

-- So all typed programs of a text mean the same, for every input, all arguments and limits, and within every number of turns.
abbrev pub OneMeaning : Type 0
OneMeaning = (text : List ℕ) (a b : ProgramParts) (input : List ℕ) (arguments : List (List ℕ)) (limits : Limits) (turns : ℕ) → Types text a → Types text b
    → run_of a.classes a.bodies a.main input arguments limits turns ≡ run_of b.classes b.bodies b.main input arguments limits turns

-- A text that is refused has none.
abbrev pub RefusedHasNone : Type 0
RefusedHasNone = (text : List ℕ) (why : Kind) (place : Span) (program : ProgramParts) → Refuses text why place → Types text program → ⊥
