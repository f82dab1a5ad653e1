-- What a fault says of a source.
use Rattle.std.specs.Prelude.{◌≡◌, ◌≤◌, ℕ, Option, Some, None, Result, Ok, Err}
use Rattle.cc_base.specs.declared.kind.Kind.{Kind}
use Rattle.cc_base.specs.declared.kind.Kind.TheVariants as kind
use Rattle.cc_tree.specs.Refusals.{Refusal, moved}
use Rattle.cc_lexer.specs.declared.fault.LexFault.{LexFault}
use Rattle.cc_lexer.specs.declared.fault.LexFault.TheVariants as fault

-- the kind and the place of a refusal, `None` for want of memory
abbrev pub refusal : LexFault → Option Refusal
refusal (fault.BadByte place) = Some (kind.BadByte, place)
refusal (fault.BadLiteral place) = Some (kind.BadLiteral, place)
refusal (fault.UnclosedComment place) = Some (kind.UnclosedComment, place)
refusal (fault.UnclosedText place) = Some (kind.UnclosedText, place)
refusal (fault.NumberTooWide place) = Some (kind.NumberTooWide, place)
refusal (fault.Directive place) = Some (kind.Directive, place)
refusal (fault.SourceTooLong place) = Some (kind.SourceTooLong, place)
refusal fault.Memory = None

-- The answer is in the relation, unless it is want of memory.
abbrev pub Refuses : {X : Type 0} → Option Refusal → (Result X Refusal → Type 0) → Type 0
Refuses None relation = Unit {0}
Refuses (Some refusal) relation = relation (Err refusal)

abbrev pub Answers : {X : Type 0} → Result X LexFault → (Result X Refusal → Type 0) → Type 0
Answers (Ok x) relation = relation (Ok x)
Answers (Err fault) relation = Refuses (refusal fault) relation

-- whatever is in the relation is the answer, unless that is want of memory
abbrev pub AnswersOnly : {X : Type 0} → Result X LexFault → (Result X Refusal → Type 0) → Type 0
AnswersOnly {X} result relation = (x : Result X Refusal) → relation x → Answers result (λ answer. answer ≡ x)

abbrev pub refusal_moved : (at : ℕ) → Option Refusal → Option Refusal
refusal_moved at None = None
refusal_moved at (Some refusal) = Some (moved at refusal)

-- the place lies in the first n bytes
abbrev pub IsPlaceWithin : (n : ℕ) → Option Refusal → Type 0
IsPlaceWithin n None = Unit {0}
IsPlaceWithin n (Some refusal) = (refusal.1.first ≤ n) × (refusal.1.past ≤ n)

-- a kind for which a piece is refused
abbrev pub IsLexical : Kind → Type 0
IsLexical kind.BadByte = Unit {0}
IsLexical kind.BadLiteral = Unit {0}
IsLexical kind.UnclosedComment = Unit {0}
IsLexical kind.UnclosedText = Unit {0}
IsLexical kind.NumberTooWide = Unit {0}
IsLexical kind.Directive = Unit {0}
IsLexical other = ⊥
