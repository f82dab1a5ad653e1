-- A source has one reading.
use Rattle.std.proofs.Common.{◌≡◌, ℕ, ◌+◌, ◌<◌, Bool, true, false, List, length, drop, inl, inr, Option, Some, None, Result, Ok, Err, refl, sym, subst, ap, ◌∙◌, arith}
use Rattle.cc_tree.specs.declared.piece.Piece.{Piece}
use Rattle.cc_tree.specs.declared.piece.Piece.TheVariants as pieces
use Rattle.cc_tree.specs.declared.token.Token.{Token}
use Rattle.cc_tree.specs.Pieces.{piece}
use Rattle.cc_tree.specs.Refusals.{Refusal, moved}
use Rattle.cc_tree.specs.Spelling.{Reading, Spells, ends, gap, token, refused, with_first, Made, Makes, token_at, body, literal, character, start_of, Spelled}
use Rattle.cc_lexer.specs.Faults.{Refuses, Answers, refusal}
use Rattle.cc_lexer.specs.declared.fault.LexFault.{LexFault}
use Rattle.cc_lexer.proofs.Decoding.{decodes_once}

makes_once : (q : Piece) (bytes : List ℕ) (a b : Made) → Makes q bytes a → Makes q bytes b → a ≡ b
makes_once (pieces.Gap n next) bytes a b g h = absurd g
makes_once (pieces.Word n) bytes a b g h = g ∙ sym h
makes_once (pieces.Number value suffix radix n) bytes a b g h = g ∙ sym h
makes_once (pieces.Sign number n) bytes a b g h = g ∙ sym h
makes_once (pieces.Literal start end) bytes a b (r, d, e) (r', d', e') = e ∙ ap (literal start end) (decodes_once 0 (body start end bytes) r r' d d') ∙ sym e'
makes_once (pieces.Character start end) bytes a b (r, d, e) (r', d', e') = e ∙ ap (character start end) (decodes_once 0 (body start end bytes) r r' d d') ∙ sym e'
makes_once (pieces.Refused why place) bytes a b g h = g ∙ sym h

abbrev GoesOn : Made → (at : ℕ) → List ℕ → Reading → Type 0
GoesOn (Ok made) at bytes reading =
    (more : Reading) × Spells false (at + made.1) (drop made.1 bytes) more × (reading ≡ with_first (token_at at made.1 made.0) more)
GoesOn (Err refusal) at bytes reading = reading ≡ Err (moved at refusal)

-- what the first piece says of a reading
abbrev Says : Piece → (at : ℕ) → List ℕ → Reading → Type 0
Says (pieces.Gap n next) at bytes reading = Spells next (at + n) (drop n bytes) reading
Says q at bytes reading = (made : Made) × Makes q bytes made × GoesOn made at bytes reading

made_says : (q : Piece) (made : Made) (at : ℕ) (bytes : List ℕ) (reading : Reading) → Makes q bytes made → GoesOn made at bytes reading → Says q at bytes reading
made_says (pieces.Gap n next) made at bytes reading h g = absurd h
made_says (pieces.Word n) made at bytes reading h g = (made, h, g)
made_says (pieces.Number value suffix radix n) made at bytes reading h g = (made, h, g)
made_says (pieces.Sign number n) made at bytes reading h g = (made, h, g)
made_says (pieces.Literal start end) made at bytes reading h g = (made, h, g)
made_says (pieces.Character start end) made at bytes reading h g = (made, h, g)
made_says (pieces.Refused why place) made at bytes reading h g = (made, h, g)

made_again : (q : Piece) (made : Made) (at : ℕ) (bytes : List ℕ) (reading : Reading) → Makes q bytes made
    → (m : Made) × Makes q bytes m × GoesOn m at bytes reading → GoesOn made at bytes reading
made_again q made at bytes reading h (m, h', g) = subst (λ x. GoesOn x at bytes reading) (makes_once q bytes m made h' h) g

says_made : (q : Piece) (made : Made) (at : ℕ) (bytes : List ℕ) (reading : Reading) → Makes q bytes made → Says q at bytes reading → GoesOn made at bytes reading
says_made (pieces.Gap n next) made at bytes reading h s = absurd h
says_made (pieces.Word n) made at bytes reading h s = made_again (pieces.Word n) made at bytes reading h s
says_made (pieces.Number value suffix radix n) made at bytes reading h s = made_again (pieces.Number value suffix radix n) made at bytes reading h s
says_made (pieces.Sign number n) made at bytes reading h s = made_again (pieces.Sign number n) made at bytes reading h s
says_made (pieces.Literal start end) made at bytes reading h s = made_again (pieces.Literal start end) made at bytes reading h s
says_made (pieces.Character start end) made at bytes reading h s = made_again (pieces.Character start end) made at bytes reading h s
says_made (pieces.Refused why place) made at bytes reading h s = made_again (pieces.Refused why place) made at bytes reading h s

says : (line_start : Bool) (at : ℕ) (bytes : List ℕ) (reading : Reading) → 0 < length bytes → Spells line_start at bytes reading → Says (piece bytes line_start) at bytes reading
says line_start at bytes reading some ends = absurd (omega (arith, some))
says line_start at bytes reading some (gap s e d) = subst (λ q. Says q at bytes reading) (sym e) d
says line_start at bytes reading some (token kind n s m d) = made_says (piece bytes line_start) (Ok (kind, n)) at bytes _ m (_, d, refl)
says line_start at bytes reading some (refused r s m) = made_says (piece bytes line_start) (Err r) at bytes _ m refl

spells_once : (line_start : Bool) (at : ℕ) (bytes : List ℕ) (a b : Reading) → Spells line_start at bytes a → Spells line_start at bytes b → a ≡ b
spells_once line_start at bytes a b ends ends = refl
spells_once line_start at bytes a b ends (gap s e d) = absurd (omega (arith, s))
spells_once line_start at bytes a b ends (token kind n s m d) = absurd (omega (arith, s))
spells_once line_start at bytes a b ends (refused r s m) = absurd (omega (arith, s))
spells_once line_start at bytes a b (gap {next} {n} s e d) q =
    spells_once next (at + n) (drop n bytes) a b d (subst (λ x. Says x at bytes b) e (says line_start at bytes b s q))
spells_once line_start at bytes a b (token kind n s m d) q =
    let said = says_made (piece bytes line_start) (Ok (kind, n)) at bytes b m (says line_start at bytes b s q) in
    ap (with_first (token_at at n kind)) (spells_once false (at + n) (drop n bytes) _ said.0 d said.1) ∙ sym said.2
spells_once line_start at bytes a b (refused r s m) q = sym (says_made (piece bytes line_start) (Err r) at bytes b m (says line_start at bytes b s q))

pub spelled_once : (source : List ℕ) (a b : Reading) → Spelled source a → Spelled source b → a ≡ b
spelled_once source a b (inl (l, e)) (inl (l', e')) = e ∙ sym e'
spelled_once source a b (inl (l, e)) (inr (s, d)) = absurd (omega (arith, l, s))
spelled_once source a b (inr (s, d)) (inl (l, e)) = absurd (omega (arith, l, s))
spelled_once source a b (inr (s, d)) (inr (s', d')) = spells_once true (start_of source) (drop (start_of source) source) a b d d'

refused_once : (source : List ℕ) (r : Option Refusal) (reading : Reading) → Refuses r (Spelled source) → Spelled source reading → Refuses r (λ answer. answer ≡ reading)
refused_once source None reading h d = tt
refused_once source (Some r) reading h d = spelled_once source (Err r) reading h d

-- what came is whatever the source spells
pub only : (source : List ℕ) (result : Result (List Token) LexFault) (reading : Reading) → Answers result (Spelled source) → Spelled source reading
    → Answers result (λ answer. answer ≡ reading)
only source (Ok tokens) reading h d = spelled_once source (Ok tokens) reading h d
only source (Err fault) reading h d = refused_once source (refusal fault) reading h d
