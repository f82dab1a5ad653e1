-- The tokens that are read so far, completed by what the rest gives, are a reading of the whole source.
use Rattle.std.proofs.Common.{◌≡◌, ℕ, ◌+◌, ◌<◌, ◌≤◌, Bool, true, false, List, [], ◌∷◌, ◌++◌, length, drop, inr, Option, Some, None, Ok, Err, refl, sym, subst, ap, length-append, arith}
use Rattle.std.proofs.lemmas.List.{append_assoc, append-nil}
use Rattle.cc_base.specs.declared.text.Span.{Span}
use Rattle.cc_tree.specs.declared.piece.Piece.{Piece}
use Rattle.cc_tree.specs.declared.piece.Piece.TheVariants as pieces
use Rattle.cc_tree.specs.declared.token.Token.{Token}
use Rattle.cc_tree.specs.declared.token.TokenKind.{TokenKind}
use Rattle.cc_tree.specs.Pieces.{piece}
use Rattle.cc_tree.specs.Refusals.{span, Refusal}
use Rattle.cc_tree.specs.Spelling.{Reading, Spells, ends, gap, token, refused, with_first, Makes, start_of, Spelled}
use Rattle.cc_lexer.specs.Faults.{Refuses, refusal_moved, refusal}
use Rattle.cc_lexer.specs.declared.fault.LexFault.{LexFault}

-- these tokens, then those of a reading
abbrev pub with_tokens : List Token → Reading → Reading
with_tokens tokens (Ok more) = Ok (tokens ++ more)
with_tokens tokens (Err refusal) = Err refusal

abbrev pub Reads : List ℕ → Reading → Type 0
Reads source reading = Spells true (start_of source) (drop (start_of source) source) reading

abbrev pub GoesOn : (source : List ℕ) → List Token → (line_start : Bool) → (at : ℕ) → (rest : List ℕ) → Type 0
GoesOn source tokens line_start at rest = (more : Reading) → Spells line_start at rest more → Reads source (with_tokens tokens more)

with_tokens-nil : (more : Reading) → more ≡ with_tokens [] more
with_tokens-nil (Ok tokens) = refl
with_tokens-nil (Err refusal) = refl

with_tokens-with_first : (tokens : List Token) (t : Token) (more : Reading) → with_tokens tokens (with_first t more) ≡ with_tokens (tokens ++ t ∷ []) more
with_tokens-with_first tokens t (Ok more) = ap (λ x. Ok x) (sym (append_assoc tokens (t ∷ []) more))
with_tokens-with_first tokens t (Err refusal) = refl

pub begun : (source rest : List ℕ) → rest ≡ drop (start_of source) source → GoesOn source [] true (start_of source) rest
begun source rest e = rw e (λ more d. subst (λ x. Reads source x) (with_tokens-nil more) d)

pub gap_read : (source : List ℕ) (tokens : List Token) (line_start next : Bool) (at n : ℕ) (rest rest' : List ℕ) → GoesOn source tokens line_start at rest → 0 < length rest
    → piece rest line_start ≡ pieces.Gap n next → rest' ≡ drop n rest → GoesOn source tokens next (at + n) rest'
gap_read source tokens line_start next at n rest rest' goes some e er = rw er (λ more d. goes more (gap some e d))

pub token_read : (source : List ℕ) (tokens tokens' : List Token) (line_start : Bool) (at n : ℕ) (kind : TokenKind) (place : Span) (q : Piece) (rest rest' : List ℕ)
    → GoesOn source tokens line_start at rest → 0 < length rest → q ≡ piece rest line_start → Makes q rest (Ok (kind, n)) → place ≡ span at (at + n)
    → tokens' ≡ tokens ++ (record { kind = kind; span = place }) ∷ [] → rest' ≡ drop n rest → GoesOn source tokens' false (at + n) rest'
token_read source tokens tokens' line_start at n kind place q rest rest' goes some eq made ep et er =
    rw (et, er, ep) (λ more d. subst (λ x. Reads source x) (with_tokens-with_first tokens _ more)
    (goes _ (token kind n some (subst (λ x. Makes x rest (Ok (kind, n))) eq made) d)))

refused_read : (source : List ℕ) (tokens : List Token) (line_start : Bool) (at : ℕ) (rest : List ℕ) (r s : Option Refusal) (q : Piece)
    → GoesOn source tokens line_start at rest → 0 < length rest → q ≡ piece rest line_start → Refuses r (Makes q rest) → s ≡ refusal_moved at r
    → length source ≤ 1048576 → Refuses s (Spelled source)
refused_read source tokens line_start at rest None s q goes some eq made es short = rw es tt
refused_read source tokens line_start at rest (Some r) s q goes some eq made es short =
    rw es (inr (short, goes _ (refused r some (subst (λ x. Makes x rest (Err r)) eq made))))

pub fault_read : (source : List ℕ) (tokens : List Token) (line_start : Bool) (at : ℕ) (rest : List ℕ) (f g : LexFault) (q : Piece)
    → GoesOn source tokens line_start at rest → 0 < length rest → q ≡ piece rest line_start → Refuses (refusal f) (Makes q rest) → refusal g ≡ refusal_moved at (refusal f)
    → length source ≤ 1048576 → Refuses (refusal g) (Spelled source)
fault_read source tokens line_start at rest f g q = refused_read source tokens line_start at rest (refusal f) (refusal g) q

pub ended : (source : List ℕ) (tokens : List Token) (line_start : Bool) (at : ℕ) (rest : List ℕ) → GoesOn source tokens line_start at rest → length rest ≤ 0
    → length source ≤ 1048576 → Spelled source (Ok tokens)
ended source tokens line_start at [] goes none short = inr (short, subst (λ x. Reads source (Ok x)) (append-nil tokens) (goes _ ends))
ended source tokens line_start at (b ∷ rest) goes none short = absurd (omega (arith, none))

-- a token more, of at least a byte
pub count_more : (tokens tokens' : List Token) (token : Token) (at n : ℕ) → length tokens ≤ at → tokens' ≡ tokens ++ token ∷ [] → 0 < n → length tokens' ≤ at + n
count_more tokens more new at n h e some = rw e (rw length-append (omega (arith, h, some)))
