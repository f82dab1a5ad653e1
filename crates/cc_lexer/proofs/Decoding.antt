-- The units that are read so far, completed by what the rest gives, are a reading of the whole body; and a body has one
-- reading.
use Rattle.std.proofs.Common.{◌≡◌, ℕ, ◌+◌, ◌<◌, ◌≤◌, List, [], ◌∷◌, ◌++◌, length, drop, Ok, Err, refl, sym, subst, ap, ◌∙◌, arith}
use Rattle.std.proofs.lemmas.List.{append_assoc, append-nil}
use Rattle.cc_base.specs.declared.kind.Kind.TheVariants as kind
use Rattle.cc_tree.specs.declared.piece.Element.{Element}
use Rattle.cc_tree.specs.declared.piece.Element.TheVariants.{One, Pair, BadByte, BadEscape}
use Rattle.cc_tree.specs.Escapes.{element}
use Rattle.cc_tree.specs.Quotes.{Units, Decodes, ends, unit, pair, bad_byte, bad_escape, with_front}
use Rattle.cc_tree.specs.Refusals.{span}

abbrev pub GoesOn : (body units : List ℕ) (at : ℕ) (rest : List ℕ) → Type 0
GoesOn body units at rest = (more : Units) → Decodes at rest more → Decodes 0 body (with_front units more)

with_front-nil : (more : Units) → more ≡ with_front [] more
with_front-nil (Ok units) = refl
with_front-nil (Err refusal) = refl

with_front-with_front : (front next : List ℕ) (more : Units) → with_front front (with_front next more) ≡ with_front (front ++ next) more
with_front-with_front front next (Ok units) = ap (λ x. Ok x) (sym (append_assoc front next units))
with_front-with_front front next (Err refusal) = refl

pub begun : (body : List ℕ) → GoesOn body [] 0 body
begun body = λ more d. subst (λ x. Decodes 0 body x) (with_front-nil more) d

pub unit_read : (body units rest units' rest' : List ℕ) (at u n : ℕ) → GoesOn body units at rest → 0 < length rest → element rest ≡ One u n
    → units' ≡ units ++ u ∷ [] → rest' ≡ drop n rest → GoesOn body units' (at + n) rest'
unit_read body units rest units' rest' at u n goes some e eu er =
    rw (eu, er) (λ more d. subst (λ x. Decodes 0 body x) (with_front-with_front units (u ∷ []) more) (goes _ (unit some e d)))

pub pair_read : (body units rest units' rest' : List ℕ) (at u v n : ℕ) → GoesOn body units at rest → 0 < length rest → element rest ≡ Pair u v n
    → units' ≡ units ++ u ∷ v ∷ [] → rest' ≡ drop n rest → GoesOn body units' (at + n) rest'
pair_read body units rest units' rest' at u v n goes some e eu er =
    rw (eu, er) (λ more d. subst (λ x. Decodes 0 body x) (with_front-with_front units (u ∷ v ∷ []) more) (goes _ (pair some e d)))

pub ended : (body units rest : List ℕ) (at : ℕ) → GoesOn body units at rest → length rest ≤ 0 → Decodes 0 body (Ok units)
ended body units [] at goes none = subst (λ x. Decodes 0 body (Ok x)) (append-nil units) (goes _ ends)
ended body units (b ∷ rest) at goes none = absurd (omega (arith, none))

pub bad_byte_read : (body units rest : List ℕ) (at : ℕ) → GoesOn body units at rest → 0 < length rest → element rest ≡ BadByte
    → Decodes 0 body (Err (kind.BadByte, span at (at + 1)))
bad_byte_read body units rest at goes some e = goes _ (bad_byte some e)

pub bad_escape_read : (body units rest : List ℕ) (at n : ℕ) → GoesOn body units at rest → 0 < length rest → element rest ≡ BadEscape n
    → Decodes 0 body (Err (kind.BadLiteral, span at (at + n)))
bad_escape_read body units rest at n goes some e = goes _ (bad_escape some e)

-- what the first element says of a reading
abbrev Says : Element → (at : ℕ) → List ℕ → Units → Type 0
Says (One u n) at bytes units = (more : Units) × Decodes (at + n) (drop n bytes) more × (units ≡ with_front (u ∷ []) more)
Says (Pair u v n) at bytes units = (more : Units) × Decodes (at + n) (drop n bytes) more × (units ≡ with_front (u ∷ v ∷ []) more)
Says BadByte at bytes units = units ≡ Err (kind.BadByte, span at (at + 1))
Says (BadEscape n) at bytes units = units ≡ Err (kind.BadLiteral, span at (at + n))

says : (at : ℕ) (bytes : List ℕ) (units : Units) → 0 < length bytes → Decodes at bytes units → Says (element bytes) at bytes units
says at bytes units some ends = absurd (omega (arith, some))
says at bytes units some (unit s e d) = rw e (_, d, refl)
says at bytes units some (pair s e d) = rw e (_, d, refl)
says at bytes units some (bad_byte s e) = rw e refl
says at bytes units some (bad_escape s e) = rw e refl

pub decodes_once : (at : ℕ) (bytes : List ℕ) (a b : Units) → Decodes at bytes a → Decodes at bytes b → a ≡ b
decodes_once at bytes a b ends ends = refl
decodes_once at bytes a b ends (unit s e d) = absurd (omega (arith, s))
decodes_once at bytes a b ends (pair s e d) = absurd (omega (arith, s))
decodes_once at bytes a b ends (bad_byte s e) = absurd (omega (arith, s))
decodes_once at bytes a b ends (bad_escape s e) = absurd (omega (arith, s))
decodes_once at bytes a b (unit {unit = u} {n} s e d) q =
    let said = subst (λ x. Says x at bytes b) e (says at bytes b s q) in
    ap (λ r. with_front (u ∷ []) r) (decodes_once (at + n) (drop n bytes) _ said.0 d said.1) ∙ sym said.2
decodes_once at bytes a b (pair {high = u} {low = v} {n} s e d) q =
    let said = subst (λ x. Says x at bytes b) e (says at bytes b s q) in
    ap (λ r. with_front (u ∷ v ∷ []) r) (decodes_once (at + n) (drop n bytes) _ said.0 d said.1) ∙ sym said.2
decodes_once at bytes a b (bad_byte s e) q = sym (subst (λ x. Says x at bytes b) e (says at bytes b s q))
decodes_once at bytes a b (bad_escape s e) q = sym (subst (λ x. Says x at bytes b) e (says at bytes b s q))
