-- The sign that is taken is the longest of the table that begins the bytes.
use Rattle.std.proofs.Common.{◌≡◌, ℕ, zero, suc, ◌<◌, ◌≤◌, Bool, true, false, ◌&&◌, nat_eq, nat_le, List, [], ◌∷◌, length, take, slice_index_or, slice_get, get_or, is_some, Option, Some, None, inl, inr, ◌⊎◌, refl, sym, subst, ap, ◌∙◌, le_refl, arith}
use Rattle.std.specs.Prelude.{Contains}
use Rattle.std.specs.List.{starts_with, list_all}
use Rattle.std.specs.Cmp.Lexicographic.{same_text}
use Rattle.std.proofs.lemmas.Bool.{and_parts, false≢true, leb-true}
use Rattle.std.proofs.lemmas.List.{length-take, take_min}
use Rattle.std.proofs.lemmas.Option.{slice_get-get_or}
use Rattle.std.proofs.lemmas.List.Quantifiers.{position-Some}
use Rattle.std.specs.Str.{bytes_eq}
use Rattle.cc_tree.specs.declared.piece.Piece.{Piece}
use Rattle.cc_tree.specs.declared.piece.Piece.TheVariants.{Sign}
use Rattle.cc_tree.specs.Signs.{signs, sign_number}
use Rattle.cc_tree.specs.Pieces.{sign, signed}
use Rattle.cc_lexer.specs.Laws.{IsSignOfAtLeast}

-- a sign of the table: one to three bytes that have a number
abbrev is_known : List ℕ → Bool
is_known spelling = nat_le 1 (length spelling) && (nat_le (length spelling) 3 && is_some (sign_number spelling))

all_known : list_all is_known signs ≡ true
all_known = refl

all_at : (test : List ℕ → Bool) (xs : List (List ℕ)) (k : ℕ) (d : List ℕ) → list_all test xs ≡ true → k < length xs → test (slice_index_or xs k d) ≡ true
all_at test [] k d e h = absurd (omega (arith, h))
all_at test (x ∷ xs) zero d e h = (and_parts (test x) (list_all test xs) e).0
all_at test (x ∷ xs) (suc k) d e h = all_at test xs k d (and_parts (test x) (list_all test xs) e).1 (omega (arith, h))

known : (spelling : List ℕ) → Contains signs spelling → is_known spelling ≡ true
known spelling (k, h, e) = subst (λ s. is_known s ≡ true) e (all_at is_known signs k spelling all_known h)

-- the sign of these bytes is taken where no longer front is a sign
taken : (front : List ℕ) (number : Option ℕ) (other : Piece) → is_some number ≡ true → IsSignOfAtLeast (length front) (signed front number other)
taken front None other e = absurd (false≢true e)
taken front (Some n) other e = (n, length front, refl, le_refl _)

-- a longer front that is a sign is taken in its place
longer : (least : ℕ) (front : List ℕ) (number : Option ℕ) (other : Piece) → least ≤ length front → IsSignOfAtLeast least other → IsSignOfAtLeast least (signed front number other)
longer least front None other h other_taken = other_taken
longer least front (Some n) other h other_taken = (n, length front, refl, h)

length-take-mono : (m n : ℕ) (bytes : List ℕ) → m ≤ n → length (take m bytes) ≤ length (take n bytes)
length-take-mono m n bytes h = omega (arith, length-take m bytes, length-take n bytes, h)

by_length : (n : ℕ) (bytes : List ℕ) → 1 ≤ n → n ≤ 3 → is_some (sign_number (take n bytes)) ≡ true → IsSignOfAtLeast (length (take n bytes)) (sign bytes)
unfolding sign
by_length zero bytes least most e = absurd (omega (arith, least))
by_length (suc zero) bytes least most e =
    longer _ (take 3 bytes) (sign_number (take 3 bytes)) _ (length-take-mono 1 3 bytes (omega arith))
    (longer _ (take 2 bytes) (sign_number (take 2 bytes)) _ (length-take-mono 1 2 bytes (omega arith)) (taken (take 1 bytes) (sign_number (take 1 bytes)) _ e))
by_length (suc (suc zero)) bytes least most e =
    longer _ (take 3 bytes) (sign_number (take 3 bytes)) _ (length-take-mono 2 3 bytes (omega arith)) (taken (take 2 bytes) (sign_number (take 2 bytes)) _ e)
by_length (suc (suc (suc zero))) bytes least most e = taken (take 3 bytes) (sign_number (take 3 bytes)) _ e
by_length (suc (suc (suc (suc n)))) bytes least most e = absurd (omega (arith, most))

pub longest : (bytes spelling : List ℕ) → Contains signs spelling → starts_with nat_eq bytes spelling ≡ true → IsSignOfAtLeast (length spelling) (sign bytes)
longest bytes spelling c e =
    let k = and_parts (nat_le 1 (length spelling)) (nat_le (length spelling) 3 && is_some (sign_number spelling)) (known spelling c) in
    let l = and_parts (nat_le (length spelling) 3) (is_some (sign_number spelling)) k.1 in
    let same = same_text spelling (take (length spelling) bytes) (sym e) in
    subst (λ n. IsSignOfAtLeast n (sign bytes)) (ap (λ s. length s) (sym same))
    (by_length (length spelling) bytes (leb-true 1 (length spelling) k.0) (leb-true (length spelling) 3 l.0) (subst (λ s. is_some (sign_number s) ≡ true) same l.1))

-- the table has these bytes under their number
numbered : (front : List ℕ) (number : ℕ) → sign_number front ≡ Some number → slice_get signs number ≡ Some front
numbered front number e =
    let found = position-Some (λ s. bytes_eq s front) signs number front e in
    slice_get-get_or signs number front found.0 ∙ ap (λ s. Some s) (same_text (get_or signs number front) front (sym found.1))

number_of : Piece → ℕ
number_of (Sign number len) = number
number_of other = 0

length_of : Piece → ℕ
length_of (Sign number len) = len
length_of other = 0

is_sign : Piece → Bool
is_sign (Sign number len) = true
is_sign other = false

-- the front is taken, or the other piece
front_or_other : (front : List ℕ) (found : Option ℕ) (other : Piece) (number len : ℕ) → signed front found other ≡ Sign number len
    → ((found ≡ Some number) × (len ≡ length front)) ⊎ (other ≡ Sign number len)
unfolding number_of length_of
front_or_other front None other number len e = inr e
front_or_other front (Some n) other number len e = inl (ap (λ p. Some (number_of p)) e, sym (ap length_of e))

take_again : (n : ℕ) (bytes : List ℕ) (len : ℕ) → len ≡ length (take n bytes) → take n bytes ≡ take len bytes
take_again n bytes len e = sym (take_min n bytes) ∙ ap (λ k. take k bytes) (sym (e ∙ length-take n bytes))

front_taken : (n : ℕ) (bytes : List ℕ) (number len : ℕ) → sign_number (take n bytes) ≡ Some number → len ≡ length (take n bytes) → slice_get signs number ≡ Some (take len bytes)
front_taken n bytes number len e l = numbered (take n bytes) number e ∙ ap (λ s. Some s) (take_again n bytes len l)

pub is_taken : (bytes : List ℕ) (number len : ℕ) → sign bytes ≡ Sign number len → slice_get signs number ≡ Some (take len bytes)
unfolding sign is_sign
is_taken bytes number len e =
    elim (front_or_other (take 3 bytes) (sign_number (take 3 bytes)) _ number len e) [
      | inl w ↦ front_taken 3 bytes number len w.0 w.1
      | inr e2 ↦ elim (front_or_other (take 2 bytes) (sign_number (take 2 bytes)) _ number len e2) [
        | inl w ↦ front_taken 2 bytes number len w.0 w.1
        | inr e1 ↦ elim (front_or_other (take 1 bytes) (sign_number (take 1 bytes)) _ number len e1) [
          | inl w ↦ front_taken 1 bytes number len w.0 w.1
          | inr e0 ↦ absurd (false≢true (ap is_sign e0))
        ]
      ]
    ]
