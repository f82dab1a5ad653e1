-- Prefix codes: sets of texts of which none begins another, and where bytes first leave them.
use Rattle.std.proofs.Common.{◌≡◌, ℕ, zero, suc, ◌+◌, ◌<◌, List, [], ◌∷◌, ◌++◌, ◌⊎◌, inl, inr, length, take, drop, refl, sym, ap, subst, ◌∙◌, append_assoc, arith}
use Rattle.std.proofs.lemmas.List.{length-append, append-nil, take-append-drop, length-drop}
use Rattle.cc_layout.specs.Codes.{IsBad, IsCode}

cons_one : (a b : ℕ) (x y : List ℕ) → a ∷ x ≡ b ∷ y → (a ≡ b) × (x ≡ y)
cons_one a b x y e = (cc, cc)

cons_two : (a b : ℕ) (x y : List ℕ) → a ≡ b → x ≡ y → a ∷ x ≡ b ∷ y
cons_two a b x y e f = cc

pub split_two : (a b x y : List ℕ) → a ++ x ≡ b ++ y → ((z : List ℕ) × (a ≡ b ++ z) × (y ≡ z ++ x)) ⊎ ((z : List ℕ) × (b ≡ a ++ z) × (x ≡ z ++ y))
split_two [] b x y e = inr (b, refl, e)
split_two (c ∷ a) [] x y e = inl (c ∷ a, refl, sym e)
split_two (c ∷ a) (d ∷ b) x y e =
    let p = cons_one c d (a ++ x) (b ++ y) e in
    elim (split_two a b x y p.1) [
      | inl q ↦ inl (q.0, cons_two c d a (b ++ q.0) p.0 q.1, q.2)
      | inr q ↦ inr (q.0, cons_two d c b (a ++ q.0) (sym p.0) q.1, q.2)
    ]

take_one : (n c : ℕ) (rest w : List ℕ) → drop n rest ≡ c ∷ w → take (n + 1) rest ≡ take n rest ++ c ∷ []
take_one zero c [] w e = absurd cc
take_one zero c (d ∷ rest) w e = let p = cons_one d c rest w e in ap (λ (x : ℕ). x ∷ []) p.0
take_one (suc n) c [] w e = absurd cc
take_one (suc n) c (d ∷ rest) w e = let k : suc n + 1 ≡ suc (n + 1) = omega arith in rw k (ap (λ (x : List ℕ). d ∷ x) (take_one n c rest w e))

not_nil : (z more : List ℕ) → 0 < length more → z ++ more ≡ [] → ⊥
not_nil z more h e = let p = ap length e in omega (arith, length-append z more, p)

longer : (P : List ℕ → Type 0) (code : IsCode P) (rest : List ℕ) (n : ℕ) (bad : IsBad P rest n) (a z tail : List ℕ) → P a → a ≡ take n rest ++ z → drop n rest ≡ z ++ tail → ⊥
longer P code rest n bad a [] tail pa e f =
    let is : a ≡ take n rest = e ∙ append-nil (take n rest) in
    let g = code a (take n rest ++ bad.front.0) bad.front.0 [] pa bad.front.2 (ap (λ (x : List ℕ). x ++ bad.front.0) is ∙ sym (append-nil (take n rest ++ bad.front.0))) in
    not_nil [] bad.front.0 bad.front.1 g.1
longer P code rest n bad a (c ∷ z) tail pa e f =
    let one = take_one n c rest (z ++ tail) f in
    let lt : n < length rest = omega (arith, ap length f, length-drop n rest) in
    let is : a ≡ take (n + 1) rest ++ z = e ∙ sym (append_assoc (take n rest) (c ∷ []) z) ∙ ap (λ (x : List ℕ). x ++ z) (sym one) in
    bad.first lt z (subst P is pa)

-- no text of the code stands whole at the front
pub no_whole : (P : List ℕ → Type 0) (code : IsCode P) (rest : List ℕ) (n : ℕ) (bad : IsBad P rest n) (a tail : List ℕ) → P a → rest ≡ a ++ tail → ⊥
no_whole P code rest n bad a tail pa e =
    let halves : a ++ tail ≡ take n rest ++ drop n rest = sym e ∙ sym (take-append-drop n rest) in
    elim (split_two a (take n rest) tail (drop n rest) halves) [
      | inl q ↦ longer P code rest n bad a q.0 tail pa q.1 q.2
      | inr q ↦
          let whole : P ((a ++ q.0) ++ bad.front.0) = subst (λ (x : List ℕ). P (x ++ bad.front.0)) q.1 bad.front.2 in
          let f = code a ((a ++ q.0) ++ bad.front.0) (q.0 ++ bad.front.0) [] pa whole (sym (append-nil _ ∙ append_assoc a q.0 bad.front.0)) in
          not_nil q.0 bad.front.0 bad.front.1 f.1
    ]

-- no text of the code goes on from one byte more
pub no_front : (P : List ℕ → Type 0) (code : IsCode P) (rest : List ℕ) (n : ℕ) (bad : IsBad P rest n) (a x more : List ℕ) → P a → n < length rest → a ++ x ≡ take (n + 1) rest ++ more → ⊥
no_front P code rest n bad a x more pa lt e =
    elim (split_two a (take (n + 1) rest) x more e) [
      | inl q ↦ bad.first lt q.0 (subst P q.1 pa)
      | inr q ↦ no_whole P code rest n bad a (q.0 ++ drop (n + 1) rest) pa
          (sym (take-append-drop (n + 1) rest) ∙ ap (λ (y : List ℕ). y ++ drop (n + 1) rest) q.1 ∙ append_assoc a q.0 (drop (n + 1) rest))
    ]
