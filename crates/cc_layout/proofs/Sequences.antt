-- A text of a code, and then a text that it allows.
use Rattle.std.proofs.Common.{◌≡◌, ℕ, suc, ◌+◌, List, [], ◌∷◌, ◌++◌, length, take, refl, sym, ap, subst, ◌∙◌, append_assoc, zero-add, arith}
use Rattle.std.proofs.lemmas.List.{length-append, append-nil}
use Rattle.cc_layout.specs.Codes.{IsBad, IsCode, Then}
use Rattle.cc_layout.proofs.Codes.{no_front}

take_past : (a rest : List ℕ) (n : ℕ) → take (length a + n) (a ++ rest) ≡ a ++ take n rest
take_past [] rest n = rw zero-add refl
take_past (x ∷ a) rest n = let k : suc (length a) + n ≡ suc (length a + n) = omega arith in rw k (ap (λ (t : List ℕ). x ∷ t) (take_past a rest n))

-- what goes wrong in the first part
pub bad_before : (P : List ℕ → Type 0) (Q : List ℕ → List ℕ → Type 0) (code : IsCode P) (goes_on : (a : List ℕ) → P a → (b : List ℕ) × Q a b) (bytes : List ℕ) (n : ℕ) → IsBad P bytes n → IsBad (Then P Q) bytes n
bad_before P Q code goes_on bytes n bad =
    let text = take n bytes ++ bad.front.0 in
    let after = goes_on text bad.front.2 in
    let pos = bad.front.1 in
    record {
      within = bad.within;
      front = (bad.front.0 ++ after.0, omega (arith, length-append bad.front.0 after.0), (text, after.0, bad.front.2, after.1, sym (append_assoc (take n bytes) bad.front.0 after.0)));
      first = λ lt more p. no_front P code bytes n bad p.0 p.1 more p.2 lt (sym p.4);
    }

-- what goes wrong in the second part
pub bad_after : (P : List ℕ → Type 0) (Q : List ℕ → List ℕ → Type 0) (code : IsCode P) (a rest bytes : List ℕ) (n : ℕ) → P a → bytes ≡ a ++ rest → IsBad (Q a) rest n → IsBad (Then P Q) bytes (length a + n)
bad_after P Q code a rest bytes n pa e bad =
    let len = ap length e in
    let within = bad.within in
    record {
      within = omega (arith, length-append a rest, len);
      front = (
        bad.front.0,
        bad.front.1,
        (
          a,
          take n rest ++ bad.front.0,
          pa,
          bad.front.2,
          ap (λ (t : List ℕ). take (length a + n) t ++ bad.front.0) e ∙ ap (λ (t : List ℕ). t ++ bad.front.0) (take_past a rest n) ∙ append_assoc a (take n rest) bad.front.0,
        ),
      );
      first = λ lt more p.
          let k : (length a + n) + 1 ≡ length a + (n + 1) = omega arith in
          let f : a ++ (take (n + 1) rest ++ more) ≡ p.0 ++ p.1 = sym (append_assoc a (take (n + 1) rest) more) ∙ ap (λ (t : List ℕ). t ++ more) (sym (take_past a rest (n + 1))) ∙ ap (λ (j : ℕ). take j (a ++ rest) ++ more) (sym k) ∙ ap (λ (t : List ℕ). take ((length a + n) + 1) t ++ more) (sym e) ∙ p.4 in
          let same = code a p.0 (take (n + 1) rest ++ more) p.1 pa p.2 f in
          let q : Q a (take (n + 1) rest ++ more) = subst (λ (x : List ℕ). Q x (take (n + 1) rest ++ more)) (sym same.0) (subst (λ (x : List ℕ). Q p.0 x) (sym same.1) p.3) in
          bad.first (omega (arith, length-append a rest, len)) more q;
    }

-- bytes that go on behind a whole text of a code
pub bad_rest : (P : List ℕ → Type 0) (code : IsCode P) (a : List ℕ) (c : ℕ) (rest more : List ℕ) → P a → P ((a ++ c ∷ []) ++ more) → ⊥
bad_rest P code a c rest more pa h =
    let f = code a ((a ++ c ∷ []) ++ more) (c ∷ more) [] pa h (sym (append-nil _ ∙ append_assoc a (c ∷ []) more)) in
    let e = f.1 in absurd cc
