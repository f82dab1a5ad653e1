-- The first rule that is broken, by tests in the order of the rules.
use Rattle.std.proofs.Common.{◌≡◌, ℕ, refl, sym, subst}
use Rattle.std.specs.Prelude.{Bool, true, false, Option, Some, None, if◌then◌else◌}
use Rattle.std.proofs.lemmas.Bool.{false≢true}
use Rattle.std.proofs.lemmas.Option.{same_Some}
use Rattle.cc_verify.specs.Rules.{Before, IsFirst}

abbrev early_of : Bool → Bool → Bool → Option ℕ
early_of b0 b1 b2 = if b0 then (if b1 then (if b2 then None else Some 2) else Some 1) else Some 0

pub early_first : (K : ℕ → Type 0) (b0 b1 b2 : Bool) → (b0 ≡ true → K 0) → (K 0 → b0 ≡ true) → (b1 ≡ true → K 1) → (K 1 → b1 ≡ true) → (K 2 → b2 ≡ true)
    → (n : ℕ) → early_of b0 b1 b2 ≡ Some n → IsFirst K n
early_first K false b1 b2 t0 f0 t1 f1 f2 n e = subst (λ k. IsFirst K k) (same_Some 0 n e) (record { before = tt; broken = λ k. false≢true (f0 k) })
early_first K true false b2 t0 f0 t1 f1 f2 n e = subst (λ k. IsFirst K k) (same_Some 1 n e) (record { before = (tt, t0 refl); broken = λ k. false≢true (f1 k) })
early_first K true true false t0 f0 t1 f1 f2 n e = subst (λ k. IsFirst K k) (same_Some 2 n e) (record { before = ((tt, t0 refl), t1 refl); broken = λ k. false≢true (f2 k) })
early_first K true true true t0 f0 t1 f1 f2 n e = let bad : None ≡ Some n = e in cc

pub early_none : (K : ℕ → Type 0) (b0 b1 b2 : Bool) → (b0 ≡ true → K 0) → (b1 ≡ true → K 1) → (b2 ≡ true → K 2) → early_of b0 b1 b2 ≡ None → Before K 3
early_none K false b1 b2 t0 t1 t2 e = let bad : Some 0 ≡ None = e in cc
early_none K true false b2 t0 t1 t2 e = let bad : Some 1 ≡ None = e in cc
early_none K true true false t0 t1 t2 e = let bad : Some 2 ≡ None = e in cc
early_none K true true true t0 t1 t2 e = (((tt, t0 refl), t1 refl), t2 refl)

abbrev late_of : Bool → Bool → Bool → Bool → Option ℕ
late_of b5 b7 b8 b11 = if b5 then Some 5 else (if b7 then (if b8 then (if b11 then None else Some 11) else Some 8) else Some 7)

pub late_first : (K : ℕ → Type 0) (b5 b7 b8 b11 : Bool) → Before K 5 → (b5 ≡ false → K 5) → (K 5 → b5 ≡ false) → K 6 → (b7 ≡ true → K 7) → (K 7 → b7 ≡ true) → (b8 ≡ true → K 8) → (K 8 → b8 ≡ true) → K 9 → K 10 → (K 11 → b11 ≡ true)
    → (n : ℕ) → late_of b5 b7 b8 b11 ≡ Some n → IsFirst K n
late_first K true b7 b8 b11 five t5 f5 k6 t7 f7 t8 f8 k9 k10 f11 n e = subst (λ k. IsFirst K k) (same_Some 5 n e) (record { before = five; broken = λ k. false≢true (sym (f5 k)) })
late_first K false false b8 b11 five t5 f5 k6 t7 f7 t8 f8 k9 k10 f11 n e = subst (λ k. IsFirst K k) (same_Some 7 n e) (record { before = ((five, t5 refl), k6); broken = λ k. false≢true (f7 k) })
late_first K false true false b11 five t5 f5 k6 t7 f7 t8 f8 k9 k10 f11 n e = subst (λ k. IsFirst K k) (same_Some 8 n e) (record { before = (((five, t5 refl), k6), t7 refl); broken = λ k. false≢true (f8 k) })
late_first K false true true false five t5 f5 k6 t7 f7 t8 f8 k9 k10 f11 n e =
    subst (λ k. IsFirst K k) (same_Some 11 n e) (record { before = ((((((five, t5 refl), k6), t7 refl), t8 refl), k9), k10); broken = λ k. false≢true (f11 k) })
late_first K false true true true five t5 f5 k6 t7 f7 t8 f8 k9 k10 f11 n e = let bad : None ≡ Some n = e in cc

pub late_none : (K : ℕ → Type 0) (b5 b7 b8 b11 : Bool) → Before K 5 → (b5 ≡ false → K 5) → K 6 → (b7 ≡ true → K 7) → (b8 ≡ true → K 8) → K 9 → K 10 → (b11 ≡ true → K 11) → K 12
    → late_of b5 b7 b8 b11 ≡ None → Before K 13
late_none K true b7 b8 b11 five t5 k6 t7 t8 k9 k10 t11 k12 e = let bad : Some 5 ≡ None = e in cc
late_none K false false b8 b11 five t5 k6 t7 t8 k9 k10 t11 k12 e = let bad : Some 7 ≡ None = e in cc
late_none K false true false b11 five t5 k6 t7 t8 k9 k10 t11 k12 e = let bad : Some 8 ≡ None = e in cc
late_none K false true true false five t5 k6 t7 t8 k9 k10 t11 k12 e = let bad : Some 11 ≡ None = e in cc
late_none K false true true true five t5 k6 t7 t8 k9 k10 t11 k12 e = ((((((((five, t5 refl), k6), t7 refl), t8 refl), k9), k10), t11 refl), k12)
