-- A quote closes a body without a bare quote, and what is closed is such a body.
use Rattle.std.proofs.Common.{◌≡◌, ℕ, suc, ◌+◌, Bool, true, false, nat_eq, List, [], ◌∷◌, ◌++◌, length, Some, None, inl, inr, cond, ◌⊎◌, refl, sym, ap, ◌∙◌, arith}
use Rattle.std.proofs.lemmas.Bool.{cases_Bool, eq-eqb, eqb-true}
use Rattle.std.proofs.lemmas.Option.{none-some}
use Rattle.cc_tree.specs.Quotes.{Body, empty, plain, escape, closing}
use Rattle.cc_tree.specs.Pieces.{is_quote}
use Rattle.cc_lexer.specs.Laws.{IsClosedAt}

closes_from : (q : ℕ) (body rest : List ℕ) (at : ℕ) → nat_eq q 10 ≡ false → nat_eq 92 q ≡ false → Body q body → closing q false at (body ++ q ∷ rest) ≡ Some (at + length body)
closes_from q body rest at h w empty = rw (h, eq-eqb q q refl) (ap (λ n. Some n) (omega arith))
closes_from q body rest at h w (plain {b} {bytes} hq hb hl d) = rw (hl, hq, hb) (closes_from q bytes rest (at + 1) h w d ∙ ap (λ n. Some n) (omega arith))
closes_from q body rest at h w (escape {b} {bytes} hl d) = rw (w, hl) (closes_from q bytes rest (at + 1 + 1) h w d ∙ ap (λ n. Some n) (omega arith))

quote_is : (q : ℕ) → is_quote q ≡ true → (q ≡ 34) ⊎ (q ≡ 39)
quote_is q e = elim (cases_Bool (nat_eq q 34)) [ inl t ↦ inl (eqb-true q 34 t) | inr f ↦ inr (eqb-true q 39 (rw f at e)) ]

closes_quote : (q : ℕ) (body rest : List ℕ) → (q ≡ 34) ⊎ (q ≡ 39) → Body q body → closing q false 0 (body ++ q ∷ rest) ≡ Some (length body)
closes_quote q body rest (inl e) d = closes_from q body rest 0 (rw e refl) (rw e refl) d ∙ ap (λ n. Some n) (omega arith)
closes_quote q body rest (inr e) d = closes_from q body rest 0 (rw e refl) (rw e refl) d ∙ ap (λ n. Some n) (omega arith)

pub closes : (quote : ℕ) (body rest : List ℕ) → is_quote quote ≡ true → Body quote body → closing quote false 0 (body ++ quote ∷ rest) ≡ Some (length body)
closes quote body rest h d = closes_quote quote body rest (quote_is quote h) d

-- the body that is closed at n, where the first byte stands at `at`
abbrev ClosedFrom : (q : ℕ) → List ℕ → (at n : ℕ) → Type 0
ClosedFrom q bytes at n = (m : ℕ) × (n ≡ at + m) × IsClosedAt q bytes m

longer : (q b at n : ℕ) (bytes : List ℕ) → nat_eq b q ≡ false → nat_eq b 92 ≡ false → nat_eq b 10 ≡ false → ClosedFrom q bytes (at + 1) n → ClosedFrom q (b ∷ bytes) at n
longer q b at n bytes hq hb hl (m, e, c) = (suc m, omega (arith, e), record { body = plain hq hb hl c.body; closer = c.closer })

longer_escape : (q b at n : ℕ) (bytes : List ℕ) → nat_eq b 10 ≡ false → ClosedFrom q bytes (at + 1 + 1) n → ClosedFrom q (92 ∷ b ∷ bytes) at n
longer_escape q b at n bytes hl (m, e, c) = (suc (suc m), omega (arith, e), record { body = escape hl c.body; closer = c.closer })

pub chosen : {X : Type 0} (b : Bool) (x y z : X) → cond b x y ≡ z → ((b ≡ true) × (x ≡ z)) ⊎ ((b ≡ false) × (y ≡ z))
chosen true x y z e = inl (refl, e)
chosen false x y z e = inr (refl, e)

pub some_same : {m n : ℕ} → Some m ≡ Some n → m ≡ n
some_same e = ap (λ o. elim o [ None ↦ 0 | Some x ↦ x ]) e

mutual
  closed_from : (q : ℕ) (bytes : List ℕ) (at n : ℕ) → closing q false at bytes ≡ Some n → ClosedFrom q bytes at n
  closed_from q [] at n e = absurd (none-some _ e)
  closed_from q (b ∷ bytes) at n e =
      elim (chosen (nat_eq b 10) None (cond (nat_eq b q) (Some at) (closing q (nat_eq b 92) (at + 1) bytes)) (Some n) e) [
        | inl w ↦ absurd (none-some _ w.1)
        | inr w ↦ elim (chosen (nat_eq b q) (Some at) (closing q (nat_eq b 92) (at + 1) bytes) (Some n) w.1) [
          | inl v ↦ (0, sym (some_same v.1) ∙ omega arith, record { body = empty; closer = ap (λ x. Some x) (eqb-true b q v.0) })
          | inr v ↦ elim (cases_Bool (nat_eq b 92)) [
            | inl t ↦ let x = rw t at v.1 in rw (eqb-true b 92 t) (escaped_from q bytes at n x)
            | inr f ↦ let x = rw f at v.1 in longer q b at n bytes v.0 f w.0 (closed_from q bytes (at + 1) n x)
          ]
        ]
      ]

  escaped_from : (q : ℕ) (bytes : List ℕ) (at n : ℕ) → closing q true (at + 1) bytes ≡ Some n → ClosedFrom q (92 ∷ bytes) at n
  escaped_from q [] at n e = absurd (none-some _ e)
  escaped_from q (b ∷ bytes) at n e =
      elim (chosen (nat_eq b 10) None (closing q false (at + 1 + 1) bytes) (Some n) e) [
        | inl w ↦ absurd (none-some _ w.1)
        | inr w ↦ longer_escape q b at n bytes w.0 (closed_from q bytes (at + 1 + 1) n w.1)
      ]

pub closed : (quote : ℕ) (bytes : List ℕ) (at : ℕ) → closing quote false 0 bytes ≡ Some at → IsClosedAt quote bytes at
closed quote bytes at e =
    let c = closed_from quote bytes 0 at e in
    rw c.1 (record { body = rw (zero_plus c.0) c.2.body; closer = rw (zero_plus c.0) c.2.closer })
  where
    zero_plus : (m : ℕ) → 0 + m ≡ m
    zero_plus m = omega arith
