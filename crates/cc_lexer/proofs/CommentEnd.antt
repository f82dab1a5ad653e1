-- A comment ends behind the first `*/`.
use Rattle.std.proofs.Common.{◌≡◌, ℕ, zero, suc, ◌+◌, ◌<◌, true, false, nat_eq, List, [], ◌∷◌, drop, codes, Some, None, inl, inr, refl, sym, arith}
use Rattle.std.proofs.lemmas.Option.{none-some}
use Rattle.std.specs.List.{starts_with}
use Rattle.cc_tree.specs.Gaps.{comment_end}
use Rattle.cc_lexer.specs.Laws.{IsFirstEnd}
use Rattle.cc_lexer.proofs.ClosedBody.{chosen, some_same}

-- the end, where the first byte stands at `at`
abbrev EndsFrom : (at : ℕ) → List ℕ → (end : ℕ) → Type 0
EndsFrom at bytes end =
    (k : ℕ) × (at + k + 2 ≡ end) × (starts_with nat_eq (drop k bytes) (codes "*/") ≡ true)
    × ((j : ℕ) → j < k → starts_with nat_eq (drop j bytes) (codes "*/") ≡ false)

none_before : (b : ℕ) (bytes : List ℕ) (k : ℕ) → starts_with nat_eq (b ∷ bytes) (codes "*/") ≡ false → ((j : ℕ) → j < k → starts_with nat_eq (drop j bytes) (codes "*/") ≡ false)
    → (j : ℕ) → j < suc k → starts_with nat_eq (drop j (b ∷ bytes)) (codes "*/") ≡ false
none_before b bytes k f before zero h = f
none_before b bytes k f before (suc j) h = before j (omega (arith, h))

ends_from : (at : ℕ) (bytes : List ℕ) (end : ℕ) → comment_end at bytes ≡ Some end → EndsFrom at bytes end
ends_from at [] end e = absurd (none-some _ e)
ends_from at (b ∷ bytes) end e =
    elim (chosen (starts_with nat_eq (b ∷ bytes) (codes "*/")) (Some (at + 2)) (comment_end (at + 1) bytes) (Some end) e) [
      | inl w ↦ (0, omega (arith, some_same w.1), w.0, λ j h. absurd (omega (arith, h)))
      | inr w ↦
          let r = ends_from (at + 1) bytes end w.1 in
          (suc r.0, omega (arith, r.1), r.2, none_before b bytes r.0 w.0 r.3)
    ]

pub ends : (bytes : List ℕ) (end : ℕ) → comment_end 0 bytes ≡ Some end → IsFirstEnd bytes end
ends bytes end e =
    let r = ends_from 0 bytes end e in
    record { ends = (r.0, omega (arith, r.1), r.2); first = λ k h. r.3 k (omega (arith, h, r.1)) }

leaves_from : (at : ℕ) (bytes : List ℕ) → comment_end at bytes ≡ None → (k : ℕ) → starts_with nat_eq (drop k bytes) (codes "*/") ≡ false
leaves_from at [] e zero = refl
leaves_from at [] e (suc k) = refl
leaves_from at (b ∷ bytes) e k =
    elim (chosen (starts_with nat_eq (b ∷ bytes) (codes "*/")) (Some (at + 2)) (comment_end (at + 1) bytes) None e) [
      | inl w ↦ absurd (none-some _ (sym w.1))
      | inr w ↦ none_before b bytes (suc k) w.0 (λ j h. leaves_from (at + 1) bytes w.1 j) k (omega arith)
    ]

pub leaves : (bytes : List ℕ) → comment_end 0 bytes ≡ None → (k : ℕ) → starts_with nat_eq (drop k bytes) (codes "*/") ≡ false
leaves bytes e k = leaves_from 0 bytes e k
