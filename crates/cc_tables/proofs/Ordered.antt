-- Rows in order, seen from each row and the one before it.
use Rattle.std.proofs.Common.{◌≡◌, ℕ, zero, suc, ◌+◌, ◌-◌, ◌<◌, ◌≤◌, List, [], ◌∷◌, length, get_or, refl, ap, ◌∙◌, arith}
use Rattle.std.specs.List.{AllAdjacentBelow}
use Rattle.std.specs.List.Sorted.{IsNonDecreasingBy}
use Rattle.std.proofs.lemmas.List.Sorted.{IsNonDecreasingBy-from_all_adjacent, all_adjacent_from_non_decreasing, all_adjacent_more}

-- the default does not matter where there is an element
same_there : {X : Type 0} (xs : List X) (i : ℕ) (d e : X) → i < length xs → get_or xs i d ≡ get_or xs i e
same_there [] i d e lt = absurd (omega (arith, lt))
same_there (x ∷ xs) zero d e lt = refl
same_there (x ∷ xs) (suc i) d e lt = same_there xs i d e (omega (arith, lt))

module _ {X : Type 0} (n : X → ℕ) (xs : List X) where
  pub order_more : (i : ℕ) (one before : X) → 0 < i → i < length xs → one ≡ get_or xs i one → before ≡ get_or xs (i - 1) before → n before ≤ n one → AllAdjacentBelow (λ x y. n x ≤ n y) xs i → AllAdjacentBelow (λ x y. n x ≤ n y) xs (i + 1)
  order_more i one before some lt is was le h =
      all_adjacent_more xs (λ x y. n x ≤ n y) i some h (λ d.
      let this : one ≡ get_or xs i d = is ∙ same_there xs i one d lt in
      let last : before ≡ get_or xs (i - 1) d = was ∙ same_there xs (i - 1) before d (omega (arith, lt)) in
      omega (arith, le, ap n this, ap n last))

  pub order_all : (i : ℕ) → length xs ≤ i → AllAdjacentBelow (λ x y. n x ≤ n y) xs i → IsNonDecreasingBy n xs
  order_all i le h = IsNonDecreasingBy-from_all_adjacent n xs (λ k d lt. h k d (omega (arith, le, lt)))

  pub order_broken : (i : ℕ) (one before : X) → 0 < i → i < length xs → one ≡ get_or xs i one → before ≡ get_or xs (i - 1) before → n one < n before → IsNonDecreasingBy n xs → ⊥
  order_broken i one before some lt is was less h =
      let last : before ≡ get_or xs (i - 1) one = was ∙ same_there xs (i - 1) before one (omega (arith, lt)) in
      omega (arith, less, h (i - 1) i one (omega arith) lt, ap n is, ap n last)
