-- The places of a key among keys.
use Rattle.std.proofs.Common.{◌≡◌, ℕ, suc, ◌+◌, ◌<◌, List, [], ◌∷◌, ◌++◌, length, take, get_or, Bool, true, false, cond, not, ◌==◌, ◌||◌, refl, sym, ap, ◌∙◌, arith, add-zero}
use Rattle.std.proofs.lemmas.Bool.Decides.{nat_tests}
use Rattle.std.proofs.lemmas.List.{take_more, length-take-le}
use Rattle.std.specs.Str.{bytes_eq}
use Rattle.cc_names.specs.Keys.{places, places_from, has}

joined : (b : Bool) (n : ℕ) (all first last : List ℕ) → all ≡ first ++ last → cond b (n ∷ all) all ≡ cond b (n ∷ first) first ++ last
joined true n all first last e = ap (λ l. n ∷ l) e
joined false n all first last e = e

places_snoc_from : (n : ℕ) (keys : List (List ℕ)) (one key : List ℕ) → places_from n (keys ++ one ∷ []) key ≡ places_from n keys key ++ cond (bytes_eq one key) ((n + length keys) ∷ []) []
places_snoc_from n [] one key = ap (λ k. cond (bytes_eq one key) (k ∷ []) []) (sym (add-zero n))
places_snoc_from n (first ∷ keys) one key =
    joined (bytes_eq first key) n _ _ _ (places_snoc_from (suc n) keys one key ∙ ap (λ k. places_from (suc n) keys key ++ cond (bytes_eq one key) (k ∷ []) []) (omega arith))

places_snoc : (keys : List (List ℕ)) (one key : List ℕ) → places (keys ++ one ∷ []) key ≡ places keys key ++ cond (bytes_eq one key) (length keys ∷ []) []
places_snoc keys one key = places_snoc_from 0 keys one key ∙ ap (λ k. places keys key ++ cond (bytes_eq one key) (k ∷ []) []) (omega arith)

-- a loop over keys: the places of a key, after one more
pub next_place : (keys : List (List ℕ)) (i : ℕ) (one word key all more : List ℕ) → i < length keys → one ≡ get_or keys i one → word ≡ one
    → all ≡ places (take i keys) key → more ≡ all ++ cond (bytes_eq word key) (i ∷ []) [] → more ≡ places (take (i + 1) keys) key
next_place keys i one word key all more h is spelled before e =
    e ∙ ap (λ l. l ++ cond (bytes_eq word key) (i ∷ []) []) before
    ∙ ap (λ w. places (take i keys) key ++ cond (bytes_eq w key) (i ∷ []) []) spelled
    ∙ ap (λ k. places (take i keys) key ++ cond (bytes_eq one key) (k ∷ []) []) (sym (length-take-le i keys (omega arith)))
    ∙ sym (places_snoc (take i keys) one key)
    ∙ ap (λ all. places all key) (ap (λ one. take i keys ++ one ∷ []) is ∙ sym (take_more keys i one h))

not_zero : (n : ℕ) → not (suc n == 0) ≡ true
not_zero n = grind (arith, nat_tests)

one_stands : (b rest : Bool) (n : ℕ) (all : List ℕ) → rest ≡ not (length all == 0) → (b || rest) ≡ not (length (cond b (n ∷ all) all) == 0)
one_stands true rest n all e = sym (not_zero (length all))
one_stands false rest n all e = e

has_from : (n : ℕ) (keys : List (List ℕ)) (key : List ℕ) → has keys key ≡ not (length (places_from n keys key) == 0)
has_from n [] key = refl
has_from n (one ∷ keys) key = one_stands (bytes_eq one key) (has keys key) n (places_from (suc n) keys key) (has_from (suc n) keys key)

-- a key is there where it has a place
pub has_places : (keys : List (List ℕ)) (key : List ℕ) → has keys key ≡ not (length (places keys key) == 0)
has_places keys key = has_from 0 keys key
