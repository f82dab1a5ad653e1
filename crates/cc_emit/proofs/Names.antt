-- Names of ASCII without a zero.
use Rattle.std.proofs.Common.{◌≡◌, ℕ, ◌<◌, Bool, true, false, List, [], ◌∷◌, length, get_or, ltb, refl, arith, rules, inl, inr, subst, sym}
use borrow.Author.Tests.{ltb-true}
use Rattle.std.specs.Prelude.{◌&&◌, nat_lt, IsUtf8}
use Rattle.std.specs.List.{AllByRecursion, list_all}
use Rattle.std.proofs.lemmas.Bool.{cases_lt}
use Rattle.std.proofs.lemmas.List.{get_or_past}
use Rattle.std.proofs.lemmas.List.Sums.{AllPass-from_list_all}
use Rattle.std.proofs.lemmas.Str.{IsUtf8-from_ascii}

parts : (a b : Bool) → (a && b) ≡ true → (a ≡ true) × (b ≡ true)
parts true b e = (refl, e)
parts false b e = cc

-- the tests of a text
abbrev pub is_ascii : List ℕ → Bool
is_ascii text = list_all (λ byte. nat_lt byte 128) text

abbrev pub has_no_zero : List ℕ → Bool
has_no_zero text = list_all (λ byte. nat_lt 0 byte) text

below : (text : List ℕ) → is_ascii text ≡ true → (i : ℕ) → get_or text i 0 < 128
below text test i = elim (cases_lt i (length text)) [
  | inl within ↦ ltb-true (get_or text i 0) 128 (AllPass-from_list_all (λ byte. nat_lt byte 128) text test i 0 within)
  | inr past ↦ subst (λ (n : ℕ). n < 128) (sym (get_or_past text i 0 past)) (ltb-true 0 128 refl)
]

pub ascii : (text : List ℕ) → is_ascii text ≡ true → IsUtf8 text
ascii text test = IsUtf8-from_ascii text (below text test)

pub positive : (text : List ℕ) → has_no_zero text ≡ true → AllByRecursion (λ byte. 0 < byte) text
positive [] test = tt
positive (byte ∷ text) test = let both = parts _ _ test in (ltb-true 0 byte both.0, positive text both.1)

pub small : (text : List ℕ) → list_all (λ byte. nat_lt byte 256) text ≡ true → AllByRecursion (λ byte. byte < 256) text
small [] test = tt
small (byte ∷ text) test = let both = parts _ _ test in (ltb-true byte 256 both.0, small text both.1)
