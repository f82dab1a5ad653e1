-- One element more of a row: what was told of the first ones, and what is told of all of them.
use Rattle.std.proofs.Common.{◌≡◌, ℕ, ◌+◌, ◌<◌, List, [], ◌∷◌, ◌++◌, Bool, true, false, ◌||◌, map, length, take, get_or, refl, sym, ap, ◌∙◌}
use Rattle.std.proofs.lemmas.List.{take_more, map-append}
use Rattle.std.proofs.lemmas.List.Folds.{list_any-append}
use Rattle.std.specs.List.{list_any}
use Rattle.cc_terms.specs.declared.ends.Branch.{Branch}
use Rattle.cc_terms.specs.Ends.{last_ends}

or_nothing : (b : Bool) → (b || false) ≡ b
or_nothing true = refl
or_nothing false = refl

module _ {A B : Type 0} (make : A → B) (xs : List A) (at : ℕ) (one : A) (within : at < length xs) (is : one ≡ get_or xs at one) where
  -- the row with one element more
  pub taken : take (at + 1) xs ≡ take at xs ++ one ∷ []
  taken = take_more xs at one within ∙ ap (λ x. take at xs ++ x ∷ []) (sym is)

  pub made_more : map make (take (at + 1) xs) ≡ map make (take at xs) ++ make one ∷ []
  made_more = ap (map make) taken ∙ map-append make (take at xs) (one ∷ [])

  pub any_more : (test : B → Bool) (before value after : Bool) → after ≡ (before || value) → value ≡ test (make one) → before ≡ list_any test (map make (take at xs)) → after ≡ list_any test (map make (take (at + 1) xs))
  any_more test before value after step is_value so_far =
      step ∙ ap (λ b. b || value) so_far ∙ ap (λ b. list_any test (map make (take at xs)) || b) (is_value ∙ sym (or_nothing (test (make one))))
      ∙ sym (ap (list_any test) made_more ∙ list_any-append test (map make (take at xs)) (make one ∷ []))

last_of : (branches : List Branch) (branch : Branch) → last_ends (branches ++ branch ∷ []) ≡ branch.way.ends
last_of [] branch = refl
last_of (one ∷ []) branch = refl
last_of (one ∷ second ∷ more) branch = last_of (second ∷ more) branch

pub last_more : {A : Type 0} (make : A → Branch) (xs : List A) (at : ℕ) (one : A) → at < length xs → one ≡ get_or xs at one → (make one).way.ends ≡ last_ends (map make (take (at + 1) xs))
last_more make xs at one within is = sym (ap last_ends (made_more make xs at one within is) ∙ last_of (map make (take at xs)) (make one))
