-- Marks at the pairs that were reached.
use Rattle.std.proofs.Common.{◌≡◌, ◌⊎◌, inl, inr, ℕ, zero, suc, ◌+◌, ◌<◌, ◌≤◌, ◌==◌, List, [], ◌∷◌, ◌++◌, Bool, true, false, ◌||◌, Option, Some, None, refl, sym, ap, subst, ◌∙◌, arith, length, length-append, set, get_or}
use Rattle.std.proofs.lemmas.Bool.{cases_Bool}
use Rattle.std.proofs.lemmas.Option.{slice_get_read}
use Rattle.std.proofs.lemmas.Bool.Decides.{nat_tests}
use Rattle.std.proofs.lemmas.List.Folds.{list_any-append}
use mathlib.Core.Logic.{⊎_elim}
use Rattle.std.specs.Prelude.{slice_get}
use Rattle.std.specs.List.{list_any}
use Rattle.cc_names.specs.Reaching.{In, has_number, unused}
use Rattle.cc_names.proofs.Leading.{or_left, or_right, any_from}

differ_zero : (zero == zero) ≡ false → ⊥
differ_zero e = cc

nothing_false : None ≡ Some false → ⊥
nothing_false e = cc

true_false : Some true ≡ Some false → ⊥
true_false e = cc

pub nothing_some : (pair : ℕ) → None ≡ Some pair → ⊥
nothing_some pair e = cc

some_same : (x y : ℕ) → Some x ≡ Some y → x ≡ y
some_same x y e = cc

same_number : (x y : ℕ) → (x == y) ≡ true → x ≡ y
same_number x y e = grind (arith, nat_tests)

is_same : (x y : ℕ) → x ≡ y → (x == y) ≡ true
is_same x y e = grind (arith, nat_tests)

pub stands_in : (numbers : List ℕ) (number : ℕ) → has_number numbers number ≡ true → In numbers number
stands_in numbers number e =
    let found = any_from (λ one. one == number) numbers e in
    subst (In numbers) (same_number found.0 number found.1.1) found.1.0

one_less : (n pair : ℕ) → (suc n == suc pair) ≡ false → (n == pair) ≡ false
one_less n pair e = grind (arith, nat_tests)

none_set : (used : List Bool) (n pair : ℕ) → (n == pair) ≡ false → slice_get (set used n true) pair ≡ slice_get used pair
none_set [] n pair e = refl
none_set (one ∷ used) zero zero e = absurd (differ_zero e)
none_set (one ∷ used) zero (suc pair) e = refl
none_set (one ∷ used) (suc n) zero e = refl
none_set (one ∷ used) (suc n) (suc pair) e = none_set used n pair (one_less n pair e)

unmarked : (used : List Bool) (n : ℕ) → slice_get used n ≡ Some false → suc (unused (set used n true)) ≡ unused used
unmarked [] n e = absurd (nothing_false e)
unmarked (true ∷ used) zero e = absurd (true_false e)
unmarked (false ∷ used) zero e = refl
unmarked (true ∷ used) (suc n) e = unmarked used n e
unmarked (false ∷ used) (suc n) e = ap suc (unmarked used n e)

pub marked_on : (order : List ℕ) (used : List Bool) (number : ℕ) → ((pair : ℕ) → slice_get used pair ≡ Some true → has_number order pair ≡ true)
    → (pair : ℕ) → slice_get (set used number true) pair ≡ Some true → has_number (order ++ number ∷ []) pair ≡ true
marked_on order used number marks pair e =
    list_any-append (λ one. one == pair) order (number ∷ [])
    ∙ ⊎_elim
    (λ same. or_right (has_number order pair) ((number == pair) || false) (or_left (number == pair) false same))
    (λ other. or_left (has_number order pair) ((number == pair) || false) (marks pair (sym (none_set used number pair other) ∙ e)))
    (cases_Bool (number == pair))

pub counted_on : (order : List ℕ) (used : List Bool) (number : ℕ) → slice_get used number ≡ Some false → length order + unused used ≡ length used → length (order ++ number ∷ []) + unused (set used number true) ≡ length used
counted_on order used number free total =
    let fewer : suc (unused (set used number true)) ≡ unused used = unmarked used number free in
    let longer : length (order ++ number ∷ []) ≡ length order + 1 = length-append order (number ∷ []) in
    omega arith

pub last_in : (order : List ℕ) (number : ℕ) → In (order ++ number ∷ []) number
last_in [] number = (0, refl)
last_in (one ∷ order) number = let found = last_in order number in (suc found.0, found.1)

pub kept_on : (order : List ℕ) (number at pair : ℕ) → slice_get order at ≡ Some pair → slice_get (order ++ number ∷ []) at ≡ Some pair
kept_on [] number at pair e = absurd (nothing_some pair e)
kept_on (one ∷ order) number zero pair e = e
kept_on (one ∷ order) number (suc at) pair e = kept_on order number at pair e

pub only_on : (order : List ℕ) (number at pair : ℕ) → slice_get (order ++ number ∷ []) at ≡ Some pair → (slice_get order at ≡ Some pair) ⊎ ((length order ≤ at) × (pair ≡ number))
only_on [] number zero pair e = let same : number ≡ pair = some_same number pair e in inr (omega arith, sym same)
only_on [] number (suc at) pair e = absurd (nothing_some pair e)
only_on (one ∷ order) number zero pair e = inl e
only_on (one ∷ order) number (suc at) pair e = ⊎_elim (λ old. inl old) (λ new. inr (omega (arith, new.0), new.1)) (only_on order number at pair e)

one_later : (n : ℕ) → suc (n + 1) ≡ suc n + 1
one_later n = omega arith

-- one more false value
pub unused_more : (used : List Bool) → unused (used ++ false ∷ []) ≡ unused used + 1
unused_more [] = refl
unused_more (true ∷ used) = unused_more used
unused_more (false ∷ used) = ap suc (unused_more used) ∙ one_later (unused used)

unused_most : (used : List Bool) → unused used ≤ length used
unused_most [] = omega arith
unused_most (true ∷ used) =
    let rest : unused used ≤ length used = unused_most used in
    let most : unused used ≤ suc (length used) = omega arith in
    most
unused_most (false ∷ used) =
    let rest : unused used ≤ length used = unused_most used in
    let most : suc (unused used) ≤ suc (length used) = omega arith in
    most

none_true : (used : List Bool) (pair : ℕ) → length used ≤ unused used → slice_get used pair ≡ Some true → ⊥
none_true [] pair h e = cc
none_true (true ∷ used) pair h e =
    let more : suc (length used) ≤ unused used = h in
    let most : unused used ≤ length used = unused_most used in
    omega arith
none_true (false ∷ used) zero h e = cc
none_true (false ∷ used) (suc pair) h e =
    let more : suc (length used) ≤ suc (unused used) = h in
    let rest : length used ≤ unused used = omega arith in
    none_true used pair rest e

-- where all are false, none is marked
pub none_marked : (used : List Bool) (order : List ℕ) (count pair : ℕ) → length used ≡ count → unused used ≡ count → slice_get used pair ≡ Some true → has_number order pair ≡ true
none_marked used order count pair size free e =
    let all : length used ≤ unused used = omega arith in
    absurd (none_true used pair all e)

set_bit : (used : List Bool) (number : ℕ) (found : Bool) → number < length used → found ≡ get_or used number found → slice_get used number ≡ Some found
set_bit used number found less is = slice_get_read used (length used) number found refl less is

-- a mark says that a pair was reached
pub reached_before : (order : List ℕ) (used : List Bool) (number : ℕ) (found : Bool) → number < length used → found ≡ get_or used number found → found ≡ true
    → ((pair : ℕ) → slice_get used pair ≡ Some true → has_number order pair ≡ true) → In order number
reached_before order used number found less is marked marks = stands_in order number (marks number (set_bit used number found less is ∙ ap (λ (b : Bool). Some b) marked))

pub free_before : (used : List Bool) (number : ℕ) (found : Bool) → number < length used → found ≡ get_or used number found → found ≡ false → slice_get used number ≡ Some false
free_before used number found less is free = set_bit used number found less is ∙ ap (λ (b : Bool). Some b) free

pub all_free : (used : List Bool) (count : ℕ) → length used ≡ count → unused used ≡ count → 0 + unused used ≡ length used
all_free used count size free = omega arith
