-- Elements of lists, and what holds of each.
use Rattle.std.proofs.Common.{◌≡◌, ℕ, zero, suc, List, [], ◌∷◌, ◌++◌, map, length, take, Some, None, option_map, slice_get, refl, ap, subst}
use Rattle.std.specs.Prelude.{⊤}

pub no_element : {X : Type 0} (x : X) → None ≡ Some x → ⊥
no_element x e = cc

pub same_some : {X : Type 0} (a b : X) → Some a ≡ Some b → a ≡ b
same_some a b e = cc

-- a property of each element
abbrev pub Each : {X : Type 0} → (X → Type 0) → List X → Type 0
Each P [] = ⊤
Each P (x ∷ xs) = P x × Each P xs

pub each_at : {X : Type 0} (P : X → Type 0) (xs : List X) (at : ℕ) (x : X) → Each P xs → slice_get xs at ≡ Some x → P x
each_at P [] at x h e = absurd (no_element x e)
each_at P (y ∷ xs) zero x h e = subst P (same_some y x e) h.0
each_at P (y ∷ xs) (suc at) x h e = each_at P xs at x h.1 e

pub get_front : {X : Type 0} (xs ys : List X) (at : ℕ) (x : X) → slice_get xs at ≡ Some x → slice_get (xs ++ ys) at ≡ Some x
get_front [] ys at x e = absurd (no_element x e)
get_front (y ∷ xs) ys zero x e = e
get_front (y ∷ xs) ys (suc at) x e = get_front xs ys at x e

pub get_next : {X : Type 0} (xs ys : List X) (x : X) → slice_get (xs ++ x ∷ ys) (length xs) ≡ Some x
get_next [] ys x = refl
get_next (y ∷ xs) ys x = get_next xs ys x

pub get_map : {X Y : Type 0} (f : X → Y) (xs : List X) (at : ℕ) (x : X) → slice_get xs at ≡ Some x → slice_get (map f xs) at ≡ Some (f x)
get_map f [] at x e = absurd (no_element x e)
get_map f (y ∷ xs) zero x e = ap (option_map f) e
get_map f (y ∷ xs) (suc at) x e = get_map f xs at x e

pub each_append : {X : Type 0} (P : X → Type 0) (xs ys : List X) → Each P xs → Each P ys → Each P (xs ++ ys)
each_append P [] ys h k = k
each_append P (x ∷ xs) ys h k = (h.0, each_append P xs ys h.1 k)

pub each_take : {X : Type 0} (P : X → Type 0) (count : ℕ) (xs : List X) → Each P xs → Each P (take count xs)
each_take P zero [] h = tt
each_take P zero (x ∷ xs) h = tt
each_take P (suc count) [] h = tt
each_take P (suc count) (x ∷ xs) h = (h.0, each_take P count xs h.1)

pub each_last : {X : Type 0} (P : X → Type 0) (xs : List X) (x : X) → Each P xs → P x → Each P (xs ++ x ∷ [])
each_last P [] x h k = (k, tt)
each_last P (y ∷ xs) x h k = (h.0, each_last P xs x h.1 k)

pub length_map : {X Y : Type 0} (f : X → Y) (xs : List X) → length (map f xs) ≡ length xs
length_map f [] = refl
length_map f (x ∷ xs) = ap suc (length_map f xs)
