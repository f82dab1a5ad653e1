-- Lists made part by part.
use Rattle.std.proofs.Common.{◌≡◌, ℕ, ◌+◌, ◌<◌, List, [], ◌∷◌, ◌++◌, length, get_or, take, subst, ap, ◌∙◌, append_assoc}
use Rattle.std.specs.List.{AllByRecursion}
use Rattle.std.proofs.lemmas.List.{take_more}

both_all : {A : Type 0} (P : A → Type 0) (xs : List A) (x : A) → AllByRecursion P xs → P x → AllByRecursion P (xs ++ x ∷ [])
both_all P [] x h p = (p, tt)
both_all P (y ∷ xs) x h p = (h.0, both_all P xs x h.1 p)

pub all_more : {A : Type 0} (P : A → Type 0) (xs : List A) (i : ℕ) (x : A) → i < length xs → x ≡ get_or xs i x → AllByRecursion P (take i xs) → P x → AllByRecursion P (take (i + 1) xs)
all_more P xs i x lt is h p = rw (take_more xs i x lt) (both_all P (take i xs) (get_or xs i x) h (subst P is p))

pub joined_two : {A : Type 0} (x0 x1 x2 a b : List A) → x1 ≡ x0 ++ a → x2 ≡ x1 ++ b → x2 ≡ x0 ++ (a ++ b)
joined_two {A} x0 x1 x2 a b e f = f ∙ ap (λ (x : List A). x ++ b) e ∙ append_assoc x0 a b

pub joined_eight : {A : Type 0} (x0 x1 x2 x3 x4 x5 x6 x7 x8 a b c d e f g h : List A) → x1 ≡ x0 ++ a → x2 ≡ x1 ++ b → x3 ≡ x2 ++ c → x4 ≡ x3 ++ d → x5 ≡ x4 ++ e → x6 ≡ x5 ++ f → x7 ≡ x6 ++ g → x8 ≡ x7 ++ h
    → x8 ≡ x0 ++ (a ++ (b ++ (c ++ (d ++ (e ++ (f ++ (g ++ h)))))))
joined_eight x0 x1 x2 x3 x4 x5 x6 x7 x8 a b c d e f g h p1 p2 p3 p4 p5 p6 p7 p8 =
    joined_two x0 x1 x8 a _ p1 (joined_two x1 x2 x8 b _ p2 (joined_two x2 x3 x8 c _ p3 (joined_two x3 x4 x8 d _ p4 (joined_two x4 x5 x8 e _ p5 (joined_two x5 x6 x8 f _ p6 (joined_two x6 x7 x8 g h p7 p8))))))

pub new_two : {A : Type 0} (x0 x1 x2 a b : List A) → x0 ≡ [] → x1 ≡ x0 ++ a → x2 ≡ x1 ++ b → x2 ≡ a ++ b
new_two {A} x0 x1 x2 a b z e f = joined_two x0 x1 x2 a b e f ∙ ap (λ (x : List A). x ++ (a ++ b)) z

pub new_eight : {A : Type 0} (x0 x1 x2 x3 x4 x5 x6 x7 x8 a b c d e f g h : List A) → x0 ≡ [] → x1 ≡ x0 ++ a → x2 ≡ x1 ++ b → x3 ≡ x2 ++ c → x4 ≡ x3 ++ d → x5 ≡ x4 ++ e → x6 ≡ x5 ++ f → x7 ≡ x6 ++ g → x8 ≡ x7 ++ h
    → x8 ≡ a ++ (b ++ (c ++ (d ++ (e ++ (f ++ (g ++ h))))))
new_eight {A} x0 x1 x2 x3 x4 x5 x6 x7 x8 a b c d e f g h z p1 p2 p3 p4 p5 p6 p7 p8 =
    joined_eight x0 x1 x2 x3 x4 x5 x6 x7 x8 a b c d e f g h p1 p2 p3 p4 p5 p6 p7 p8 ∙ ap (λ (x : List A). x ++ (a ++ (b ++ (c ++ (d ++ (e ++ (f ++ (g ++ h)))))))) z
