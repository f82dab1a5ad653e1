-- Elements put behind a list one by one.
use Rattle.std.proofs.Common.{◌≡◌, List, [], ◌∷◌, ◌++◌, refl, sym, ap, ◌∙◌, append_assoc}
use Rattle.std.proofs.lemmas.List.{append-nil}

pushed : {A : Type 0} (old middle new xs : List A) (x y : A) → middle ≡ old ++ xs → x ≡ y → new ≡ middle ++ x ∷ [] → new ≡ old ++ (xs ++ y ∷ [])
pushed old middle new xs x y before is push =
    push ∙ ap (λ rows. rows ++ x ∷ []) before ∙ append_assoc old xs (x ∷ []) ∙ ap (λ z. old ++ (xs ++ z ∷ [])) is

pub six_pushed : {A : Type 0} (old r1 r2 r3 r4 r5 r6 : List A) (x1 x2 x3 x4 x5 x6 y1 y2 y3 y4 y5 y6 : A)
    → x1 ≡ y1 → r1 ≡ old ++ x1 ∷ [] → x2 ≡ y2 → r2 ≡ r1 ++ x2 ∷ [] → x3 ≡ y3 → r3 ≡ r2 ++ x3 ∷ [] → x4 ≡ y4 → r4 ≡ r3 ++ x4 ∷ [] → x5 ≡ y5 → r5 ≡ r4 ++ x5 ∷ [] → x6 ≡ y6 → r6 ≡ r5 ++ x6 ∷ []
    → r6 ≡ old ++ (y1 ∷ y2 ∷ y3 ∷ y4 ∷ y5 ∷ y6 ∷ [])
six_pushed old r1 r2 r3 r4 r5 r6 x1 x2 x3 x4 x5 x6 y1 y2 y3 y4 y5 y6 e1 p1 e2 p2 e3 p3 e4 p4 e5 p5 e6 p6 =
    pushed old r5 r6 (y1 ∷ y2 ∷ y3 ∷ y4 ∷ y5 ∷ []) x6 y6
    (pushed old r4 r5 (y1 ∷ y2 ∷ y3 ∷ y4 ∷ []) x5 y5
    (pushed old r3 r4 (y1 ∷ y2 ∷ y3 ∷ []) x4 y4
    (pushed old r2 r3 (y1 ∷ y2 ∷ []) x3 y3
    (pushed old r1 r2 (y1 ∷ []) x2 y2
    (pushed old old r1 [] x1 y1 (sym (append-nil old)) e1 p1) e2 p2) e3 p3) e4 p4) e5 p5) e6 p6
