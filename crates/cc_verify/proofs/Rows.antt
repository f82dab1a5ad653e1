-- The first row that a test refuses, row by row, and what is read of each row.
use Rattle.std.proofs.Common.{◌≡◌, ◌≤◌, ◌<◌, ◌+◌, ◌-◌, ℕ, zero, suc, List, [], ◌∷◌, ◌++◌, length, take, refl, sym, ap, subst, ◌∙◌, arith}
use Rattle.std.specs.Prelude.{Bool, true, false, Option, Some, None, get_or, if◌then◌else◌}
use Rattle.std.proofs.lemmas.List.{take_more}
use Rattle.cc_verify.specs.ClassRules.{first_bad, first_bad_from}
use Rattle.cc_module.specs.declared.signature.Signature.{Signature}
use Rattle.cc_verify.specs.Types.{Zip, IsReading}

-- ---- rows in order

passed : (test : ℕ → Bool) (row n : ℕ) → test row ≡ true → first_bad_from test row (suc n) ≡ first_bad_from test (suc row) n
passed test row n e = ap (λ b. if b then first_bad_from test (suc row) n else Some row) e

refused : (test : ℕ → Bool) (row n : ℕ) → test row ≡ false → first_bad_from test row (suc n) ≡ Some row
refused test row n e = ap (λ b. if b then first_bad_from test (suc row) n else Some row) e

pub rows_start : (test : ℕ → Bool) (count : ℕ) → first_bad_from test (0 + 1) (count - 0) ≡ first_bad test count
rows_start test count = let e : count - 0 ≡ count = omega arith in ap (λ k. first_bad_from test 1 k) e

pub rows_on : (test : ℕ → Bool) (count before : ℕ) → before < count → test (before + 1) ≡ true → first_bad_from test (before + 1) (count - before) ≡ first_bad test count
    → first_bad_from test (before + 1 + 1) (count - (before + 1)) ≡ first_bad test count
rows_on test count before lt e leads =
    let left : count - before ≡ suc (count - (before + 1)) = omega (arith, lt) in
    let row : before + 1 + 1 ≡ suc (before + 1) = omega arith in
    ap (λ k. first_bad_from test k (count - (before + 1))) row ∙ sym (passed test (before + 1) (count - (before + 1)) e) ∙ sym (ap (λ k. first_bad_from test (before + 1) k) left) ∙ leads

pub rows_off : (test : ℕ → Bool) (count before : ℕ) → before < count → test (before + 1) ≡ false → first_bad_from test (before + 1) (count - before) ≡ first_bad test count → Some (before + 1) ≡ first_bad test count
rows_off test count before lt e leads =
    let left : count - before ≡ suc (count - (before + 1)) = omega (arith, lt) in
    sym (refused test (before + 1) (count - (before + 1)) e) ∙ sym (ap (λ k. first_bad_from test (before + 1) k) left) ∙ leads

pub rows_end : (test : ℕ → Bool) (count before : ℕ) → count ≤ before → first_bad_from test (before + 1) (count - before) ≡ first_bad test count → None ≡ first_bad test count
rows_end test count before past leads =
    let left : count - before ≡ 0 = omega (arith, past) in
    sym (ap (λ k. first_bad_from test (before + 1) k) left) ∙ leads

-- ---- what is read, one by one

zip_snoc : {A B : Type 0} (P : A → B → Type 0) (rows : List A) (read : List B) (a : A) (b : B) → Zip P rows read → P a b → Zip P (rows ++ a ∷ []) (read ++ b ∷ [])
zip_snoc P [] [] a b z p = (p, tt)
zip_snoc P [] (y ∷ read) a b z p = absurd z
zip_snoc P (x ∷ rows) [] a b z p = absurd z
zip_snoc P (x ∷ rows) (y ∷ read) a b z p = (z.0, zip_snoc P rows read a b z.1 p)

pub zip_on : {A B : Type 0} (P : A → B → Type 0) (rows : List A) (read new : List B) (i : ℕ) (d : A) (s : B) → i < length rows → new ≡ read ++ s ∷ [] → Zip P (take i rows) read → P (get_or rows i d) s → Zip P (take (i + 1) rows) new
zip_on P rows read new i d s lt e z p =
    subst (λ l. Zip P (take (i + 1) rows) l) (sym e) (subst (λ l. Zip P l (read ++ s ∷ [])) (sym (take_more rows i d lt)) (zip_snoc P (take i rows) read (get_or rows i d) s z p))

pub read_on : {A : Type 0} (column : A → List ℕ) (rows : List A) (read new : List (Option Signature)) (i : ℕ) (d : A) (s : Option Signature) (blob : List ℕ) → i < length rows → blob ≡ column (get_or rows i d) → new ≡ read ++ s ∷ []
    → Zip (λ (a : A) (o : Option Signature). IsReading (column a) o) (take i rows) read → IsReading blob s → Zip (λ (a : A) (o : Option Signature). IsReading (column a) o) (take (i + 1) rows) new
read_on {A} column rows read new i d s blob lt b e z r = zip_on (λ (a : A) (o : Option Signature). IsReading (column a) o) rows read new i d s lt e z (subst (λ l. IsReading l s) b r)
