-- The places of variables.
use Rattle.std.proofs.Common.{◌≡◌, ℕ, zero, suc, ◌+◌, ◌≤◌, List, [], ◌∷◌, ◌++◌, length, drop, refl, sym, ap, ◌∙◌, arith, append_assoc, append-nil}
use Rattle.std.specs.Prelude.{Option, Some, None, slice_get}
use Rattle.std.proofs.Math.Seq.{drop-cons}
use Rattle.std.proofs.lemmas.List.{drop_all}
use Rattle.std.proofs.lemmas.Option.{slice_get_within, get_or_from_slice_get}
use Rattle.cc_execution.specs.declared.operation.FundamentalType.{FundamentalType}
use Rattle.cc_execution.specs.Operations.{loaded, argument_from}
use Rattle.cc_decode.specs.Scope.{variable, place_behind, variables_from}

pub there : {A : Type 0} → Option (Option A) → Option A
there None = None
there (Some a) = a

-- an argument is found where its parameter stands
pub argument_there : (place : ℕ) (parameters : List (Option FundamentalType)) (n : ℕ) → there (slice_get (variables_from place parameters) n) ≡ argument_from place parameters n
unfolding there
argument_there place [] n = refl
argument_there place (None ∷ parameters) zero = refl
argument_there place (Some t ∷ parameters) zero = refl
argument_there place (None ∷ parameters) (suc n) = argument_there place parameters n
argument_there place (Some t ∷ parameters) (suc n) = argument_there (suc place) parameters n

pub argument_none : (place : ℕ) (parameters : List (Option FundamentalType)) (n : ℕ) → None ≡ slice_get (variables_from place parameters) n → None ≡ argument_from place parameters n
unfolding there
argument_none place parameters n e = ap there e ∙ argument_there place parameters n

pub argument_some : (place : ℕ) (parameters : List (Option FundamentalType)) (n : ℕ) (found : Option (ℕ × FundamentalType)) → Some found ≡ slice_get (variables_from place parameters) n → found ≡ argument_from place parameters n
unfolding there
argument_some place parameters n found e = ap there e ∙ argument_there place parameters n

-- one more parameter is counted
pub count_on : (place : ℕ) (p : Option FundamentalType) (parameters : List (Option FundamentalType)) → place_behind place p + length (loaded parameters) ≡ place + length (loaded (p ∷ parameters))
count_on place None parameters = refl
count_on place (Some t) parameters = omega arith

pub behind_small : (place : ℕ) (p : Option FundamentalType) → place_behind place p ≤ suc place
behind_small place None = omega arith
behind_small place (Some t) = omega arith

-- ---- one by one

-- what is left begins with the element that a loop is at
drop_at : {A : Type 0} (xs : List A) (i : ℕ) (x : A) → slice_get xs i ≡ Some x → drop i xs ≡ x ∷ drop (i + 1) xs
drop_at xs i x e =
    let more : suc i ≡ i + 1 = omega arith in
    drop-cons xs i x (slice_get_within xs i x e) ∙ ap (λ z. z ∷ drop (suc i) xs) (get_or_from_slice_get xs i x x e) ∙ ap (λ k. x ∷ drop k xs) more

pub variables_on : (parameters : List (Option FundamentalType)) (i place next : ℕ) (p : Option FundamentalType) (v : Option (ℕ × FundamentalType)) (old new : List (Option (ℕ × FundamentalType)))
    → slice_get parameters i ≡ Some p → v ≡ variable place p → next ≡ place_behind place p → new ≡ old ++ v ∷ []
    → old ++ variables_from place (drop i parameters) ≡ variables_from 0 parameters → new ++ variables_from next (drop (i + 1) parameters) ≡ variables_from 0 parameters
variables_on parameters i place next p v old new e is behind n leads =
    let left = drop (i + 1) parameters in
    ap (λ l. l ++ variables_from next left) n ∙ append_assoc old (v ∷ []) (variables_from next left) ∙ ap (λ z. old ++ z ∷ variables_from next left) is
    ∙ ap (λ k. old ++ variable place p ∷ variables_from k left) behind ∙ ap (λ l. old ++ variables_from place l) (sym (drop_at parameters i p e)) ∙ leads

pub counted_on : (parameters : List (Option FundamentalType)) (i place next : ℕ) (p : Option FundamentalType) → slice_get parameters i ≡ Some p → next ≡ place_behind place p
    → place + length (loaded (drop i parameters)) ≡ length (loaded parameters) → next + length (loaded (drop (i + 1) parameters)) ≡ length (loaded parameters)
counted_on parameters i place next p e behind leads =
    ap (λ k. k + length (loaded (drop (i + 1) parameters))) behind ∙ count_on place p (drop (i + 1) parameters) ∙ ap (λ l. place + length (loaded l)) (sym (drop_at parameters i p e)) ∙ leads

pub variables_all : (parameters : List (Option FundamentalType)) (i place : ℕ) (found : List (Option (ℕ × FundamentalType))) → length parameters ≤ i
    → found ++ variables_from place (drop i parameters) ≡ variables_from 0 parameters → found ≡ variables_from 0 parameters
variables_all parameters i place found past leads = sym (append-nil found) ∙ ap (λ l. found ++ variables_from place l) (sym (drop_all i parameters past)) ∙ leads

pub counted_all : (parameters : List (Option FundamentalType)) (i place : ℕ) → length parameters ≤ i → place + length (loaded (drop i parameters)) ≡ length (loaded parameters) → place ≡ length (loaded parameters)
counted_all parameters i place past leads =
    let none : length (loaded (drop i parameters)) ≡ 0 = ap (λ l. length (loaded l)) (drop_all i parameters past) in omega (arith, none, leads)
