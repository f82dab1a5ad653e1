-- The tables of a module.
use Rattle.std.proofs.Common.{◌≡◌, ℕ, zero, suc, ◌+◌, ◌-◌, ◌<◌, List, [], ◌∷◌, ◌++◌, length, refl, sym, ap, ◌∙◌, subst, arith, take, drop, set, get_or}
use Rattle.std.specs.Prelude.{Bool, true, false, Option, Some, None, slice_get, ◌==◌, if◌then◌else◌}
use Rattle.std.proofs.lemmas.Bool.{eqb-true, eqb-false}
use Rattle.std.proofs.lemmas.List.{take-append-drop, take_more, drop_more}
use Rattle.std.proofs.lemmas.Option.{none-some, same_Some, get_or_from_slice_get, slice_get_within}
use Rattle.cc_execution.specs.declared.operation.FundamentalType.{FundamentalType}
use Rattle.cc_execution.specs.declared.executable.Method.{Method}
use Rattle.cc_execution.specs.declared.executable.PlacedOperation.{PlacedOperation}
use Rattle.cc_execution.specs.Operations.{loaded, with_type}
use Rattle.cc_execution.specs.Step.{placed_at, operations_of}
use Rattle.cc_machine_next.specs.declared.tables.Entry.{Entry}
use Rattle.cc_machine_next.specs.declared.tables.MethodEntry.{MethodEntry}
use Rattle.cc_machine_next.specs.Tables.{entry_of, AreEntries, IsMethodEntry}

-- ---- elements of lists

pub put_there : {A : Type 0} (xs : List A) (i : ℕ) (a : A) → i < length xs → slice_get (set xs i a) i ≡ Some a
put_there [] i a h = absurd (omega (arith, h))
put_there (x ∷ xs) zero a h = refl
put_there (x ∷ xs) (suc i) a h = put_there xs i a (omega (arith, h))

pub put_other : {A : Type 0} (xs : List A) (i k : ℕ) (a : A) → (k ≡ i → ⊥) → slice_get (set xs i a) k ≡ slice_get xs k
put_other [] i k a h = refl
put_other (x ∷ xs) zero zero a h = absurd (h refl)
put_other (x ∷ xs) zero (suc k) a h = refl
put_other (x ∷ xs) (suc i) zero a h = refl
put_other (x ∷ xs) (suc i) (suc k) a h = put_other xs i k a (λ e. h (ap suc e))

kept_before : {A : Type 0} (xs ys : List A) (k : ℕ) (a : A) → slice_get xs k ≡ Some a → slice_get (xs ++ ys) k ≡ Some a
kept_before [] ys k a e = absurd (none-some a e)
kept_before (x ∷ xs) ys zero a e = e
kept_before (x ∷ xs) ys (suc k) a e = kept_before xs ys k a e

-- an element of a list is one of each list that it begins
pub kept_front : {A : Type 0} (xs ys : List A) (k : ℕ) (a : A) → take (length xs) ys ≡ xs → slice_get xs k ≡ Some a → slice_get ys k ≡ Some a
kept_front xs ys k a e g = subst (λ l. slice_get l k ≡ Some a) (ap (λ l. l ++ drop (length xs) ys) (sym e) ∙ take-append-drop (length xs) ys) (kept_before xs (drop (length xs) ys) k a g)

pub drop_all : {A : Type 0} (xs : List A) → drop (length xs) xs ≡ []
drop_all [] = refl
drop_all (x ∷ xs) = drop_all xs

-- ---- entries

pub none_yet : (operations : List PlacedOperation) (entries : List Entry) → AreEntries (drop (length operations) operations) entries
none_yet operations entries = subst (λ l. AreEntries l entries) (sym (drop_all operations)) (λ at p e. absurd (none-some p e))

module _ (p : PlacedOperation) (rest : List PlacedOperation) (es : List Entry) (es2 : List Entry) (before : AreEntries rest es) (there : slice_get es2 p.at ≡ Some (entry_of p))
    (others : (k : ℕ) (e : Entry) → (k ≡ p.at → ⊥) → slice_get es k ≡ Some e → slice_get es2 k ≡ Some e) where
  more_at : (b : Bool) (at : ℕ) (q : PlacedOperation) → (b ≡ true → p.at ≡ at) → (b ≡ false → p.at ≡ at → ⊥) → (if b then Some p else placed_at rest at) ≡ Some q → slice_get es2 at ≡ Some (entry_of q)
  more_at true at q t f e = subst (λ k. slice_get es2 k ≡ Some (entry_of q)) (t refl) (there ∙ ap (λ z. Some (entry_of z)) (same_Some p q e))
  more_at false at q t f e = others at (entry_of q) (λ g. f refl (sym g)) (before at q e)

  -- the entry of one operation more, which stands before those that are there
  pub one_more : AreEntries (p ∷ rest) es2
  one_more = λ at q e. more_at (p.at == at) at q (eqb-true p.at at) (eqb-false p.at at) e

pub entries_more : (operations : List PlacedOperation) (k : ℕ) (p : PlacedOperation) (es es2 : List Entry) → k < length operations → slice_get operations (length operations - 1 - k) ≡ Some p
    → AreEntries (drop (length operations - k) operations) es → slice_get es2 p.at ≡ Some (entry_of p) → ((j : ℕ) (e : Entry) → (j ≡ p.at → ⊥) → slice_get es j ≡ Some e → slice_get es2 j ≡ Some e)
    → AreEntries (drop (length operations - (k + 1)) operations) es2
entries_more operations k p es es2 h e before there others =
    let i = length operations - 1 - k in
    let n : length operations - (k + 1) ≡ i = omega (arith, h) in
    let m : i + 1 ≡ length operations - k = omega (arith, h) in
    let list : drop (length operations - (k + 1)) operations ≡ p ∷ drop (length operations - k) operations =
    ap (λ j. drop j operations) n ∙ drop_more operations i p (omega (arith, h)) ∙ ap (λ z. z ∷ drop (i + 1) operations) (get_or_from_slice_get operations i p p e) ∙ ap (λ j. p ∷ drop j operations) m in
    subst (λ l. AreEntries l es2) (sym list) (one_more p (drop (length operations - k) operations) es es2 before there others)

-- ---- parameters

loaded_with : (p : Option FundamentalType) (xs ys : List FundamentalType) → with_type p (xs ++ ys) ≡ with_type p xs ++ ys
loaded_with None xs ys = refl
loaded_with (Some t) xs ys = refl

pub loaded_append : (xs ys : List (Option FundamentalType)) → loaded (xs ++ ys) ≡ loaded xs ++ loaded ys
loaded_append [] ys = refl
loaded_append (p ∷ xs) ys = ap (with_type p) (loaded_append xs ys) ∙ loaded_with p (loaded xs) (loaded ys)

-- the types with one parameter more
pub types_more : (parameters : List (Option FundamentalType)) (i : ℕ) (types types2 : List FundamentalType) (p : Option FundamentalType) → slice_get parameters i ≡ Some p → types ≡ loaded (take i parameters)
    → types2 ≡ types ++ loaded (p ∷ []) → types2 ≡ loaded (take (i + 1) parameters)
types_more parameters i types types2 p e before added =
    added ∙ ap (λ l. l ++ loaded (p ∷ [])) before ∙ sym (loaded_append (take i parameters) (p ∷ []))
    ∙ ap (λ z. loaded (take i parameters ++ z ∷ [])) (sym (get_or_from_slice_get parameters i p p e)) ∙ ap loaded (sym (take_more parameters i p (slice_get_within parameters i p e)))

-- ---- methods

abbrev pub Match : List Method → List MethodEntry → Type 0
Match [] [] = Unit {0}
Match [] (e ∷ entries) = ⊥
Match (m ∷ methods) [] = ⊥
Match (m ∷ methods) (e ∷ entries) = IsMethodEntry m e × Match methods entries

pub match_more : (methods : List Method) (entries : List MethodEntry) (m : Method) (e : MethodEntry) → Match methods entries → IsMethodEntry m e → Match (methods ++ m ∷ []) (entries ++ e ∷ [])
match_more [] [] m e h i = (i, tt)
match_more [] (f ∷ entries) m e h i = absurd h
match_more (n ∷ methods) [] m e h i = absurd h
match_more (n ∷ methods) (f ∷ entries) m e h i = (h.0, match_more methods entries m e h.1 i)

pub match_next : (methods : List Method) (i : ℕ) (entries entries2 : List MethodEntry) (m : Method) (e : MethodEntry) → i < length methods → m ≡ get_or methods i m → Match (take i methods) entries → IsMethodEntry m e
    → entries2 ≡ entries ++ e ∷ [] → Match (take (i + 1) methods) entries2
match_next methods i entries entries2 m e low is before here added =
    subst (λ l. Match l entries2) (sym (take_more methods i m low ∙ ap (λ z. take i methods ++ z ∷ []) (sym is)))
    (subst (λ l. Match (take i methods ++ m ∷ []) l) (sym added) (match_more (take i methods) entries m e before here))

pub match_each : (methods : List Method) (entries : List MethodEntry) → Match methods entries → (n : ℕ) (m : Method) → slice_get methods n ≡ Some m → (e : MethodEntry) × (slice_get entries n ≡ Some e) × IsMethodEntry m e
match_each [] entries h n m e = absurd (none-some m e)
match_each (p ∷ methods) [] h n m e = absurd h
match_each (p ∷ methods) (f ∷ entries) h zero m e = (f, refl, subst (λ z. IsMethodEntry z f) (same_Some p m e) h.0)
match_each (p ∷ methods) (f ∷ entries) h (suc n) m e = match_each methods entries h.1 n m e

-- an operation is one of a method
pub placed_method : (o : Option Method) (at : ℕ) (p : PlacedOperation) → placed_at (operations_of o) at ≡ Some p → (m : Method) × (o ≡ Some m) × (placed_at m.operations at ≡ Some p)
placed_method None at p e = absurd (none-some p e)
placed_method (Some m) at p e = (m, refl, e)
