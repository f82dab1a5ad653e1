-- Values that are stored one by one.
use Rattle.std.proofs.Common.{◌≡◌, ℕ, zero, ◌+◌, ◌<◌, ◌≤◌, suc, List, [], ◌∷◌, ◌++◌, length, refl, sym, ap, ◌∙◌, subst, arith, take, drop, get_or}
use Rattle.std.specs.Prelude.{Option, Some, None, set, slice_get}
use Rattle.cc_core.specs.declared.world.Value.{Value}
use Rattle.cc_execution.specs.declared.operation.FundamentalType.{FundamentalType}
use Rattle.cc_execution.specs.Fundamental.{stored, stored_each, both, zero_of}
use Rattle.std.proofs.Common.{append-nil}
use Rattle.cc_execution.specs.Step.{zeros_of}
use Rattle.cc_machine_next.specs.declared.cell.Cell.{Cell}
use Rattle.cc_machine_next.specs.Cells.{value_of}
use Rattle.cc_machine_next.specs.Frames.{values}
use Rattle.cc_machine_next.proofs.Slices.{variable_is, values_set}

list_in : Option (List Value) → List Value
list_in None = []
list_in (Some vs) = vs

value_in : {A : Type 0} → A → Option A → A
value_in d None = d
value_in d (Some v) = v

one : {A : Type 0} (a b : A) → Some a ≡ Some b → a ≡ b
unfolding value_in
one a b e = ap (value_in a) e

abbrev IsSomeHere : {A : Type 0} → Option A → Type 0
IsSomeHere None = ⊥
IsSomeHere (Some a) = Unit {0}

never : {A : Type 0} (a : A) → None ≡ Some a → ⊥
never a e = subst IsSomeHere (sym e) tt

-- the parts of a list that is there
pub record Both (o : Option Value) (r : Option (List Value)) (ws : List Value) : Type 0 where
  pub first : Value
  pub rest : List Value
  pub is_first : o ≡ Some first
  pub is_rest : r ≡ Some rest
  pub are : ws ≡ first ∷ rest

some_list : (a b : List Value) → Some a ≡ Some b → a ≡ b
unfolding list_in
some_list a b e = ap list_in e

both_parts : (o : Option Value) (r : Option (List Value)) (ws : List Value) → both o r ≡ Some ws → Both o r ws
both_parts None r ws e = absurd (never ws e)
both_parts (Some v) None ws e = absurd (never ws e)
both_parts (Some v) (Some vs) ws e = record { first = v; rest = vs; is_first = refl; is_rest = refl; are = sym (some_list (v ∷ vs) ws e) }

-- one value more is stored, at its place
pub record StoredMore (vs ws : List Value) (i : ℕ) (of : FundamentalType) (v : Value) : Type 0 where
  pub value : Value
  pub is_stored : stored of v ≡ Some value
  pub list : set (take i ws ++ drop i vs) i value ≡ take (suc i) ws ++ drop (suc i) vs

pub stored_more : (types : List FundamentalType) (vs ws : List Value) (i : ℕ) (of : FundamentalType) (v : Value) → stored_each types vs ≡ Some ws → slice_get types i ≡ Some of → slice_get (take i ws ++ drop i vs) i ≡ Some v
    → StoredMore vs ws i of v
stored_more [] vs ws i of v e t g = absurd (never of t)
stored_more (type ∷ types) [] ws i of v e t g = absurd (never ws e)
stored_more (type ∷ types) (u ∷ vs) ws zero of v e t g =
    let p = both_parts (stored type u) (stored_each types vs) ws e in
    subst (λ z. StoredMore (u ∷ vs) z zero of v) (sym p.are)
    (record { value = p.first; is_stored = ap (λ k. stored k v) (sym (one type of t)) ∙ ap (stored type) (sym (one u v g)) ∙ p.is_first; list = refl })
stored_more (type ∷ types) (u ∷ vs) ws (suc i) of v e t g =
    let p = both_parts (stored type u) (stored_each types vs) ws e in
    let inner = stored_more types vs p.rest i of v p.is_rest t (subst (λ z. slice_get (take (suc i) z ++ drop (suc i) (u ∷ vs)) (suc i) ≡ Some v) p.are g) in
    subst (λ z. StoredMore (u ∷ vs) z (suc i) of v) (sym p.are)
    (record { value = inner.value; is_stored = inner.is_stored; list = ap (λ l. p.first ∷ l) inner.list })

-- one zero more
pub zeros_more : (types : List FundamentalType) (i : ℕ) (of : FundamentalType) → slice_get types i ≡ Some of → zeros_of (take (suc i) types) ≡ zeros_of (take i types) ++ zero_of of ∷ []
zeros_more [] i of t = absurd (never of t)
zeros_more (type ∷ types) zero of t = ap (λ k. zero_of k ∷ []) (one type of t)
zeros_more (type ∷ types) (suc i) of t = ap (λ l. zero_of type ∷ l) (zeros_more types i of t)

lengths : (types : List FundamentalType) (vs ws : List Value) → stored_each types vs ≡ Some ws → (length vs ≡ length types) × (length ws ≡ length types)
lengths [] [] ws e = let n : [] ≡ ws = some_list [] ws e in (refl, sym (ap length n))
lengths [] (v ∷ vs) ws e = absurd (never ws e)
lengths (t ∷ types) [] ws e = absurd (never ws e)
lengths (t ∷ types) (v ∷ vs) ws e =
    let p = both_parts (stored t v) (stored_each types vs) ws e in
    let inner = lengths types vs p.rest p.is_rest in
    (ap suc inner.0, ap length p.are ∙ ap suc inner.1)

pub stored_length : (types : List FundamentalType) (vs ws : List Value) → stored_each types vs ≡ Some ws → length vs ≡ length types
stored_length types vs ws e = (lengths types vs ws e).0

pub stored_count : (types : List FundamentalType) (vs ws : List Value) → stored_each types vs ≡ Some ws → length ws ≡ length types
stored_count types vs ws e = (lengths types vs ws e).1

take-length : (xs : List Value) → take (length xs) xs ≡ xs
take-length [] = refl
take-length (x ∷ xs) = ap (λ l. x ∷ l) (take-length xs)

drop-length : (xs : List Value) → drop (length xs) xs ≡ []
drop-length [] = refl
drop-length (x ∷ xs) = drop-length xs

-- all of them are stored
pub all_stored : (types : List FundamentalType) (vs ws : List Value) (n : ℕ) → stored_each types vs ≡ Some ws → n ≡ length types → take n ws ++ drop n vs ≡ ws
all_stored types vs ws n e h =
    let l = lengths types vs ws e in
    let a : take n ws ≡ ws = ap (λ k. take k ws) (h ∙ sym l.1) ∙ take-length ws in
    let b : drop n vs ≡ [] = ap (λ k. drop k vs) (h ∙ sym l.0) ∙ drop-length vs in
    ap (λ z. z ++ drop n vs) a ∙ ap (λ z. ws ++ z) b ∙ append-nil ws

module _ (xs : List Cell) (from i : ℕ) (types : List FundamentalType) (vs ws : List Value) (of : FundamentalType) (cell : Cell) (e : stored_each types vs ≡ Some ws) (t : slice_get types i ≡ Some of) (low : i < length types)
    (within : from + length types ≤ length xs) (c : cell ≡ get_or xs (from + i) cell) (done : values xs from (from + length types) ≡ take i ws ++ drop i vs) where
  here : StoredMore vs ws i of (value_of cell)
  here =
      stored_more types vs ws i of (value_of cell) e t
      (subst (λ l. slice_get l i ≡ Some (value_of cell)) done (variable_is xs from (from + length types) i cell cell (omega (arith, low)) within c))

  pub never_none : None ≡ stored of (value_of cell) → ⊥
  never_none none = never here.value (none ∙ here.is_stored)

  pub stores_next : (held : Cell) → Some (value_of held) ≡ stored of (value_of cell) → values (set xs (from + i) held) from (from + length types) ≡ take (i + 1) ws ++ drop (i + 1) vs
  stores_next held s =
      let n : suc i ≡ i + 1 = omega arith in
      values_set xs from (length types) i held low ∙ ap (λ l. set l i (value_of held)) done ∙ ap (set (take i ws ++ drop i vs) i) (one (value_of held) here.value (s ∙ here.is_stored))
      ∙ here.list ∙ ap (λ k. take k ws ++ drop k vs) n
