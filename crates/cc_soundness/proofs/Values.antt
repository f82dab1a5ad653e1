-- Values of the types that the verifier knows.
use Rattle.std.proofs.Common.{◌≡◌, ℕ, zero, suc, ◌<◌, ◌≤◌, List, [], ◌∷◌, ◌++◌, length, map, refl, sym, ap, ◌∙◌, subst, arith, ◌⊎◌, inl, inr}
use Rattle.std.specs.Prelude.{true, Some, slice_get, slice_set}
use Rattle.std.proofs.lemmas.Option.{same_Some}
use Rattle.cc_core.specs.declared.world.Value.{Value}
use Rattle.cc_core.specs.declared.world.Value.TheVariants as value
use Rattle.cc_execution.specs.declared.operation.FundamentalType.{FundamentalType}
use Rattle.cc_execution.specs.declared.operation.FundamentalType.TheVariants.{Boolean, Char, I1, U1, I2, U2, I4, U4, I8, U8}
use Rattle.cc_execution.specs.Fundamental.{stored, stored_each, both, zero_of}
use Rattle.cc_execution.specs.Step.{zeros_of}
use Rattle.cc_verify.specs.declared.stack_type.StackType.{StackType}
use Rattle.cc_verify.specs.declared.stack_type.StackType.TheVariants.{Int32, Int64, Null, Object}
use Rattle.cc_verify.specs.Transitions.{is_reference, same_integer, fits}
use Rattle.cc_soundness.specs.Kinds.{kind}
use Rattle.cc_soundness.specs.States.{HasType, HaveTypes}

-- ---- more objects

pub type_grows : (a b : ℕ) → a ≤ b → (t : StackType) (v : Value) → HasType a t v → HasType b t v
type_grows a b le Int32 (value.Int32 n) h = tt
type_grows a b le Int64 (value.Int64 n) h = tt
type_grows a b le Null value.Null h = tt
type_grows a b le (Object class) value.Null h = tt
type_grows a b le (Object class) (value.Object e) h = omega (arith, le, h)
type_grows a b le t v h = absurd h

pub types_grow : (a b : ℕ) → a ≤ b → (ts : List StackType) (vs : List Value) → HaveTypes a ts vs → HaveTypes b ts vs
types_grow a b le [] [] h = tt
types_grow a b le [] (v ∷ vs) h = absurd h
types_grow a b le (t ∷ ts) [] h = absurd h
types_grow a b le (t ∷ ts) (v ∷ vs) h = (type_grows a b le t v h.0, types_grow a b le ts vs h.1)

-- ---- lists of values

pub types_append : (n : ℕ) (ts us : List StackType) (vs ws : List Value) → HaveTypes n ts vs → HaveTypes n us ws → HaveTypes n (ts ++ us) (vs ++ ws)
types_append n [] us [] ws h k = k
types_append n [] us (v ∷ vs) ws h k = absurd h
types_append n (t ∷ ts) us [] ws h k = absurd h
types_append n (t ∷ ts) us (v ∷ vs) ws h k = (h.0, types_append n ts us vs ws h.1 k)

pub types_length : (n : ℕ) (ts : List StackType) (vs : List Value) → HaveTypes n ts vs → length vs ≡ length ts
types_length n [] [] h = refl
types_length n [] (v ∷ vs) h = absurd h
types_length n (t ∷ ts) [] h = absurd h
types_length n (t ∷ ts) (v ∷ vs) h = ap suc (types_length n ts vs h.1)

pub type_at : (n : ℕ) (ts : List StackType) (vs : List Value) (i : ℕ) (t : StackType) → HaveTypes n ts vs → slice_get ts i ≡ Some t → (v : Value) × (slice_get vs i ≡ Some v) × HasType n t v
type_at n [] vs i t h e = cc
type_at n (s ∷ ts) [] i t h e = absurd h
type_at n (s ∷ ts) (v ∷ vs) zero t h e = (v, refl, subst (λ z. HasType n z v) (same_Some s t e) h.0)
type_at n (s ∷ ts) (v ∷ vs) (suc i) t h e = type_at n ts vs i t h.1 e

pub types_set : (n : ℕ) (ts : List StackType) (vs : List Value) (i : ℕ) (t : StackType) (v : Value) → HaveTypes n ts vs → slice_get ts i ≡ Some t → HasType n t v → HaveTypes n ts (slice_set vs i v)
types_set n [] vs i t v h e k = cc
types_set n (s ∷ ts) [] i t v h e k = absurd h
types_set n (s ∷ ts) (u ∷ vs) zero t v h e k = (subst (λ z. HasType n z v) (sym (same_Some s t e)) k, h.1)
types_set n (s ∷ ts) (u ∷ vs) (suc i) t v h e k = (h.0, types_set n ts vs i t v h.1 e k)

-- ---- what values of a type are

pub int32_is : (n : ℕ) (v : Value) → HasType n Int32 v → (k : ℕ) × (v ≡ value.Int32 k)
int32_is n (value.Int32 k) h = (k, refl)
int32_is n v h = absurd h

pub int64_is : (n : ℕ) (v : Value) → HasType n Int64 v → (k : ℕ) × (v ≡ value.Int64 k)
int64_is n (value.Int64 k) h = (k, refl)
int64_is n v h = absurd h

pub reference_is : (n : ℕ) (t : StackType) (v : Value) → is_reference t ≡ true → HasType n t v → (v ≡ value.Null) ⊎ ((e : ℕ) × (v ≡ value.Object e) × (e < n))
reference_is n Int32 v r h = cc
reference_is n Int64 v r h = cc
reference_is n Null value.Null r h = inl refl
reference_is n (Object class) value.Null r h = inl refl
reference_is n (Object class) (value.Object e) r h = inr (e, refl, h)
reference_is n t v r h = absurd h

pub same_is : (a b : StackType) → same_integer a b ≡ true → a ≡ b
same_is Int32 Int32 h = refl
same_is Int64 Int64 h = refl
same_is a b h = cc

pub fits_is : (a b : StackType) → fits a (Some b) ≡ true → a ≡ b
fits_is a b h = same_is a b h

-- ---- variables

pub zero_is : (n : ℕ) (t : FundamentalType) → HasType n (kind t) (zero_of t)
zero_is n Boolean = tt
zero_is n Char = tt
zero_is n I1 = tt
zero_is n U1 = tt
zero_is n I2 = tt
zero_is n U2 = tt
zero_is n I4 = tt
zero_is n U4 = tt
zero_is n I8 = tt
zero_is n U8 = tt

pub zeros_are : (n : ℕ) (ts : List FundamentalType) → HaveTypes n (map kind ts) (zeros_of ts)
zeros_are n [] = tt
zeros_are n (t ∷ ts) = (zero_is n t, zeros_are n ts)

abbrev pub IsStored : ℕ → FundamentalType → Value → Type 0
IsStored n t v = (u : Value) × (stored t v ≡ Some u) × HasType n (kind t) u

stored_int32 : (n k : ℕ) (t : FundamentalType) → kind t ≡ Int32 → IsStored n t (value.Int32 k)
stored_int32 n k Boolean e = (_, refl, tt)
stored_int32 n k Char e = (_, refl, tt)
stored_int32 n k I1 e = (_, refl, tt)
stored_int32 n k U1 e = (_, refl, tt)
stored_int32 n k I2 e = (_, refl, tt)
stored_int32 n k U2 e = (_, refl, tt)
stored_int32 n k I4 e = (_, refl, tt)
stored_int32 n k U4 e = (_, refl, tt)
stored_int32 n k I8 e = let bad : Int64 ≡ Int32 = e in cc
stored_int32 n k U8 e = let bad : Int64 ≡ Int32 = e in cc

stored_int64 : (n k : ℕ) (t : FundamentalType) → kind t ≡ Int64 → IsStored n t (value.Int64 k)
stored_int64 n k I8 e = (_, refl, tt)
stored_int64 n k U8 e = (_, refl, tt)
stored_int64 n k t e = let bad : Int32 ≡ Int64 = e in cc

kind_is : (t : FundamentalType) → (kind t ≡ Int32) ⊎ (kind t ≡ Int64)
kind_is I8 = inr refl
kind_is U8 = inr refl
kind_is t = inl refl

-- what is of a variable's type is stored in it
pub stored_is : (n : ℕ) (t : FundamentalType) (v : Value) → HasType n (kind t) v → IsStored n t v
stored_is n t v h = by_kind (kind_is t) where
  by_kind : (kind t ≡ Int32) ⊎ (kind t ≡ Int64) → IsStored n t v
  by_kind (inl e) = let i = int32_is n v (subst (λ z. HasType n z v) e h) in subst (λ z. IsStored n t z) (sym i.1) (stored_int32 n i.0 t e)
  by_kind (inr e) = let i = int64_is n v (subst (λ z. HasType n z v) e h) in subst (λ z. IsStored n t z) (sym i.1) (stored_int64 n i.0 t e)

pub stored_are : (n : ℕ) (ts : List FundamentalType) (vs : List Value) → HaveTypes n (map kind ts) vs → (us : List Value) × (stored_each ts vs ≡ Some us) × HaveTypes n (map kind ts) us
stored_are n [] [] h = ([], refl, tt)
stored_are n [] (v ∷ vs) h = absurd h
stored_are n (t ∷ ts) [] h = absurd h
stored_are n (t ∷ ts) (v ∷ vs) h =
    let one = stored_is n t v h.0 in
    let rest = stored_are n ts vs h.1 in
    (one.0 ∷ rest.0, ap (λ z. both z (stored_each ts vs)) one.1 ∙ ap (both (Some one.0)) rest.1, (one.2, rest.2))
