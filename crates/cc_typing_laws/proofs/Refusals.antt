-- What holds of what is judged, unless it is refused.
use Rattle.std.proofs.Common.{◌≡◌, Bool, true, false, cond, Ok, Err, refl}
use Rattle.std.specs.Prelude.{⊤}
use Rattle.cc_operations.specs.Judgements.{Judged, next}

-- What is judged to be something has a property, unless it is refused.
abbrev pub Unless : {A : Type 0} → (A → Type 0) → Judged A → Type 0
Unless P (Ok made) = P made
Unless P (Err refusal) = ⊤

pub next_unless : {A B : Type 0} (P : A → Type 0) (Q : B → Type 0) (judged : Judged A) (step : A → Judged B) → Unless P judged → ((made : A) → P made → Unless Q (step made)) → Unless Q (next judged step)
next_unless P Q (Ok made) step h k = k made h
next_unless P Q (Err refusal) step h k = tt

-- refused where a test holds
pub unless_cond : {A : Type 0} (P : A → Type 0) (test : Bool) (one other : Judged A) → Unless P one → (test ≡ false → Unless P other) → Unless P (cond test one other)
unless_cond P true one other h k = h
unless_cond P false one other h k = k refl

-- what holds of what is judged under any fact of an index
pub unless_given : {A I : Type 0} (G : I → Type 0) (P : I → A → Type 0) (judged : Judged A) → ((i : I) → G i → Unless (P i) judged) → Unless (λ made. (i : I) → G i → P i made) judged
unless_given G P (Ok made) h = h
unless_given G P (Err refusal) h = tt

pub unless_any : {A : Type 0} (judged : Judged A) → Unless (λ made. ⊤) judged
unless_any (Ok made) = tt
unless_any (Err refusal) = tt

pub unless_all : {A : Type 0} (P : A → Type 0) (judged : Judged A) → ((made : A) → P made) → Unless P judged
unless_all P (Ok made) h = h made
unless_all P (Err refusal) h = tt

pub unless_map : {A : Type 0} (P Q : A → Type 0) (judged : Judged A) → ((made : A) → P made → Q made) → Unless P judged → Unless Q judged
unless_map P Q (Ok made) h k = h made k
unless_map P Q (Err refusal) h k = tt

pub unless_both : {A : Type 0} (P Q : A → Type 0) (judged : Judged A) → Unless P judged → Unless Q judged → Unless (λ made. P made × Q made) judged
unless_both P Q (Ok made) h k = (h, k)
unless_both P Q (Err refusal) h k = tt

-- a test that lets on where it holds
pub unless_may : {A : Type 0} (P : A → Type 0) (test : Bool) (one other : Judged A) → (test ≡ true → Unless P one) → Unless P other → Unless P (cond test one other)
unless_may P true one other h k = h refl
unless_may P false one other h k = k
