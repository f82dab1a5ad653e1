-- What the search for the best candidate keeps.
use Rattle.std.proofs.Common.{◌≡◌, ℕ, ◌+◌, ◌<◌, Bool, true, false, ◌&&◌, List, Some, get_or, slice_get, refl, sym, ◌∙◌, subst, ⊎_elim, arith}
use Rattle.std.proofs.lemmas.Bool.{cases_eq}
use Rattle.std.proofs.lemmas.Option.{get_or_from_slice_get}
use Rattle.cc_core.specs.declared.types.ClassInfo.{ClassInfo}
use Rattle.cc_core.specs.declared.types.CoreType.{CoreType}
use Rattle.cc_convert.specs.declared.overload.Signature.{Signature}
use Rattle.cc_convert.specs.Overloads.{IsBetter, IsBetterAt, Beats, IsViableAt, BeatsAt, BeatsOthers}

pub same_some : {X : Type 0} (a b : X) → Some a ≡ Some b → a ≡ b
same_some a b e = cc

both : (a b : Bool) → a && b ≡ true → (a ≡ true) × (b ≡ true)
both true b h = (refl, h)
both false b h = cc

-- an element that is read is the one at its place
pub read_is : {X : Type 0} (xs : List X) (at : ℕ) (read is : X) → slice_get xs at ≡ Some is → read ≡ get_or xs at read → read ≡ is
read_is xs at read is e r = r ∙ get_or_from_slice_get xs at is read e

-- no argument converts better at a place where it doesn't
pub not-better : (classes : List ClassInfo) (given first second : List CoreType) (at : ℕ) (argument one other : CoreType) → argument ≡ get_or given at argument → one ≡ get_or first at one → other ≡ get_or second at other → (IsBetter classes argument one other → ⊥) → IsBetterAt classes given first second at → ⊥
not-better classes given first second at argument one other a p q none h =
    let a' = sym (read_is given at argument h.argument h.argument_is a) in
    let p' = sym (read_is first at one h.one h.one_is p) in
    let q' = sym (read_is second at other h.other h.other_is q) in
    none (subst (λ x. IsBetter classes x one other) a' (subst (λ x. IsBetter classes h.argument x other) p' (subst (λ x. IsBetter classes h.argument h.one x) q' h.better)))

-- of two candidates at most one beats the other
pub asymmetric : (classes : List ClassInfo) (given : List CoreType) (candidates : List Signature) (one other : ℕ) → BeatsAt classes given candidates one other → BeatsAt classes given candidates other one → ⊥
asymmetric classes given candidates one other a b =
    let first = same_some b.second a.first (sym b.second_is ∙ a.first_is) in
    let second = same_some b.first a.second (sym b.first_is ∙ a.second_is) in
    let beaten = subst (λ s. Beats classes given s a.first) second (subst (λ s. Beats classes given b.first s) first b.beats) in
    a.beats.none_worse beaten.one_better

module _ (classes : List ClassInfo) (given : List CoreType) (candidates : List Signature) (best at : ℕ)
    (viable : IsViableAt classes given candidates best)
    (only : (k : ℕ) → k < at → IsViableAt classes given candidates k → BeatsOthers classes given candidates k → k ≡ best) where
  -- a candidate that the best one so far doesn't beat takes its place
  pub best-next : IsViableAt classes given candidates at → (BeatsAt classes given candidates best at → ⊥) → (k : ℕ) → k < at + 1 → IsViableAt classes given candidates k → BeatsOthers classes given candidates k → k ≡ at
  best-next v n k h w b =
      ⊎_elim (λ e. e)
      (λ apart. let same : k ≡ best = only k (omega arith) w b in
      ⊎_elim (λ e. same ∙ sym e) (λ other. absurd (n (subst (λ x. BeatsAt classes given candidates x at) same (b at v (λ e. other (e ∙ same)))))) (cases_eq at best))
      (cases_eq k at)

  -- a candidate that isn't viable, or that the best one so far beats, isn't the best
  pub best-kept : (IsViableAt classes given candidates at → BeatsAt classes given candidates best at) → (k : ℕ) → k < at + 1 → IsViableAt classes given candidates k → BeatsOthers classes given candidates k → k ≡ best
  best-kept beaten k h w b =
      ⊎_elim
      (λ e. ⊎_elim (λ s. s)
      (λ apart. absurd (asymmetric classes given candidates k best (b best viable (λ x. apart (sym x))) (subst (λ x. BeatsAt classes given candidates best x) (sym e) (beaten (subst (IsViableAt classes given candidates) e w)))))
      (cases_eq k best))
      (λ apart. only k (omega arith) w b)
      (cases_eq k at)
