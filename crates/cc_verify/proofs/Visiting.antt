-- What a visit of an instruction finds, test by test.
use Rattle.std.proofs.Common.{◌≡◌, ℕ, length, inl, inr, refl, sym, ap, ◌∙◌, subst}
use Rattle.std.proofs.lemmas.Bool.{false≢true}
use Rattle.std.specs.Prelude.{Bool, true, false, Option, Some, None, IsTrue}
use Rattle.cc_verify.specs.declared.method.Method.{Method}
use Rattle.cc_verify.specs.declared.places.Place.{Place}
use Rattle.cc_verify.specs.declared.pass.Outcome.TheVariants as outcome
use Rattle.cc_verify.specs.declared.transition.Transition.{Transition}
use Rattle.cc_verify.specs.Transitions.{Stack, transition_of, is_built, effect, stores_fit, falls, jump, Leaves}
use Rattle.cc_verify.specs.Regions.{innermost_handler}
use Rattle.cc_verify.specs.Rules.{Before, IsFirst, Keeps, Meets, Brings, arrival, behind, is_aimed, has_room, runs_out, keeps_regions, stands}
use Rattle.cc_verify.specs.Passes.{Known, has_at, give_at, at_target, give_target, early, late, Visits, here_in, arrives, fallen_with}
use Rattle.cc_verify.proofs.Firsts.{early_first, early_none, late_first, late_none}

-- what is fallen in with is not what the place has
pub unmet : (m : Method) (known : Known) (p : Place) (fallen has : Option Stack) (new : Known) → has ≡ has_at known p.at → (Meets fallen has → ⊥) → Visits m known p fallen (outcome.Broken 4) new
unmet m known p fallen has new e n = inl ((λ h. n (subst (λ o. Meets fallen o) (sym e) h)), refl)

pub met : (known : Known) (p : Place) (fallen has : Option Stack) → has ≡ has_at known p.at → Meets fallen has → Meets fallen (has_at known p.at)
met known p fallen has e h = subst (λ o. Meets fallen o) e h

pub arrived : (known : Known) (p : Place) (fallen has : Option Stack) (s : Stack) → has ≡ has_at known p.at → s ≡ arrival fallen has → s ≡ arrives known p fallen
arrived known p fallen has s e a = a ∙ ap (λ o. arrival fallen o) e

module _ (m : Method) (known : Known) (p : Place) (fallen : Option Stack) (s : Stack) (meets : Meets fallen (has_at known p.at)) (is : s ≡ arrives known p fallen) where
  abbrev K : ℕ → Type 0
  K n = Keeps m (here_in known p s) n

  abbrev t : Transition
  t = transition_of p.instruction

  as_first : (rule : ℕ) (new : Known) → IsFirst K rule → Visits m known p fallen (outcome.Broken rule) new
  as_first rule new f = inr (meets, subst (λ x. IsFirst (Keeps m (here_in known p x)) rule) is f)

  pub early_broken : (rule : ℕ) (new : Known) → Some rule ≡ early m p t (length s) → Visits m known p fallen (outcome.Broken rule) new
  early_broken rule new e =
      as_first rule new (early_first K (is_built m.environment m.frame t) (is_aimed m t p.next) (has_room m t (length s)) (λ x. x) (λ x. x) (λ x. x) (λ x. x) (λ x. x) rule (sym e))

  three : None ≡ early m p t (length s) → Before K 3
  three e = early_none K (is_built m.environment m.frame t) (is_aimed m t p.next) (has_room m t (length s)) (λ x. x) (λ x. x) (λ x. x) (sym e)

  pub operands_broken : (new : Known) → None ≡ early m p t (length s) → effect m.environment m.frame t s ≡ None → Visits m known p fallen (outcome.Broken 3) new
  operands_broken new e n = as_first 3 new (record { before = three e; broken = λ x. let bad : None ≡ Some x.0 = sym n ∙ x.1 in cc })

  abbrev to : Option ℕ
  to = jump t p.next

  pub target_broken : (new : Known) (out : Stack) → None ≡ early m p t (length s) → effect m.environment m.frame t s ≡ Some out → (Brings (at_target (give_at known p.at s) to) to (Some out) → ⊥) → Visits m known p fallen (outcome.Broken 4) new
  target_broken new out e o n = as_first 4 new (record { before = (three e, (out, o)); broken = λ x. n (subst (λ b. Brings (at_target (give_at known p.at s) to) to b) o x) })

  five : (out : Stack) → None ≡ early m p t (length s) → effect m.environment m.frame t s ≡ Some out → Brings (at_target (give_at known p.at s) to) to (Some out) → Before K 5
  five out e o b = ((three e, (out, o)), subst (λ x. Brings (at_target (give_at known p.at s) to) to x) (sym o) b)

  pub late_broken : (rule : ℕ) (new : Known) (out : Stack) → None ≡ early m p t (length s) → effect m.environment m.frame t s ≡ Some out → Brings (at_target (give_at known p.at s) to) to (Some out) → Some rule ≡ late m p t s
      → Visits m known p fallen (outcome.Broken rule) new
  late_broken rule new out e o b l =
      as_first rule new
      (late_first K (runs_out t p.next m.size) (keeps_regions m p t s) (stands t (innermost_handler m.clauses p.at)) (stores_fit m.frame t s) (five out e o b)
      (λ x. x) (λ x. x) tt (λ x. x) (λ x. x) (λ x. x) (λ x. x) tt tt (λ x. x) rule (sym l))

  pub all_kept : (next : Option Stack) (new : Known) (out : Stack) → None ≡ early m p t (length s) → effect m.environment m.frame t s ≡ Some out → Brings (at_target (give_at known p.at s) to) to (Some out) → None ≡ late m p t s
      → next ≡ fallen_with (falls t) out → new ≡ give_target (give_at known p.at s) to out → Visits m known p fallen (outcome.Kept next) new
  all_kept next new out e o b l n w =
      let all : Before K 13 = late_none K (runs_out t p.next m.size) (keeps_regions m p t s) (stands t (innermost_handler m.clauses p.at)) (stores_fit m.frame t s) (five out e o b)
      (λ x. x) tt (λ x. x) (λ x. x) tt tt (λ x. x) tt (sym l) in
      (meets, subst (λ x. Before (Keeps m (here_in known p x)) 13) is all, out, subst (λ x. behind m (here_in known p x) ≡ Some out) is o, n, subst (λ x. new ≡ give_target (give_at known p.at x) to out) is w)

-- ---- what calls say, in the terms of the definitions

pub early_here : (m : Method) (p : Place) (t t' : Transition) (h h' : ℕ) (r : Option ℕ) → r ≡ early m p t h → t ≡ t' → h ≡ h' → r ≡ early m p t' h'
early_here m p t t' h h' r e a b = e ∙ ap (λ x. early m p x h) a ∙ ap (λ x. early m p t' x) b

pub late_here : (m : Method) (p : Place) (t t' : Transition) (s : Stack) (r : Option ℕ) → r ≡ late m p t s → t ≡ t' → r ≡ late m p t' s
late_here m p t t' s r e a = e ∙ ap (λ x. late m p x s) a

pub no_effect : (m : Method) (t t' : Transition) (s s' new : Stack) (ok : Bool) → Leaves ok (effect m.environment m.frame t s) new → ok ≡ false → t ≡ t' → s ≡ s' → effect m.environment m.frame t' s' ≡ None
no_effect m t t' s s' new ok l f a b =
    let none : effect m.environment m.frame t s ≡ None = subst (λ x. Leaves x (effect m.environment m.frame t s) new) f l in
    sym (ap (λ x. effect m.environment m.frame x s) a ∙ ap (λ x. effect m.environment m.frame t' x) b) ∙ none

pub an_effect : (m : Method) (t t' : Transition) (s s' new : Stack) (ok : Bool) → Leaves ok (effect m.environment m.frame t s) new → ok ≡ true → t ≡ t' → s ≡ s' → effect m.environment m.frame t' s' ≡ Some new
an_effect m t t' s s' new ok l f a b =
    let some : effect m.environment m.frame t s ≡ Some new = subst (λ x. Leaves x (effect m.environment m.frame t s) new) f l in
    sym (ap (λ x. effect m.environment m.frame x s) a ∙ ap (λ x. effect m.environment m.frame t' x) b) ∙ some

pub jump_here : (t t' : Transition) (next : ℕ) (at : Option ℕ) → at ≡ jump t next → t ≡ t' → at ≡ jump t' next
jump_here t t' next at e a = e ∙ ap (λ x. jump x next) a

pub given_at : (known k : Known) (place from : ℕ) (s : Stack) → k ≡ give_at known from s → from ≡ place → k ≡ give_at known place s
given_at known k place from s e a = e ∙ ap (λ x. give_at known x s) a

pub brings_not : (known k : Known) (at to' : Option ℕ) (out : Stack) (ok : Bool) → (Brings (at_target known at) at (Some out) → IsTrue ok) → ok ≡ false → known ≡ k → at ≡ to' → Brings (at_target k to') to' (Some out) → ⊥
brings_not known k at to' out ok back f a b h =
    let here : Brings (at_target known at) at (Some out) = subst (λ x. Brings (at_target x at) at (Some out)) (sym a) (subst (λ x. Brings (at_target k x) x (Some out)) (sym b) h) in
    absurd (false≢true (sym f ∙ back here))

pub brings_so : (known k : Known) (at to' : Option ℕ) (out : Stack) (ok : Bool) → (IsTrue ok → Brings (at_target known at) at (Some out)) → ok ≡ true → known ≡ k → at ≡ to' → Brings (at_target k to') to' (Some out)
brings_so known k at to' out ok there f a b =
    subst (λ x. Brings (at_target k x) x (Some out)) b (subst (λ x. Brings (at_target x at) at (Some out)) a (there f))

pub given_target : (known k new : Known) (to to' : Option ℕ) (out : Stack) → new ≡ give_target known to out → known ≡ k → to ≡ to' → new ≡ give_target k to' out
given_target known k new to to' out e a b = e ∙ ap (λ x. give_target x to out) a ∙ ap (λ x. give_target k x out) b

pub falls_on : (t t' : Transition) (b : Bool) (out : Stack) → b ≡ falls t → t ≡ t' → b ≡ true → Some out ≡ fallen_with (falls t') out
falls_on t t' b out e a f = ap (λ x. fallen_with x out) (sym f ∙ e ∙ ap falls a)

pub falls_off : (t t' : Transition) (b : Bool) (out : Stack) → b ≡ falls t → t ≡ t' → b ≡ false → None ≡ fallen_with (falls t') out
falls_off t t' b out e a f = ap (λ x. fallen_with x out) (sym f ∙ e ∙ ap falls a)
