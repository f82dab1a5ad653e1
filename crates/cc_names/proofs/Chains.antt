-- How searches go through chains of classes, and from a scope outwards.
use Rattle.std.proofs.Common.{◌≡◌, ℕ, zero, suc, ◌<◌, ◌-◌, List, [], ◌∷◌, ◌++◌, Bool, true, false, cond, not, ◌&&◌, ◌||◌, ◌==◌, Option, Some, None, refl, sym, ap, ◌∙◌, arith, ◌+◌, length, drop, get_or, drop-cons, add-one}
use Rattle.std.proofs.lemmas.List.{append-nil}
use Rattle.std.specs.Prelude.{slice_get, find}
use Rattle.std.specs.List.{flat_map, filter_map, cons_option}
use Rattle.cc_names.specs.declared.scope.Scope.{Scope}
use Rattle.cc_names.specs.declared.scope.Item.{Item}
use Rattle.cc_names.specs.declared.chain.Step.{Step}
use Rattle.cc_names.specs.declared.chain.Step.TheVariants as step
use Rattle.cc_names.specs.Lookup.{next_classes, chain_within, chain, nearest, is_member, hides, is_unhidden, in_scope, outwards, or_else, around_parts, same_within, or_none}
use Rattle.cc_names.specs.Chains.{is_reached, walk}

abbrev pub first_then : Step → Step → Step
first_then step.Reached other = step.Reached
first_then step.Hidden other = step.Hidden
first_then step.Passed other = other

module _ (scopes : List Scope) (items : List Item) where
  -- a chain, one class after another
  pub chain_next : (n class : ℕ) → 0 < n → chain_within scopes items n class ≡ class ∷ flat_map (chain_within scopes items (n - 1)) (next_classes scopes items (slice_get items class))
  chain_next zero class h = absurd (omega arith)
  chain_next (suc n) class h = ap (λ m. class ∷ flat_map (chain_within scopes items m) (next_classes scopes items (slice_get items class))) (omega arith)

  -- the chain of one class alone
  pub flat_one : (n class : ℕ) → flat_map (chain_within scopes items n) (class ∷ []) ≡ chain_within scopes items n class
  flat_one n class = append-nil (chain_within scopes items n class)

  module _ (numbers : List ℕ) where
    carried : (found s t u : Option ℕ) → s ≡ or_else scopes items numbers t u → (elim found [ None ↦ s | Some member ↦ Some member ]) ≡ or_else scopes items numbers (elim found [ None ↦ t | Some member ↦ Some member ]) u
    carried None s t u e = e
    carried (Some member) s t u e = refl

    pub nearest_append : (xs ys : List ℕ) → nearest scopes items numbers (xs ++ ys) ≡ or_else scopes items numbers (nearest scopes items numbers xs) (nearest scopes items numbers ys)
    nearest_append [] ys = refl
    nearest_append (class ∷ xs) ys = carried (find (is_member scopes items class) numbers) _ _ _ (nearest_append xs ys)

    spread : (a b : Bool) (s t u : Step) → s ≡ first_then t u → cond a step.Reached (cond b step.Hidden s) ≡ first_then (cond a step.Reached (cond b step.Hidden t)) u
    spread true b s t u e = refl
    spread false true s t u e = refl
    spread false false s t u e = e

    pub walk_append : (number : ℕ) (xs ys : List ℕ) → walk scopes items numbers number (xs ++ ys) ≡ first_then (walk scopes items numbers number xs) (walk scopes items numbers number ys)
    walk_append number [] ys = refl
    walk_append number (class ∷ xs) ys = spread (is_member scopes items class number) (hides scopes items numbers class number) _ _ _ (walk_append number xs ys)

    reached : (a b : Bool) (r : Bool) (s : Step) → r ≡ is_reached s → (a || (not b && r)) ≡ is_reached (cond a step.Reached (cond b step.Hidden s))
    reached true b r s e = refl
    reached false true r s e = refl
    reached false false r s e = e

    pub unhidden_reached : (classes : List ℕ) (number : ℕ) → is_unhidden scopes items numbers classes number ≡ is_reached (walk scopes items numbers number classes)
    unhidden_reached [] number = refl
    unhidden_reached (class ∷ classes) number = reached (is_member scopes items class number) (hides scopes items numbers class number) _ _ (unhidden_reached classes number)

    -- from a scope to the one around it
    pub outwards_next : (n at scope : ℕ) → 0 < n → outwards scopes items numbers n at (Some scope) ≡ (elim (slice_get scopes scope) [ None ↦ None | Some one ↦ or_else scopes items numbers (in_scope scopes items numbers at scope one.kind) (outwards scopes items numbers (n - 1) at one.parent) ])
    outwards_next zero at scope h = absurd (omega arith)
    outwards_next (suc n) at scope h =
        let same : suc n - 1 ≡ n = omega arith in
        ap (λ m. elim (slice_get scopes scope) [ None ↦ None | Some one ↦ or_else scopes items numbers (in_scope scopes items numbers at scope one.kind) (outwards scopes items numbers m at one.parent) ]) (sym same)

    pub outwards_none : (n at : ℕ) → outwards scopes items numbers n at None ≡ None
    outwards_none zero at = refl
    outwards_none (suc n) at = refl

-- whether two scopes are one, and those around them
pub same_next : (scopes : List Scope) (n first second : ℕ) → 0 < n → same_within n scopes first second
    ≡ (first == second || (elim (around_parts (slice_get scopes first) (slice_get scopes second)) [ None ↦ false | Some pair ↦ same_within (n - 1) scopes pair.0 pair.1 ]))
same_next scopes zero first second h = absurd (omega arith)
same_next scopes (suc n) first second h =
    let same : suc n - 1 ≡ n = omega arith in
    ap (λ m. first == second || (elim (around_parts (slice_get scopes first) (slice_get scopes second)) [ None ↦ false | Some pair ↦ same_within m scopes pair.0 pair.1 ])) (sym same)

-- a search that goes through lists of classes from their front, over the chains of some names
module _ {R : Type 0} (search_in : List ℕ → R) (combine : R → R → R) (law : (xs ys : List ℕ) → search_in (xs ++ ys) ≡ combine (search_in xs) (search_in ys)) (chain_of : ℕ → List ℕ) (class_of : List ℕ → Option ℕ) where
  one_more : (class : Option ℕ) (classes : List ℕ) → search_in (flat_map chain_of (cons_option class classes)) ≡ combine (search_in (flat_map chain_of (or_none class))) (search_in (flat_map chain_of classes))
  one_more None classes = law [] (flat_map chain_of classes)
  one_more (Some class) classes =
      law (chain_of class) (flat_map chain_of classes) ∙ ap (λ xs. combine (search_in xs) (search_in (flat_map chain_of classes))) (sym (append-nil (chain_of class)))

  pub next_name : (names : List (List ℕ)) (i : ℕ) (name : List ℕ) → i < length names → name ≡ get_or names i name
      → search_in (flat_map chain_of (filter_map class_of (drop i names))) ≡ combine (search_in (flat_map chain_of (or_none (class_of name)))) (search_in (flat_map chain_of (filter_map class_of (drop (i + 1) names))))
  next_name names i name h is =
      let opened = drop-cons names i name h in
      let here = sym is in
      rw (add-one, opened, here) (one_more (class_of name) (filter_map class_of (drop (suc i) names)))

pub ruleset nearest_rules = (chain_next, flat_one, nearest_append)

pub ruleset walk_rules = (chain_next, flat_one, walk_append)

pub ruleset outwards_rules = (outwards_next, outwards_none)
