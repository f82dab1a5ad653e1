-- Ways of pairs, and lists of pairs that are closed.
use Rattle.std.proofs.Common.{◌≡◌, ◌⊎◌, inl, inr, ℕ, zero, suc, ◌+◌, ◌-◌, ◌<◌, ◌≤◌, List, [], ◌∷◌, ◌++◌, Bool, true, false, ◌||◌, Option, Some, None, refl, sym, ap, subst, ◌∙◌, arith, length, add-zero}
use Rattle.std.proofs.lemmas.Bool.{cases_Bool}
use mathlib.Core.Logic.{⊎_elim}
use Rattle.std.specs.Prelude.{slice_get}
use Rattle.std.specs.List.{list_any}
use Rattle.std.specs.Str.{bytes_eq}
use Rattle.std.specs.Cmp.Lexicographic.{bytes_decides, nat_list_eq_equiv}
use Rattle.cc_names.specs.Keys.{Ways, places, leads_within, leads}
use Rattle.cc_names.specs.Reaching.{In, unused}

differ : false ≡ true → ⊥
differ e = cc

pub or_left : (a b : Bool) → a ≡ true → (a || b) ≡ true
or_left true b e = refl
or_left false b e = cc

pub or_right : (a b : Bool) → b ≡ true → (a || b) ≡ true
or_right true b e = refl
or_right false b e = e

or_none : (a b : Bool) → a ≡ false → b ≡ false → (a || b) ≡ false
or_none true b e f = cc
or_none false b e f = f

or_cases : (a b : Bool) → (a || b) ≡ true → (a ≡ true) ⊎ (b ≡ true)
or_cases true b e = inl refl
or_cases false b e = inr e

any_at : (p : ℕ → Bool) (xs : List ℕ) (at x : ℕ) → slice_get xs at ≡ Some x → p x ≡ true → list_any p xs ≡ true
any_at p [] at x e h = cc
any_at p (y ∷ xs) zero x e h =
    let same : y ≡ x = cc in
    or_left (p y) (list_any p xs) (ap p same ∙ h)
any_at p (y ∷ xs) (suc at) x e h = or_right (p y) (list_any p xs) (any_at p xs at x e h)

abbrev pub Found : (ℕ → Bool) → List ℕ → Type 0
Found p xs = (x : ℕ) × ((In xs x) × (p x ≡ true))

pub any_from : (p : ℕ → Bool) (xs : List ℕ) → list_any p xs ≡ true → Found p xs
any_from p [] e = absurd (differ e)
any_from p (y ∷ xs) e =
    ⊎_elim
    (λ h. (y, ((0, refl), h)))
    (λ h. let found = any_from p xs h in (found.0, ((suc found.1.0.0, found.1.0.1), found.1.1)))
    (or_cases (p y) (list_any p xs) e)

any_none : (p : ℕ → Bool) (xs : List ℕ) → ((x : ℕ) → In xs x → p x ≡ false) → list_any p xs ≡ false
any_none p [] h = refl
any_none p (y ∷ xs) h = or_none (p y) (list_any p xs) (h y (0, refl)) (any_none p xs (λ x found. h x (suc found.0, found.1)))

abbrev on_second : (List ℕ → Bool) → Option (List ℕ) → Bool
on_second f second = elim second [ None ↦ false | Some name ↦ f name ]

second_true : (f : List ℕ → Bool) (second : Option (List ℕ)) → on_second f second ≡ true → (name : List ℕ) × ((second ≡ Some name) × (f name ≡ true))
second_true f None e = absurd (differ e)
second_true f (Some name) e = (name, (refl, e))

second_none : (f : List ℕ → Bool) (second : Option (List ℕ)) → ((name : List ℕ) → second ≡ Some name → f name ≡ false) → on_second f second ≡ false
second_none f None h = refl
second_none f (Some name) h = h name refl

same_bytes : (a : List ℕ) → bytes_eq a a ≡ true
same_bytes a = nat_list_eq_equiv.refl a

module _ (ways : Ways) where
  -- a step from a name, and then further ones
  pub step_front : (n : ℕ) (from name to : List ℕ) (pair : ℕ) → In (places ways.firsts from) pair → slice_get ways.seconds pair ≡ Some name → leads_within n ways name to ≡ true → leads_within (suc n) ways from to ≡ true
  step_front n from name to pair found e h =
      or_right (bytes_eq from to) _
      (any_at (λ number. on_second (λ second. leads_within n ways second to) (slice_get ways.seconds number)) (places ways.firsts from) found.0 pair found.1
      (ap (on_second (λ second. leads_within n ways second to)) e ∙ h))

  pub here : (n : ℕ) (name : List ℕ) → leads_within n ways name name ≡ true
  here zero name = same_bytes name
  here (suc n) name = or_left (bytes_eq name name) _ (same_bytes name)

  step_at : (n : ℕ) (from over to : List ℕ) (pair : ℕ) → bytes_eq from over ≡ true → In (places ways.firsts over) pair → slice_get ways.seconds pair ≡ Some to → leads_within (suc n) ways from to ≡ true
  step_at n from over to pair e found f =
      step_front n from to to pair (subst (λ name. In (places ways.firsts name) pair) (sym ((bytes_decides from over).0 e)) found) f (here n to)

  -- steps, and then one further
  pub step_back : (n : ℕ) (from over to : List ℕ) (pair : ℕ) → leads_within n ways from over ≡ true → In (places ways.firsts over) pair → slice_get ways.seconds pair ≡ Some to → leads_within (suc n) ways from to ≡ true
  step_back zero from over to pair h found f = step_at 0 from over to pair h found f
  step_back (suc n) from over to pair h found f =
      ⊎_elim
      (λ e. step_at (suc n) from over to pair e found f)
      (λ e.
      let first = any_from (λ number. on_second (λ second. leads_within n ways second over) (slice_get ways.seconds number)) (places ways.firsts from) e in
      let next = second_true (λ second. leads_within n ways second over) (slice_get ways.seconds first.0) first.1.1 in
      step_front (suc n) from next.0 to first.0 first.1.0 next.1.0 (step_back n next.0 over to pair next.1.1 found f))
      (or_cases (bytes_eq from over) _ h)

  one_more : (n : ℕ) (from to : List ℕ) → leads_within n ways from to ≡ true → leads_within (suc n) ways from to ≡ true
  one_more zero from to h = or_left (bytes_eq from to) _ h
  one_more (suc n) from to h =
      ⊎_elim
      (λ e. or_left (bytes_eq from to) _ e)
      (λ e.
      let first = any_from (λ number. on_second (λ second. leads_within n ways second to) (slice_get ways.seconds number)) (places ways.firsts from) e in
      let next = second_true (λ second. leads_within n ways second to) (slice_get ways.seconds first.0) first.1.1 in
      step_front (suc n) from next.0 to first.0 first.1.0 next.1.0 (one_more n next.0 to next.1.1))
      (or_cases (bytes_eq from to) _ h)

  more : (k n m : ℕ) (from to : List ℕ) → m ≡ k + n → leads_within n ways from to ≡ true → leads_within m ways from to ≡ true
  more zero n m from to e h =
      let same : n ≡ m = omega arith in
      subst (λ j. leads_within j ways from to ≡ true) same h
  more (suc k) n m from to e h =
      let same : suc (k + n) ≡ m = omega arith in
      subst (λ j. leads_within j ways from to ≡ true) same (one_more (k + n) from to (more k n (k + n) from to refl h))

  pub at_most : (n m : ℕ) (from to : List ℕ) → n ≤ m → leads_within n ways from to ≡ true → leads_within m ways from to ≡ true
  at_most n m from to h led = more (m - n) n m from to (omega arith) led

  -- a name leads to itself
  pub same_leads : (n : ℕ) (from to : List ℕ) → bytes_eq from to ≡ true → leads_within n ways from to ≡ true
  same_leads zero from to e = e
  same_leads (suc n) from to e = or_left (bytes_eq from to) _ e

  -- where a list of pairs is closed and none in it leads to a name in one step, no steps lead there
  module _ (from to : List ℕ) (order : List ℕ) (apart_first : bytes_eq from to ≡ false) (start : (pair : ℕ) → In (places ways.firsts from) pair → In order pair)
      (onward : (pair : ℕ) (name : List ℕ) (other : ℕ) → In order pair → slice_get ways.seconds pair ≡ Some name → In (places ways.firsts name) other → In order other)
      (apart : (pair : ℕ) (name : List ℕ) → In order pair → slice_get ways.seconds pair ≡ Some name → bytes_eq name to ≡ false) where
    known_apart : (n : ℕ) (pair : ℕ) (name : List ℕ) → In order pair → slice_get ways.seconds pair ≡ Some name → leads_within n ways name to ≡ false
    known_apart zero pair name found e = apart pair name found e
    known_apart (suc n) pair name found e =
        or_none (bytes_eq name to) _ (apart pair name found e)
        (any_none (λ number. on_second (λ second. leads_within n ways second to) (slice_get ways.seconds number)) (places ways.firsts name)
        (λ other there. second_none (λ second. leads_within n ways second to) (slice_get ways.seconds other) (λ next f. known_apart n other next (onward pair name other found e there) f)))

    pub never : (n : ℕ) → leads_within n ways from to ≡ false
    never zero = apart_first
    never (suc n) =
        or_none (bytes_eq from to) _ apart_first
        (any_none (λ number. on_second (λ second. leads_within n ways second to) (slice_get ways.seconds number)) (places ways.firsts from)
        (λ other there. second_none (λ second. leads_within n ways second to) (slice_get ways.seconds other) (λ next f. known_apart n other next (start other there) f)))
