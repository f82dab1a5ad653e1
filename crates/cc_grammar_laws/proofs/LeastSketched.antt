-- What is said of heights that are not known holds of all heights.
use Rattle.std.proofs.Common.{◌≡◌, ℕ, zero, suc, ◌+◌, ◌≤◌, max, refl, sym, ap, ◌∙◌, subst, List, [], ◌∷◌, ◌++◌, map, drop, get_or, Option, Some, None, Bool, true, false, cond, ◌||◌, leb, nat_eq, true≢false, arith, zero-le, le_refl, le_trans}
use Rattle.std.proofs.lemmas.Bool.{eqb-true, leb-true}
use Rattle.cc_table.specs.declared.symbols.Sort.{Sort}
use Rattle.cc_table.specs.declared.symbols.Symbol.{Symbol}
use Rattle.cc_table.specs.declared.symbols.Symbol.TheVariants.{Non, Act, Back}
use Rattle.cc_table.specs.Sizes.{uses, nests, leaves, takes, receives, adds, least}
use Rattle.cc_grammar_laws.specs.Heights.{Heights, heights, tallest, is_tree, part_height, left_over, raised, raised_all, least_depth}
use Rattle.cc_table.specs.declared.sizes.Remains.{Remains}
use Rattle.cc_table.specs.declared.sizes.Remains.TheVariants.{Nothing, OneValue, OneInput}
use Rattle.cc_grammar_laws.proofs.KindsKept.{both, not_none, some_same}
use Rattle.cc_grammar_laws.proofs.LeastOfParts.{Term, constant, waits, place, lifted_term, lifted, covers_term, covered_term, covered, covered_all, Sketch, with_term, lifted_off, sketch_left, sketch_part, sketch_act, sketch_back, sketched, sketched_all, at_least}

-- Heights that are no higher than others.
abbrev pub NoHigher : List ℕ → List ℕ → Type 0
NoHigher [] ys = Unit {0}
NoHigher (x ∷ xs) [] = ⊥
NoHigher (x ∷ xs) (y ∷ ys) = (x ≤ y) × NoHigher xs ys

abbrev pub AllNoHigher : Heights → Heights → Type 0
AllNoHigher h k = (h.pending ≤ k.pending) × NoHigher h.stack k.stack

pub no_higher_same : (xs : List ℕ) → NoHigher xs xs
no_higher_same [] = tt
no_higher_same (x ∷ xs) = (le_refl x, no_higher_same xs)

no_higher_through : (xs ys zs : List ℕ) → NoHigher xs ys → NoHigher ys zs → NoHigher xs zs
no_higher_through [] ys zs h k = tt
no_higher_through (x ∷ xs) [] zs h k = absurd h
no_higher_through (x ∷ xs) (y ∷ ys) [] h k = absurd k
no_higher_through (x ∷ xs) (y ∷ ys) (z ∷ zs) h k = (le_trans h.0 k.0, no_higher_through xs ys zs h.1 k.1)

pub through : (h k l : Heights) → AllNoHigher h k → AllNoHigher k l → AllNoHigher h l
through h k l f g = (le_trans f.0 g.0, no_higher_through h.stack k.stack l.stack f.1 g.1)

pub same_heights : (h : Heights) → AllNoHigher h h
same_heights h = (le_refl h.pending, no_higher_same h.stack)

pub tallest_grows : (n : ℕ) (xs ys : List ℕ) → NoHigher xs ys → tallest n xs ≤ tallest n ys
tallest_grows zero xs ys h = le_refl 0
tallest_grows (suc n) [] ys h = zero-le
tallest_grows (suc n) (x ∷ xs) [] h = absurd h
tallest_grows (suc n) (x ∷ xs) (y ∷ ys) h =
    let r : tallest n xs ≤ tallest n ys = tallest_grows n xs ys h.1 in
    let f : x ≤ y = h.0 in
    omega arith

pub drop_grows : (n : ℕ) (xs ys : List ℕ) → NoHigher xs ys → NoHigher (drop n xs) (drop n ys)
drop_grows zero xs ys h = h
drop_grows (suc n) [] ys h = tt
drop_grows (suc n) (x ∷ xs) [] h = absurd h
drop_grows (suc n) (x ∷ xs) (y ∷ ys) h = drop_grows n xs ys h.1

cond_grows : (test : Bool) (x y : ℕ) → x ≤ y → cond test x 0 ≤ cond test y 0
cond_grows true x y h = h
cond_grows false x y h = le_refl 0

left_grows : (what : Remains) (x y : ℕ) (xs ys : List ℕ) → x ≤ y → NoHigher xs ys → AllNoHigher (left_over what x xs) (left_over what y ys)
left_grows Nothing x y xs ys h hs = (le_refl 0, hs)
left_grows OneValue x y xs ys h hs = (le_refl 0, (h, hs))
left_grows OneInput x y xs ys h hs = (h, hs)

part_grows : (l a p q x y : ℕ) → p ≤ q → x ≤ y → max l (max p x + a) ≤ max l (max q y + a)
part_grows l a p q x y h k = omega arith

pub raised_grows : (symbol : Symbol) (h k : Heights) → AllNoHigher h k → AllNoHigher (raised symbol h) (raised symbol k)
raised_grows (Non sort) h k g =
    left_grows (leaves sort) (part_height sort h) (part_height sort k) (drop (takes sort) h.stack) (drop (takes sort) k.stack)
    (part_grows (least sort) (adds sort) (cond (receives sort) h.pending 0) (cond (receives sort) k.pending 0) (tallest (takes sort) h.stack) (tallest (takes sort) k.stack)
    (cond_grows (receives sort) h.pending k.pending g.0) (tallest_grows (takes sort) h.stack k.stack g.1))
    (drop_grows (takes sort) h.stack k.stack g.1)
raised_grows (Act action) h k g =
    let t : tallest (uses action) h.stack ≤ tallest (uses action) k.stack = tallest_grows (uses action) h.stack k.stack g.1 in
    (g.0, (omega arith, drop_grows (uses action) h.stack k.stack g.1))
raised_grows (Back input) h k g =
    (cond_grows (is_tree input) (tallest 1 h.stack) (tallest 1 k.stack) (tallest_grows 1 h.stack k.stack g.1), drop_grows 1 h.stack k.stack g.1)

pub all_grow : (more : List Symbol) (h k : Heights) → AllNoHigher h k → AllNoHigher (raised_all more h) (raised_all more k)
all_grow [] h k g = g
all_grow (symbol ∷ more) h k g = all_grow more (raised symbol h) (raised symbol k) (raised_grows symbol h k g)

pub depth_grows : (more : List Symbol) (h k : Heights) → AllNoHigher h k → least_depth more h ≤ least_depth more k
depth_grows more h k g = tallest_grows 1 (raised_all more h).stack (raised_all more k).stack (all_grow more h k g).1

pub raised-append : (part more : List Symbol) (h : Heights) → raised_all (part ++ more) h ≡ raised_all more (raised_all part h)
raised-append [] more h = refl
raised-append (symbol ∷ part) more h = raised-append part more (raised symbol h)

-- what a term is for these heights
abbrev pub measured : ℕ → List ℕ → Term → ℕ
measured p xs (constant n) = n
measured p xs (waits n) = p + n
measured p xs (place at n) = get_or xs at 0 + n

abbrev pub measure : ℕ → List ℕ → List Term → ℕ
measure p xs [] = 0
measure p xs (term ∷ terms) = max (measured p xs term) (measure p xs terms)

module _ (p : ℕ) (xs : List ℕ) where
  pub measure-append : (ones others : List Term) → measure p xs (ones ++ others) ≡ max (measure p xs ones) (measure p xs others)
  measure-append [] others = omega arith
  measure-append (one ∷ ones) others =
      let e : measure p xs (ones ++ others) ≡ max (measure p xs ones) (measure p xs others) = measure-append ones others in
      omega (arith, e)

  lifted_one : (k : ℕ) (term : Term) → measured p xs (lifted_term k term) ≡ measured p xs term + k
  lifted_one k (constant n) = refl
  lifted_one k (waits n) = omega arith
  lifted_one k (place at n) = omega arith

  pub measure-lifted : (k : ℕ) (terms : List Term) → measure p xs (lifted k terms) ≡ measure p xs terms + k
  measure-lifted k [] = omega arith
  measure-lifted k (term ∷ terms) =
      let e : max k (measure p xs (map (lifted_term k) terms)) ≡ measure p xs terms + k = measure-lifted k terms in
      let f : measured p xs (lifted_term k term) ≡ measured p xs term + k = lifted_one k term in
      omega (arith, e, f)

  covers : (term other : Term) → covers_term term other ≡ true → measured p xs term ≤ measured p xs other
  covers (constant n) (constant m) h = leb-true n m h
  covers (constant n) (waits m) h = let l : n ≤ m = leb-true n m h in omega arith
  covers (constant n) (place at m) h = let l : n ≤ m = leb-true n m h in omega arith
  covers (waits n) (waits m) h = let l : n ≤ m = leb-true n m h in omega arith
  covers (place at n) (place other m) h =
      let two = both (nat_eq at other) (leb n m) h in
      let l : n ≤ m = leb-true n m two.1 in
      subst (λ k. get_or xs at 0 + n ≤ get_or xs k 0 + m) (eqb-true at other two.0) (omega arith)
  covers (waits n) (constant m) h = absurd (true≢false (sym h))
  covers (waits n) (place at m) h = absurd (true≢false (sym h))
  covers (place at n) (constant m) h = absurd (true≢false (sym h))
  covers (place at n) (waits m) h = absurd (true≢false (sym h))

  covered_one : (term other : Term) (others : List Term) → (covers_term term other || covered_term term others) ≡ true → (covered_term term others ≡ true → measured p xs term ≤ measure p xs others)
      → measured p xs term ≤ max (measured p xs other) (measure p xs others)
  covered_one term other others h deeper = go (covers_term term other) refl h
    where
      go : (test : Bool) → covers_term term other ≡ test → (test || covered_term term others) ≡ true → measured p xs term ≤ max (measured p xs other) (measure p xs others)
      go true c h' = let l : measured p xs term ≤ measured p xs other = covers term other c in omega arith
      go false c h' = let l : measured p xs term ≤ measure p xs others = deeper h' in omega arith

  within : (term : Term) (others : List Term) → covered_term term others ≡ true → measured p xs term ≤ measure p xs others
  within (constant zero) others h = zero-le
  within term [] h = absurd (true≢false (sym h))
  within term (other ∷ others) h = covered_one term other others h (λ h'. within term others h')

  pub all_within : (terms others : List Term) → covered terms others ≡ true → measure p xs terms ≤ measure p xs others
  all_within [] others h = zero-le
  all_within (term ∷ terms) others h =
      let two = both (covered_term term others) (covered terms others) h in
      let l : measured p xs term ≤ measure p xs others = within term others two.0 in
      let r : measure p xs terms ≤ measure p xs others = all_within terms others two.1 in
      omega arith

  module _ (rest : List ℕ) where
    abbrev pub real_stack : List (List Term) → List ℕ
    real_stack stack = map (measure p xs) stack ++ rest

    -- a sketch for these heights, above others
    abbrev pub real : Sketch → Heights
    real s = heights (measure p xs s.pending) (real_stack s.stack)

    pub stacks_within : (ones others : List (List Term)) → covered_all ones others ≡ true → NoHigher (real_stack ones) (real_stack others)
    stacks_within [] [] h = no_higher_same rest
    stacks_within (one ∷ ones) (other ∷ others) h =
        let two = both (covered one other) (covered_all ones others) h in
        (all_within one other two.0, stacks_within ones others two.1)
    stacks_within [] (other ∷ others) h = absurd (true≢false (sym h))
    stacks_within (one ∷ ones) [] h = absurd (true≢false (sym h))

    -- what is lifted off, and what is left
    abbrev Off : ℕ → List (List Term) → List Term × List (List Term) → Type 0
    Off n stack r = (tallest n (real_stack stack) ≡ measure p xs r.0) × (drop n (real_stack stack) ≡ real_stack r.1)

    off_more : (n : ℕ) (one : List Term) (stack : List (List Term)) (off : Option (List Term × List (List Term))) (r : List Term × List (List Term))
        → ((q : List Term × List (List Term)) → off ≡ Some q → Off n stack q) → with_term one off ≡ Some r → Off (suc n) (one ∷ stack) r
    off_more n one stack None r f e = absurd (not_none e)
    off_more n one stack (Some (terms, low)) r f e =
        let inner : Off n stack (terms, low) = f (terms, low) refl in
        let m : measure p xs (one ++ terms) ≡ max (measure p xs one) (measure p xs terms) = measure-append one terms in
        subst (λ q. Off (suc n) (one ∷ stack) q) (some_same e) (ap (max (measure p xs one)) inner.0 ∙ sym m, inner.1)

    off : (n : ℕ) (stack : List (List Term)) (r : List Term × List (List Term)) → lifted_off n stack ≡ Some r → Off n stack r
    off zero stack r e = subst (λ q. Off zero stack q) (some_same e) (refl, refl)
    off (suc n) [] r e = absurd (not_none e)
    off (suc n) (one ∷ stack) r e = off_more n one stack (lifted_off n stack) r (λ q d. off n stack q d) e

    abbrev Same : Heights → Option Sketch → Type 0
    Same h None = Unit {0}
    Same h (Some s) = h ≡ real s

    left_same : (what : Remains) (terms : List Term) (low : List (List Term)) → left_over what (measure p xs terms) (real_stack low) ≡ real (sketch_left what terms low)
    left_same Nothing terms low = refl
    left_same OneValue terms low = refl
    left_same OneInput terms low = refl

    received : (test : Bool) (pending terms : List Term) → max (cond test (measure p xs pending) 0) (measure p xs terms) ≡ measure p xs (cond test pending [] ++ terms)
    received true pending terms = sym (measure-append pending terms)
    received false pending terms = omega arith

    part_same : (sort : Sort) (s : Sketch) (o : Option (List Term × List (List Term))) → lifted_off (takes sort) s.stack ≡ o → Same (raised (Non sort) (real s)) (sketch_part sort s.pending o)
    part_same sort s None e = tt
    part_same sort s (Some (terms, low)) e =
        let d : Off (takes sort) s.stack (terms, low) = off (takes sort) s.stack (terms, low) e in
        let all : List Term = cond (receives sort) s.pending [] ++ terms in
        let r : max (cond (receives sort) (measure p xs s.pending) 0) (measure p xs terms) ≡ measure p xs all = received (receives sort) s.pending terms in
        let g : part_height sort (real s) ≡ measure p xs (constant (least sort) ∷ lifted (adds sort) all) =
        ap (λ t. max (least sort) (max (cond (receives sort) (measure p xs s.pending) 0) t + adds sort)) d.0
        ∙ (ap (λ t. max (least sort) (t + adds sort)) r ∙ ap (max (least sort)) (sym (measure-lifted (adds sort) all))) in
        ap (λ t. left_over (leaves sort) t (drop (takes sort) (real_stack s.stack))) g
        ∙ (ap (left_over (leaves sort) (measure p xs (constant (least sort) ∷ lifted (adds sort) all))) d.1 ∙ left_same (leaves sort) (constant (least sort) ∷ lifted (adds sort) all) low)

    act_same : (uses_some k : ℕ) (s : Sketch) (o : Option (List Term × List (List Term))) → lifted_off uses_some s.stack ≡ o
        → Same (heights (measure p xs s.pending) ((tallest uses_some (real_stack s.stack) + k) ∷ drop uses_some (real_stack s.stack))) (sketch_act k s.pending o)
    act_same uses_some k s None e = tt
    act_same uses_some k s (Some (terms, low)) e =
        let d : Off uses_some s.stack (terms, low) = off uses_some s.stack (terms, low) e in
        ap (λ t. heights (measure p xs s.pending) ((t + k) ∷ drop uses_some (real_stack s.stack))) d.0
        ∙ (ap (λ t. heights (measure p xs s.pending) ((measure p xs terms + k) ∷ t)) d.1
        ∙ ap (λ t. heights (measure p xs s.pending) (t ∷ real_stack low)) (sym (measure-lifted k terms)))

    back_same : (brings : Bool) (s : Sketch) (o : Option (List Term × List (List Term))) → lifted_off 1 s.stack ≡ o
        → Same (heights (cond brings (tallest 1 (real_stack s.stack)) 0) (drop 1 (real_stack s.stack))) (sketch_back brings o)
    back_same brings s None e = tt
    back_same true s (Some (terms, low)) e =
        let d : Off 1 s.stack (terms, low) = off 1 s.stack (terms, low) e in
        ap (λ t. heights t (drop 1 (real_stack s.stack))) d.0 ∙ ap (heights (measure p xs terms)) d.1
    back_same false s (Some (terms, low)) e =
        let d : Off 1 s.stack (terms, low) = off 1 s.stack (terms, low) e in
        ap (heights 0) d.1

    symbol_same : (symbol : Symbol) (s : Sketch) → Same (raised symbol (real s)) (sketched symbol s)
    symbol_same (Non sort) s = part_same sort s (lifted_off (takes sort) s.stack) refl
    symbol_same (Act action) s = act_same (uses action) (nests action) s (lifted_off (uses action) s.stack) refl
    symbol_same (Back input) s = back_same (is_tree input) s (lifted_off 1 s.stack) refl

    same_some : (h : Heights) (o : Option Sketch) (s : Sketch) → Same h o → o ≡ Some s → h ≡ real s
    same_some h None s g e = absurd (not_none e)
    same_some h (Some t) s g e = g ∙ ap real (some_same e)

    pub sketch_is : (symbol : Symbol) (s t : Sketch) → sketched symbol s ≡ Some t → raised symbol (real s) ≡ real t
    sketch_is symbol s t e = same_some (raised symbol (real s)) (sketched symbol s) t (symbol_same symbol s) e

    sketched_none : (part : List Symbol) (t : Sketch) → sketched_all part None ≡ Some t → ⊥
    sketched_none [] t e = not_none e
    sketched_none (symbol ∷ part) t e = sketched_none part t e

    pub sketches_are : (part : List Symbol) (s t : Sketch) → sketched_all part (Some s) ≡ Some t → raised_all part (real s) ≡ real t
    sketches_are [] s t e = ap real (some_same e)
    sketches_are (symbol ∷ part) s t e = go (sketched symbol s) refl e (λ q. sketches_are part q t)
      where
        go : (o : Option Sketch) → sketched symbol s ≡ o → sketched_all part o ≡ Some t → ((q : Sketch) → sketched_all part (Some q) ≡ Some t → raised_all part (real q) ≡ real t) → raised_all part (raised symbol (real s)) ≡ real t
        go None d e' deeper = absurd (sketched_none part t e')
        go (Some q) d e' deeper = subst (λ h. raised_all part h ≡ real t) (sym (sketch_is symbol s q d)) (deeper q e')

    -- One symbol leaves no more than a part does.
    pub leaves_less : (symbol : Symbol) (part : List Symbol) (s t : Sketch) → at_least (sketched symbol s) (sketched_all part (Some t)) ≡ true → AllNoHigher (raised symbol (real s)) (raised_all part (real t))
    leaves_less symbol part s t h = go (sketched symbol s) (sketched_all part (Some t)) refl refl h
      where
        go : (a b : Option Sketch) → sketched symbol s ≡ a → sketched_all part (Some t) ≡ b → at_least a b ≡ true → AllNoHigher (raised symbol (real s)) (raised_all part (real t))
        go None b d e h' = absurd (true≢false (sym h'))
        go (Some one) None d e h' = absurd (true≢false (sym h'))
        go (Some one) (Some other) d e h' =
            let two = both (covered one.pending other.pending) (covered_all one.stack other.stack) h' in
            subst (λ k. AllNoHigher k (raised_all part (real t))) (sym (sketch_is symbol s one d))
            (subst (λ k. AllNoHigher (real one) k) (sym (sketches_are part t other e)) (all_within one.pending other.pending two.0, stacks_within one.stack other.stack two.1))
