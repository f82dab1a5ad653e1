-- How the handlers around an offset follow from how clauses nest.
use Rattle.std.proofs.Common.{◌≡◌, ℕ, ◌<◌, ◌≤◌, List, [], ◌∷◌, ◌++◌, refl, sym, ap, ◌∙◌, arith, ◌⊎◌, inl, inr, ⊎_elim, leb-true, ltb-true, eqb-true, le-leb, lt-ltb, eq-eqb}
use Rattle.std.specs.Prelude.{Bool, true, false, not, ◌||◌, ◌==◌, nat_le, nat_eq, if◌then◌else◌}
use Rattle.std.proofs.lemmas.Bool.{and_parts, and_from, or_cases, false_from_ne_true}
use Rattle.cc_cil.specs.declared.body.Clause.{Clause}
use Rattle.cc_verify.specs.Regions.{try_past, handler_past, in_range, in_try, in_handler, are_apart, is_within, is_clause, stand_apart, share_try, lies_in, nests, may_enter, may_stay, may_leave, may_pass, may_exit, handles_not, each_clause}
use Rattle.cc_soundness.specs.Regions.{handling, Nested, enters_not, EachClause}

-- ---- tests

pub iff_same : (a b : Bool) → (a ≡ true → b ≡ true) → (b ≡ true → a ≡ true) → a ≡ b
iff_same true b f g = sym (f refl)
iff_same false true f g = g refl
iff_same false false f g = refl

not_true : (a : Bool) → not a ≡ true → a ≡ false
not_true true h = let bad : false ≡ true = h in cc
not_true false h = refl

true_not : (a : Bool) → a ≡ false → not a ≡ true
true_not a e = ap not e

-- `not a || b`: where the first, there the second
pub implied : (a b : Bool) → (not a || b) ≡ true → a ≡ true → b ≡ true
implied true b h e = h
implied false b h e = let bad : false ≡ true = e in cc

pub implies : (a b : Bool) → (a ≡ true → b ≡ true) → (not a || b) ≡ true
implies true b f = f refl
implies false b f = refl

pub clash : {P : Type 0} (a : Bool) → a ≡ true → a ≡ false → P
clash a e f = let bad : true ≡ false = sym e ∙ f in cc

inside : (first past at : ℕ) → in_range first past at ≡ true → (first ≤ at) × (at < past)
inside first past at h = let p = and_parts _ _ h in (leb-true first at p.0, ltb-true at past p.1)

inside_from : (first past at : ℕ) → first ≤ at → at < past → in_range first past at ≡ true
inside_from first past at a b = and_from _ _ (le-leb first at a) (lt-ltb at past b)

apart : (a b c d : ℕ) → are_apart a b c d ≡ true → (b ≤ c) ⊎ (d ≤ a)
apart a b c d h = ⊎_elim (λ e. inl (leb-true b c e)) (λ e. inr (leb-true d a e)) (or_cases (nat_le b c) (nat_le d a) h)

within : (a b c d : ℕ) → is_within a b c d ≡ true → (c ≤ a) × (b ≤ d)
within a b c d h = let p = and_parts _ _ h in (leb-true c a p.0, leb-true b d p.1)

-- ---- what nesting says

record Sized (c : Clause) : Type 0 where
  tried : 0 < c.try_length
  handled : 0 < c.handler_length
  parts : (try_past c ≤ c.handler_first) ⊎ (handler_past c ≤ c.try_first)

sized : (c : Clause) → is_clause c ≡ true → Sized c
sized c h = let p = and_parts _ _ h in let q = and_parts _ _ p.1 in record { tried = ltb-true 0 c.try_length p.0; handled = ltb-true 0 c.handler_length q.0; parts = apart c.try_first (try_past c) c.handler_first (handler_past c) q.1 }

-- all their ranges are apart
record Apart (d c : Clause) : Type 0 where
  tries : (try_past d ≤ c.try_first) ⊎ (try_past c ≤ d.try_first)
  try_handler : (try_past d ≤ c.handler_first) ⊎ (handler_past c ≤ d.try_first)
  handler_try : (handler_past d ≤ c.try_first) ⊎ (try_past c ≤ d.handler_first)
  handlers : (handler_past d ≤ c.handler_first) ⊎ (handler_past c ≤ d.handler_first)

record Shares (d c : Clause) : Type 0 where
  first : d.try_first ≡ c.try_first
  size : d.try_length ≡ c.try_length
  handlers : (handler_past d ≤ c.handler_first) ⊎ (handler_past c ≤ d.handler_first)

record Lies (d : Clause) (first past : ℕ) : Type 0 where
  try_first : first ≤ d.try_first
  try_end : try_past d ≤ past
  handler_first : first ≤ d.handler_first
  handler_end : handler_past d ≤ past

lies : (d : Clause) (first past : ℕ) → lies_in d first past ≡ true → Lies d first past
lies d first past h =
    let p = and_parts _ _ h in
    let a = within d.try_first (try_past d) first past p.0 in
    let b = within d.handler_first (handler_past d) first past p.1 in
    record { try_first = a.0; try_end = a.1; handler_first = b.0; handler_end = b.1 }

all_apart : (d c : Clause) → stand_apart d c ≡ true → Apart d c
all_apart d c h =
    let p = and_parts _ _ h in
    let a = and_parts _ _ p.0 in
    let b = and_parts _ _ p.1 in
    record {
      tries = apart d.try_first (try_past d) c.try_first (try_past c) a.0;
      try_handler = apart d.try_first (try_past d) c.handler_first (handler_past c) a.1;
      handler_try = apart d.handler_first (handler_past d) c.try_first (try_past c) b.0;
      handlers = apart d.handler_first (handler_past d) c.handler_first (handler_past c) b.1;
    }

shares : (d c : Clause) → share_try d c ≡ true → Shares d c
shares d c h =
    let p = and_parts _ _ h in
    let q = and_parts _ _ p.1 in
    record { first = eqb-true d.try_first c.try_first p.0; size = eqb-true d.try_length c.try_length q.0; handlers = apart d.handler_first (handler_past d) c.handler_first (handler_past c) q.1 }

starts_differ : (d c : Clause) → nests d c ≡ true → d.handler_first ≡ c.handler_first → ⊥
starts_differ d c h e = clash (nat_eq d.handler_first c.handler_first) (eq-eqb d.handler_first c.handler_first e) (not_true (nat_eq d.handler_first c.handler_first) (and_parts _ _ h).0)

by_nesting : {P : Type 0} (d c : Clause) → nests d c ≡ true → (Apart d c → P) → (Shares d c → P) → (Lies d c.try_first (try_past c) → P) → (Lies d c.handler_first (handler_past c) → P) → P
by_nesting d c h a s t k =
    ⊎_elim (λ e. a (all_apart d c e))
    (λ r. ⊎_elim (λ e. s (shares d c e))
    (λ q. ⊎_elim (λ e. t (lies d c.try_first (try_past c) e)) (λ e. k (lies d c.handler_first (handler_past c) e)) (or_cases (lies_in d c.try_first (try_past c)) (lies_in d c.handler_first (handler_past c)) q))
    (or_cases (share_try d c) (lies_in d c.try_first (try_past c) || lies_in d c.handler_first (handler_past c)) r))
    (or_cases (stand_apart d c) (share_try d c || (lies_in d c.try_first (try_past c) || lies_in d c.handler_first (handler_past c))) (and_parts _ _ h).1)

-- no earlier clause's handler holds the start of a later one's
pub not_at_start : (b c : Clause) → nests b c ≡ true → is_clause c ≡ true → in_handler b c.handler_first ≡ false
not_at_start b c n k = false_from_ne_true (in_handler b c.handler_first) (λ h.
    let i = inside b.handler_first (handler_past b) c.handler_first h in
    let z = sized c k in
    by_nesting b c n (λ a. omega (arith, a.handlers, i, z.handled)) (λ s. omega (arith, s.handlers, i, z.handled)) (λ l. omega (arith, l, i, z.handled, z.parts)) (λ l. starts_differ b c n (omega (arith, l, i))))

-- its own does
pub at_start : (c : Clause) → is_clause c ≡ true → in_handler c c.handler_first ≡ true
at_start c k = let z = sized c k in inside_from c.handler_first (handler_past c) c.handler_first (omega arith) (omega (arith, z.handled))

pub not_both : (c : Clause) (at : ℕ) → is_clause c ≡ true → in_try c at ≡ true → in_handler c at ≡ false
not_both c at k t = false_from_ne_true (in_handler c at) (λ h.
    let i = inside c.handler_first (handler_past c) at h in
    let j = inside c.try_first (try_past c) at t in
    let z = sized c k in omega (arith, i, j, z.parts))

-- A later clause's handler holds an offset of an earlier clause's try where it holds that clause's handler.
pub later_try : (c d : Clause) (at : ℕ) → nests c d ≡ true → is_clause c ≡ true → is_clause d ≡ true → in_try c at ≡ true → in_handler d at ≡ in_handler d c.handler_first
later_try c d at n k l t =
    let j = inside c.try_first (try_past c) at t in
    let z = sized c k in
    let y = sized d l in
    iff_same (in_handler d at) (in_handler d c.handler_first)
    (λ h. let i = inside d.handler_first (handler_past d) at h in
    by_nesting c d n (λ a. absurd (omega (arith, a.try_handler, i, j))) (λ s. absurd (omega (arith, s.first, s.size, y.parts, i, j))) (λ s. absurd (omega (arith, s, y.parts, i, j)))
    (λ s. inside_from d.handler_first (handler_past d) c.handler_first (omega (arith, s)) (omega (arith, s, z.handled))))
    (λ h. let i = inside d.handler_first (handler_past d) c.handler_first h in
    by_nesting c d n (λ a. absurd (omega (arith, a.handlers, i, z.handled))) (λ s. absurd (omega (arith, s.handlers, i, z.handled))) (λ s. absurd (omega (arith, s, y.parts, i, z.handled)))
    (λ s. inside_from d.handler_first (handler_past d) at (omega (arith, s, j)) (omega (arith, s, j))))

-- and so it does one of its handler
pub later_handler : (c d : Clause) (at : ℕ) → nests c d ≡ true → is_clause c ≡ true → is_clause d ≡ true → in_handler c at ≡ true → in_handler d at ≡ in_handler d c.handler_first
later_handler c d at n k l t =
    let j = inside c.handler_first (handler_past c) at t in
    let z = sized c k in
    let y = sized d l in
    iff_same (in_handler d at) (in_handler d c.handler_first)
    (λ h. let i = inside d.handler_first (handler_past d) at h in
    by_nesting c d n (λ a. absurd (omega (arith, a.handlers, i, j))) (λ s. absurd (omega (arith, s.handlers, i, j))) (λ s. absurd (omega (arith, s, y.parts, i, j)))
    (λ s. inside_from d.handler_first (handler_past d) c.handler_first (omega (arith, s)) (omega (arith, s, z.handled))))
    (λ h. let i = inside d.handler_first (handler_past d) c.handler_first h in
    by_nesting c d n (λ a. absurd (omega (arith, a.handlers, i, z.handled))) (λ s. absurd (omega (arith, s.handlers, i, z.handled))) (λ s. absurd (omega (arith, s, y.parts, i, z.handled)))
    (λ s. inside_from d.handler_first (handler_past d) at (omega (arith, s, j)) (omega (arith, s, j))))

-- An earlier clause whose handler holds an offset of a later clause's try has all of its handler there.
pub earlier_within : (d c : Clause) (at to : ℕ) → nests d c ≡ true → is_clause c ≡ true → in_try c at ≡ true → in_handler d at ≡ true → in_handler d to ≡ true → is_clause d ≡ true → in_try c to ≡ true
earlier_within d c at to n k t h g l =
    let i = inside d.handler_first (handler_past d) at h in
    let p = inside d.handler_first (handler_past d) to g in
    let j = inside c.try_first (try_past c) at t in
    let z = sized c k in
    let y = sized d l in
    by_nesting d c n (λ a. absurd (omega (arith, a.handler_try, i, j))) (λ s. absurd (omega (arith, s.first, s.size, y.parts, i, j)))
    (λ s. inside_from c.try_first (try_past c) to (omega (arith, s, p)) (omega (arith, s, p))) (λ s. absurd (omega (arith, s, z.parts, i, j)))

-- ---- lists of clauses

pub each_is : (test : Clause → Bool) (cs : List Clause) → each_clause test cs ≡ true → EachClause (λ (c : Clause). test c ≡ true) cs
each_is test [] h = tt
each_is test (c ∷ cs) h = let p = and_parts _ _ h in (p.0, each_is test cs p.1)

pub is_each : (test : Clause → Bool) (cs : List Clause) → EachClause (λ (c : Clause). test c ≡ true) cs → each_clause test cs ≡ true
is_each test [] h = refl
is_each test (c ∷ cs) h = and_from _ _ h.0 (is_each test cs h.1)

pub each_then : (P Q : Clause → Type 0) → ((c : Clause) → P c → Q c) → (cs : List Clause) → EachClause P cs → EachClause Q cs
each_then P Q f [] h = tt
each_then P Q f (c ∷ cs) h = (f c h.0, each_then P Q f cs h.1)

pub each_both : (P Q : Clause → Type 0) (cs : List Clause) → EachClause P cs → EachClause Q cs → EachClause (λ (c : Clause). P c × Q c) cs
each_both P Q [] h k = tt
each_both P Q (c ∷ cs) h k = ((h.0, k.0), each_both P Q cs h.1 k.1)

pub each_front : (P : Clause → Type 0) (before cs : List Clause) → EachClause P (before ++ cs) → EachClause P before
each_front P [] cs h = tt
each_front P (b ∷ before) cs h = (h.0, each_front P before cs h.1)

pub each_back : (P : Clause → Type 0) (before cs : List Clause) → EachClause P (before ++ cs) → EachClause P cs
each_back P [] cs h = h
each_back P (b ∷ before) cs h = each_back P before cs h.1

pub each_append : (P : Clause → Type 0) (before cs : List Clause) → EachClause P before → EachClause P cs → EachClause P (before ++ cs)
each_append P [] cs h k = k
each_append P (b ∷ before) cs h k = (h.0, each_append P before cs h.1 k)

if_append : (b : Bool) (c : Clause) (cs ds : List Clause) → (if b then c ∷ (cs ++ ds) else cs ++ ds) ≡ (if b then c ∷ cs else cs) ++ ds
if_append true c cs ds = refl
if_append false c cs ds = refl

pub handling_append : (before cs : List Clause) (at : ℕ) → handling (before ++ cs) at ≡ handling before at ++ handling cs at
handling_append [] cs at = refl
handling_append (b ∷ before) cs at = ap (λ l. if in_handler b at then b ∷ l else l) (handling_append before cs at) ∙ if_append (in_handler b at) b (handling before at) (handling cs at)

pub handling_none : (cs : List Clause) (at : ℕ) → EachClause (λ (c : Clause). in_handler c at ≡ false) cs → handling cs at ≡ []
handling_none [] at h = refl
handling_none (c ∷ cs) at h = ap (λ b. if b then c ∷ handling cs at else handling cs at) h.0 ∙ handling_none cs at h.1

pub handling_same : (cs : List Clause) (p q : ℕ) → EachClause (λ (c : Clause). in_handler c p ≡ in_handler c q) cs → handling cs p ≡ handling cs q
handling_same [] p q h = refl
handling_same (c ∷ cs) p q h = ap (λ b. if b then c ∷ handling cs p else handling cs p) h.0 ∙ ap (λ l. if in_handler c q then c ∷ l else l) (handling_same cs p q h.1)

-- what follows is nested, and no earlier clause's handler holds its first handler's start
pub nested_at : (before : List Clause) (c : Clause) (after : List Clause) → Nested (before ++ c ∷ after) → Nested (c ∷ after)
nested_at [] c after h = h
nested_at (b ∷ before) c after h = nested_at before c after h.2

pub nested_before : (before : List Clause) (c : Clause) (after : List Clause) → Nested (before ++ c ∷ after) → EachClause (λ (b : Clause). (is_clause b ≡ true) × (nests b c ≡ true)) before
nested_before [] c after h = tt
nested_before (b ∷ before) c after h = ((h.0, (each_back (λ (d : Clause). nests b d ≡ true) before (c ∷ after) (each_is (λ d. nests b d) (before ++ c ∷ after) h.1)).0), nested_before before c after h.2)

pub nested_each : (cs : List Clause) → Nested cs → EachClause (λ (c : Clause). is_clause c ≡ true) cs
nested_each [] h = tt
nested_each (c ∷ cs) h = (h.0, nested_each cs h.2)

abbrev Follows : Clause → Clause → Type 0
Follows c d = (is_clause d ≡ true) × (nests c d ≡ true)

pub nested_after : (c : Clause) (after : List Clause) → Nested (c ∷ after) → EachClause (Follows c) after
nested_after c after h = each_both (λ (d : Clause). is_clause d ≡ true) (λ (d : Clause). nests c d ≡ true) after (nested_each after h.2) (each_is (λ d. nests c d) after h.1)

-- the handlers around a handler's start are those around its try, and around an offset in it, with itself
module _ (before : List Clause) (c : Clause) (after : List Clause) (nested : Nested (before ++ c ∷ after)) where
  sized_here : is_clause c ≡ true
  sized_here = (nested_at before c after nested).0

  none_before : EachClause (λ (b : Clause). in_handler b c.handler_first ≡ false) before
  none_before = each_then (λ (b : Clause). (is_clause b ≡ true) × (nests b c ≡ true)) (λ (b : Clause). in_handler b c.handler_first ≡ false) (λ b h. not_at_start b c h.1 sized_here) before (nested_before before c after nested)

  start_has : handling (before ++ c ∷ after) c.handler_first ≡ c ∷ handling after c.handler_first
  start_has =
      handling_append before (c ∷ after) c.handler_first ∙ ap (λ l. l ++ handling (c ∷ after) c.handler_first) (handling_none before c.handler_first none_before)
      ∙ ap (λ b. if b then c ∷ handling after c.handler_first else handling after c.handler_first) (at_start c sized_here)

  pub after_try : (at : ℕ) → in_try c at ≡ true → EachClause (λ (d : Clause). in_handler d at ≡ in_handler d c.handler_first) after
  after_try at t = each_then (Follows c) (λ (d : Clause). in_handler d at ≡ in_handler d c.handler_first) (λ d h. later_try c d at h.1 sized_here h.0 t) after (nested_after c after (nested_at before c after nested))

  pub after_handler : (at : ℕ) → in_handler c at ≡ true → EachClause (λ (d : Clause). in_handler d at ≡ in_handler d c.handler_first) after
  after_handler at t = each_then (Follows c) (λ (d : Clause). in_handler d at ≡ in_handler d c.handler_first) (λ d h. later_handler c d at h.1 sized_here h.0 t) after (nested_after c after (nested_at before c after nested))

  pub enters_from : (at : ℕ) → in_try c at ≡ true → handling (before ++ c ∷ after) c.handler_first ≡ c ∷ handling after at
  enters_from at t = start_has ∙ ap (λ l. c ∷ l) (sym (handling_same after at c.handler_first (after_try at t)))

  -- A leave that ends the try runs the handler, and no other handler is entered on the way from its start to the target.
  pub leaves_by : (at to : ℕ) → in_try c at ≡ true → in_try c to ≡ false → each_clause (enters_not at to) (before ++ c ∷ after) ≡ true → (in_handler c to ≡ false) × (each_clause (enters_not c.handler_first to) (before ++ c ∷ after) ≡ true)
  leaves_by at to t out h =
      let all = each_is (enters_not at to) (before ++ c ∷ after) h in
      let mine = each_back (λ (d : Clause). enters_not at to d ≡ true) before (c ∷ after) all in
      let theirs = each_front (λ (d : Clause). enters_not at to d ≡ true) before (c ∷ after) all in
      let no : in_handler c to ≡ false = false_from_ne_true (in_handler c to) (λ g. clash (in_handler c at) (implied (in_handler c to) (in_handler c at) mine.0 g) (not_both c at sized_here t)) in
      let first : EachClause (λ (d : Clause). enters_not c.handler_first to d ≡ true) before =
      each_then (λ (d : Clause). ((is_clause d ≡ true) × (nests d c ≡ true)) × (enters_not at to d ≡ true)) (λ (d : Clause). enters_not c.handler_first to d ≡ true)
      (λ d x. implies (in_handler d to) (in_handler d c.handler_first) (λ g.
      clash (in_try c to) (earlier_within d c at to x.0.1 sized_here t (implied (in_handler d to) (in_handler d at) x.1 g) g x.0.0) out))
      before (each_both (λ (d : Clause). (is_clause d ≡ true) × (nests d c ≡ true)) (λ (d : Clause). enters_not at to d ≡ true) before (nested_before before c after nested) theirs) in
      let last : EachClause (λ (d : Clause). enters_not c.handler_first to d ≡ true) after =
      each_then (λ (d : Clause). (in_handler d at ≡ in_handler d c.handler_first) × (enters_not at to d ≡ true)) (λ (d : Clause). enters_not c.handler_first to d ≡ true)
      (λ d x. implies (in_handler d to) (in_handler d c.handler_first) (λ g. sym x.0 ∙ implied (in_handler d to) (in_handler d at) x.1 g))
      after (each_both (λ (d : Clause). in_handler d at ≡ in_handler d c.handler_first) (λ (d : Clause). enters_not at to d ≡ true) after (after_try at t) mine.1) in (
        no,
        is_each (enters_not c.handler_first to) (before ++ c ∷ after)
            (each_append (λ (d : Clause). enters_not c.handler_first to d ≡ true) before (c ∷ after) first (implies (in_handler c to) (in_handler c c.handler_first) (λ g. clash (in_handler c to) g no), last)),
      )

  -- the leave goes on from an offset in the handler
  pub goes_on_by : (at to : ℕ) → in_handler c at ≡ true → in_handler c to ≡ false → each_clause (enters_not c.handler_first to) (before ++ c ∷ after) ≡ true → each_clause (enters_not at to) (before ++ c ∷ after) ≡ true
  goes_on_by at to t out h =
      let all = each_is (enters_not c.handler_first to) (before ++ c ∷ after) h in
      let mine = each_back (λ (d : Clause). enters_not c.handler_first to d ≡ true) before (c ∷ after) all in
      let theirs = each_front (λ (d : Clause). enters_not c.handler_first to d ≡ true) before (c ∷ after) all in
      let first : EachClause (λ (d : Clause). enters_not at to d ≡ true) before =
      each_then (λ (d : Clause). (in_handler d c.handler_first ≡ false) × (enters_not c.handler_first to d ≡ true)) (λ (d : Clause). enters_not at to d ≡ true)
      (λ d x. implies (in_handler d to) (in_handler d at) (λ g. clash (in_handler d c.handler_first) (implied (in_handler d to) (in_handler d c.handler_first) x.1 g) x.0))
      before (each_both (λ (d : Clause). in_handler d c.handler_first ≡ false) (λ (d : Clause). enters_not c.handler_first to d ≡ true) before none_before theirs) in
      let last : EachClause (λ (d : Clause). enters_not at to d ≡ true) after =
      each_then (λ (d : Clause). (in_handler d at ≡ in_handler d c.handler_first) × (enters_not c.handler_first to d ≡ true)) (λ (d : Clause). enters_not at to d ≡ true)
      (λ d x. implies (in_handler d to) (in_handler d at) (λ g. x.0 ∙ implied (in_handler d to) (in_handler d c.handler_first) x.1 g))
      after (each_both (λ (d : Clause). in_handler d at ≡ in_handler d c.handler_first) (λ (d : Clause). enters_not c.handler_first to d ≡ true) after (after_handler at t) mine.1) in
      is_each (enters_not at to) (before ++ c ∷ after)
      (each_append (λ (d : Clause). enters_not at to d ≡ true) before (c ∷ after) first (implies (in_handler c to) (in_handler c at) (λ g. clash (in_handler c to) g out), last))

-- a branch and a fall keep the handlers
pub passing : (from to : ℕ) (cs : List Clause) → each_clause (may_pass from to) cs ≡ true → handling cs from ≡ handling cs to
passing from to cs h =
    handling_same cs from to (each_then (λ (c : Clause). may_pass from to c ≡ true) (λ (c : Clause). in_handler c from ≡ in_handler c to)
    (λ c e.
    let p = and_parts (may_enter from to c) (may_stay from to c) e in
    let stay = and_parts (not (in_try c from) || in_try c to) (not (in_handler c from) || in_handler c to) p.1 in
    let enter = and_parts (not (in_try c to) || (in_try c from || to == c.try_first)) (not (in_handler c to) || in_handler c from) p.0 in
    iff_same (in_handler c from) (in_handler c to) (λ g. implied (in_handler c from) (in_handler c to) stay.1 g) (λ g. implied (in_handler c to) (in_handler c from) enter.1 g))
    cs (each_is (may_pass from to) cs h))

-- a leave enters no handler
pub exiting : (from to : ℕ) (cs : List Clause) → each_clause (may_exit from to) cs ≡ true → each_clause (enters_not from to) cs ≡ true
exiting from to cs h =
    is_each (enters_not from to) cs (each_then (λ (c : Clause). may_exit from to c ≡ true) (λ (c : Clause). enters_not from to c ≡ true) (λ c e.
    let enter = and_parts (not (in_try c to) || (in_try c from || to == c.try_first)) (not (in_handler c to) || in_handler c from) (and_parts (may_enter from to c) (may_leave from to c) e).0 in enter.1) cs (each_is (may_exit from to) cs h))

-- a method begins in no handler
pub beginning : (cs : List Clause) → each_clause (handles_not 0) cs ≡ true → handling cs 0 ≡ []
beginning cs h = handling_none cs 0 (each_then (λ (c : Clause). handles_not 0 c ≡ true) (λ (c : Clause). in_handler c 0 ≡ false) (λ c e. not_true (in_handler c 0) e) cs (each_is (handles_not 0) cs h))
