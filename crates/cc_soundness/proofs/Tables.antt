-- What the verifier's pass finds, as a table with which each place keeps the rules.
use Rattle.std.proofs.Common.{◌≡◌, ℕ, zero, suc, ◌<◌, ◌≤◌, List, [], ◌∷◌, ◌++◌, length, refl, sym, ap, ◌∙◌, subst, arith, ⊎_elim, append_assoc, append-nil, eq-eqb, eqb-true, leb-true}
use Rattle.std.specs.Prelude.{Bool, true, false, not, ◌&&◌, ◌==◌, ℤ, Option, Some, None, if◌then◌else◌}
use Rattle.std.proofs.lemmas.Bool.{and_parts, cases_eq, cases_lt}
use Rattle.cc_cil.specs.declared.body.Clause.{Clause}
use Rattle.cc_verify.specs.declared.environment.Environment.{Environment}
use Rattle.cc_verify.specs.declared.method.Method.{Method}
use Rattle.cc_verify.specs.declared.places.Place.{Place}
use Rattle.cc_verify.specs.declared.places.Broken.{Broken}
use Rattle.cc_verify.specs.declared.transition.Transition.{Transition}
use Rattle.cc_verify.specs.Transitions.{Stack, transition_of, is_built, effect, stores_fit, falls, branch_offset, is_some_offset, jump, target}
use Rattle.cc_verify.specs.Regions.{nests, each_clause, in_handler, innermost_handler}
use Rattle.cc_verify.specs.Places.{Decodes, stops, goes, starts_at}
use Rattle.cc_verify.specs.Rules.{Before, Keeps, Given, given_to, Agrees, Meets, arrival, Here, behind, jump_at, is_aimed, starts_target, Brings, runs_out, keeps_regions, stands, given_here, target_has, brought, stack_here, here, given_behind, fallen_behind, has_edges, entry_of, entries, ClauseVerdict, all_nest, no_edge, not_nested, nested, CodeVerdict, all_keep, no_start, not_met, breaks, keeps}
use Rattle.cc_soundness.specs.Regions.{Nested, EachClause}
use Rattle.cc_soundness.proofs.Nesting.{clash, each_is, is_each, at_start}
use Rattle.cc_soundness.proofs.Matching.{none_some}

pub some_none : {A B : Type 0} (a : A) → Some a ≡ None → B
some_none a e = let bad : Some a ≡ None = e in cc

-- ---- rules

before_holds : (K : ℕ → Type 0) (n k : ℕ) → k < n → Before K n → K k
before_holds K zero k lt b = absurd (omega (arith, lt))
before_holds K (suc n) k lt b = ⊎_elim (λ (e : k ≡ n). subst K (sym e) b.1) (λ (e : k ≡ n → ⊥). before_holds K n k (below n k lt e) b.0) (cases_eq k n) where
  below : (n k : ℕ) → k < suc n → (k ≡ n → ⊥) → k < n
  below n k lt e = ⊎_elim (λ (l : k < n). l) (λ (g : n ≤ k). absurd (e (omega (arith, lt, g)))) (cases_lt k n)

-- ---- stacks that were given

pub to_front : (g h : Given) (at : ℕ) (s : Stack) → given_to g at ≡ Some s → given_to (g ++ h) at ≡ Some s
to_front [] h at s e = none_some e
to_front (a ∷ g) h at s e = by_test (a.0 == at) e (to_front g h at s) where
  by_test : (b : Bool) → (if b then Some a.1 else given_to g at) ≡ Some s → (given_to g at ≡ Some s → given_to (g ++ h) at ≡ Some s) → (if b then Some a.1 else given_to (g ++ h) at) ≡ Some s
  by_test true e rec = e
  by_test false e rec = rec e

to_back : (g h : Given) (at : ℕ) → given_to g at ≡ None → given_to (g ++ h) at ≡ given_to h at
to_back [] h at e = refl
to_back (a ∷ g) h at e = by_test (a.0 == at) e (to_back g h at) where
  by_test : (b : Bool) → (if b then Some a.1 else given_to g at) ≡ None → (given_to g at ≡ None → given_to (g ++ h) at ≡ given_to h at) → (if b then Some a.1 else given_to (g ++ h) at) ≡ given_to h at
  by_test true e rec = some_none a.1 e
  by_test false e rec = rec e

to_alone : (at : ℕ) (s : Stack) → given_to ((at, s) ∷ []) at ≡ Some s
to_alone at s = ap (λ b. if b then Some s else None) (eq-eqb at at refl)

-- what is given to an offset is what it has, where that agrees
gives_it : (g : Given) (at : ℕ) (s : Stack) → Agrees (given_to g at) s → given_to (g ++ (at, s) ∷ []) at ≡ Some s
gives_it g at s h = by_has (given_to g at) refl h where
  by_has : (o : Option Stack) → given_to g at ≡ o → Agrees o s → given_to (g ++ (at, s) ∷ []) at ≡ Some s
  by_has None e h = to_back g ((at, s) ∷ []) at e ∙ to_alone at s
  by_has (Some has) e h = to_front g ((at, s) ∷ []) at has e ∙ ap (λ z. Some z) h

arrival_agrees : (fallen has : Option Stack) → Meets fallen has → Agrees has (arrival fallen has)
arrival_agrees None None h = tt
arrival_agrees None (Some has) h = refl
arrival_agrees (Some f) has h = h

module _ (m : Method) where
  abbrev pub AllStart : Given → Type 0
  AllStart [] = Unit {0}
  AllStart (g ∷ given) = (starts_at m.places g.0 ≡ true) × AllStart given

  pub all_start_append : (g h : Given) → AllStart g → AllStart h → AllStart (g ++ h)
  all_start_append [] h a b = b
  all_start_append (x ∷ g) h a b = (a.0, all_start_append g h a.1 b)

  pub starts_given : (g : Given) (at : ℕ) (s : Stack) → AllStart g → given_to g at ≡ Some s → starts_at m.places at ≡ true
  starts_given [] at s a e = none_some e
  starts_given (x ∷ g) at s a e = by_test (x.0 == at) refl e (starts_given g at s a.1) where
    by_test : (b : Bool) → (x.0 == at) ≡ b → (if b then Some x.1 else given_to g at) ≡ Some s → (given_to g at ≡ Some s → starts_at m.places at ≡ true) → starts_at m.places at ≡ true
    by_test true q e rec = subst (λ n. starts_at m.places n ≡ true) (eqb-true x.0 at q) a.0
    by_test false q e rec = rec e

  -- ---- a place that keeps the rules with a table

  pub record Kept (t : Given) (p : Place) : Type 0 where
    pub stack : Stack
    pub has : given_to t p.at ≡ Some stack
    pub small : length stack ≤ m.most
    pub built : is_built m.environment m.frame (transition_of p.instruction) ≡ true
    pub aimed : is_aimed m (transition_of p.instruction) p.next ≡ true
    pub behind : Stack
    pub leaves : effect m.environment m.frame (transition_of p.instruction) stack ≡ Some behind
    pub stores : stores_fit m.frame (transition_of p.instruction) stack ≡ true
    pub regions : keeps_regions m p (transition_of p.instruction) stack ≡ true
    pub stays : stands (transition_of p.instruction) (innermost_handler m.clauses p.at) ≡ true
    pub fall : falls (transition_of p.instruction) ≡ true → given_to t p.next ≡ Some behind
    pub jump_to : (to : ℕ) → jump (transition_of p.instruction) p.next ≡ Some to → given_to t to ≡ Some behind

  abbrev pub AllPlaces : (Place → Type 0) → List Place → Type 0
  AllPlaces P [] = Unit {0}
  AllPlaces P (p ∷ places) = P p × AllPlaces P places

  -- one behind the other, up to an end
  abbrev pub Chained : ℕ → List Place → ℕ → Type 0
  Chained at [] end = at ≡ end
  Chained at (p ∷ places) end = (p.at ≡ at) × Chained p.next places end

  pub chained : {code : List ℕ} {at end : ℕ} {places : List Place} → Decodes code at places end → Chained at places end
  chained (stops none) = refl
  chained (goes i begins more) = (refl, chained more)

  abbrev pub FirstHas : Given → Given → Option Stack → List Place → Type 0
  FirstHas t given fallen [] = Unit {0}
  FirstHas t given fallen (p ∷ places) = given_to t p.at ≡ Some (stack_here p given fallen)

  pub record Found (end : ℕ) (given : Given) (fallen : Option Stack) (places : List Place) : Type 0 where
    pub table : Given
    pub more : Given
    pub extends : table ≡ given ++ more
    pub starts : AllStart more
    pub kept : AllPlaces (Kept table) places
    pub first : FirstHas table given fallen places
    pub ends : end ≡ m.size

  -- a jump's target is a start
  aimed : (t : Transition) (next to : ℕ) → is_aimed m t next ≡ true → jump t next ≡ Some to → starts_at m.places to ≡ true
  aimed t next to h j = by_offset (branch_offset t) h j where
    by_offset : (o : Option ℤ) → (if is_some_offset o then starts_target m (target next o) else true) ≡ true → target next o ≡ Some to → starts_at m.places to ≡ true
    by_offset None h j = none_some j
    by_offset (Some offset) h j = subst (λ o. starts_target m o ≡ true) j h

  module _ (end : ℕ) (given : Given) (fallen : Option Stack) (p : Place) (left : List Place) (meets : Meets fallen (given_to given p.at)) (before : Before (Keeps m (here p given fallen)) 13)
      (start : starts_at m.places p.at ≡ true) (chain : Chained p.next left end) (rest : Found end (given_behind m p given fallen) (fallen_behind m (here p given fallen)) left) where
    abbrev h : Here
    h = here p given fallen

    abbrev how : Transition
    how = transition_of p.instruction

    abbrev here_given : Given
    here_given = given_here given p.at h.stack

    out : (out : Stack) × (behind m h ≡ Some out)
    out = before_holds (Keeps m h) 13 3 (omega arith) before

    here_has : given_to here_given p.at ≡ Some h.stack
    here_has = gives_it given p.at h.stack (arrival_agrees fallen (given_to given p.at) meets)

    -- what stands before in the order of giving is in the table
    in_table : (at : ℕ) (s : Stack) → given_to (given_behind m p given fallen) at ≡ Some s → given_to rest.table at ≡ Some s
    in_table at s e = subst (λ t. given_to t at ≡ Some s) (sym rest.extends) (to_front (given_behind m p given fallen) rest.more at s e)

    has : given_to rest.table p.at ≡ Some h.stack
    has = in_table p.at h.stack (to_front here_given (brought (jump_at h) (behind m h)) p.at h.stack here_has)

    jumps : (to : ℕ) → jump how p.next ≡ Some to → given_to rest.table to ≡ Some out.0
    jumps to j =
        let agrees : Agrees (given_to here_given to) out.0 =
        subst (λ o. Brings (target_has here_given o) o (Some out.0)) j (subst (λ o. Brings h.target_has (jump_at h) o) out.1 (before_holds (Keeps m h) 13 4 (omega arith) before)) in
        let gives : given_to (here_given ++ brought (jump_at h) (behind m h)) to ≡ Some out.0 =
        ap (λ o. given_to (here_given ++ brought o (behind m h)) to) j ∙ ap (λ o. given_to (here_given ++ brought (Some to) o) to) out.1 ∙ gives_it here_given to out.0 agrees in
        in_table to out.0 gives

    falling : falls how ≡ true → fallen_behind m h ≡ Some out.0
    falling f = ap (λ b. if b then behind m h else None) f ∙ out.1

    next_has : (places : List Place) → Chained p.next places end → FirstHas rest.table (given_behind m p given fallen) (fallen_behind m h) places → falls how ≡ true → given_to rest.table p.next ≡ Some out.0
    next_has [] chain first f =
        let same : p.next ≡ m.size = chain ∙ rest.ends in
        let past : runs_out how p.next m.size ≡ true = ap (λ b. b && (p.next == m.size)) f ∙ eq-eqb p.next m.size same in
        clash (runs_out how p.next m.size) past (before_holds (Keeps m h) 13 5 (omega arith) before)
    next_has (q ∷ places) chain first f =
        let stack : stack_here q (given_behind m p given fallen) (fallen_behind m h) ≡ out.0 = ap (λ o. stack_here q (given_behind m p given fallen) o) (falling f) in
        subst (λ n. given_to rest.table n ≡ Some out.0) chain.0 (first ∙ ap (λ z. Some z) stack)

    room : length h.stack ≤ m.most
    room = leb-true (length h.stack) m.most (and_parts _ _ (and_parts _ _ (before_holds (Keeps m h) 13 2 (omega arith) before)).1).0

    brought_starts : (o : Option ℕ) (b : Option Stack) → ((to : ℕ) → o ≡ Some to → starts_at m.places to ≡ true) → AllStart (brought o b)
    brought_starts None b known = tt
    brought_starts (Some to) None known = tt
    brought_starts (Some to) (Some s) known = (known to refl, tt)

    pub found : Found end given fallen (p ∷ left)
    found = record {
      table = rest.table;
      more = (p.at, h.stack) ∷ (brought (jump_at h) (behind m h) ++ rest.more);
      extends = rest.extends ∙ append_assoc here_given (brought (jump_at h) (behind m h)) rest.more ∙ append_assoc given ((p.at, h.stack) ∷ []) (brought (jump_at h) (behind m h) ++ rest.more);
      starts = (
        start,
        all_start_append (brought (jump_at h) (behind m h)) rest.more
            (brought_starts (jump_at h) (behind m h) (λ to j. aimed how p.next to (before_holds (Keeps m h) 13 1 (omega arith) before) j)) rest.starts,
      );
      kept = (
        record {
          stack = h.stack;
          has = has;
          small = room;
          built = before_holds (Keeps m h) 13 0 (omega arith) before;
          aimed = before_holds (Keeps m h) 13 1 (omega arith) before;
          behind = out.0;
          leaves = out.1;
          stores = before_holds (Keeps m h) 13 11 (omega arith) before;
          regions = before_holds (Keeps m h) 13 7 (omega arith) before;
          stays = before_holds (Keeps m h) 13 8 (omega arith) before;
          fall = next_has left chain rest.first;
          jump_to = jumps;
        },
        rest.kept,
      );
      first = has;
      ends = rest.ends;
    }

  pub pass_finds : {end : ℕ} {given : Given} {fallen : Option Stack} {places : List Place} {v : Option Broken} → CodeVerdict m end given fallen places v → v ≡ None → (at : ℕ) → Chained at places end
      → AllPlaces (λ (p : Place). starts_at m.places p.at ≡ true) places → Found end given fallen places
  pass_finds {given = given} (all_keep e) n at chain starts = record { table = given; more = []; extends = sym (append-nil given); starts = tt; kept = tt; first = tt; ends = e }
  pass_finds (no_start ne) n at chain starts = some_none _ n
  pass_finds (not_met ne) n at chain starts = some_none _ n
  pass_finds (breaks meets first) n at chain starts = some_none _ n
  pass_finds {end = end} {given = given} {fallen = fallen} (keeps {p = p} {left = left} meets before more) n at chain starts =
      found end given fallen p left meets before starts.0 chain.1 (pass_finds more n p.next chain.1 starts.1)

  -- ---- clauses

  abbrev pub Nests : List Clause → Clause → Type 0
  Nests before c = each_clause (λ d. nests d c) before ≡ true

  pub record ClausesFound (before clauses : List Clause) : Type 0 where
    pub edges : EachClause (λ (c : Clause). has_edges m c ≡ true) clauses
    pub nested : Nested clauses
    pub behind : EachClause (Nests before) clauses

  front_nests : (before : List Clause) (d c : Clause) → each_clause (λ b. nests b c) (before ++ d ∷ []) ≡ true → (each_clause (λ b. nests b c) before ≡ true) × (nests d c ≡ true)
  front_nests [] d c h = (refl, (and_parts _ _ h).0)
  front_nests (b ∷ before) d c h =
      let p = and_parts _ _ h in
      let r = front_nests before d c p.1 in
      (ap (λ z. z && each_clause (λ b. nests b c) before) p.0 ∙ r.0, r.1)

  each_fronts : (before : List Clause) (d : Clause) (cs : List Clause) → EachClause (Nests (before ++ d ∷ [])) cs → EachClause (Nests before) cs × EachClause (λ (c : Clause). nests d c ≡ true) cs
  each_fronts before d [] h = (tt, tt)
  each_fronts before d (c ∷ cs) h =
      let a = front_nests before d c h.0 in
      let r = each_fronts before d cs h.1 in
      ((a.0, r.0), (a.1, r.1))

  pub clauses_found : {before clauses : List Clause} {v : Option Broken} → ClauseVerdict m before clauses v → v ≡ None → ClausesFound before clauses
  clauses_found all_nest n = record { edges = tt; nested = tt; behind = tt }
  clauses_found (no_edge e) n = some_none _ n
  clauses_found (not_nested e f) n = some_none _ n
  clauses_found {before = before} (nested {left = left} {c = c} e f more) n =
      let r = clauses_found more n in
      let p = and_parts _ _ f in
      let q = each_fronts before c left r.behind in
      record { edges = (e, r.edges); nested = (p.0, is_each (λ d. nests c d) left q.1, r.nested); behind = (p.1, q.0) }

-- ---- the entries of handlers

entry_alone : (e : Environment) (c : Clause) (cs : List Clause) → given_to (entries e (c ∷ cs)) c.handler_first ≡ Some (entry_of e c.kind c.class)
entry_alone e c cs = ap (λ b. if b then Some (entry_of e c.kind c.class) else given_to (entries e cs) c.handler_first) (eq-eqb c.handler_first c.handler_first refl)

starts_apart : (d c : Clause) → nests d c ≡ true → (d.handler_first == c.handler_first) ≡ false
starts_apart d c h = not_is (d.handler_first == c.handler_first) (and_parts _ _ h).0 where
  not_is : (a : Bool) → not a ≡ true → a ≡ false
  not_is true h = let bad : false ≡ true = h in cc
  not_is false h = refl

past_entry : (e : Environment) (d : Clause) (cs : List Clause) (c : Clause) → nests d c ≡ true → given_to (entries e cs) c.handler_first ≡ Some (entry_of e c.kind c.class) → given_to (entries e (d ∷ cs)) c.handler_first ≡ Some (entry_of e c.kind c.class)
past_entry e d cs c h g = ap (λ b. if b then Some (entry_of e d.kind d.class) else given_to (entries e cs) c.handler_first) (starts_apart d c h) ∙ g

past_entries : (e : Environment) (d : Clause) (all cs : List Clause) → EachClause (λ (c : Clause). nests d c ≡ true) cs → EachClause (λ (c : Clause). given_to (entries e all) c.handler_first ≡ Some (entry_of e c.kind c.class)) cs
    → EachClause (λ (c : Clause). given_to (entries e (d ∷ all)) c.handler_first ≡ Some (entry_of e c.kind c.class)) cs
past_entries e d all [] h g = tt
past_entries e d all (c ∷ cs) h g = (past_entry e d all c h.0 g.0, past_entries e d all cs h.1 g.1)

pub entries_are : (e : Environment) (cs : List Clause) → Nested cs → EachClause (λ (c : Clause). given_to (entries e cs) c.handler_first ≡ Some (entry_of e c.kind c.class)) cs
entries_are e [] h = tt
entries_are e (c ∷ cs) h = (entry_alone e c cs, past_entries e c cs cs (each_is (λ d. nests c d) cs h.1) (entries_are e cs h.2))

-- no handler begins at 0
pub none_at_zero : (e : Environment) (cs : List Clause) → Nested cs → EachClause (λ (c : Clause). in_handler c 0 ≡ false) cs → given_to (entries e cs) 0 ≡ None
none_at_zero e [] n out = refl
none_at_zero e (c ∷ cs) n out = by_test (c.handler_first == 0) refl (none_at_zero e cs n.2 out.1) where
  by_test : (b : Bool) → (c.handler_first == 0) ≡ b → given_to (entries e cs) 0 ≡ None → (if b then Some (entry_of e c.kind c.class) else given_to (entries e cs) 0) ≡ None
  by_test true q rec = clash (in_handler c 0) (subst (λ k. in_handler c k ≡ true) (eqb-true c.handler_first 0 q) (at_start c n.0)) out.0
  by_test false q rec = rec
