-- The stacks that offsets have, by the list of what was given.
use Rattle.std.proofs.Common.{◌≡◌, ℕ, zero, suc, ◌+◌, ◌<◌, ⊎_elim, List, [], ◌∷◌, ◌++◌, length, take, refl, sym, ap, ◌∙◌, subst, arith}
use Rattle.std.specs.Prelude.{Bool, true, false, Option, Some, None, get_or, set, nat_eq, replicate, if◌then◌else◌, ◌≢◌}
use Rattle.std.proofs.lemmas.Bool.{cases_eq, eq-eqb, ne_eqb}
use Rattle.std.specs.List.{AllByRecursion}
use Rattle.std.proofs.lemmas.List.{get_or-set_same, get_or-set_other, length-set, take_more}
use Rattle.cc_verify.specs.Transitions.{Stack}
use Rattle.cc_cil.specs.declared.body.Clause.{Clause}
use Rattle.cc_verify.specs.declared.environment.Environment.{Environment}
use Rattle.cc_verify.specs.Rules.{Given, given_to, entry_of, entries}
use Rattle.cc_verify.specs.Passes.{Known, has_at, first, give_at, IsTable}

or_else : Option Stack → Option Stack → Option Stack
or_else (Some s) other = Some s
or_else None other = other

given_case : (b : Bool) (s : Stack) (rest more other : Option Stack) → more ≡ or_else rest other → (if b then Some s else more) ≡ or_else (if b then Some s else rest) other
unfolding or_else
given_case true s rest more other e = refl
given_case false s rest more other e = e

given_snoc : (given : Given) (at t : ℕ) (s : Stack) → given_to (given ++ (at, s) ∷ []) t ≡ or_else (given_to given t) (if nat_eq at t then Some s else None)
unfolding or_else
given_snoc [] at t s = refl
given_snoc (g ∷ given) at t s = given_case (nat_eq g.0 t) g.1 (given_to given t) _ _ (given_snoc given at t s)

or_some : (o : Option Stack) (s : Stack) → or_else o (Some s) ≡ first o s
unfolding or_else
or_some None s = refl
or_some (Some has) s = refl

or_none : (o : Option Stack) → or_else o None ≡ o
unfolding or_else
or_none None = refl
or_none (Some has) = refl

-- a stack given to an offset of the code
pub table_gives : (known : Known) (given : Given) (at : ℕ) (s : Stack) → IsTable known given → at < length known → IsTable (give_at known at s) (given ++ (at, s) ∷ [])
table_gives known given at s table within t =
    ⊎_elim
    (λ (q : at ≡ t).
    let there : get_or (set known at (first (has_at known at) s)) at None ≡ first (has_at known at) s = get_or-set_same known at _ None within in
    let hit : given_to (given ++ (at, s) ∷ []) at ≡ first (given_to given at) s =
    given_snoc given at at s ∙ ap (λ b. or_else (given_to given at) (if b then Some s else None)) (eq-eqb at at refl) ∙ or_some (given_to given at) s in
    subst (λ u. has_at (give_at known at s) u ≡ given_to (given ++ (at, s) ∷ []) u) q (there ∙ ap (λ o. first o s) (table at) ∙ sym hit))
    (λ (q : at ≡ t → ⊥).
    let apart : t ≢ at = λ e. q (sym e) in
    get_or-set_other known at t _ None apart ∙ table t ∙ sym (given_snoc given at t s ∙ ap (λ b. or_else (given_to given t) (if b then Some s else None)) (ne_eqb at t q) ∙ or_none (given_to given t)))
    (cases_eq at t)

none_known : (n t : ℕ) → has_at (replicate n None) t ≡ None
none_known zero t = refl
none_known (suc n) zero = refl
none_known (suc n) (suc t) = none_known n t

pub table_empty : (known : Known) (n : ℕ) → known ≡ replicate n None → IsTable known []
table_empty known n e t = ap (λ k. has_at k t) e ∙ none_known n t

pub give_length : (known : Known) (at : ℕ) (s : Stack) → length (give_at known at s) ≡ length known
give_length known at s = length-set known at _

-- ---- entries of handlers, one after another

pub entries_more : (e : Environment) (clauses : List Clause) (c : Clause) → entries e (clauses ++ c ∷ []) ≡ entries e clauses ++ (c.handler_first, entry_of e c.kind c.class) ∷ []
entries_more e [] c = refl
entries_more e (d ∷ clauses) c = ap (λ l. (d.handler_first, entry_of e d.kind d.class) ∷ l) (entries_more e clauses c)

pub entries_on : (e : Environment) (clauses : List Clause) (at : ℕ) (c : Clause) (known new : Known) (entry : Stack) → take (at + 1) clauses ≡ take at clauses ++ c ∷ [] → entry ≡ entry_of e c.kind c.class
    → new ≡ give_at known c.handler_first entry → c.handler_first < length known → IsTable known (entries e (take at clauses)) → IsTable new (entries e (take (at + 1) clauses))
entries_on e clauses at c known new entry t is n within table =
    let given : IsTable (give_at known c.handler_first entry) (entries e (take at clauses) ++ (c.handler_first, entry) ∷ []) = table_gives known (entries e (take at clauses)) c.handler_first entry table within in
    let same : entries e (take at clauses) ++ (c.handler_first, entry) ∷ [] ≡ entries e (take (at + 1) clauses) =
    ap (λ s. entries e (take at clauses) ++ (c.handler_first, s) ∷ []) is ∙ sym (entries_more e (take at clauses) c) ∙ ap (entries e) (sym t) in
    subst (λ g. IsTable new g) same (subst (λ k. IsTable k (entries e (take at clauses) ++ (c.handler_first, entry) ∷ [])) (sym n) given)

pub handler_at : (clauses : List Clause) (n at : ℕ) (d : Clause) → at < length clauses → AllByRecursion (λ (c : Clause). c.handler_first < n) clauses → (get_or clauses at d).handler_first < n
handler_at [] n at d lt all = absurd (omega (arith, lt))
handler_at (c ∷ clauses) n zero d lt all = all.0
handler_at (c ∷ clauses) n (suc at) d lt all = handler_at clauses n at d (omega (arith, lt)) all.1

pub entries_at : (e : Environment) (clauses : List Clause) (at : ℕ) (d : Clause) (known new : Known) (entry : Stack) (size : ℕ) → at < length clauses → entry ≡ entry_of e (get_or clauses at d).kind (get_or clauses at d).class
    → new ≡ give_at known (get_or clauses at d).handler_first entry → (get_or clauses at d).handler_first < size → length known ≡ size → IsTable known (entries e (take at clauses)) → IsTable new (entries e (take (at + 1) clauses))
entries_at e clauses at d known new entry size lt is n within long table =
    let inside : (get_or clauses at d).handler_first < length known = omega (arith, within, long) in
    entries_on e clauses at (get_or clauses at d) known new entry (take_more clauses at d lt) is n inside table
