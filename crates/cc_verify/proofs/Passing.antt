-- What the pass knows stays true from one instruction to the next.
use Rattle.std.proofs.Common.{◌≡◌, ℕ, zero, suc, ◌+◌, ◌<◌, ⊎_elim, List, [], ◌∷◌, ◌++◌, length, drop, refl, sym, ap, ◌∙◌, subst, arith, append-nil}
use Rattle.std.specs.Prelude.{ℤ, Bool, true, false, Option, Some, None, get_or, ◌||◌, ◌==◌, if◌then◌else◌}
use Rattle.std.proofs.lemmas.Bool.{eq-eqb, false≢true}
use Rattle.std.proofs.lemmas.List.{drop_more}
use Rattle.cc_verify.specs.declared.method.Method.{Method}
use Rattle.cc_verify.specs.declared.places.Place.{Place}
use Rattle.cc_verify.specs.declared.places.Broken.{Broken}
use Rattle.cc_verify.specs.declared.pass.Outcome.TheVariants as visit
use Rattle.cc_verify.specs.Transitions.{Stack, transition_of, jump, target, is_some_offset, branch_offset, falls}
use Rattle.cc_verify.specs.Places.{starts_at}
use Rattle.cc_verify.specs.Rules.{Before, IsFirst, Keeps, Here, Given, given_to, Meets, arrival, behind, entries, starts_target, is_start, here, stack_here, target_has, given_here, given_behind, fallen_behind, brought, CodeVerdict, all_keep, no_start, not_met, breaks, keeps}
use Rattle.cc_verify.specs.Passes.{Known, has_at, give_at, at_target, give_target, IsTable, AreStarts, Visits, here_in, arrives, fallen_with}
use Rattle.cc_verify.proofs.Tables.{table_gives, give_length}

-- ---- starts lie in the code

within_true : (starts : List Bool) (at : ℕ) → get_or starts at false ≡ true → at < length starts
within_true [] at e = absurd (false≢true e)
within_true (b ∷ starts) zero e = omega arith
within_true (b ∷ starts) (suc at) e = let l = within_true starts at e in omega (arith, l)

or_first : (a b : Bool) → a ≡ true → (a || b) ≡ true
or_first true b e = refl
or_first false b e = absurd (false≢true e)

or_second : (a b : Bool) → b ≡ true → (a || b) ≡ true
or_second true b e = refl
or_second false b e = e

start_in : (places : List Place) (i : ℕ) (p : Place) (rest : List Place) → drop i places ≡ p ∷ rest → starts_at places p.at ≡ true
start_in [] zero p rest e = let bad : [] ≡ p ∷ rest = e in cc
start_in [] (suc i) p rest e = let bad : [] ≡ p ∷ rest = e in cc
start_in (q ∷ places) zero p rest e = let same : q ≡ p = cc in or_first (q.at == p.at) (starts_at places p.at) (eq-eqb q.at p.at (ap (λ (x : Place). x.at) same))
start_in (q ∷ places) (suc i) p rest e = or_second (q.at == p.at) (starts_at places p.at) (start_in places i p rest e)

pub start_within : (starts : List Bool) (places : List Place) (at : ℕ) → AreStarts starts places → starts_at places at ≡ true → at < length starts
start_within starts places at are e = within_true starts at (are at ∙ e)

aimed : (m : Method) (next to : ℕ) (o : Option ℤ) → target next o ≡ Some to → (if is_some_offset o then starts_target m (target next o) else true) ≡ true → is_start m to ≡ true
aimed m next to None e h = let bad : None ≡ Some to = e in cc
aimed m next to (Some offset) e h = let at : starts_target m (target next (Some offset)) ≡ true = h in subst (λ x. starts_target m x ≡ true) e at

-- ---- what the pass knows

pub record IsPassing (m : Method) (end : ℕ) (known : Known) (fallen : Option Stack) (index : ℕ) : Type 0 where
  pub given : Given
  pub table : IsTable known given
  pub long : length known ≡ m.size
  pub leads : (verdict : Option Broken) → CodeVerdict m end given fallen (drop index m.places) verdict → CodeVerdict m end (entries m.environment m.clauses) None m.places verdict

pub passing_start : (m : Method) (end : ℕ) (known : Known) → IsTable known (entries m.environment m.clauses) → length known ≡ m.size → IsPassing m end known None 0
passing_start m end known table long = record { given = entries m.environment m.clauses; table = table; long = long; leads = λ verdict v. v }

pub passing_end : (m : Method) (end : ℕ) (known : Known) (fallen : Option Stack) (index : ℕ) → IsPassing m end known fallen index → drop index m.places ≡ [] → end ≡ m.size
    → CodeVerdict m end (entries m.environment m.clauses) None m.places None
passing_end m end known fallen index p d e = p.leads None (subst (λ l. CodeVerdict m end p.given fallen l None) (sym d) (all_keep e))

pub passing_off : (m : Method) (end : ℕ) (known : Known) (fallen : Option Stack) (index : ℕ) → IsPassing m end known fallen index → drop index m.places ≡ [] → (end ≡ m.size → ⊥)
    → CodeVerdict m end (entries m.environment m.clauses) None m.places (Some (record { at = end; rule = 1 }))
passing_off m end known fallen index p d e = p.leads _ (subst (λ l. CodeVerdict m end p.given fallen l (Some (record { at = end; rule = 1 }))) (sym d) (no_start e))

target_same : (known : Known) (given : Given) (to : Option ℕ) → IsTable known given → at_target known to ≡ target_has given to
target_same known given None table = refl
target_same known given (Some at) table = table at

module _ (m : Method) (end : ℕ) (starts : List Bool) (known : Known) (fallen : Option Stack) (index : ℕ) (q : Place)
    (are : AreStarts starts m.places) (size : length starts ≡ m.size) (p : IsPassing m end known fallen index) (d : drop index m.places ≡ q ∷ drop (index + 1) m.places) where
  here_within : q.at < length known
  here_within = let l = start_within starts m.places q.at are (start_in m.places index q (drop (index + 1) m.places) d) in omega (arith, l, size, p.long)

  stack_same : arrives known q fallen ≡ stack_here q p.given fallen
  stack_same = ap (λ o. arrival fallen o) (p.table q.at)

  table_here : IsTable (give_at known q.at (arrives known q fallen)) (given_here p.given q.at (stack_here q p.given fallen))
  table_here = subst (λ s. IsTable (give_at known q.at (arrives known q fallen)) (given_here p.given q.at s)) stack_same (table_gives known p.given q.at (arrives known q fallen) p.table here_within)

  has_same : at_target (give_at known q.at (arrives known q fallen)) (jump (transition_of q.instruction) q.next) ≡ target_has (given_here p.given q.at (stack_here q p.given fallen)) (jump (transition_of q.instruction) q.next)
  has_same = target_same _ _ (jump (transition_of q.instruction) q.next) table_here

  here_same : here_in known q (arrives known q fallen) ≡ here q p.given fallen
  here_same =
      let made : Stack → Option Stack → Here = λ s h. record { place = q; stack = s; target_has = h } in
      ap (λ s. made s (at_target (give_at known q.at (arrives known q fallen)) (jump (transition_of q.instruction) q.next))) stack_same ∙ ap (λ h. made (stack_here q p.given fallen) h) has_same

  meets_same : Meets fallen (has_at known q.at) → Meets fallen (given_to p.given q.at)
  meets_same h = subst (λ o. Meets fallen o) (p.table q.at) h

  pub passing_broken : (rule : ℕ) (new : Known) → Visits m known q fallen (visit.Broken rule) new → CodeVerdict m end (entries m.environment m.clauses) None m.places (Some (record { at = q.at; rule = rule }))
  passing_broken rule new v =
      let verdict : Option Broken = Some (record { at = q.at; rule = rule }) in
      let found : CodeVerdict m end p.given fallen (q ∷ drop (index + 1) m.places) verdict =
      ⊎_elim
      (λ (u : (Meets fallen (has_at known q.at) → ⊥) × (rule ≡ 4)).
      subst (λ n. CodeVerdict m end p.given fallen (q ∷ drop (index + 1) m.places) (Some (record { at = q.at; rule = n }))) (sym u.1)
      (not_met (λ h. u.0 (subst (λ o. Meets fallen o) (sym (p.table q.at)) h))))
      (λ (u : Meets fallen (has_at known q.at) × IsFirst (Keeps m (here_in known q (arrives known q fallen))) rule).
      breaks (meets_same u.0) (subst (λ h. IsFirst (Keeps m h) rule) here_same u.1))
      v in
      p.leads verdict (subst (λ l. CodeVerdict m end p.given fallen l verdict) (sym d) found)

  brought_table : (to : Option ℕ) (known1 : Known) (given1 : Given) (out : Stack) → IsTable known1 given1 → ((at : ℕ) → to ≡ Some at → at < length known1) → IsTable (give_target known1 to out) (given1 ++ brought to (Some out))
  brought_table None known1 given1 out table below = subst (λ g. IsTable known1 g) (sym (append-nil given1)) table
  brought_table (Some at) known1 given1 out table below = table_gives known1 given1 at out table (below at refl)

  target_length : (to : Option ℕ) (known1 : Known) (out : Stack) → length (give_target known1 to out) ≡ length known1
  target_length None known1 out = refl
  target_length (Some at) known1 out = give_length known1 at out

  fallen_same : (b : Bool) (o : Option Stack) (out : Stack) → o ≡ Some out → fallen_with b out ≡ (if b then o else None)
  fallen_same true o out e = sym e
  fallen_same false o out e = refl

  pub passing_on : (next : Option Stack) (new : Known) → Visits m known q fallen (visit.Kept next) new → IsPassing m end new next (index + 1)
  passing_on next new v =
      let t = transition_of q.instruction in
      let s = arrives known q fallen in
      let to = jump t q.next in
      let out = v.2 in
      let all = subst (λ h. Before (Keeps m h) 13) here_same v.1 in
      let known1 = give_at known q.at s in
      let below : (at : ℕ) → to ≡ Some at → at < length known1 = λ at e.
      let start = aimed m q.next at (branch_offset t) e v.1.0.0.0.0.0.0.0.0.0.0.0.1 in
      let l = start_within starts m.places at are start in
      omega (arith, l, size, p.long, give_length known q.at s) in
      let behind_is : behind m (here q p.given fallen) ≡ Some out = subst (λ h. behind m h ≡ Some out) here_same v.3 in
      let given' : Given = given_behind m q p.given fallen in
      let table' : IsTable (give_target known1 to out) given' =
      subst (λ o. IsTable (give_target known1 to out) (given_here p.given q.at (stack_here q p.given fallen) ++ brought to o)) (sym behind_is)
      (brought_table to known1 (given_here p.given q.at (stack_here q p.given fallen)) out table_here below) in
      let next_is : next ≡ fallen_behind m (here q p.given fallen) = v.4 ∙ fallen_same (falls t) (behind m (here q p.given fallen)) out behind_is in
      record {
        given = given';
        table = subst (λ k. IsTable k given') (sym v.5) table';
        long = ap length v.5 ∙ target_length to known1 out ∙ give_length known q.at s ∙ p.long;
        leads = λ verdict more.
            p.leads verdict (subst (λ l. CodeVerdict m end p.given fallen l verdict) (sym d)
            (keeps (meets_same v.0) all (subst (λ f. CodeVerdict m end given' f (drop (index + 1) m.places) verdict) next_is more)));
      }

-- the instruction that is next
pub next_is : (m : Method) (places : List Place) (i : ℕ) (d : Place) → places ≡ m.places → i < length places → drop i m.places ≡ get_or places i d ∷ drop (i + 1) m.places
next_is m places i d same lt = ap (drop i) (sym same) ∙ drop_more places i d lt ∙ ap (λ l. get_or places i d ∷ drop (i + 1) l) same
