-- What a search for all classes that a class reaches keeps.
use Rattle.std.proofs.Common.{◌≡◌, ◌⊎◌, ℕ, ◌+◌, ◌<◌, ◌≤◌, Bool, true, false, cond, List, [], ◌∷◌, ◌++◌, length, get_or, set, Some, All, Contains, slice_get, refl, sym, ap, ◌∙◌, subst, lit<, inl, inr, ⊎_elim, arith, append_assoc, length-append}
use Rattle.std.proofs.Math.ListN.{length-set}
use Rattle.std.proofs.lemmas.List.{get_or-set_other, append-nil, get_or_append_left}
use Rattle.std.proofs.lemmas.Bool.{cases_eq}
use Rattle.std.proofs.lemmas.Option.{slice_get-get_or}
use Rattle.std.proofs.lemmas.List.Sums.{sum_by-set}
use Rattle.std.proofs.lemmas.List.Elements.{All-push, All-append, All-weaker, All-contains, All-nil, All-cons, Contains-push, Contains-get_or, Contains-append_left, Contains-append_right}
use Rattle.cc_base.specs.declared.identifiers.ClassId.{ClassId}
use Rattle.cc_core.specs.Classes.{Reaches, one, more}
use Rattle.cc_core.specs.Search.{AreReached, AreMarked, IsAdded}

pub same_id : (a b : ClassId) → a.0 ≡ b.0 → a ≡ b
same_id a b e = ap (λ n. record { 0 = n }) e

unmarked : (b : Bool) → b ≡ false → cond {A = ℕ} b 1 0 ≡ 0
unmarked b e = rw e refl

-- the mark of a class that was not found yet
pub marked-push : (marks : List Bool) (found : List ClassId) (class : ClassId) → AreMarked marks found → class.0 < length marks → get_or marks class.0 false ≡ false → AreMarked (set marks class.0 true) (found ++ class ∷ [])
marked-push marks found class m h u =
    record {
      marked = λ c e. ⊎_elim
          (λ s. let k : class ≡ c = same_id class c (sym s) in subst (λ x. Contains (found ++ class ∷ []) x) k (Contains-push found class))
          (λ n. Contains-append_left found (class ∷ []) c (m.marked c (sym (get_or-set_other marks class.0 c.0 true false n) ∙ e)))
          (cases_eq c.0 class.0);
      within = rw length-set (All-push (λ (x : ClassId). x.0 < length marks) found class m.within h);
      counted =
          let s = sum_by-set (λ b. cond b 1 0) marks class.0 true false h in
          let t = unmarked (get_or marks class.0 false) u in
          omega (arith, s, t, m.counted, length-append found (class ∷ []));
    }

-- a row that adds nothing
pub added-none : (found : List ClassId) → IsAdded [] found found
added-none found = record { behind = []; is = sym (append-nil found); of_row = All-nil (Contains []); whole = All-nil (Contains found) }

-- a class that is found already
pub added-found : (found : List ClassId) (class : ClassId) → Contains found class → IsAdded (class ∷ []) found found
added-found found class h = record { behind = []; is = sym (append-nil found); of_row = All-nil (Contains (class ∷ [])); whole = All-cons (Contains found) class [] h (All-nil (Contains found)) }

-- a class that is not found yet
pub added-push : (found : List ClassId) (class : ClassId) → IsAdded (class ∷ []) found (found ++ class ∷ [])
added-push found class =
    record {
      behind = class ∷ [];
      is = refl;
      of_row = All-cons (Contains (class ∷ [])) class [] (0, lit< tt, refl) (All-nil (Contains (class ∷ [])));
      whole = All-cons (Contains (found ++ class ∷ [])) class [] (Contains-push found class) (All-nil (Contains (found ++ class ∷ [])));
    }

-- what one row adds, and then another one
pub added-append : (first second old mid new : List ClassId) → IsAdded first old mid → IsAdded second mid new → IsAdded (first ++ second) old new
added-append first second old mid new a b =
    record {
      behind = a.behind ++ b.behind;
      is = b.is ∙ ap (λ l. l ++ b.behind) a.is ∙ append_assoc old a.behind b.behind;
      of_row = All-append (Contains (first ++ second)) a.behind b.behind
          (All-weaker (Contains first) (Contains (first ++ second)) (λ x h. Contains-append_left first second x h) a.behind a.of_row)
          (All-weaker (Contains second) (Contains (first ++ second)) (λ x h. Contains-append_right first second x h) b.behind b.of_row);
      whole = All-append (Contains new) first second
          (All-weaker (Contains mid) (Contains new) (λ x h. subst (λ l. Contains l x) (sym b.is) (Contains-append_left mid b.behind x h)) first a.whole)
          b.whole;
    }

-- all classes of the row of a class are found
abbrev pub Covers : List (List ClassId) → List ClassId → ClassId → Type 0
Covers steps found class = (row : List ClassId) → slice_get steps class.0 ≡ Some row → All (Contains found) row

covers-more : (steps : List (List ClassId)) (found behind : List ClassId) (class : ClassId) → Covers steps found class → Covers steps (found ++ behind) class
covers-more steps found behind class h row e = All-weaker (Contains found) (Contains (found ++ behind)) (λ x k. Contains-append_left found behind x k) row (h row e)

-- where a search stands that has followed the first of the classes that it found
pub record IsSearched (steps : List (List ClassId)) (from : ClassId) (found : List ClassId) (at : ℕ) : Type 0 where
  pub sound : All (Reaches steps from) found
  pub start : Covers steps found from
  pub at_most : at ≤ length found
  pub followed : (k : ℕ) (d : ClassId) → k < at → Covers steps found (get_or found k d)

-- one more step at the end
pub reaches-then : {steps : List (List ClassId)} {from to : ClassId} (by : ClassId) (row : List ClassId) → Reaches steps from by → slice_get steps by.0 ≡ Some row → Contains row to → Reaches steps from to
reaches-then by row (one e h) f k = more e h (one f k)
reaches-then by row (more e h r) f k = more e h (reaches-then by row r f k)

-- where all that a class reaches by one step is in a set that no step leaves, all that it reaches is there
pub reaches-in : {steps : List (List ClassId)} {from to : ClassId} (found : List ClassId) → Reaches steps from to → Covers steps found from → ((class : ClassId) → Contains found class → Covers steps found class) → Contains found to
reaches-in {steps} {from} {to} found (one {row} e h) start all = All-contains (Contains found) row to (start row e) h
reaches-in {steps} {from} {to} found (more {by} {row} e h r) start all = reaches-in found r (all by (All-contains (Contains found) row by (start row e) h)) all

same_some : {A : Type 0} (a b : A) → Some a ≡ Some b → a ≡ b
same_some a b e = cc

read_any : (xs : List ClassId) (i : ℕ) (d e : ClassId) → i < length xs → get_or xs i d ≡ get_or xs i e
read_any xs i d e h = same_some _ _ (sym (slice_get-get_or xs i d h) ∙ slice_get-get_or xs i e h)

here : (new found behind : List ClassId) (k at : ℕ) (d class : ClassId) → new ≡ found ++ behind → k ≡ at → at < length found → class ≡ get_or found at class → get_or new k d ≡ class
here new found behind k at d class e last h g =
    ap (λ l. get_or l k d) e ∙ ap (λ i. get_or (found ++ behind) i d) last ∙ get_or_append_left found behind d at h ∙ read_any found at d class h ∙ sym g

last_or_below : (k at : ℕ) → k < at + 1 → (k < at) ⊎ (k ≡ at)
last_or_below k at h = ⊎_elim (λ e. inr e) (λ n. inl (omega arith)) (cases_eq k at)

pub search-start : (steps : List (List ClassId)) (from : ClassId) (row new : List ClassId) → slice_get steps from.0 ≡ Some row → IsAdded row [] new → IsSearched steps from new 0
search-start steps from row new e a =
    record {
      sound = subst (λ l. All (Reaches steps from) l) (sym a.is) (All-weaker (Contains row) (Reaches steps from) (λ x h. one e h) a.behind a.of_row);
      start = λ other f. subst (λ r. All (Contains new) r) (same_some row other (sym e ∙ f)) a.whole;
      at_most = omega arith;
      followed = λ k d h. absurd (omega arith);
    }

pub search-step : (steps : List (List ClassId)) (from : ClassId) (found new row : List ClassId) (at : ℕ) (class : ClassId) → IsSearched steps from found at → at < length found → class ≡ get_or found at class → slice_get steps class.0 ≡ Some row → IsAdded row found new → IsSearched steps from new (at + 1)
search-step steps from found new row at class s h g e a =
    let reached : Reaches steps from class = All-contains (Reaches steps from) found class s.sound (subst (λ c. Contains found c) (sym g) (Contains-get_or found at class h)) in
    record {
      sound = subst (λ l. All (Reaches steps from) l) (sym a.is) (All-append (Reaches steps from) found a.behind s.sound (All-weaker (Contains row) (Reaches steps from) (λ x k. reaches-then class row reached e k) a.behind a.of_row));
      start = subst (λ l. Covers steps l from) (sym a.is) (covers-more steps found a.behind from s.start);
      at_most = omega (arith, ap length a.is, length-append found a.behind);
      followed = λ k d b. ⊎_elim
          (λ below. subst (λ l. Covers steps l (get_or l k d)) (sym a.is) (rw (get_or_append_left found a.behind d k (omega arith)) (covers-more steps found a.behind (get_or found k d) (s.followed k d below))))
          (λ last. let same : get_or new k d ≡ class = here new found a.behind k at d class a.is last h g in
          subst (λ x. Covers steps new x) (sym same) (λ other f. subst (λ r. All (Contains new) r) (same_some row other (sym e ∙ f)) a.whole))
          (last_or_below k at b);
    }

pub search-end : (steps : List (List ClassId)) (from : ClassId) (found : List ClassId) (at : ℕ) → IsSearched steps from found at → length found ≤ at → AreReached steps from found
search-end steps from found at s h =
    record {
      sound = s.sound;
      complete = λ to r. reaches-in found r s.start (λ class (k, b, e). subst (λ c. Covers steps found c) e (s.followed k class (omega arith)));
    }

-- an element that is read and tested
pub same_read : (marks : List Bool) (at : ℕ) (read : Bool) → read ≡ get_or marks at read → read ≡ false → get_or marks at false ≡ false
same_read marks at read e f = subst (λ b. get_or marks at b ≡ b) f (sym e)
