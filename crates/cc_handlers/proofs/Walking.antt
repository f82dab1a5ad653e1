-- A way out, clause by clause, and the first catch.
use Rattle.std.proofs.Common.{◌≡◌, ℕ, ◌+◌, List, [], ◌∷◌, length, drop, refl, sym, ap, ◌∙◌, arith}
use Rattle.std.specs.Prelude.{Bool, true, false, Option, Some, None, slice_get, if◌then◌else◌}
use Rattle.std.proofs.lemmas.List.{drop_more}
use Rattle.std.proofs.lemmas.Option.{slice_get_within, get_or_from_slice_get}
use Rattle.cc_cil.specs.declared.body.Clause.{Clause}
use Rattle.cc_execution.specs.declared.executable.ClassRow.{ClassRow}
use Rattle.cc_handlers.specs.declared.ways.Departure.{Departure}
use Rattle.cc_handlers.specs.declared.ways.Entrance.{Entrance}
use Rattle.cc_handlers.specs.declared.ways.Turn.{Turn}
use Rattle.cc_handlers.specs.declared.ways.Turn.TheVariants.{Out, Stop, Into}
use Rattle.cc_handlers.specs.declared.ways.Way.{Way}
use Rattle.cc_handlers.specs.Search.{takes, place_of, catch_from}
use Rattle.cc_handlers.specs.Ways.{turn_at, by_turn, way_out}

pub drop_all : {A : Type 0} (xs : List A) → drop (length xs) xs ≡ []
drop_all [] = refl
drop_all (x ∷ xs) = drop_all xs

pub drop_at : {A : Type 0} (xs : List A) (i : ℕ) (a : A) → slice_get xs i ≡ Some a → drop i xs ≡ a ∷ drop (i + 1) xs
drop_at xs i a e = drop_more xs i a (slice_get_within xs i a e) ∙ ap (λ z. z ∷ drop (i + 1) xs) (get_or_from_slice_get xs i a a e)

-- a way behind so many handlers
abbrev pub after : ℕ → Way → Way
after n way = record { left = n + way.left; into = way.into }

way_with : (n k : ℕ) (into : Option Entrance) → n ≡ k → ◌≡◌ {A = Way} (record { left = n; into = into }) (record { left = k; into = into })
way_with n k into e = cc

pub after_none : (way : Way) → way ≡ after 0 way
after_none way = way_with way.left (0 + way.left) way.into (omega arith)

pub after_one : (n : ℕ) (way : Way) → after n (by_turn Out way) ≡ after (n + 1) way
after_one n way = way_with (n + (way.left + 1)) (n + 1 + way.left) way.into (omega arith)

pub after_stop : (n : ℕ) (way : Way) → after n (by_turn Stop way) ≡ record { left = n; into = None }
after_stop n way = way_with (n + 0) n None (omega arith)

pub after_into : (n : ℕ) (e : Entrance) (way : Way) → after n (by_turn (Into e) way) ≡ record { left = n; into = Some e }
after_into n e way = way_with (n + 0) n (Some e) (omega arith)

module _ (classes : List ClassRow) (d : Departure) (at : ℕ) (clauses : List Clause) where
  pub way_none : way_out classes d at clauses ≡ after 0 (way_out classes d at (drop 0 clauses))
  way_none = after_none (way_out classes d at clauses)

  -- the turn at one clause more
  pub way_more : (i n : ℕ) (c : Clause) (t : Turn) → slice_get clauses i ≡ Some c → t ≡ turn_at classes d at c
      → way_out classes d at clauses ≡ after n (way_out classes d at (drop i clauses))
      → way_out classes d at clauses ≡ after n (by_turn t (way_out classes d at (drop (i + 1) clauses)))
  way_more i n c t is e before =
      before ∙ ap (λ l. after n (way_out classes d at l)) (drop_at clauses i c is)
      ∙ ap (λ z. after n (by_turn z (way_out classes d at (drop (i + 1) clauses)))) (sym e)

  pub way_all : (i n : ℕ) → i ≡ length clauses → way_out classes d at clauses ≡ after n (way_out classes d at (drop i clauses)) → way_out classes d at clauses ≡ record { left = n; into = None }
  way_all i n e before = before ∙ ap (λ k. after n (way_out classes d at (drop k clauses))) e ∙ ap (λ l. after n (way_out classes d at l)) (drop_all clauses) ∙ way_with (n + 0) n None (omega arith)

-- ---- the first catch

if_so : {A : Type 0} (b : Bool) (p q : A) → b ≡ true → (if b then p else q) ≡ p
if_so b p q e = ap (λ z. if z then p else q) e

if_not : {A : Type 0} (b : Bool) (p q : A) → b ≡ false → (if b then p else q) ≡ q
if_not b p q e = ap (λ z. if z then p else q) e

module _ (matching : ℕ → Bool) (at : ℕ) (clauses : List Clause) (i : ℕ) (c : Clause) (is : slice_get clauses i ≡ Some c) where
  here : catch_from matching at i (drop i clauses) ≡ (if takes matching at c then Some (place_of i c) else catch_from matching at (i + 1) (drop (i + 1) clauses))
  here = ap (catch_from matching at i) (drop_at clauses i c is)

  pub catch_found : (b : Bool) → b ≡ takes matching at c → b ≡ true → catch_from matching at 0 clauses ≡ catch_from matching at i (drop i clauses) → catch_from matching at 0 clauses ≡ Some (place_of i c)
  catch_found b e t before = before ∙ here ∙ if_so (takes matching at c) (Some (place_of i c)) (catch_from matching at (i + 1) (drop (i + 1) clauses)) (sym e ∙ t)

  pub catch_more : (b : Bool) → b ≡ takes matching at c → b ≡ false → catch_from matching at 0 clauses ≡ catch_from matching at i (drop i clauses)
      → catch_from matching at 0 clauses ≡ catch_from matching at (i + 1) (drop (i + 1) clauses)
  catch_more b e t before = before ∙ here ∙ if_not (takes matching at c) (Some (place_of i c)) (catch_from matching at (i + 1) (drop (i + 1) clauses)) (sym e ∙ t)

pub catch_all : (matching : ℕ → Bool) (at : ℕ) (clauses : List Clause) (i : ℕ) → i ≡ length clauses → catch_from matching at 0 clauses ≡ catch_from matching at i (drop i clauses) → catch_from matching at 0 clauses ≡ None
catch_all matching at clauses i e before = before ∙ ap (λ k. catch_from matching at i (drop k clauses)) e ∙ ap (catch_from matching at i) (drop_all clauses)
