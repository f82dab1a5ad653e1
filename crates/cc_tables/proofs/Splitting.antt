-- The numbers of columns that stand one after the other.
use Rattle.std.proofs.Common.{◌≡◌, ℕ, ◌+◌, ◌<◌, ◌≤◌, Bool, true, false, List, [], ◌∷◌, ◌++◌, length, get_or, take, drop, map, sym, ap, ◌∙◌, append_assoc, arith}
use Rattle.std.specs.Prelude.{nat_lt, if◌then◌else◌}
use Rattle.std.specs.List.{sum, list_all}
use Rattle.std.proofs.lemmas.List.{append-nil, drop_more, drop_all, length-drop}
use Rattle.std.proofs.lemmas.List.Sums.{sum_by-cons}
use Rattle.cc_layout.specs.Numbers.{value_of}
use Rattle.cc_module.specs.declared.table.Column.{Column}
use Rattle.cc_module.specs.declared.table.Column.TheVariants as col
use Rattle.cc_module.specs.Metadata.{Sizes, column_width}
use Rattle.cc_tables.specs.Reading.{numbers_in}

two_or_four : (b : Bool) → 1 ≤ (if b then 2 else 4)
two_or_four true = omega arith
two_or_four false = omega arith

-- a column is never empty
pub width_some : (s : Sizes) (column : Column) → 1 ≤ column_width s column
width_some s col.U1 = omega arith
width_some s col.U2 = omega arith
width_some s col.U4 = omega arith
width_some s col.Name = two_or_four _
width_some s col.Guid = omega arith
width_some s col.Blob = two_or_four _
width_some s (col.Row table) = two_or_four _
width_some s (col.Coded kind) = two_or_four _

module _ (s : Sizes) (all : List Column) (i : ℕ) (d : Column) (lt : i < length all) (rest after : List ℕ) (width : ℕ) (w : width ≡ column_width s (get_or all i d)) where
  pub room_here : sum (map (column_width s) (drop i all)) ≤ length rest → width ≤ length rest
  room_here h =
      let opened = ap (λ (x : List Column). sum (map (column_width s) x)) (drop_more all i d lt) ∙ sum_by-cons (λ (x : ℕ). x) (column_width s (get_or all i d)) (map (column_width s) (drop (i + 1) all)) in
      omega (arith, h, opened, w)

  pub room_after : after ≡ drop width rest → sum (map (column_width s) (drop i all)) ≤ length rest → sum (map (column_width s) (drop (i + 1) all)) ≤ length after
  room_after a h =
      let opened = ap (λ (x : List Column). sum (map (column_width s) x)) (drop_more all i d lt) ∙ sum_by-cons (λ (x : ℕ). x) (column_width s (get_or all i d)) (map (column_width s) (drop (i + 1) all)) in
      omega (arith, h, opened, w, ap length a, length-drop width rest)

  pub numbers_step : (value : ℕ) (done new whole : List ℕ) → value ≡ value_of (take width rest) → after ≡ drop width rest → new ≡ done ++ value ∷ [] → done ++ numbers_in s (drop i all) rest ≡ whole → new ++ numbers_in s (drop (i + 1) all) after ≡ whole
  unfolding numbers_in
  numbers_step value done new whole v a grown e =
      let more : List ℕ = numbers_in s (drop (i + 1) all) after in
      let head : value_of (take (column_width s (get_or all i d)) rest) ≡ value = ap (λ (n : ℕ). value_of (take n rest)) (sym w) ∙ sym v in
      let tail : drop (column_width s (get_or all i d)) rest ≡ after = ap (λ (n : ℕ). drop n rest) (sym w) ∙ sym a in
      let opened : numbers_in s (drop i all) rest ≡ value ∷ more = ap (λ (x : List Column). numbers_in s x rest) (drop_more all i d lt) ∙ (λ j. head j ∷ numbers_in s (drop (i + 1) all) (tail j)) in
      ap (λ (x : List ℕ). x ++ more) grown ∙ append_assoc done (value ∷ []) more ∙ ap (λ (x : List ℕ). done ++ x) (sym opened) ∙ e

pub numbers_done : (s : Sizes) (all : List Column) (i : ℕ) (rest done whole : List ℕ) → length all ≤ i → done ++ numbers_in s (drop i all) rest ≡ whole → done ≡ whole
unfolding numbers_in
numbers_done s all i rest done whole past e = sym (append-nil done) ∙ ap (λ (x : List Column). done ++ numbers_in s x rest) (sym (drop_all i all past)) ∙ e
