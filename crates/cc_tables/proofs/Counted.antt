-- The numbers of rows read table by table.
use Rattle.std.proofs.Common.{◌≡◌, ℕ, suc, ◌+◌, ◌≤◌, ◌<◌, List, [], ◌∷◌, ◌++◌, length, get_or, drop, refl, sym, ap, ◌∙◌, append_assoc}
use Rattle.std.proofs.lemmas.List.{append-nil, drop_more, drop_all}
use Rattle.cc_module.specs.declared.table.Table.{Table}
use Rattle.cc_tables.specs.Counts.{count_at, place_after, counts_in}

-- one table more
pub counts_step : (valid place next i count : ℕ) (all : List Table) (d : Table) (bytes done new whole : List ℕ) → i < length all → done ++ counts_in valid place (drop i all) bytes ≡ whole → count ≡ count_at valid place (get_or all i d) bytes
    → next ≡ place_after valid place (get_or all i d) → new ≡ done ++ count ∷ [] → new ++ counts_in valid next (drop (i + 1) all) bytes ≡ whole
unfolding counts_in
counts_step valid place next i count all d bytes done new whole lt e is to grown =
    let rest : List ℕ = counts_in valid next (drop (i + 1) all) bytes in
    let opened : counts_in valid place (drop i all) bytes ≡ count ∷ rest =
    ap (λ (more : List Table). counts_in valid place more bytes) (drop_more all i d lt) ∙ (λ j. sym is j ∷ counts_in valid (sym to j) (drop (i + 1) all) bytes) in
    ap (λ (x : List ℕ). x ++ rest) grown ∙ append_assoc done (count ∷ []) rest ∙ ap (λ (x : List ℕ). done ++ x) (sym opened) ∙ e

pub counts_done : (valid place i : ℕ) (all : List Table) (bytes done whole : List ℕ) → length all ≤ i → done ++ counts_in valid place (drop i all) bytes ≡ whole → done ≡ whole
unfolding counts_in
counts_done valid place i all bytes done whole past e =
    sym (append-nil done) ∙ ap (λ (more : List Table). done ++ counts_in valid place more bytes) (sym (drop_all i all past)) ∙ e

pub length-counts_in : (valid place : ℕ) (all : List Table) (bytes : List ℕ) → length (counts_in valid place all bytes) ≡ length all
unfolding counts_in
length-counts_in valid place [] bytes = refl
length-counts_in valid place (table ∷ all) bytes = ap suc (length-counts_in valid (place_after valid place table) all bytes)
