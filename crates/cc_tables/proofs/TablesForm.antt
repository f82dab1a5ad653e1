-- Where the rows begin, and the faults of the stream #~ one after the other.
use Rattle.std.proofs.Common.{◌≡◌, ℕ, ◌+◌, List, [], ◌∷◌, ◌++◌, map, Option, Some, None, refl, sym, ap, ◌∙◌, arith}
use Rattle.std.specs.List.{flat_map, sum}
use Rattle.std.proofs.lemmas.List.Concat.{flat_map-cons}
use Rattle.std.proofs.lemmas.List.Sums.{sum_by-cons}
use Rattle.cc_layout.specs.declared.field.Field.{Field}
use Rattle.cc_layout.specs.Layout.{width_of, peeked}
use Rattle.cc_module.specs.declared.table.Table.{Table}
use Rattle.cc_module.specs.Metadata.{Sizes, count_field, tables}
use Rattle.cc_tables.specs.declared.fault.TableFault.{TableFault}
use Rattle.cc_tables.specs.declared.width.StreamSizes.{StreamSizes}
use Rattle.cc_tables.specs.Columns.{rows_size}
use Rattle.cc_tables.specs.Counts.{counts_in, table_rows}
use Rattle.cc_tables.specs.Faults.{first, table_header_fault, end_fault}
use Rattle.cc_tables.specs.Numbering.{sizes_by, header_of}
use Rattle.cc_tables.specs.Reading.{rows_place, sizes_in, tables_fault}

width_of-append : (a b : List Field) → width_of (a ++ b) ≡ width_of a + width_of b
width_of-append [] b = omega arith
width_of-append (f ∷ a) b = omega (arith, width_of-append a b)

counts_wide : (rows : Table → ℕ) (all : List Table) → width_of (flat_map (count_field rows) all) ≡ sum (map (λ table. width_of (count_field rows table)) all)
counts_wide rows [] = refl
counts_wide rows (table ∷ all) =
    ap width_of (flat_map-cons (count_field rows) table all) ∙ width_of-append (count_field rows table) (flat_map (count_field rows) all) ∙ ap (λ (n : ℕ). width_of (count_field rows table) + n) (counts_wide rows all)
    ∙ sym (sum_by-cons (λ (x : ℕ). x) (width_of (count_field rows table)) (map (λ (t : Table). width_of (count_field rows t)) all))

pub place_known : (s : Sizes) (n : ℕ) → n ≡ sum (map (λ table. width_of (count_field s.rows table)) tables) → 24 + n ≡ rows_place s
unfolding header_of
place_known s n e = omega (arith, e, counts_wide s.rows tables)

pub first_found : (a b : Option TableFault) (fault : TableFault) → a ≡ Some fault → first a b ≡ Some fault
first_found a b fault e = ap (λ (x : Option TableFault). first x b) e

pub first_after : (a b : Option TableFault) (r : Option TableFault) → a ≡ None → b ≡ r → first a b ≡ r
first_after a b r e f = ap (λ (x : Option TableFault). first x b) e ∙ f

module _ (s : StreamSizes) (stream items : List ℕ) (place size : ℕ) (is : items ≡ counts_in (peeked 8 8 stream) 24 tables stream) (p : place ≡ rows_place (sizes_by (table_rows items) s)) (z : size ≡ rows_size (sizes_by (table_rows items) s)) where
  used : place + size ≡ rows_place (sizes_in s stream) + rows_size (sizes_in s stream)
  used = (λ i. p i + z i) ∙ ap (λ (xs : List ℕ). rows_place (sizes_by (table_rows xs) s) + rows_size (sizes_by (table_rows xs) s)) is

  -- behind a header without a fault
  pub tables_after : (r : Option TableFault) → table_header_fault 108 s stream ≡ None → r ≡ end_fault 108 (place + size) stream → tables_fault s stream ≡ r
  tables_after r h e = first_after (table_header_fault 108 s stream) (end_fault 108 (rows_place (sizes_in s stream) + rows_size (sizes_in s stream)) stream) r h (ap (λ (n : ℕ). end_fault 108 n stream) (sym used) ∙ sym e)
