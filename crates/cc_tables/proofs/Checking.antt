-- The checks of metadata one after the other.
use Rattle.std.proofs.Common.{◌≡◌, ℕ, ◌+◌, ◌≤◌, List, [], ◌∷◌, length, drop, Option, Some, None, Result, Ok, Err, sym, ap, subst, ◌∙◌, inl, inr, arith}
use Rattle.std.proofs.lemmas.Bool.{cases_lt, lt-ltb}
use Rattle.std.proofs.lemmas.List.{length-drop}
use Rattle.std.specs.Prelude.{IfOk, OnOk}
use Rattle.std.specs.List.{flat_map, AllByRecursion}
use Rattle.cc_layout.specs.Layout.{peeked}
use Rattle.cc_module.specs.declared.table.Table.{Table}
use Rattle.cc_module.specs.declared.module.Module.{Module}
use Rattle.cc_module.specs.Heaps.{name_entry, blob_entry}
use Rattle.cc_module.specs.Rows.{all_cells, row_count}
use Rattle.cc_module.specs.Metadata.{Sizes, names_of, blobs_of, tables}
use Rattle.cc_module.specs.Storable.{IsSortedModule}
use Rattle.cc_tables.specs.declared.fault.TableFault.{TableFault}
use Rattle.cc_tables.specs.declared.headers.StreamLengths.{StreamLengths}
use Rattle.cc_tables.specs.Counts.{counts_in, table_rows}
use Rattle.cc_tables.specs.Columns.{rows_size}
use Rattle.cc_tables.specs.Faults.{lengths_in, table_header_fault, end_fault, first}
use Rattle.cc_tables.specs.Forms.{strings_heap, user_strings_heap, blob_heap, HasForm, HasSomeForm, FormFault}
use Rattle.cc_tables.specs.Numbering.{sizes_by}
use Rattle.cc_tables.specs.Reading.{strings_place, user_strings_place, blobs_place, piece, streams_in, heap_lengths, sizes_in, rows_place, tables_fault, start_fault, RowNumbers, tables_numbers, AreRows, RowFault, rows_of, unused_fault, heaps_fault, OrderFault, signature_of, SignatureFault, ModuleFault, ContentFault, HasRows, RowsFault, AreFormed, FormsFault, StreamsFault, IsFirstFault}
use Rattle.cc_tables.proofs.Forming.{first_none}
use Rattle.cc_tables.proofs.TablesForm.{first_found, first_after}

end_within : (at used : ℕ) (stream : List ℕ) → end_fault at used stream ≡ None → used ≤ length stream
end_within at used stream e =
    elim (cases_lt (length stream) used) [
      | inl lt ↦ absurd (let k = rw (lt-ltb (length stream) used lt) at e in cc)
      | inr le ↦ le
    ]

-- what holds of an answer, from two things that do
pub both_ok : {T E : Type 0} (result : Result T E) (P Q R : T → Type 0) → IfOk result P → IfOk result Q → ((r : T) → P r → Q r → R r) → IfOk result R
both_ok (Ok r) P Q R h k f = f r h k
both_ok (Err e) P Q R h k f = tt

pub on_ok : {T E : Type 0} (result : Result T E) (P : Type 0) → P → OnOk result P
on_ok (Ok r) P h = h
on_ok (Err e) P h = tt

module _ (lengths : StreamLengths) (bytes : List ℕ) where
  -- ---- the pieces

  pub tables_at : (stream : List ℕ) → stream ≡ piece 108 lengths.tables bytes → stream ≡ (streams_in lengths bytes).tables
  unfolding streams_in
  tables_at stream e = e

  pub strings_at : (stream : List ℕ) → stream ≡ piece (108 + lengths.tables) lengths.strings bytes → stream ≡ (streams_in lengths bytes).strings
  unfolding streams_in
  strings_at stream e = e

  pub user_strings_at : (stream : List ℕ) → stream ≡ piece (108 + lengths.tables + lengths.strings) lengths.user_strings bytes → stream ≡ (streams_in lengths bytes).user_strings
  unfolding streams_in
  user_strings_at stream e = e

  pub blobs_at : (stream : List ℕ) → stream ≡ piece (108 + lengths.tables + lengths.strings + lengths.user_strings + 16) lengths.blobs bytes → stream ≡ (streams_in lengths bytes).blobs
  unfolding streams_in
  blobs_at stream e = e

  -- ---- the forms of the heaps

  module _ (strings : List ℕ) (a : strings ≡ piece (108 + lengths.tables) lengths.strings bytes) where
    pub strings_wrong : (fault : TableFault) → FormFault strings_heap (108 + lengths.tables) strings fault → FormsFault lengths (streams_in lengths bytes) fault
    strings_wrong fault f = inl (subst (λ (x : List ℕ). FormFault strings_heap (108 + lengths.tables) x fault) (strings_at strings a) f)

    module _ (h : HasSomeForm strings_heap strings) where
      strings_right : HasSomeForm strings_heap (streams_in lengths bytes).strings
      strings_right = subst (HasSomeForm strings_heap) (strings_at strings a) h

      module _ (user_strings : List ℕ) (b : user_strings ≡ piece (108 + lengths.tables + lengths.strings) lengths.user_strings bytes) where
        pub user_strings_wrong : (fault : TableFault) → FormFault user_strings_heap (108 + lengths.tables + lengths.strings) user_strings fault → FormsFault lengths (streams_in lengths bytes) fault
        user_strings_wrong fault f = inr (strings_right, inl (subst (λ (x : List ℕ). FormFault user_strings_heap (108 + lengths.tables + lengths.strings) x fault) (user_strings_at user_strings b) f))

        pub user_strings_right : (texts : List (List ℕ)) → HasForm user_strings_heap user_strings texts → HasForm user_strings_heap (streams_in lengths bytes).user_strings texts
        user_strings_right texts k = subst (λ (x : List ℕ). HasForm user_strings_heap x texts) (user_strings_at user_strings b) k

        module _ (texts : List (List ℕ)) (k : HasForm user_strings_heap user_strings texts) (blobs : List ℕ) (c : blobs ≡ piece (108 + lengths.tables + lengths.strings + lengths.user_strings + 16) lengths.blobs bytes) where
          pub blobs_wrong : (fault : TableFault) → FormFault blob_heap (108 + lengths.tables + lengths.strings + lengths.user_strings + 16) blobs fault → FormsFault lengths (streams_in lengths bytes) fault
          blobs_wrong fault f =
              inr (strings_right, inr ((texts, user_strings_right texts k), subst (λ (x : List ℕ). FormFault blob_heap (108 + lengths.tables + lengths.strings + lengths.user_strings + 16) x fault) (blobs_at blobs c) f))

          pub all_right : HasSomeForm blob_heap blobs → AreFormed (streams_in lengths bytes)
          all_right l = record { strings = strings_right; user_strings = (texts, user_strings_right texts k); blobs = subst (HasSomeForm blob_heap) (blobs_at blobs c) l }

  -- ---- the rows

  module _ (items : List ℕ) (is : items ≡ counts_in (peeked 8 8 (streams_in lengths bytes).tables) 24 tables (streams_in lengths bytes).tables) where
    sizes_told : sizes_by (table_rows items) (heap_lengths lengths) ≡ sizes_in (heap_lengths lengths) (streams_in lengths bytes).tables
    sizes_told = ap (λ (x : List ℕ). sizes_by (table_rows x) (heap_lengths lengths)) is

    module _ (formed : tables_fault (heap_lengths lengths) (streams_in lengths bytes).tables ≡ None) (stream : List ℕ) (a : stream ≡ piece 108 lengths.tables bytes) (place : ℕ) (p : place ≡ rows_place (sizes_by (table_rows items) (heap_lengths lengths))) where
      whole_room : place + rows_size (sizes_by (table_rows items) (heap_lengths lengths)) ≤ length stream
      whole_room =
          let told = sizes_in (heap_lengths lengths) (streams_in lengths bytes).tables in
          let right = (first_none (table_header_fault 108 (heap_lengths lengths) (streams_in lengths bytes).tables) (end_fault 108 (rows_place told + rows_size told) (streams_in lengths bytes).tables) formed).1 in
          let within : rows_place told + rows_size told ≤ length (streams_in lengths bytes).tables = end_within 108 (rows_place told + rows_size told) (streams_in lengths bytes).tables right in
          let same : place + rows_size (sizes_by (table_rows items) (heap_lengths lengths)) ≡ rows_place told + rows_size told = (λ i. p i + rows_size (sizes_by (table_rows items) (heap_lengths lengths))) ∙ ap (λ (s : Sizes). rows_place s + rows_size s) sizes_told in
          omega (arith, within, same, ap length (tables_at stream a))

      pub place_within : place ≤ length stream
      place_within = omega (arith, whole_room)

      module _ (rest : List ℕ) (r : rest ≡ drop place stream) where
        pub rows_room : rows_size (sizes_by (table_rows items) (heap_lengths lengths)) ≤ length rest
        rows_room = omega (arith, whole_room, ap length r, length-drop place stream)

        rows_told : tables_numbers (sizes_by (table_rows items) (heap_lengths lengths)) tables rest ≡ rows_of lengths (streams_in lengths bytes)
        rows_told =
            let moved : rest ≡ drop (rows_place (sizes_by (table_rows items) (heap_lengths lengths))) (streams_in lengths bytes).tables = r ∙ (λ i. drop (p i) (tables_at stream a i)) in
            ap (tables_numbers (sizes_by (table_rows items) (heap_lengths lengths)) tables) moved ∙ ap (λ (s : Sizes). tables_numbers s tables (drop (rows_place s) (streams_in lengths bytes).tables)) sizes_told

        module _ (strings blobs : List ℕ) (b : strings ≡ piece (108 + lengths.tables) lengths.strings bytes) (d : blobs ≡ piece (108 + lengths.tables + lengths.strings + lengths.user_strings + 16) lengths.blobs bytes) where
          pub rows_wrong : (fault : TableFault) → RowFault strings blobs [] (tables_numbers (sizes_by (table_rows items) (heap_lengths lengths)) tables rest) fault
              → RowFault (streams_in lengths bytes).strings (streams_in lengths bytes).blobs [] (rows_of lengths (streams_in lengths bytes)) fault
          rows_wrong fault f =
              subst (λ (x : List ℕ). RowFault x (streams_in lengths bytes).blobs [] (rows_of lengths (streams_in lengths bytes)) fault) (strings_at strings b)
              (subst (λ (x : List ℕ). RowFault strings x [] (rows_of lengths (streams_in lengths bytes)) fault) (blobs_at blobs d) (subst (λ (x : List RowNumbers). RowFault strings blobs [] x fault) rows_told f))

          pub rows_right : (m : Module) → AreRows strings blobs [] (tables_numbers (sizes_by (table_rows items) (heap_lengths lengths)) tables rest) (all_cells m) → ((table : Table) → row_count m table ≡ table_rows items table)
              → HasRows lengths (streams_in lengths bytes) m
          rows_right m f n = record {
            rows =
                subst (λ (x : List ℕ). AreRows x (streams_in lengths bytes).blobs [] (rows_of lengths (streams_in lengths bytes)) (all_cells m)) (strings_at strings b)
                (subst (λ (x : List ℕ). AreRows strings x [] (rows_of lengths (streams_in lengths bytes)) (all_cells m)) (blobs_at blobs d) (subst (λ (x : List RowNumbers). AreRows strings blobs [] x (all_cells m)) rows_told f));
            counts = λ table. n table ∙ ap (λ (s : Sizes). s.rows table) sizes_told;
          }
