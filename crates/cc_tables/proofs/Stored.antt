-- Metadata is read: no check of it fails.
use Rattle.std.proofs.Common.{◌≡◌, ℕ, zero, suc, ◌+◌, ◌-◌, ◌*◌, ◌^◌, ◌≤◌, ◌<◌, Bool, true, false, List, [], ◌∷◌, ◌++◌, length, take, drop, map, replicate, Option, Some, None, refl, sym, ap, subst, ◌∙◌, append_assoc, arith}
use Rattle.std.specs.List.{flat_map, AllByRecursion}
use Rattle.std.proofs.lemmas.Bool.{lt-ltb, le-ltb}
use Rattle.std.proofs.lemmas.Cmp.{nat_list_eq_equiv}
use Rattle.std.proofs.lemmas.List.{append-nil, length-append, take_at, drop_at}
use Rattle.cc_cil.specs.Bodies.{padding}
use Rattle.cc_layout.specs.declared.field.FieldFault.{FieldFault}
use Rattle.cc_layout.specs.Layout.{bytes_of, width_of, fault_of}
use Rattle.cc_layout.proofs.Laws.{bytes_of-no_fault, length-bytes_of}
use Rattle.cc_module.specs.declared.table.Table.{Table}
use Rattle.cc_module.specs.declared.module.Module.{Module}
use Rattle.cc_module.specs.Heaps.{padded, heap_bytes, name_entry, blob_entry, text_entry}
use Rattle.cc_module.specs.Rows.{Cell, u1, u2, u4, name, guid, signature, blob, row, coded, all_cells, row_count}
use Rattle.cc_module.specs.Metadata.{Sizes, Context, context, sizes_of, cell_bytes, names_of, blobs_of, tables, tables_header, tables_stream, strings_stream, user_strings_stream, blob_stream, root_layout, metadata_with, GUID_SIZE, IsMetadata}
use Rattle.cc_module.specs.Signatures.{IsSignature}
use Rattle.cc_module.specs.Storable.{FitsCell, file_size, FIRST_BODY, SECTION}
use Rattle.cc_tables.specs.declared.fault.TableFault.{TableFault}
use Rattle.cc_tables.specs.declared.headers.StreamLengths.{StreamLengths}
use Rattle.cc_tables.specs.Columns.{rows_size}
use Rattle.cc_tables.specs.Counts.{rows_in}
use Rattle.cc_tables.specs.Faults.{lengths_in, headers, headers_fault, stream_located, table_header_fault, end_fault, first}
use Rattle.cc_tables.specs.Forms.{strings_heap, blob_heap, user_strings_heap, IsHeapText, HasForm}
use Rattle.cc_tables.specs.Numbering.{IsShortText, sizes_by, header_of}
use Rattle.cc_tables.specs.Reading.{size_fault, length_fault, streams_end, piece, Streams, streams_in, heap_lengths, sizes_in, rows_place, tables_fault, start_fault, tables_numbers, AreRows, rows_of, HasRows, unused_fault, heaps_fault, signature_of, AreFormed, IsTables}
use Rattle.cc_tables.proofs.Back.{all_known}
use Rattle.cc_tables.proofs.BackAll.{all_small, rows_within, rows_long, rows_back}
use Rattle.cc_tables.proofs.Complete.{lengths_told, no_fault, lengths_of, whole_tables, whole_strings, whole_user_strings, whole_blobs}
use Rattle.cc_tables.proofs.CountsBack.{header_fits, rows_told}
use Rattle.cc_tables.proofs.Found.{IsRead}
use Rattle.cc_tables.proofs.Heaped.{strings_formed, blobs_formed}
use Rattle.cc_tables.proofs.Once.{padded_ends}
use Rattle.cc_tables.proofs.Signed.{all_both}
use Rattle.cc_tables.proofs.TablesForm.{first_after}
use Rattle.cc_tables.proofs.Written.{aligned_after, short_texts, padded_long}

piece_of : (front part back bytes : List ℕ) (place : ℕ) → length front ≡ place → bytes ≡ front ++ (part ++ back) → piece place (length part) bytes ≡ part
piece_of front part back bytes place long e =
    ap (λ (x : List ℕ). take (length part) (drop place x)) e ∙ ap (take (length part)) (drop_at front (part ++ back) place long) ∙ take_at part back (length part) refl

cell_signed : (rows : Table → ℕ) (cell : Cell) → FitsCell rows cell → AllByRecursion IsSignature (signature_of cell)
cell_signed rows (u1 value) h = tt
cell_signed rows (u2 value) h = tt
cell_signed rows (u4 value) h = tt
cell_signed rows (name text) h = tt
cell_signed rows (guid index) h = tt
cell_signed rows (signature text) h = (h.0, tt)
cell_signed rows (blob text) h = tt
cell_signed rows (row table index) h = tt
cell_signed rows (coded kind code) h = tt

all_signed : (rows : Table → ℕ) (cells : List Cell) → AllByRecursion (FitsCell rows) cells → AllByRecursion IsSignature (flat_map signature_of cells)
all_signed rows [] h = tt
all_signed rows (cell ∷ cells) h = all_both IsSignature (signature_of cell) (flat_map signature_of cells) (cell_signed rows cell h.0) (all_signed rows cells h.1)

all_texts : (texts : List (List ℕ)) → AllByRecursion (λ text. AllByRecursion (λ unit. unit < 2 ^ 16) text) texts → AllByRecursion IsShortText texts → AllByRecursion (IsHeapText user_strings_heap) texts
all_texts [] h k = tt
all_texts (text ∷ texts) h k = ((h.0, k.0), all_texts texts h.1 k.1)

unused_none : (entry : List ℕ → List ℕ) (at : ℕ) (texts : List (List ℕ)) → unused_fault entry at (padded (heap_bytes entry texts)) texts ≡ None
unused_none entry at texts = rw (nat_list_eq_equiv.refl (padded (heap_bytes entry texts))) refl

module _ (m : Module) (bytes unique : List ℕ) (long : length unique ≡ GUID_SIZE) (is : bytes ≡ metadata_with unique m) (h : IsTables m bytes) where
  abbrev cells : List Cell
  cells = all_cells m

  abbrev c : Context
  c = context m

  abbrev told : StreamLengths
  told = lengths_of m

  abbrev row_part : List ℕ
  row_part = flat_map (cell_bytes c) cells

  abbrev header : List ℕ
  header = bytes_of (tables_header (sizes_of c))

  abbrev used : List ℕ
  used = header ++ row_part

  abbrev ending : List ℕ
  ending = replicate (padding (length used)) 0

  abbrev written : Streams
  written = record { tables = padded used; strings = strings_stream (names_of cells); user_strings = user_strings_stream m.texts; blobs = blob_stream (blobs_of cells) }

  abbrev behind : List ℕ
  behind = written.tables ++ (written.strings ++ (written.user_strings ++ (unique ++ written.blobs)))

  front : bytes ≡ bytes_of (headers told) ++ behind
  unfolding metadata_with headers
  front = is

  front_long : length (bytes_of (headers told)) ≡ 108
  unfolding headers
  front_long = length-bytes_of (headers told)

  whole_long : length bytes ≡ 108 + length written.tables + length written.strings + length written.user_strings + 16 + length written.blobs
  whole_long =
      let last : List ℕ = unique ++ written.blobs in
      let third : List ℕ = written.user_strings ++ last in
      let second : List ℕ = written.strings ++ third in
      omega (arith, ap length front, length-append (bytes_of (headers told)) behind, front_long, length-append written.tables second, length-append written.strings third, length-append written.user_strings last, length-append unique written.blobs, long)

  small : length bytes < 2 ^ 28
  small = omega (arith, h.size, aligned_after (FIRST_BODY + length bytes - SECTION))

  fits : 108 + told.tables + told.strings + told.user_strings + 16 + told.blobs < 2 ^ 32
  fits = omega (arith, small, whole_long)

  lengths_known : lengths_in bytes ≡ told
  lengths_known = lengths_told told fits bytes behind front (whole_tables m) (whole_strings (names_of cells)) (whole_user_strings m.texts) (whole_blobs (blobs_of cells)) h.user_strings

  streams_known : streams_in told bytes ≡ written
  unfolding streams_in
  streams_known =
      let head : List ℕ = bytes_of (headers told) in
      let last : List ℕ = unique ++ written.blobs in
      let third : List ℕ = written.user_strings ++ last in
      let second : List ℕ = written.strings ++ third in
      let to_strings : bytes ≡ (head ++ written.tables) ++ second = front ∙ sym (append_assoc head written.tables second) in
      let to_users : bytes ≡ ((head ++ written.tables) ++ written.strings) ++ third = to_strings ∙ sym (append_assoc (head ++ written.tables) written.strings third) in
      let to_unique : bytes ≡ (((head ++ written.tables) ++ written.strings) ++ written.user_strings) ++ last = to_users ∙ sym (append_assoc ((head ++ written.tables) ++ written.strings) written.user_strings last) in
      let to_blobs : bytes ≡ ((((head ++ written.tables) ++ written.strings) ++ written.user_strings) ++ unique) ++ (written.blobs ++ []) =
      to_unique ∙ sym (append_assoc (((head ++ written.tables) ++ written.strings) ++ written.user_strings) unique written.blobs)
      ∙ ap (λ (x : List ℕ). ((((head ++ written.tables) ++ written.strings) ++ written.user_strings) ++ unique) ++ x) (sym (append-nil written.blobs)) in
      let long_1 : length (head ++ written.tables) ≡ 108 + told.tables = omega (arith, length-append head written.tables, front_long) in
      let long_2 : length ((head ++ written.tables) ++ written.strings) ≡ 108 + told.tables + told.strings = omega (arith, length-append (head ++ written.tables) written.strings, long_1) in
      let long_3 : length (((head ++ written.tables) ++ written.strings) ++ written.user_strings) ≡ 108 + told.tables + told.strings + told.user_strings =
      omega (arith, length-append ((head ++ written.tables) ++ written.strings) written.user_strings, long_2) in
      let long_4 : length ((((head ++ written.tables) ++ written.strings) ++ written.user_strings) ++ unique) ≡ 108 + told.tables + told.strings + told.user_strings + 16 =
      omega (arith, length-append (((head ++ written.tables) ++ written.strings) ++ written.user_strings) unique, long_3, long) in
      let a = piece_of head written.tables second bytes 108 front_long front in
      let b = piece_of (head ++ written.tables) written.strings third bytes (108 + told.tables) long_1 to_strings in
      let d = piece_of ((head ++ written.tables) ++ written.strings) written.user_strings last bytes (108 + told.tables + told.strings) long_2 to_users in
      let e = piece_of ((((head ++ written.tables) ++ written.strings) ++ written.user_strings) ++ unique) written.blobs [] bytes (108 + told.tables + told.strings + told.user_strings + 16) long_4 to_blobs in
      λ i. record { tables = a i; strings = b i; user_strings = d i; blobs = e i }

  moved : (F : StreamLengths → Streams → Type 0) → F told written → F (lengths_in bytes) (streams_in (lengths_in bytes) bytes)
  moved F x = subst (λ (l : StreamLengths). F l (streams_in l bytes)) (sym lengths_known) (subst (F told) (sym streams_known) x)

  -- ---- the stream #~

  parts : written.tables ≡ header ++ (row_part ++ ending)
  parts = append_assoc header row_part ending

  rows_small : (table : Table) → row_count m table < 2 ^ 32
  rows_small table = omega (arith, rows_within m table, small, whole_long, padded_long used, length-append header row_part)

  counts : (table : Table) → rows_in written.tables table ≡ row_count m table
  counts table = rows_told (sizes_of c) written.tables (row_part ++ ending) rows_small parts table

  sizes_same : sizes_of c ≡ sizes_in (heap_lengths told) written.tables
  sizes_same = λ i. record { strings = length written.strings; blobs = length written.blobs; rows = λ table. sym (counts table) i }

  header_right : fault_of 108 (tables_header (sizes_of c)) written.tables ≡ None
  header_right = bytes_of-no_fault 108 (tables_header (sizes_of c)) written.tables (row_part ++ ending) (header_fits (sizes_of c) rows_small) parts

  used_long : rows_place (sizes_of c) + rows_size (sizes_of c) ≡ length used
  unfolding header_of
  used_long = omega (arith, length-append header row_part, length-bytes_of (tables_header (sizes_of c)), rows_long m)

  tables_right : tables_fault (heap_lengths told) written.tables ≡ None
  unfolding header_of
  tables_right =
      let first : table_header_fault 108 (heap_lengths told) written.tables ≡ None =
      ap (λ (s : Sizes). stream_located (fault_of 108 (tables_header s) written.tables)) (sym sizes_same) ∙ ap stream_located header_right in
      let last : end_fault 108 (rows_place (sizes_in (heap_lengths told) written.tables) + rows_size (sizes_in (heap_lengths told) written.tables)) written.tables ≡ None =
      ap (λ (s : Sizes). end_fault 108 (rows_place s + rows_size s) written.tables) (sym sizes_same) ∙ ap (λ (n : ℕ). end_fault 108 n written.tables) used_long ∙ padded_ends 108 used written.tables refl in
      first_after (table_header_fault 108 (heap_lengths told) written.tables) (end_fault 108 (rows_place (sizes_in (heap_lengths told) written.tables) + rows_size (sizes_in (heap_lengths told) written.tables)) written.tables) None first last

  size_right : size_fault bytes ≡ None
  size_right = rw (lt-ltb (file_size (FIRST_BODY + length bytes - SECTION)) (2 ^ 28) h.size) refl

  length_right : length_fault told bytes ≡ None
  length_right = rw (le-ltb (length bytes) (streams_end told) (omega (arith, whole_long)), le-ltb (streams_end told) (length bytes) (omega (arith, whole_long))) refl

  starts : start_fault bytes ≡ None
  unfolding start_fault
  starts =
      let l = lengths_in bytes in
      let last : tables_fault (heap_lengths l) (streams_in l bytes).tables ≡ None = moved (λ l s. tables_fault (heap_lengths l) s.tables ≡ None) tables_right in
      let ends : length_fault l bytes ≡ None = moved (λ l s. length_fault l bytes ≡ None) length_right in
      first_after (size_fault bytes) (first (headers_fault bytes) (first (length_fault l bytes) (tables_fault (heap_lengths l) (streams_in l bytes).tables))) None size_right
      (first_after (headers_fault bytes) (first (length_fault l bytes) (tables_fault (heap_lengths l) (streams_in l bytes).tables)) None (no_fault told fits bytes behind front lengths_known)
      (first_after (length_fault l bytes) (tables_fault (heap_lengths l) (streams_in l bytes).tables) None ends last))

  -- ---- the heaps and the rows

  first_formed : HasForm strings_heap written.strings (names_of cells)
  first_formed = strings_formed (row_count m) cells h.columns

  last_formed : HasForm blob_heap written.blobs (blobs_of cells)
  last_formed = blobs_formed (row_count m) cells h.columns

  texts_formed : HasForm user_strings_heap written.user_strings m.texts
  texts_formed =
      let short = short_texts m.texts (2 ^ 24) (omega (arith, h.user_strings, padded_long (0 ∷ flat_map text_entry m.texts))) (omega arith) in
      record { bytes = refl; each = all_texts m.texts h.units short }

  rows_right : HasRows told written m
  unfolding header_of
  rows_right =
      let known =
      all_known cells (row_count m) (omega (arith, small, whole_long)) (omega (arith, small, whole_long)) first_formed last_formed h.columns h.range (all_small m) in
      let place : length header ≡ rows_place (sizes_of c) = length-bytes_of (tables_header (sizes_of c)) in
      let back : drop (rows_place (sizes_of c)) written.tables ≡ row_part ++ ending = ap (drop (rows_place (sizes_of c))) parts ∙ drop_at header (row_part ++ ending) (rows_place (sizes_of c)) place in
      let found : AreRows written.strings written.blobs [] (tables_numbers (sizes_of c) tables (drop (rows_place (sizes_of c)) written.tables)) cells =
      subst (λ (x : List ℕ). AreRows written.strings written.blobs [] (tables_numbers (sizes_of c) tables x) cells) (sym back) (rows_back m ending known) in
      record {
        rows = subst (λ (s : Sizes). AreRows written.strings written.blobs [] (tables_numbers s tables (drop (rows_place s) written.tables)) cells) sizes_same found;
        counts = λ table. sym (counts table);
      }

  all_used : heaps_fault told written cells ≡ None
  all_used =
      first_after (unused_fault name_entry _ written.strings (names_of cells)) (unused_fault blob_entry _ written.blobs (blobs_of cells)) None (unused_none name_entry _ (names_of cells)) (unused_none blob_entry _ (blobs_of cells))

  is_read : IsRead m bytes
  is_read = record {
    start = starts;
    texts = moved (λ l s. HasForm user_strings_heap s.user_strings m.texts) texts_formed;
    formed = moved (λ l s. AreFormed s) (record { strings = (names_of cells, first_formed); user_strings = (m.texts, texts_formed); blobs = (blobs_of cells, last_formed) });
    rows = moved (λ l s. HasRows l s m) rows_right;
    used = moved (λ l s. heaps_fault l s cells ≡ None) all_used;
    sorted = h.sorted;
    signatures = all_signed (row_count m) cells h.columns;
    no_bodies = h.no_bodies;
    no_entry = h.no_entry;
  }

-- what is metadata is read
pub tables_read : (m : Module) (bytes : List ℕ) → IsTables m bytes → IsRead m bytes
tables_read m bytes h = is_read m bytes h.is.0 h.is.1 h.is.2 h
