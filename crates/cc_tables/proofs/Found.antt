-- What bytes are, where no check fails: metadata.
use Rattle.std.proofs.Common.{◌≡◌, ℕ, zero, suc, ◌+◌, ◌-◌, ◌*◌, ◌^◌, ◌≤◌, ◌<◌, Bool, true, false, ◌&&◌, List, [], ◌∷◌, ◌++◌, length, take, drop, map, Option, Some, None, refl, sym, ap, subst, ◌∙◌, ◌⊎◌, inl, inr, append_assoc, arith}
use Rattle.std.specs.Prelude.{IsUtf8, IfNone, nat_lt, if◌then◌else◌}
use Rattle.std.specs.Str.{bytes_eq}
use Rattle.std.specs.List.{flat_map, AllByRecursion, sum}
use Rattle.std.proofs.lemmas.Bool.{cases_lt, lt-ltb, le-ltb}
use Rattle.std.proofs.lemmas.List.{append-nil, length-take, length-drop, length-append, take-append-drop, take_all, drop-drop}
use Rattle.std.proofs.lemmas.Slice.Eq.{bytes_eq-Decides}
use Rattle.std.proofs.lemmas.Grind.{flat_map-append}
use Rattle.cc_layout.specs.declared.field.Field.{Field}
use Rattle.cc_layout.specs.declared.field.FieldFault.{FieldFault}
use Rattle.cc_layout.specs.Numbers.{AreBytes}
use Rattle.cc_layout.specs.Layout.{number, width_of, bytes_of, fault_of}
use Rattle.cc_layout.specs.Compressed.{compressed}
use Rattle.cc_layout.proofs.Numbers.{AreBytes-front, AreBytes-back, AreBytes-take}
use Rattle.cc_layout.proofs.Laws.{HasValue, no_fault-bytes_of, length-bytes_of}
use Rattle.cc_module.specs.declared.table.Table.{Table}
use Rattle.cc_module.specs.declared.table.Column.{Column}
use Rattle.cc_module.specs.declared.module.Module.{Module}
use Rattle.cc_module.specs.Heaps.{padded, heap_bytes, name_entry, blob_entry}
use Rattle.cc_module.specs.Rows.{Cell, u1, u2, u4, name, guid, signature, blob, row, coded, all_cells, row_count}
use Rattle.cc_module.specs.Metadata.{Sizes, Context, context, sizes_of, column_of, column_width, row_width, coded_width, cell_value, cell_bytes, names_of, blobs_of, tables, count_field, tables_header, strings_stream, blob_stream, user_strings_stream, tables_stream, root, stream_headers, root_layout, joined_streams, metadata_with, GUID_SIZE, IsMetadata}
use Rattle.cc_module.specs.Signatures.{IsSignature}
use Rattle.cc_module.specs.Storable.{FitsCell, IsCellInRange, IsSortedModule, file_size, FIRST_BODY, SECTION}
use Rattle.cc_tables.specs.declared.fault.TableFault.{TableFault}
use Rattle.cc_tables.specs.declared.headers.StreamLengths.{StreamLengths}
use Rattle.cc_tables.specs.declared.width.StreamSizes.{StreamSizes}
use Rattle.cc_tables.specs.Columns.{table_size, rows_size}
use Rattle.cc_tables.specs.Counts.{rows_in}
use Rattle.cc_tables.specs.Faults.{lengths_in, headers, first_located, headers_fault, stream_located, table_header_fault, end_fault, first}
use Rattle.cc_tables.specs.Forms.{Form, strings_heap, blob_heap, user_strings_heap, IsHeapText, heap_entry, StandsAt, HasForm}
use Rattle.cc_tables.specs.Numbering.{sizes_by, header_of}
use Rattle.cc_tables.specs.Reading.{size_fault, TABLES_PLACE, strings_place, user_strings_place, blobs_place, streams_end, length_fault, piece, Streams, streams_in, heap_lengths, sizes_in, rows_place, tables_fault, start_fault, tables_numbers, RowNumbers, Tells, TellsFrom, AreRows, IsRow, unused_fault, heaps_fault, signature_of, rows_of, HasRows, AreFormed, IsTables}
use Rattle.cc_tables.proofs.Forming.{first_none, heap_padded}
use Rattle.cc_tables.proofs.Values.{Fit, tables_fit, rows_spell, all_values, all_columns, numbers_of, columns_in}

-- no check fails
pub record IsRead (m : Module) (bytes : List ℕ) : Type 0 where
  pub start : start_fault bytes ≡ None
  pub texts : HasForm user_strings_heap (streams_in (lengths_in bytes) bytes).user_strings m.texts
  pub formed : AreFormed (streams_in (lengths_in bytes) bytes)
  pub rows : HasRows (lengths_in bytes) (streams_in (lengths_in bytes) bytes) m
  pub used : heaps_fault (lengths_in bytes) (streams_in (lengths_in bytes) bytes) (all_cells m) ≡ None
  pub sorted : IsSortedModule m
  pub signatures : AllByRecursion IsSignature (flat_map signature_of (all_cells m))
  pub no_bodies : m.bodies ≡ []
  pub no_entry : m.entry ≡ 0

-- ---- fields with values, by a test

has_value : Option ℕ → Bool
has_value (Some v) = true
has_value None = false

valued : List Field → Bool
valued [] = true
valued (f ∷ fields) = has_value f.value && valued fields

value_there : (value : Option ℕ) → has_value value ≡ true → IfNone value ⊥
unfolding has_value
value_there (Some v) e = tt
value_there None e = absurd cc

both_true : (a b : Bool) → (a && b) ≡ true → (a ≡ true) × (b ≡ true)
both_true true true e = (refl, refl)
both_true true false e = absurd cc
both_true false b e = absurd cc

all_valued : (fields : List Field) → valued fields ≡ true → AllByRecursion HasValue fields
unfolding valued
all_valued [] e = tt
all_valued (f ∷ fields) e = let p = both_true (has_value f.value) (valued fields) e in (value_there f.value p.0, all_valued fields p.1)

headers_have : (s : StreamLengths) → AllByRecursion HasValue (headers s)
unfolding headers valued has_value
headers_have s = all_valued (headers s) refl

have_both : (a b : List Field) → AllByRecursion HasValue a → AllByRecursion HasValue b → AllByRecursion HasValue (a ++ b)
have_both [] b h k = k
have_both (f ∷ a) b h k = (h.0, have_both a b h.1 k)

count_has : (none : Bool) (n : ℕ) → AllByRecursion HasValue (if none then [] else number 4 n ∷ [])
count_has true n = tt
count_has false n = (tt, tt)

counts_have : (rows : Table → ℕ) (all : List Table) → AllByRecursion HasValue (flat_map (count_field rows) all)
counts_have rows [] = tt
counts_have rows (table ∷ all) = have_both (count_field rows table) (flat_map (count_field rows) all) (count_has _ (rows table)) (counts_have rows all)

pub header_has : (s : Sizes) → AllByRecursion HasValue (header_of s)
unfolding header_of
header_has s = (tt, (tt, (tt, (tt, (tt, (tt, (tt, counts_have s.rows tables)))))))

-- ---- the checks before the heaps

located_none : (r : Option FieldFault) → first_located r ≡ None → r ≡ None
located_none None e = refl
located_none (Some fault) e = absurd cc

in_stream_none : (r : Option FieldFault) → stream_located r ≡ None → r ≡ None
in_stream_none None e = refl
in_stream_none (Some fault) e = absurd cc

below_none : (a b : ℕ) (fault : TableFault) → (if nat_lt a b then None else Some fault) ≡ None → a < b
below_none a b fault e =
    elim (cases_lt a b) [
      | inl lt ↦ lt
      | inr le ↦ absurd (let k = rw (le-ltb a b le) at e in cc)
    ]

same_length : (a b : ℕ) (one two : TableFault) → (if nat_lt a b then Some one else if nat_lt b a then Some two else None) ≡ None → b ≡ a
same_length a b one two e =
    elim (cases_lt a b) [
      | inl lt ↦ absurd (let k = rw (lt-ltb a b lt) at e in cc)
      | inr le ↦
          elim (cases_lt b a) [
            | inl lt ↦ absurd (let k = rw (le-ltb a b le, lt-ltb b a lt) at e in cc)
            | inr ge ↦ omega (arith, le, ge)
          ]
    ]

module _ (bytes : List ℕ) (start : start_fault bytes ≡ None) where
  abbrev pub lengths : StreamLengths
  lengths = lengths_in bytes

  abbrev pub streams : Streams
  streams = streams_in lengths bytes

  after_headers : (headers_fault bytes ≡ None) × (first (length_fault lengths bytes) (tables_fault (heap_lengths lengths) streams.tables) ≡ None)
  unfolding start_fault
  after_headers = first_none (headers_fault bytes) (first (length_fault lengths bytes) (tables_fault (heap_lengths lengths) streams.tables)) (first_none (size_fault bytes) _ start).1

  pub small : file_size (FIRST_BODY + length bytes - SECTION) < 2 ^ 28
  unfolding start_fault
  small = below_none (file_size (FIRST_BODY + length bytes - SECTION)) (2 ^ 28) _ (first_none (size_fault bytes) _ start).0

  pub no_header_fault : headers_fault bytes ≡ None
  no_header_fault = after_headers.0

  pub whole : streams_end lengths ≡ length bytes
  whole = same_length (length bytes) (streams_end lengths) _ _ (first_none (length_fault lengths bytes) (tables_fault (heap_lengths lengths) streams.tables) after_headers.1).0

  tables_right : (table_header_fault TABLES_PLACE (heap_lengths lengths) streams.tables ≡ None)
      × (end_fault TABLES_PLACE (rows_place (sizes_in (heap_lengths lengths) streams.tables) + rows_size (sizes_in (heap_lengths lengths) streams.tables)) streams.tables ≡ None)
  tables_right =
      first_none (table_header_fault TABLES_PLACE (heap_lengths lengths) streams.tables) (end_fault TABLES_PLACE (rows_place (sizes_in (heap_lengths lengths) streams.tables) + rows_size (sizes_in (heap_lengths lengths) streams.tables)) streams.tables)
      (first_none (length_fault lengths bytes) (tables_fault (heap_lengths lengths) streams.tables) after_headers.1).1

  -- ---- the pieces

  abbrev guid_place : ℕ
  guid_place = user_strings_place lengths + lengths.user_strings

  piece_long : (place size : ℕ) → place + size ≤ length bytes → length (piece place size bytes) ≡ size
  piece_long place size le = omega (arith, length-take size (drop place bytes), length-drop place bytes, le)

  pub tables_long : length streams.tables ≡ lengths.tables
  unfolding streams_in
  tables_long = piece_long TABLES_PLACE lengths.tables (omega (arith, whole))

  pub strings_long : length streams.strings ≡ lengths.strings
  unfolding streams_in
  strings_long = piece_long (strings_place lengths) lengths.strings (omega (arith, whole))

  pub user_strings_long : length streams.user_strings ≡ lengths.user_strings
  unfolding streams_in
  user_strings_long = piece_long (user_strings_place lengths) lengths.user_strings (omega (arith, whole))

  pub blobs_long : length streams.blobs ≡ lengths.blobs
  unfolding streams_in
  blobs_long = piece_long (blobs_place lengths) lengths.blobs (omega (arith, whole))

  pub unique : List ℕ
  unique = piece guid_place 16 bytes

  pub unique_long : length unique ≡ GUID_SIZE
  unfolding unique
  unique_long = piece_long guid_place 16 (omega (arith, whole))

  next_piece : (place size : ℕ) → drop place bytes ≡ piece place size bytes ++ drop (place + size) bytes
  next_piece place size = sym (take-append-drop size (drop place bytes)) ∙ ap (λ (x : List ℕ). piece place size bytes ++ x) (drop-drop size place bytes)

  last_piece : drop (blobs_place lengths) bytes ≡ streams.blobs
  unfolding streams_in
  last_piece = sym (take_all lengths.blobs (drop (blobs_place lengths) bytes) (omega (arith, length-drop (blobs_place lengths) bytes, whole)))

  all_pieces : drop 108 bytes ≡ streams.tables ++ (streams.strings ++ (streams.user_strings ++ (unique ++ streams.blobs)))
  unfolding streams_in unique
  all_pieces =
      next_piece TABLES_PLACE lengths.tables
      ∙ ap (λ (x : List ℕ). streams.tables ++ x)
      (next_piece (strings_place lengths) lengths.strings
      ∙ ap (λ (x : List ℕ). streams.strings ++ x)
      (next_piece (user_strings_place lengths) lengths.user_strings
      ∙ ap (λ (x : List ℕ). streams.user_strings ++ x) (next_piece guid_place 16 ∙ ap (λ (x : List ℕ). unique ++ x) last_piece)))

  module _ (are : AreBytes bytes) where
    dropped_bytes : (place : ℕ) → AreBytes (drop place bytes)
    dropped_bytes place = AreBytes-back (take place bytes) (drop place bytes) (subst AreBytes (sym (take-append-drop place bytes)) are)

    piece_bytes : (place size : ℕ) → AreBytes (piece place size bytes)
    piece_bytes place size = AreBytes-take size (drop place bytes) (dropped_bytes place)

    pub tables_bytes : AreBytes streams.tables
    unfolding streams_in
    tables_bytes = piece_bytes TABLES_PLACE lengths.tables

    pub strings_bytes : AreBytes streams.strings
    unfolding streams_in
    strings_bytes = piece_bytes (strings_place lengths) lengths.strings

    pub blobs_bytes : AreBytes streams.blobs
    unfolding streams_in
    blobs_bytes = piece_bytes (blobs_place lengths) lengths.blobs

    -- the bytes are the headers and the streams
    pub joined : bytes ≡ joined_streams streams.tables streams.strings streams.user_strings unique streams.blobs
    unfolding headers
    joined =
        let front : bytes ≡ bytes_of (headers lengths) ++ drop (width_of (headers lengths)) bytes =
        no_fault-bytes_of 0 (headers lengths) bytes (headers_have lengths) are (located_none (fault_of 0 (headers lengths) bytes) no_header_fault) in
        let told : headers lengths ≡ root_layout streams.tables streams.strings streams.user_strings streams.blobs =
        λ i. root ++ stream_headers (sym tables_long i) (sym strings_long i) (sym user_strings_long i) (sym blobs_long i) in
        front ∙ (λ i. bytes_of (told i) ++ all_pieces i)

    -- ---- the stream #~

    abbrev pub told_sizes : Sizes
    told_sizes = sizes_in (heap_lengths lengths) streams.tables

    abbrev pub row_bytes : List ℕ
    row_bytes = drop (rows_place told_sizes) streams.tables

    pub row_bytes_are : AreBytes row_bytes
    row_bytes_are = AreBytes-back (take (rows_place told_sizes) streams.tables) row_bytes (subst AreBytes (sym (take-append-drop (rows_place told_sizes) streams.tables)) tables_bytes)

    end_within : (at used : ℕ) (stream : List ℕ) → end_fault at used stream ≡ None → used ≤ length stream
    end_within at used stream e =
        elim (cases_lt (length stream) used) [
          | inl lt ↦ absurd (let k = rw (lt-ltb (length stream) used lt) at e in cc)
          | inr le ↦ le
        ]

    pub rows_room : rows_size told_sizes ≤ length row_bytes
    rows_room = omega (arith, end_within TABLES_PLACE (rows_place told_sizes + rows_size told_sizes) streams.tables tables_right.1, length-drop (rows_place told_sizes) streams.tables)

    pub tables_known : streams.tables ≡ padded (bytes_of (header_of told_sizes) ++ take (rows_size told_sizes) row_bytes)
    tables_known =
        let size = rows_size told_sizes in
        let header = bytes_of (header_of told_sizes) in
        let front : streams.tables ≡ header ++ row_bytes =
        no_fault-bytes_of TABLES_PLACE (header_of told_sizes) streams.tables (header_has told_sizes) tables_bytes (in_stream_none (fault_of TABLES_PLACE (header_of told_sizes) streams.tables) tables_right.0) in
        let parts : streams.tables ≡ (header ++ take size row_bytes) ++ drop size row_bytes =
        front ∙ ap (λ (x : List ℕ). header ++ x) (sym (take-append-drop size row_bytes)) ∙ sym (append_assoc header (take size row_bytes) (drop size row_bytes)) in
        let long : length (header ++ take size row_bytes) ≡ rows_place told_sizes + size =
        omega (arith, length-append header (take size row_bytes), length-bytes_of (header_of told_sizes), length-take size row_bytes, rows_room) in
        heap_padded TABLES_PLACE (header ++ take size row_bytes) (drop size row_bytes) streams.tables tables_bytes parts (ap (λ (n : ℕ). end_fault TABLES_PLACE n streams.tables) long ∙ tables_right.1)

-- ---- the heaps

pub used_none : (entry : List ℕ → List ℕ) (at : ℕ) (stream : List ℕ) (texts : List (List ℕ)) → unused_fault entry at stream texts ≡ None → stream ≡ padded (heap_bytes entry texts)
used_none entry at stream texts e = same (bytes_eq (padded (heap_bytes entry texts)) stream) _ refl e
  where
    same : (b : Bool) (fault : TableFault) → bytes_eq (padded (heap_bytes entry texts)) stream ≡ b → (if b then None else Some fault) ≡ None → stream ≡ padded (heap_bytes entry texts)
    same true fault is none = sym ((bytes_eq-Decides (padded (heap_bytes entry texts)) stream).0 is)
    same false fault is none = absurd cc

-- ---- columns

-- some number tells it
abbrev pub Told : List ℕ → List ℕ → Cell → Type 0
Told strings blobs cell = (n : ℕ) × Tells strings blobs n cell

all_told_from : (strings blobs numbers : List ℕ) (place : ℕ) (cells : List Cell) → TellsFrom strings blobs numbers place cells → AllByRecursion (Told strings blobs) cells
all_told_from strings blobs numbers place [] h = tt
all_told_from strings blobs numbers place (cell ∷ cells) h = ((_, h.0), all_told_from strings blobs numbers (place + 1) cells h.1)

all_parts : {A : Type 0} (P : A → Type 0) (a b : List A) → AllByRecursion P a → AllByRecursion P b → AllByRecursion P (a ++ b)
all_parts P [] b h k = k
all_parts P (x ∷ a) b h k = (h.0, all_parts P a b h.1 k)

pub all_told : (strings blobs : List ℕ) (before : List Cell) (rows : List RowNumbers) (all : List Cell) → AreRows strings blobs before rows all → AllByRecursion (Told strings blobs) all
all_told strings blobs before [] all e = subst (AllByRecursion (Told strings blobs)) (sym e) tt
all_told strings blobs before (r ∷ rows) all (cells, more, is, e, rest) =
    subst (AllByRecursion (Told strings blobs)) (sym e) (all_parts (Told strings blobs) cells more (all_told_from strings blobs r.numbers 0 cells is.told) (all_told strings blobs (before ++ cells) rows more rest))

empty_text : IsUtf8 []
empty_text = ([], (refl, refl))

name_fits : (stream : List ℕ) (n : ℕ) (text : List ℕ) → StandsAt strings_heap stream n text → IsUtf8 text × AllByRecursion (λ byte. 0 < byte) text
name_fits stream n text (inl (z, e)) = subst (λ (x : List ℕ). IsUtf8 x × AllByRecursion (λ byte. 0 < byte) x) (sym e) (empty_text, tt)
name_fits stream n text (inr (some, h, there)) = (h.1, h.2)

pub blob_short : (stream : List ℕ) (n : ℕ) (text : List ℕ) → StandsAt blob_heap stream n text → length text < 2 ^ 29
blob_short stream n text (inl (z, e)) = omega (arith, ap length e)
blob_short stream n text (inr (some, h, there)) = h.1

stands_bytes : (front text back stream more : List ℕ) (n : ℕ) → AreBytes stream → drop n stream ≡ (front ++ (text ++ back)) ++ more → AreBytes text
stands_bytes front text back stream more n h e =
    let rest : AreBytes (drop n stream) = AreBytes-back (take n stream) (drop n stream) (subst AreBytes (sym (take-append-drop n stream)) h) in
    AreBytes-front text back (AreBytes-back front (text ++ back) (AreBytes-front (front ++ (text ++ back)) more (subst AreBytes e rest)))

name_bytes : (stream : List ℕ) (n : ℕ) (text : List ℕ) → AreBytes stream → StandsAt strings_heap stream n text → AreBytes text
name_bytes stream n text h (inl (z, e)) = subst AreBytes (sym e) tt
name_bytes stream n text h (inr (some, k, (more, there))) = stands_bytes [] text (0 ∷ []) stream more n h there

blob_bytes : (stream : List ℕ) (n : ℕ) (text : List ℕ) → AreBytes stream → StandsAt blob_heap stream n text → AreBytes text
blob_bytes stream n text h (inl (z, e)) = subst AreBytes (sym e) tt
blob_bytes stream n text h (inr (some, k, (more, there))) =
    stands_bytes (compressed (length text)) text [] stream more n h (there ∙ ap (λ (x : List ℕ). (compressed (length text) ++ x) ++ more) (sym (append-nil text)))

two_or_four : (b : Bool) (n : ℕ) → n < 256 ^ (if b then 2 else 4) → n < 2 ^ 32
two_or_four true n h = omega (arith, h)
two_or_four false n h = h

module _ (c : Context) (strings blobs : List ℕ) (first : AreBytes strings) (last : AreBytes blobs) where
  one_fits : (cell : Cell) → cell_value c.names c.blobs cell < 256 ^ column_width (sizes_of c) (column_of cell) → Told strings blobs cell → AllByRecursion IsSignature (signature_of cell) → FitsCell c.rows cell × IsCellInRange cell
  one_fits (u1 value) v t s = (tt, v)
  one_fits (u2 value) v t s = (tt, v)
  one_fits (u4 value) v t s = (tt, v)
  one_fits (name text) v (n, t) s = (name_fits strings n text t, name_bytes strings n text first t)
  one_fits (guid index) v t s = (tt, tt)
  one_fits (signature text) v (n, t) s = ((s.0, blob_short blobs n text t), blob_bytes blobs n text last t)
  one_fits (blob text) v (n, t) s = (blob_short blobs n text t, blob_bytes blobs n text last t)
  one_fits (row table index) v t s = (v, two_or_four _ index v)
  one_fits (coded kind index) v t s = (v, tt)

  signature_parts : (cell : Cell) (more : List (List ℕ)) → AllByRecursion IsSignature (signature_of cell ++ more) → AllByRecursion IsSignature (signature_of cell) × AllByRecursion IsSignature more
  signature_parts (u1 value) more h = (tt, h)
  signature_parts (u2 value) more h = (tt, h)
  signature_parts (u4 value) more h = (tt, h)
  signature_parts (name text) more h = (tt, h)
  signature_parts (guid index) more h = (tt, h)
  signature_parts (signature text) more h = ((h.0, tt), h.1)
  signature_parts (blob text) more h = (tt, h)
  signature_parts (row table index) more h = (tt, h)
  signature_parts (coded kind index) more h = (tt, h)

  pub all_fit : (cells : List Cell) → Fit (sizes_of c) (map column_of cells) (map (cell_value c.names c.blobs) cells) → AllByRecursion (Told strings blobs) cells → AllByRecursion IsSignature (flat_map signature_of cells)
      → AllByRecursion (FitsCell c.rows) cells × AllByRecursion IsCellInRange cells
  unfolding Fit
  all_fit [] v t s = (tt, tt)
  all_fit (cell ∷ cells) v t s =
      let p = signature_parts cell (flat_map signature_of cells) s in
      let one = one_fits cell v.0 t.0 p.0 in
      let more = all_fit cells v.1 t.1 p.1 in
      ((one.0, more.0), (one.1, more.1))

-- ---- all together

rows_at : (c : Context) (s : Sizes) (strings blobs bytes : List ℕ) (all : List Cell) → sizes_of c ≡ s → AreBytes bytes → rows_size s ≤ length bytes → c.names ≡ names_of all → c.blobs ≡ blobs_of all
    → AreRows strings blobs [] (tables_numbers s tables bytes) all → flat_map (cell_bytes c) all ≡ take (rows_size s) bytes
unfolding rows_size
rows_at c s strings blobs bytes all e h le n b rows =
    subst (λ (z : Sizes). sum (map (table_size z) tables) ≤ length bytes → AreRows strings blobs [] (tables_numbers z tables bytes) all → flat_map (cell_bytes c) all ≡ take (sum (map (table_size z) tables)) bytes) e
    (λ l k. rows_spell c tables strings blobs bytes all h l n b k) le rows

fits_at : (c : Context) (s : Sizes) (strings blobs bytes : List ℕ) (all : List Cell) → sizes_of c ≡ s → AreBytes bytes → rows_size s ≤ length bytes → c.names ≡ names_of all → c.blobs ≡ blobs_of all
    → AreRows strings blobs [] (tables_numbers s tables bytes) all → Fit (sizes_of c) (map column_of all) (map (cell_value c.names c.blobs) all)
unfolding rows_size
fits_at c s strings blobs bytes all e h le n b rows =
    let found = tables_numbers s tables bytes in
    let values : map (cell_value c.names c.blobs) all ≡ numbers_of found = (λ i. map (cell_value (n i) (b i)) all) ∙ all_values strings blobs found all rows in
    let fit : Fit s (columns_in found) (numbers_of found) = tables_fit s tables bytes h le in
    subst (λ (z : Sizes). Fit z (map column_of all) (map (cell_value c.names c.blobs) all)) (sym e)
    (subst (λ (x : List ℕ). Fit s (map column_of all) x) (sym values) (subst (λ (x : List Column). Fit s x (numbers_of found)) (sym (all_columns strings blobs [] found all rows)) fit))

units_low : (texts : List (List ℕ)) → AllByRecursion (IsHeapText user_strings_heap) texts → AllByRecursion (λ text. AllByRecursion (λ unit. unit < 2 ^ 16) text) texts
units_low [] h = tt
units_low (text ∷ texts) h = (h.0.0, units_low texts h.1)

module _ (m : Module) (bytes : List ℕ) (are : AreBytes bytes) (h : IsRead m bytes) where
  abbrev c : Context
  c = context m

  abbrev s : Streams
  s = streams bytes h.start

  used_parts : (unused_fault name_entry (strings_place (lengths_in bytes)) s.strings (names_of (all_cells m)) ≡ None) × (unused_fault blob_entry (blobs_place (lengths_in bytes)) s.blobs (blobs_of (all_cells m)) ≡ None)
  used_parts =
      first_none (unused_fault name_entry (strings_place (lengths_in bytes)) s.strings (names_of (all_cells m))) (unused_fault blob_entry (blobs_place (lengths_in bytes)) s.blobs (blobs_of (all_cells m))) h.used

  strings_known : s.strings ≡ strings_stream c.names
  strings_known = used_none name_entry (strings_place (lengths_in bytes)) s.strings c.names used_parts.0

  blobs_known : s.blobs ≡ blob_stream c.blobs
  blobs_known = used_none blob_entry (blobs_place (lengths_in bytes)) s.blobs c.blobs used_parts.1

  sizes_same : sizes_of c ≡ told_sizes bytes h.start are
  sizes_same =
      let first : length (strings_stream c.names) ≡ (lengths_in bytes).strings = ap length (sym strings_known) ∙ strings_long bytes h.start in
      let last : length (blob_stream c.blobs) ≡ (lengths_in bytes).blobs = ap length (sym blobs_known) ∙ blobs_long bytes h.start in
      λ i. record { strings = first i; blobs = last i; rows = λ table. h.rows.counts table i }

  tables_same : s.tables ≡ tables_stream c (all_cells m)
  unfolding header_of
  tables_same =
      let size = told_sizes bytes h.start are in
      let rows : take (rows_size size) (row_bytes bytes h.start are) ≡ flat_map (cell_bytes c) (all_cells m) =
      sym (rows_at c size s.strings s.blobs (row_bytes bytes h.start are) (all_cells m) sizes_same (row_bytes_are bytes h.start are) (rows_room bytes h.start are) refl refl h.rows.rows) in
      tables_known bytes h.start are ∙ (λ i. padded (bytes_of (tables_header (sym sizes_same i)) ++ rows i))

  is_metadata : IsMetadata m bytes
  unfolding metadata_with
  is_metadata =
      (unique bytes h.start, unique_long bytes h.start, joined bytes h.start are ∙ (λ i. joined_streams (tables_same i) (strings_known i) (h.texts.bytes i) (unique bytes h.start) (blobs_known i)))

  pub found_tables : IsTables m bytes
  unfolding lengths_in
  found_tables =
      let fit = fits_at c (told_sizes bytes h.start are) s.strings s.blobs (row_bytes bytes h.start are) (all_cells m) sizes_same (row_bytes_are bytes h.start are) (rows_room bytes h.start are) refl refl h.rows.rows in
      let cells = all_fit c s.strings s.blobs (strings_bytes bytes h.start are) (blobs_bytes bytes h.start are) (all_cells m) fit (all_told s.strings s.blobs [] _ (all_cells m) h.rows.rows) h.signatures in
      let long : length (user_strings_stream m.texts) ≡ (lengths_in bytes).user_strings = ap length (sym h.texts.bytes) ∙ user_strings_long bytes h.start in
      record {
        is = is_metadata;
        columns = cells.0;
        range = cells.1;
        units = units_low m.texts h.texts.each;
        sorted = h.sorted;
        user_strings = omega (arith, long);
        size = small bytes h.start;
        no_bodies = h.no_bodies;
        no_entry = h.no_entry;
      }
