-- Columns that are written are read again: the rows of their bytes.
use Rattle.std.proofs.Common.{◌≡◌, ℕ, zero, suc, ◌+◌, ◌*◌, ◌^◌, ◌≤◌, ◌<◌, Bool, true, false, ◌||◌, List, [], ◌∷◌, ◌++◌, length, get_or, take, drop, map, refl, sym, ap, subst, ◌∙◌, ◌⊎◌, inl, inr, append_assoc, arith}
use Rattle.std.specs.Prelude.{slice_index, nat_lt, if◌then◌else◌}
use Rattle.std.specs.List.{flat_map, list_any, AllByRecursion, sum}
use Rattle.std.specs.Str.{bytes_eq}
use Rattle.std.proofs.lemmas.Bool.{cases_lt, lt-ltb, le-ltb}
use Rattle.std.proofs.lemmas.List.{append-nil, length-append, length-map, take_at, drop_at, append_cancel_left}
use Rattle.std.proofs.lemmas.List.Sums.{sum_by-cons}
use Rattle.std.proofs.lemmas.List.Folds.{list_any-append}
use Rattle.std.proofs.lemmas.Cmp.{nat_list_eq_equiv}
use Rattle.std.proofs.lemmas.Grind.{flat_map-append}
use Rattle.cc_layout.specs.Numbers.{little_endian, value_of}
use Rattle.cc_layout.proofs.Numbers.{length-little_endian, value_of-little_endian}
use Rattle.cc_module.specs.declared.table.Table.{Table}
use Rattle.cc_module.specs.Heaps.{padded, filled, distinct, heap_bytes, name_entry, blob_entry, place_of}
use Rattle.cc_module.specs.Rows.{Cell, u1, u2, u4, name, guid, signature, blob, row, coded}
use Rattle.cc_module.specs.Metadata.{Sizes, Context, sizes_of, column_of, column_width, heap_width, cell_value, cell_bytes, name_of, blob_of, names_of, blobs_of, strings_stream, blob_stream}
use Rattle.cc_module.specs.Storable.{FitsCell, IsCellInRange}
use Rattle.cc_tables.specs.Columns.{columns_of, row_size, table_size}
use Rattle.cc_tables.specs.Forms.{strings_heap, blob_heap, HasForm}
use Rattle.cc_tables.specs.Reading.{RowNumbers, numbers_in, table_numbers, tables_numbers, IsRowOf, Tells, TellsFrom, values_after, IsRow, AreRows}
use Rattle.cc_tables.proofs.Heaps.{place_within}
use Rattle.cc_tables.proofs.Heaped.{IsAmong, any_distinct, stands_in, strings_formed, blobs_formed}
use Rattle.cc_tables.proofs.Signed.{map_both}
use Rattle.cc_tables.proofs.Values.{met_values, met_all, met_more}
use Rattle.cc_tables.proofs.Written.{parts, padded_long}

-- ---- each text is among those of its heap

or_right : (b : Bool) → (b || true) ≡ true
or_right true = refl
or_right false = refl

among_at : (text : List ℕ) (a c : List (List ℕ)) → IsAmong (distinct (a ++ (filled text ++ c))) text
among_at [] a c = inl refl
among_at (byte ∷ text) a c =
    let own : list_any (bytes_eq (byte ∷ text)) ((byte ∷ text) ∷ c) ≡ true = rw (nat_list_eq_equiv.refl (byte ∷ text)) refl in
    inr (any_distinct (byte ∷ text) (a ++ (byte ∷ text) ∷ c)
    (list_any-append (bytes_eq (byte ∷ text)) a ((byte ∷ text) ∷ c) ∙ ap (λ (b : Bool). list_any (bytes_eq (byte ∷ text)) a || b) own ∙ or_right (list_any (bytes_eq (byte ∷ text)) a)))

abbrev AmongIn : List (List ℕ) → List (List ℕ) → Cell → Type 0
AmongIn names blobs (u1 value) = Unit {0}
AmongIn names blobs (u2 value) = Unit {0}
AmongIn names blobs (u4 value) = Unit {0}
AmongIn names blobs (name text) = IsAmong names text
AmongIn names blobs (guid index) = Unit {0}
AmongIn names blobs (signature text) = IsAmong blobs text
AmongIn names blobs (blob text) = IsAmong blobs text
AmongIn names blobs (row table index) = Unit {0}
AmongIn names blobs (coded kind code) = Unit {0}

cell_among : (before : List (List ℕ)) (others : List (List ℕ)) (fore : List (List ℕ)) (after : List (List ℕ)) (cell : Cell) → AmongIn (distinct (before ++ (name_of cell ++ others))) (distinct (fore ++ (blob_of cell ++ after))) cell
cell_among before others fore after (u1 value) = tt
cell_among before others fore after (u2 value) = tt
cell_among before others fore after (u4 value) = tt
cell_among before others fore after (name text) = among_at text before others
cell_among before others fore after (guid index) = tt
cell_among before others fore after (signature text) = among_at text fore after
cell_among before others fore after (blob text) = among_at text fore after
cell_among before others fore after (row table index) = tt
cell_among before others fore after (coded kind code) = tt

all_among : (before cells : List Cell) → AllByRecursion (AmongIn (names_of (before ++ cells)) (blobs_of (before ++ cells))) cells
all_among before [] = tt
all_among before (cell ∷ cells) =
    let own = cell_among (flat_map name_of before) (flat_map name_of cells) (flat_map blob_of before) (flat_map blob_of cells) cell in (
      subst (λ (x : List (List ℕ)). AmongIn (distinct x) (blobs_of (before ++ cell ∷ cells)) cell) (sym (flat_map-append name_of before (cell ∷ cells)))
          (subst (λ (x : List (List ℕ)). AmongIn (distinct (flat_map name_of before ++ flat_map name_of (cell ∷ cells))) (distinct x) cell) (sym (flat_map-append blob_of before (cell ∷ cells))) own),
      subst (λ (x : List Cell). AllByRecursion (AmongIn (names_of x) (blobs_of x)) cells) (append_assoc before (cell ∷ []) cells) (all_among (before ++ cell ∷ []) cells),
    )

-- ---- an index into a heap is within its column

heap_fits : (place size : ℕ) → place ≤ size → size < 2 ^ 32 → place < 256 ^ heap_width size
heap_fits place size le small =
    elim (cases_lt size 0x10000) [
      | inl lt ↦ rw (lt-ltb size 0x10000 lt) (omega (arith, le, lt))
      | inr ge ↦ rw (le-ltb size 0x10000 ge) (omega (arith, le, small))
    ]

abbrev pub IsSmall : Cell → Type 0
IsSmall (u1 value) = Unit {0}
IsSmall (u2 value) = Unit {0}
IsSmall (u4 value) = Unit {0}
IsSmall (name text) = Unit {0}
IsSmall (guid index) = index < 2 ^ 16
IsSmall (signature text) = Unit {0}
IsSmall (blob text) = Unit {0}
IsSmall (row table index) = Unit {0}
IsSmall (coded kind code) = Unit {0}

index_at : (front : List ℕ) (v : ℕ) (more : List ℕ) → slice_index (front ++ v ∷ more) (length front) ≡ v
index_at [] v more = refl
index_at (x ∷ front) v more = index_at front v more

-- ---- columns among all

module _ (all : List Cell) (rows : Table → ℕ) where
  abbrev pub ctx : Context
  ctx = record { names = names_of all; blobs = blobs_of all; rows = rows }

  abbrev pub sizes : Sizes
  sizes = sizes_of ctx

  abbrev pub strings : List ℕ
  strings = strings_stream (names_of all)

  abbrev pub blobs : List ℕ
  blobs = blob_stream (blobs_of all)

  abbrev pub value : Cell → ℕ
  value cell = cell_value (names_of all) (blobs_of all) cell

  -- the number tells the column, and is within it
  abbrev pub Known : Cell → Type 0
  Known cell = Tells strings blobs (value cell) cell × (value cell < 256 ^ column_width sizes (column_of cell))

  module _ (few : length strings < 2 ^ 32) (less : length blobs < 2 ^ 32) (first : HasForm strings_heap strings (names_of all)) (last : HasForm blob_heap blobs (blobs_of all)) where
    name_known : (text : List ℕ) → IsAmong (names_of all) text → Known (name text)
    name_known text k =
        let place = place_of name_entry (names_of all) text in (
          stands_in strings_heap (names_of all) text first.each k,
          heap_fits place (length strings) (omega (arith, place_within name_entry (names_of all) text (heap_bytes name_entry (names_of all)) refl, padded_long (heap_bytes name_entry (names_of all)))) few,
        )

    blob_known : (text : List ℕ) → IsAmong (blobs_of all) text → Known (blob text)
    blob_known text k =
        let place = place_of blob_entry (blobs_of all) text in (
          stands_in blob_heap (blobs_of all) text last.each k,
          heap_fits place (length blobs) (omega (arith, place_within blob_entry (blobs_of all) text (heap_bytes blob_entry (blobs_of all)) refl, padded_long (heap_bytes blob_entry (blobs_of all)))) less,
        )

    cell_known : (cell : Cell) → FitsCell rows cell → IsCellInRange cell → IsSmall cell → AmongIn (names_of all) (blobs_of all) cell → Known cell
    cell_known (u1 value) f r g k = (refl, r)
    cell_known (u2 value) f r g k = (refl, r)
    cell_known (u4 value) f r g k = (refl, r)
    cell_known (name text) f r g k = name_known text k
    cell_known (guid index) f r g k = (refl, g)
    cell_known (signature text) f r g k = let h = blob_known text k in (h.0, h.1)
    cell_known (blob text) f r g k = blob_known text k
    cell_known (row table index) f r g k = (refl, f)
    cell_known (coded kind code) f r g k = (refl, f)

    cells_known : (cells : List Cell) → AllByRecursion (FitsCell rows) cells → AllByRecursion IsCellInRange cells → AllByRecursion IsSmall cells → AllByRecursion (AmongIn (names_of all) (blobs_of all)) cells → AllByRecursion Known cells
    cells_known [] f r g k = tt
    cells_known (cell ∷ cells) f r g k = (cell_known cell f.0 r.0 g.0 k.0, cells_known cells f.1 r.1 g.1 k.1)

    pub all_known : AllByRecursion (FitsCell rows) all → AllByRecursion IsCellInRange all → AllByRecursion IsSmall all → AllByRecursion Known all
    all_known f r g = cells_known all f r g (all_among [] all)

  -- ---- the numbers of columns, and how many bytes they have

  numbers_back : (cells : List Cell) (rest : List ℕ) → AllByRecursion Known cells → numbers_in sizes (map column_of cells) (flat_map (cell_bytes ctx) cells ++ rest) ≡ map value cells
  unfolding numbers_in
  numbers_back [] rest h = refl
  numbers_back (cell ∷ cells) rest h =
      let width = column_width sizes (column_of cell) in
      let bytes : List ℕ = little_endian width (value cell) in
      let others : List ℕ = flat_map (cell_bytes ctx) cells ++ rest in
      let moved : (bytes ++ flat_map (cell_bytes ctx) cells) ++ rest ≡ bytes ++ others = append_assoc bytes (flat_map (cell_bytes ctx) cells) rest in
      let long : length bytes ≡ width = length-little_endian width (value cell) in
      let here : value_of (take width ((bytes ++ flat_map (cell_bytes ctx) cells) ++ rest)) ≡ value cell =
      ap (λ (x : List ℕ). value_of (take width x)) moved ∙ ap value_of (take_at bytes others width long) ∙ value_of-little_endian width (value cell) h.0.1 in
      let back : drop width ((bytes ++ flat_map (cell_bytes ctx) cells) ++ rest) ≡ others = ap (drop width) moved ∙ drop_at bytes others width long in
      (λ i. here i ∷ numbers_in sizes (map column_of cells) (back i)) ∙ ap (λ (x : List ℕ). value cell ∷ x) (numbers_back cells rest h.1)

  cells_long : (cells : List Cell) → length (flat_map (cell_bytes ctx) cells) ≡ sum (map (column_width sizes) (map column_of cells))
  cells_long [] = refl
  cells_long (cell ∷ cells) =
      let width = column_width sizes (column_of cell) in
      omega (
        arith,
        length-append (little_endian width (value cell)) (flat_map (cell_bytes ctx) cells),
        length-little_endian width (value cell),
        cells_long cells,
        sum_by-cons (λ (x : ℕ). x) width (map (column_width sizes) (map column_of cells)),
      )

  tells_from : (front : List ℕ) (cells : List Cell) → AllByRecursion Known cells → TellsFrom strings blobs (front ++ map value cells) (length front) cells
  tells_from front [] h = tt
  tells_from front (cell ∷ cells) h =
      let more : List ℕ = map value cells in
      let long : length (front ++ value cell ∷ []) ≡ length front + 1 = length-append front (value cell ∷ []) in
      let ih = tells_from (front ++ value cell ∷ []) cells h.1 in (
        subst (λ (n : ℕ). Tells strings blobs n cell) (sym (index_at front (value cell) more)) h.0.0,
        subst (λ (x : List ℕ). TellsFrom strings blobs x (length front + 1) cells) (append_assoc front (value cell ∷ []) more) (subst (λ (n : ℕ). TellsFrom strings blobs ((front ++ value cell ∷ []) ++ more) n cells) long ih),
      )

  -- ---- a column has its number as soon as it is met

  met_prefix : (p q : List Cell) → all ≡ p ++ q → met_values p ≡ map value p
  met_prefix p q e =
      let whole : List Cell = p ++ q in
      let own : Cell → ℕ = cell_value (names_of whole) (blobs_of whole) in
      let both : met_values p ++ values_after p q ≡ map own p ++ map own q = sym (met_more p q) ∙ met_all whole ∙ map_both own p q in
      let long : length (met_values p) ≡ length p = ap length (met_all p) ∙ length-map p (cell_value (names_of p) (blobs_of p)) in
      sym (take_at (met_values p) (values_after p q) (length p) long) ∙ ap (take (length p)) both ∙ take_at (map own p) (map own q) (length p) (length-map p own)
      ∙ (λ i. map (cell_value (names_of (sym e i)) (blobs_of (sym e i))) p)

  values_kept : (before cells after : List Cell) → all ≡ before ++ (cells ++ after) → values_after before cells ≡ map value cells
  values_kept before cells after e =
      let wide = met_prefix (before ++ cells) after (e ∙ sym (append_assoc before cells after)) in
      let narrow = met_prefix before (cells ++ after) e in
      append_cancel_left (met_values before) (values_after before cells) (map value cells)
      (sym (met_more before cells) ∙ wide ∙ map_both value before cells ∙ ap (λ (x : List ℕ). x ++ map value cells) (sym narrow))

  rows_append : (a b : List RowNumbers) (before cells others : List Cell) → AreRows strings blobs before a cells → AreRows strings blobs (before ++ cells) b others → AreRows strings blobs before (a ++ b) (cells ++ others)
  rows_append [] b before cells others h k =
      let none : before ++ cells ≡ before = ap (λ (x : List Cell). before ++ x) h ∙ append-nil before in
      subst (λ (x : List Cell). AreRows strings blobs before b (x ++ others)) (sym h) (subst (λ (x : List Cell). AreRows strings blobs x b others) none k)
  rows_append (r ∷ a) b before cells others (own, more, is, e, rest) k =
      let moved : before ++ cells ≡ (before ++ own) ++ more = ap (λ (x : List Cell). before ++ x) e ∙ sym (append_assoc before own more) in
      (own, more ++ others, is, ap (λ (x : List Cell). x ++ others) e ∙ append_assoc own more others, rows_append a b (before ++ own) more others rest (subst (λ (x : List Cell). AreRows strings blobs x b others) moved k))

  -- ---- tables

  module _ {R : Type 0} (table : Table) (cells : R → List Cell) (kind : (r : R) → IsRowOf table (cells r)) (columns : (r : R) → map column_of (cells r) ≡ columns_of table) where
    pub row_long : (r : R) → length (flat_map (cell_bytes ctx) (cells r)) ≡ row_size sizes table
    row_long r = cells_long (cells r) ∙ ap (λ x. sum (map (column_width sizes) x)) (columns r)

    table_back : (items : List R) (place : ℕ) (before after : List Cell) (rest : List ℕ) → all ≡ before ++ (flat_map cells items ++ after) → AllByRecursion Known (flat_map cells items)
        → AreRows strings blobs before (table_numbers sizes table place (length items) (flat_map (cell_bytes ctx) (flat_map cells items) ++ rest)) (flat_map cells items)
    unfolding table_numbers
    table_back [] place before after rest e h = refl
    table_back (r ∷ items) place before after rest e h =
        let more : List Cell = flat_map cells items in
        let bytes : List ℕ = flat_map (cell_bytes ctx) (cells r ++ more) ++ rest in
        let own : List ℕ = flat_map (cell_bytes ctx) (cells r) in
        let others : List ℕ = flat_map (cell_bytes ctx) more ++ rest in
        let split : bytes ≡ own ++ others = ap (λ (x : List ℕ). x ++ rest) (flat_map-append (cell_bytes ctx) (cells r) more) ∙ append_assoc own (flat_map (cell_bytes ctx) more) rest in
        let p = parts Known (cells r) more h in
        let numbers : numbers_in sizes (columns_of table) bytes ≡ map value (cells r) = (λ i. numbers_in sizes (sym (columns r) i) (split i)) ∙ numbers_back (cells r) others p.0 in
        let back : drop (row_size sizes table) bytes ≡ others = ap (drop (row_size sizes table)) split ∙ drop_at own others (row_size sizes table) (row_long r) in
        let here : all ≡ before ++ (cells r ++ (more ++ after)) = e ∙ ap (λ (x : List Cell). before ++ x) (append_assoc (cells r) more after) in
        let next = table_back items (place + 1) (before ++ cells r) after rest (here ∙ sym (append_assoc before (cells r) (more ++ after))) p.1 in (
          cells r,
          more,
          record {
            kind = kind r;
            told = subst (λ (x : List ℕ). TellsFrom strings blobs x 0 (cells r)) (sym numbers) (tells_from [] (cells r) p.0);
            first_use = values_kept before (cells r) (more ++ after) here ∙ sym numbers;
          },
          refl,
          subst (λ (x : List ℕ). AreRows strings blobs (before ++ cells r) (table_numbers sizes table (place + 1) (length items) x) more) (sym back) next,
        )

    items_long : (items : List R) → length (flat_map (cell_bytes ctx) (flat_map cells items)) ≡ length items * row_size sizes table
    items_long [] = omega arith
    items_long (r ∷ items) =
        omega (arith, ap length (flat_map-append (cell_bytes ctx) (cells r) (flat_map cells items)), length-append (flat_map (cell_bytes ctx) (cells r)) (flat_map (cell_bytes ctx) (flat_map cells items)), row_long r, items_long items)

    module _ (items : List R) (count : rows table ≡ length items) where
      pub table_long : length (flat_map (cell_bytes ctx) (flat_map cells items)) ≡ table_size sizes table
      table_long = items_long items ∙ ap (λ (n : ℕ). n * row_size sizes table) (sym count)

      pub next_table : (tables : List Table) (before others : List Cell) (rest : List ℕ) → all ≡ before ++ (flat_map cells items ++ others) → AllByRecursion Known (flat_map cells items ++ others)
          → (all ≡ (before ++ flat_map cells items) ++ others → AllByRecursion Known others → AreRows strings blobs (before ++ flat_map cells items) (tables_numbers sizes tables (flat_map (cell_bytes ctx) others ++ rest)) others)
          → AreRows strings blobs before (tables_numbers sizes (table ∷ tables) (flat_map (cell_bytes ctx) (flat_map cells items ++ others) ++ rest)) (flat_map cells items ++ others)
      unfolding tables_numbers
      next_table tables before others rest e h k =
          let own : List Cell = flat_map cells items in
          let bytes : List ℕ = flat_map (cell_bytes ctx) (own ++ others) ++ rest in
          let mine : List ℕ = flat_map (cell_bytes ctx) own in
          let theirs : List ℕ = flat_map (cell_bytes ctx) others ++ rest in
          let split : bytes ≡ mine ++ theirs = ap (λ (x : List ℕ). x ++ rest) (flat_map-append (cell_bytes ctx) own others) ∙ append_assoc mine (flat_map (cell_bytes ctx) others) rest in
          let back : drop (table_size sizes table) bytes ≡ theirs = ap (drop (table_size sizes table)) split ∙ drop_at mine theirs (table_size sizes table) table_long in
          let p = parts Known own others h in
          let first : AreRows strings blobs before (table_numbers sizes table 1 (rows table) bytes) own =
          subst (λ (n : ℕ). AreRows strings blobs before (table_numbers sizes table 1 n bytes) own) (sym count)
          (subst (λ (x : List ℕ). AreRows strings blobs before (table_numbers sizes table 1 (length items) x) own) (sym split) (table_back items 1 before others theirs e p.0)) in
          rows_append (table_numbers sizes table 1 (rows table) bytes) (tables_numbers sizes tables (drop (table_size sizes table) bytes)) before own others first
          (subst (λ (x : List ℕ). AreRows strings blobs (before ++ own) (tables_numbers sizes tables x) others) (sym back) (k (e ∙ sym (append_assoc before own others)) p.1))

      pub next_long : (tables : List Table) (others : List Cell) → length (flat_map (cell_bytes ctx) others) ≡ sum (map (table_size sizes) tables)
          → length (flat_map (cell_bytes ctx) (flat_map cells items ++ others)) ≡ sum (map (table_size sizes) (table ∷ tables))
      next_long tables others h =
          omega (
            arith,
            ap length (flat_map-append (cell_bytes ctx) (flat_map cells items) others),
            length-append (flat_map (cell_bytes ctx) (flat_map cells items)) (flat_map (cell_bytes ctx) others),
            table_long,
            h,
            sum_by-cons (λ (x : ℕ). x) (table_size sizes table) (map (table_size sizes) tables),
          )
