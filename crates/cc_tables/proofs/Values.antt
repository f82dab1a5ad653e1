-- Rows that are read: the numbers of all columns, and the bytes that they spell.
use Rattle.std.proofs.Common.{◌≡◌, ℕ, zero, suc, ◌+◌, ◌*◌, ◌^◌, ◌≤◌, ◌<◌, List, [], ◌∷◌, ◌++◌, length, take, drop, map, refl, sym, ap, subst, ◌∙◌, append_assoc, arith}
use Rattle.std.specs.List.{flat_map, AllByRecursion, sum}
use Rattle.std.proofs.lemmas.List.{append-nil, length-take, length-drop, length-append, take-append-drop, take_at, drop-drop}
use Rattle.std.proofs.lemmas.List.Sums.{sum_by-cons}
use Rattle.std.proofs.lemmas.Grind.{flat_map-append}
use Rattle.cc_layout.specs.Numbers.{little_endian, value_of, AreBytes}
use Rattle.cc_layout.proofs.Numbers.{AreBytes-back, AreBytes-take, little_endian-value_of, value_of-below}
use Rattle.cc_module.specs.declared.table.Table.{Table}
use Rattle.cc_module.specs.declared.table.Table.TheVariants as the
use Rattle.cc_module.specs.declared.table.Column.{Column}
use Rattle.cc_module.specs.Rows.{Cell}
use Rattle.cc_module.specs.Metadata.{Sizes, Context, sizes_of, column_of, column_width, cell_value, cell_bytes, names_of, blobs_of}
use Rattle.cc_tables.specs.declared.numbering.Slot.{Slot}
use Rattle.cc_tables.specs.Columns.{columns_of, row_size, table_size}
use Rattle.cc_tables.specs.Numbering.{Numbered, slot_of, with_cells}
use Rattle.cc_tables.specs.Reading.{RowNumbers, numbers_in, table_numbers, tables_numbers, IsRowOf, values_after, IsRow, AreRows}
use Rattle.cc_tables.proofs.Numbered.{nothing, with_cells-append, all_names, all_blobs, all_slots, slots_met}
use Rattle.cc_tables.proofs.Signed.{map_both}

-- ---- the numbers of columns that are met one after the other

abbrev value : Slot → ℕ
value slot = slot.value

-- those of these columns, where nothing was met before
pub met_values : List Cell → List ℕ
met_values cells = map value (with_cells nothing cells).slots

map_values : (names blobs : List (List ℕ)) (cells : List Cell) → map value (map (slot_of names blobs) cells) ≡ map (cell_value names blobs) cells
map_values names blobs [] = refl
map_values names blobs (cell ∷ cells) = ap (λ (x : List ℕ). cell_value names blobs cell ∷ x) (map_values names blobs cells)

pub met_all : (cells : List Cell) → met_values cells ≡ map (cell_value (names_of cells) (blobs_of cells)) cells
unfolding met_values
met_all cells = ap (map value) (all_slots cells) ∙ map_values (names_of cells) (blobs_of cells) cells

pub met_more : (before cells : List Cell) → met_values (before ++ cells) ≡ met_values before ++ values_after before cells
unfolding met_values
met_more before cells =
    let first = with_cells nothing before in
    let last = with_cells first cells in
    let same : last ≡ with_cells nothing (before ++ cells) = sym (with_cells-append nothing before cells) in
    let names : last.names ≡ names_of (before ++ cells) = ap (λ (s : Numbered). s.names) same ∙ all_names (before ++ cells) in
    let blobs : last.blobs ≡ blobs_of (before ++ cells) = ap (λ (s : Numbered). s.blobs) same ∙ all_blobs (before ++ cells) in
    ap (λ (s : Numbered). map value s.slots) (sym same) ∙ ap (map value) (slots_met first cells) ∙ map_both value first.slots (map (slot_of last.names last.blobs) cells)
    ∙ ap (λ (x : List ℕ). map value first.slots ++ x) (map_values last.names last.blobs cells ∙ (λ i. map (cell_value (names i) (blobs i)) cells))

-- ---- rows

abbrev pub numbers_of : List RowNumbers → List ℕ
numbers_of rows = flat_map (λ r. r.numbers) rows

abbrev pub columns_in : List RowNumbers → List Column
columns_in rows = flat_map (λ r. columns_of r.table) rows

module _ (strings blobs : List ℕ) where
  rows_values : (before : List Cell) (rows : List RowNumbers) (all : List Cell) → AreRows strings blobs before rows all → met_values (before ++ all) ≡ met_values before ++ numbers_of rows
  rows_values before [] all e = ap (λ (x : List Cell). met_values (before ++ x)) e ∙ ap met_values (append-nil before) ∙ sym (append-nil (met_values before))
  rows_values before (r ∷ rows) all (cells, more, is, e, rest) =
      ap (λ (x : List Cell). met_values (before ++ x)) e ∙ ap met_values (sym (append_assoc before cells more)) ∙ rows_values (before ++ cells) rows more rest
      ∙ ap (λ (x : List ℕ). x ++ numbers_of rows) (met_more before cells ∙ ap (λ (x : List ℕ). met_values before ++ x) is.first_use) ∙ append_assoc (met_values before) r.numbers (numbers_of rows)

  -- the numbers of all columns, among the names and blobs of all
  pub all_values : (rows : List RowNumbers) (all : List Cell) → AreRows strings blobs [] rows all → map (cell_value (names_of all) (blobs_of all)) all ≡ numbers_of rows
  unfolding met_values
  all_values rows all h = sym (met_all all) ∙ rows_values [] rows all h

row_columns : (table : Table) (cells : List Cell) → IsRowOf table cells → map column_of cells ≡ columns_of table
row_columns the.Module cells (r, e) = ap (map column_of) e
row_columns the.TypeRef cells (r, e) = ap (map column_of) e
row_columns the.TypeDef cells (r, e) = ap (map column_of) e
row_columns the.Field cells (r, e) = ap (map column_of) e
row_columns the.MethodDef cells (r, e) = ap (map column_of) e
row_columns the.Param cells (r, e) = ap (map column_of) e
row_columns the.InterfaceImpl cells (r, e) = ap (map column_of) e
row_columns the.MemberRef cells (r, e) = ap (map column_of) e
row_columns the.Constant cells (r, e) = ap (map column_of) e
row_columns the.StandAloneSig cells (r, e) = ap (map column_of) e
row_columns the.PropertyMap cells (r, e) = ap (map column_of) e
row_columns the.Property cells (r, e) = ap (map column_of) e
row_columns the.MethodSemantics cells (r, e) = ap (map column_of) e
row_columns the.MethodImpl cells (r, e) = ap (map column_of) e
row_columns the.TypeSpec cells (r, e) = ap (map column_of) e
row_columns the.Assembly cells (r, e) = ap (map column_of) e
row_columns the.AssemblyRef cells (r, e) = ap (map column_of) e
row_columns the.GenericParam cells (r, e) = ap (map column_of) e
row_columns the.MethodSpec cells (r, e) = ap (map column_of) e
row_columns the.GenericParamConstraint cells (r, e) = ap (map column_of) e

pub all_columns : (strings blobs : List ℕ) (before : List Cell) (rows : List RowNumbers) (all : List Cell) → AreRows strings blobs before rows all → map column_of all ≡ columns_in rows
all_columns strings blobs before [] all e = ap (map column_of) e
all_columns strings blobs before (r ∷ rows) all (cells, more, is, e, rest) =
    ap (map column_of) e ∙ map_both column_of cells more ∙ (λ i. row_columns r.table cells is.kind i ++ all_columns strings blobs (before ++ cells) rows more rest i)

-- ---- what columns with these numbers spell

module _ (s : Sizes) where
  spell : List Column → List ℕ → List ℕ
  spell [] numbers = []
  spell (column ∷ columns) [] = []
  spell (column ∷ columns) (number ∷ numbers) = little_endian (column_width s column) number ++ spell columns numbers

  -- each is within its column
  unfoldable pub Fit : List Column → List ℕ → Type 0
  Fit [] numbers = Unit {0}
  Fit (column ∷ columns) [] = Unit {0}
  Fit (column ∷ columns) (number ∷ numbers) = (number < 256 ^ column_width s column) × Fit columns numbers

  widths : List Column → ℕ
  widths [] = 0
  widths (column ∷ columns) = column_width s column + widths columns

  widths_known : (columns : List Column) → widths columns ≡ sum (map (column_width s) columns)
  unfolding widths
  widths_known [] = refl
  widths_known (column ∷ columns) = ap (λ (n : ℕ). column_width s column + n) (widths_known columns) ∙ sym (sum_by-cons (λ (x : ℕ). x) (column_width s column) (map (column_width s) columns))

  -- two pieces that follow one another
  two_pieces : (a b : ℕ) (bytes : List ℕ) → a ≤ length bytes → take a bytes ++ take b (drop a bytes) ≡ take (a + b) bytes
  two_pieces zero b bytes h = let on : zero + b ≡ b = omega arith in ap (λ (n : ℕ). take n bytes) (sym on)
  two_pieces (suc a) b [] h = absurd (omega (arith, h))
  two_pieces (suc a) b (x ∷ bytes) h = let on : suc a + b ≡ suc (a + b) = omega arith in ap (λ (t : List ℕ). x ∷ t) (two_pieces a b bytes (omega (arith, h))) ∙ ap (λ (n : ℕ). take n (x ∷ bytes)) (sym on)

  pieces : (a b : ℕ) (bytes more : List ℕ) → a ≤ length bytes → take a bytes ++ (take b (drop a bytes) ++ more) ≡ take (a + b) bytes ++ more
  pieces a b bytes more h = sym (append_assoc (take a bytes) (take b (drop a bytes)) more) ∙ ap (λ (t : List ℕ). t ++ more) (two_pieces a b bytes h)

  number_back : (width : ℕ) (bytes : List ℕ) → AreBytes bytes → width ≤ length bytes → little_endian width (value_of (take width bytes)) ≡ take width bytes
  number_back width bytes h le =
      let long : length (take width bytes) ≡ width = omega (arith, length-take width bytes, le) in
      ap (λ (n : ℕ). little_endian n (value_of (take width bytes))) (sym long) ∙ little_endian-value_of (take width bytes) (AreBytes-take width bytes h)

  number_fits : (width : ℕ) (bytes : List ℕ) → AreBytes bytes → width ≤ length bytes → value_of (take width bytes) < 256 ^ width
  number_fits width bytes h le =
      let long : length (take width bytes) ≡ width = omega (arith, length-take width bytes, le) in
      subst (λ (n : ℕ). value_of (take width bytes) < 256 ^ n) long (value_of-below (take width bytes) (AreBytes-take width bytes h))

  dropped : (n : ℕ) (bytes : List ℕ) → AreBytes bytes → AreBytes (drop n bytes)
  dropped n bytes h = AreBytes-back (take n bytes) (drop n bytes) (subst AreBytes (sym (take-append-drop n bytes)) h)

  -- one row
  row_spells : (columns more : List Column) (numbers bytes : List ℕ) → AreBytes bytes → widths columns ≤ length bytes → spell (columns ++ more) (numbers_in s columns bytes ++ numbers) ≡ take (widths columns) bytes ++ spell more numbers
  unfolding spell widths numbers_in
  row_spells [] more numbers bytes h le = refl
  row_spells (column ∷ columns) more numbers bytes h le =
      let width = column_width s column in
      let rest = drop width bytes in
      let ih = row_spells columns more numbers rest (dropped width bytes h) (omega (arith, le, length-drop width bytes)) in
      (λ i. number_back width bytes h (omega (arith, le)) i ++ ih i) ∙ pieces width (widths columns) bytes (spell more numbers) (omega (arith, le))

  row_fits : (columns more : List Column) (numbers bytes : List ℕ) → AreBytes bytes → widths columns ≤ length bytes → Fit more numbers → Fit (columns ++ more) (numbers_in s columns bytes ++ numbers)
  unfolding Fit widths numbers_in
  row_fits [] more numbers bytes h le k = k
  row_fits (column ∷ columns) more numbers bytes h le k =
      let width = column_width s column in
      (number_fits width bytes h (omega (arith, le)), row_fits columns more numbers (drop width bytes) (dropped width bytes h) (omega (arith, le, length-drop width bytes)) k)

  -- rows of a table
  table_spells : (table : Table) (place count : ℕ) (more : List Column) (numbers bytes : List ℕ) → AreBytes bytes → count * row_size s table ≤ length bytes
      → spell (columns_in (table_numbers s table place count bytes) ++ more) (numbers_of (table_numbers s table place count bytes) ++ numbers) ≡ take (count * row_size s table) bytes ++ spell more numbers
  unfolding table_numbers
  table_spells table place zero more numbers bytes h le = let none : zero * row_size s table ≡ 0 = omega arith in ap (λ (n : ℕ). take n bytes ++ spell more numbers) (sym none)
  table_spells table place (suc count) more numbers bytes h le =
      let size = row_size s table in
      let rest = drop size bytes in
      let rows = table_numbers s table (place + 1) count rest in
      let total : suc count * size ≡ size + count * size = omega arith in
      let known = widths_known (columns_of table) in
      let first : widths (columns_of table) ≤ length bytes = omega (arith, le, known, total) in
      let ih = table_spells table (place + 1) count more numbers rest (dropped size bytes h) (omega (arith, le, total, length-drop size bytes)) in
      (λ i. spell (append_assoc (columns_of table) (columns_in rows) more i) (append_assoc (numbers_in s (columns_of table) bytes) (numbers_of rows) numbers i))
      ∙ row_spells (columns_of table) (columns_in rows ++ more) (numbers_of rows ++ numbers) bytes h first
      ∙ (λ i. take (known i) bytes ++ ih i) ∙ pieces size (count * size) bytes (spell more numbers) (omega (arith, le, total)) ∙ ap (λ (n : ℕ). take n bytes ++ spell more numbers) (sym total)

  table_fits : (table : Table) (place count : ℕ) (more : List Column) (numbers bytes : List ℕ) → AreBytes bytes → count * row_size s table ≤ length bytes → Fit more numbers
      → Fit (columns_in (table_numbers s table place count bytes) ++ more) (numbers_of (table_numbers s table place count bytes) ++ numbers)
  unfolding table_numbers
  table_fits table place zero more numbers bytes h le k = k
  table_fits table place (suc count) more numbers bytes h le k =
      let size = row_size s table in
      let rest = drop size bytes in
      let rows = table_numbers s table (place + 1) count rest in
      let total : suc count * size ≡ size + count * size = omega arith in
      let first : widths (columns_of table) ≤ length bytes = omega (arith, le, widths_known (columns_of table), total) in
      let ih = table_fits table (place + 1) count more numbers rest (dropped size bytes h) (omega (arith, le, total, length-drop size bytes)) k in
      let all = row_fits (columns_of table) (columns_in rows ++ more) (numbers_of rows ++ numbers) bytes h first ih in
      subst (λ (x : List ℕ). Fit ((columns_of table ++ columns_in rows) ++ more) x) (sym (append_assoc (numbers_in s (columns_of table) bytes) (numbers_of rows) numbers))
      (subst (λ (x : List Column). Fit x (numbers_in s (columns_of table) bytes ++ (numbers_of rows ++ numbers))) (sym (append_assoc (columns_of table) (columns_in rows) more)) all)

  -- all rows of some tables
  tables_spell : (tables : List Table) (bytes : List ℕ) → AreBytes bytes → sum (map (table_size s) tables) ≤ length bytes
      → spell (columns_in (tables_numbers s tables bytes)) (numbers_of (tables_numbers s tables bytes)) ≡ take (sum (map (table_size s) tables)) bytes
  unfolding tables_numbers spell
  tables_spell [] bytes h le = refl
  tables_spell (table ∷ tables) bytes h le =
      let size = table_size s table in
      let others = sum (map (table_size s) tables) in
      let rows = table_numbers s table 1 (s.rows table) bytes in
      let rest = tables_numbers s tables (drop size bytes) in
      let total : sum (map (table_size s) (table ∷ tables)) ≡ size + others = sum_by-cons (λ (x : ℕ). x) size (map (table_size s) tables) in
      let ih = tables_spell tables (drop size bytes) (dropped size bytes h) (omega (arith, le, total, length-drop size bytes)) in
      (λ i. spell (flat_map-append (λ (r : RowNumbers). columns_of r.table) rows rest i) (flat_map-append (λ (r : RowNumbers). r.numbers) rows rest i))
      ∙ table_spells table 1 (s.rows table) (columns_in rest) (numbers_of rest) bytes h (omega (arith, le, total)) ∙ ap (λ (x : List ℕ). take size bytes ++ x) ih
      ∙ two_pieces size others bytes (omega (arith, le, total)) ∙ ap (λ (n : ℕ). take n bytes) (sym total)

  pub tables_fit : (tables : List Table) (bytes : List ℕ) → AreBytes bytes → sum (map (table_size s) tables) ≤ length bytes → Fit (columns_in (tables_numbers s tables bytes)) (numbers_of (tables_numbers s tables bytes))
  unfolding tables_numbers Fit
  tables_fit [] bytes h le = tt
  tables_fit (table ∷ tables) bytes h le =
      let size = table_size s table in
      let rows = table_numbers s table 1 (s.rows table) bytes in
      let rest = tables_numbers s tables (drop size bytes) in
      let total : sum (map (table_size s) (table ∷ tables)) ≡ size + sum (map (table_size s) tables) = sum_by-cons (λ (x : ℕ). x) size (map (table_size s) tables) in
      let ih = tables_fit tables (drop size bytes) (dropped size bytes h) (omega (arith, le, total, length-drop size bytes)) in
      let all = table_fits table 1 (s.rows table) (columns_in rest) (numbers_of rest) bytes h (omega (arith, le, total)) ih in
      subst (λ (x : List ℕ). Fit (columns_in (rows ++ rest)) x) (sym (flat_map-append (λ (r : RowNumbers). r.numbers) rows rest))
      (subst (λ (x : List Column). Fit x (numbers_of rows ++ numbers_of rest)) (sym (flat_map-append (λ (r : RowNumbers). columns_of r.table) rows rest)) all)

cells_spell : (c : Context) (cells : List Cell) → spell (sizes_of c) (map column_of cells) (map (cell_value c.names c.blobs) cells) ≡ flat_map (cell_bytes c) cells
unfolding spell
cells_spell c [] = refl
cells_spell c (cell ∷ cells) = ap (λ (x : List ℕ). cell_bytes c cell ++ x) (cells_spell c cells)

-- the columns of all rows are the bytes that the numbers were read from
pub rows_spell : (c : Context) (tables : List Table) (strings blobs bytes : List ℕ) (all : List Cell) → AreBytes bytes → sum (map (table_size (sizes_of c)) tables) ≤ length bytes → c.names ≡ names_of all → c.blobs ≡ blobs_of all
    → AreRows strings blobs [] (tables_numbers (sizes_of c) tables bytes) all → flat_map (cell_bytes c) all ≡ take (sum (map (table_size (sizes_of c)) tables)) bytes
rows_spell c tables strings blobs bytes all h le n b rows =
    let found = tables_numbers (sizes_of c) tables bytes in
    let values : map (cell_value c.names c.blobs) all ≡ numbers_of found = (λ i. map (cell_value (n i) (b i)) all) ∙ all_values strings blobs found all rows in
    sym (cells_spell c all) ∙ (λ i. spell (sizes_of c) (all_columns strings blobs [] found all rows i) (values i)) ∙ tables_spell (sizes_of c) tables bytes h le
