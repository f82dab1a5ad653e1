-- A row by the numbers of its columns: they fit the columns, and where a row's columns hold them they tell it.
use Rattle.std.proofs.Common.{◌≡◌, ◌≢◌, ℕ, zero, suc, ◌+◌, ◌^◌, ◌<◌, ◌≤◌, Bool, true, false, List, [], ◌∷◌, ◌++◌, length, get_or, take, drop, map, refl, sym, ap, subst, ◌∙◌, ◌⊎◌, inl, inr, arith}
use Rattle.std.proofs.Math.Nat.{pow-le-pow_right}
use Rattle.std.specs.Prelude.{slice_index, nat_lt, if◌then◌else◌}
use Rattle.std.specs.List.{AllByRecursion}
use Rattle.std.proofs.lemmas.List.{get_or-drop, drop-drop, drop_at, length-append, length-take, length-map, map-append}
use Rattle.cc_layout.specs.Numbers.{value_of, AreBytes}
use Rattle.cc_layout.proofs.Numbers.{value_of-below, AreBytes-take}
use Rattle.cc_module.specs.declared.table.Table.{Table}
use Rattle.cc_module.specs.declared.table.Column.{Column}
use Rattle.cc_module.specs.declared.table.Column.TheVariants as col
use Rattle.cc_module.specs.Rows.{Cell, u1, u2, u4, name, guid, signature, blob, row, coded}
use Rattle.cc_module.specs.Heaps.{name_entry, blob_entry, place_of}
use Rattle.cc_module.specs.Metadata.{Sizes, column_width, column_of, cell_value, names_of, blobs_of}
use Rattle.cc_tables.specs.declared.numbering.Slot.{Slot}
use Rattle.cc_tables.specs.declared.numbering.Numbering.{Numbering}
use Rattle.cc_tables.specs.Forms.{Form, strings_heap, blob_heap, StandsAt, FoundAt}
use Rattle.cc_tables.specs.Numbering.{Numbered, slot_of, with_cell, with_cells, numbered, IsShort, Meets}
use Rattle.cc_tables.specs.Reading.{RowNumbers, numbers_in, IsRowOf, Tells, TellsFrom, values_after, IsRow}
use Rattle.cc_tables.specs.Candidates.{Finds, FindsFrom, FitsColumn, FitFrom}
use Rattle.cc_tables.specs.Columns.{columns_of}
use Rattle.cc_tables.specs.Progress.{HasMet, row_at}
use Rattle.cc_tables.proofs.Numbered.{nothing, with_cells-append, all_slots}

-- ---- lists by place

front_at : (numbers : List ℕ) (place x : ℕ) (more : List ℕ) → drop place numbers ≡ x ∷ more → slice_index numbers place ≡ x
front_at numbers place x more e =
    let none : place ≡ place + 0 = omega arith in
    ap (λ (n : ℕ). get_or numbers n 0) none ∙ sym (get_or-drop place numbers 0 0) ∙ ap (λ (l : List ℕ). get_or l 0 0) e

back_at : (numbers : List ℕ) (place x : ℕ) (more : List ℕ) → drop place numbers ≡ x ∷ more → drop (place + 1) numbers ≡ more
back_at numbers place x more e = sym (drop-drop 1 place numbers) ∙ ap (drop 1) e

bytes_drop : (n : ℕ) (bytes : List ℕ) → AreBytes bytes → AreBytes (drop n bytes)
bytes_drop zero bytes h = h
bytes_drop (suc n) [] h = tt
bytes_drop (suc n) (b ∷ bytes) h = bytes_drop n bytes h.1

-- ---- numbers fit their columns

by_width : (n : ℕ) (b : Bool) → n < 256 ^ (if b then 2 else 4) → n < 2 ^ 32
by_width n true h = omega (arith, h)
by_width n false h = omega (arith, h)

fits_column : (s : Sizes) (column : Column) (n : ℕ) → n < 256 ^ column_width s column → FitsColumn column n
fits_column s col.U1 n h = omega (arith, h)
fits_column s col.U2 n h = omega (arith, h)
fits_column s col.U4 n h = omega (arith, h)
fits_column s col.Name n h = by_width n _ h
fits_column s col.Guid n h = omega (arith, h)
fits_column s col.Blob n h = by_width n _ h
fits_column s (col.Row table) n h = by_width n _ h
fits_column s (col.Coded kind) n h = by_width n _ h

value_fits : (width : ℕ) (bytes : List ℕ) → AreBytes bytes → value_of (take width bytes) < 256 ^ width
value_fits width bytes h =
    let below = value_of-below (take width bytes) (AreBytes-take width bytes h) in
    let short : length (take width bytes) ≤ width = omega (arith, length-take width bytes) in
    let more : 256 ^ length (take width bytes) ≤ 256 ^ width = pow-le-pow_right (omega arith) short in
    omega (arith, below, more)

fit_from : (s : Sizes) (columns : List Column) (bytes numbers : List ℕ) (place : ℕ) → AreBytes bytes → drop place numbers ≡ numbers_in s columns bytes → FitFrom numbers place columns
unfolding numbers_in
fit_from s [] bytes numbers place h e = tt
fit_from s (column ∷ columns) bytes numbers place h e =
    let width = column_width s column in
    let value = value_of (take width bytes) in
    let more = numbers_in s columns (drop width bytes) in (
      subst (FitsColumn column) (sym (front_at numbers place value more e)) (fits_column s column value (value_fits width bytes h)),
      fit_from s columns (drop width bytes) numbers (place + 1) (bytes_drop width bytes h) (back_at numbers place value more e),
    )

pub numbers_fit : (s : Sizes) (columns : List Column) (bytes numbers : List ℕ) → AreBytes bytes → numbers ≡ numbers_in s columns bytes → FitFrom numbers 0 columns
numbers_fit s columns bytes numbers h e = fit_from s columns bytes numbers 0 h e

many_numbers : (s : Sizes) (columns : List Column) (bytes : List ℕ) → length (numbers_in s columns bytes) ≡ length columns
unfolding numbers_in
many_numbers s [] bytes = refl
many_numbers s (column ∷ columns) bytes = ap suc (many_numbers s columns (drop (column_width s column) bytes))

pub numbers_many : (s : Sizes) (columns : List Column) (bytes numbers : List ℕ) → numbers ≡ numbers_in s columns bytes → length numbers ≡ length columns
numbers_many s columns bytes numbers e = ap length e ∙ many_numbers s columns bytes

-- ---- what is found is short

found_short : (stream : List ℕ) (place : ℕ) (text : List ℕ) → FoundAt blob_heap stream place text → length text < 2 ^ 29
found_short stream place text (inl e) = omega (arith, ap length e)
found_short stream place text (inr (inl h)) = omega (arith, ap length h.1)
found_short stream place text (inr (inr h)) = h.1.1

cell_short : (strings blobs : List ℕ) (number : ℕ) (cell : Cell) → Finds strings blobs number cell → IsShort cell
cell_short strings blobs number (u1 value) h = tt
cell_short strings blobs number (u2 value) h = tt
cell_short strings blobs number (u4 value) h = tt
cell_short strings blobs number (name text) h = tt
cell_short strings blobs number (guid index) h = tt
cell_short strings blobs number (signature text) h = found_short blobs number text h
cell_short strings blobs number (blob text) h = found_short blobs number text h
cell_short strings blobs number (row table index) h = tt
cell_short strings blobs number (coded kind code) h = tt

pub finds_short : (strings blobs numbers : List ℕ) (place : ℕ) (cells : List Cell) → FindsFrom strings blobs numbers place cells → AllByRecursion IsShort cells
finds_short strings blobs numbers place [] h = tt
finds_short strings blobs numbers place (cell ∷ cells) h = (cell_short strings blobs (slice_index numbers place) cell h.0, finds_short strings blobs numbers (place + 1) cells h.1)

-- ---- what is found is told, where the columns hold the numbers

module _ (strings blobs : List ℕ) (names others : List (List ℕ)) where
  found_told : (form : Form) (stream : List ℕ) (entry : List ℕ → List ℕ) (texts : List (List ℕ)) (text : List ℕ) → FoundAt form stream (place_of entry texts text) text → StandsAt form stream (place_of entry texts text) text
  found_told form stream entry texts text (inl e) = inl (ap (place_of entry texts) e, e)
  found_told form stream entry texts text (inr h) = h

  cell_told : (cell : Cell) → Finds strings blobs (cell_value names others cell) cell → Tells strings blobs (cell_value names others cell) cell
  cell_told (u1 value) h = refl
  cell_told (u2 value) h = refl
  cell_told (u4 value) h = refl
  cell_told (name text) h = found_told strings_heap strings name_entry names text h
  cell_told (guid index) h = refl
  cell_told (signature text) h = found_told blob_heap blobs blob_entry others text h
  cell_told (blob text) h = found_told blob_heap blobs blob_entry others text h
  cell_told (row table index) h = refl
  cell_told (coded kind code) h = refl

  told_from : (numbers : List ℕ) (place : ℕ) (cells : List Cell) → drop place numbers ≡ map (cell_value names others) cells → FindsFrom strings blobs numbers place cells → TellsFrom strings blobs numbers place cells
  told_from numbers place [] e h = tt
  told_from numbers place (cell ∷ cells) e h =
      let value = cell_value names others cell in
      let is : slice_index numbers place ≡ value = front_at numbers place value (map (cell_value names others) cells) e in (
        subst (λ (n : ℕ). Tells strings blobs n cell) (sym is) (cell_told cell (subst (λ (n : ℕ). Finds strings blobs n cell) is h.0)),
        told_from numbers (place + 1) cells (back_at numbers place value (map (cell_value names others) cells) e) h.1,
      )

module _ (strings blobs : List ℕ) (before cells : List Cell) (s : Sizes) (table : Table) (place : ℕ) (bytes numbers : List ℕ) (are : numbers ≡ numbers_in s (columns_of table) bytes) where
  pub row_told : IsRowOf table cells → FindsFrom strings blobs numbers 0 cells → values_after before cells ≡ numbers → IsRow strings blobs before (row_at s table place bytes) cells
  row_told kind h e =
      subst (λ (x : List ℕ). IsRow strings blobs before (record { table = table; place = place; numbers = x }) cells) are
      (record { kind = kind; told = told_from strings blobs (names_of (before ++ cells)) (blobs_of (before ++ cells)) numbers 0 cells (sym e) h; first_use = e })

  -- a row with these numbers would have the same columns
  pub row_untold : {R : Type 0} (columns : R → List Cell) → ((all : List Cell) → IsRowOf table all → (r : R) × (all ≡ columns r)) → ((r : R) → TellsFrom strings blobs numbers 0 (columns r) → cells ≡ columns r)
      → (values_after before cells ≡ numbers → ⊥) → (other : List Cell) → IsRow strings blobs before (row_at s table place bytes) other → ⊥
  row_untold columns is only not_these other h =
      let found = is other h.kind in
      let told : TellsFrom strings blobs numbers 0 (columns found.0) = subst (λ (x : List ℕ). TellsFrom strings blobs x 0 (columns found.0)) (sym are) (subst (TellsFrom strings blobs (numbers_in s (columns_of table) bytes) 0) found.1 h.told) in
      let same : cells ≡ other = only found.0 told ∙ sym found.1 in
      not_these (ap (values_after before) same ∙ h.first_use ∙ sym are)

-- ---- columns that are met

slot_values : (names others : List (List ℕ)) (cells : List Cell) → map (λ (slot : Slot). slot.value) (map (slot_of names others) cells) ≡ map (cell_value names others) cells
slot_values names others [] = refl
slot_values names others (cell ∷ cells) = ap (λ (x : List ℕ). cell_value names others cell ∷ x) (slot_values names others cells)

slots_longer : (s : Numbered) (cells : List Cell) → length s.slots ≤ length (with_cells s cells).slots
unfolding with_cell
slots_longer s [] = omega arith
slots_longer s (cell ∷ cells) = let more = slots_longer (with_cell s cell) cells in omega (arith, more, length-append s.slots (slot_of s.names s.blobs cell ∷ []))

pub slots_room : (old new : Numbering) (cells : List Cell) → Meets old new cells → length old.slots.items ≤ length new.slots.items
unfolding numbered
slots_room old new cells h = let longer = slots_longer (numbered old) cells in omega (arith, longer, ap (λ (x : Numbered). length x.slots) h.met)

module _ (old new : Numbering) (before cells : List Cell) (h : HasMet old before) (k : Meets old new cells) where
  met_after : numbered new ≡ with_cells nothing (before ++ cells)
  met_after = k.met ∙ ap (λ (x : Numbered). with_cells x cells) h.met ∙ sym (with_cells-append nothing before cells)

  pub met_more : HasMet new (before ++ cells)
  met_more = record { whole = k.whole; met = met_after }

  pub values_met : (slots : List Slot) → slots ≡ drop (length old.slots.items) new.slots.items → map (λ (slot : Slot). slot.value) slots ≡ values_after before cells
  unfolding numbered
  values_met slots e =
      let names = names_of (before ++ cells) in
      let others = blobs_of (before ++ cells) in
      let first : old.slots.items ≡ map (slot_of (names_of before) (blobs_of before)) before = ap (λ (x : Numbered). x.slots) h.met ∙ all_slots before in
      let many : length (map (slot_of names others) before) ≡ length old.slots.items =
      length-map before (slot_of names others) ∙ sym (length-map before (slot_of (names_of before) (blobs_of before))) ∙ sym (ap length first) in
      let all : new.slots.items ≡ map (slot_of names others) before ++ map (slot_of names others) cells =
      ap (λ (x : Numbered). x.slots) met_after ∙ all_slots (before ++ cells) ∙ map-append (slot_of names others) before cells in
      let last : slots ≡ map (slot_of names others) cells = e ∙ ap (drop (length old.slots.items)) all ∙ drop_at (map (slot_of names others) before) (map (slot_of names others) cells) (length old.slots.items) many in
      ap (map (λ (slot : Slot). slot.value)) last ∙ slot_values names others cells
