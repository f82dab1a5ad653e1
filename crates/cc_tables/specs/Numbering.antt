-- Rows met one after the other: their columns as numbers, and the names and blobs met so far, each once.
--   with_cells s cells     what is known after these columns too
--   IsHeap h               the places and the bytes of a heap are those of its texts
use Rattle.std.specs.Prelude.{◌≡◌, ℕ, ◌+◌, ◌*◌, ◌<◌, ◌^◌, List, [], ◌∷◌, ◌++◌, map, length, if◌then◌else◌}
use Rattle.std.specs.List.{flat_map, list_any, AllByRecursion}
use Rattle.std.specs.Str.{bytes_eq}
use Rattle.cc_layout.specs.Numbers.{little_endian}
use Rattle.cc_layout.specs.declared.field.Field.{Field}
use Rattle.cc_layout.specs.Layout.{bytes_of}
use Rattle.cc_module.specs.Heaps.{padded, name_entry, blob_entry, heap_bytes}
use Rattle.cc_module.specs.Rows.{Cell, signature, blob, row_count}
use Rattle.cc_module.specs.Rows as of
use Rattle.cc_module.specs.Metadata.{Sizes, column_of, column_width, cell_value, name_of, blob_of, tables_header}
use Rattle.cc_module.specs.declared.table.Table.{Table}
use Rattle.cc_module.specs.declared.module.Module.{Module}
use Rattle.cc_tables.specs.declared.width.StreamSizes.{StreamSizes}
use Rattle.cc_tables.specs.declared.heap.HeapKind.{HeapKind}
use Rattle.cc_tables.specs.declared.heap.HeapKind.TheVariants.{Names, Blobs}
use Rattle.cc_tables.specs.declared.heap.Heap.{Heap}
use Rattle.cc_tables.specs.declared.numbering.Slot.{Slot}
use Rattle.cc_tables.specs.declared.numbering.Numbering.{Numbering}

-- ---- heaps

abbrev pub entry_of : HeapKind → List ℕ → List ℕ
entry_of Names = name_entry
entry_of Blobs = blob_entry

-- the texts of the entries, in order
abbrev pub texts_of : {K : Type 0} → (K → List ℕ) → List (K × ℕ) → List (List ℕ)
texts_of items entries = map (λ entry. items entry.0) entries

-- each entry tells where it begins, the first at this place
abbrev pub ArePlaces : {K : Type 0} → (K → List ℕ) → (List ℕ → List ℕ) → ℕ → List (K × ℕ) → Type 0
ArePlaces items entry at [] = Unit {0}
ArePlaces items entry at (e ∷ entries) = (e.1 ≡ at) × ArePlaces items entry (at + length (entry (items e.0))) entries

abbrev pub heap_texts : Heap → List (List ℕ)
heap_texts h = texts_of (λ key. key.items) h.places.entries

pub record IsHeap (kind : HeapKind) (h : Heap) : Type 0 where
  pub is : h.kind ≡ kind
  pub bytes : h.bytes.items ≡ heap_bytes (entry_of kind) (heap_texts h)
  pub places : ArePlaces (λ key. key.items) (entry_of kind) 1 h.places.entries

-- the texts after one that may be among them
unfoldable pub with_text : List (List ℕ) → List ℕ → List (List ℕ)
with_text texts text = if list_any (bytes_eq text) texts then texts else texts ++ text ∷ []

-- the texts after those of a column, which has one at most
abbrev pub with_texts : List (List ℕ) → List (List ℕ) → List (List ℕ)
with_texts texts [] = texts
with_texts texts (text ∷ more) = with_texts (with_text texts text) more

-- ---- columns

pub record Numbered : Type 0 where
  pub names : List (List ℕ)
  pub blobs : List (List ℕ)
  pub slots : List Slot

abbrev pub slot_of : List (List ℕ) → List (List ℕ) → Cell → Slot
slot_of names blobs cell = record { column = column_of cell; value = cell_value names blobs cell }

unfoldable pub with_cell : Numbered → Cell → Numbered
with_cell s cell = record { names = with_texts s.names (name_of cell); blobs = with_texts s.blobs (blob_of cell); slots = s.slots ++ slot_of s.names s.blobs cell ∷ [] }

abbrev pub with_cells : Numbered → List Cell → Numbered
with_cells s [] = s
with_cells s (cell ∷ cells) = with_cells (with_cell s cell) cells

unfoldable pub numbered : Numbering → Numbered
numbered n = record { names = heap_texts n.names; blobs = heap_texts n.blobs; slots = n.slots.items }

pub record IsNumbering (n : Numbering) : Type 0 where
  pub names : IsHeap Names n.names
  pub blobs : IsHeap Blobs n.blobs

-- the columns have been met too
pub record Meets (old new : Numbering) (cells : List Cell) : Type 0 where
  pub whole : IsNumbering new
  pub met : numbered new ≡ with_cells (numbered old) cells

-- the length of a blob has a compressed form
abbrev pub IsShort : Cell → Type 0
IsShort (signature text) = length text < 2 ^ 29
IsShort (blob text) = length text < 2 ^ 29
IsShort cell = Unit {0}

-- those of a module, table by table
pub record AreShort (m : Module) : Type 0 where
  pub modules : AllByRecursion IsShort (flat_map of.module_cells m.modules)
  pub type_refs : AllByRecursion IsShort (flat_map of.type_ref_cells m.type_refs)
  pub type_defs : AllByRecursion IsShort (flat_map of.type_def_cells m.type_defs)
  pub fields : AllByRecursion IsShort (flat_map of.field_cells m.fields)
  pub methods : AllByRecursion IsShort (flat_map of.method_def_cells m.methods)
  pub params : AllByRecursion IsShort (flat_map of.param_cells m.params)
  pub interface_impls : AllByRecursion IsShort (flat_map of.interface_impl_cells m.interface_impls)
  pub member_refs : AllByRecursion IsShort (flat_map of.member_ref_cells m.member_refs)
  pub constants : AllByRecursion IsShort (flat_map of.constant_cells m.constants)
  pub stand_alone_sigs : AllByRecursion IsShort (flat_map of.stand_alone_sig_cells m.stand_alone_sigs)
  pub property_maps : AllByRecursion IsShort (flat_map of.property_map_cells m.property_maps)
  pub properties : AllByRecursion IsShort (flat_map of.property_cells m.properties)
  pub method_semantics : AllByRecursion IsShort (flat_map of.method_semantics_cells m.method_semantics)
  pub method_impls : AllByRecursion IsShort (flat_map of.method_impl_cells m.method_impls)
  pub type_specs : AllByRecursion IsShort (flat_map of.type_spec_cells m.type_specs)
  pub assemblies : AllByRecursion IsShort (flat_map of.assembly_cells m.assemblies)
  pub assembly_refs : AllByRecursion IsShort (flat_map of.assembly_ref_cells m.assembly_refs)
  pub generic_params : AllByRecursion IsShort (flat_map of.generic_param_cells m.generic_params)
  pub method_specs : AllByRecursion IsShort (flat_map of.method_spec_cells m.method_specs)
  pub generic_param_constraints : AllByRecursion IsShort (flat_map of.generic_param_constraint_cells m.generic_param_constraints)

-- ---- bytes

abbrev pub slot_bytes : Sizes → Slot → List ℕ
slot_bytes s slot = little_endian (column_width s slot.column) slot.value

abbrev pub sizes_by : (Table → ℕ) → StreamSizes → Sizes
sizes_by rows s = record { strings = s.strings; blobs = s.blobs; rows = rows }

-- the length of a user string has a compressed form
abbrev pub IsShortText : List ℕ → Type 0
IsShortText units = 2 * length units + 1 < 2 ^ 29

-- the fields of the stream #~ before the rows
unfoldable pub header_of : Sizes → List Field
header_of s = tables_header s

-- the stream #~ of these columns
abbrev pub slots_stream : Sizes → List Slot → List ℕ
slots_stream s slots = padded (bytes_of (header_of s) ++ flat_map (slot_bytes s) slots)
