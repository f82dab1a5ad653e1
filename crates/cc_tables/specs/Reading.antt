-- The first check that bytes fail as metadata (ECMA-335, II.24), in this order: the size of the file, the root, the headers
-- of the streams, their sizes, #~ before and behind its rows, the forms of #Strings, #US and #Blob, the rows, the entries of
-- the heaps that no row uses, the order of rows, the signatures.
--   IsFirstFault bytes fault    the first check that fails
--   IsTables m bytes            no check fails, and these are the rows and the user strings of the module
use Rattle.std.specs.Prelude.{◌≡◌, ◌⊎◌, ℕ, zero, suc, ◌+◌, ◌-◌, ◌^◌, ◌<◌, min, List, [], ◌∷◌, ◌++◌, map, length, take, drop, slice_index, Option, Some, None, nat_lt, if◌then◌else◌}
use Rattle.std.specs.List.{flat_map, AllByRecursion}
use Rattle.std.specs.List.Sorted.{IsNonDecreasingBy, IsSorted}
use Rattle.std.specs.Str.{bytes_eq}
use Rattle.cc_layout.specs.Numbers.{value_of}
use Rattle.cc_layout.specs.Compressed.{compressed}
use Rattle.cc_layout.specs.Layout.{width_of}
use Rattle.cc_module.specs.declared.table.Table.{Table}
use Rattle.cc_module.specs.declared.table.Table.TheVariants as the
use Rattle.cc_module.specs.declared.table.Column.{Column}
use Rattle.cc_module.specs.declared.module.Module.{Module}
use Rattle.cc_module.specs.declared.rows.ModuleRow.{ModuleRow}
use Rattle.cc_module.specs.declared.rows.TypeRefRow.{TypeRefRow}
use Rattle.cc_module.specs.declared.rows.TypeDefRow.{TypeDefRow}
use Rattle.cc_module.specs.declared.rows.FieldRow.{FieldRow}
use Rattle.cc_module.specs.declared.rows.MethodDefRow.{MethodDefRow}
use Rattle.cc_module.specs.declared.rows.ParamRow.{ParamRow}
use Rattle.cc_module.specs.declared.rows.InterfaceImplRow.{InterfaceImplRow}
use Rattle.cc_module.specs.declared.rows.MemberRefRow.{MemberRefRow}
use Rattle.cc_module.specs.declared.rows.ConstantRow.{ConstantRow}
use Rattle.cc_module.specs.declared.rows.StandAloneSigRow.{StandAloneSigRow}
use Rattle.cc_module.specs.declared.rows.PropertyMapRow.{PropertyMapRow}
use Rattle.cc_module.specs.declared.rows.PropertyRow.{PropertyRow}
use Rattle.cc_module.specs.declared.rows.MethodSemanticsRow.{MethodSemanticsRow}
use Rattle.cc_module.specs.declared.rows.MethodImplRow.{MethodImplRow}
use Rattle.cc_module.specs.declared.rows.TypeSpecRow.{TypeSpecRow}
use Rattle.cc_module.specs.declared.rows.AssemblyRow.{AssemblyRow}
use Rattle.cc_module.specs.declared.rows.AssemblyRefRow.{AssemblyRefRow}
use Rattle.cc_module.specs.declared.rows.GenericParamRow.{GenericParamRow}
use Rattle.cc_module.specs.declared.rows.MethodSpecRow.{MethodSpecRow}
use Rattle.cc_module.specs.declared.rows.GenericParamConstraintRow.{GenericParamConstraintRow}
use Rattle.cc_module.specs.Rows.{Cell, u1, u2, u4, name, guid, signature, blob, row, coded, all_cells, row_count}
use Rattle.cc_module.specs.Rows as of
use Rattle.cc_module.specs.Indexes.{constant_code, semantics_code}
use Rattle.cc_module.specs.Heaps.{padded, name_entry, blob_entry, heap_bytes, place_of}
use Rattle.cc_module.specs.Metadata.{Sizes, column_width, cell_value, names_of, blobs_of, tables, table_number, user_strings_stream, metadata_bytes, IsMetadata}
use Rattle.cc_module.specs.Signatures.{IsSignature, IsBadWhole}
use Rattle.cc_module.specs.Storable.{FitsCell, IsCellInRange, IsStorable, IsInRange, IsSortedModule, generic_param_cmp, file_size, FIRST_BODY, SECTION}
use Rattle.cc_tables.specs.declared.fault.TableFault.{TableFault}
use Rattle.cc_tables.specs.declared.fault.TableFault.TheVariants.{BadRoot, BadStream, BadTable, BadBlob, NotSorted}
use Rattle.cc_tables.specs.declared.headers.StreamLengths.{StreamLengths}
use Rattle.cc_tables.specs.declared.width.StreamSizes.{StreamSizes}
use Rattle.cc_tables.specs.Columns.{columns_of, row_size, table_size, rows_size}
use Rattle.cc_tables.specs.Counts.{rows_in}
use Rattle.cc_tables.specs.Faults.{lengths_in, headers_fault, table_header_fault, end_fault, first}
use Rattle.cc_tables.specs.Numbering.{sizes_by, header_of}
use Rattle.cc_tables.specs.Forms.{strings_heap, blob_heap, user_strings_heap, StandsAt, HasSomeForm, FormFault}

-- ---- before the heaps

-- the file of an image without bodies has 2^28 bytes or more
abbrev pub size_fault : List ℕ → Option TableFault
size_fault bytes = if nat_lt (file_size (FIRST_BODY + length bytes - SECTION)) (2 ^ 28) then None else Some (BadRoot 0)

-- where the streams begin
abbrev pub TABLES_PLACE : ℕ
TABLES_PLACE = 108

abbrev pub strings_place : StreamLengths → ℕ
strings_place s = TABLES_PLACE + s.tables

abbrev pub user_strings_place : StreamLengths → ℕ
user_strings_place s = strings_place s + s.strings

abbrev pub blobs_place : StreamLengths → ℕ
blobs_place s = user_strings_place s + s.user_strings + 16

abbrev pub streams_end : StreamLengths → ℕ
streams_end s = blobs_place s + s.blobs

-- the streams are all that stands behind the headers
abbrev pub length_fault : StreamLengths → List ℕ → Option TableFault
length_fault s bytes =
    if nat_lt (length bytes) (streams_end s) then Some (BadStream (length bytes))
    else if nat_lt (streams_end s) (length bytes) then Some (BadStream (streams_end s))
    else None

abbrev pub piece : ℕ → ℕ → List ℕ → List ℕ
piece place size bytes = take size (drop place bytes)

-- the streams
pub record Streams : Type 0 where
  pub tables : List ℕ
  pub strings : List ℕ
  pub user_strings : List ℕ
  pub blobs : List ℕ

unfoldable pub streams_in : StreamLengths → List ℕ → Streams
streams_in s bytes = record {
  tables = piece TABLES_PLACE s.tables bytes;
  strings = piece (strings_place s) s.strings bytes;
  user_strings = piece (user_strings_place s) s.user_strings bytes;
  blobs = piece (blobs_place s) s.blobs bytes;
}

abbrev pub heap_lengths : StreamLengths → StreamSizes
heap_lengths s = record { strings = s.strings; blobs = s.blobs }

-- what decides the widths of columns
abbrev pub sizes_in : StreamSizes → List ℕ → Sizes
sizes_in s stream = sizes_by (rows_in stream) s

abbrev pub rows_place : Sizes → ℕ
rows_place s = width_of (header_of s)

-- #~ but for what its rows are
abbrev pub tables_fault : StreamSizes → List ℕ → Option TableFault
tables_fault s stream = first (table_header_fault TABLES_PLACE s stream) (end_fault TABLES_PLACE (rows_place (sizes_in s stream) + rows_size (sizes_in s stream)) stream)

unfoldable pub start_fault : List ℕ → Option TableFault
start_fault bytes =
    let s = lengths_in bytes in
    first (size_fault bytes) (first (headers_fault bytes) (first (length_fault s bytes) (tables_fault (heap_lengths s) (streams_in s bytes).tables)))

-- ---- rows as numbers

-- a row of a table, counted from 1, as the numbers of its columns
pub record RowNumbers : Type 0 where
  pub table : Table
  pub place : ℕ
  pub numbers : List ℕ

-- the numbers of columns one after the other
unfoldable pub numbers_in : Sizes → List Column → List ℕ → List ℕ
numbers_in s [] bytes = []
numbers_in s (column ∷ columns) bytes = value_of (take (column_width s column) bytes) ∷ numbers_in s columns (drop (column_width s column) bytes)

-- so many rows of a table, from this one on
unfoldable pub table_numbers : Sizes → Table → ℕ → ℕ → List ℕ → List RowNumbers
table_numbers s table place zero bytes = []
table_numbers s table place (suc count) bytes = record { table = table; place = place; numbers = numbers_in s (columns_of table) bytes } ∷ table_numbers s table (place + 1) count (drop (row_size s table) bytes)

-- all rows of some tables
unfoldable pub tables_numbers : Sizes → List Table → List ℕ → List RowNumbers
tables_numbers s [] bytes = []
tables_numbers s (table ∷ more) bytes = table_numbers s table 1 (s.rows table) bytes ++ tables_numbers s more (drop (table_size s table) bytes)

-- ---- what is a row

-- the columns are those of a row of the table
abbrev pub IsRowOf : Table → List Cell → Type 0
IsRowOf the.Module cells = (r : ModuleRow) × (cells ≡ of.module_cells r)
IsRowOf the.TypeRef cells = (r : TypeRefRow) × (cells ≡ of.type_ref_cells r)
IsRowOf the.TypeDef cells = (r : TypeDefRow) × (cells ≡ of.type_def_cells r)
IsRowOf the.Field cells = (r : FieldRow) × (cells ≡ of.field_cells r)
IsRowOf the.MethodDef cells = (r : MethodDefRow) × (cells ≡ of.method_def_cells r)
IsRowOf the.Param cells = (r : ParamRow) × (cells ≡ of.param_cells r)
IsRowOf the.InterfaceImpl cells = (r : InterfaceImplRow) × (cells ≡ of.interface_impl_cells r)
IsRowOf the.MemberRef cells = (r : MemberRefRow) × (cells ≡ of.member_ref_cells r)
IsRowOf the.Constant cells = (r : ConstantRow) × (cells ≡ of.constant_cells r)
IsRowOf the.StandAloneSig cells = (r : StandAloneSigRow) × (cells ≡ of.stand_alone_sig_cells r)
IsRowOf the.PropertyMap cells = (r : PropertyMapRow) × (cells ≡ of.property_map_cells r)
IsRowOf the.Property cells = (r : PropertyRow) × (cells ≡ of.property_cells r)
IsRowOf the.MethodSemantics cells = (r : MethodSemanticsRow) × (cells ≡ of.method_semantics_cells r)
IsRowOf the.MethodImpl cells = (r : MethodImplRow) × (cells ≡ of.method_impl_cells r)
IsRowOf the.TypeSpec cells = (r : TypeSpecRow) × (cells ≡ of.type_spec_cells r)
IsRowOf the.Assembly cells = (r : AssemblyRow) × (cells ≡ of.assembly_cells r)
IsRowOf the.AssemblyRef cells = (r : AssemblyRefRow) × (cells ≡ of.assembly_ref_cells r)
IsRowOf the.GenericParam cells = (r : GenericParamRow) × (cells ≡ of.generic_param_cells r)
IsRowOf the.MethodSpec cells = (r : MethodSpecRow) × (cells ≡ of.method_spec_cells r)
IsRowOf the.GenericParamConstraint cells = (r : GenericParamConstraintRow) × (cells ≡ of.generic_param_constraint_cells r)

-- the number of a column tells what stands in it, where these are the heaps
abbrev pub Tells : List ℕ → List ℕ → ℕ → Cell → Type 0
Tells strings blobs number (u1 value) = value ≡ number
Tells strings blobs number (u2 value) = value ≡ number
Tells strings blobs number (u4 value) = value ≡ number
Tells strings blobs number (name text) = StandsAt strings_heap strings number text
Tells strings blobs number (guid index) = index ≡ number
Tells strings blobs number (signature text) = StandsAt blob_heap blobs number text
Tells strings blobs number (blob text) = StandsAt blob_heap blobs number text
Tells strings blobs number (row table index) = index ≡ number
Tells strings blobs number (coded kind code) = code ≡ number

-- the numbers from a place on tell the columns
abbrev pub TellsFrom : List ℕ → List ℕ → List ℕ → ℕ → List Cell → Type 0
TellsFrom strings blobs numbers place [] = Unit {0}
TellsFrom strings blobs numbers place (cell ∷ cells) = Tells strings blobs (slice_index numbers place) cell × TellsFrom strings blobs numbers (place + 1) cells

-- the numbers of these columns, where those stand before them: a name or a blob is where its first use puts it
abbrev pub values_after : List Cell → List Cell → List ℕ
values_after before cells = map (cell_value (names_of (before ++ cells)) (blobs_of (before ++ cells))) cells

-- the numbers are those of a row with these columns, where these are the heaps
pub record IsRow (strings blobs : List ℕ) (before : List Cell) (r : RowNumbers) (cells : List Cell) : Type 0 where
  pub kind : IsRowOf r.table cells
  pub told : TellsFrom strings blobs r.numbers 0 cells
  pub first_use : values_after before cells ≡ r.numbers

-- all are rows, with these columns together
abbrev pub AreRows : List ℕ → List ℕ → List Cell → List RowNumbers → List Cell → Type 0
AreRows strings blobs before [] all = all ≡ []
AreRows strings blobs before (r ∷ rows) all =
    (cells : List Cell) × (more : List Cell) × IsRow strings blobs before r cells × (all ≡ cells ++ more) × AreRows strings blobs (before ++ cells) rows more

-- the first that is no row
abbrev pub RowFault : List ℕ → List ℕ → List Cell → List RowNumbers → TableFault → Type 0
RowFault strings blobs before [] fault = ⊥
RowFault strings blobs before (r ∷ rows) fault =
    (((cells : List Cell) → IsRow strings blobs before r cells → ⊥) × (fault ≡ BadTable (table_number r.table) r.place))
    ⊎ ((cells : List Cell) × IsRow strings blobs before r cells × RowFault strings blobs (before ++ cells) rows fault)

-- ---- entries that no row uses

-- the first byte behind those that are used
abbrev pub unused_fault : (List ℕ → List ℕ) → ℕ → List ℕ → List (List ℕ) → Option TableFault
unused_fault entry at stream texts =
    if bytes_eq (padded (heap_bytes entry texts)) stream then None else Some (BadStream (at + min (length (heap_bytes entry texts)) (length stream)))

abbrev pub heaps_fault : StreamLengths → Streams → List Cell → Option TableFault
heaps_fault lengths s cells = first (unused_fault name_entry (strings_place lengths) s.strings (names_of cells)) (unused_fault blob_entry (blobs_place lengths) s.blobs (blobs_of cells))

-- ---- the order of rows (II.22)

-- a check that stands before others
abbrev pub Either : Type 0 → TableFault → (TableFault → Type 0) → TableFault → Type 0
Either Holds found More fault = ((Holds → ⊥) × (fault ≡ found)) ⊎ (Holds × More fault)

abbrev pub OrderFault : Module → TableFault → Type 0
OrderFault m =
    Either (IsNonDecreasingBy (λ r. r.class.0) m.interface_impls) (NotSorted 0x09)
    (Either (IsNonDecreasingBy (λ r. constant_code r.parent) m.constants) (NotSorted 0x0B)
    (Either (IsNonDecreasingBy (λ r. semantics_code r.association) m.method_semantics) (NotSorted 0x18)
    (Either (IsNonDecreasingBy (λ r. r.class.0) m.method_impls) (NotSorted 0x19)
    (Either (IsSorted generic_param_cmp m.generic_params) (NotSorted 0x2A)
    (Either (IsNonDecreasingBy (λ r. r.owner.0) m.generic_param_constraints) (NotSorted 0x2C) (λ fault. ⊥))))))

-- ---- signatures (II.23.2)

abbrev pub signature_of : Cell → List (List ℕ)
signature_of (signature text) = text ∷ []
signature_of cell = []

-- where the bytes of a blob begin, behind its length
abbrev pub blob_place : ℕ → List (List ℕ) → List ℕ → ℕ
blob_place at texts text = at + place_of blob_entry texts text + length (compressed (length text))

-- the first byte with which no signature goes on
abbrev pub IsBadSignature : ℕ → List (List ℕ) → List ℕ → TableFault → Type 0
IsBadSignature at texts text fault = (n : ℕ) × IsBadWhole IsSignature text n × (fault ≡ BadBlob (blob_place at texts text + n))

-- the first that is none
abbrev pub SignatureFault : ℕ → List (List ℕ) → List (List ℕ) → TableFault → Type 0
SignatureFault at texts [] fault = ⊥
SignatureFault at texts (text ∷ more) fault = IsBadSignature at texts text fault ⊎ (IsSignature text × SignatureFault at texts more fault)

-- ---- all checks

abbrev pub rows_of : StreamLengths → Streams → List RowNumbers
rows_of lengths s = let sizes = sizes_in (heap_lengths lengths) s.tables in tables_numbers sizes tables (drop (rows_place sizes) s.tables)

-- those of the module that the rows are
abbrev pub ModuleFault : StreamLengths → Module → TableFault → Type 0
ModuleFault lengths m fault = OrderFault m fault ⊎ (IsSortedModule m × SignatureFault (blobs_place lengths) (blobs_of (all_cells m)) (flat_map signature_of (all_cells m)) fault)

-- those of the entries that no row uses, and of the module
abbrev pub ContentFault : StreamLengths → Streams → Module → TableFault → Type 0
ContentFault lengths s m fault = (heaps_fault lengths s (all_cells m) ≡ Some fault) ⊎ ((heaps_fault lengths s (all_cells m) ≡ None) × ModuleFault lengths m fault)

-- the rows are those of the module, as many as are told
pub record HasRows (lengths : StreamLengths) (s : Streams) (m : Module) : Type 0 where
  pub rows : AreRows s.strings s.blobs [] (rows_of lengths s) (all_cells m)
  pub counts : (table : Table) → row_count m table ≡ (sizes_in (heap_lengths lengths) s.tables).rows table

-- those of the rows
abbrev pub RowsFault : StreamLengths → Streams → TableFault → Type 0
RowsFault lengths s fault = RowFault s.strings s.blobs [] (rows_of lengths s) fault ⊎ ((m : Module) × HasRows lengths s m × ContentFault lengths s m fault)

-- those of the forms of the heaps
abbrev pub FormsFault : StreamLengths → Streams → TableFault → Type 0
FormsFault lengths s fault =
    FormFault strings_heap (strings_place lengths) s.strings fault
    ⊎ (HasSomeForm strings_heap s.strings × (FormFault user_strings_heap (user_strings_place lengths) s.user_strings fault
    ⊎ (HasSomeForm user_strings_heap s.user_strings × FormFault blob_heap (blobs_place lengths) s.blobs fault)))

pub record AreFormed (s : Streams) : Type 0 where
  pub strings : HasSomeForm strings_heap s.strings
  pub user_strings : HasSomeForm user_strings_heap s.user_strings
  pub blobs : HasSomeForm blob_heap s.blobs

abbrev pub StreamsFault : StreamLengths → Streams → TableFault → Type 0
StreamsFault lengths s fault = FormsFault lengths s fault ⊎ (AreFormed s × RowsFault lengths s fault)

abbrev pub IsFirstFault : List ℕ → TableFault → Type 0
IsFirstFault bytes fault =
    let s = lengths_in bytes in
    (start_fault bytes ≡ Some fault) ⊎ ((start_fault bytes ≡ None) × StreamsFault s (streams_in s bytes) fault)

-- ---- what bytes are, where no check fails

pub record IsTables (m : Module) (bytes : List ℕ) : Type 0 where
  pub is : IsMetadata m bytes
  pub columns : AllByRecursion (FitsCell (row_count m)) (all_cells m)
  pub range : AllByRecursion IsCellInRange (all_cells m)
  pub units : AllByRecursion (λ text. AllByRecursion (λ unit. unit < 2 ^ 16) text) m.texts
  pub sorted : IsSortedModule m
  pub user_strings : length (user_strings_stream m.texts) < 2 ^ 24
  pub size : file_size (FIRST_BODY + length bytes - SECTION) < 2 ^ 28
  pub no_bodies : m.bodies ≡ []
  pub no_entry : m.entry ≡ 0

-- the metadata that is written of a module without bodies and without an entry
abbrev pub WrittenTables : Type 0
WrittenTables = (m : Module) → IsStorable m → IsInRange m → m.bodies ≡ [] → m.entry ≡ 0 → IsTables m (metadata_bytes m)
