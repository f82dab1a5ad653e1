-- The bytes of a module's metadata (ECMA-335, II.24): the root, the headers of the five streams and the streams.
--   metadata_bytes m     the whole, as it is written
--   IsMetadata m bytes   the bytes are the metadata of m, whose GUID may be any
--   context m            what decides the numbers and widths of columns
--   cell_bytes c cell    a column of a row
use Rattle.std.specs.Prelude.{◌≡◌, ℕ, ◌+◌, ◌-◌, ◌^◌, ◌==◌, List, [], ◌∷◌, ◌++◌, map, sum, length, replicate, nat_lt, if◌then◌else◌}
use Rattle.std.specs.List.{flat_map, list_all}
use Rattle.cc_layout.specs.declared.field.Field.{Field}
use Rattle.cc_layout.specs.Numbers.{little_endian}
use Rattle.cc_layout.specs.Layout.{number, run, bytes_of}
use Rattle.cc_module.specs.declared.table.Table.{Table}
use Rattle.cc_module.specs.declared.table.Table.TheVariants as the
use Rattle.cc_module.specs.declared.table.CodedIndex.{CodedIndex}
use Rattle.cc_module.specs.declared.table.CodedIndex.TheVariants as any
use Rattle.cc_module.specs.declared.table.Column.{Column}
use Rattle.cc_module.specs.declared.table.Column.TheVariants as col
use Rattle.cc_module.specs.declared.module.Module.{Module}
use Rattle.cc_module.specs.Heaps.{padded, filled, distinct, name_entry, blob_entry, heap_bytes, place_of, text_entry}
use Rattle.cc_module.specs.Rows.{Cell, u1, u2, u4, name, guid, signature, blob, row, coded, all_cells, row_count}

-- ---- tables (II.22)

abbrev pub tables : List Table
tables =
    the.Module ∷ the.TypeRef ∷ the.TypeDef ∷ the.Field ∷ the.MethodDef ∷ the.Param ∷ the.InterfaceImpl ∷ the.MemberRef ∷ the.Constant ∷ the.StandAloneSig
    ∷ the.PropertyMap ∷ the.Property ∷ the.MethodSemantics ∷ the.MethodImpl ∷ the.TypeSpec ∷ the.Assembly ∷ the.AssemblyRef ∷ the.GenericParam ∷ the.MethodSpec
    ∷ the.GenericParamConstraint ∷ []

abbrev pub table_number : Table → ℕ
table_number the.Module = 0x00
table_number the.TypeRef = 0x01
table_number the.TypeDef = 0x02
table_number the.Field = 0x04
table_number the.MethodDef = 0x06
table_number the.Param = 0x08
table_number the.InterfaceImpl = 0x09
table_number the.MemberRef = 0x0A
table_number the.Constant = 0x0B
table_number the.StandAloneSig = 0x11
table_number the.PropertyMap = 0x15
table_number the.Property = 0x17
table_number the.MethodSemantics = 0x18
table_number the.MethodImpl = 0x19
table_number the.TypeSpec = 0x1B
table_number the.Assembly = 0x20
table_number the.AssemblyRef = 0x23
table_number the.GenericParam = 0x2A
table_number the.MethodSpec = 0x2B
table_number the.GenericParamConstraint = 0x2C

-- ---- coded indexes (II.24.2.6)

abbrev pub tag_bits : CodedIndex → ℕ
tag_bits any.TypeDefOrRef = 2
tag_bits any.HasConstant = 2
tag_bits any.MemberRefParent = 3
tag_bits any.HasSemantics = 1
tag_bits any.MethodDefOrRef = 1
tag_bits any.ResolutionScope = 2
tag_bits any.TypeOrMethodDef = 1

-- the tables that an index may name; ModuleRef and Event have no rows here and are left out
abbrev pub tables_of : CodedIndex → List Table
tables_of any.TypeDefOrRef = the.TypeDef ∷ the.TypeRef ∷ the.TypeSpec ∷ []
tables_of any.HasConstant = the.Field ∷ the.Param ∷ the.Property ∷ []
tables_of any.MemberRefParent = the.TypeDef ∷ the.TypeRef ∷ the.MethodDef ∷ the.TypeSpec ∷ []
tables_of any.HasSemantics = the.Property ∷ []
tables_of any.MethodDefOrRef = the.MethodDef ∷ the.MemberRef ∷ []
tables_of any.ResolutionScope = the.Module ∷ the.AssemblyRef ∷ the.TypeRef ∷ []
tables_of any.TypeOrMethodDef = the.TypeDef ∷ the.MethodDef ∷ []

-- ---- what the heaps hold: each name and blob once, in order of first use

abbrev pub name_of : Cell → List (List ℕ)
name_of (name text) = filled text
name_of cell = []

abbrev pub blob_of : Cell → List (List ℕ)
blob_of (signature text) = filled text
blob_of (blob text) = filled text
blob_of cell = []

abbrev pub names_of : List Cell → List (List ℕ)
names_of cells = distinct (flat_map name_of cells)

abbrev pub blobs_of : List Cell → List (List ℕ)
blobs_of cells = distinct (flat_map blob_of cells)

abbrev pub strings_stream : List (List ℕ) → List ℕ
strings_stream names = padded (heap_bytes name_entry names)

abbrev pub user_strings_stream : List (List ℕ) → List ℕ
user_strings_stream texts = padded (0 ∷ flat_map text_entry texts)

-- the stream #GUID has one GUID
abbrev pub GUID_SIZE : ℕ
GUID_SIZE = 16

abbrev pub blob_stream : List (List ℕ) → List ℕ
blob_stream blobs = padded (heap_bytes blob_entry blobs)

-- ---- columns (II.24.2.6)

-- the sizes of the streams #Strings and #Blob, and the numbers of rows
pub record Sizes : Type 0 where
  pub strings : ℕ
  pub blobs : ℕ
  pub rows : Table → ℕ

abbrev pub heap_width : ℕ → ℕ
heap_width size = if nat_lt size 0x10000 then 2 else 4

abbrev pub row_width : ℕ → ℕ
row_width count = if nat_lt count 0x10000 then 2 else 4

abbrev pub coded_width : (Table → ℕ) → CodedIndex → ℕ
coded_width rows kind = if list_all (λ table. nat_lt (rows table) (2 ^ (16 - tag_bits kind))) (tables_of kind) then 2 else 4

abbrev pub column_width : Sizes → Column → ℕ
column_width s col.U1 = 1
column_width s col.U2 = 2
column_width s col.U4 = 4
column_width s col.Name = heap_width s.strings
column_width s col.Guid = heap_width GUID_SIZE
column_width s col.Blob = heap_width s.blobs
column_width s (col.Row table) = row_width (s.rows table)
column_width s (col.Coded kind) = coded_width s.rows kind

abbrev pub column_of : Cell → Column
column_of (u1 value) = col.U1
column_of (u2 value) = col.U2
column_of (u4 value) = col.U4
column_of (name text) = col.Name
column_of (guid index) = col.Guid
column_of (signature text) = col.Blob
column_of (blob text) = col.Blob
column_of (row table index) = col.Row table
column_of (coded kind index) = col.Coded kind

-- the number that a column holds, among these names and blobs
abbrev pub cell_value : List (List ℕ) → List (List ℕ) → Cell → ℕ
cell_value names blobs (u1 value) = value
cell_value names blobs (u2 value) = value
cell_value names blobs (u4 value) = value
cell_value names blobs (name text) = place_of name_entry names text
cell_value names blobs (guid index) = index
cell_value names blobs (signature text) = place_of blob_entry blobs text
cell_value names blobs (blob text) = place_of blob_entry blobs text
cell_value names blobs (row table index) = index
cell_value names blobs (coded kind index) = index

-- the entries of the heaps, and the numbers of rows
pub record Context : Type 0 where
  pub names : List (List ℕ)
  pub blobs : List (List ℕ)
  pub rows : Table → ℕ

abbrev pub sizes_of : Context → Sizes
sizes_of c = record { strings = length (strings_stream c.names); blobs = length (blob_stream c.blobs); rows = c.rows }

abbrev pub cell_bytes : Context → Cell → List ℕ
cell_bytes c cell = little_endian (column_width (sizes_of c) (column_of cell)) (cell_value c.names c.blobs cell)

abbrev pub context : Module → Context
context m = record { names = names_of (all_cells m); blobs = blobs_of (all_cells m); rows = row_count m }

-- ---- the stream #~ (II.24.2.6)

abbrev pub wide_bit : ℕ → ℕ → ℕ
wide_bit bit size = if nat_lt size 0x10000 then 0 else bit

abbrev pub heap_sizes : Sizes → ℕ
heap_sizes s = wide_bit 1 s.strings + wide_bit 2 GUID_SIZE + wide_bit 4 s.blobs

abbrev pub valid_bit : (Table → ℕ) → Table → ℕ
valid_bit rows table = if rows table == 0 then 0 else 2 ^ table_number table

-- the tables that have rows
abbrev pub valid : (Table → ℕ) → ℕ
valid rows = sum (map (valid_bit rows) tables)

-- InterfaceImpl, Constant, MethodSemantics, MethodImpl, GenericParam, GenericParamConstraint, and those of the standard
-- that have no rows here
abbrev pub SORTED : ℕ
SORTED = 0x0000140003000A00

abbrev pub count_field : (Table → ℕ) → Table → List Field
count_field rows table = if rows table == 0 then [] else number 4 (rows table) ∷ []

abbrev pub tables_header : Sizes → List Field
tables_header s =
    number 4 0 ∷ number 1 2 ∷ number 1 0 ∷ number 1 (heap_sizes s) ∷ number 1 1 ∷ number 8 (valid s.rows) ∷ number 8 SORTED
    ∷ flat_map (count_field s.rows) tables

abbrev pub tables_stream : Context → List Cell → List ℕ
tables_stream c cells = padded (bytes_of (tables_header (sizes_of c)) ++ flat_map (cell_bytes c) cells)

-- ---- the root and the stream headers (II.24.2.1 and II.24.2.2)

-- `v4.0.30319` and two zeros
abbrev pub version : List ℕ
version = 0x76 ∷ 0x34 ∷ 0x2E ∷ 0x30 ∷ 0x2E ∷ 0x33 ∷ 0x30 ∷ 0x33 ∷ 0x31 ∷ 0x39 ∷ 0 ∷ 0 ∷ []

abbrev pub root : List Field
root =
    run (0x42 ∷ 0x53 ∷ 0x4A ∷ 0x42 ∷ [])
    ++ (number 2 1 ∷ number 2 1 ∷ number 4 0 ∷ number 4 12 ∷ run version)
    ++ (number 2 0 ∷ number 2 5 ∷ [])

abbrev pub stream_header : ℕ → ℕ → List ℕ → List Field
stream_header offset size title = number 4 offset ∷ number 4 size ∷ run title

-- `#~`, `#Strings`, `#US`, `#GUID` and `#Blob`, each with zeros to a multiple of four
abbrev pub stream_headers : ℕ → ℕ → ℕ → ℕ → List Field
stream_headers table_size strings user_strings blobs =
    stream_header 108 table_size (0x23 ∷ 0x7E ∷ 0 ∷ 0 ∷ [])
    ++ (stream_header (108 + table_size) strings (0x23 ∷ 0x53 ∷ 0x74 ∷ 0x72 ∷ 0x69 ∷ 0x6E ∷ 0x67 ∷ 0x73 ∷ 0 ∷ 0 ∷ 0 ∷ 0 ∷ [])
    ++ (stream_header (108 + table_size + strings) user_strings (0x23 ∷ 0x55 ∷ 0x53 ∷ 0 ∷ [])
    ++ (stream_header (108 + table_size + strings + user_strings) GUID_SIZE (0x23 ∷ 0x47 ∷ 0x55 ∷ 0x49 ∷ 0x44 ∷ 0 ∷ 0 ∷ 0 ∷ [])
    ++ stream_header (108 + table_size + strings + user_strings + GUID_SIZE) blobs (0x23 ∷ 0x42 ∷ 0x6C ∷ 0x6F ∷ 0x62 ∷ 0 ∷ 0 ∷ 0 ∷ []))))

abbrev pub root_layout : List ℕ → List ℕ → List ℕ → List ℕ → List Field
root_layout rows strings user_strings blobs = root ++ stream_headers (length rows) (length strings) (length user_strings) (length blobs)

-- the root, the stream headers and the streams
abbrev pub joined_streams : List ℕ → List ℕ → List ℕ → List ℕ → List ℕ → List ℕ
joined_streams rows strings user_strings unique blobs =
    bytes_of (root_layout rows strings user_strings blobs) ++ (rows ++ (strings ++ (user_strings ++ (unique ++ blobs))))

abbrev pub bytes_in : Context → List Cell → List (List ℕ) → List ℕ → List ℕ
bytes_in c cells texts unique = joined_streams (tables_stream c cells) (strings_stream c.names) (user_strings_stream texts) unique (blob_stream c.blobs)

-- with this GUID
unfoldable pub metadata_with : List ℕ → Module → List ℕ
metadata_with unique m = bytes_in (context m) (all_cells m) m.texts unique

-- the GUID is written as zeros
abbrev pub metadata_bytes : Module → List ℕ
metadata_bytes m = metadata_with (replicate GUID_SIZE 0) m

abbrev pub IsMetadata : Module → List ℕ → Type 0
IsMetadata m bytes = (unique : List ℕ) × (length unique ≡ GUID_SIZE) × (bytes ≡ metadata_with unique m)
