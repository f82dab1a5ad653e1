-- The numbers of rows that the stream #~ tells (ECMA-335, II.24.2.6), for each table whose bit is set, in the order of the
-- tables; 0 for another table.
--   rows_in bytes t    the number of rows of the table t, where the bytes are the stream
use Rattle.std.specs.Prelude.{ℕ, ◌+◌, ◌/◌, ◌%◌, ◌^◌, ◌==◌, Bool, max, List, [], ◌∷◌, slice_index, if◌then◌else◌}
use Rattle.cc_layout.specs.Layout.{peeked}
use Rattle.cc_module.specs.declared.table.Table.{Table}
use Rattle.cc_module.specs.declared.table.Table.TheVariants as the
use Rattle.cc_module.specs.Metadata.{tables, table_number}

abbrev pub position : Table → ℕ
position the.Module = 0
position the.TypeRef = 1
position the.TypeDef = 2
position the.Field = 3
position the.MethodDef = 4
position the.Param = 5
position the.InterfaceImpl = 6
position the.MemberRef = 7
position the.Constant = 8
position the.StandAloneSig = 9
position the.PropertyMap = 10
position the.Property = 11
position the.MethodSemantics = 12
position the.MethodImpl = 13
position the.TypeSpec = 14
position the.Assembly = 15
position the.AssemblyRef = 16
position the.GenericParam = 17
position the.MethodSpec = 18
position the.GenericParamConstraint = 19

abbrev pub has_table : ℕ → Table → Bool
has_table valid table = valid / 2 ^ table_number table % 2 == 1

-- a table that is there has at least one row
abbrev pub count_at : ℕ → ℕ → Table → List ℕ → ℕ
count_at valid place table bytes = if has_table valid table then max (peeked 4 place bytes) 1 else 0

abbrev pub place_after : ℕ → ℕ → Table → ℕ
place_after valid place table = if has_table valid table then place + 4 else place

-- the numbers of these tables, where the first that is there stands at this place
unfoldable pub counts_in : ℕ → ℕ → List Table → List ℕ → List ℕ
counts_in valid place [] bytes = []
counts_in valid place (table ∷ more) bytes = count_at valid place table bytes ∷ counts_in valid (place_after valid place table) more bytes

-- the number of a table, where these are the numbers of all
abbrev pub table_rows : List ℕ → Table → ℕ
table_rows counts table = slice_index counts (position table)

-- the bits stand at 8, and the numbers from 24 on
abbrev pub rows_in : List ℕ → Table → ℕ
rows_in bytes = table_rows (counts_in (peeked 8 8 bytes) 24 tables bytes)
