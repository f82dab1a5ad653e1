-- What is known while the rows of #~ are read, table by table.
--   HasMet n before          the columns met so far are these
--   row_at s table place bytes   the row that the bytes begin with
--   GoesOn / HasRead         what a reader has read, where no row was refused, and where one was
use Rattle.std.specs.Prelude.{◌≡◌, ◌≢◌, ℕ, ◌+◌, ◌≤◌, List, [], ◌∷◌, ◌++◌, map, sum, length, drop, Some, None}
use Rattle.cc_module.specs.declared.table.Table.{Table}
use Rattle.cc_module.specs.Rows.{Cell}
use Rattle.cc_module.specs.Metadata.{Sizes, tables}
use Rattle.cc_tables.specs.declared.fault.TableFault.{TableFault}
use Rattle.cc_tables.specs.declared.fault.TableFault.TheVariants.{Memory}
use Rattle.cc_tables.specs.declared.numbering.Numbering.{Numbering}
use Rattle.cc_tables.specs.declared.read_rows.RowReader.{RowReader}
use Rattle.cc_tables.specs.Columns.{columns_of, table_size}
use Rattle.cc_tables.specs.Counts.{position}
use Rattle.cc_tables.specs.Numbering.{IsNumbering, numbered, with_cells}
use Rattle.cc_tables.specs.Reading.{RowNumbers, numbers_in, tables_numbers, AreRows, RowFault}

-- the columns that were met are these
pub record HasMet (n : Numbering) (before : List Cell) : Type 0 where
  pub whole : IsNumbering n
  pub met : numbered n ≡ with_cells (record { names = []; blobs = []; slots = [] }) before

-- the row of a table, counted from 1, that stands at the front of bytes
abbrev pub row_at : Sizes → Table → ℕ → List ℕ → RowNumbers
row_at s table place bytes = record { table = table; place = place; numbers = numbers_in s (columns_of table) bytes }

-- a table and those behind it
abbrev pub tables_from : Table → List Table
tables_from table = drop (position table) tables

-- where no row was refused, the rows of the tables that are left stand from the reader's place on
pub record IsReady (s : Sizes) (bytes : List ℕ) (left : List Table) (reader : RowReader) : Type 0 where
  pub whole : IsNumbering reader.numbering
  pub room : reader.place + sum (map (table_size s) left) ≤ length bytes

-- these are the columns of the rows before the reader's place, and the other rows stand behind it
pub record GoesOn (strings blobs : List ℕ) (s : Sizes) (bytes : List ℕ) (all : List RowNumbers) (left : List Table) (reader : RowReader) (cells : List Cell) : Type 0 where
  pub so_far : List RowNumbers
  pub rows : AreRows strings blobs [] so_far cells
  pub parts : all ≡ so_far ++ tables_numbers s left (drop reader.place bytes)
  pub met : HasMet reader.numbering cells

-- the fault that a reader keeps is that of the rows; where it keeps none, these are the columns read
pub record HasRead (strings blobs : List ℕ) (s : Sizes) (bytes : List ℕ) (all : List RowNumbers) (left : List Table) (reader : RowReader) (cells : List Cell) : Type 0 where
  pub fault : (fault : TableFault) → reader.fault ≡ Some fault → fault ≢ Memory → RowFault strings blobs [] all fault
  pub rows : reader.fault ≡ None → GoesOn strings blobs s bytes all left reader cells
