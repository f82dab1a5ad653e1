-- What a reader takes for a row: the texts are those that it finds, and where the numbers are a row's, it is that row.
use Rattle.std.specs.Prelude.{ℕ, ◌+◌, ◌^◌, ◌<◌, List, [], ◌∷◌, slice_index}
use Rattle.cc_module.specs.declared.table.Column.{Column}
use Rattle.cc_module.specs.declared.table.Column.TheVariants as col
use Rattle.cc_module.specs.Rows.{Cell, name, signature, blob}
use Rattle.cc_tables.specs.Forms.{strings_heap, blob_heap, FoundAt}

abbrev pub Finds : List ℕ → List ℕ → ℕ → Cell → Type 0
Finds strings blobs number (name text) = FoundAt strings_heap strings number text
Finds strings blobs number (signature text) = FoundAt blob_heap blobs number text
Finds strings blobs number (blob text) = FoundAt blob_heap blobs number text
Finds strings blobs number cell = Unit {0}

abbrev pub FindsFrom : List ℕ → List ℕ → List ℕ → ℕ → List Cell → Type 0
FindsFrom strings blobs numbers place [] = Unit {0}
FindsFrom strings blobs numbers place (cell ∷ cells) = Finds strings blobs (slice_index numbers place) cell × FindsFrom strings blobs numbers (place + 1) cells

-- a number is within its column
abbrev pub FitsColumn : Column → ℕ → Type 0
FitsColumn col.U1 number = number < 2 ^ 8
FitsColumn col.U2 number = number < 2 ^ 16
FitsColumn column number = number < 2 ^ 32

abbrev pub FitFrom : List ℕ → ℕ → List Column → Type 0
FitFrom numbers place [] = Unit {0}
FitFrom numbers place (column ∷ columns) = FitsColumn column (slice_index numbers place) × FitFrom numbers (place + 1) columns
