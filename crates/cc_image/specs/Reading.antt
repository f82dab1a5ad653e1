-- The first check that bytes fail as an image (ECMA-335, II.25). The checks come in this order: the headers, the file's length
-- and the CLI header; the metadata; each body; the ends of the bodies and the metadata, and zeros.
--   IsFirstFault bytes fault   the first check that fails
use Rattle.std.specs.Prelude.{◌≡◌, ◌⊎◌, ◌<◌, ◌^◌, ℕ, List, Option, Some, None}
use Rattle.std.specs.List.{AllByRecursion}
use Rattle.cc_module.specs.declared.module.Module.{Module}
use Rattle.cc_module.specs.declared.rows.MethodDefRow.{MethodDefRow}
use Rattle.cc_tables.specs.declared.fault.TableFault.{TableFault}
use Rattle.cc_tables.specs.declared.fault.TableFault.TheVariants as tables
use Rattle.cc_tables.specs.Reading.{IsTables}
use Rattle.cc_tables.specs.Reading as metadata
use Rattle.cc_image.specs.declared.sizes.Sizes.{Sizes}
use Rattle.cc_image.specs.declared.fault.ImageFault.{ImageFault}
use Rattle.cc_image.specs.declared.fault.ImageFault.TheVariants.{Metadata, Memory}
use Rattle.cc_image.specs.Headers.{sizes_in}
use Rattle.cc_image.specs.ImageFaults.{first, headers_fault, FIRST_BODY_AT, metadata_at, bodies_end, gaps_fault, bodies_fault, ends_fault}

-- what an answer of the reader of metadata means here
abbrev pub tables_error : TableFault → ImageFault
tables_error (tables.BadRoot place) = Metadata (tables.BadRoot place)
tables_error (tables.BadStream place) = Metadata (tables.BadStream place)
tables_error (tables.BadTable table row) = Metadata (tables.BadTable table row)
tables_error (tables.BadBlob place) = Metadata (tables.BadBlob place)
tables_error (tables.NotSorted table) = Metadata (tables.NotSorted table)
tables_error tables.Memory = Memory

-- the first fault of the metadata
abbrev pub TablesFault : Sizes → List ℕ → ImageFault → Type 0
TablesFault s bytes fault = (inner : TableFault) × metadata.IsFirstFault (metadata_at s bytes) inner × (fault ≡ Metadata inner)

-- the RVAs are of their type
abbrev pub HaveRvas : List MethodDefRow → Type 0
HaveRvas methods = AllByRecursion (λ method. method.rva < 2 ^ 32) methods

-- of the bodies of these methods and what stands behind them
abbrev pub contents_fault : Sizes → List MethodDefRow → List ℕ → Option ImageFault
contents_fault s methods bytes =
    first (bodies_fault 1 FIRST_BODY_AT methods bytes)
    (ends_fault s (bodies_end FIRST_BODY_AT methods bytes) (gaps_fault FIRST_BODY_AT methods bytes) bytes)

-- of the methods that the metadata tell
abbrev pub ContentsFault : Sizes → List ℕ → ImageFault → Type 0
ContentsFault s bytes fault = (m : Module) × IsTables m (metadata_at s bytes) × HaveRvas m.methods × (contents_fault s m.methods bytes ≡ Some fault)

abbrev pub IsFirstFault : List ℕ → ImageFault → Type 0
IsFirstFault bytes fault =
    (headers_fault bytes ≡ Some fault)
    ⊎ ((headers_fault bytes ≡ None) × (TablesFault (sizes_in bytes) bytes fault ⊎ ContentsFault (sizes_in bytes) bytes fault))
