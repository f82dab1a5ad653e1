-- The first check that bytes fail as metadata (ECMA-335, II.24), with its place, counted from the root. What the bytes tell by
-- place, as a size, is taken as it stands, brought to the nearest value that may stand there, and 0 where the bytes end
-- before; then the bytes are compared with the layout that it gives.
--   headers_fault bytes                  the first fault of the root and of the headers of the streams
--   table_header_fault at s stream       that of the stream #~ before its rows
--   end_fault at used stream             that of a stream behind the bytes that are used
use Rattle.std.specs.Prelude.{◌≡◌, ℕ, ◌+◌, ◌*◌, ◌/◌, ◌<◌, ◌^◌, min, List, ◌++◌, length, drop, Option, Some, None, nat_lt, if◌then◌else◌}
use Rattle.cc_layout.specs.declared.field.Field.{Field}
use Rattle.cc_layout.specs.declared.field.FieldFault.{FieldFault}
use Rattle.cc_layout.specs.declared.field.FieldFault.TheVariants.{Missing, Differs}
use Rattle.cc_layout.specs.Layout.{peeked, fault_of}
use Rattle.cc_cil.specs.Bodies.{padding, zeros}
use Rattle.cc_module.specs.declared.module.Module.{Module}
use Rattle.cc_module.specs.Metadata.{root, stream_headers, IsMetadata}
use Rattle.cc_module.specs.Storable.{IsStorable}
use Rattle.cc_tables.specs.declared.fault.TableFault.{TableFault}
use Rattle.cc_tables.specs.declared.fault.TableFault.TheVariants.{BadRoot, BadStream}
use Rattle.cc_tables.specs.declared.headers.StreamLengths.{StreamLengths}
use Rattle.cc_tables.specs.declared.width.StreamSizes.{StreamSizes}
use Rattle.cc_tables.specs.Counts.{rows_in}
use Rattle.cc_tables.specs.Numbering.{sizes_by, header_of}

-- ---- the root and the headers of the streams (II.24.2.1 and II.24.2.2)

-- a stream has a multiple of four bytes
abbrev pub whole : ℕ → ℕ
whole size = size / 4 * 4

-- #US has fewer than 2^24
unfoldable pub lengths_in : List ℕ → StreamLengths
lengths_in bytes = record {
  tables = whole (peeked 4 36 bytes);
  strings = whole (peeked 4 48 bytes);
  user_strings = min (whole (peeked 4 68 bytes)) 0xFFFFFC;
  blobs = whole (peeked 4 96 bytes);
}

-- a size has four bytes
pub record AreLengths (s : StreamLengths) : Type 0 where
  pub tables : s.tables < 2 ^ 32
  pub strings : s.strings < 2 ^ 32
  pub user_strings : s.user_strings < 2 ^ 32
  pub blobs : s.blobs < 2 ^ 32

unfoldable pub headers : StreamLengths → List Field
headers s = root ++ stream_headers s.tables s.strings s.user_strings s.blobs

-- the root has 32 bytes before the headers of the streams
abbrev pub at_place : ℕ → TableFault
at_place place = if nat_lt place 32 then BadRoot place else BadStream place

abbrev pub located : FieldFault → TableFault
located (Missing place) = at_place place
located (Differs place) = at_place place

abbrev pub first_located : Option FieldFault → Option TableFault
first_located None = None
first_located (Some fault) = Some (located fault)

abbrev pub headers_fault : List ℕ → Option TableFault
headers_fault bytes = first_located (fault_of 0 (headers (lengths_in bytes)) bytes)

-- ---- the stream #~ before the rows (II.24.2.6)

abbrev pub in_stream : FieldFault → TableFault
in_stream (Missing place) = BadStream place
in_stream (Differs place) = BadStream place

abbrev pub stream_located : Option FieldFault → Option TableFault
stream_located None = None
stream_located (Some fault) = Some (in_stream fault)

-- where the stream stands from `at` on
abbrev pub table_header_fault : ℕ → StreamSizes → List ℕ → Option TableFault
table_header_fault at s stream = stream_located (fault_of at (header_of (sizes_by (rows_in stream) s)) stream)

-- ---- the end of a stream

-- the first of two that is there
abbrev pub first : Option TableFault → Option TableFault → Option TableFault
first None other = other
first (Some fault) other = Some fault

-- so many zeros and nothing else
abbrev pub rest_fault : ℕ → ℕ → List ℕ → Option TableFault
rest_fault place count rest = first (stream_located (fault_of place (zeros count) rest)) (if nat_lt count (length rest) then Some (BadStream (place + count)) else None)

-- of a stream of which so many bytes are used: zeros to a multiple of four follow them
abbrev pub end_fault : ℕ → ℕ → List ℕ → Option TableFault
end_fault at used stream = if nat_lt (length stream) used then Some (BadStream (at + length stream)) else rest_fault (at + used) (padding used) (drop used stream)

-- the metadata of a module that a file can hold has no fault of the root and the headers
abbrev pub HeadersStand : Type 0
HeadersStand = (m : Module) (bytes : List ℕ) → IsStorable m → IsMetadata m bytes → headers_fault bytes ≡ None
