-- The first check that bytes fail as an image (ECMA-335, II.25), with its place, counted from the file's start. What the bytes
-- tell by place, as a size, is taken as it stands, and 0 where the bytes end before; then the bytes are compared with what it
-- gives.
--   headers_fault bytes                      of the headers, the file's length and the CLI header
--   bodies_fault row at methods bytes        of the bodies of the methods from this row on, the first body at this place
--   ends_fault s end gaps bytes              of the ends of the bodies and the metadata, and of the zeros behind them
--   bodies_in, bodies_end, gaps_fault        the bodies, where they end, and the first byte between them that isn't zero
use Rattle.std.specs.Prelude.{ℕ, ◌+◌, ◌-◌, ◌==◌, List, [], ◌∷◌, length, take, drop, Option, Some, None, nat_lt, if◌then◌else◌}
use Rattle.cc_layout.specs.declared.field.FieldFault.{FieldFault}
use Rattle.cc_layout.specs.declared.field.FieldFault.TheVariants.{Missing, Differs}
use Rattle.cc_layout.specs.Layout.{fault_of}
use Rattle.cc_cil.specs.declared.body.Body.{Body}
use Rattle.cc_cil.specs.declared.fault.CodeFault.{CodeFault}
use Rattle.cc_cil.specs.declared.fault.CodeFault.TheVariants as code
use Rattle.cc_cil.specs.Bodies.{padding}
use Rattle.cc_cil.specs.BodyFaults.{body_in, width_in, body_fault}
use Rattle.cc_module.specs.declared.rows.MethodDefRow.{MethodDefRow}
use Rattle.cc_module.specs.Methods.{has_rva}
use Rattle.cc_module.specs.Storable.{aligned}
use Rattle.cc_image.specs.declared.sizes.Sizes.{Sizes}
use Rattle.cc_image.specs.declared.fault.ImageFault.{ImageFault}
use Rattle.cc_image.specs.declared.fault.ImageFault.TheVariants.{Short, BadField, Code, Memory}
use Rattle.cc_image.specs.Headers.{HEADERS, header_layout, cli_layout, sizes_in}

-- the first of two that is there
abbrev pub first : Option ImageFault → Option ImageFault → Option ImageFault
first None other = other
first (Some fault) other = Some fault

-- ---- the headers (II.25.2 and II.25.3.3)

abbrev pub located : Option FieldFault → Option ImageFault
located None = None
located (Some (Missing place)) = Some (Short place)
located (Some (Differs place)) = Some (BadField place)

-- a file that ends at this place
abbrev pub length_fault : ℕ → List ℕ → Option ImageFault
length_fault end bytes =
    if nat_lt (length bytes) end then Some (Short (length bytes))
    else if nat_lt end (length bytes) then Some (BadField end)
    else None

abbrev pub fields_fault : Sizes → List ℕ → Option ImageFault
fields_fault s bytes = located (fault_of 0 (header_layout s) (take HEADERS bytes))

abbrev pub cli_fault : Sizes → List ℕ → Option ImageFault
cli_fault s bytes = located (fault_of HEADERS (cli_layout s) (drop HEADERS bytes))

unfoldable pub headers_fault : List ℕ → Option ImageFault
headers_fault bytes =
    first (fields_fault (sizes_in bytes) bytes)
    (first (length_fault (HEADERS + (sizes_in bytes).section) bytes)
    (cli_fault (sizes_in bytes) bytes))

-- ---- places: what stands at a place of the file is loaded so much later

abbrev pub LOADED_LATER : ℕ
LOADED_LATER = 0x1E00

-- the first body, behind the CLI header
abbrev pub FIRST_BODY_AT : ℕ
FIRST_BODY_AT = 0x248

-- the metadata, as the CLI header tells them
abbrev pub metadata_at : Sizes → List ℕ → List ℕ
metadata_at s bytes = take s.metadata_size (drop (s.metadata_place - LOADED_LATER) bytes)

-- ---- zeros

-- the first byte that isn't zero, where the bytes stand from `at` on
abbrev pub zeros_fault : ℕ → List ℕ → Option ImageFault
zeros_fault at [] = None
zeros_fault at (byte ∷ bytes) = if byte == 0 then zeros_fault (at + 1) bytes else Some (BadField at)

-- up to a multiple of four
abbrev pub gap_fault : ℕ → List ℕ → Option ImageFault
gap_fault past bytes = zeros_fault past (take (padding past) (drop past bytes))

-- ---- the bodies, in order of their methods (II.25.4)

-- what stands at a place: the body, the place behind it, and the first fault
unfoldable pub body_at : ℕ → List ℕ → Body
body_at at bytes = body_in (drop at bytes)

unfoldable pub past_body : ℕ → List ℕ → ℕ
past_body at bytes = at + width_in (drop at bytes)

unfoldable pub fault_at : ℕ → List ℕ → Option CodeFault
fault_at at bytes = body_fault at (drop at bytes)

abbrev pub bodies_in : ℕ → List MethodDefRow → List ℕ → List Body
bodies_in at [] bytes = []
bodies_in at (method ∷ methods) bytes =
    if has_rva method then body_at at bytes ∷ bodies_in (aligned (past_body at bytes)) methods bytes
    else bodies_in at methods bytes

abbrev pub bodies_end : ℕ → List MethodDefRow → List ℕ → ℕ
bodies_end at [] bytes = at
bodies_end at (method ∷ methods) bytes =
    if has_rva method then bodies_end (aligned (past_body at bytes)) methods bytes
    else bodies_end at methods bytes

abbrev pub gaps_fault : ℕ → List MethodDefRow → List ℕ → Option ImageFault
gaps_fault at [] bytes = None
gaps_fault at (method ∷ methods) bytes =
    if has_rva method then first (gap_fault (past_body at bytes) bytes) (gaps_fault (aligned (past_body at bytes)) methods bytes)
    else gaps_fault at methods bytes

abbrev pub in_code : ℕ → Option CodeFault → Option ImageFault
in_code row None = None
in_code row (Some fault) = Some (Code row fault)

-- what an answer of a reader of bodies means here
abbrev pub code_error : ℕ → CodeFault → ImageFault
code_error row (code.Short place) = Code row (code.Short place)
code_error row (code.UnknownOpcode place) = Code row (code.UnknownOpcode place)
code_error row (code.BadHeader place) = Code row (code.BadHeader place)
code_error row (code.BadClause place) = Code row (code.BadClause place)
code_error row code.Memory = Memory

-- of a method whose body is to begin at a place
abbrev pub method_fault : ℕ → ℕ → ℕ → List ℕ → Option ImageFault
method_fault row rva at bytes = if rva == at + LOADED_LATER then in_code row (fault_at at bytes) else Some (BadField at)

abbrev pub bodies_fault : ℕ → ℕ → List MethodDefRow → List ℕ → Option ImageFault
bodies_fault row at [] bytes = None
bodies_fault row at (method ∷ methods) bytes =
    if has_rva method then first (method_fault row method.rva at bytes) (bodies_fault (row + 1) (aligned (past_body at bytes)) methods bytes)
    else bodies_fault (row + 1) at methods bytes

-- ---- the ends

-- the places of the fields of the CLI header that tell where the metadata are, and how many bytes they have
abbrev pub METADATA_PLACE_AT : ℕ
METADATA_PLACE_AT = 520

abbrev pub METADATA_SIZE_AT : ℕ
METADATA_SIZE_AT = 524

abbrev pub place_fault : Sizes → ℕ → Option ImageFault
place_fault s end = if s.metadata_place == end + LOADED_LATER then None else Some (BadField METADATA_PLACE_AT)

abbrev pub size_fault : Sizes → Option ImageFault
size_fault s = if s.metadata_place + s.metadata_size == HEADERS + s.used + LOADED_LATER then None else Some (BadField METADATA_SIZE_AT)

abbrev pub ends_fault : Sizes → ℕ → Option ImageFault → List ℕ → Option ImageFault
ends_fault s end gaps bytes = first (place_fault s end) (first (size_fault s) (first gaps (zeros_fault (HEADERS + s.used) (drop (HEADERS + s.used) bytes))))
