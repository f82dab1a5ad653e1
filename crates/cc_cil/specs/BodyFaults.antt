-- The first place at which bytes leave the spelling of a body. What the bytes tell by place, as a size or a clause, is
-- taken as it stands, and 0 where the bytes end before; then the bytes are compared with the layout that it gives.
--   body_fault at bytes   the first fault, where the bytes stand from `at` on
use Rattle.std.specs.Prelude.{ℕ, zero, suc, ◌+◌, ◌/◌, ◌%◌, ◌==◌, Bool, true, false, ◌&&◌, not, max, List, [], ◌∷◌, ◌++◌, length, take, drop, Option, Some, None, nat_lt, if◌then◌else◌}
use Rattle.cc_layout.specs.declared.field.Field.{Field}
use Rattle.cc_layout.specs.declared.field.FieldFault.{FieldFault}
use Rattle.cc_layout.specs.declared.field.FieldFault.TheVariants.{Missing, Differs}
use Rattle.cc_layout.specs.Layout.{peeked, fault_of, width_of}
use Rattle.cc_cil.specs.declared.body.ClauseKind.{ClauseKind}
use Rattle.cc_cil.specs.declared.body.ClauseKind.TheVariants.{Catch, Finally, Fault}
use Rattle.cc_cil.specs.declared.body.Clause.{Clause}
use Rattle.cc_cil.specs.declared.body.Body.{Body}
use Rattle.cc_cil.specs.declared.fault.CodeFault.{CodeFault}
use Rattle.cc_cil.specs.declared.fault.CodeFault.TheVariants.{Short, BadHeader, BadClause}
use Rattle.cc_cil.specs.Bodies.{clause_width, is_small, section_layout, padding, zeros, FAT, FAT_WITH_SECTION, fat_header, is_tiny}

-- ---- what the bytes tell

abbrev pub kind_of : ℕ → ClauseKind
kind_of flags = if flags == 2 then Finally else if flags == 4 then Fault else Catch

abbrev pub clause_in : Bool → List ℕ → Clause
clause_in true bytes = record {
  kind = kind_of (peeked 2 0 bytes);
  try_first = peeked 2 2 bytes;
  try_length = peeked 1 4 bytes;
  handler_first = peeked 2 5 bytes;
  handler_length = peeked 1 7 bytes;
  class = peeked 4 8 bytes;
}
clause_in false bytes = record {
  kind = kind_of (peeked 4 0 bytes);
  try_first = peeked 4 4 bytes;
  try_length = peeked 4 8 bytes;
  handler_first = peeked 4 12 bytes;
  handler_length = peeked 4 16 bytes;
  class = peeked 4 20 bytes;
}

abbrev pub clauses_in : Bool → ℕ → List ℕ → List Clause
clauses_in small zero bytes = []
clauses_in small (suc count) bytes = clause_in small bytes ∷ clauses_in small count (drop (clause_width small) bytes)

abbrev pub section_is_small : List ℕ → Bool
section_is_small bytes = peeked 1 0 bytes == 0x01

-- a section has at least one clause
abbrev pub count_in : Bool → List ℕ → ℕ
count_in true bytes = max 1 (peeked 1 1 bytes / 12)
count_in false bytes = max 1 (peeked 3 1 bytes / 24)

abbrev pub section_clauses : List ℕ → List Clause
section_clauses bytes = clauses_in (section_is_small bytes) (count_in (section_is_small bytes) bytes) (drop 4 bytes)

-- the zeros after code of this size, and the section
abbrev pub tail_layout : ℕ → List ℕ → List Field
tail_layout size bytes = zeros (padding size) ++ section_layout (section_is_small (drop (padding size) bytes)) (section_clauses (drop (padding size) bytes))

abbrev pub has_tiny_header : List ℕ → Bool
has_tiny_header bytes = peeked 1 0 bytes % 4 == 2

abbrev pub has_section : List ℕ → Bool
has_section bytes = peeked 2 0 bytes == FAT_WITH_SECTION

abbrev pub flags_in : List ℕ → ℕ
flags_in bytes = if has_section bytes then FAT_WITH_SECTION else FAT

-- the clauses after code of this size, where there is a section
abbrev pub clauses_after : Bool → ℕ → List ℕ → List Clause
clauses_after true size bytes = section_clauses (drop (padding size) bytes)
clauses_after false size bytes = []

abbrev pub tiny_size : List ℕ → ℕ
tiny_size bytes = peeked 1 0 bytes / 4

abbrev pub tiny_body_in : List ℕ → Body
tiny_body_in bytes = record { max_stack = 8; locals = 0; code = take (tiny_size bytes) (drop 1 bytes); clauses = [] }

abbrev pub fat_body_in : List ℕ → Body
fat_body_in bytes = record {
  max_stack = peeked 2 2 bytes;
  locals = peeked 4 8 bytes;
  code = take (peeked 4 4 bytes) (drop 12 bytes);
  clauses = clauses_after (has_section bytes) (peeked 4 4 bytes) (drop (12 + peeked 4 4 bytes) bytes);
}

abbrev pub body_in : List ℕ → Body
body_in bytes = if has_tiny_header bytes then tiny_body_in bytes else fat_body_in bytes

abbrev pub width_after : Bool → ℕ → List ℕ → ℕ
width_after true size bytes = width_of (tail_layout size bytes)
width_after false size bytes = 0

abbrev pub fat_width_in : List ℕ → ℕ
fat_width_in bytes = 12 + peeked 4 4 bytes + width_after (has_section bytes) (peeked 4 4 bytes) (drop (12 + peeked 4 4 bytes) bytes)

abbrev pub width_in : List ℕ → ℕ
width_in bytes = if has_tiny_header bytes then 1 + tiny_size bytes else fat_width_in bytes

-- ---- the faults

abbrev pub located : (ℕ → CodeFault) → Option FieldFault → Option CodeFault
located bad None = None
located bad (Some (Missing place)) = Some (Short place)
located bad (Some (Differs place)) = Some (bad place)

-- the first of two that is there
abbrev pub first : Option CodeFault → Option CodeFault → Option CodeFault
first None other = other
first (Some fault) other = Some fault

-- `size` bytes of code follow `before` bytes
abbrev pub code_fault : ℕ → ℕ → ℕ → List ℕ → Option CodeFault
code_fault at before size bytes = if nat_lt (length bytes) (before + size) then Some (Short (at + length bytes)) else None

-- where a fat header stands in place of a tiny one
abbrev pub form_fault : ℕ → List ℕ → Option CodeFault
form_fault at bytes = if not (has_section bytes) && is_tiny (peeked 2 2 bytes) (peeked 4 4 bytes) (peeked 4 8 bytes) then Some (BadHeader at) else None

abbrev pub header_fault : ℕ → List ℕ → Option CodeFault
header_fault at bytes = located BadHeader (fault_of at (fat_header (flags_in bytes) (peeked 2 2 bytes) (peeked 4 4 bytes) (peeked 4 8 bytes)) bytes)

-- where a fat section stands in place of a small one
abbrev pub section_form_fault : ℕ → List ℕ → Option CodeFault
section_form_fault at bytes = if not (section_is_small bytes) && is_small (section_clauses bytes) then Some (BadClause at) else None

abbrev pub tail_fault : ℕ → ℕ → List ℕ → Option CodeFault
tail_fault at size bytes = first (located BadClause (fault_of at (tail_layout size bytes) bytes)) (section_form_fault (at + padding size) (drop (padding size) bytes))

abbrev pub fault_after : Bool → ℕ → ℕ → List ℕ → Option CodeFault
fault_after true at size bytes = tail_fault at size bytes
fault_after false at size bytes = None

abbrev pub fat_fault : ℕ → List ℕ → Option CodeFault
fat_fault at bytes =
    first (header_fault at bytes) (first (form_fault at bytes) (first (code_fault at 12 (peeked 4 4 bytes) bytes)
    (fault_after (has_section bytes) (at + (12 + peeked 4 4 bytes)) (peeked 4 4 bytes) (drop (12 + peeked 4 4 bytes) bytes))))

abbrev pub body_fault : ℕ → List ℕ → Option CodeFault
body_fault at bytes = if has_tiny_header bytes then code_fault at 1 (tiny_size bytes) bytes else fat_fault at bytes
