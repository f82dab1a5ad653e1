-- Layouts: little-endian numbers one after the other, each a field with a width and a value.
--   bytes_of fields            the bytes of a layout, with zeros where any value will do
--   Spells fields bytes rest   the bytes are a text of the layout, and then the rest
--   fault_of at fields bytes   the first field that the bytes do not have, where they stand from `at` on
--   peeked width place bytes   the number that stands at a place
use Rattle.std.specs.Prelude.{◌≡◌, ◌<◌, ◌≤◌, ◌^◌, ℕ, ◌+◌, ◌==◌, Bool, true, List, [], ◌∷◌, ◌++◌, map, length, take, drop, Option, Some, None, IfSome, unwrap_or, nat_lt, if◌then◌else◌}
use Rattle.cc_layout.specs.Numbers.{little_endian, value_of}
use Rattle.cc_layout.specs.declared.field.Field.{Field}
use Rattle.cc_layout.specs.declared.field.FieldFault.{FieldFault}
use Rattle.cc_layout.specs.declared.field.FieldFault.TheVariants.{Missing, Differs}

abbrev pub number : ℕ → ℕ → Field
number width value = record { width = width; value = Some value }

abbrev pub free : ℕ → Field
free width = record { width = width; value = None }

-- each byte is a field
abbrev pub run : List ℕ → List Field
run bytes = map (number 1) bytes

abbrev pub HasWidth : Field → Type 0
HasWidth f = (1 ≤ f.width) × (f.width ≤ 8)

-- the value is within the width
abbrev pub FitsField : Field → Type 0
FitsField f = IfSome f.value (λ v. v < 256 ^ f.width)

-- how many bytes the fields have
abbrev pub width_of : List Field → ℕ
width_of [] = 0
width_of (f ∷ fields) = f.width + width_of fields

abbrev pub bytes_of : List Field → List ℕ
bytes_of [] = []
bytes_of (f ∷ fields) = little_endian f.width (unwrap_or f.value 0) ++ bytes_of fields

-- ---- what bytes are of a layout

-- the text is of the field
pub record IsField (f : Field) (text : List ℕ) : Type 0 where
  pub width : length text ≡ f.width
  pub value : IfSome f.value (λ v. value_of text ≡ v)

abbrev pub Spells : List Field → List ℕ → List ℕ → Type 0
Spells [] bytes rest = bytes ≡ rest
Spells (f ∷ fields) bytes rest = (text : List ℕ) × (more : List ℕ) × IsField f text × (bytes ≡ text ++ more) × Spells fields more rest

-- ---- the first fault

abbrev pub agrees : Option ℕ → ℕ → Bool
agrees None n = true
agrees (Some v) n = v == n

unfoldable pub fault_of : ℕ → List Field → List ℕ → Option FieldFault
fault_of at [] bytes = None
fault_of at (f ∷ fields) bytes =
    if nat_lt (length bytes) f.width then Some (Missing (at + length bytes))
    else if agrees f.value (value_of (take f.width bytes)) then fault_of (at + f.width) fields (drop f.width bytes)
    else Some (Differs at)

-- ---- numbers at a place

-- 0 where the bytes end before
abbrev pub peeked : ℕ → ℕ → List ℕ → ℕ
peeked width place bytes = if nat_lt (length bytes) (place + width) then 0 else value_of (take width (drop place bytes))
