-- The heaps of the metadata (ECMA-335, II.24.2.3 to II.24.2.5).
--   distinct texts                each text once, where it stands first
--   heap_bytes entry texts        a zero and the entries of the texts
--   place_of entry texts text     where the entry of a text begins; the empty text is the zero
--   text_entry units              a user string
use Rattle.std.specs.Prelude.{ℕ, ◌+◌, ◌*◌, ◌/◌, ◌%◌, ◌==◌, Bool, not, ◌&&◌, ◌||◌, List, [], ◌∷◌, ◌++◌, filter, length, replicate, nat_le, if◌then◌else◌}
use Rattle.std.specs.List.{flat_map, list_any}
use Rattle.std.specs.Str.{bytes_eq}
use Rattle.cc_layout.specs.Numbers.{little_endian}
use Rattle.cc_layout.specs.Compressed.{compressed}
use Rattle.cc_cil.specs.Bodies.{padding}

-- zeros up to a multiple of four
abbrev pub padded : List ℕ → List ℕ
padded bytes = bytes ++ replicate (padding (length bytes)) 0

-- ---- names and blobs

-- the text, unless it is empty
abbrev pub filled : List ℕ → List (List ℕ)
filled [] = []
filled (byte ∷ text) = (byte ∷ text) ∷ []

abbrev pub distinct : List (List ℕ) → List (List ℕ)
distinct [] = []
distinct (text ∷ texts) = text ∷ filter (λ other. not (bytes_eq text other)) (distinct texts)

-- a name and a zero (II.24.2.3)
abbrev pub name_entry : List ℕ → List ℕ
name_entry text = text ++ 0 ∷ []

-- the length and the bytes (II.24.2.4)
abbrev pub blob_entry : List ℕ → List ℕ
blob_entry text = compressed (length text) ++ text

abbrev pub heap_bytes : (List ℕ → List ℕ) → List (List ℕ) → List ℕ
heap_bytes entry texts = 0 ∷ flat_map entry texts

-- where the entry of a text begins among entries that stand from `at` on; where they end, if it is none of them
abbrev pub place_from : (List ℕ → List ℕ) → ℕ → List (List ℕ) → List ℕ → ℕ
place_from entry at [] text = at
place_from entry at (other ∷ texts) text = if bytes_eq text other then at else place_from entry (at + length (entry other)) texts text

abbrev pub place_of : (List ℕ → List ℕ) → List (List ℕ) → List ℕ → ℕ
place_of entry texts [] = 0
place_of entry texts (byte ∷ text) = place_from entry 1 texts (byte ∷ text)

-- ---- user strings (II.24.2.4)

abbrev pub is_between : ℕ → ℕ → ℕ → Bool
is_between least most n = nat_le least n && nat_le n most

-- the low bytes 01 to 08, 0E to 1F, 27, 2D and 7F
abbrev pub is_special_byte : ℕ → Bool
is_special_byte low = is_between 0x01 0x08 low || is_between 0x0E 0x1F low || (low == 0x27) || (low == 0x2D) || (low == 0x7F)

abbrev pub is_special : ℕ → Bool
is_special unit = not (unit / 0x100 == 0) || is_special_byte (unit % 0x100)

-- the last byte of a user string
abbrev pub special_mark : List ℕ → ℕ
special_mark units = if list_any is_special units then 1 else 0

abbrev pub text_entry : List ℕ → List ℕ
text_entry units = compressed (2 * length units + 1) ++ (flat_map (little_endian 2) units ++ special_mark units ∷ [])
