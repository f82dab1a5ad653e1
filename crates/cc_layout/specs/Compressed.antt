-- Compressed unsigned numbers (ECMA-335, II.23.2): one byte below 80, two with the mark 10 below 4000, else four with the
-- mark 110, hexadecimal, the highest byte first. The shortest form is the only one.
use Rattle.std.specs.Prelude.{◌≡◌, ◌<◌, ◌^◌, ℕ, ◌+◌, ◌/◌, ◌%◌, List, [], ◌∷◌, nat_lt, if◌then◌else◌}

abbrev pub compressed : ℕ → List ℕ
compressed v =
    if nat_lt v 0x80 then v ∷ []
    else if nat_lt v 0x4000 then (0x80 + v / 0x100) ∷ (v % 0x100) ∷ []
    else (0xC0 + v / 0x1000000) ∷ (v / 0x10000 % 0x100) ∷ (v / 0x100 % 0x100) ∷ (v % 0x100) ∷ []

-- a number of the form holds 29 bits
abbrev pub IsCompressed : List ℕ → Type 0
IsCompressed text = (v : ℕ) × (v < 2 ^ 29) × (text ≡ compressed v)
