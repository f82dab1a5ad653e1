-- Numbers as bytes, the lowest byte first.
--   little_endian width x    the `width` lowest bytes of x
--   value_of bytes           the number that the bytes stand for
--   AreBytes bytes           each is below 256
--   Extends old new text     new is old with a prefix of the text: what an append leaves that memory stops
use Rattle.std.specs.Prelude.{◌≡◌, ℕ, zero, suc, ◌+◌, ◌*◌, ◌/◌, ◌%◌, ◌<◌, List, [], ◌∷◌, ◌++◌}
use Rattle.std.specs.List.{AllByRecursion}

abbrev pub little_endian : ℕ → ℕ → List ℕ
little_endian zero x = []
little_endian (suc width) x = x % 256 ∷ little_endian width (x / 256)

abbrev pub value_of : List ℕ → ℕ
value_of [] = 0
value_of (byte ∷ bytes) = byte + 256 * value_of bytes

abbrev pub AreBytes : List ℕ → Type 0
AreBytes bytes = AllByRecursion (λ byte. byte < 256) bytes

abbrev pub Extends : List ℕ → List ℕ → List ℕ → Type 0
Extends old new text = (added : List ℕ) × (missing : List ℕ) × (new ≡ old ++ added) × (text ≡ added ++ missing)
