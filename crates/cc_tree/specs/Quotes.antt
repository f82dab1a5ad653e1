-- Strings and characters from behind their opening quote (ECMA-372, 9.1.3; ISO/IEC 14882:2003, 2.13.2 and 2.13.4).
use Rattle.std.specs.Prelude.{◌≡◌, ◌<◌, ◌+◌, ℕ, Bool, false, not, ◌&&◌, ◌==◌, nat_eq, if◌then◌else◌, List, [], ◌∷◌, ◌++◌, length, drop, Option, Some, None, Result, Ok, Err}
use Rattle.std.specs.Str.{byte}
use Rattle.cc_base.specs.declared.kind.Kind.TheVariants as kind
use Rattle.cc_tree.specs.declared.piece.Element.TheVariants.{One, Pair, BadByte, BadEscape}
use Rattle.cc_tree.specs.Escapes.{element}
use Rattle.cc_tree.specs.Refusals.{span, Refusal}

-- The place of the first quote on the line that no backslash escapes, where the first byte stands at `at`. `escaped`
-- says that a backslash stands before it.
abbrev pub closing : (quote : ℕ) → (escaped : Bool) → (at : ℕ) → List ℕ → Option ℕ
closing quote escaped at [] = None
closing quote escaped at (b ∷ bytes) =
    if b == byte "\n" then None
    else if not escaped && b == quote then Some at
    else closing quote (not escaped && b == byte "\\") (at + 1) bytes

-- The bytes between two such quotes, without a walk: a backslash takes the byte after it along.
pub data Body (quote : ℕ) : List ℕ → Type 0 where
  empty : Body quote []
  plain : {b : ℕ} {bytes : List ℕ} → nat_eq b quote ≡ false → nat_eq b (byte "\\") ≡ false → nat_eq b (byte "\n") ≡ false
      → Body quote bytes → Body quote (b ∷ bytes)
  escape : {b : ℕ} {bytes : List ℕ} → nat_eq b (byte "\n") ≡ false
      → Body quote bytes → Body quote (byte "\\" ∷ b ∷ bytes)

-- the units of a text, or why and where it is refused
abbrev pub Units : Type 0
Units = Result (List ℕ) Refusal

abbrev pub with_front : List ℕ → Units → Units
with_front units (Ok more) = Ok (units ++ more)
with_front units (Err refusal) = Err refusal

-- The bytes between the quotes, from the place `at` on, are elements in a row with these units, or the first that is none
-- is refused.
pub data Decodes : ℕ → List ℕ → Units → Type 0 where
  ends : {at : ℕ} → Decodes at [] (Ok [])
  unit : {at unit n : ℕ} {bytes : List ℕ} {units : Units}
      → 0 < length bytes → element bytes ≡ One unit n
      → Decodes (at + n) (drop n bytes) units → Decodes at bytes (with_front (unit ∷ []) units)
  pair : {at high low n : ℕ} {bytes : List ℕ} {units : Units}
      → 0 < length bytes → element bytes ≡ Pair high low n
      → Decodes (at + n) (drop n bytes) units → Decodes at bytes (with_front (high ∷ low ∷ []) units)
  bad_byte : {at : ℕ} {bytes : List ℕ} → 0 < length bytes → element bytes ≡ BadByte
      → Decodes at bytes (Err (kind.BadByte, span at (at + 1)))
  bad_escape : {at n : ℕ} {bytes : List ℕ} → 0 < length bytes → element bytes ≡ BadEscape n
      → Decodes at bytes (Err (kind.BadLiteral, span at (at + n)))
