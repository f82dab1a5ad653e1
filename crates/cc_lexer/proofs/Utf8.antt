use Rattle.std.proofs.Common.{◌≡◌, ℕ, ◌≤◌, ◌<◌, true, false, inl, inr, List, length, get_or}
use Rattle.bstr.specs.Utf8.{decoded}
use Rattle.std.specs.Str.{IsUtf8, is_utf8}
use Rattle.std.proofs.lemmas.Str.{is_utf8-from_IsUtf8, IsUtf8-from_is_utf8}
use Rattle.std.proofs.lemmas.Bool.{cases_Bool}
use Rattle.bstr.proofs.lemmas.PieceLemmas.{size-bounds}

pub decoded_within : (bytes : List ℕ) → 0 < length bytes → (1 ≤ (decoded bytes).size) × ((decoded bytes).size ≤ length bytes)
decoded_within bytes h = let p = size-bounds (length bytes) (get_or bytes 0 0) (get_or bytes 1 0) (get_or bytes 2 0) (get_or bytes 3 0) h in (p.0, p.2)

pub is_utf8_true : (bytes : List ℕ) → IsUtf8 bytes → is_utf8 bytes ≡ true
is_utf8_true bytes h = is_utf8-from_IsUtf8 bytes h

pub is_utf8_false : (bytes : List ℕ) → ¬ (IsUtf8 bytes) → is_utf8 bytes ≡ false
is_utf8_false bytes h = elim (cases_Bool (is_utf8 bytes)) [ inl t ↦ absurd (h (IsUtf8-from_is_utf8 bytes t)) | inr f ↦ f ]
