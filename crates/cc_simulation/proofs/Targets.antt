-- Where branches and exits lead: the operand of an instruction, counted from the next one on.
use Rattle.std.proofs.Common.{◌≡◌, ℕ, ◌+◌, ◌-◌, ◌%◌, ◌^◌, ◌<◌, ◌≤◌, pos, ◌+ℤ◌, ap, arith, inl, inr}
use Rattle.std.specs.Int.{w32, cast_signed}
use Rattle.std.proofs.lemmas.Bool.{cases_lt}
use Rattle.std.proofs.lemmas.Int.{ints}
use Rattle.cc_code.specs.Instructions.{back, distance}

pub ahead_lands : (a b c : ℕ) → a + b ≡ c → pos a +ℤ pos b ≡ pos c
ahead_lands a b c e = omega (arith, ints)

pub back_lands : (a b c : ℕ) → c + b ≡ a → pos a +ℤ back b ≡ pos c
back_lands a b c e = omega (arith, ints)

below : (from to : ℕ) → to < from → from < 2 ^ 31 → to < 2 ^ 31 → distance from to ≡ cast_signed w32 (to + 2 ^ 32 - from) → pos from +ℤ distance from to ≡ pos to
below from to less p q e = rw e (grind (arith, ints))

above : (from to : ℕ) → from ≤ to → from < 2 ^ 31 → to < 2 ^ 31 → distance from to ≡ cast_signed w32 (to - from) → pos from +ℤ distance from to ≡ pos to
above from to more p q e = rw e (omega (arith, ints))

pub leave_lands : (from to : ℕ) → from < 2 ^ 31 → to < 2 ^ 31 → pos from +ℤ distance from to ≡ pos to
leave_lands from to p q = elim (cases_lt to from) [
  | inl less ↦ let e : (to + (2 ^ 32 - from)) % 2 ^ 32 ≡ to + 2 ^ 32 - from = omega arith in below from to less p q (ap (cast_signed w32) e)
  | inr more ↦ let e : (to + (2 ^ 32 - from)) % 2 ^ 32 ≡ to - from = omega arith in above from to more p q (ap (cast_signed w32) e)
]
