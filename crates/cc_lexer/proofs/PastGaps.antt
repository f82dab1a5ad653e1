-- Going on behind one gap, and ending where there is none.
use Rattle.std.proofs.Common.{◌≡◌, ℕ, zero, suc, ◌+◌, ◌≤◌, ◌<◌, List, length, drop, refl, sym, nat_lt, arith}
use Rattle.std.proofs.lemmas.Bool.{cond-true, cond-false, lt-ltb, le-ltb}
use Rattle.cc_tree.specs.Gaps.{gap_len, past_some_gaps}

pub gap_passed : (most : ℕ) (bytes rest : List ℕ) → 0 < gap_len bytes → rest ≡ drop (gap_len bytes) bytes → length rest + gap_len bytes ≡ length bytes → length bytes ≤ most
    → (m : ℕ) × (length rest ≤ m) × (past_some_gaps m rest ≡ past_some_gaps most bytes)
gap_passed zero bytes rest some e shorter h = absurd (omega (arith, some, shorter, h))
gap_passed (suc most) bytes rest some e shorter h =
    (most, omega (arith, some, shorter, h), rw e (sym (cond-true (nat_lt 0 (gap_len bytes)) (past_some_gaps most (drop (gap_len bytes) bytes)) bytes (lt-ltb 0 (gap_len bytes) some))))

pub gaps_ended : (most : ℕ) (bytes : List ℕ) → gap_len bytes ≤ 0 → bytes ≡ past_some_gaps most bytes
gaps_ended zero bytes none = refl
gaps_ended (suc most) bytes none = sym (cond-false (nat_lt 0 (gap_len bytes)) (past_some_gaps most (drop (gap_len bytes) bytes)) bytes (le-ltb 0 (gap_len bytes) none))
