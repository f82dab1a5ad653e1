use Rattle.std.proofs.Common.{◌≡◌, ℕ, ◌≤◌, length}
use Rattle.cc_tree.specs.Gaps.{past_some_gaps}
use Rattle.cc_lexer.proofs.gaps.past_gaps.Given as goal

-- behind the gaps of the rest stands what stands behind those of the whole
abbrev pub invariant-gaps : goal.invariant-gaps
invariant-gaps l = (length l.rest ≤ length l.bytes) × (most : ℕ) × (length l.rest ≤ most) × (past_some_gaps most l.rest ≡ past_some_gaps (length l.bytes) l.bytes)

abbrev pub decreases-gaps : goal.decreases-gaps
decreases-gaps l = length l.rest
