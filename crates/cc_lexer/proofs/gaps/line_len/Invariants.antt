use Rattle.std.proofs.Common.{◌≡◌, ◌+◌, ◌-◌, ◌≤◌, length, drop}
use Rattle.std.specs.List.{prefix_len}
use Rattle.cc_tree.specs.Gaps.{is_on_line}
use Rattle.cc_lexer.proofs.gaps.line_len.Given as goal

abbrev pub invariant-bytes : goal.invariant-bytes
invariant-bytes l = (l.end + prefix_len is_on_line (drop l.end l.bytes) ≡ prefix_len is_on_line l.bytes) × (l.end ≤ length l.bytes)

abbrev pub decreases-bytes : goal.decreases-bytes
decreases-bytes l = length l.bytes - l.end
