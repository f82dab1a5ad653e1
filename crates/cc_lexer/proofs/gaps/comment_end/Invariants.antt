use Rattle.std.proofs.Common.{◌≡◌, ◌+◌, length}
use Rattle.cc_tree.specs.Gaps.{comment_end}
use Rattle.cc_lexer.proofs.gaps.comment_end.Given as goal

-- the end of the comment, found from the rest on, is that found from the start
abbrev pub invariant-bytes : goal.invariant-bytes
invariant-bytes l = (comment_end l.at l.rest ≡ comment_end l.first l.bytes) × (l.at + length l.rest ≡ l.first + length l.bytes)

abbrev pub decreases-bytes : goal.decreases-bytes
decreases-bytes l = length l.rest
