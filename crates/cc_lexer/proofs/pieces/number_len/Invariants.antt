use Rattle.std.proofs.Common.{◌≡◌, ◌+◌, ◌-◌, ◌≤◌, length, drop}
use Rattle.std.specs.List.{prefix_len}
use Rattle.cc_tree.specs.Pieces.{is_number_byte}
use Rattle.cc_lexer.proofs.pieces.number_len.Given as goal

abbrev pub invariant-bytes : goal.invariant-bytes
invariant-bytes l = (l.end + prefix_len is_number_byte (drop l.end l.bytes) ≡ prefix_len is_number_byte l.bytes) × (l.end ≤ length l.bytes)

abbrev pub decreases-bytes : goal.decreases-bytes
decreases-bytes l = length l.bytes - l.end
