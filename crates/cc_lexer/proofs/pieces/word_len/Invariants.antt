use Rattle.std.proofs.Common.{◌≡◌, ◌+◌, ◌-◌, ◌≤◌, length, drop}
use Rattle.std.specs.List.{prefix_len}
use Rattle.cc_tree.specs.Digits.{is_word_byte}
use Rattle.cc_lexer.proofs.pieces.word_len.Given as goal

abbrev pub invariant-bytes : goal.invariant-bytes
invariant-bytes l = (l.end + prefix_len is_word_byte (drop l.end l.bytes) ≡ prefix_len is_word_byte l.bytes) × (l.end ≤ length l.bytes)

abbrev pub decreases-bytes : goal.decreases-bytes
decreases-bytes l = length l.bytes - l.end
