use Rattle.std.proofs.Common.{◌≡◌, ◌+◌, ◌-◌, ◌≤◌, length, drop}
use Rattle.std.specs.List.{prefix_len}
use Rattle.cc_library.specs.Numerals.{is_blank}
use Rattle.cc_library.proofs.numbers.without_leading_blanks.Given as goal

abbrev pub invariant-loop-first : goal.invariant-loop-first
invariant-loop-first l = record {
  within : l.first ≤ length l.text;
  so_far : l.first + prefix_len is_blank (drop l.first l.text) ≡ prefix_len is_blank l.text;
}

abbrev pub decreases-loop-first : goal.decreases-loop-first
decreases-loop-first l = length l.text - l.first
