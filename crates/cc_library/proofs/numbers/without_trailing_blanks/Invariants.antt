use Rattle.std.proofs.Common.{◌≡◌, ◌+◌, ◌≤◌, length, take}
use Rattle.std.specs.List.{suffix_len}
use Rattle.cc_library.specs.Numerals.{is_blank}
use Rattle.cc_library.proofs.numbers.without_trailing_blanks.Given as goal

abbrev pub invariant-loop-past : goal.invariant-loop-past
invariant-loop-past l = record {
  within : l.past ≤ length l.text;
  so_far : l.past + suffix_len is_blank l.text ≡ length l.text + suffix_len is_blank (take l.past l.text);
}

abbrev pub decreases-loop-past : goal.decreases-loop-past
decreases-loop-past l = l.past
