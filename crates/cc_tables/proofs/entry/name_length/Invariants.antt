use Rattle.std.proofs.Common.{◌≡◌, ◌<◌, take}
use Rattle.std.specs.List.{AllByRecursion}
use Rattle.cc_tables.proofs.entry.name_length.Given as goal

-- no zero so far
abbrev pub invariant-loop-byte : goal.invariant-loop-byte
invariant-loop-byte l = record {
  at : l.length ≡ l.byte-index;
  filled : AllByRecursion (λ byte. 0 < byte) (take l.byte-index l.bytes);
}
