use Rattle.std.proofs.Common.{◌≡◌, ◌+◌, drop}
use Rattle.cc_image.specs.ImageFaults.{zeros_fault}
use Rattle.cc_image.proofs.bodies.zeros_fault.Given as goal

-- what is left has the first byte that isn't zero
abbrev pub invariant-loop-byte : goal.invariant-loop-byte
invariant-loop-byte l = record {
  reached : l.place ≡ l.at + l.byte-index;
  left : zeros_fault l.at l.bytes ≡ zeros_fault l.place (drop l.byte-index l.bytes);
}
