use Rattle.std.proofs.Common.{◌≡◌, ◌+◌, ◌++◌, ◌≤◌, length, drop}
use Rattle.cc_image.specs.ImageFaults.{FIRST_BODY_AT, first, bodies_in, bodies_end, gaps_fault, bodies_fault}
use Rattle.cc_image.proofs.bodies.read_bodies.Given as goal

-- what is read so far and what is left make the whole
abbrev pub invariant-loop-method : goal.invariant-loop-method
invariant-loop-method l = record {
  rows : l.row ≡ l.method-index;
  within : l.done.end ≤ length l.bytes;
  items : bodies_in FIRST_BODY_AT l.methods l.bytes ≡ l.done.items ++ bodies_in l.done.end (drop l.method-index l.methods) l.bytes;
  end : bodies_end FIRST_BODY_AT l.methods l.bytes ≡ bodies_end l.done.end (drop l.method-index l.methods) l.bytes;
  gap : gaps_fault FIRST_BODY_AT l.methods l.bytes ≡ first l.done.gap (gaps_fault l.done.end (drop l.method-index l.methods) l.bytes);
  fault : bodies_fault 1 FIRST_BODY_AT l.methods l.bytes ≡ bodies_fault (l.row + 1) l.done.end (drop l.method-index l.methods) l.bytes;
}
