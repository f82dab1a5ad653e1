use Rattle.std.proofs.Common.{◌≡◌, map, take}
use Rattle.cc_operations.specs.Choosing.{signatures_of}
use Rattle.cc_operations.proofs.calls.signatures_in.Given as goal

abbrev pub invariant-loop-row : goal.invariant-loop-row
invariant-loop-row l = l.made.items ≡ signatures_of (map (λ row. row.1.now) (take l.row-index l.rows))
