use Rattle.std.proofs.Common.{◌≡◌, map, take}
use Rattle.cc_operations.specs.Choosing.{signatures_of}
use Rattle.cc_operations.specs.Operations.{parameters_at}
use Rattle.cc_operations.proofs.calls.signatures_at.Given as goal

abbrev pub invariant-loop-at : goal.invariant-loop-at
invariant-loop-at l = l.made.items ≡ signatures_of (map (parameters_at l.functions) (take l.at-index l.places))
