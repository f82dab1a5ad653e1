use Rattle.std.proofs.Common.{◌≡◌, take}
use Rattle.cc_code.specs.Functions.{signatures_of}
use Rattle.cc_code.proofs.functions.signatures_of.Given as goal

abbrev pub invariant-loop-of : goal.invariant-loop-of
invariant-loop-of l = l.made.items ≡ signatures_of (take l.of-index l.types)
