use Rattle.std.proofs.Common.{◌≡◌, take}
use Rattle.cc_operations.specs.Choosing.{given_types}
use Rattle.cc_operations.proofs.calls.core_types.Given as goal

abbrev pub invariant-loop-of : goal.invariant-loop-of
invariant-loop-of l = l.made.items ≡ given_types (take l.of-index l.types)
