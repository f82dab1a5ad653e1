use Rattle.std.proofs.Common.{◌≡◌, take}
use Rattle.cc_operations.specs.Choosing.{given_types}
use Rattle.cc_operations.specs.Judgements.{values_of}
use Rattle.cc_operations.specs.Operations.{types_of}
use Rattle.cc_operations.proofs.calls.types_of.Given as goal

abbrev pub invariant-loop-value : goal.invariant-loop-value
invariant-loop-value l = l.types.items ≡ given_types (types_of (values_of (take l.value-index l.values)))
