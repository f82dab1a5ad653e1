use Rattle.std.proofs.Common.{◌≡◌, drop, reverse}
use Rattle.cc_core.specs.Lists.{terms_of}
use Rattle.cc_operations.specs.Judgements.{values_of}
use Rattle.cc_operations.specs.Operations.{passed}
use Rattle.cc_operations.proofs.Arguments.{behind}
use Rattle.cc_operations.proofs.calls.passed.Given as goal

abbrev pub invariant-loop-of : goal.invariant-loop-of
invariant-loop-of l = behind (terms_of l.made) (passed (drop l.of-index l.types) (values_of (reverse l.rest))) ≡ passed l.types (values_of l.fn.values)
