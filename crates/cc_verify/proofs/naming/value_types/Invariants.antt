use Rattle.std.proofs.Common.{◌≡◌, ◌++◌, drop}
use Rattle.cc_verify.specs.Types.{value_types}
use Rattle.cc_verify.proofs.naming.value_types.Given as goal

abbrev pub invariant-loop-one : goal.invariant-loop-one
invariant-loop-one l = l.values ++ value_types (drop l.one-index l.types) ≡ value_types l.types
