use Rattle.std.proofs.Common.{◌≡◌, ◌++◌, drop}
use Rattle.cc_verify.specs.Types.{some_types}
use Rattle.cc_verify.proofs.naming.some_types.Given as goal

abbrev pub invariant-loop-one : goal.invariant-loop-one
invariant-loop-one l = l.some ++ some_types (drop l.one-index l.types) ≡ some_types l.types
