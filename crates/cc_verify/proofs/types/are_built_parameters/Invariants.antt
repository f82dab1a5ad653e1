use Rattle.std.proofs.Common.{◌≡◌, drop}
use Rattle.cc_verify.specs.Types.{are_built_parameters}
use Rattle.cc_verify.proofs.types.are_built_parameters.Given as goal

abbrev pub invariant-loop-one : goal.invariant-loop-one
invariant-loop-one l = are_built_parameters (drop l.one-index l.types) ≡ are_built_parameters l.types
