use Rattle.std.proofs.Common.{◌≡◌, map, take}
use Rattle.cc_operations.specs.Numbers.{written}
use Rattle.cc_typing.proofs.known.parameter_types.Given as goal

abbrev pub invariant-loop-parameter : goal.invariant-loop-parameter
invariant-loop-parameter l = l.types ≡ map (λ parameter. written parameter.of) (take l.parameter-index l.parameters)
