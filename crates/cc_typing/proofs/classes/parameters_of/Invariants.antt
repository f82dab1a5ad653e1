use Rattle.std.proofs.Common.{◌≡◌, map, take}
use Rattle.cc_operations.specs.Numbers.{core_type, written}
use Rattle.cc_typing.proofs.classes.parameters_of.Given as goal

abbrev pub invariant-loop-parameter : goal.invariant-loop-parameter
invariant-loop-parameter l = l.types ≡ map core_type (map (λ parameter. written parameter.of) (take l.parameter-index l.parameters))
