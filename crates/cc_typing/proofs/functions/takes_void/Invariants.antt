use Rattle.std.proofs.Common.{◌≡◌, map, drop}
use Rattle.std.specs.List.{list_any}
use Rattle.cc_operations.specs.Numbers.{is_void, written}
use Rattle.cc_typing.proofs.functions.takes_void.Given as goal

abbrev pub invariant-loop-parameter : goal.invariant-loop-parameter
invariant-loop-parameter l = list_any is_void (map (λ parameter. written parameter.of) (drop l.parameter-index l.parameters)) ≡ list_any is_void (map (λ parameter. written parameter.of) l.parameters)
