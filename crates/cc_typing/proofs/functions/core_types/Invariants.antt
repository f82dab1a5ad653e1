use Rattle.std.proofs.Common.{◌≡◌, map, take}
use Rattle.cc_core.specs.Types.{bare}
use Rattle.cc_operations.specs.Numbers.{core}
use Rattle.cc_typing.proofs.functions.core_types.Given as goal

abbrev pub invariant-loop-of : goal.invariant-loop-of
invariant-loop-of l = map bare l.made ≡ map core (take l.of-index l.types)
