use Rattle.std.proofs.Common.{◌≡◌, ◌++◌, drop}
use Rattle.cc_typing_laws.specs.Functions.{parameters_from}
use Rattle.cc_typing.proofs.known.parameters.Given as goal

abbrev pub invariant-loop-at : goal.invariant-loop-at
invariant-loop-at l = l.variables ++ parameters_from l.at (drop l.at l.parameters) ≡ parameters_from 0 l.parameters
