use Rattle.std.proofs.Common.{◌≡◌, drop}
use Rattle.cc_verify.specs.Transitions.{are_built}
use Rattle.cc_verify.proofs.effects.are_built.Given as goal

abbrev pub invariant-loop-variable : goal.invariant-loop-variable
invariant-loop-variable l = are_built (drop l.variable-index l.types) ≡ are_built l.types
