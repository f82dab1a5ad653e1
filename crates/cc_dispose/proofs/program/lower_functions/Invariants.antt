use Rattle.std.proofs.Common.{take}
use Rattle.cc_dispose.specs.Lower.{AreLowered}
use Rattle.cc_dispose.proofs.program.lower_functions.Given as goal

abbrev pub invariant-loop-body : goal.invariant-loop-body
invariant-loop-body l = AreLowered (take l.body-index l.bodies) l.functions
