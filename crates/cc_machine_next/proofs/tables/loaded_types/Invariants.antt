use Rattle.std.proofs.Common.{◌≡◌, take}
use Rattle.cc_execution.specs.Operations.{loaded}
use Rattle.cc_machine_next.proofs.tables.loaded_types.Given as goal

abbrev pub invariant-loop-i : goal.invariant-loop-i
invariant-loop-i l = l.types.items ≡ loaded (take l.i l.parameters)
