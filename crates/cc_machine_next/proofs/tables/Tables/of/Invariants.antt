use Rattle.std.proofs.Common.{take}
use Rattle.cc_machine_next.proofs.Tabling.{Match}
use Rattle.cc_machine_next.proofs.tables.Tables.of.Given as goal

abbrev pub invariant-loop-method : goal.invariant-loop-method
invariant-loop-method l = Match (take l.method-index l.code.methods) l.methods.items
