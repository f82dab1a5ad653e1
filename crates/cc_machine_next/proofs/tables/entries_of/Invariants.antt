use Rattle.std.proofs.Common.{◌-◌, length, drop}
use Rattle.cc_machine_next.specs.Tables.{AreEntries}
use Rattle.cc_machine_next.proofs.tables.entries_of.Given as goal

abbrev pub invariant-loop-k : goal.invariant-loop-k
invariant-loop-k l = AreEntries (drop (length l.operations - l.k) l.operations) l.entries.items
