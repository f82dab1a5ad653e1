use Rattle.std.proofs.Common.{◌≡◌, map, take}
use Rattle.cc_core.specs.Classes.{parts}
use Rattle.cc_core.proofs.classes.part_table.Given as goal

abbrev pub invariant-loop-class : goal.invariant-loop-class
invariant-loop-class l = l.table.items ≡ map parts (take l.class-index l.classes)
