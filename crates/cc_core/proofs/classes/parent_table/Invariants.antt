use Rattle.std.proofs.Common.{◌≡◌, map, take}
use Rattle.cc_core.specs.Classes.{parents}
use Rattle.cc_core.proofs.classes.parent_table.Given as goal

abbrev pub invariant-loop-class : goal.invariant-loop-class
invariant-loop-class l = l.table.items ≡ map parents (take l.class-index l.classes)
