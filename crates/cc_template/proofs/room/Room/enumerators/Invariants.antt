use Rattle.std.proofs.Common.{◌≡◌, drop, map}
use Rattle.cc_template.specs.Counting.{run}
use Rattle.cc_template.specs.Nodes.{joined, enumerator_nodes}
use Rattle.cc_template.proofs.room.Room.enumerators.Given as goal

abbrev pub invariant-enumerators : goal.invariant-enumerators
invariant-enumerators l = run (joined (map enumerator_nodes (drop l.enumerator-index l.enumerators))) l.room ≡ run (joined (map enumerator_nodes l.initial.enumerators)) l.initial.room
