use Rattle.std.proofs.Common.{◌≡◌, drop, map}
use Rattle.cc_template.specs.Counting.{run}
use Rattle.cc_template.specs.Nodes.{joined, type_nodes}
use Rattle.cc_template.proofs.room.Room.+types.Given as goal

abbrev pub invariant-type_names-types : goal.invariant-type_names-types
invariant-type_names-types l = run (joined (map type_nodes (drop l.of-index l.types))) l.room ≡ run (joined (map type_nodes l.initial.types)) l.initial.room
