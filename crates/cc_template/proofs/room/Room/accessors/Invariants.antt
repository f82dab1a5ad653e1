use Rattle.std.proofs.Common.{◌≡◌, drop, map}
use Rattle.cc_template.specs.Counting.{run}
use Rattle.cc_template.specs.Nodes.{joined, accessor_nodes}
use Rattle.cc_template.proofs.room.Room.accessors.Given as goal

abbrev pub invariant-accessors : goal.invariant-accessors
invariant-accessors l = run (joined (map accessor_nodes (drop l.accessor-index l.accessors))) l.room ≡ run (joined (map accessor_nodes l.initial.accessors)) l.initial.room
