use Rattle.std.proofs.Common.{◌≡◌, drop, map}
use Rattle.cc_template.specs.Counting.{run}
use Rattle.cc_template.specs.Nodes.{joined, declarator_nodes}
use Rattle.cc_template.proofs.room.Room.declarators.Given as goal

abbrev pub invariant-declarators : goal.invariant-declarators
invariant-declarators l = run (joined (map declarator_nodes (drop l.declarator-index l.declarators))) l.room ≡ run (joined (map declarator_nodes l.initial.declarators)) l.initial.room
