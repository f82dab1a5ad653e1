use Rattle.std.proofs.Common.{◌≡◌, drop, map}
use Rattle.cc_template.specs.Counting.{run}
use Rattle.cc_template.specs.Nodes.{joined, member_initializer_nodes}
use Rattle.cc_template.proofs.room.Room.member_initializers.Given as goal

abbrev pub invariant-initializers : goal.invariant-initializers
invariant-initializers l = run (joined (map member_initializer_nodes (drop l.initializer-index l.initializers))) l.room ≡ run (joined (map member_initializer_nodes l.initial.initializers)) l.initial.room
