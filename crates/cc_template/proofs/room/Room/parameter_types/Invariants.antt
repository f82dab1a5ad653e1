use Rattle.std.proofs.Common.{◌≡◌, drop, map}
use Rattle.cc_template.specs.Counting.{run}
use Rattle.cc_template.specs.Nodes.{joined, parameter_nodes}
use Rattle.cc_template.proofs.room.Room.parameter_types.Given as goal

abbrev pub invariant-parameters : goal.invariant-parameters
invariant-parameters l = run (joined (map parameter_nodes (drop l.parameter-index l.parameters))) l.room ≡ run (joined (map parameter_nodes l.initial.parameters)) l.initial.room
