use Rattle.std.proofs.Common.{◌≡◌, drop, map}
use Rattle.cc_template.specs.Counting.{run}
use Rattle.cc_template.specs.Nodes.{joined, modifier_nodes}
use Rattle.cc_template.proofs.room.Room.modifiers.Given as goal

abbrev pub invariant-modifiers : goal.invariant-modifiers
invariant-modifiers l = run (joined (map modifier_nodes (drop l.modifier-index l.modifiers))) l.room ≡ run (joined (map modifier_nodes l.initial.modifiers)) l.initial.room
