use Rattle.std.proofs.Common.{◌≡◌, drop, map}
use Rattle.cc_template.specs.Counting.{run}
use Rattle.cc_template.specs.Nodes.{joined, label_nodes}
use Rattle.cc_template.proofs.room.Room.labels.Given as goal

abbrev pub invariant-labels : goal.invariant-labels
invariant-labels l = run (joined (map label_nodes (drop l.label-index l.labels))) l.room ≡ run (joined (map label_nodes l.initial.labels)) l.initial.room
