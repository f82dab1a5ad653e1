use Rattle.std.proofs.Common.{◌≡◌, drop, map}
use Rattle.cc_template.specs.Counting.{run}
use Rattle.cc_template.specs.Nodes.{joined, base_nodes}
use Rattle.cc_template.proofs.room.Room.bases.Given as goal

abbrev pub invariant-bases : goal.invariant-bases
invariant-bases l = run (joined (map base_nodes (drop l.base-index l.bases))) l.room ≡ run (joined (map base_nodes l.initial.bases)) l.initial.room
