use Rattle.std.proofs.Common.{◌≡◌, drop, map}
use Rattle.cc_template.specs.Counting.{run}
use Rattle.cc_template.specs.Nodes.{joined, expression_nodes}
use Rattle.cc_template.proofs.room.Room.+expression.Given as goal

abbrev pub invariant-expressions-expressions : goal.invariant-expressions-expressions
invariant-expressions-expressions l = run (joined (map expression_nodes (drop l.expression-index l.expressions))) l.room ≡ run (joined (map expression_nodes l.initial.expressions)) l.initial.room
