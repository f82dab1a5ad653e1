use Rattle.std.proofs.Common.{◌≡◌, drop, map}
use Rattle.cc_template.specs.Counting.{run}
use Rattle.cc_template.specs.Nodes.{joined, named_function_nodes}
use Rattle.cc_template.proofs.room.Room.named_functions.Given as goal

abbrev pub invariant-functions : goal.invariant-functions
invariant-functions l = run (joined (map named_function_nodes (drop l.named-index l.functions))) l.room ≡ run (joined (map named_function_nodes l.initial.functions)) l.initial.room
