use Rattle.std.proofs.Common.{◌≡◌, drop, map}
use Rattle.cc_template.specs.Counting.{run}
use Rattle.cc_template.specs.Nodes.{joined, statement_nodes, section_nodes, catches_nodes, catch_parts}
use Rattle.cc_template.proofs.room.Room.+statement.Given as goal

abbrev pub invariant-statements-statements : goal.invariant-statements-statements
invariant-statements-statements l = run (joined (map statement_nodes (drop l.statement-index l.statements))) l.room ≡ run (joined (map statement_nodes l.initial.statements)) l.initial.room

abbrev pub invariant-sections-sections : goal.invariant-sections-sections
invariant-sections-sections l = run (joined (map section_nodes (drop l.section-index l.items))) l.room ≡ run (joined (map section_nodes l.initial.items)) l.initial.room

abbrev pub invariant-catches-catches : goal.invariant-catches-catches
invariant-catches-catches l = run (catches_nodes (map catch_parts (drop l.one-index l.catches))) l.room ≡ run (catches_nodes (map catch_parts l.initial.catches)) l.initial.room
