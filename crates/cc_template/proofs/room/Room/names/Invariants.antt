use Rattle.std.proofs.Common.{◌≡◌, drop}
use Rattle.cc_template.specs.Counting.{counting}
use Rattle.cc_template.specs.Nodes.{names_count}
use Rattle.cc_template.proofs.room.Room.names.Given as goal

abbrev pub invariant-names : goal.invariant-names
invariant-names l = counting l.span (names_count (drop l.name-index l.names)) l.room ≡ counting l.initial.span (names_count l.initial.names) l.initial.room
