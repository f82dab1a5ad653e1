use Rattle.std.proofs.Common.{◌≡◌, drop, map}
use Rattle.cc_template.specs.Counting.{counting}
use Rattle.cc_template.specs.Nodes.{catches_count, catch_parts}
use Rattle.cc_template.proofs.room.Room.caught_names.Given as goal

abbrev pub invariant-catches : goal.invariant-catches
invariant-catches l = counting l.span (catches_count (map catch_parts (drop l.one-index l.catches))) l.room ≡ counting l.initial.span (catches_count (map catch_parts l.initial.catches)) l.initial.room
