use Rattle.std.proofs.Common.{◌≡◌, drop}
use Rattle.cc_template.specs.Counting.{counting}
use Rattle.cc_template.specs.Nodes.{braces}
use Rattle.cc_template.proofs.room.Room.braces.Given as goal

abbrev pub invariant-texts : goal.invariant-texts
invariant-texts l = counting l.span (braces (drop l.text-index l.texts)) l.room ≡ counting l.initial.span (braces l.initial.texts) l.initial.room
