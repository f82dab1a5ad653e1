use Rattle.std.proofs.Common.{◌≡◌, drop, map}
use Rattle.cc_template.specs.Counting.{counting}
use Rattle.cc_template.specs.Nodes.{parameters_count}
use Rattle.cc_template.proofs.room.Room.parameter_names.Given as goal

abbrev pub invariant-parameters : goal.invariant-parameters
invariant-parameters l = counting l.span (parameters_count (drop l.parameter-index l.parameters)) l.room ≡ counting l.initial.span (parameters_count l.initial.parameters) l.initial.room
