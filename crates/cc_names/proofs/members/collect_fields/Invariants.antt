use Rattle.std.proofs.Common.{◌≡◌, drop, map}
use Rattle.cc_names.specs.Parts.{added, in_order}
use Rattle.cc_names.specs.Members.{field_declares}
use Rattle.cc_names.proofs.members.collect_fields.Given as goal

abbrev pub invariant-loop-name : goal.invariant-loop-name
invariant-loop-name l =
    added (in_order (map field_declares (drop l.name-index l.names))) l.around l.declared ≡ added (in_order (map field_declares l.names)) l.around l.initial.declared
