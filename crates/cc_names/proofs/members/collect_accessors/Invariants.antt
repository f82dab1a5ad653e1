use Rattle.std.proofs.Common.{◌≡◌, drop, map}
use Rattle.cc_names.specs.Parts.{added, in_order}
use Rattle.cc_names.specs.Members.{accessor_declares}
use Rattle.cc_names.proofs.members.collect_accessors.Given as goal

abbrev pub invariant-loop-accessor : goal.invariant-loop-accessor
invariant-loop-accessor l =
    added (in_order (map (accessor_declares l.property) (drop l.accessor-index l.accessors))) l.around l.declared ≡ added (in_order (map (accessor_declares l.property) l.accessors)) l.around l.initial.declared
