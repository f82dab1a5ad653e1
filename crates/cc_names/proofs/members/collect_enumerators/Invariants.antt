use Rattle.std.proofs.Common.{◌≡◌, drop, map}
use Rattle.cc_names.specs.Parts.{added, in_order}
use Rattle.cc_names.specs.Members.{enumerator_declares}
use Rattle.cc_names.proofs.members.collect_enumerators.Given as goal

abbrev pub invariant-loop-one : goal.invariant-loop-one
invariant-loop-one l =
    added (in_order (map enumerator_declares (drop l.one-index l.items))) l.around l.declared ≡ added (in_order (map enumerator_declares l.items)) l.around l.initial.declared
