use Rattle.std.proofs.Common.{◌≡◌, drop, map}
use Rattle.cc_names.specs.Parts.{added, in_order}
use Rattle.cc_names.specs.Members.{member_declares}
use Rattle.cc_names.proofs.members.collect_members.Given as goal

abbrev pub invariant-loop-member : goal.invariant-loop-member
invariant-loop-member l =
    added (in_order (map member_declares (drop l.member-index l.members))) l.around l.declared ≡ added (in_order (map member_declares l.members)) l.around l.initial.declared
