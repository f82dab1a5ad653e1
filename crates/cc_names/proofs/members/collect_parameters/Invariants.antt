use Rattle.std.proofs.Common.{◌≡◌, drop, map}
use Rattle.cc_names.specs.Parts.{added, in_order}
use Rattle.cc_names.specs.Members.{parameter_declares}
use Rattle.cc_names.proofs.members.collect_parameters.Given as goal

abbrev pub invariant-loop-parameter : goal.invariant-loop-parameter
invariant-loop-parameter l =
    added (in_order (map parameter_declares (drop l.parameter-index l.parameter-items))) l.around l.declared ≡ added (in_order (map parameter_declares l.parameter-items)) l.around l.initial.declared
