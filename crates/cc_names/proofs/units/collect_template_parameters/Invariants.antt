use Rattle.std.proofs.Common.{◌≡◌, drop, map}
use Rattle.cc_names.specs.Parts.{added, in_order}
use Rattle.cc_names.specs.Units.{template_parameter_declares}
use Rattle.cc_names.proofs.units.collect_template_parameters.Given as goal

abbrev pub invariant-loop-one : goal.invariant-loop-one
invariant-loop-one l =
    added (in_order (map template_parameter_declares (drop l.one-index l.parameters))) l.around l.declared ≡ added (in_order (map template_parameter_declares l.parameters)) l.around l.initial.declared
