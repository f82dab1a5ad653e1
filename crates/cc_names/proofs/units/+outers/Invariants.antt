use Rattle.std.proofs.Common.{◌≡◌, drop, map}
use Rattle.cc_names.specs.Parts.{added, in_order}
use Rattle.cc_names.specs.Units.{outer_declares}
use Rattle.cc_names.proofs.units.+outers.Given as goal

abbrev pub invariant-collect_outers-loop-outer : goal.invariant-collect_outers-loop-outer
invariant-collect_outers-loop-outer l =
    added (in_order (map outer_declares (drop l.outer-index l.outers))) l.around l.declared ≡ added (in_order (map outer_declares l.outers)) l.around l.initial.declared
