use Rattle.std.proofs.Common.{◌≡◌, drop, map}
use Rattle.cc_names.specs.Statements.{last_of, label_span, piece}
use Rattle.cc_names.proofs.statements.last_label.Given as goal

abbrev pub invariant-loop-label : goal.invariant-loop-label
invariant-loop-label l = last_of l.last (map label_span (drop l.label-index l.labels)) ≡ last_of l.initial.last (map label_span l.labels)
