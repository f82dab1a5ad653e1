use Rattle.std.proofs.Common.{◌≡◌, drop, map}
use Rattle.cc_forms.specs.Forms.{first_of, label_form}
use Rattle.cc_forms.proofs.statements.labels.Given as goal

abbrev pub invariant-labels : goal.invariant-labels
invariant-labels l = first_of (map label_form (drop l.label-index l.labels)) ≡ first_of (map label_form l.initial.labels)
