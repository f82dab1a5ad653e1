use Rattle.std.proofs.Common.{◌≡◌, sum_by, take, length}
use Rattle.cc_core.proofs.classes.count_fields.Given as goal

abbrev pub invariant-loop-class : goal.invariant-loop-class
invariant-loop-class l = l.sum ≡ sum_by (λ class. length class.fields) (take l.class-index l.classes)
