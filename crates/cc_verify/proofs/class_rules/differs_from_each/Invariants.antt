use Rattle.std.proofs.Common.{◌≡◌, drop}
use Rattle.cc_verify.specs.ClassRules.{differs_from_each}
use Rattle.cc_verify.proofs.class_rules.differs_from_each.Given as goal

abbrev pub invariant-loop-other : goal.invariant-loop-other
invariant-loop-other l = differs_from_each l.row (drop l.other-index l.before) ≡ differs_from_each l.row l.before
