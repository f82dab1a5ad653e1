use Rattle.std.proofs.Common.{◌≡◌, drop}
use Rattle.cc_verify.specs.ClassRules.{first_broken}
use Rattle.cc_verify.proofs.class_rules.first_broken.Given as goal

abbrev pub invariant-loop-rule : goal.invariant-loop-rule
invariant-loop-rule l = first_broken l.«module» l.readings (drop l.rule-index l.rules) ≡ first_broken l.«module» l.readings l.rules
