use Rattle.std.proofs.Common.{◌≡◌, ◌+◌, ◌-◌}
use Rattle.cc_verify.specs.ClassRules.{keeps, first_bad, first_bad_from}
use Rattle.cc_verify.proofs.class_rules.first_bad.Given as goal

abbrev pub invariant-loop-before : goal.invariant-loop-before
invariant-loop-before l = first_bad_from (keeps l.«module» l.readings l.check) (l.before + 1) (l.count - l.before) ≡ first_bad (keeps l.«module» l.readings l.check) l.count
