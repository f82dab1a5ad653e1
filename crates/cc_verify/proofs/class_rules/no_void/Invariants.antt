use Rattle.std.proofs.Common.{◌≡◌, drop}
use Rattle.cc_verify.specs.ClassRules.{no_void}
use Rattle.cc_verify.proofs.class_rules.no_void.Given as goal

abbrev pub invariant-loop-one : goal.invariant-loop-one
invariant-loop-one l = no_void (drop l.one-index l.types) ≡ no_void l.types
