use Rattle.std.proofs.Common.{◌≡◌, drop}
use Rattle.cc_verify.specs.ClassRules.{name_caught}
use Rattle.cc_verify.proofs.class_rules.name_caught.Given as goal

abbrev pub invariant-loop-clause : goal.invariant-loop-clause
invariant-loop-clause l = name_caught l.«module» (drop l.clause-index l.clauses) ≡ name_caught l.«module» l.clauses
