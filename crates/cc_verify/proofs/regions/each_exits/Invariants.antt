use Rattle.std.proofs.Common.{◌≡◌, drop}
use Rattle.cc_verify.specs.Regions.{may_exit, each_clause}
use Rattle.cc_verify.proofs.regions.each_exits.Given as goal

abbrev pub invariant-loop-clause : goal.invariant-loop-clause
invariant-loop-clause l = each_clause (may_exit l.from l.to) (drop l.clause-index l.clauses) ≡ each_clause (may_exit l.from l.to) l.clauses
