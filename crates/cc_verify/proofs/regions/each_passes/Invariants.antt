use Rattle.std.proofs.Common.{◌≡◌, drop}
use Rattle.cc_verify.specs.Regions.{may_pass, each_clause}
use Rattle.cc_verify.proofs.regions.each_passes.Given as goal

abbrev pub invariant-loop-clause : goal.invariant-loop-clause
invariant-loop-clause l = each_clause (may_pass l.from l.to) (drop l.clause-index l.clauses) ≡ each_clause (may_pass l.from l.to) l.clauses
