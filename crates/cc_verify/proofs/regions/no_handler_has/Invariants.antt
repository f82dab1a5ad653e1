use Rattle.std.proofs.Common.{◌≡◌, drop}
use Rattle.cc_verify.specs.Regions.{handles_not, each_clause}
use Rattle.cc_verify.proofs.regions.no_handler_has.Given as goal

abbrev pub invariant-loop-clause : goal.invariant-loop-clause
invariant-loop-clause l = each_clause (handles_not l.at) (drop l.clause-index l.clauses) ≡ each_clause (handles_not l.at) l.clauses
