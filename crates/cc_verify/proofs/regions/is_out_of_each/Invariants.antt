use Rattle.std.proofs.Common.{◌≡◌, drop}
use Rattle.cc_verify.specs.Regions.{is_out, each_clause}
use Rattle.cc_verify.proofs.regions.is_out_of_each.Given as goal

abbrev pub invariant-loop-clause : goal.invariant-loop-clause
invariant-loop-clause l = each_clause (is_out l.at) (drop l.clause-index l.clauses) ≡ each_clause (is_out l.at) l.clauses
