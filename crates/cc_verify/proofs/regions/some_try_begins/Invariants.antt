use Rattle.std.proofs.Common.{◌≡◌, drop}
use Rattle.cc_verify.specs.Regions.{begins_try, some_clause}
use Rattle.cc_verify.proofs.regions.some_try_begins.Given as goal

abbrev pub invariant-loop-clause : goal.invariant-loop-clause
invariant-loop-clause l = some_clause (begins_try l.at) (drop l.clause-index l.clauses) ≡ some_clause (begins_try l.at) l.clauses
