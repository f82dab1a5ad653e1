use Rattle.std.proofs.Common.{◌≡◌, drop}
use Rattle.cc_verify.specs.Regions.{ends_handler}
use Rattle.cc_verify.proofs.regions.ends_handler.Given as goal

abbrev pub invariant-loop-clause : goal.invariant-loop-clause
invariant-loop-clause l = ends_handler (drop l.clause-index l.clauses) l.at ≡ ends_handler l.clauses l.at
