use Rattle.std.proofs.Common.{◌≡◌, drop}
use Rattle.cc_verify.specs.Regions.{innermost_handler}
use Rattle.cc_verify.proofs.regions.innermost_handler.Given as goal

abbrev pub invariant-loop-clause : goal.invariant-loop-clause
invariant-loop-clause l = innermost_handler (drop l.clause-index l.clauses) l.at ≡ innermost_handler l.clauses l.at
