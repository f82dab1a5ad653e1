use Rattle.std.proofs.Common.{◌≡◌, ◌++◌, take}
use Rattle.cc_listing.specs.Bodies.{clause_lines}
use Rattle.cc_listing.proofs.clauses.list_clauses.Given as goal

abbrev pub invariant-loop-clause : goal.invariant-loop-clause
invariant-loop-clause l = l.into.items ≡ l.initial.into.items ++ clause_lines (take l.clause-index l.clauses)
