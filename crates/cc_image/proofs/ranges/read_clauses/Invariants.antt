use Rattle.std.proofs.Common.{take}
use Rattle.std.specs.List.{AllByRecursion}
use Rattle.cc_cil.specs.Bodies.{IsClauseInRange}
use Rattle.cc_image.proofs.ranges.read_clauses.Given as goal

abbrev pub invariant-loop-clause : goal.invariant-loop-clause
invariant-loop-clause l = AllByRecursion IsClauseInRange (take l.clause-index l.clauses)
