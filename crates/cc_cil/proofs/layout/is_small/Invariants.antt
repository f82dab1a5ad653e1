use Rattle.std.proofs.Common.{◌≡◌, drop}
use Rattle.cc_cil.specs.Bodies.{each_is_small}
use Rattle.cc_cil.proofs.layout.is_small.Given as goal

-- the clauses before are small
abbrev pub invariant-loop-clause : goal.invariant-loop-clause
invariant-loop-clause l = each_is_small l.clauses ≡ each_is_small (drop l.clause-index l.clauses)
