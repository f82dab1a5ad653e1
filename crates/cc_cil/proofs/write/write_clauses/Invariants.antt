use Rattle.std.proofs.Common.{◌≡◌, ◌++◌, take}
use Rattle.std.specs.List.{flat_map}
use Rattle.cc_layout.specs.Layout.{bytes_of}
use Rattle.cc_cil.specs.Bodies.{clause_layout}
use Rattle.cc_cil.proofs.write.write_clauses.Given as goal

-- the clauses before are written
abbrev pub invariant-loop-clause : goal.invariant-loop-clause
invariant-loop-clause l = l.into.items ≡ l.fn.into.items ++ bytes_of (flat_map (clause_layout l.small) (take l.clause-index l.clauses))
