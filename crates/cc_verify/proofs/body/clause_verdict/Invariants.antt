use Rattle.std.proofs.Common.{[], take, drop}
use Rattle.std.specs.Prelude.{Option}
use Rattle.cc_verify.specs.declared.places.Broken.{Broken}
use Rattle.cc_verify.specs.Rules.{ClauseVerdict}
use Rattle.cc_verify.proofs.body.clause_verdict.Given as goal

-- what is found of the clauses from here on is found of all
abbrev pub invariant-loop-at : goal.invariant-loop-at
invariant-loop-at l = (verdict : Option Broken) → ClauseVerdict l.method (take l.at l.clauses) (drop l.at l.clauses) verdict → ClauseVerdict l.method [] l.clauses verdict
