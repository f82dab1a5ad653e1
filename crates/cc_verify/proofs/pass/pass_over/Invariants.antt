use Rattle.cc_verify.proofs.Passing.{IsPassing}
use Rattle.cc_verify.proofs.pass.pass_over.Given as goal

abbrev pub invariant-loop-place : goal.invariant-loop-place
invariant-loop-place l = IsPassing l.method l.end l.known.items l.fallen l.place-index
