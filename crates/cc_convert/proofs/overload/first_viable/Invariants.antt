use Rattle.cc_convert.specs.Overloads.{NoneViableBefore}
use Rattle.cc_convert.proofs.overload.first_viable.Given as goal

abbrev pub invariant-loop-at : goal.invariant-loop-at
invariant-loop-at l = NoneViableBefore l.classes l.given l.candidates l.at
