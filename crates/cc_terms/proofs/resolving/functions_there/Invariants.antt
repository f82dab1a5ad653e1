use Rattle.std.proofs.Common.{◌≡◌, take}
use Rattle.cc_terms.specs.Resolving.{those, stands_there}
use Rattle.cc_terms.proofs.resolving.functions_there.Given as goal

abbrev pub invariant-loop-at : goal.invariant-loop-at
invariant-loop-at l = l.places ≡ those (stands_there l.path l.name) (take l.at l.functions)
