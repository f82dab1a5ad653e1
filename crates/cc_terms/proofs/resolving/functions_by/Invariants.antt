use Rattle.std.proofs.Common.{◌≡◌, take}
use Rattle.cc_terms.specs.Resolving.{those, comes_by}
use Rattle.cc_terms.proofs.resolving.functions_by.Given as goal

abbrev pub invariant-loop-place : goal.invariant-loop-place
invariant-loop-place l = l.places ≡ those (comes_by l.directed l.at l.name) (take l.place l.functions)
