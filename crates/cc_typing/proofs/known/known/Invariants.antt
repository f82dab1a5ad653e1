use Rattle.std.proofs.Common.{◌≡◌, ◌++◌, drop}
use Rattle.cc_typing.specs.Told.{told_all}
use Rattle.cc_typing_laws.specs.Functions.{known_from}
use Rattle.cc_typing.proofs.known.known.Given as goal

abbrev pub invariant-loop-at : goal.invariant-loop-at
invariant-loop-at l = l.known ++ known_from l.at l.numbers (told_all (drop l.at l.functions)) ≡ known_from 0 l.numbers (told_all l.functions)
