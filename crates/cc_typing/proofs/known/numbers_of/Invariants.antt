use Rattle.std.proofs.Common.{◌≡◌, ◌++◌, drop}
use Rattle.cc_typing_laws.specs.Functions.{numbers_from}
use Rattle.cc_typing.proofs.known.numbers_of.Given as goal

abbrev pub invariant-loop-at : goal.invariant-loop-at
invariant-loop-at l = l.numbers ++ numbers_from l.at (drop l.at l.items) ≡ numbers_from 0 l.items
