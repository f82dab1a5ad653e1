use Rattle.std.proofs.Common.{◌≡◌, ℕ, List, take}
use Rattle.cc_names.specs.Index.{numbers_under}
use Rattle.cc_names.specs.Keys.{places}
use Rattle.cc_names.proofs.keys.numbers_of.Given as goal

abbrev pub invariant-loop-at : goal.invariant-loop-at
invariant-loop-at l = (key : List ℕ) → numbers_under l.numbers key ≡ places (take l.at l.keys) key
