use Rattle.std.proofs.Common.{◌≡◌, ◌≤◌, ℕ, List, take, length}
use Rattle.cc_names.specs.Index.{numbers_under}
use Rattle.cc_names.specs.Lookup.{named}
use Rattle.cc_names.proofs.index.index.Given as goal

abbrev pub invariant-loop-at : goal.invariant-loop-at
invariant-loop-at l = (name : List ℕ) → numbers_under l.numbers name ≡ named (take l.at l.items) name
