use Rattle.std.proofs.Common.{◌≡◌, ◌-◌, length, vec_len}
use Rattle.cc_core.specs.Search.{AreMarked}
use Rattle.cc_core.proofs.Found.{IsSearched}
use Rattle.cc_core.proofs.search.reached_from.Given as goal

abbrev pub invariant-loop-at : goal.invariant-loop-at
invariant-loop-at l = record {
  marked : AreMarked l.search.marks.items l.search.found.items;
  same_length : vec_len l.search.marks ≡ length l.steps;
  searched : IsSearched l.steps l.fn.from l.search.found.items l.at;
}

abbrev pub decreases-loop-at : goal.decreases-loop-at
decreases-loop-at l = length l.steps - l.at
