use Rattle.std.proofs.Common.{◌≡◌, take, vec_len}
use Rattle.cc_core.specs.Search.{AreMarked, IsAdded}
use Rattle.cc_core.proofs.search.Search.add_all.Given as goal

abbrev pub invariant-loop-class : goal.invariant-loop-class
invariant-loop-class l = record {
  marked : AreMarked l.self.marks.items l.self.found.items;
  same_length : vec_len l.self.marks ≡ vec_len l.initial.self.marks;
  added : IsAdded (take l.class-index l.row) l.initial.self.found.items l.self.found.items;
}
