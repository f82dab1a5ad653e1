use Rattle.std.proofs.Common.{◌≡◌, ◌⊎◌, ◌≤◌, ◌<◌, ℕ, Some, length, take}
use Rattle.std.specs.Prelude.{slice_get}
use Rattle.cc_names.specs.Reaching.{In}
use Rattle.cc_names.proofs.Searching.{Kept, Added, Only}
use Rattle.cc_names.proofs.reaching.Reached.add.Given as goal

abbrev pub invariant-loop-number : goal.invariant-loop-number
invariant-loop-number l = record {
  size : length l.self.is_used.items ≡ length l.initial.self.is_used.items;
  kept : Kept l.initial.self.order.items l.self.order.items;
  added : Added (take l.number-index l.numbers) (length l.initial.self.is_used.items) l.self.order.items;
  only : Only (take l.number-index l.numbers) l.initial.self.order.items l.self.order.items;
}
