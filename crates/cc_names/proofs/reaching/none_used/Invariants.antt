use Rattle.std.proofs.Common.{◌≡◌, length}
use Rattle.cc_names.specs.Reaching.{unused}
use Rattle.cc_names.proofs.reaching.none_used.Given as goal

abbrev pub invariant-loop-at : goal.invariant-loop-at
invariant-loop-at l = record { size : length l.is_used.items ≡ l.at; free : unused l.is_used.items ≡ l.at }
