use Rattle.std.proofs.Common.{◌≡◌, length}
use Rattle.cc_names.specs.Reaching.{Searched}
use Rattle.cc_names.specs.Spaces.{ways}
use Rattle.cc_names.proofs.known.Ways.leads.Given as goal

abbrev pub invariant-loop-at : goal.invariant-loop-at
invariant-loop-at l = record { size : length l.reached.is_used.items ≡ l.count; searched : Searched (ways l.self) l.fn.from l.to l.reached.order.items l.at }
