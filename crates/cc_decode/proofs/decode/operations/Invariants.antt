use Rattle.std.proofs.Common.{◌≤◌, ◌-◌, length}
use Rattle.cc_decode.proofs.Decoding.{Leads}
use Rattle.cc_decode.proofs.decode.operations.Given as goal

abbrev pub invariant-loop-at : goal.invariant-loop-at
invariant-loop-at l = record {
  within : l.at ≤ length l.code;
  leads : Leads l.members l.variables l.code l.found l.at;
}

abbrev pub decreases-loop-at : goal.decreases-loop-at
decreases-loop-at l = length l.code - l.at
