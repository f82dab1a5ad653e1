use Rattle.std.proofs.Common.{◌≡◌, replicate}
use Rattle.std.specs.Prelude.{false}
use Rattle.cc_verify.proofs.decode.no_starts.Given as goal

abbrev pub invariant-loop : goal.invariant-loop
invariant-loop l = l.starts.items ≡ replicate l.counter false
