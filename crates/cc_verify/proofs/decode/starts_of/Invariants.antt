use Rattle.std.proofs.Common.{◌≡◌, length, take}
use Rattle.cc_verify.specs.Passes.{AreStarts}
use Rattle.cc_verify.proofs.decode.starts_of.Given as goal

abbrev pub invariant-loop-place : goal.invariant-loop-place
invariant-loop-place l = record {
  starts : AreStarts l.starts.items (take l.place-index l.places);
  long : length l.starts.items ≡ l.size;
}
