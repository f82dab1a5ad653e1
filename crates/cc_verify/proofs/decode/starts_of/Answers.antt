use Rattle.std.proofs.Common.{ap, ◌∙◌, length, length-set}
use Rattle.std.proofs.lemmas.List.{length-replicate}
use Rattle.cc_verify.proofs.Starts.{starts_empty, starts_on}
use Rattle.cc_verify.proofs.decode.starts_of.Goals as goal

pub loop-place-init : goal.loop-place-init
loop-place-init c = record {
  starts = starts_empty _ _ c.in_ok-starts.ensures;
  long = ap length c.in_ok-starts.ensures ∙ length-replicate _ _;
}

pub loop-place-preserved : goal.loop-place-preserved
loop-place-preserved c =
    let inv = c.loop-place.invariant in
    record {
      starts = starts_on _ c.args.places.now c.loop-place.place-index _ c.args.size c.loop-place-test.true c.requires inv.long inv.starts;
      long = length-set _ _ _ ∙ inv.long;
    }
