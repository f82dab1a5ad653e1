use Rattle.std.proofs.Common.{◌∙◌}
use Rattle.cc_operations.proofs.Picking.{picked}
use Rattle.cc_operations.proofs.calls.pick.Goals as goal

pub returns : goal.returns
returns c =
    λ choice chooses parameters arguments e f.
    c.taken.ensures ∙ picked c.args.classes.now c.args.candidates.now c.args.given.now c.args.span c.choose.result c.choose.ensures choice chooses parameters arguments e f
