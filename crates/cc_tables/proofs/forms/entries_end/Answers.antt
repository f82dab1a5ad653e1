use Rattle.cc_tables.specs.Forms.{form_of}
use Rattle.cc_tables.proofs.Forming.{met_more}
use Rattle.cc_tables.proofs.forms.entries_end.Goals as goal

pub loop-after-preserved : goal.loop-after-preserved
loop-after-preserved c = met_more (form_of c.args.kind) c.args.stream.now c.loop-after.rest.now c.in-Some.after.now _ c.loop-after.invariant c.in-Some.ensures.some.0 c.in-Some.ensures.some.1
