use Rattle.std.proofs.Common.{◌∙◌, refl}
use Rattle.std.proofs.lemmas.List.{at_drop_all}
use Rattle.cc_table.specs.Choice.{choose, seen}
use Rattle.cc_table.proofs.Choose.{chosen, passed}
use Rattle.cc_table.proofs.choice.choose.Goals as goal

pub loop-row-init : goal.loop-row-init
loop-row-init c = refl

pub returns-then-accepts_one : goal.returns-then-accepts_one
returns-then-accepts_one c = chosen _ _ _ _ _ c.loop-row-test.true c.accepts_one.ensures c.if-accepts_one.true c.loop-row.invariant

pub loop-row-preserved : goal.loop-row-preserved
loop-row-preserved c = passed _ _ _ _ _ c.loop-row-test.true c.accepts_one.ensures c.if-accepts_one.false c.loop-row.invariant

pub returns : goal.returns
returns c = c.loop-row.invariant ∙ at_drop_all (λ rest. choose (seen rest) c.args.input) _ _ c.loop-row-test.false
