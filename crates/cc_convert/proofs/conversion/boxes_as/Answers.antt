use Rattle.std.proofs.lemmas.Bool.{eq-eqb}
use Rattle.cc_convert.proofs.Rules.{boxes-object, boxes-class}
use Rattle.cc_convert.proofs.conversion.boxes_as.Goals as goal

pub returns-then-target : goal.returns-then-target
returns-then-target c = boxes-object _ _ _ _ _ c.in-Some.ensures c.if-target.true (eq-eqb _ _ c.if-target.true)

pub returns-else-target : goal.returns-else-target
returns-else-target c = boxes-class _ _ _ _ _ c.in-Some.ensures c.if-target.false c.implements.ensures
