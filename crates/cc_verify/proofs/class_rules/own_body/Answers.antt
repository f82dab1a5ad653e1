use Rattle.std.proofs.Common.{ap, ◌∙◌}
use Rattle.std.specs.Prelude.{not}
use Rattle.std.proofs.lemmas.Bool.{ne_eqb}
use Rattle.cc_verify.proofs.Placed.{own_none, own_there}
use Rattle.cc_verify.proofs.class_rules.own_body.Goals as goal

pub returns-then-method-eq0 : goal.returns-then-method-eq0
returns-then-method-eq0 c = own_none c.args.«module».now c.args.method.now c.args.before c.if-method-eq0.true

pub returns : goal.returns
returns c = c.get.ensures.value ∙ own_there c.args.«module».now c.args.method.now c.args.before (ap not (ne_eqb c.args.method.now.rva 0 c.if-method-eq0.false))
