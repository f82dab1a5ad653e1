use Rattle.std.proofs.Common.{◌≡◌, ◌∙◌, sym}
use Rattle.std.proofs.lemmas.Result.{IfOk-from_err, err_from_is_err_and}
use Rattle.cc_names.proofs.Firsts.{accepted, fault_refuses}
use Rattle.cc_names.proofs.declaring.declare.Goals as goal

pub returns-in_err-declarations-clause-refused : goal.returns-in_err-declarations-clause-refused
returns-in_err-declarations-clause-refused c = let p = err_from_is_err_and c.from_residual.result c.from_residual.ensures.1 in rw (p.1, p.2) tt

pub returns-in_err-first_refusal-clause-refused : goal.returns-in_err-first_refusal-clause-refused
returns-in_err-first_refusal-clause-refused c = let p = err_from_is_err_and c.from_residual-in_err-first_refusal.result c.from_residual-in_err-first_refusal.ensures.1 in rw (p.1, p.2) tt

pub returns-in-None-clause-accepted : goal.returns-in-None-clause-accepted
returns-in-None-clause-accepted c = accepted c.args.unit.now (sym c.in_ok-first_refusal.ensures ∙ c.in-None.is)

pub returns-in-Some-clause-refused : goal.returns-in-Some-clause-refused
returns-in-Some-clause-refused c = fault_refuses c.fault.result c.in-Some.first c.args.unit.now c.fault.ensures (sym c.in_ok-first_refusal.ensures ∙ c.in-Some.is)

pub returns-in_err-declarations-clause-accepted : goal.returns-in_err-declarations-clause-accepted
returns-in_err-declarations-clause-accepted c = IfOk-from_err c.from_residual.result _ c.from_residual.ensures.0

pub returns-in_err-first_refusal-clause-accepted : goal.returns-in_err-first_refusal-clause-accepted
returns-in_err-first_refusal-clause-accepted c = IfOk-from_err c.from_residual-in_err-first_refusal.result _ c.from_residual-in_err-first_refusal.ensures.0
