use Rattle.cc_layout.proofs.Numbers.{on_err}
use Rattle.cc_module.proofs.Writing.{method_stops, typed_stops}
use Rattle.cc_module.proofs.write.write_signature.Goals as goal

pub returns-in_err-write_method-in-Method-clause-err : goal.returns-in_err-write_method-in-Method-clause-err
returns-in_err-write_method-in-Method-clause-err c =
    on_err c.from_residual-in_err-write_method-in-Method.result _ (method_stops c.args.signature.now c.in-Method.has_this c.in-Method.type_parameters c.in-Method.result c.in-Method.parameters _ _ c.in-Method.is c.in_err-write_method-in-Method.ensures.err)

pub returns-in_err-write_typed-in-Method-clause-err : goal.returns-in_err-write_typed-in-Method-clause-err
returns-in_err-write_typed-in-Method-clause-err c =
    on_err c.from_residual-in_err-write_typed-in-Method.result _ (typed_stops c.args.signature.now c.in-Method.has_this c.in-Method.type_parameters c.in-Method.result c.in-Method.parameters _ _ _ c.in-Method.is c.in_ok-write_method-in-Method.ensures.ok (rw c.as_slice.ensures at c.in_err-write_typed-in-Method.ensures.err))
