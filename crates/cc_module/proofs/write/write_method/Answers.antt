use Rattle.cc_layout.proofs.Numbers.{on_err}
use Rattle.cc_module.proofs.Writing.{generic_stands}
use Rattle.cc_module.proofs.write.write_method.Goals as goal

pub returns-in_err-write_compressed-in-Some-clause-err : goal.returns-in_err-write_compressed-in-Some-clause-err
returns-in_err-write_compressed-in-Some-clause-err c =
    on_err c.from_residual-in_err-write_compressed-in-Some.result _ (generic_stands c.args.has_this c.args.type_parameters c.in-Some.number _ _ _ _ c.in-Some.is c.this_mark-mark.ensures c.in_ok-push-in-Some.ensures.items c.in_err-write_compressed-in-Some.ensures.err)
