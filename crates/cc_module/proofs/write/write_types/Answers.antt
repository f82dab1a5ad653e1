use Rattle.cc_layout.proofs.Numbers.{on_err}
use Rattle.cc_module.specs.Signatures.{type_bytes}
use Rattle.cc_module.proofs.Writing.{item_stops}
use Rattle.cc_module.proofs.write.write_types.Goals as goal

pub returns-in_err-write_type-clause-err : goal.returns-in_err-write_type-clause-err
returns-in_err-write_type-clause-err c = on_err c.from_residual.result _ (item_stops type_bytes c.args.types.now c.loop-one.one-index c.one-item.result _ _ _ c.loop-one-test.true c.one-item.is c.loop-one.invariant c.in_err-write_type.ensures.err)
