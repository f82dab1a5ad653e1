use Rattle.cc_layout.proofs.Numbers.{on_err}
use Rattle.cc_module.specs.Signatures.{types_bytes}
use Rattle.cc_module.proofs.Writing.{first_stops}
use Rattle.cc_module.proofs.write.write_typed.Goals as goal

pub returns-in_err-write_type-clause-err : goal.returns-in_err-write_type-clause-err
returns-in_err-write_type-clause-err c = on_err c.from_residual-in_err-write_type.result _ (first_stops _ _ _ _ _ (types_bytes c.args.types.now) c.in_ok-write_compressed.ensures.ok c.in_err-write_type.ensures.err)
