use Rattle.cc_layout.proofs.Numbers.{on_err}
use Rattle.cc_module.proofs.Writing.{mark_stands}
use Rattle.cc_module.proofs.write.write_instance.Goals as goal

pub returns-in_err-write_compressed-clause-err : goal.returns-in_err-write_compressed-clause-err
returns-in_err-write_compressed-clause-err c = on_err c.from_residual-in_err-write_compressed.result _ (mark_stands _ _ _ _ _ _ c.in_ok-push.ensures.items c.in_err-write_compressed.ensures.err c.kind_mark.ensures)
