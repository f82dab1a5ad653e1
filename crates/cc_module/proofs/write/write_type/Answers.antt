use Rattle.cc_layout.proofs.Numbers.{on_err}
use Rattle.cc_module.specs.Signatures.{element_bytes}
use Rattle.cc_module.proofs.Writing.{one_stops}
use Rattle.cc_module.proofs.write.write_type.Goals as goal

pub returns-in_err-write_element-clause-err : goal.returns-in_err-write_element-clause-err
returns-in_err-write_element-clause-err c =
    on_err c.from_residual.result _ (one_stops element_bytes c.args.one.now.elements c.loop-element.element-index _ (rw c.as_slice-element-items.ensures at c.loop-element-test.true) _ _ _ c.loop-element.invariant (rw c.as_slice-element-items.ensures at c.in_err-write_element.ensures.err))
