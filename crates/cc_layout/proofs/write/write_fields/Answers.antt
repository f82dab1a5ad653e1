use Rattle.cc_layout.proofs.Numbers.{on_err}
use Rattle.cc_layout.proofs.Laws.{goes_on_writing, stops_at}
use Rattle.cc_layout.proofs.write.write_fields.Goals as goal

pub returns-in_err-write_number-clause-err : goal.returns-in_err-write_number-clause-err
returns-in_err-write_number-clause-err c = on_err c.from_residual.result _ (stops_at c.args.fields.now c.loop-field.field-index _ _ _ c.loop-field.invariant c.in_err-write_number.ensures.err)

pub loop-field-preserved : goal.loop-field-preserved
loop-field-preserved c = goes_on_writing c.args.fields.now c.loop-field.field-index _ _ _ _ c.loop-field-test.true c.loop-field.invariant c.in_ok-write_number.ensures.ok c.unwrap_or.ensures
