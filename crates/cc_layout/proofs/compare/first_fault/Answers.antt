use Rattle.std.proofs.Common.{sym, ◌∙◌, arith}
use Rattle.cc_layout.specs.Layout.{free}
use Rattle.cc_layout.proofs.Laws.{ends_short, ends_wrong, goes_on, is_done, no_fault_width}
use Rattle.cc_layout.proofs.compare.first_fault.Goals as goal

pub returns-then-rest-field-clause-fault : goal.returns-then-rest-field-clause-fault
returns-then-rest-field-clause-fault c = sym (ends_short _ _ _ _ _ _ c.loop-field.invariant.0 c.loop-field-test.true c.if-rest-field.true)

pub returns-then-not-agrees-clause-fault : goal.returns-then-not-agrees-clause-fault
returns-then-not-agrees-clause-fault c = sym (ends_wrong _ _ _ _ _ _ c.loop-field.invariant.0 c.loop-field-test.true c.if-rest-field.false (rw (← c.number_at.ensures.value) (sym c.agrees.ensures ∙ c.if-not-agrees.true)))

pub loop-field-preserved : goal.loop-field-preserved
loop-field-preserved c =
    let on = goes_on _ _ _ _ _ (free 0) c.loop-field.invariant.0 c.loop-field-test.true c.if-rest-field.false (rw (← c.number_at.ensures.value) (sym c.agrees.ensures ∙ c.if-not-agrees.false)) in
    (rw c.split_at.ensures.back on, omega (arith, c.split_at.ensures.back_len, c.loop-field.invariant.1))

pub returns-clause-fault : goal.returns-clause-fault
returns-clause-fault c = sym (is_done _ _ _ _ _ (free 0) c.loop-field.invariant.0 c.loop-field-test.false)

pub returns-clause-room : goal.returns-clause-room
returns-clause-room c = no_fault_width c.args.at _ _ (is_done _ _ _ _ _ (free 0) c.loop-field.invariant.0 c.loop-field-test.false)
