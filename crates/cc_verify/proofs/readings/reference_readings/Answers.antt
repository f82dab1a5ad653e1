use Rattle.std.proofs.Common.{ap, ◌∙◌}
use Rattle.cc_module.specs.declared.rows.MemberRefRow.{MemberRefRow}
use Rattle.cc_verify.proofs.Rows.{read_on}
use Rattle.cc_verify.proofs.readings.reference_readings.Goals as goal

pub loop-row-preserved : goal.loop-row-preserved
loop-row-preserved c =
    read_on (λ (row : MemberRefRow). row.signature) c.args.rows.now c.loop-row.read _ c.loop-row.row-index c.row-item.result _ _ c.loop-row-test.true (c.as_slice.ensures ∙ ap (λ (row : MemberRefRow). row.signature) c.row-item.is) c.in_ok-push.ensures.ok c.loop-row.invariant c.in_ok-reading.ensures
