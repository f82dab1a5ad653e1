use Rattle.std.proofs.Common.{arith}
use Rattle.std.proofs.lemmas.List.{take_more}
use Rattle.cc_straight.proofs.Executes.{code_more}
use Rattle.cc_straight.proofs.emit.emit.Goals as goal

pub loop-operation-preserved : goal.loop-operation-preserved
loop-operation-preserved c =
    code_more c.loop-operation.code.items c.encode_one.new.into.items _ _ c.instruction_of.result _ c.loop-operation.invariant c.in_ok-encode_one.ensures.ok (take_more _ _ _ (omega (arith, c.loop-operation-test.true)))
    c.instruction_of.ensures.acts c.instruction_of.ensures.in_range
