use Rattle.std.proofs.Common.{arith}
use Rattle.cc_pushdown.specs.Machine.{here}
use Rattle.cc_grammar.proofs.Going.{ending_act, ending_expect, ending_falls, ending_back, ending_refused, ending_done}
use Rattle.cc_grammar.proofs.Measured.{ending_measured, back_measured, back_carries}
use Rattle.cc_grammar.proofs.feeding.settle_end.Goals as goal

pub loop-symbol-init : goal.loop-symbol-init
loop-symbol-init c = ((here, omega arith), c.requires.measured)

pub loop-symbol-preserved-in-Continue-1 : goal.loop-symbol-preserved-in-Continue-1
loop-symbol-preserved-in-Continue-1 c =
    (ending_act _ _ _ _ _ _ _ _ c.in-Act.is c.in-Some.ensures c.in_ok-act-in-Act.ensures.makes c.loop-symbol.invariant.0, ending_measured _ _ _ _ _ _ _ _ _ _ c.in-Act.is c.in-Some.ensures c.in_ok-act-in-Act.ensures.makes c.in_ok-act-in-Act.ensures.raises c.loop-symbol.invariant.0 c.requires.typed c.loop-symbol.invariant.1)

pub returns-in-Back-clause-measures : goal.returns-in-Back-clause-measures
returns-in-Back-clause-measures c = back_measured _ _ _ _ c.put_back.ensures.rest c.put_back.ensures.heights c.loop-symbol.invariant.1

pub returns-in-Back-clause-carries : goal.returns-in-Back-clause-carries
returns-in-Back-clause-carries c = (back_carries c.put_back.result _ _ c.put_back.ensures.value c.put_back.ensures.height c.loop-symbol.invariant.1, tt)

pub returns-in-Back-clause-ends : goal.returns-in-Back-clause-ends
returns-in-Back-clause-ends c = ending_back _ _ c.put_back.result _ _ _ _ _ _ c.in-Back.is c.in-Some.ensures c.put_back.ensures.input c.put_back.ensures.value c.put_back.ensures.rest c.loop-symbol.invariant.0

pub loop-symbol-preserved : goal.loop-symbol-preserved
loop-symbol-preserved c =
    (ending_expect _ _ _ _ _ _ _ _ _ c.in-Non.is c.in-Some.ensures c.in-Some-otherwise.ensures c.in_ok-expect-in-Some-otherwise.ensures c.loop-symbol.invariant.0, c.loop-symbol.invariant.1)

pub loop-symbol-smaller : goal.loop-symbol-smaller
loop-symbol-smaller c = ending_falls _ _ _ _ _ _ c.in-Non.is c.in-Some.ensures c.in-Some-otherwise.ensures c.in_ok-expect-in-Some-otherwise.ensures

pub returns-in-None-clause-ends : goal.returns-in-None-clause-ends
returns-in-None-clause-ends c = ending_refused _ _ _ _ _ _ _ c.in-Non.is c.in-Some.ensures c.in-None.ensures c.loop-symbol.invariant.0

pub returns-clause-ends : goal.returns-clause-ends
returns-clause-ends c = ending_done _ _ _ _ c.in_default.ensures.0 c.loop-symbol.invariant.0
