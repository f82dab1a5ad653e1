use Rattle.std.proofs.Common.{◌∙◌, sym, ap, arith, refl}
use Rattle.cc_pushdown.specs.Machine.{here}
use Rattle.cc_grammar.specs.Depths.{measures}
use Rattle.cc_grammar.proofs.Going.{going_act, going_expect, going_take, going_back, going_refuse, going_nothing, falls_met}
use Rattle.cc_grammar.proofs.Measured.{going_measured, taken_measured, back_measured, back_carries, put_carries, same_carries}
use Rattle.cc_grammar.proofs.settle.settle.Goals as goal

pub loop-symbol-init : goal.loop-symbol-init
loop-symbol-init c = ((λ ts. here, omega arith), refl, c.requires.measured)

pub loop-symbol-preserved-in-Continue-1 : goal.loop-symbol-preserved-in-Continue-1
loop-symbol-preserved-in-Continue-1 c =
    (going_act _ _ _ _ _ _ _ _ _ c.in-Act.is c.in-Some.ensures c.in_ok-act-in-Act.ensures.makes c.loop-symbol.invariant.0, c.loop-symbol.invariant.1, going_measured _ _ _ _ _ _ _ _ _ _ _ c.in-Act.is c.in-Some.ensures c.in_ok-act-in-Act.ensures.makes c.in_ok-act-in-Act.ensures.raises c.loop-symbol.invariant.0 c.requires.typed c.loop-symbol.invariant.2)

pub returns-in-Back-clause-settles : goal.returns-in-Back-clause-settles
returns-in-Back-clause-settles c =
    going_back _ _ c.args.one c.put_back.result c.args.pending.now _ _ _ _ _ _ _ _ _ c.in-Back.is c.in-Some.ensures c.put_back.ensures.input c.put_back.ensures.value c.put_back.ensures.rest c.loop-symbol.invariant.1 c.in_ok-push-in-Back.ensures c.in_ok-push-in-Back-2.ensures c.loop-symbol.invariant.0

pub returns-in-Back-clause-measures : goal.returns-in-Back-clause-measures
returns-in-Back-clause-measures c = back_measured _ _ _ _ c.put_back.ensures.rest c.put_back.ensures.heights c.loop-symbol.invariant.2

pub returns-in-Back-clause-carries : goal.returns-in-Back-clause-carries
returns-in-Back-clause-carries c =
    put_carries c.args.one c.put_back.result c.args.pending.now _ _ _ c.loop-symbol.invariant.1 c.in_ok-push-in-Back.ensures c.in_ok-push-in-Back-2.ensures (back_carries c.put_back.result _ _ c.put_back.ensures.value c.put_back.ensures.height c.loop-symbol.invariant.2) c.requires.carried

pub loop-symbol-smaller : goal.loop-symbol-smaller
loop-symbol-smaller c = falls_met _ _ _ _ _ _ _ _ _ c.in-Non.is c.in-Some.ensures c.in-Expect.is c.in_ok-part-in-Non.ensures.meets c.in_ok-expect-in-Expect.ensures

pub loop-symbol-preserved : goal.loop-symbol-preserved
loop-symbol-preserved c =
    (going_expect _ _ c.args.one _ _ _ _ _ _ _ _ _ c.in-Non.is c.in-Some.ensures c.in-Expect.is c.in_ok-part-in-Non.ensures.meets c.in_ok-expect-in-Expect.ensures c.in_ok-part-in-Non.ensures.same c.loop-symbol.invariant.0, c.loop-symbol.invariant.1, c.loop-symbol.invariant.2 ∙ sym (ap measures c.in_ok-part-in-Non.ensures.same))

pub returns-in-Take-clause-settles : goal.returns-in-Take-clause-settles
returns-in-Take-clause-settles c =
    going_take _ _ c.args.one c.args.pending.now _ _ _ _ _ _ _ _ _ _ c.in-Take.taking c.in-Non.is c.in-Some.ensures c.in-Take.is c.in_ok-part-in-Non.ensures.meets c.in_ok-part-in-Non.ensures.same c.in_ok-take-in-Take.ensures.expects c.in_ok-take-in-Take.ensures.keeps c.loop-symbol.invariant.1 c.loop-symbol.invariant.0

pub returns-in-Take-clause-measures : goal.returns-in-Take-clause-measures
returns-in-Take-clause-measures c =
    taken_measured c.in-Take.taking c.args.one c.args.pending.now _ _ _ _ _ c.in_ok-part-in-Non.ensures.same c.in_ok-take-in-Take.ensures.keeps c.in_ok-take-in-Take.ensures.height c.requires.carried c.loop-symbol.invariant.2

pub returns-in-Take-clause-carries : goal.returns-in-Take-clause-carries
returns-in-Take-clause-carries c = same_carries c.args.one c.args.pending.now _ c.loop-symbol.invariant.1 c.requires.carried

pub returns-in-Refuse-clause-settles : goal.returns-in-Refuse-clause-settles
returns-in-Refuse-clause-settles c = going_refuse _ _ c.args.one c.args.pending.now _ _ _ _ _ _ c.in-Non.is c.in-Some.ensures c.in-Refuse.is c.in_ok-part-in-Non.ensures.meets c.loop-symbol.invariant.0

pub returns-in-Refuse-clause-measures : goal.returns-in-Refuse-clause-measures
returns-in-Refuse-clause-measures c = c.loop-symbol.invariant.2 ∙ sym (ap measures c.in_ok-part-in-Non.ensures.same)

pub returns-in-Refuse-clause-carries : goal.returns-in-Refuse-clause-carries
returns-in-Refuse-clause-carries c = same_carries c.args.one c.args.pending.now _ c.loop-symbol.invariant.1 c.requires.carried

pub returns-clause-settles : goal.returns-clause-settles
returns-clause-settles c = going_nothing _ _ _ _ _ _ c.in_default.ensures.0 c.loop-symbol.invariant.0

pub returns-clause-carries : goal.returns-clause-carries
returns-clause-carries c = same_carries c.args.one c.args.pending.now _ c.loop-symbol.invariant.1 c.requires.carried
