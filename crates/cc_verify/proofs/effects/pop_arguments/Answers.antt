use Rattle.std.proofs.Common.{◌≡◌, ◌+◌, ◌-◌, ◌<◌, length, sym, ◌∙◌, arith}
use Rattle.std.specs.Prelude.{None}
use Rattle.cc_verify.proofs.Arguments.{popped_none, popped_off, popped_on, popped_all}
use Rattle.cc_verify.proofs.effects.pop_arguments.Goals as goal

pub returns-in-None : goal.returns-in-None
returns-in-None c =
    let inv = c.loop-left.invariant in
    let is : c.loop-left.left ≡ (c.loop-left.left - 1) + 1 = omega (arith, c.loop-left-test.true) in
    let lt : c.loop-left.left - 1 < length c.args.parameters.now = omega (arith, inv.within, c.loop-left-test.true) in
    popped_none c.args.parameters.now (c.loop-left.left - 1) c.loop-left.left None c.loop-left.stack _ is lt inv.rest c.in-None.ensures.0

pub returns-then-not-fits : goal.returns-then-not-fits
returns-then-not-fits c =
    let inv = c.loop-left.invariant in
    let is : c.loop-left.left ≡ (c.loop-left.left - 1) + 1 = omega (arith, c.loop-left-test.true) in
    let lt : c.loop-left.left - 1 < length c.args.parameters.now = omega (arith, inv.within, c.loop-left-test.true) in
    popped_off c.args.parameters.now (c.loop-left.left - 1) c.loop-left.left _ c.loop-left.stack _ is lt inv.rest c.in-Some.top _ c.in-Some.ensures (sym c.fits.ensures ∙ c.if-not-fits.true)

pub loop-left-preserved : goal.loop-left-preserved
loop-left-preserved c =
    let inv = c.loop-left.invariant in
    let is : c.loop-left.left ≡ (c.loop-left.left - 1) + 1 = omega (arith, c.loop-left-test.true) in
    let lt : c.loop-left.left - 1 < length c.args.parameters.now = omega (arith, inv.within, c.loop-left-test.true) in
    record {
      within = omega (arith, inv.within);
      rest = popped_on c.args.parameters.now (c.loop-left.left - 1) c.loop-left.left _ c.loop-left.stack _ is lt inv.rest c.in-Some.top _ c.in-Some.ensures (sym c.fits.ensures ∙ c.if-not-fits.false);
    }

pub returns : goal.returns
returns c =
    let none : c.loop-left.left ≡ 0 = omega (arith, c.loop-left-test.false) in
    popped_all c.args.parameters.now c.loop-left.left c.loop-left.stack _ none c.loop-left.invariant.rest
