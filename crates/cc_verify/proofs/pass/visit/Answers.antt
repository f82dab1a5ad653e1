use Rattle.cc_verify.proofs.Visiting.{unmet, met, arrived, early_broken, operands_broken, target_broken, late_broken, all_kept, early_here, late_here, no_effect, an_effect, jump_here, brings_not, brings_so, given_at, given_target, falls_on, falls_off}
use Rattle.cc_verify.proofs.pass.visit.Goals as goal

pub returns-in-None : goal.returns-in-None
returns-in-None c = unmet c.args.method.now c.args.known.now.items c.args.place.now c.args.fallen _ c.args.known.now.items c.in_ok-has.ensures c.in-None.ensures

pub returns-in-Some-early_rule : goal.returns-in-Some-early_rule
returns-in-Some-early_rule c =
    let m = c.args.method.now in
    let known = c.args.known.now.items in
    let p = c.args.place.now in
    let s = c.in-Some.stack in
    early_broken m known p c.args.fallen s (met known p c.args.fallen _ c.in_ok-has.ensures c.in-Some.ensures.0) (arrived known p c.args.fallen _ s c.in_ok-has.ensures c.in-Some.ensures.1) c.in-Some-early_rule.rule known
    (early_here m p _ _ _ _ _ c.in-Some-early_rule.ensures c.of-transition.ensures c.len.ensures)

pub returns-then-not-fits : goal.returns-then-not-fits
returns-then-not-fits c =
    let m = c.args.method.now in
    let known = c.args.known.now.items in
    let p = c.args.place.now in
    let s = c.in-Some.stack in
    operands_broken m known p c.args.fallen s (met known p c.args.fallen _ c.in_ok-has.ensures c.in-Some.ensures.0) (arrived known p c.args.fallen _ s c.in_ok-has.ensures c.in-Some.ensures.1) known
    (early_here m p _ _ _ _ _ c.in-None-early_rule.ensures c.of-transition.ensures c.len.ensures)
    (no_effect m _ _ _ s _ _ c.in_ok-fits.ensures c.if-not-fits.true c.of-transition.ensures c.in_ok-behind.ensures)

pub returns-then-not-brings : goal.returns-then-not-brings
returns-then-not-brings c =
    let m = c.args.method.now in
    let known = c.args.known.now.items in
    let p = c.args.place.now in
    let s = c.in-Some.stack in
    target_broken m known p c.args.fallen s (met known p c.args.fallen _ c.in_ok-has.ensures c.in-Some.ensures.0) (arrived known p c.args.fallen _ s c.in_ok-has.ensures c.in-Some.ensures.1) known c.apply.new.stack
    (early_here m p _ _ _ _ _ c.in-None-early_rule.ensures c.of-transition.ensures c.len.ensures)
    (an_effect m _ _ _ s _ _ c.in_ok-fits.ensures c.if-not-fits.false c.of-transition.ensures c.in_ok-behind.ensures)
    (brings_not _ _ _ _ _ _ c.in_ok-brings.ensures.answer.1 c.if-not-brings.true (given_at _ _ _ _ _ c.in_ok-give.ensures c.from.ensures) (jump_here _ _ _ _ c.jump-to.ensures c.of-transition.ensures))

pub returns-in-Some-late_rule : goal.returns-in-Some-late_rule
returns-in-Some-late_rule c =
    let m = c.args.method.now in
    let known = c.args.known.now.items in
    let p = c.args.place.now in
    let s = c.in-Some.stack in
    late_broken m known p c.args.fallen s (met known p c.args.fallen _ c.in_ok-has.ensures c.in-Some.ensures.0) (arrived known p c.args.fallen _ s c.in_ok-has.ensures c.in-Some.ensures.1) c.in-Some-late_rule.rule known c.apply.new.stack
    (early_here m p _ _ _ _ _ c.in-None-early_rule.ensures c.of-transition.ensures c.len.ensures)
    (an_effect m _ _ _ s _ _ c.in_ok-fits.ensures c.if-not-fits.false c.of-transition.ensures c.in_ok-behind.ensures)
    (brings_so _ _ _ _ _ _ c.in_ok-brings.ensures.answer.0 c.if-not-brings.false (given_at _ _ _ _ _ c.in_ok-give.ensures c.from.ensures) (jump_here _ _ _ _ c.jump-to.ensures c.of-transition.ensures))
    (late_here m p _ _ s _ c.in-Some-late_rule.ensures c.of-transition.ensures)

pub returns-then-falls : goal.returns-then-falls
returns-then-falls c =
    let m = c.args.method.now in
    let known = c.args.known.now.items in
    let p = c.args.place.now in
    let s = c.in-Some.stack in
    all_kept m known p c.args.fallen s (met known p c.args.fallen _ c.in_ok-has.ensures c.in-Some.ensures.0) (arrived known p c.args.fallen _ s c.in_ok-has.ensures c.in-Some.ensures.1) _ _ c.apply.new.stack
    (early_here m p _ _ _ _ _ c.in-None-early_rule.ensures c.of-transition.ensures c.len.ensures)
    (an_effect m _ _ _ s _ _ c.in_ok-fits.ensures c.if-not-fits.false c.of-transition.ensures c.in_ok-behind.ensures)
    (brings_so _ _ _ _ _ _ c.in_ok-brings.ensures.answer.0 c.if-not-brings.false (given_at _ _ _ _ _ c.in_ok-give.ensures c.from.ensures) (jump_here _ _ _ _ c.jump-to.ensures c.of-transition.ensures))
    (late_here m p _ _ s _ c.in-None-late_rule.ensures c.of-transition.ensures)
    (falls_on _ _ _ _ c.falls.ensures c.of-transition.ensures c.if-falls.true)
    (given_target _ _ _ _ _ _ (c.in_ok-brings.ensures.given c.if-not-brings.false) (given_at _ _ _ _ _ c.in_ok-give.ensures c.from.ensures) (jump_here _ _ _ _ c.jump-to.ensures c.of-transition.ensures))

pub returns : goal.returns
returns c =
    let m = c.args.method.now in
    let known = c.args.known.now.items in
    let p = c.args.place.now in
    let s = c.in-Some.stack in
    all_kept m known p c.args.fallen s (met known p c.args.fallen _ c.in_ok-has.ensures c.in-Some.ensures.0) (arrived known p c.args.fallen _ s c.in_ok-has.ensures c.in-Some.ensures.1) _ _ c.apply.new.stack
    (early_here m p _ _ _ _ _ c.in-None-early_rule.ensures c.of-transition.ensures c.len.ensures)
    (an_effect m _ _ _ s _ _ c.in_ok-fits.ensures c.if-not-fits.false c.of-transition.ensures c.in_ok-behind.ensures)
    (brings_so _ _ _ _ _ _ c.in_ok-brings.ensures.answer.0 c.if-not-brings.false (given_at _ _ _ _ _ c.in_ok-give.ensures c.from.ensures) (jump_here _ _ _ _ c.jump-to.ensures c.of-transition.ensures))
    (late_here m p _ _ s _ c.in-None-late_rule.ensures c.of-transition.ensures)
    (falls_off _ _ _ _ c.falls.ensures c.of-transition.ensures c.if-falls.false)
    (given_target _ _ _ _ _ _ (c.in_ok-brings.ensures.given c.if-not-brings.false) (given_at _ _ _ _ _ c.in_ok-give.ensures c.from.ensures) (jump_here _ _ _ _ c.jump-to.ensures c.of-transition.ensures))
