use Rattle.std.proofs.Common.{◌≡◌, ◌<◌, length, refl, sym, subst, ◌∙◌, arith}
use Rattle.cc_verify.specs.declared.environment.Environment.{Environment}
use Rattle.cc_verify.proofs.Coded.{codes_kept, codes_broken, codes_end}
use Rattle.cc_verify.proofs.codes.code_fault.Goals as goal

pub loop-before-init : goal.loop-before-init
loop-before-init c = record { same = refl; leads = λ verdict more. more }

pub body_fault-requires-clause-there : goal.body_fault-requires-clause-there
body_fault-requires-clause-there c =
    let lt : c.loop-before.before < length c.args.environment.methods = omega (arith, c.loop-before-test.true, c.in_ok-count.ensures.fits, c.len.ensures) in
    subst (λ (x : Environment). c.loop-before.before < length x.methods) (sym c.loop-before.invariant.same) lt

pub returns-in-Some : goal.returns-in-Some
returns-in-Some c =
    let lt : c.loop-before.before < length c.args.environment.methods = omega (arith, c.loop-before-test.true, c.in_ok-count.ensures.fits, c.len.ensures) in
    codes_broken c.args.«module».now c.args.environment c.loop-before.around c.loop-before.before c.in_ok-back.found c.in-Some.broken c.loop-before.invariant.same lt c.in_ok-back.ensures.verdict c.in-Some.is c.loop-before.invariant.leads

pub loop-before-preserved : goal.loop-before-preserved
loop-before-preserved c =
    let lt : c.loop-before.before < length c.args.environment.methods = omega (arith, c.loop-before-test.true, c.in_ok-count.ensures.fits, c.len.ensures) in
    record {
      same = c.in_ok-back.ensures.same ∙ c.loop-before.invariant.same;
      leads = codes_kept c.args.«module».now c.args.environment c.loop-before.around c.loop-before.before c.in_ok-back.found c.loop-before.invariant.same lt c.in_ok-back.ensures.verdict c.in-None.is c.loop-before.invariant.leads;
    }

pub returns : goal.returns
returns c = codes_end c.args.«module».now c.args.environment c.loop-before.before (omega (arith, c.loop-before-test.false, c.in_ok-count.ensures.fits, c.len.ensures)) c.loop-before.invariant.leads
