use Rattle.std.proofs.Common.{◌≡◌, ◌+◌, ◌-◌, ◌*◌, ◌<◌, ◌^◌, get_or, take, arith, ap, ◌∙◌, sym}
use Rattle.std.proofs.lemmas.List.{take_all}
use Rattle.std.specs.Str.Parse.{digits_value}
use Rattle.cc_library.proofs.Digits.{passes_at, digits_value_step, digits_value_grows}
use Rattle.cc_library.proofs.numbers.magnitude.Goals as goal

pub with_digit-requires : goal.with_digit-requires
with_digit-requires c = passes_at c.args.digits.now c.loop-digit.digit-index c.requires c.loop-digit-test.true

pub loop-digit-preserved : goal.loop-digit-preserved
loop-digit-preserved c =
    let ds = c.args.digits.now in
    let i = c.loop-digit.digit-index in
    let more = rw c.in_ok-value.was at c.with_digit.ensures in
    let step = digits_value_step ds i c.requires c.loop-digit-test.true in
    record {
      so_far = more.1 ∙ ap (λ v. v * 10 + (get_or ds i 0 - 48)) c.loop-digit.invariant.so_far ∙ sym step;
      held = omega (arith, more.0, more.1);
    }

pub returns-in_err-value : goal.returns-in_err-value
returns-in_err-value c =
    let ds = c.args.digits.now in
    let i = c.loop-digit.digit-index in
    let none = rw c.in_err-value.was at c.with_digit.ensures in
    let step = digits_value_step ds i c.requires c.loop-digit-test.true in
    let grows = digits_value_grows ds (i + 1) in
    let so_far = ap (λ v. v * 10 + (get_or ds i 0 - 48)) c.loop-digit.invariant.so_far ∙ sym step in
    let wide = λ (small : digits_value 10 ds < 2 ^ 128). none (omega (arith, so_far, grows, small)) in
    rw c.from_residual.ensures wide

pub returns : goal.returns
returns c =
    let ds = c.args.digits.now in
    let i = c.loop-digit.digit-index in
    let whole : take i ds ≡ ds = grind (arith, take_all) in
    let same = c.loop-digit.invariant.so_far ∙ ap (λ l. digits_value 10 l) whole in
    (omega (arith, c.loop-digit.invariant.held, same), same)
