use Rattle.std.proofs.Common.{◌/◌, sym, ap, ◌∙◌, arith}
use Rattle.cc_module.specs.Heaps.{special_mark}
use Rattle.cc_tables.proofs.UserStrings.{no_user_bad, no_user_short, no_user_mark, user_there}
use Rattle.cc_tables.proofs.user_strings_form.split_user_string.Goals as goal

pub returns-in_default-clause-none : goal.returns-in_default-clause-none
returns-in_default-clause-none c = no_user_bad c.args.bytes.now c.in_default.field-0 c.in_default.ensures.err

pub returns-then-rest-length-clause-none : goal.returns-then-rest-length-clause-none
returns-then-rest-length-clause-none c = no_user_short c.args.bytes.now c.in-Ok.rest.now c.in-Ok.length c.in-Ok.ensures.ok.0 c.in-Ok.ensures.ok.1 c.if-rest-length.true

pub units_of-requires : goal.units_of-requires
units_of-requires c = (c.in-Ok.length / 2, omega (arith, c.split_at.ensures.front_len, c.if-length-eq0.false, c.if-rest-length.false))

pub returns-then-tail-special_mark-clause-none : goal.returns-then-tail-special_mark-clause-none
returns-then-tail-special_mark-clause-none c =
    no_user_mark c.args.bytes.now c.in-Ok.rest.now c.in-Ok.length c.in-Ok.ensures.ok.0 c.in-Ok.ensures.ok.1 c.split_at.result.0.now c.split_at.result.1.now c.in_ok-units.units.items c.split_at.ensures.front c.split_at.ensures.back c.in_ok-units.ensures.pairs
    c.in_ok-units.ensures.units (omega (arith, c.if-length-eq0.false)) c.if-rest-length.false (λ e. c.if-tail-special_mark.true (e ∙ sym (c.special_mark.ensures ∙ ap special_mark c.deref.ensures.value)))

pub returns-clause-some : goal.returns-clause-some
returns-clause-some c =
    user_there c.args.bytes.now c.in-Ok.rest.now c.in-Ok.length c.in-Ok.ensures.ok.0 c.in-Ok.ensures.ok.1 c.split_at.result.0.now c.split_at.result.1.now c.in_ok-units.units.items c.split_at.ensures.front c.split_at.ensures.back c.in_ok-units.ensures.pairs
    c.in_ok-units.ensures.units (omega (arith, c.if-length-eq0.false)) c.if-rest-length.false c.split_at-2.result.1.now (c.if-tail-special_mark.false ∙ c.special_mark.ensures ∙ ap special_mark c.deref.ensures.value) c.split_at-2.ensures.back
