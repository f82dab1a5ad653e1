use Rattle.std.proofs.Common.{sym, subst, ◌∙◌}
use Rattle.cc_core.specs.declared.straight.StraightOperation.TheVariants as operation
use Rattle.cc_core.specs.StraightSource.{operations_of}
use Rattle.cc_straight.specs.Form.{term_of}
use Rattle.cc_straight.specs.Added.{IsFault, AreAdded}
use Rattle.cc_straight.proofs.Adding.{handed, pushed_on, at_left, at_right, at_both}
use Rattle.cc_straight.proofs.term.+add_term.Goals as goal

pub returns-in_err-add_term-in-Some-arithmetic : goal.returns-in_err-add_term-in-Some-arithmetic
returns-in_err-add_term-in-Some-arithmetic t c =
    handed c.from_residual.result operations_of c.in_err-add_term-in-Some-arithmetic.field-0.0 (term_of c.args.expression.now) _ _ c.from_residual.ensures.1
    (at_left c.args.expression.now c.in-Binary.left c.in-Binary.right c.in-Binary.operator c.in-Binary.span c.in-Some-arithmetic.operator c.in-Binary.is (sym c.arithmetic.ensures ∙ c.in-Some-arithmetic.is)
    c.in_err-add_term-in-Some-arithmetic.field-0.0 (subst (λ x. IsFault c.in_err-add_term-in-Some-arithmetic.field-0.0 (term_of x)) c.get-in-Some-arithmetic.ensures c.in_err-add_term-in-Some-arithmetic.ensures))

pub returns-in_err-add_term-in-Some-arithmetic-2 : goal.returns-in_err-add_term-in-Some-arithmetic-2
returns-in_err-add_term-in-Some-arithmetic-2 t c =
    handed c.from_residual-in_err-add_term-in-Some-arithmetic-2.result operations_of c.in_err-add_term-in-Some-arithmetic-2.field-0.0 (term_of c.args.expression.now) _ _ c.from_residual-in_err-add_term-in-Some-arithmetic-2.ensures.1
    (at_right c.args.expression.now c.in-Binary.left c.in-Binary.right c.in-Binary.operator c.in-Binary.span c.in-Some-arithmetic.operator c.in-Binary.is (sym c.arithmetic.ensures ∙ c.in-Some-arithmetic.is)
    c.in_err-add_term-in-Some-arithmetic-2.field-0.0 c.args.into.now.items c.add_term-in-Some-arithmetic.new.into.items
    (subst (λ x. AreAdded operations_of (term_of x) c.args.into.now.items c.add_term-in-Some-arithmetic.new.into.items) c.get-in-Some-arithmetic.ensures c.in_ok-add_term-in-Some-arithmetic.ensures)
    (subst (λ x. IsFault c.in_err-add_term-in-Some-arithmetic-2.field-0.0 (term_of x)) c.get-in-Some-arithmetic-2.ensures c.in_err-add_term-in-Some-arithmetic-2.ensures))

pub returns-in_ok-add_term-in-Some-arithmetic-2 : goal.returns-in_ok-add_term-in-Some-arithmetic-2
returns-in_ok-add_term-in-Some-arithmetic-2 t c =
    pushed_on c.push-in-Some-arithmetic.result operations_of (operation.Apply c.in-Some-arithmetic.operator) (term_of c.args.expression.now) c.args.into.now.items c.add_term-in-Some-arithmetic-2.new.into.items c.push-in-Some-arithmetic.new.into.items
    c.push-in-Some-arithmetic.ensures
    (at_both c.args.expression.now c.in-Binary.left c.in-Binary.right c.in-Binary.operator c.in-Binary.span c.in-Some-arithmetic.operator c.in-Binary.is (sym c.arithmetic.ensures ∙ c.in-Some-arithmetic.is)
    c.args.into.now.items c.add_term-in-Some-arithmetic.new.into.items c.add_term-in-Some-arithmetic-2.new.into.items c.push-in-Some-arithmetic.new.into.items
    (subst (λ x. AreAdded operations_of (term_of x) c.args.into.now.items c.add_term-in-Some-arithmetic.new.into.items) c.get-in-Some-arithmetic.ensures c.in_ok-add_term-in-Some-arithmetic.ensures)
    (subst (λ x. AreAdded operations_of (term_of x) c.add_term-in-Some-arithmetic.new.into.items c.add_term-in-Some-arithmetic-2.new.into.items) c.get-in-Some-arithmetic-2.ensures c.in_ok-add_term-in-Some-arithmetic-2.ensures))
