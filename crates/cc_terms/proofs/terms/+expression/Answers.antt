use Rattle.std.proofs.Common.{◌≡◌, ◌+◌, sym, ap, ◌∙◌, List, [], map, drop, arith}
use Rattle.std.proofs.lemmas.Result.{IfOk-weaker}
use Rattle.cc_tree.specs.declared.type_name.FundamentalType.{FundamentalType}
use Rattle.cc_tree.specs.declared.expression.Expression.{Expression}
use Rattle.cc_operations.specs.declared.judged.Given.{Given}
use Rattle.cc_operations.specs.declared.judged.Meant.{Meant}
use Rattle.cc_operations.specs.declared.source.Source.{Source}
use Rattle.cc_operations.specs.declared.source.Frame.{Frame}
use Rattle.cc_operations.specs.Choosing.{Pick, Chooses}
use Rattle.cc_operations.specs.Judgements.{Judged, Value, Meaning, judged_by, value_of, values_of, meaning_of, as_value, as_operand, operand, all_values}
use Rattle.cc_operations.specs.Operations as spec
use Rattle.cc_terms.specs.Resolving.{Finds}
use Rattle.cc_terms.specs.Terms.{typed, typed_value, typed_arguments}
use Rattle.cc_terms.proofs.Going.{ended, went}
use Rattle.cc_terms.proofs.Cases as cases
use Rattle.cc_terms.proofs.Rows.{arguments_are, row_ended, row_went, row_done}
use Rattle.cc_terms.proofs.terms.+expression.Goals as goal

abbrev meant : Judged Meant → Judged Meaning
meant judged = judged_by meaning_of judged

abbrev given : Judged Given → Judged Value
given judged = judged_by value_of judged

-- what an expression is judged to mean is right, whichever choice is the language's
abbrev IsMeant : Finds → Source → Frame → Expression → Judged Meant → Type 0
IsMeant finds source frame x judged = (choice : Pick) → Chooses source.classes choice → judged_by meaning_of judged ≡ typed choice finds source frame x

pub expression-returns-in-Err : goal.expression-returns-in-Err
expression-returns-in-Err g t c = λ choice chooses.
    cases.assign_ended_first choice (g.F.Finder.finds c.args.finder.now) c.args.source.now c.args.frame.now c.args.x.now c.in-Assign.left c.in-Assign.operator c.in-Assign.right c.in-Assign.span c.in-Assign.is
    c.in-Err.refusal
    (sym (ap meant c.in-Err.is) ∙ c.in_ok-made-in-Assign.ensures choice chooses ∙ ap (λ (y : Expression). operand (typed choice (g.F.Finder.finds c.args.finder.now) c.args.source.now c.args.frame.now y)) c.get.ensures)

pub expression-returns-in-Err-2 : goal.expression-returns-in-Err-2
expression-returns-in-Err-2 g t c = λ choice chooses.
    cases.assign_ended_second choice (g.F.Finder.finds c.args.finder.now) c.args.source.now c.args.frame.now c.args.x.now c.in-Assign.left c.in-Assign.operator c.in-Assign.right c.in-Assign.span c.in-Assign.is
    (meaning_of c.in-Ok.made) c.in-Err-2.refusal
    (sym (ap meant c.in-Ok.is) ∙ c.in_ok-made-in-Assign.ensures choice chooses ∙ ap (λ (y : Expression). operand (typed choice (g.F.Finder.finds c.args.finder.now) c.args.source.now c.args.frame.now y)) c.get.ensures) (sym (ap given c.in-Err-2.is) ∙ c.in_ok-made-in-Assign-2.ensures choice chooses ∙ ap (typed_value choice (g.F.Finder.finds c.args.finder.now) c.args.source.now c.args.frame.now) c.get-in-Assign.ensures)

pub expression-returns-in-Ok-2 : goal.expression-returns-in-Ok-2
expression-returns-in-Ok-2 g t c =
    IfOk-weaker c.assigned.result (λ judged. judged_by meaning_of judged ≡ spec.assigned c.in-Assign.operator c.in-Assign.span (meaning_of c.in-Ok.made) (value_of c.in-Ok-2.made)) (IsMeant (g.F.Finder.finds c.args.finder.now) c.args.source.now c.args.frame.now c.args.x.now)
    (λ judged is. λ choice chooses.
    cases.assign_made choice (g.F.Finder.finds c.args.finder.now) c.args.source.now c.args.frame.now c.args.x.now c.in-Assign.left c.in-Assign.operator c.in-Assign.right c.in-Assign.span c.in-Assign.is
    (meaning_of c.in-Ok.made) (value_of c.in-Ok-2.made) (judged_by meaning_of judged)
    (sym (ap meant c.in-Ok.is) ∙ c.in_ok-made-in-Assign.ensures choice chooses ∙ ap (λ (y : Expression). operand (typed choice (g.F.Finder.finds c.args.finder.now) c.args.source.now c.args.frame.now y)) c.get.ensures) (sym (ap given c.in-Ok-2.is) ∙ c.in_ok-made-in-Assign-2.ensures choice chooses ∙ ap (typed_value choice (g.F.Finder.finds c.args.finder.now) c.args.source.now c.args.frame.now) c.get-in-Assign.ensures) is)
    c.assigned.ensures

pub expression-returns-in-Err-3 : goal.expression-returns-in-Err-3
expression-returns-in-Err-3 g t c = λ choice chooses.
    cases.conditional_ended_first choice (g.F.Finder.finds c.args.finder.now) c.args.source.now c.args.frame.now c.args.x.now c.in-Conditional.condition c.in-Conditional.first c.in-Conditional.second c.in-Conditional.span c.in-Conditional.is
    c.in-Err-3.refusal
    (sym (ap given c.in-Err-3.is) ∙ c.in_ok-made-in-Conditional.ensures choice chooses ∙ ap (typed_value choice (g.F.Finder.finds c.args.finder.now) c.args.source.now c.args.frame.now) c.get-in-Conditional.ensures)

pub expression-returns-in-Err-4 : goal.expression-returns-in-Err-4
expression-returns-in-Err-4 g t c = λ choice chooses.
    cases.conditional_ended_second choice (g.F.Finder.finds c.args.finder.now) c.args.source.now c.args.frame.now c.args.x.now c.in-Conditional.condition c.in-Conditional.first c.in-Conditional.second c.in-Conditional.span c.in-Conditional.is
    (value_of c.in-Ok-3.made) c.in-Err-4.refusal
    (sym (ap given c.in-Ok-3.is) ∙ c.in_ok-made-in-Conditional.ensures choice chooses ∙ ap (typed_value choice (g.F.Finder.finds c.args.finder.now) c.args.source.now c.args.frame.now) c.get-in-Conditional.ensures) (sym (ap given c.in-Err-4.is) ∙ c.in_ok-made-in-Conditional-2.ensures choice chooses ∙ ap (typed_value choice (g.F.Finder.finds c.args.finder.now) c.args.source.now c.args.frame.now) c.get-in-Conditional-2.ensures)

pub expression-returns-in-Err-5 : goal.expression-returns-in-Err-5
expression-returns-in-Err-5 g t c = λ choice chooses.
    cases.conditional_ended_third choice (g.F.Finder.finds c.args.finder.now) c.args.source.now c.args.frame.now c.args.x.now c.in-Conditional.condition c.in-Conditional.first c.in-Conditional.second c.in-Conditional.span c.in-Conditional.is
    (value_of c.in-Ok-3.made) (value_of c.in-Ok-4.made) c.in-Err-5.refusal
    (sym (ap given c.in-Ok-3.is) ∙ c.in_ok-made-in-Conditional.ensures choice chooses ∙ ap (typed_value choice (g.F.Finder.finds c.args.finder.now) c.args.source.now c.args.frame.now) c.get-in-Conditional.ensures) (sym (ap given c.in-Ok-4.is) ∙ c.in_ok-made-in-Conditional-2.ensures choice chooses ∙ ap (typed_value choice (g.F.Finder.finds c.args.finder.now) c.args.source.now c.args.frame.now) c.get-in-Conditional-2.ensures) (sym (ap given c.in-Err-5.is) ∙ c.in_ok-made-in-Conditional-3.ensures choice chooses ∙ ap (typed_value choice (g.F.Finder.finds c.args.finder.now) c.args.source.now c.args.frame.now) c.get-in-Conditional-3.ensures)

pub expression-returns-in-Ok-5 : goal.expression-returns-in-Ok-5
expression-returns-in-Ok-5 g t c =
    IfOk-weaker c.conditional.result (λ judged. judged_by meaning_of judged ≡ spec.conditional c.in-Conditional.span (value_of c.in-Ok-3.made) (value_of c.in-Ok-4.made) (value_of c.in-Ok-5.made)) (IsMeant (g.F.Finder.finds c.args.finder.now) c.args.source.now c.args.frame.now c.args.x.now)
    (λ judged is. λ choice chooses.
    cases.conditional_made choice (g.F.Finder.finds c.args.finder.now) c.args.source.now c.args.frame.now c.args.x.now c.in-Conditional.condition c.in-Conditional.first c.in-Conditional.second c.in-Conditional.span c.in-Conditional.is
    (value_of c.in-Ok-3.made) (value_of c.in-Ok-4.made) (value_of c.in-Ok-5.made) (judged_by meaning_of judged)
    (sym (ap given c.in-Ok-3.is) ∙ c.in_ok-made-in-Conditional.ensures choice chooses ∙ ap (typed_value choice (g.F.Finder.finds c.args.finder.now) c.args.source.now c.args.frame.now) c.get-in-Conditional.ensures) (sym (ap given c.in-Ok-4.is) ∙ c.in_ok-made-in-Conditional-2.ensures choice chooses ∙ ap (typed_value choice (g.F.Finder.finds c.args.finder.now) c.args.source.now c.args.frame.now) c.get-in-Conditional-2.ensures) (sym (ap given c.in-Ok-5.is) ∙ c.in_ok-made-in-Conditional-3.ensures choice chooses ∙ ap (typed_value choice (g.F.Finder.finds c.args.finder.now) c.args.source.now c.args.frame.now) c.get-in-Conditional-3.ensures) is)
    c.conditional.ensures

pub expression-returns-in-Err-6 : goal.expression-returns-in-Err-6
expression-returns-in-Err-6 g t c = λ choice chooses.
    cases.binary_ended_first choice (g.F.Finder.finds c.args.finder.now) c.args.source.now c.args.frame.now c.args.x.now c.in-Binary.left c.in-Binary.operator c.in-Binary.right c.in-Binary.span c.in-Binary.is
    c.in-Err-6.refusal
    (sym (ap given c.in-Err-6.is) ∙ c.in_ok-made-in-Binary.ensures choice chooses ∙ ap (typed_value choice (g.F.Finder.finds c.args.finder.now) c.args.source.now c.args.frame.now) c.get-in-Binary.ensures)

pub expression-returns-in-Err-7 : goal.expression-returns-in-Err-7
expression-returns-in-Err-7 g t c = λ choice chooses.
    cases.binary_ended_second choice (g.F.Finder.finds c.args.finder.now) c.args.source.now c.args.frame.now c.args.x.now c.in-Binary.left c.in-Binary.operator c.in-Binary.right c.in-Binary.span c.in-Binary.is
    (value_of c.in-Ok-6.made) c.in-Err-7.refusal
    (sym (ap given c.in-Ok-6.is) ∙ c.in_ok-made-in-Binary.ensures choice chooses ∙ ap (typed_value choice (g.F.Finder.finds c.args.finder.now) c.args.source.now c.args.frame.now) c.get-in-Binary.ensures) (sym (ap given c.in-Err-7.is) ∙ c.in_ok-made-in-Binary-2.ensures choice chooses ∙ ap (typed_value choice (g.F.Finder.finds c.args.finder.now) c.args.source.now c.args.frame.now) c.get-in-Binary-2.ensures)

pub expression-returns-in-Ok-7 : goal.expression-returns-in-Ok-7
expression-returns-in-Ok-7 g t c =
    IfOk-weaker c.binary.result (λ judged. judged_by meaning_of judged ≡ spec.binary c.in-Binary.operator c.in-Binary.span (value_of c.in-Ok-6.made) (value_of c.in-Ok-7.made)) (IsMeant (g.F.Finder.finds c.args.finder.now) c.args.source.now c.args.frame.now c.args.x.now)
    (λ judged is. λ choice chooses.
    cases.binary_made choice (g.F.Finder.finds c.args.finder.now) c.args.source.now c.args.frame.now c.args.x.now c.in-Binary.left c.in-Binary.operator c.in-Binary.right c.in-Binary.span c.in-Binary.is
    (value_of c.in-Ok-6.made) (value_of c.in-Ok-7.made) (judged_by meaning_of judged)
    (sym (ap given c.in-Ok-6.is) ∙ c.in_ok-made-in-Binary.ensures choice chooses ∙ ap (typed_value choice (g.F.Finder.finds c.args.finder.now) c.args.source.now c.args.frame.now) c.get-in-Binary.ensures) (sym (ap given c.in-Ok-7.is) ∙ c.in_ok-made-in-Binary-2.ensures choice chooses ∙ ap (typed_value choice (g.F.Finder.finds c.args.finder.now) c.args.source.now c.args.frame.now) c.get-in-Binary-2.ensures) is)
    c.binary.ensures

pub expression-returns-in-Err-8 : goal.expression-returns-in-Err-8
expression-returns-in-Err-8 g t c = λ choice chooses.
    cases.prefix_ended choice (g.F.Finder.finds c.args.finder.now) c.args.source.now c.args.frame.now c.args.x.now c.in-Prefix.operator c.in-Prefix.x c.in-Prefix.span c.in-Prefix.is
    c.in-Err-8.refusal
    (sym (ap meant c.in-Err-8.is) ∙ c.in_ok-made-in-Prefix.ensures choice chooses ∙ ap (typed choice (g.F.Finder.finds c.args.finder.now) c.args.source.now c.args.frame.now) c.get-in-Prefix.ensures)

pub expression-returns-in-Ok-8 : goal.expression-returns-in-Ok-8
expression-returns-in-Ok-8 g t c =
    IfOk-weaker c.prefixed.result (λ judged. judged_by meaning_of judged ≡ spec.prefixed c.in-Prefix.operator c.in-Prefix.span (meaning_of c.in-Ok-8.made)) (IsMeant (g.F.Finder.finds c.args.finder.now) c.args.source.now c.args.frame.now c.args.x.now)
    (λ judged is. λ choice chooses.
    cases.prefix_made choice (g.F.Finder.finds c.args.finder.now) c.args.source.now c.args.frame.now c.args.x.now c.in-Prefix.operator c.in-Prefix.x c.in-Prefix.span c.in-Prefix.is
    (meaning_of c.in-Ok-8.made) (judged_by meaning_of judged)
    (sym (ap meant c.in-Ok-8.is) ∙ c.in_ok-made-in-Prefix.ensures choice chooses ∙ ap (typed choice (g.F.Finder.finds c.args.finder.now) c.args.source.now c.args.frame.now) c.get-in-Prefix.ensures) is)
    c.prefixed.ensures

pub expression-returns-in-Err-9 : goal.expression-returns-in-Err-9
expression-returns-in-Err-9 g t c = λ choice chooses.
    cases.cast_ended choice (g.F.Finder.finds c.args.finder.now) c.args.source.now c.args.frame.now c.args.x.now c.in-Cast.of c.in-Cast.x c.in-Cast.span c.in-Cast.is
    c.in-Err-9.refusal
    (sym (ap given c.in-Err-9.is) ∙ c.in_ok-made-in-Cast.ensures choice chooses ∙ ap (typed_value choice (g.F.Finder.finds c.args.finder.now) c.args.source.now c.args.frame.now) c.get-in-Cast.ensures)

pub expression-returns-in-Ok-9 : goal.expression-returns-in-Ok-9
expression-returns-in-Ok-9 g t c =
    IfOk-weaker c.cast_to.result (λ judged. judged_by meaning_of judged ≡ spec.cast_to c.in-Cast.span c.written.result (value_of c.in-Ok-9.made)) (IsMeant (g.F.Finder.finds c.args.finder.now) c.args.source.now c.args.frame.now c.args.x.now)
    (λ judged is. λ choice chooses.
    cases.cast_made choice (g.F.Finder.finds c.args.finder.now) c.args.source.now c.args.frame.now c.args.x.now c.in-Cast.of c.in-Cast.x c.in-Cast.span c.in-Cast.is
    (value_of c.in-Ok-9.made) (judged_by meaning_of judged)
    (sym (ap given c.in-Ok-9.is) ∙ c.in_ok-made-in-Cast.ensures choice chooses ∙ ap (typed_value choice (g.F.Finder.finds c.args.finder.now) c.args.source.now c.args.frame.now) c.get-in-Cast.ensures) (is ∙ ap (λ (of : FundamentalType). spec.cast_to c.in-Cast.span of (value_of c.in-Ok-9.made)) c.written.ensures))
    c.cast_to.ensures

pub expression-returns-in-Err-10 : goal.expression-returns-in-Err-10
expression-returns-in-Err-10 g t c = λ choice chooses.
    cases.call_ended_first choice (g.F.Finder.finds c.args.finder.now) c.args.source.now c.args.frame.now c.args.x.now c.in-Call.x c.in-Call.items c.in-Call.span c.in-Call.is
    c.in-Err-10.refusal
    (sym (ap meant c.in-Err-10.is) ∙ c.in_ok-made-in-Call.ensures choice chooses ∙ ap (typed choice (g.F.Finder.finds c.args.finder.now) c.args.source.now c.args.frame.now) c.get-in-Call.ensures)

pub expression-returns-in-Err-11 : goal.expression-returns-in-Err-11
expression-returns-in-Err-11 g t c = λ choice chooses.
    cases.call_ended_second choice (g.F.Finder.finds c.args.finder.now) c.args.source.now c.args.frame.now c.args.x.now c.in-Call.x c.in-Call.items c.in-Call.span c.in-Call.is
    (meaning_of c.in-Ok-10.made) c.in-Err-11.refusal
    (sym (ap meant c.in-Ok-10.is) ∙ c.in_ok-made-in-Call.ensures choice chooses ∙ ap (typed choice (g.F.Finder.finds c.args.finder.now) c.args.source.now c.args.frame.now) c.get-in-Call.ensures) (sym (ap (λ judged. judged_by values_of judged) c.in-Err-11.is) ∙ c.in_ok-made-in-Call-2.ensures choice chooses)

pub expression-returns-in-Ok-11 : goal.expression-returns-in-Ok-11
expression-returns-in-Ok-11 g t c =
    IfOk-weaker c.call.result (λ judged. (choice : Pick) → Chooses c.args.source.now.classes choice → judged_by meaning_of judged ≡ spec.call choice c.in-Call.span c.args.source.now.functions (meaning_of c.in-Ok-10.made) (values_of c.in-Ok-11.made)) (IsMeant (g.F.Finder.finds c.args.finder.now) c.args.source.now c.args.frame.now c.args.x.now)
    (λ judged is. λ choice chooses.
    cases.call_made choice (g.F.Finder.finds c.args.finder.now) c.args.source.now c.args.frame.now c.args.x.now c.in-Call.x c.in-Call.items c.in-Call.span c.in-Call.is
    (meaning_of c.in-Ok-10.made) (values_of c.in-Ok-11.made) (judged_by meaning_of judged)
    (sym (ap meant c.in-Ok-10.is) ∙ c.in_ok-made-in-Call.ensures choice chooses ∙ ap (typed choice (g.F.Finder.finds c.args.finder.now) c.args.source.now c.args.frame.now) c.get-in-Call.ensures) (sym (ap (λ judged. judged_by values_of judged) c.in-Ok-11.is) ∙ c.in_ok-made-in-Call-2.ensures choice chooses) (is choice chooses))
    c.call.ensures

pub expression-returns-in-Err-12 : goal.expression-returns-in-Err-12
expression-returns-in-Err-12 g t c = λ choice chooses.
    cases.postfix_ended choice (g.F.Finder.finds c.args.finder.now) c.args.source.now c.args.frame.now c.args.x.now c.in-Postfix.x c.in-Postfix.operator c.in-Postfix.span c.in-Postfix.is
    c.in-Err-12.refusal
    (sym (ap meant c.in-Err-12.is) ∙ c.in_ok-made-in-Postfix.ensures choice chooses ∙ ap (typed choice (g.F.Finder.finds c.args.finder.now) c.args.source.now c.args.frame.now) c.get-in-Postfix.ensures)

pub expression-returns-in-Ok-12 : goal.expression-returns-in-Ok-12
expression-returns-in-Ok-12 g t c =
    IfOk-weaker c.postfixed.result (λ judged. judged_by meaning_of judged ≡ spec.postfixed c.in-Postfix.operator c.in-Postfix.span (meaning_of c.in-Ok-12.made)) (IsMeant (g.F.Finder.finds c.args.finder.now) c.args.source.now c.args.frame.now c.args.x.now)
    (λ judged is. λ choice chooses.
    cases.postfix_made choice (g.F.Finder.finds c.args.finder.now) c.args.source.now c.args.frame.now c.args.x.now c.in-Postfix.x c.in-Postfix.operator c.in-Postfix.span c.in-Postfix.is
    (meaning_of c.in-Ok-12.made) (judged_by meaning_of judged)
    (sym (ap meant c.in-Ok-12.is) ∙ c.in_ok-made-in-Postfix.ensures choice chooses ∙ ap (typed choice (g.F.Finder.finds c.args.finder.now) c.args.source.now c.args.frame.now) c.get-in-Postfix.ensures) is)
    c.postfixed.ensures

pub expression-returns-in-Err-13 : goal.expression-returns-in-Err-13
expression-returns-in-Err-13 g t c = λ choice chooses.
    cases.construct_ended choice (g.F.Finder.finds c.args.finder.now) c.args.source.now c.args.frame.now c.args.x.now c.in-Construct.of c.in-Construct.items c.in-Construct.span c.in-Construct.is
    c.in-Err-13.refusal
    (sym (ap (λ judged. judged_by values_of judged) c.in-Err-13.is) ∙ c.in_ok-made-in-Construct.ensures choice chooses)

pub expression-returns-in-Ok-13 : goal.expression-returns-in-Ok-13
expression-returns-in-Ok-13 g t c =
    IfOk-weaker c.constructed.result (λ judged. judged_by meaning_of judged ≡ spec.constructed c.in-Construct.span c.written-in-Construct.result (values_of c.in-Ok-13.made)) (IsMeant (g.F.Finder.finds c.args.finder.now) c.args.source.now c.args.frame.now c.args.x.now)
    (λ judged is. λ choice chooses.
    cases.construct_made choice (g.F.Finder.finds c.args.finder.now) c.args.source.now c.args.frame.now c.args.x.now c.in-Construct.of c.in-Construct.items c.in-Construct.span c.in-Construct.is
    (values_of c.in-Ok-13.made) (judged_by meaning_of judged)
    (sym (ap (λ judged. judged_by values_of judged) c.in-Ok-13.is) ∙ c.in_ok-made-in-Construct.ensures choice chooses) (is ∙ ap (λ (of : FundamentalType). spec.constructed c.in-Construct.span of (values_of c.in-Ok-13.made)) c.written-in-Construct.ensures))
    c.constructed.ensures

pub expression-returns-in-Err-14 : goal.expression-returns-in-Err-14
expression-returns-in-Err-14 g t c = λ choice chooses.
    cases.named_cast_ended choice (g.F.Finder.finds c.args.finder.now) c.args.source.now c.args.frame.now c.args.x.now c.in-NamedCast.word c.in-NamedCast.of c.in-NamedCast.x c.in-NamedCast.span c.in-NamedCast.is
    c.in-Err-14.refusal
    (sym (ap given c.in-Err-14.is) ∙ c.in_ok-made-in-NamedCast.ensures choice chooses ∙ ap (typed_value choice (g.F.Finder.finds c.args.finder.now) c.args.source.now c.args.frame.now) c.get-in-NamedCast.ensures)

pub expression-returns-in-Ok-14 : goal.expression-returns-in-Ok-14
expression-returns-in-Ok-14 g t c =
    IfOk-weaker c.named_cast.result (λ judged. judged_by meaning_of judged ≡ spec.named_cast c.in-NamedCast.word c.in-NamedCast.span c.written-in-NamedCast.result (value_of c.in-Ok-14.made)) (IsMeant (g.F.Finder.finds c.args.finder.now) c.args.source.now c.args.frame.now c.args.x.now)
    (λ judged is. λ choice chooses.
    cases.named_cast_made choice (g.F.Finder.finds c.args.finder.now) c.args.source.now c.args.frame.now c.args.x.now c.in-NamedCast.word c.in-NamedCast.of c.in-NamedCast.x c.in-NamedCast.span c.in-NamedCast.is
    (value_of c.in-Ok-14.made) (judged_by meaning_of judged)
    (sym (ap given c.in-Ok-14.is) ∙ c.in_ok-made-in-NamedCast.ensures choice chooses ∙ ap (typed_value choice (g.F.Finder.finds c.args.finder.now) c.args.source.now c.args.frame.now) c.get-in-NamedCast.ensures) (is ∙ ap (λ (of : FundamentalType). spec.named_cast c.in-NamedCast.word c.in-NamedCast.span of (value_of c.in-Ok-14.made)) c.written-in-NamedCast.ensures))
    c.named_cast.ensures

pub value-returns-in-Err : goal.value-returns-in-Err
value-returns-in-Err g t c = λ choice chooses. ended (typed choice (g.F.Finder.finds c.args.finder.now) c.args.source.now c.args.frame.now c.args.x.now) c.in-Err.refusal as_value (sym (ap meant c.in-Err.is) ∙ c.in_ok-made.ensures choice chooses)

pub value-returns : goal.value-returns
value-returns g t c = λ choice chooses.
    went (typed choice (g.F.Finder.finds c.args.finder.now) c.args.source.now c.args.frame.now c.args.x.now) (meaning_of c.in-Ok.made) as_value (judged_by value_of c.as_value.result) (sym (ap meant c.in-Ok.is) ∙ c.in_ok-made.ensures choice chooses) c.as_value.ensures

pub operand-returns-in-Err : goal.operand-returns-in-Err
operand-returns-in-Err g t c = λ choice chooses. ended (typed choice (g.F.Finder.finds c.args.finder.now) c.args.source.now c.args.frame.now c.args.x.now) c.in-Err.refusal as_operand (sym (ap meant c.in-Err.is) ∙ c.in_ok-made.ensures choice chooses)

pub operand-returns : goal.operand-returns
operand-returns g t c = λ choice chooses.
    went (typed choice (g.F.Finder.finds c.args.finder.now) c.args.source.now c.args.frame.now c.args.x.now) (meaning_of c.in-Ok.made) as_operand (judged_by meaning_of c.as_operand.result) (sym (ap meant c.in-Ok.is) ∙ c.in_ok-made.ensures choice chooses) c.as_operand.ensures

pub values-returns-in-Err : goal.values-returns-in-Err
values-returns-in-Err g t c = λ choice chooses.
    row_ended choice (g.F.Finder.finds c.args.finder.now) c.args.source.now c.args.frame.now c.args.items.now c.loop-x.x-index c.loop-x.values (c.loop-x.invariant choice chooses) c.x-item.result (omega arith) c.x-item.is c.in-Err.refusal (sym (ap given c.in-Err.is) ∙ c.in_ok-made.ensures choice chooses)

pub values-loop-x-preserved : goal.values-loop-x-preserved
values-loop-x-preserved g t c = λ choice chooses.
    ap (λ (known : List Given). all_values (values_of known) (map (typed choice (g.F.Finder.finds c.args.finder.now) c.args.source.now c.args.frame.now) (drop (c.loop-x.x-index + 1) c.args.items.now))) c.in_ok-push.ensures.ok
    ∙ row_went choice (g.F.Finder.finds c.args.finder.now) c.args.source.now c.args.frame.now c.args.items.now c.loop-x.x-index c.loop-x.values (c.loop-x.invariant choice chooses) c.x-item.result (omega arith) c.x-item.is c.in-Ok.made (sym (ap given c.in-Ok.is) ∙ c.in_ok-made.ensures choice chooses)

pub values-returns : goal.values-returns
values-returns g t c = λ choice chooses. row_done choice (g.F.Finder.finds c.args.finder.now) c.args.source.now c.args.frame.now c.args.items.now c.loop-x.x-index c.loop-x.values (c.loop-x.invariant choice chooses) (omega arith)

pub arguments-returns : goal.arguments-returns
arguments-returns g t c =
    IfOk-weaker c.values.result
    (λ judged. (choice : Pick) → Chooses c.args.source.now.classes choice → judged_by values_of judged ≡ all_values [] (map (typed choice (g.F.Finder.finds c.args.finder.now) c.args.source.now c.args.frame.now) c.as_slice.result.now))
    (λ judged. (choice : Pick) → Chooses c.args.source.now.classes choice → judged_by values_of judged ≡ typed_arguments choice (g.F.Finder.finds c.args.finder.now) c.args.source.now c.args.frame.now c.args.arguments.now)
    (λ judged is. λ choice chooses. is choice chooses ∙ ap (λ (items : List Expression). all_values [] (map (typed choice (g.F.Finder.finds c.args.finder.now) c.args.source.now c.args.frame.now) items)) c.as_slice.ensures ∙ arguments_are choice (g.F.Finder.finds c.args.finder.now) c.args.source.now c.args.frame.now c.args.arguments.now)
    c.values.ensures

pub expression-returns-in-Group : goal.expression-returns-in-Group
expression-returns-in-Group g t c =
    IfOk-weaker c.expression-in-Group.result (IsMeant (g.F.Finder.finds c.args.finder.now) c.args.source.now c.args.frame.now c.get-in-Group.result.now) (IsMeant (g.F.Finder.finds c.args.finder.now) c.args.source.now c.args.frame.now c.args.x.now)
    (λ judged is. λ choice chooses. is choice chooses ∙ ap (typed choice (g.F.Finder.finds c.args.finder.now) c.args.source.now c.args.frame.now) c.get-in-Group.ensures ∙ sym (cases.group_is choice (g.F.Finder.finds c.args.finder.now) c.args.source.now c.args.frame.now c.args.x.now c.in-Group.x _ c.in-Group.is))
    c.expression-in-Group.ensures
