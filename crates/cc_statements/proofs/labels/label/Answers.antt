use Rattle.std.proofs.Common.{◌≡◌, refl, sym, ap, ◌∙◌, [], ◌∷◌, Option, Some, None, option_map, Ok, Err}
use Rattle.cc_core.specs.Bare.{term_of}
use Rattle.cc_core.specs.Step as step
use Rattle.cc_operations.specs.declared.judged.Given.{Given}
use Rattle.cc_operations.specs.Judgements.{Judged, next, Value, judged_by, value_of}
use Rattle.cc_operations.specs.Operations.{converted}
use Rattle.cc_terms.specs.Terms.{typed_value}
use Rattle.cc_statements.specs.Steps.{case_of, label_bits, label_of}
use Rattle.cc_statements.proofs.Going.{ended, went}
use Rattle.cc_statements.proofs.labels.label.Goals as goal

pub returns-in-Err : goal.returns-in-Err
returns-in-Err g c = λ choice chooses.
    ended (typed_value choice (g.F.Finder.finds c.args.finder.now) c.args.source.now c.args.frame.now c.in-Case.x) c.in-Err.refusal (λ given. case_of c.in-Case.span (label_bits c.args.operand given))
    (sym (ap (λ (j : Judged Given). judged_by value_of j) c.in-Err.is) ∙ c.in_ok-made-in-Case.ensures choice chooses)
    ∙ sym (ap (label_of choice (g.F.Finder.finds c.args.finder.now) c.args.source.now c.args.operand c.args.frame.now) c.in-Case.is)

pub returns-in-Ok : goal.returns-in-Ok
returns-in-Ok g c = λ choice chooses.
    went (typed_value choice (g.F.Finder.finds c.args.finder.now) c.args.source.now c.args.frame.now c.in-Case.x) (value_of c.in-Ok.made) (λ given. case_of c.in-Case.span (label_bits c.args.operand given)) c.case_of.result
    (sym (ap (λ (j : Judged Given). judged_by value_of j) c.in-Ok.is) ∙ c.in_ok-made-in-Case.ensures choice chooses)
    (c.case_of.ensures ∙ ap (case_of c.in-Case.span) c.label_bits.ensures)
    ∙ sym (ap (label_of choice (g.F.Finder.finds c.args.finder.now) c.args.source.now c.args.operand c.args.frame.now) c.in-Case.is)
