use Rattle.std.proofs.Common.{◌≡◌, refl, sym, ap, ◌∙◌, [], ◌∷◌, Option, Some, None, option_map, Ok, Err}
use Rattle.cc_core.specs.Bare.{term_of}
use Rattle.cc_core.specs.Step as step
use Rattle.cc_operations.specs.declared.judged.Given.{Given}
use Rattle.cc_operations.specs.Judgements.{Judged, next, Value, judged_by, value_of}
use Rattle.cc_operations.specs.Operations.{converted}
use Rattle.cc_terms.specs.Terms.{typed_value}
use Rattle.cc_statements.specs.Steps.{steps_bare}
use Rattle.cc_statements.proofs.Going.{ended, went}
use Rattle.cc_statements.proofs.parts.done_alone.Goals as goal

pub returns-in-Err : goal.returns-in-Err
returns-in-Err g c = λ choice chooses.
    ended (typed_value choice (g.F.Finder.finds c.args.finder.now) c.args.source.now c.args.frame.now c.args.x.now) c.in-Err.refusal (λ given. Ok (step.Do given.term ∷ []))
    (sym (ap (λ (j : Judged Given). judged_by value_of j) c.in-Err.is) ∙ c.in_ok-made.ensures choice chooses)

pub returns : goal.returns
returns g c = λ choice chooses.
    went (typed_value choice (g.F.Finder.finds c.args.finder.now) c.args.source.now c.args.frame.now c.args.x.now) (value_of c.in-Ok.made) (λ given. Ok (step.Do given.term ∷ [])) _
    (sym (ap (λ (j : Judged Given). judged_by value_of j) c.in-Ok.is) ∙ c.in_ok-made.ensures choice chooses)
    (ap Ok c.in_ok-only.ensures)
