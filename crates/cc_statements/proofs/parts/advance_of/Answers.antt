use Rattle.std.proofs.Common.{◌≡◌, refl, sym, ap, ◌∙◌, [], ◌∷◌, Option, Some, None, option_map, Ok, Err}
use Rattle.cc_core.specs.Bare.{term_of}
use Rattle.cc_core.specs.Step as step
use Rattle.cc_operations.specs.declared.judged.Given.{Given}
use Rattle.cc_operations.specs.Judgements.{Judged, next, Value, judged_by, value_of}
use Rattle.cc_operations.specs.Operations.{converted}
use Rattle.cc_terms.specs.Terms.{typed_value}
use Rattle.cc_statements.specs.Steps.{advance_of}
use Rattle.cc_statements.proofs.Going.{ended, went}
use Rattle.cc_statements.proofs.parts.advance_of.Goals as goal
use Rattle.cc_tree.specs.declared.expression.Expression.{Expression}

pub returns-in-Err : goal.returns-in-Err
returns-in-Err g c = λ choice chooses.
    ended (typed_value choice (g.F.Finder.finds c.args.finder.now) c.args.source.now c.args.frame.now c.in-Some.x) c.in-Err.refusal (λ given. Ok (Some given.term))
    (sym (ap (λ (j : Judged Given). judged_by value_of j) c.in-Err.is) ∙ c.in_ok-made-in-Some.ensures choice chooses)
    ∙ sym (ap (λ (o : Option Expression). advance_of choice (g.F.Finder.finds c.args.finder.now) c.args.source.now o c.args.frame.now) c.in-Some.is)

pub returns-in-Ok : goal.returns-in-Ok
returns-in-Ok g c = λ choice chooses.
    went (typed_value choice (g.F.Finder.finds c.args.finder.now) c.args.source.now c.args.frame.now c.in-Some.x) (value_of c.in-Ok.made) (λ given. Ok (Some given.term)) (Ok (Some (term_of c.in-Ok.made.term)))
    (sym (ap (λ (j : Judged Given). judged_by value_of j) c.in-Ok.is) ∙ c.in_ok-made-in-Some.ensures choice chooses)
    refl
    ∙ sym (ap (λ (o : Option Expression). advance_of choice (g.F.Finder.finds c.args.finder.now) c.args.source.now o c.args.frame.now) c.in-Some.is)
