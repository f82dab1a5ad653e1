use Rattle.std.proofs.Common.{◌≡◌, refl, sym, ap, ◌∙◌, [], ◌∷◌, Option, Some, None, option_map, Ok, Err}
use Rattle.cc_core.specs.Bare.{term_of}
use Rattle.cc_core.specs.Step as step
use Rattle.cc_operations.specs.declared.judged.Given.{Given}
use Rattle.cc_operations.specs.Judgements.{Judged, next, Value, judged_by, value_of}
use Rattle.cc_operations.specs.Operations.{converted}
use Rattle.cc_terms.specs.Terms.{typed_value}
use Rattle.cc_statements.specs.Steps.{initial_value}
use Rattle.cc_statements.proofs.Going.{ended, went}
use Rattle.cc_statements.proofs.parts.initial_value.Goals as goal
use Rattle.cc_tree.specs.declared.statement.Initializer.{Initializer}

pub returns-in-Err : goal.returns-in-Err
returns-in-Err g c = λ choice chooses.
    ended (typed_value choice (g.F.Finder.finds c.args.finder.now) c.args.source.now c.args.frame.now c.in-Value.x) c.in-Err.refusal (λ given. next (converted c.args.span c.args.of given) (λ made. Ok (Some made.term)))
    (sym (ap (λ (j : Judged Given). judged_by value_of j) c.in-Err.is) ∙ c.in_ok-made-in-Value.ensures choice chooses)
    ∙ sym (ap (λ (o : Initializer). initial_value choice (g.F.Finder.finds c.args.finder.now) c.args.source.now c.args.of c.args.span o c.args.frame.now) c.in-Value.is)

pub returns-in-Err-2 : goal.returns-in-Err-2
returns-in-Err-2 g c = λ choice chooses.
    went (typed_value choice (g.F.Finder.finds c.args.finder.now) c.args.source.now c.args.frame.now c.in-Value.x) (value_of c.in-Ok.made) (λ given. next (converted c.args.span c.args.of given) (λ made. Ok (Some made.term))) _
    (sym (ap (λ (j : Judged Given). judged_by value_of j) c.in-Ok.is) ∙ c.in_ok-made-in-Value.ensures choice chooses)
    (ended (converted c.args.span c.args.of (value_of c.in-Ok.made)) c.in-Err-2.refusal (λ made. Ok (Some made.term)) (sym (ap (λ (j : Judged Given). judged_by value_of j) c.in-Err-2.is) ∙ c.in_ok-made-in-Value-2.ensures))
    ∙ sym (ap (λ (o : Initializer). initial_value choice (g.F.Finder.finds c.args.finder.now) c.args.source.now c.args.of c.args.span o c.args.frame.now) c.in-Value.is)

pub returns-in-Ok-2 : goal.returns-in-Ok-2
returns-in-Ok-2 g c = λ choice chooses.
    went (typed_value choice (g.F.Finder.finds c.args.finder.now) c.args.source.now c.args.frame.now c.in-Value.x) (value_of c.in-Ok.made) (λ given. next (converted c.args.span c.args.of given) (λ made. Ok (Some made.term))) _
    (sym (ap (λ (j : Judged Given). judged_by value_of j) c.in-Ok.is) ∙ c.in_ok-made-in-Value.ensures choice chooses)
    (went (converted c.args.span c.args.of (value_of c.in-Ok.made)) (value_of c.in-Ok-2.made) (λ made. Ok (Some made.term)) _ (sym (ap (λ (j : Judged Given). judged_by value_of j) c.in-Ok-2.is) ∙ c.in_ok-made-in-Value-2.ensures) refl)
    ∙ sym (ap (λ (o : Initializer). initial_value choice (g.F.Finder.finds c.args.finder.now) c.args.source.now c.args.of c.args.span o c.args.frame.now) c.in-Value.is)
