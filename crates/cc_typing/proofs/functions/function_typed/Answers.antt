use Rattle.std.proofs.Common.{sym, ap, ◌∙◌}
use Rattle.std.specs.List.{list_any}
use Rattle.cc_core.specs.Bare.{step_of}
use Rattle.cc_operations.specs.Judgements.{next, judged_by}
use Rattle.cc_operations.specs.Numbers.{is_void}
use Rattle.cc_operations.specs.Operations.{no_conversion}
use Rattle.cc_statements.specs.Steps.{scope, block_part}
use Rattle.cc_typing.specs.Told.{told}
use Rattle.cc_typing_laws.specs.Functions as spec
use Rattle.cc_typing.proofs.Going.{went, otherwise, gave_with}
use Rattle.cc_typing.proofs.functions.function_typed.Goals as goal

pub returns : goal.returns
returns g c = λ choice chooses.
    otherwise (list_any is_void (spec.parameter_types c.args.one.now.function.now)) (no_conversion c.args.one.now.function.now.span)
    (next (scope (block_part choice (g.F.Finder.finds c.args.finder.now) c.args.source.now c.args.one.now.body.now) spec.outermost (spec.frame_of (told c.args.one.now) c.args.scope)) (λ made. spec.ended (told c.args.one.now) c.args.number made.0 made.1))
    (judged_by spec.told_body c.in_ok-typed.typed)
    (sym c.takes_void.ensures ∙ c.if-takes_void.false)
    (went (scope (block_part choice (g.F.Finder.finds c.args.finder.now) c.args.source.now c.args.one.now.body.now) spec.outermost (spec.frame_of (told c.args.one.now) c.args.scope))
    (step_of c.in-Ok.made, c.block.new.frame) (λ made. spec.ended (told c.args.one.now) c.args.number made.0 made.1) (judged_by spec.told_body c.in_ok-typed.typed)
    (gave_with step_of _ c.in-Ok.made _ _ c.in-Ok.is (c.in_ok-made.ensures choice chooses)
    ∙ ap (λ frame. scope (block_part choice (g.F.Finder.finds c.args.finder.now) c.args.source.now c.args.one.now.body.now) spec.outermost frame) c.in_ok-frame.ensures)
    c.in_ok-typed.ensures)
