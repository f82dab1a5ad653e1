use Rattle.std.proofs.Common.{◌≡◌, ◌+◌, eqb, sym, ap, ◌∙◌, refl, arith, [], ◌∷◌, ◌++◌, length, map, Option, None, Some, option_map, Ok, Err, List}
use Rattle.cc_base.specs.declared.identifiers.LocalId.{LocalId}
use Rattle.cc_tree.specs.declared.statement.Label.{Label}
use Rattle.cc_statements.specs.declared.stand.Stand.{Stand}
use Rattle.cc_tree.specs.declared.statement.Section.{Section}
use Rattle.cc_tree.specs.declared.statement.Statement.{Statement}
use Rattle.cc_core.specs.declared.tree.SwitchLabel.{SwitchLabel}
use Rattle.cc_tree.specs.declared.type_name.FundamentalType.{FundamentalType}
use Rattle.cc_core.specs.Bare.{step_of, term_of}
use Rattle.cc_core.specs.Step as step
use Rattle.cc_core.specs.Step.{Step}
use Rattle.cc_core.specs.declared.tree.Statement as made_statement
use Rattle.cc_core.specs.declared.tree.LoopKind.TheVariants.{TestFirst, BodyFirst}
use Rattle.cc_operations.specs.declared.judged.Given.{Given}
use Rattle.cc_operations.specs.Judgements.{Judged, next, Value, judged_by, value_of}
use Rattle.cc_operations.specs.Operations.{no_conversion}
use Rattle.cc_statements.specs.Steps as spec
use Rattle.cc_statements.proofs.Exits as exit
use Rattle.cc_statements.proofs.Forms as form
use Rattle.cc_statements.proofs.Going.{gone, gave, gone_with, gave_with, same, led, joined}
use Rattle.cc_statements.proofs.Rows as row
use Rattle.cc_statements.proofs.statements.+statement.Goals as goal

-- ---- a scope

pub scope-returns-in-Err : goal.scope-returns-in-Err
scope-returns-in-Err g t c =
    let f = g.F.Finder.finds c.args.finder.now in
    λ choice chooses.
    exit.scope_gone (spec.statement_part choice f c.args.source.now c.args.one.now) c.args.stand c.args.frame.now c.in-Err.refusal
    (gone_with spec.steps_bare _ c.in-Err.refusal c.statement.new.frame _ c.in-Err.is (c.in_ok-made.ensures choice chooses)
    ∙ ap (λ (s : Stand). spec.statement_part choice f c.args.source.now c.args.one.now s c.args.frame.now) c.inside.ensures)

pub scope-returns : goal.scope-returns
scope-returns g t c =
    let f = g.F.Finder.finds c.args.finder.now in
    λ choice chooses.
    exit.scope_made (spec.statement_part choice f c.args.source.now c.args.one.now) c.args.stand c.args.frame.now (spec.steps_bare c.in-Ok.made) c.statement.new.frame _ _
    (gave_with spec.steps_bare _ c.in-Ok.made c.statement.new.frame _ c.in-Ok.is (c.in_ok-made.ensures choice chooses)
    ∙ ap (λ (s : Stand). spec.statement_part choice f c.args.source.now c.args.one.now s c.args.frame.now) c.inside.ensures)
    c.block_of.ensures
    (c.leave.ensures ∙ ap (λ n. spec.with_first n c.statement.new.frame) c.len-count.ensures)

-- ---- a `while`

pub while_loop-returns-in-Err : goal.while_loop-returns-in-Err
while_loop-returns-in-Err g t c =
    let f = g.F.Finder.finds c.args.finder.now in
    λ choice chooses.
    exit.while_gone choice f c.args.source.now c.args.x.now (spec.statement_part choice f c.args.source.now c.args.body.now) c.args.span c.args.stand c.args.frame.now c.in-Err.refusal
    (gone value_of _ c.in-Err.refusal _ c.in-Err.is (c.in_ok-made.ensures choice chooses))

pub while_loop-returns-in-Err-2 : goal.while_loop-returns-in-Err-2
while_loop-returns-in-Err-2 g t c =
    let f = g.F.Finder.finds c.args.finder.now in
    λ choice chooses.
    exit.while_body_gone choice f c.args.source.now c.args.x.now (spec.statement_part choice f c.args.source.now c.args.body.now) c.args.span c.args.stand c.args.frame.now (value_of c.in-Ok.made) c.in-Err-2.refusal
    (gave value_of _ c.in-Ok.made _ c.in-Ok.is (c.in_ok-made.ensures choice chooses))
    (gone_with step_of _ c.in-Err-2.refusal c.scope.new.frame _ c.in-Err-2.is (c.in_ok-made-2.ensures choice chooses)
    ∙ ap (λ (s : Stand). spec.scope (spec.statement_part choice f c.args.source.now c.args.body.now) s c.args.frame.now) c.in_loop.ensures)

pub while_loop-returns : goal.while_loop-returns
while_loop-returns g t c =
    let f = g.F.Finder.finds c.args.finder.now in
    led spec.steps_bare c.loop_of.result c.scope.new.frame c.args.source.now.classes (spec.tested c.args.span c.in-Ok.made.of (step.Loop TestFirst (term_of c.in-Ok.made.term) None (step_of c.in-Ok-2.made)))
    (λ choice. spec.while_loop choice f c.args.source.now c.args.x.now (spec.statement_part choice f c.args.source.now c.args.body.now) c.args.span c.args.stand c.args.frame.now)
    (λ made is choice chooses.
    exit.while_made choice f c.args.source.now c.args.x.now (spec.statement_part choice f c.args.source.now c.args.body.now) c.args.span c.args.stand c.args.frame.now (value_of c.in-Ok.made) (step_of c.in-Ok-2.made) _ made
    (gave value_of _ c.in-Ok.made _ c.in-Ok.is (c.in_ok-made.ensures choice chooses))
    (gave_with step_of _ c.in-Ok-2.made c.scope.new.frame _ c.in-Ok-2.is (c.in_ok-made-2.ensures choice chooses)
    ∙ ap (λ (s : Stand). spec.scope (spec.statement_part choice f c.args.source.now c.args.body.now) s c.args.frame.now) c.in_loop.ensures)
    is)
    c.loop_of.ensures

-- ---- a `do`

pub do_loop-returns-in-Err : goal.do_loop-returns-in-Err
do_loop-returns-in-Err g t c =
    let f = g.F.Finder.finds c.args.finder.now in
    λ choice chooses.
    exit.do_gone choice f c.args.source.now (spec.statement_part choice f c.args.source.now c.args.body.now) c.args.x.now c.args.span c.args.stand c.args.frame.now c.in-Err.refusal
    (gone_with step_of _ c.in-Err.refusal c.scope.new.frame _ c.in-Err.is (c.in_ok-made.ensures choice chooses)
    ∙ ap (λ (s : Stand). spec.scope (spec.statement_part choice f c.args.source.now c.args.body.now) s c.args.frame.now) c.in_loop.ensures)

pub do_loop-returns-in-Err-2 : goal.do_loop-returns-in-Err-2
do_loop-returns-in-Err-2 g t c =
    let f = g.F.Finder.finds c.args.finder.now in
    λ choice chooses.
    exit.do_test_gone choice f c.args.source.now (spec.statement_part choice f c.args.source.now c.args.body.now) c.args.x.now c.args.span c.args.stand c.args.frame.now (step_of c.in-Ok.made) _ c.in-Err-2.refusal
    (gave_with step_of _ c.in-Ok.made c.scope.new.frame _ c.in-Ok.is (c.in_ok-made.ensures choice chooses)
    ∙ ap (λ (s : Stand). spec.scope (spec.statement_part choice f c.args.source.now c.args.body.now) s c.args.frame.now) c.in_loop.ensures)
    (gone value_of _ c.in-Err-2.refusal _ c.in-Err-2.is (c.in_ok-made-2.ensures choice chooses))

pub do_loop-returns : goal.do_loop-returns
do_loop-returns g t c =
    let f = g.F.Finder.finds c.args.finder.now in
    led spec.steps_bare c.loop_of.result c.scope.new.frame c.args.source.now.classes (spec.tested c.args.span c.in-Ok-2.made.of (step.Loop BodyFirst (term_of c.in-Ok-2.made.term) None (step_of c.in-Ok.made)))
    (λ choice. spec.do_loop choice f c.args.source.now (spec.statement_part choice f c.args.source.now c.args.body.now) c.args.x.now c.args.span c.args.stand c.args.frame.now)
    (λ made is choice chooses.
    exit.do_made choice f c.args.source.now (spec.statement_part choice f c.args.source.now c.args.body.now) c.args.x.now c.args.span c.args.stand c.args.frame.now (step_of c.in-Ok.made) _ (value_of c.in-Ok-2.made) made
    (gave_with step_of _ c.in-Ok.made c.scope.new.frame _ c.in-Ok.is (c.in_ok-made.ensures choice chooses)
    ∙ ap (λ (s : Stand). spec.scope (spec.statement_part choice f c.args.source.now c.args.body.now) s c.args.frame.now) c.in_loop.ensures)
    (gave value_of _ c.in-Ok-2.made _ c.in-Ok-2.is (c.in_ok-made-2.ensures choice chooses))
    is)
    c.loop_of.ensures

-- ---- a `for`

pub for_loop-returns-in-Err : goal.for_loop-returns-in-Err
for_loop-returns-in-Err g t c =
    let f = g.F.Finder.finds c.args.finder.now in
    λ choice chooses.
    exit.for_gone choice f c.args.source.now c.args.start.now c.args.condition.now c.args.advance.now (spec.statement_part choice f c.args.source.now c.args.body.now) c.args.span c.args.stand c.args.frame.now c.in-Err.refusal
    (gone_with spec.steps_bare _ c.in-Err.refusal c.started.new.frame _ c.in-Err.is (c.in_ok-made.ensures choice chooses))

pub for_loop-returns-in-Err-2 : goal.for_loop-returns-in-Err-2
for_loop-returns-in-Err-2 g t c =
    let f = g.F.Finder.finds c.args.finder.now in
    λ choice chooses.
    exit.for_test_gone choice f c.args.source.now c.args.start.now c.args.condition.now c.args.advance.now (spec.statement_part choice f c.args.source.now c.args.body.now) c.args.span c.args.stand c.args.frame.now
    (spec.steps_bare c.in-Ok.made) _ c.in-Err-2.refusal
    (gave_with spec.steps_bare _ c.in-Ok.made c.started.new.frame _ c.in-Ok.is (c.in_ok-made.ensures choice chooses))
    (gone value_of _ c.in-Err-2.refusal _ c.in-Err-2.is (c.in_ok-made-2.ensures choice chooses))

pub for_loop-returns-in-Err-3 : goal.for_loop-returns-in-Err-3
for_loop-returns-in-Err-3 g t c =
    let f = g.F.Finder.finds c.args.finder.now in
    λ choice chooses.
    exit.for_advance_gone choice f c.args.source.now c.args.start.now c.args.condition.now c.args.advance.now (spec.statement_part choice f c.args.source.now c.args.body.now) c.args.span c.args.stand c.args.frame.now
    (spec.steps_bare c.in-Ok.made) _ (value_of c.in-Ok-2.made) c.in-Err-3.refusal
    (gave_with spec.steps_bare _ c.in-Ok.made c.started.new.frame _ c.in-Ok.is (c.in_ok-made.ensures choice chooses))
    (gave value_of _ c.in-Ok-2.made _ c.in-Ok-2.is (c.in_ok-made-2.ensures choice chooses))
    (gone (option_map term_of) _ c.in-Err-3.refusal _ c.in-Err-3.is (c.in_ok-made-3.ensures choice chooses))

pub for_loop-returns-in-Err-4 : goal.for_loop-returns-in-Err-4
for_loop-returns-in-Err-4 g t c =
    let f = g.F.Finder.finds c.args.finder.now in
    λ choice chooses.
    exit.for_body_gone choice f c.args.source.now c.args.start.now c.args.condition.now c.args.advance.now (spec.statement_part choice f c.args.source.now c.args.body.now) c.args.span c.args.stand c.args.frame.now
    (spec.steps_bare c.in-Ok.made) _ (value_of c.in-Ok-2.made) (option_map term_of c.in-Ok-3.made) c.in-Err-4.refusal
    (gave_with spec.steps_bare _ c.in-Ok.made c.started.new.frame _ c.in-Ok.is (c.in_ok-made.ensures choice chooses))
    (gave value_of _ c.in-Ok-2.made _ c.in-Ok-2.is (c.in_ok-made-2.ensures choice chooses))
    (gave (option_map term_of) _ c.in-Ok-3.made _ c.in-Ok-3.is (c.in_ok-made-3.ensures choice chooses))
    (gone_with step_of _ c.in-Err-4.refusal c.scope.new.frame _ c.in-Err-4.is (c.in_ok-made-4.ensures choice chooses)
    ∙ ap (λ (s : Stand). spec.scope (spec.statement_part choice f c.args.source.now c.args.body.now) s c.started.new.frame) c.in_loop.ensures)

pub for_loop-returns-in-Err-5 : goal.for_loop-returns-in-Err-5
for_loop-returns-in-Err-5 g t c =
    let f = g.F.Finder.finds c.args.finder.now in
    λ choice chooses.
    exit.for_turns_gone choice f c.args.source.now c.args.start.now c.args.condition.now c.args.advance.now (spec.statement_part choice f c.args.source.now c.args.body.now) c.args.span c.args.stand c.args.frame.now
    (spec.steps_bare c.in-Ok.made) _ (value_of c.in-Ok-2.made) (option_map term_of c.in-Ok-3.made) (step_of c.in-Ok-4.made) _ c.in-Err-5.refusal
    (gave_with spec.steps_bare _ c.in-Ok.made c.started.new.frame _ c.in-Ok.is (c.in_ok-made.ensures choice chooses))
    (gave value_of _ c.in-Ok-2.made _ c.in-Ok-2.is (c.in_ok-made-2.ensures choice chooses))
    (gave (option_map term_of) _ c.in-Ok-3.made _ c.in-Ok-3.is (c.in_ok-made-3.ensures choice chooses))
    (gave_with step_of _ c.in-Ok-4.made c.scope.new.frame _ c.in-Ok-4.is (c.in_ok-made-4.ensures choice chooses)
    ∙ ap (λ (s : Stand). spec.scope (spec.statement_part choice f c.args.source.now c.args.body.now) s c.started.new.frame) c.in_loop.ensures)
    (gone spec.steps_bare _ c.in-Err-5.refusal _ c.in-Err-5.is c.in_ok-made-5.ensures)

pub for_loop-returns : goal.for_loop-returns
for_loop-returns g t c =
    let f = g.F.Finder.finds c.args.finder.now in
    λ choice chooses.
    exit.for_made choice f c.args.source.now c.args.start.now c.args.condition.now c.args.advance.now (spec.statement_part choice f c.args.source.now c.args.body.now) c.args.span c.args.stand c.args.frame.now
    (spec.steps_bare c.in-Ok.made) _ (value_of c.in-Ok-2.made) (option_map term_of c.in-Ok-3.made) (step_of c.in-Ok-4.made) _ (spec.steps_bare c.in-Ok-5.made) _ _
    (gave_with spec.steps_bare _ c.in-Ok.made c.started.new.frame _ c.in-Ok.is (c.in_ok-made.ensures choice chooses))
    (gave value_of _ c.in-Ok-2.made _ c.in-Ok-2.is (c.in_ok-made-2.ensures choice chooses))
    (gave (option_map term_of) _ c.in-Ok-3.made _ c.in-Ok-3.is (c.in_ok-made-3.ensures choice chooses))
    (gave_with step_of _ c.in-Ok-4.made c.scope.new.frame _ c.in-Ok-4.is (c.in_ok-made-4.ensures choice chooses)
    ∙ ap (λ (s : Stand). spec.scope (spec.statement_part choice f c.args.source.now c.args.body.now) s c.started.new.frame) c.in_loop.ensures)
    (gave spec.steps_bare _ c.in-Ok-5.made _ c.in-Ok-5.is c.in_ok-made-5.ensures)
    (c.in_ok-only.ensures ∙ ap (λ (m : Step). m ∷ []) (c.block_of.ensures
    ∙ ap (λ (all : List made_statement.Statement). step.Block (spec.steps_from (spec.steps_bare all))) c.in_ok-append.ensures
    ∙ ap (λ (all : List Step). step.Block (spec.steps_from all)) (row.steps_joined c.in-Ok.made c.in-Ok-5.made)))
    (c.leave.ensures ∙ ap (λ n. spec.with_first n c.scope.new.frame) c.len-count.ensures)

-- ---- a switch

pub switch-returns-in-Err : goal.switch-returns-in-Err
switch-returns-in-Err g t c =
    let f = g.F.Finder.finds c.args.finder.now in
    λ choice chooses.
    exit.switch_gone choice f c.args.source.now c.args.x.now (map (spec.branch_of choice f c.args.source.now) c.args.items.now) c.args.span c.args.stand c.args.frame.now c.in-Err.refusal
    (gone value_of _ c.in-Err.refusal _ c.in-Err.is (c.in_ok-made.ensures choice chooses))

pub switch-returns-in-Err-2 : goal.switch-returns-in-Err-2
switch-returns-in-Err-2 g t c =
    let f = g.F.Finder.finds c.args.finder.now in
    λ choice chooses.
    exit.switch_sections_gone choice f c.args.source.now c.args.x.now (map (spec.branch_of choice f c.args.source.now) c.args.items.now) c.args.span c.args.stand c.args.frame.now (value_of c.in-Ok.made) _ c.in-Err-2.refusal
    (gave value_of _ c.in-Ok.made _ c.in-Ok.is (c.in_ok-made.ensures choice chooses))
    (c.in_ok-local.ensures.added ∙ ap (λ (of : FundamentalType). spec.with_temporary of c.args.frame.now) c.promoted.ensures)
    (gone_with spec.sections_bare _ c.in-Err-2.refusal c.sections.new.frame _ c.in-Err-2.is (c.in_ok-made-2.ensures choice chooses)
    ∙ ap (λ (of : FundamentalType). spec.sections choice f c.args.source.now of [] (map (spec.branch_of choice f c.args.source.now) c.args.items.now) [] c.args.stand c.add_temporary.new.frame) c.compared-operand.ensures)

pub switch-returns : goal.switch-returns
switch-returns g t c =
    let f = g.F.Finder.finds c.args.finder.now in
    led spec.steps_bare c.switch_of.result c.sections.new.frame c.args.source.now.classes (spec.switch_made c.args.span c.in_ok-local.local (value_of c.in-Ok.made) (spec.sections_bare c.in-Ok-2.made))
    (λ choice. spec.switch choice f c.args.source.now c.args.x.now (map (spec.branch_of choice f c.args.source.now) c.args.items.now) c.args.span c.args.stand c.args.frame.now)
    (λ made is choice chooses.
    exit.switch_all_made choice f c.args.source.now c.args.x.now (map (spec.branch_of choice f c.args.source.now) c.args.items.now) c.args.span c.args.stand c.args.frame.now (value_of c.in-Ok.made) _ (spec.sections_bare c.in-Ok-2.made) _ made
    (gave value_of _ c.in-Ok.made _ c.in-Ok.is (c.in_ok-made.ensures choice chooses))
    (c.in_ok-local.ensures.added ∙ ap (λ (of : FundamentalType). spec.with_temporary of c.args.frame.now) c.promoted.ensures)
    (gave_with spec.sections_bare _ c.in-Ok-2.made c.sections.new.frame _ c.in-Ok-2.is (c.in_ok-made-2.ensures choice chooses)
    ∙ ap (λ (of : FundamentalType). spec.sections choice f c.args.source.now of [] (map (spec.branch_of choice f c.args.source.now) c.args.items.now) [] c.args.stand c.add_temporary.new.frame) c.compared-operand.ensures)
    (is ∙ ap (λ (l : LocalId). spec.switch_made c.args.span l (value_of c.in-Ok.made) (spec.sections_bare c.in-Ok-2.made)) c.in_ok-local.ensures.number))
    c.switch_of.ensures

-- ---- rows, blocks and sections

pub row-returns-in-Err : goal.row-returns-in-Err
row-returns-in-Err g t c =
    let f = g.F.Finder.finds c.args.finder.now in
    λ choice chooses.
    row.row_gone (spec.statement_part choice f c.args.source.now) c.args.stand c.args.statements.now c.loop-one.one-index c.one-item.result (spec.steps_bare c.loop-one.done) c.loop-one.frame c.in-Err.refusal (omega arith) c.one-item.is
    (gone_with spec.steps_bare _ c.in-Err.refusal c.statement.new.frame _ c.in-Err.is (c.in_ok-made.ensures choice chooses))
    ∙ c.loop-one.invariant choice chooses

pub row-loop-one-preserved : goal.row-loop-one-preserved
row-loop-one-preserved g t c =
    let f = g.F.Finder.finds c.args.finder.now in
    λ choice chooses.
    row.row_more (spec.statement_part choice f c.args.source.now) c.args.stand c.args.statements.now c.loop-one.one-index c.one-item.result c.loop-one.done c.in-Ok.made _ c.loop-one.frame _ (omega arith) c.one-item.is
    (gave_with spec.steps_bare _ c.in-Ok.made c.statement.new.frame _ c.in-Ok.is (c.in_ok-made.ensures choice chooses))
    c.in_ok-append.ensures
    ∙ c.loop-one.invariant choice chooses

pub row-returns : goal.row-returns
row-returns g t c =
    let f = g.F.Finder.finds c.args.finder.now in
    λ choice chooses.
    row.row_done (spec.statement_part choice f c.args.source.now) c.args.stand c.args.statements.now c.loop-one.one-index (spec.steps_bare c.loop-one.done) c.loop-one.frame (omega arith)
    ∙ c.loop-one.invariant choice chooses

pub block-returns-in-Err : goal.block-returns-in-Err
block-returns-in-Err g t c =
    let f = g.F.Finder.finds c.args.finder.now in
    λ choice chooses.
    exit.scope_gone (spec.block_part choice f c.args.source.now c.args.block.now) c.args.stand c.args.frame.now c.in-Err.refusal
    (gone_with spec.steps_bare _ c.in-Err.refusal c.row.new.frame _ c.in-Err.is (c.in_ok-made.ensures choice chooses)
    ∙ form.in_braces choice f c.args.source.now c.args.block.now c.as_slice-statements.result.now c.inside.result c.args.frame.now c.as_slice-statements.ensures
    ∙ ap (λ (s : Stand). spec.block_part choice f c.args.source.now c.args.block.now s c.args.frame.now) c.inside.ensures)

pub block-returns : goal.block-returns
block-returns g t c =
    let f = g.F.Finder.finds c.args.finder.now in
    λ choice chooses.
    exit.scope_made (spec.block_part choice f c.args.source.now c.args.block.now) c.args.stand c.args.frame.now (spec.steps_bare c.in-Ok.made) c.row.new.frame _ _
    (gave_with spec.steps_bare _ c.in-Ok.made c.row.new.frame _ c.in-Ok.is (c.in_ok-made.ensures choice chooses)
    ∙ form.in_braces choice f c.args.source.now c.args.block.now c.as_slice-statements.result.now c.inside.result c.args.frame.now c.as_slice-statements.ensures
    ∙ ap (λ (s : Stand). spec.block_part choice f c.args.source.now c.args.block.now s c.args.frame.now) c.inside.ensures)
    c.block_of.ensures
    (c.leave.ensures ∙ ap (λ n. spec.with_first n c.row.new.frame) c.len-count.ensures)

pub section-returns-in-Err : goal.section-returns-in-Err
section-returns-in-Err g t c =
    let f = g.F.Finder.finds c.args.finder.now in
    λ choice chooses.
    exit.section_gone choice f c.args.source.now c.args.operand c.args.seen.now c.args.is_last (spec.branch_of choice f c.args.source.now c.args.section.now) c.args.stand c.args.frame.now c.in-Err.refusal
    (sym (c.in-Err.is) ∙ c.in_ok-labels.ensures choice chooses
    ∙ ap (λ (l : List Label). spec.labels_of choice f c.args.source.now c.args.operand c.args.frame.now c.args.seen.now l []) (form.labels_in choice f c.args.source.now c.args.section.now c.as_slice-written.result.now c.as_slice-written.ensures))

pub section-returns-in-Err-2 : goal.section-returns-in-Err-2
section-returns-in-Err-2 g t c =
    let f = g.F.Finder.finds c.args.finder.now in
    λ choice chooses.
    exit.section_body_gone choice f c.args.source.now c.args.operand c.args.seen.now c.args.is_last (spec.branch_of choice f c.args.source.now c.args.section.now) c.args.stand c.args.frame.now c.in-Ok.made c.in-Err-2.refusal
    (sym (c.in-Ok.is) ∙ c.in_ok-labels.ensures choice chooses
    ∙ ap (λ (l : List Label). spec.labels_of choice f c.args.source.now c.args.operand c.args.frame.now c.args.seen.now l []) (form.labels_in choice f c.args.source.now c.args.section.now c.as_slice-written.result.now c.as_slice-written.ensures))
    (gone_with spec.steps_bare _ c.in-Err-2.refusal c.row.new.frame _ c.in-Err-2.is (c.in_ok-made.ensures choice chooses)
    ∙ form.in_section_of choice f c.args.source.now c.args.section.now c.as_slice-statements.result.now c.in_section-stand.result c.args.frame.now c.as_slice-statements.ensures
    ∙ ap (λ (s : Stand). (spec.branch_of choice f c.args.source.now c.args.section.now).body s c.args.frame.now) c.in_section-stand.ensures)

pub section-returns : goal.section-returns
section-returns g t c =
    let f = g.F.Finder.finds c.args.finder.now in
    λ choice chooses.
    exit.section_made choice f c.args.source.now c.args.operand c.args.seen.now c.args.is_last (spec.branch_of choice f c.args.source.now c.args.section.now) c.args.stand c.args.frame.now c.in-Ok.made (spec.steps_bare c.in-Ok-2.made) c.row.new.frame _
    (sym (c.in-Ok.is) ∙ c.in_ok-labels.ensures choice chooses
    ∙ ap (λ (l : List Label). spec.labels_of choice f c.args.source.now c.args.operand c.args.frame.now c.args.seen.now l []) (form.labels_in choice f c.args.source.now c.args.section.now c.as_slice-written.result.now c.as_slice-written.ensures))
    (gave_with spec.steps_bare _ c.in-Ok-2.made c.row.new.frame _ c.in-Ok-2.is (c.in_ok-made.ensures choice chooses)
    ∙ form.in_section_of choice f c.args.source.now c.args.section.now c.as_slice-statements.result.now c.in_section-stand.result c.args.frame.now c.as_slice-statements.ensures
    ∙ ap (λ (s : Stand). (spec.branch_of choice f c.args.source.now c.args.section.now).body s c.args.frame.now) c.in_section-stand.ensures)
    (c.leave.ensures ∙ ap (λ n. spec.with_first n c.row.new.frame) c.len-count.ensures)

pub sections-returns-in-Err : goal.sections-returns-in-Err
sections-returns-in-Err g t c =
    let f = g.F.Finder.finds c.args.finder.now in
    λ choice chooses.
    row.sections_gone choice f c.args.source.now c.args.operand (spec.branch_of choice f c.args.source.now) c.args.stand c.as_slice-items.result.now c.loop-at.at c.index-items-at.result c.loop-at.seen (spec.sections_bare c.loop-at.done) c.loop-at.frame _ c.in-Err.refusal
    (omega arith) c.index-items-at.is refl
    (gone_with spec.made_of _ c.in-Err.refusal c.section.new.frame _ c.in-Err.is (c.in_ok-made.ensures choice chooses)
    ∙ ap (λ (l : List SwitchLabel). spec.section choice f c.args.source.now c.args.operand l (eqb (c.loop-at.at + 1) (length c.as_slice-items.result.now)) (spec.branch_of choice f c.args.source.now c.index-items-at.result) c.args.stand c.loop-at.frame) c.as_slice-labels.ensures)
    ∙ c.loop-at.invariant choice chooses
    ∙ ap (λ (all : List Section). spec.sections choice f c.args.source.now c.args.operand [] (map (spec.branch_of choice f c.args.source.now) all) [] c.args.stand c.args.frame.now) c.as_slice-items.ensures

pub sections-loop-at-preserved : goal.sections-loop-at-preserved
sections-loop-at-preserved g t c =
    let f = g.F.Finder.finds c.args.finder.now in
    λ choice chooses.
    row.sections_more choice f c.args.source.now c.args.operand (spec.branch_of choice f c.args.source.now) c.args.stand c.as_slice-items.result.now c.loop-at.at c.index-items-at.result c.loop-at.seen _ c.loop-at.done _ c.in-Ok.made c.loop-at.frame _ _
    (omega arith) c.index-items-at.is refl
    (gave_with spec.made_of _ c.in-Ok.made c.section.new.frame _ c.in-Ok.is (c.in_ok-made.ensures choice chooses)
    ∙ ap (λ (l : List SwitchLabel). spec.section choice f c.args.source.now c.args.operand l (eqb (c.loop-at.at + 1) (length c.as_slice-items.result.now)) (spec.branch_of choice f c.args.source.now c.index-items-at.result) c.args.stand c.loop-at.frame) c.as_slice-labels.ensures)
    (c.in_ok-append.ensures ∙ ap (λ (more : List SwitchLabel). c.loop-at.seen ++ more) (c.in_ok-from_slice.ensures ∙ c.as_slice.ensures))
    c.in_ok-push.ensures.ok
    ∙ c.loop-at.invariant choice chooses

pub sections-returns : goal.sections-returns
sections-returns g t c =
    let f = g.F.Finder.finds c.args.finder.now in
    λ choice chooses.
    row.sections_done choice f c.args.source.now c.args.operand (spec.branch_of choice f c.args.source.now) c.args.stand c.as_slice-items.result.now c.loop-at.at c.loop-at.seen (spec.sections_bare c.loop-at.done) c.loop-at.frame (omega arith)
    ∙ c.loop-at.invariant choice chooses
    ∙ ap (λ (all : List Section). spec.sections choice f c.args.source.now c.args.operand [] (map (spec.branch_of choice f c.args.source.now) all) [] c.args.stand c.args.frame.now) c.as_slice-items.ensures

-- ---- all forms

pub statement-returns-in-Err : goal.statement-returns-in-Err
statement-returns-in-Err g t c =
    let f = g.F.Finder.finds c.args.finder.now in
    let s = c.args.source.now in
    λ choice chooses.
    exit.alone_gone (spec.block_part choice f s c.in-Block.inner) c.args.stand c.args.frame.now c.in-Err.refusal
    (gone_with step_of _ c.in-Err.refusal c.block.new.frame _ c.in-Err.is (c.in_ok-made-in-Block.ensures choice chooses))
    ∙ sym (ap (λ (p : spec.Part). p c.args.stand c.args.frame.now) (form.of_block choice f s c.args.one.now c.in-Block.inner c.in-Block.is))

pub statement-returns-in_ok-only-in-Block : goal.statement-returns-in_ok-only-in-Block
statement-returns-in_ok-only-in-Block g t c =
    let f = g.F.Finder.finds c.args.finder.now in
    let s = c.args.source.now in
    λ choice chooses.
    exit.alone_made (spec.block_part choice f s c.in-Block.inner) c.args.stand c.args.frame.now (step_of c.in-Ok.made) _ _
    (gave_with step_of _ c.in-Ok.made c.block.new.frame _ c.in-Ok.is (c.in_ok-made-in-Block.ensures choice chooses))
    c.in_ok-only-in-Block.ensures
    ∙ sym (ap (λ (p : spec.Part). p c.args.stand c.args.frame.now) (form.of_block choice f s c.args.one.now c.in-Block.inner c.in-Block.is))

pub statement-returns-in_ok-only-in-Empty : goal.statement-returns-in_ok-only-in-Empty
statement-returns-in_ok-only-in-Empty g t c =
    let f = g.F.Finder.finds c.args.finder.now in
    let s = c.args.source.now in
    let frame = c.args.frame.now in
    λ choice chooses.
    ap (λ (made : List Step). Ok (made, frame)) (c.in_ok-only-in-Empty.ensures ∙ ap (λ (m : Step). m ∷ []) (c.block_of.ensures ∙ ap (λ (all : List made_statement.Statement). step.Block (spec.steps_from (spec.steps_bare all))) c.new.ensures))
    ∙ sym (ap (λ (p : spec.Part). p c.args.stand frame) (form.of_empty choice f s c.args.one.now _ c.in-Empty.is))

pub statement-returns-in-Local : goal.statement-returns-in-Local
statement-returns-in-Local g t c =
    let f = g.F.Finder.finds c.args.finder.now in
    let s = c.args.source.now in
    let stand = c.args.stand in
    let frame = c.args.frame.now in
    same spec.steps_bare c.local.result c.local.new.frame s.classes (λ choice. spec.local choice f s c.in-Local.one c.in-Local.span stand frame)
    (λ choice. spec.statement_part choice f s c.args.one.now stand frame)
    (λ choice. ap (λ (p : spec.Part). p stand frame) (form.of_local choice f s c.args.one.now c.in-Local.one c.in-Local.span c.in-Local.is))
    c.local.ensures

pub statement-returns-in-Expression : goal.statement-returns-in-Expression
statement-returns-in-Expression g t c =
    let f = g.F.Finder.finds c.args.finder.now in
    let s = c.args.source.now in
    let stand = c.args.stand in
    let frame = c.args.frame.now in
    joined spec.steps_bare c.done_alone.result frame s.classes (λ choice. spec.done_alone choice f s c.in-Expression.x frame)
    (λ choice. spec.statement_part choice f s c.args.one.now stand frame)
    (λ choice. ap (λ (p : spec.Part). p stand frame) (form.of_expression choice f s c.args.one.now c.in-Expression.x _ c.in-Expression.is))
    c.done_alone.ensures

pub statement-returns-in-Err-2 : goal.statement-returns-in-Err-2
statement-returns-in-Err-2 g t c =
    let f = g.F.Finder.finds c.args.finder.now in
    let s = c.args.source.now in
    let stand = c.args.stand in
    let frame = c.args.frame.now in
    let a = c.in-If in
    λ choice chooses.
    exit.if_gone choice f s a.x (spec.statement_part choice f s a.first) (option_map (spec.statement_part choice f s) a.second) a.span stand frame c.in-Err-2.refusal
    (gone value_of _ c.in-Err-2.refusal _ c.in-Err-2.is (c.in_ok-made-in-If.ensures choice chooses))
    ∙ sym (ap (λ (p : spec.Part). p stand frame) (form.of_if choice f s c.args.one.now a.x a.first a.second a.span a.is))

pub statement-returns-in-Err-3 : goal.statement-returns-in-Err-3
statement-returns-in-Err-3 g t c =
    let f = g.F.Finder.finds c.args.finder.now in
    let s = c.args.source.now in
    let stand = c.args.stand in
    let frame = c.args.frame.now in
    let a = c.in-If in
    λ choice chooses.
    exit.if_first_gone choice f s a.x (spec.statement_part choice f s a.first) (option_map (spec.statement_part choice f s) a.second) a.span stand frame (value_of c.in-Ok-2.made) c.in-Err-3.refusal
    (gave value_of _ c.in-Ok-2.made _ c.in-Ok-2.is (c.in_ok-made-in-If.ensures choice chooses))
    (gone_with step_of _ c.in-Err-3.refusal c.scope.new.frame _ c.in-Err-3.is (c.in_ok-made-in-If-2.ensures choice chooses)
    ∙ ap (λ (y : Statement). spec.scope (spec.statement_part choice f s y) stand frame) c.get.ensures)
    ∙ sym (ap (λ (p : spec.Part). p stand frame) (form.of_if choice f s c.args.one.now a.x a.first a.second a.span a.is))

pub statement-returns-in-Err-4 : goal.statement-returns-in-Err-4
statement-returns-in-Err-4 g t c =
    let f = g.F.Finder.finds c.args.finder.now in
    let s = c.args.source.now in
    let stand = c.args.stand in
    let frame = c.args.frame.now in
    let a = c.in-If in
    λ choice chooses.
    exit.if_second_gone choice f s a.x (spec.statement_part choice f s a.first) (option_map (spec.statement_part choice f s) a.second) a.span stand frame (value_of c.in-Ok-2.made) (step_of c.in-Ok-3.made) _ c.in-Err-4.refusal
    (gave value_of _ c.in-Ok-2.made _ c.in-Ok-2.is (c.in_ok-made-in-If.ensures choice chooses))
    (gave_with step_of _ c.in-Ok-3.made c.scope.new.frame _ c.in-Ok-3.is (c.in_ok-made-in-If-2.ensures choice chooses)
    ∙ ap (λ (y : Statement). spec.scope (spec.statement_part choice f s y) stand frame) c.get.ensures)
    (gone_with step_of _ c.in-Err-4.refusal c.otherwise.new.frame _ c.in-Err-4.is (c.in_ok-made-in-If-3.ensures choice chooses))
    ∙ sym (ap (λ (p : spec.Part). p stand frame) (form.of_if choice f s c.args.one.now a.x a.first a.second a.span a.is))

pub statement-returns-in-Ok-4 : goal.statement-returns-in-Ok-4
statement-returns-in-Ok-4 g t c =
    let f = g.F.Finder.finds c.args.finder.now in
    let s = c.args.source.now in
    let stand = c.args.stand in
    let frame = c.args.frame.now in
    let a = c.in-If in
    led spec.steps_bare c.if_of.result c.otherwise.new.frame s.classes (spec.tested a.span c.in-Ok-2.made.of (step.If (term_of c.in-Ok-2.made.term) (step_of c.in-Ok-3.made) (step_of c.in-Ok-4.made)))
    (λ choice. spec.statement_part choice f s c.args.one.now stand frame)
    (λ made is choice chooses.
    exit.if_made choice f s a.x (spec.statement_part choice f s a.first) (option_map (spec.statement_part choice f s) a.second) a.span stand frame (value_of c.in-Ok-2.made) (step_of c.in-Ok-3.made) _ (step_of c.in-Ok-4.made) _ made
    (gave value_of _ c.in-Ok-2.made _ c.in-Ok-2.is (c.in_ok-made-in-If.ensures choice chooses))
    (gave_with step_of _ c.in-Ok-3.made c.scope.new.frame _ c.in-Ok-3.is (c.in_ok-made-in-If-2.ensures choice chooses)
    ∙ ap (λ (y : Statement). spec.scope (spec.statement_part choice f s y) stand frame) c.get.ensures)
    (gave_with step_of _ c.in-Ok-4.made c.otherwise.new.frame _ c.in-Ok-4.is (c.in_ok-made-in-If-3.ensures choice chooses))
    is
    ∙ sym (ap (λ (p : spec.Part). p stand frame) (form.of_if choice f s c.args.one.now a.x a.first a.second a.span a.is)))
    c.if_of.ensures

pub statement-returns-in-While : goal.statement-returns-in-While
statement-returns-in-While g t c =
    let f = g.F.Finder.finds c.args.finder.now in
    let s = c.args.source.now in
    let stand = c.args.stand in
    let frame = c.args.frame.now in
    same spec.steps_bare c.while_loop.result c.while_loop.new.frame s.classes (λ choice. spec.while_loop choice f s c.in-While.x (spec.statement_part choice f s c.get-in-While.result.now) c.in-While.span stand frame)
    (λ choice. spec.statement_part choice f s c.args.one.now stand frame)
    (λ choice. ap (λ (p : spec.Part). p stand frame) (form.of_while choice f s c.args.one.now c.in-While.x c.in-While.body c.in-While.span c.in-While.is)
    ∙ ap (λ (y : Statement). spec.while_loop choice f s c.in-While.x (spec.statement_part choice f s y) c.in-While.span stand frame) (sym c.get-in-While.ensures))
    c.while_loop.ensures

pub statement-returns-in-Do : goal.statement-returns-in-Do
statement-returns-in-Do g t c =
    let f = g.F.Finder.finds c.args.finder.now in
    let s = c.args.source.now in
    let stand = c.args.stand in
    let frame = c.args.frame.now in
    same spec.steps_bare c.do_loop.result c.do_loop.new.frame s.classes (λ choice. spec.do_loop choice f s (spec.statement_part choice f s c.get-in-Do.result.now) c.in-Do.x c.in-Do.span stand frame)
    (λ choice. spec.statement_part choice f s c.args.one.now stand frame)
    (λ choice. ap (λ (p : spec.Part). p stand frame) (form.of_do choice f s c.args.one.now c.in-Do.body c.in-Do.x c.in-Do.span c.in-Do.is)
    ∙ ap (λ (y : Statement). spec.do_loop choice f s (spec.statement_part choice f s y) c.in-Do.x c.in-Do.span stand frame) (sym c.get-in-Do.ensures))
    c.do_loop.ensures

pub statement-returns-in-For : goal.statement-returns-in-For
statement-returns-in-For g t c =
    let f = g.F.Finder.finds c.args.finder.now in
    let s = c.args.source.now in
    let stand = c.args.stand in
    let frame = c.args.frame.now in
    same spec.steps_bare c.for_loop.result c.for_loop.new.frame s.classes (λ choice. spec.for_loop choice f s c.in-For.start c.in-For.condition c.in-For.advance (spec.statement_part choice f s c.get-in-For.result.now) c.in-For.span stand frame)
    (λ choice. spec.statement_part choice f s c.args.one.now stand frame)
    (λ choice. ap (λ (p : spec.Part). p stand frame) (form.of_for choice f s c.args.one.now c.in-For.start c.in-For.condition c.in-For.advance c.in-For.body c.in-For.span c.in-For.is)
    ∙ ap (λ (y : Statement). spec.for_loop choice f s c.in-For.start c.in-For.condition c.in-For.advance (spec.statement_part choice f s y) c.in-For.span stand frame) (sym c.get-in-For.ensures))
    c.for_loop.ensures

pub statement-returns-in-Switch : goal.statement-returns-in-Switch
statement-returns-in-Switch g t c =
    let f = g.F.Finder.finds c.args.finder.now in
    let s = c.args.source.now in
    let stand = c.args.stand in
    let frame = c.args.frame.now in
    same spec.steps_bare c.switch.result c.switch.new.frame s.classes (λ choice. spec.switch choice f s c.in-Switch.x (map (spec.branch_of choice f s) c.in-Switch.items) c.in-Switch.span stand frame)
    (λ choice. spec.statement_part choice f s c.args.one.now stand frame)
    (λ choice. ap (λ (p : spec.Part). p stand frame) (form.of_switch choice f s c.args.one.now c.in-Switch.x c.in-Switch.items c.in-Switch.span c.in-Switch.is))
    c.switch.ensures

pub statement-returns-in-Break : goal.statement-returns-in-Break
statement-returns-in-Break g t c =
    let f = g.F.Finder.finds c.args.finder.now in
    let s = c.args.source.now in
    let stand = c.args.stand in
    let frame = c.args.frame.now in
    led spec.steps_bare c.leaves.result frame s.classes (spec.leaves stand.breaks step.Break c.in-Break.span)
    (λ choice. spec.statement_part choice f s c.args.one.now stand frame)
    (λ made is choice chooses. ap (λ (j : Judged (List Step)). spec.at j frame) is ∙ sym (ap (λ (p : spec.Part). p stand frame) (form.of_break choice f s c.args.one.now c.in-Break.span c.in-Break.is)))
    c.leaves.ensures

pub statement-returns-in-Continue : goal.statement-returns-in-Continue
statement-returns-in-Continue g t c =
    let f = g.F.Finder.finds c.args.finder.now in
    let s = c.args.source.now in
    let stand = c.args.stand in
    let frame = c.args.frame.now in
    led spec.steps_bare c.leaves-in-Continue.result frame s.classes (spec.leaves stand.continues step.Continue c.in-Continue.span)
    (λ choice. spec.statement_part choice f s c.args.one.now stand frame)
    (λ made is choice chooses. ap (λ (j : Judged (List Step)). spec.at j frame) is ∙ sym (ap (λ (p : spec.Part). p stand frame) (form.of_continue choice f s c.args.one.now c.in-Continue.span c.in-Continue.is)))
    c.leaves-in-Continue.ensures

pub statement-returns-in-Return : goal.statement-returns-in-Return
statement-returns-in-Return g t c =
    let f = g.F.Finder.finds c.args.finder.now in
    let s = c.args.source.now in
    let stand = c.args.stand in
    let frame = c.args.frame.now in
    joined spec.steps_bare c.returned.result frame s.classes (λ choice. spec.returned choice f s c.in-Return.x c.in-Return.span frame)
    (λ choice. spec.statement_part choice f s c.args.one.now stand frame)
    (λ choice. ap (λ (p : spec.Part). p stand frame) (form.of_return choice f s c.args.one.now c.in-Return.x c.in-Return.span c.in-Return.is))
    c.returned.ensures

pub otherwise-returns-in-Some : goal.otherwise-returns-in-Some
otherwise-returns-in-Some g t c =
    let f = g.F.Finder.finds c.args.finder.now in
    let s = c.args.source.now in
    let stand = c.args.stand in
    let frame = c.args.frame.now in
    same step_of c.scope.result c.scope.new.frame s.classes (λ choice. spec.scope (spec.statement_part choice f s c.get.result.now) stand frame)
    (λ choice. spec.otherwise (option_map (spec.statement_part choice f s) c.args.one.now) stand frame)
    (λ choice. ap (λ (o : Option Statement). spec.otherwise (option_map (spec.statement_part choice f s) o) stand frame) c.in-Some.is
    ∙ ap (λ (y : Statement). spec.scope (spec.statement_part choice f s y) stand frame) (sym c.get.ensures))
    c.scope.ensures
