-- How high the statements are that an action makes.
use Rattle.std.proofs.Common.{◌≡◌, ◌+◌, refl, ◌∙◌, List, arith}
use Rattle.cc_tree.specs.declared.statement.Section.{roll-Section}
use Rattle.cc_tree.specs.declared.statement.Catch.{roll-Catch}
use Rattle.cc_tree.specs.Spans.{across}
use Rattle.cc_table.specs.declared.symbols.Action.TheVariants as a
use Rattle.cc_table.specs.Sizes.{uses, nests}
use Rattle.cc_tree.specs.Depth.{statement_depth, label_depth}
use Rattle.cc_pushdown.specs.declared.value.Value.{Value}
use Rattle.cc_pushdown.specs.Values.{top, below, top_block, top_catches, top_caught, top_expression, top_for_start, top_label, top_labels, top_mark, top_name, top_optional, top_sections, top_statement, top_statements, top_type_name}
use Rattle.cc_pushdown.specs.Build.{Ready, build}
use Rattle.cc_grammar_laws.specs.Kinds.{Kind}
use Rattle.cc_grammar_laws.specs.Heights.{height, section_depth, catch_depth}
use Rattle.cc_grammar_laws.proofs.HeightsOfInputs.{flat_height}
use Rattle.cc_grammar_laws.proofs.HeightsOfTops.{tall, block_height, catches_height, caught_height, expression_height, for_start_height, label_height, labels_height, local_height, optional_height, sections_height, statement_height, statements_height, type_name_height}
use Rattle.cc_grammar_laws.proofs.HeightsOfTrees.{block_rolled, block_statement, break_statement, catch_rolled, continue_statement, delete_statement, do_statement, empty_statement, expression_statement, for_each_statement, for_statement, greatest_grown, if_alone_statement, if_else_statement, return_statement, section_rolled, switch_statement, throw_statement, try_finally_statement, try_statement, while_statement}

pub start_statements_raises : (vs : List Value) → Ready a.StartStatements vs → height (top (build a.StartStatements vs)) ≡ tall (uses a.StartStatements) vs + nests a.StartStatements
start_statements_raises vs r =
    omega (arith)

pub add_statement_raises : (vs : List Value) → Ready a.AddStatement vs → height (top (build a.AddStatement vs)) ≡ tall (uses a.AddStatement) vs + nests a.AddStatement
add_statement_raises vs r =
    let h0 = statement_height vs r.0 in
    let h1 = statements_height (below vs) r.1 in
    let h2 = greatest_grown statement_depth (top_statements (below vs)) (top_statement vs).tree in
    omega (arith, h0, h1, h2)

pub make_block_raises : (vs : List Value) → Ready a.MakeBlock vs → height (top (build a.MakeBlock vs)) ≡ tall (uses a.MakeBlock) vs + nests a.MakeBlock
make_block_raises vs r =
    let h0 = flat_height Kind.mark vs refl r.0 in
    let h1 = statements_height (below vs) r.1 in
    let h2 = flat_height Kind.mark (below (below vs)) refl r.2 in
    block_rolled (top_statements (below vs)) (across (top_mark (below (below vs))).span (top_mark vs).span)
    ∙ omega (arith, h0, h1, h2)

pub make_block_statement_raises : (vs : List Value) → Ready a.MakeBlockStatement vs → height (top (build a.MakeBlockStatement vs)) ≡ tall (uses a.MakeBlockStatement) vs + nests a.MakeBlockStatement
make_block_statement_raises vs r =
    let h0 = block_height vs r in
    block_statement (top_block vs).tree
    ∙ omega (arith, h0)

pub make_empty_raises : (vs : List Value) → Ready a.MakeEmpty vs → height (top (build a.MakeEmpty vs)) ≡ tall (uses a.MakeEmpty) vs + nests a.MakeEmpty
make_empty_raises vs r =
    let h0 = flat_height Kind.mark vs refl r in
    empty_statement (top_mark vs).span
    ∙ omega (arith, h0)

pub make_expression_statement_raises : (vs : List Value) → Ready a.MakeExpressionStatement vs → height (top (build a.MakeExpressionStatement vs)) ≡ tall (uses a.MakeExpressionStatement) vs + nests a.MakeExpressionStatement
make_expression_statement_raises vs r =
    let h0 = flat_height Kind.mark vs refl r.0 in
    let h1 = expression_height (below vs) r.1 in
    expression_statement (top_expression (below vs)).tree (across (top_expression (below vs)).span (top_mark vs).span)
    ∙ omega (arith, h0, h1)

pub make_delete_raises : (vs : List Value) → Ready a.MakeDelete vs → height (top (build a.MakeDelete vs)) ≡ tall (uses a.MakeDelete) vs + nests a.MakeDelete
make_delete_raises vs r =
    let h0 = flat_height Kind.mark vs refl r.0 in
    let h1 = expression_height (below vs) r.1 in
    let h2 = flat_height Kind.mark (below (below vs)) refl r.2 in
    delete_statement (top_expression (below vs)).tree (across (top_mark (below (below vs))).span (top_mark vs).span)
    ∙ omega (arith, h0, h1, h2)

pub make_break_raises : (vs : List Value) → Ready a.MakeBreak vs → height (top (build a.MakeBreak vs)) ≡ tall (uses a.MakeBreak) vs + nests a.MakeBreak
make_break_raises vs r =
    let h0 = flat_height Kind.mark vs refl r.0 in
    let h1 = flat_height Kind.mark (below vs) refl r.1 in
    break_statement (across (top_mark (below vs)).span (top_mark vs).span)
    ∙ omega (arith, h0, h1)

pub make_continue_raises : (vs : List Value) → Ready a.MakeContinue vs → height (top (build a.MakeContinue vs)) ≡ tall (uses a.MakeContinue) vs + nests a.MakeContinue
make_continue_raises vs r =
    let h0 = flat_height Kind.mark vs refl r.0 in
    let h1 = flat_height Kind.mark (below vs) refl r.1 in
    continue_statement (across (top_mark (below vs)).span (top_mark vs).span)
    ∙ omega (arith, h0, h1)

pub make_return_raises : (vs : List Value) → Ready a.MakeReturn vs → height (top (build a.MakeReturn vs)) ≡ tall (uses a.MakeReturn) vs + nests a.MakeReturn
make_return_raises vs r =
    let h0 = optional_height vs r.0 in
    let h1 = flat_height Kind.mark (below vs) refl r.1 in
    return_statement (top_optional vs).tree (across (top_mark (below vs)).span (top_optional vs).span)
    ∙ omega (arith, h0, h1)

pub make_throw_raises : (vs : List Value) → Ready a.MakeThrow vs → height (top (build a.MakeThrow vs)) ≡ tall (uses a.MakeThrow) vs + nests a.MakeThrow
make_throw_raises vs r =
    let h0 = optional_height vs r.0 in
    let h1 = flat_height Kind.mark (below vs) refl r.1 in
    throw_statement (top_optional vs).tree (across (top_mark (below vs)).span (top_optional vs).span)
    ∙ omega (arith, h0, h1)

pub no_expression_raises : (vs : List Value) → Ready a.NoExpression vs → height (top (build a.NoExpression vs)) ≡ tall (uses a.NoExpression) vs + nests a.NoExpression
no_expression_raises vs r =
    let h0 = flat_height Kind.mark vs refl r in
    omega (arith, h0)

pub some_expression_raises : (vs : List Value) → Ready a.SomeExpression vs → height (top (build a.SomeExpression vs)) ≡ tall (uses a.SomeExpression) vs + nests a.SomeExpression
some_expression_raises vs r =
    let h0 = flat_height Kind.mark vs refl r.0 in
    let h1 = expression_height (below vs) r.1 in
    omega (arith, h0, h1)

pub make_if_raises : (vs : List Value) → Ready a.MakeIf vs → height (top (build a.MakeIf vs)) ≡ tall (uses a.MakeIf) vs + nests a.MakeIf
make_if_raises vs r =
    let h0 = statement_height vs r.0 in
    let h1 = expression_height (below vs) r.1 in
    let h2 = flat_height Kind.mark (below (below vs)) refl r.2 in
    if_alone_statement (top_expression (below vs)).tree (top_statement vs).tree (across (top_mark (below (below vs))).span (top_statement vs).span)
    ∙ omega (arith, h0, h1, h2)

pub make_if_else_raises : (vs : List Value) → Ready a.MakeIfElse vs → height (top (build a.MakeIfElse vs)) ≡ tall (uses a.MakeIfElse) vs + nests a.MakeIfElse
make_if_else_raises vs r =
    let h0 = statement_height vs r.0 in
    let h1 = statement_height (below vs) r.1 in
    let h2 = expression_height (below (below vs)) r.2 in
    let h3 = flat_height Kind.mark (below (below (below vs))) refl r.3 in
    if_else_statement (top_expression (below (below vs))).tree (top_statement (below vs)).tree (top_statement vs).tree (across (top_mark (below (below (below vs)))).span (top_statement vs).span)
    ∙ omega (arith, h0, h1, h2, h3)

pub start_sections_raises : (vs : List Value) → Ready a.StartSections vs → height (top (build a.StartSections vs)) ≡ tall (uses a.StartSections) vs + nests a.StartSections
start_sections_raises vs r =
    omega (arith)

pub start_labels_raises : (vs : List Value) → Ready a.StartLabels vs → height (top (build a.StartLabels vs)) ≡ tall (uses a.StartLabels) vs + nests a.StartLabels
start_labels_raises vs r =
    omega (arith)

pub add_label_raises : (vs : List Value) → Ready a.AddLabel vs → height (top (build a.AddLabel vs)) ≡ tall (uses a.AddLabel) vs + nests a.AddLabel
add_label_raises vs r =
    let h0 = label_height vs r.0 in
    let h1 = labels_height (below vs) r.1 in
    let h2 = greatest_grown label_depth (top_labels (below vs)) (top_label vs) in
    omega (arith, h0, h1, h2)

pub add_section_raises : (vs : List Value) → Ready a.AddSection vs → height (top (build a.AddSection vs)) ≡ tall (uses a.AddSection) vs + nests a.AddSection
add_section_raises vs r =
    let h0 = statements_height vs r.0 in
    let h1 = labels_height (below vs) r.1 in
    let h2 = sections_height (below (below vs)) r.2 in
    let h3 = greatest_grown section_depth (top_sections (below (below vs))) (roll-Section (record { labels = (top_labels (below vs)); statements = (top_statements vs) })) in
    let h4 = section_rolled (top_labels (below vs)) (top_statements vs) in
    omega (arith, h0, h1, h2, h3, h4)

pub make_switch_raises : (vs : List Value) → Ready a.MakeSwitch vs → height (top (build a.MakeSwitch vs)) ≡ tall (uses a.MakeSwitch) vs + nests a.MakeSwitch
make_switch_raises vs r =
    let h0 = flat_height Kind.mark vs refl r.0 in
    let h1 = sections_height (below vs) r.1 in
    let h2 = expression_height (below (below vs)) r.2 in
    let h3 = flat_height Kind.mark (below (below (below vs))) refl r.3 in
    switch_statement (top_expression (below (below vs))).tree (top_sections (below vs)) (across (top_mark (below (below (below vs)))).span (top_mark vs).span)
    ∙ omega (arith, h0, h1, h2, h3)

pub make_case_raises : (vs : List Value) → Ready a.MakeCase vs → height (top (build a.MakeCase vs)) ≡ tall (uses a.MakeCase) vs + nests a.MakeCase
make_case_raises vs r =
    let h0 = flat_height Kind.mark vs refl r.0 in
    let h1 = expression_height (below vs) r.1 in
    let h2 = flat_height Kind.mark (below (below vs)) refl r.2 in
    omega (arith, h0, h1, h2)

pub make_default_raises : (vs : List Value) → Ready a.MakeDefault vs → height (top (build a.MakeDefault vs)) ≡ tall (uses a.MakeDefault) vs + nests a.MakeDefault
make_default_raises vs r =
    let h0 = flat_height Kind.mark vs refl r.0 in
    let h1 = flat_height Kind.mark (below vs) refl r.1 in
    omega (arith, h0, h1)

pub make_while_raises : (vs : List Value) → Ready a.MakeWhile vs → height (top (build a.MakeWhile vs)) ≡ tall (uses a.MakeWhile) vs + nests a.MakeWhile
make_while_raises vs r =
    let h0 = statement_height vs r.0 in
    let h1 = expression_height (below vs) r.1 in
    let h2 = flat_height Kind.mark (below (below vs)) refl r.2 in
    while_statement (top_expression (below vs)).tree (top_statement vs).tree (across (top_mark (below (below vs))).span (top_statement vs).span)
    ∙ omega (arith, h0, h1, h2)

pub make_do_raises : (vs : List Value) → Ready a.MakeDo vs → height (top (build a.MakeDo vs)) ≡ tall (uses a.MakeDo) vs + nests a.MakeDo
make_do_raises vs r =
    let h0 = flat_height Kind.mark vs refl r.0 in
    let h1 = expression_height (below vs) r.1 in
    let h2 = statement_height (below (below vs)) r.2 in
    let h3 = flat_height Kind.mark (below (below (below vs))) refl r.3 in
    do_statement (top_statement (below (below vs))).tree (top_expression (below vs)).tree (across (top_mark (below (below (below vs)))).span (top_mark vs).span)
    ∙ omega (arith, h0, h1, h2, h3)

pub start_nothing_raises : (vs : List Value) → Ready a.StartNothing vs → height (top (build a.StartNothing vs)) ≡ tall (uses a.StartNothing) vs + nests a.StartNothing
start_nothing_raises vs r =
    omega (arith)

pub start_local_raises : (vs : List Value) → Ready a.StartLocal vs → height (top (build a.StartLocal vs)) ≡ tall (uses a.StartLocal) vs + nests a.StartLocal
start_local_raises vs r =
    let h0 = local_height vs r in
    omega (arith, h0)

pub start_expression_raises : (vs : List Value) → Ready a.StartExpression vs → height (top (build a.StartExpression vs)) ≡ tall (uses a.StartExpression) vs + nests a.StartExpression
start_expression_raises vs r =
    let h0 = expression_height vs r in
    omega (arith, h0)

pub make_for_raises : (vs : List Value) → Ready a.MakeFor vs → height (top (build a.MakeFor vs)) ≡ tall (uses a.MakeFor) vs + nests a.MakeFor
make_for_raises vs r =
    let h0 = statement_height vs r.0 in
    let h1 = optional_height (below vs) r.1 in
    let h2 = optional_height (below (below vs)) r.2 in
    let h3 = for_start_height (below (below (below vs))) r.3 in
    let h4 = flat_height Kind.mark (below (below (below (below vs)))) refl r.4 in
    for_statement (top_for_start (below (below (below vs)))) (top_optional (below (below vs))).tree (top_optional (below vs)).tree (top_statement vs).tree (across (top_mark (below (below (below (below vs))))).span (top_statement vs).span)
    ∙ omega (arith, h0, h1, h2, h3, h4)

pub make_for_each_raises : (vs : List Value) → Ready a.MakeForEach vs → height (top (build a.MakeForEach vs)) ≡ tall (uses a.MakeForEach) vs + nests a.MakeForEach
make_for_each_raises vs r =
    let h0 = statement_height vs r.0 in
    let h1 = expression_height (below vs) r.1 in
    let h2 = flat_height Kind.name (below (below vs)) refl r.2 in
    let h3 = type_name_height (below (below (below vs))) r.3 in
    let h4 = flat_height Kind.mark (below (below (below (below vs)))) refl r.4 in
    for_each_statement (top_type_name (below (below (below vs)))).tree (top_name (below (below vs))).identifier (top_expression (below vs)).tree (top_statement vs).tree (across (top_mark (below (below (below (below vs))))).span (top_statement vs).span)
    ∙ omega (arith, h0, h1, h2, h3, h4)

pub start_catches_raises : (vs : List Value) → Ready a.StartCatches vs → height (top (build a.StartCatches vs)) ≡ tall (uses a.StartCatches) vs + nests a.StartCatches
start_catches_raises vs r =
    omega (arith)

pub catch_all_raises : (vs : List Value) → Ready a.CatchAll vs → height (top (build a.CatchAll vs)) ≡ tall (uses a.CatchAll) vs + nests a.CatchAll
catch_all_raises vs r =
    let h0 = flat_height Kind.mark vs refl r in
    omega (arith, h0)

pub catch_typed_raises : (vs : List Value) → Ready a.CatchTyped vs → height (top (build a.CatchTyped vs)) ≡ tall (uses a.CatchTyped) vs + nests a.CatchTyped
catch_typed_raises vs r =
    let h0 = type_name_height vs r in
    omega (arith, h0)

pub catch_named_raises : (vs : List Value) → Ready a.CatchNamed vs → height (top (build a.CatchNamed vs)) ≡ tall (uses a.CatchNamed) vs + nests a.CatchNamed
catch_named_raises vs r =
    let h0 = flat_height Kind.name vs refl r.0 in
    let h1 = type_name_height (below vs) r.1 in
    omega (arith, h0, h1)

pub add_catch_raises : (vs : List Value) → Ready a.AddCatch vs → height (top (build a.AddCatch vs)) ≡ tall (uses a.AddCatch) vs + nests a.AddCatch
add_catch_raises vs r =
    let h0 = block_height vs r.0 in
    let h1 = caught_height (below vs) r.1 in
    let h2 = catches_height (below (below vs)) r.2 in
    let h3 = greatest_grown catch_depth (top_catches (below (below vs))).tree (roll-Catch (record { caught = (top_caught (below vs)); block = (top_block vs).tree })) in
    let h4 = catch_rolled (top_caught (below vs)) (top_block vs).tree in
    omega (arith, h0, h1, h2, h3, h4)

pub make_try_raises : (vs : List Value) → Ready a.MakeTry vs → height (top (build a.MakeTry vs)) ≡ tall (uses a.MakeTry) vs + nests a.MakeTry
make_try_raises vs r =
    let h0 = catches_height vs r.0 in
    let h1 = block_height (below vs) r.1 in
    let h2 = flat_height Kind.mark (below (below vs)) refl r.2 in
    try_statement (top_block (below vs)).tree (top_catches vs).tree (across (top_mark (below (below vs))).span (top_catches vs).span)
    ∙ omega (arith, h0, h1, h2)

pub make_try_finally_raises : (vs : List Value) → Ready a.MakeTryFinally vs → height (top (build a.MakeTryFinally vs)) ≡ tall (uses a.MakeTryFinally) vs + nests a.MakeTryFinally
make_try_finally_raises vs r =
    let h0 = block_height vs r.0 in
    let h1 = catches_height (below vs) r.1 in
    let h2 = block_height (below (below vs)) r.2 in
    let h3 = flat_height Kind.mark (below (below (below vs))) refl r.3 in
    try_finally_statement (top_block (below (below vs))).tree (top_catches (below vs)).tree (top_block vs).tree (across (top_mark (below (below (below vs)))).span (top_block vs).span)
    ∙ omega (arith, h0, h1, h2, h3)
