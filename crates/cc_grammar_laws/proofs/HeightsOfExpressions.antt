-- How high the types and expressions are that an action makes.
use Rattle.std.proofs.Common.{◌≡◌, ◌+◌, refl, ◌∙◌, List, [], Some, None, true, false, arith}
use Rattle.cc_tree.specs.declared.type_name.FundamentalType.{FundamentalType}
use Rattle.cc_tree.specs.Spans.{across, qualified_span}
use Rattle.cc_table.specs.declared.symbols.Action.TheVariants as a
use Rattle.cc_table.specs.Sizes.{uses, nests}
use Rattle.cc_tree.specs.Depth.{type_depth, expression_depth}
use Rattle.cc_pushdown.specs.declared.value.Value.{Value}
use Rattle.cc_pushdown.specs.Words.{assignment_of, cast_of, postfix_of, prefix_of, selector_of}
use Rattle.cc_pushdown.specs.Values.{top, below, top_arguments, top_character, top_expression, top_expressions, top_mark, top_name, top_number, top_operator, top_qualified, top_texts, top_type_arguments, top_type_name, top_types}
use Rattle.cc_pushdown.specs.Build.{Ready, build, list_span}
use Rattle.cc_grammar_laws.specs.Kinds.{Kind}
use Rattle.cc_grammar_laws.specs.Heights.{height}
use Rattle.cc_grammar_laws.proofs.HeightsOfInputs.{flat_height}
use Rattle.cc_grammar_laws.proofs.HeightsOfTops.{tall, arguments_height, expression_height, expressions_height, type_arguments_height, type_name_height, types_height}
use Rattle.cc_grammar_laws.proofs.HeightsOfTrees.{arguments_rolled, assign_expression, binary_expression, call_expression, cast_expression, character_expression, conditional_expression, construct_expression, false_word_expression, finaliser_expression, fundamental_type, greatest_grown, group_expression, index_expression, marked_type, member_expression, name_expression, named_cast_expression, named_type, new_expression, new_of_expression, new_with_expression, new_with_of_expression, nullptr_word_expression, number_expression, postfix_expression, prefix_expression, static_member_expression, strings_expression, this_word_expression, true_word_expression}

pub join_marks_raises : (vs : List Value) → Ready a.JoinMarks vs → height (top (build a.JoinMarks vs)) ≡ tall (uses a.JoinMarks) vs + nests a.JoinMarks
join_marks_raises vs r =
    let h0 = flat_height Kind.mark vs refl r.0 in
    let h1 = flat_height Kind.mark (below vs) refl r.1 in
    omega (arith, h0, h1)

pub fundamental_raises : (of : FundamentalType) (vs : List Value) → Ready (a.Fundamental of) vs → height (top (build (a.Fundamental of) vs)) ≡ tall (uses (a.Fundamental of)) vs + nests (a.Fundamental of)
fundamental_raises of vs r =
    let h0 = flat_height Kind.mark vs refl r in
    fundamental_type of (top_mark vs).span
    ∙ omega (arith, h0)

pub start_path_raises : (vs : List Value) → Ready a.StartPath vs → height (top (build a.StartPath vs)) ≡ tall (uses a.StartPath) vs + nests a.StartPath
start_path_raises vs r =
    let h0 = flat_height Kind.name vs refl r in
    omega (arith, h0)

pub add_to_path_raises : (vs : List Value) → Ready a.AddToPath vs → height (top (build a.AddToPath vs)) ≡ tall (uses a.AddToPath) vs + nests a.AddToPath
add_to_path_raises vs r =
    let h0 = flat_height Kind.qualified vs refl r in
    omega (arith, h0)

pub end_path_raises : (vs : List Value) → Ready a.EndPath vs → height (top (build a.EndPath vs)) ≡ tall (uses a.EndPath) vs + nests a.EndPath
end_path_raises vs r =
    let h0 = flat_height Kind.name vs refl r.0 in
    let h1 = flat_height Kind.path (below vs) refl r.1 in
    omega (arith, h0, h1)

pub make_named_raises : (vs : List Value) → Ready a.MakeNamed vs → height (top (build a.MakeNamed vs)) ≡ tall (uses a.MakeNamed) vs + nests a.MakeNamed
make_named_raises vs r =
    let h0 = flat_height Kind.qualified vs refl r in
    named_type (top_qualified vs).path (top_qualified vs).name [] (qualified_span (top_qualified vs).path (top_qualified vs).name)
    ∙ omega (arith, h0)

pub make_applied_raises : (vs : List Value) → Ready a.MakeApplied vs → height (top (build a.MakeApplied vs)) ≡ tall (uses a.MakeApplied) vs + nests a.MakeApplied
make_applied_raises vs r =
    let h0 = flat_height Kind.mark vs refl r.0 in
    let h1 = types_height (below vs) r.1 in
    let h2 = flat_height Kind.mark (below (below vs)) refl r.2 in
    let h3 = flat_height Kind.qualified (below (below (below vs))) refl r.3 in
    named_type (top_qualified (below (below (below vs)))).path (top_qualified (below (below (below vs)))).name (top_types (below vs)) (across (qualified_span (top_qualified (below (below (below vs)))).path (top_qualified (below (below (below vs)))).name) (top_mark vs).span)
    ∙ omega (arith, h0, h1, h2, h3)

pub make_handle_raises : (vs : List Value) → Ready a.MakeHandle vs → height (top (build a.MakeHandle vs)) ≡ tall (uses a.MakeHandle) vs + nests a.MakeHandle
make_handle_raises vs r =
    let h0 = flat_height Kind.mark vs refl r.0 in
    let h1 = type_name_height (below vs) r.1 in
    marked_type (top_type_name (below vs)).tree true false (across (top_type_name (below vs)).span (top_mark vs).span)
    ∙ omega (arith, h0, h1)

pub make_tracking_raises : (vs : List Value) → Ready a.MakeTracking vs → height (top (build a.MakeTracking vs)) ≡ tall (uses a.MakeTracking) vs + nests a.MakeTracking
make_tracking_raises vs r =
    let h0 = flat_height Kind.mark vs refl r.0 in
    let h1 = type_name_height (below vs) r.1 in
    marked_type (top_type_name (below vs)).tree false true (across (top_type_name (below vs)).span (top_mark vs).span)
    ∙ omega (arith, h0, h1)

pub make_handle_tracking_raises : (vs : List Value) → Ready a.MakeHandleTracking vs → height (top (build a.MakeHandleTracking vs)) ≡ tall (uses a.MakeHandleTracking) vs + nests a.MakeHandleTracking
make_handle_tracking_raises vs r =
    let h0 = flat_height Kind.mark vs refl r.0 in
    let h1 = flat_height Kind.mark (below vs) refl r.1 in
    let h2 = type_name_height (below (below vs)) r.2 in
    marked_type (top_type_name (below (below vs))).tree true true (across (top_type_name (below (below vs))).span (top_mark vs).span)
    ∙ omega (arith, h0, h1, h2)

pub start_types_raises : (vs : List Value) → Ready a.StartTypes vs → height (top (build a.StartTypes vs)) ≡ tall (uses a.StartTypes) vs + nests a.StartTypes
start_types_raises vs r =
    omega (arith)

pub add_type_raises : (vs : List Value) → Ready a.AddType vs → height (top (build a.AddType vs)) ≡ tall (uses a.AddType) vs + nests a.AddType
add_type_raises vs r =
    let h0 = type_name_height vs r.0 in
    let h1 = types_height (below vs) r.1 in
    let h2 = greatest_grown type_depth (top_types (below vs)) (top_type_name vs).tree in
    omega (arith, h0, h1, h2)

pub first_type_raises : (vs : List Value) → Ready a.FirstType vs → height (top (build a.FirstType vs)) ≡ tall (uses a.FirstType) vs + nests a.FirstType
first_type_raises vs r =
    let h0 = type_name_height vs r in
    omega (arith, h0)

pub make_assignment_raises : (vs : List Value) → Ready a.MakeAssignment vs → height (top (build a.MakeAssignment vs)) ≡ tall (uses a.MakeAssignment) vs + nests a.MakeAssignment
make_assignment_raises vs r =
    let h0 = expression_height vs r.0 in
    let h1 = flat_height Kind.mark (below vs) refl r.1 in
    let h2 = expression_height (below (below vs)) r.2 in
    assign_expression (top_expression (below (below vs))).tree (assignment_of (top_mark (below vs)).terminal) (top_expression vs).tree (across (top_expression (below (below vs))).span (top_expression vs).span)
    ∙ omega (arith, h0, h1, h2)

pub make_conditional_raises : (vs : List Value) → Ready a.MakeConditional vs → height (top (build a.MakeConditional vs)) ≡ tall (uses a.MakeConditional) vs + nests a.MakeConditional
make_conditional_raises vs r =
    let h0 = expression_height vs r.0 in
    let h1 = expression_height (below vs) r.1 in
    let h2 = expression_height (below (below vs)) r.2 in
    conditional_expression (top_expression (below (below vs))).tree (top_expression (below vs)).tree (top_expression vs).tree (across (top_expression (below (below vs))).span (top_expression vs).span)
    ∙ omega (arith, h0, h1, h2)

pub make_binary_raises : (vs : List Value) → Ready a.MakeBinary vs → height (top (build a.MakeBinary vs)) ≡ tall (uses a.MakeBinary) vs + nests a.MakeBinary
make_binary_raises vs r =
    let h0 = expression_height vs r.0 in
    let h1 = flat_height Kind.operator (below vs) refl r.1 in
    let h2 = expression_height (below (below vs)) r.2 in
    binary_expression (top_expression (below (below vs))).tree (top_operator (below vs)) (top_expression vs).tree (across (top_expression (below (below vs))).span (top_expression vs).span)
    ∙ omega (arith, h0, h1, h2)

pub make_prefix_raises : (vs : List Value) → Ready a.MakePrefix vs → height (top (build a.MakePrefix vs)) ≡ tall (uses a.MakePrefix) vs + nests a.MakePrefix
make_prefix_raises vs r =
    let h0 = expression_height vs r.0 in
    let h1 = flat_height Kind.mark (below vs) refl r.1 in
    prefix_expression (prefix_of (top_mark (below vs)).terminal) (top_expression vs).tree (across (top_mark (below vs)).span (top_expression vs).span)
    ∙ omega (arith, h0, h1)

pub make_cast_raises : (vs : List Value) → Ready a.MakeCast vs → height (top (build a.MakeCast vs)) ≡ tall (uses a.MakeCast) vs + nests a.MakeCast
make_cast_raises vs r =
    let h0 = expression_height vs r.0 in
    let h1 = type_name_height (below vs) r.1 in
    let h2 = flat_height Kind.mark (below (below vs)) refl r.2 in
    cast_expression (top_type_name (below vs)).tree (top_expression vs).tree (across (top_mark (below (below vs))).span (top_expression vs).span)
    ∙ omega (arith, h0, h1, h2)

pub make_index_raises : (vs : List Value) → Ready a.MakeIndex vs → height (top (build a.MakeIndex vs)) ≡ tall (uses a.MakeIndex) vs + nests a.MakeIndex
make_index_raises vs r =
    let h0 = flat_height Kind.mark vs refl r.0 in
    let h1 = expression_height (below vs) r.1 in
    let h2 = expression_height (below (below vs)) r.2 in
    index_expression (top_expression (below (below vs))).tree (top_expression (below vs)).tree (across (top_expression (below (below vs))).span (top_mark vs).span)
    ∙ omega (arith, h0, h1, h2)

pub make_call_raises : (vs : List Value) → Ready a.MakeCall vs → height (top (build a.MakeCall vs)) ≡ tall (uses a.MakeCall) vs + nests a.MakeCall
make_call_raises vs r =
    let h0 = flat_height Kind.mark vs refl r.0 in
    let h1 = arguments_height (below vs) r.1 in
    let h2 = expression_height (below (below vs)) r.2 in
    call_expression (top_expression (below (below vs))).tree (top_arguments (below vs)) (across (top_expression (below (below vs))).span (top_mark vs).span)
    ∙ omega (arith, h0, h1, h2)

pub make_member_raises : (vs : List Value) → Ready a.MakeMember vs → height (top (build a.MakeMember vs)) ≡ tall (uses a.MakeMember) vs + nests a.MakeMember
make_member_raises vs r =
    let h0 = flat_height Kind.name vs refl r.0 in
    let h1 = flat_height Kind.mark (below vs) refl r.1 in
    let h2 = expression_height (below (below vs)) r.2 in
    member_expression (top_expression (below (below vs))).tree (selector_of (top_mark (below vs)).terminal) (top_name vs).identifier None (across (top_expression (below (below vs))).span (top_name vs).identifier.span)
    ∙ omega (arith, h0, h1, h2)

pub make_member_of_raises : (vs : List Value) → Ready a.MakeMemberOf vs → height (top (build a.MakeMemberOf vs)) ≡ tall (uses a.MakeMemberOf) vs + nests a.MakeMemberOf
make_member_of_raises vs r =
    let h0 = type_arguments_height vs r.0 in
    let h1 = flat_height Kind.name (below vs) refl r.1 in
    let h2 = flat_height Kind.mark (below (below vs)) refl r.2 in
    let h3 = expression_height (below (below (below vs))) r.3 in
    member_expression (top_expression (below (below (below vs)))).tree (selector_of (top_mark (below (below vs))).terminal) (top_name (below vs)).identifier (Some (top_type_arguments vs)) (across (top_expression (below (below (below vs)))).span (top_type_arguments vs).span)
    ∙ omega (arith, h0, h1, h2, h3)

pub make_finaliser_name_raises : (vs : List Value) → Ready a.MakeFinaliserName vs → height (top (build a.MakeFinaliserName vs)) ≡ tall (uses a.MakeFinaliserName) vs + nests a.MakeFinaliserName
make_finaliser_name_raises vs r =
    let h0 = flat_height Kind.name vs refl r.0 in
    let h1 = flat_height Kind.mark (below vs) refl r.1 in
    let h2 = expression_height (below (below vs)) r.2 in
    finaliser_expression (top_expression (below (below vs))).tree (selector_of (top_mark (below vs)).terminal) (top_name vs).identifier (across (top_expression (below (below vs))).span (top_name vs).identifier.span)
    ∙ omega (arith, h0, h1, h2)

pub make_postfix_raises : (vs : List Value) → Ready a.MakePostfix vs → height (top (build a.MakePostfix vs)) ≡ tall (uses a.MakePostfix) vs + nests a.MakePostfix
make_postfix_raises vs r =
    let h0 = flat_height Kind.mark vs refl r.0 in
    let h1 = expression_height (below vs) r.1 in
    postfix_expression (top_expression (below vs)).tree (postfix_of (top_mark vs).terminal) (across (top_expression (below vs)).span (top_mark vs).span)
    ∙ omega (arith, h0, h1)

pub make_number_raises : (vs : List Value) → Ready a.MakeNumber vs → height (top (build a.MakeNumber vs)) ≡ tall (uses a.MakeNumber) vs + nests a.MakeNumber
make_number_raises vs r =
    let h0 = flat_height Kind.number vs refl r in
    number_expression (top_number vs).value (top_number vs).suffix (top_number vs).radix (top_number vs).span
    ∙ omega (arith, h0)

pub make_character_raises : (vs : List Value) → Ready a.MakeCharacter vs → height (top (build a.MakeCharacter vs)) ≡ tall (uses a.MakeCharacter) vs + nests a.MakeCharacter
make_character_raises vs r =
    let h0 = flat_height Kind.character vs refl r in
    character_expression (top_character vs).tree (top_character vs).span
    ∙ omega (arith, h0)

pub start_texts_raises : (vs : List Value) → Ready a.StartTexts vs → height (top (build a.StartTexts vs)) ≡ tall (uses a.StartTexts) vs + nests a.StartTexts
start_texts_raises vs r =
    let h0 = flat_height Kind.literal vs refl r in
    omega (arith, h0)

pub add_text_raises : (vs : List Value) → Ready a.AddText vs → height (top (build a.AddText vs)) ≡ tall (uses a.AddText) vs + nests a.AddText
add_text_raises vs r =
    let h0 = flat_height Kind.literal vs refl r.0 in
    let h1 = flat_height Kind.texts (below vs) refl r.1 in
    omega (arith, h0, h1)

pub make_strings_raises : (vs : List Value) → Ready a.MakeStrings vs → height (top (build a.MakeStrings vs)) ≡ tall (uses a.MakeStrings) vs + nests a.MakeStrings
make_strings_raises vs r =
    let h0 = flat_height Kind.texts vs refl r in
    strings_expression (top_texts vs).tree (top_texts vs).span
    ∙ omega (arith, h0)

pub make_true_raises : (vs : List Value) → Ready a.MakeTrue vs → height (top (build a.MakeTrue vs)) ≡ tall (uses a.MakeTrue) vs + nests a.MakeTrue
make_true_raises vs r =
    let h0 = flat_height Kind.mark vs refl r in
    true_word_expression (top_mark vs).span
    ∙ omega (arith, h0)

pub make_false_raises : (vs : List Value) → Ready a.MakeFalse vs → height (top (build a.MakeFalse vs)) ≡ tall (uses a.MakeFalse) vs + nests a.MakeFalse
make_false_raises vs r =
    let h0 = flat_height Kind.mark vs refl r in
    false_word_expression (top_mark vs).span
    ∙ omega (arith, h0)

pub make_nullptr_raises : (vs : List Value) → Ready a.MakeNullptr vs → height (top (build a.MakeNullptr vs)) ≡ tall (uses a.MakeNullptr) vs + nests a.MakeNullptr
make_nullptr_raises vs r =
    let h0 = flat_height Kind.mark vs refl r in
    nullptr_word_expression (top_mark vs).span
    ∙ omega (arith, h0)

pub make_this_raises : (vs : List Value) → Ready a.MakeThis vs → height (top (build a.MakeThis vs)) ≡ tall (uses a.MakeThis) vs + nests a.MakeThis
make_this_raises vs r =
    let h0 = flat_height Kind.mark vs refl r in
    this_word_expression (top_mark vs).span
    ∙ omega (arith, h0)

pub start_expressions_raises : (vs : List Value) → Ready a.StartExpressions vs → height (top (build a.StartExpressions vs)) ≡ tall (uses a.StartExpressions) vs + nests a.StartExpressions
start_expressions_raises vs r =
    omega (arith)

pub add_expression_raises : (vs : List Value) → Ready a.AddExpression vs → height (top (build a.AddExpression vs)) ≡ tall (uses a.AddExpression) vs + nests a.AddExpression
add_expression_raises vs r =
    let h0 = expression_height vs r.0 in
    let h1 = expressions_height (below vs) r.1 in
    let h2 = greatest_grown expression_depth (top_expressions (below vs)).tree (top_expression vs).tree in
    omega (arith, h0, h1, h2)

pub make_arguments_raises : (vs : List Value) → Ready a.MakeArguments vs → height (top (build a.MakeArguments vs)) ≡ tall (uses a.MakeArguments) vs + nests a.MakeArguments
make_arguments_raises vs r =
    let h0 = expressions_height vs r.0 in
    let h1 = flat_height Kind.mark (below vs) refl r.1 in
    arguments_rolled (top_expressions vs).tree (list_span (top_expressions vs) (top_mark (below vs)).span)
    ∙ omega (arith, h0, h1)

pub make_type_arguments_raises : (vs : List Value) → Ready a.MakeTypeArguments vs → height (top (build a.MakeTypeArguments vs)) ≡ tall (uses a.MakeTypeArguments) vs + nests a.MakeTypeArguments
make_type_arguments_raises vs r =
    let h0 = flat_height Kind.mark vs refl r.0 in
    let h1 = types_height (below vs) r.1 in
    let h2 = flat_height Kind.mark (below (below vs)) refl r.2 in
    omega (arith, h0, h1, h2)

pub make_group_raises : (vs : List Value) → Ready a.MakeGroup vs → height (top (build a.MakeGroup vs)) ≡ tall (uses a.MakeGroup) vs + nests a.MakeGroup
make_group_raises vs r =
    let h0 = flat_height Kind.mark vs refl r.0 in
    let h1 = expression_height (below vs) r.1 in
    let h2 = flat_height Kind.mark (below (below vs)) refl r.2 in
    group_expression (top_expression (below vs)).tree (across (top_mark (below (below vs))).span (top_mark vs).span)
    ∙ omega (arith, h0, h1, h2)

pub make_name_raises : (vs : List Value) → Ready a.MakeName vs → height (top (build a.MakeName vs)) ≡ tall (uses a.MakeName) vs + nests a.MakeName
make_name_raises vs r =
    let h0 = flat_height Kind.qualified vs refl r in
    name_expression (top_qualified vs).path (top_qualified vs).name None (qualified_span (top_qualified vs).path (top_qualified vs).name)
    ∙ omega (arith, h0)

pub make_name_of_raises : (vs : List Value) → Ready a.MakeNameOf vs → height (top (build a.MakeNameOf vs)) ≡ tall (uses a.MakeNameOf) vs + nests a.MakeNameOf
make_name_of_raises vs r =
    let h0 = type_arguments_height vs r.0 in
    let h1 = flat_height Kind.qualified (below vs) refl r.1 in
    name_expression (top_qualified (below vs)).path (top_qualified (below vs)).name (Some (top_type_arguments vs)) (across (qualified_span (top_qualified (below vs)).path (top_qualified (below vs)).name) (top_type_arguments vs).span)
    ∙ omega (arith, h0, h1)

pub make_static_member_raises : (vs : List Value) → Ready a.MakeStaticMember vs → height (top (build a.MakeStaticMember vs)) ≡ tall (uses a.MakeStaticMember) vs + nests a.MakeStaticMember
make_static_member_raises vs r =
    let h0 = flat_height Kind.name vs refl r.0 in
    let h1 = type_name_height (below vs) r.1 in
    static_member_expression (top_type_name (below vs)).tree (top_name vs).identifier (across (top_type_name (below vs)).span (top_name vs).identifier.span)
    ∙ omega (arith, h0, h1)

pub make_construct_raises : (vs : List Value) → Ready a.MakeConstruct vs → height (top (build a.MakeConstruct vs)) ≡ tall (uses a.MakeConstruct) vs + nests a.MakeConstruct
make_construct_raises vs r =
    let h0 = flat_height Kind.mark vs refl r.0 in
    let h1 = arguments_height (below vs) r.1 in
    let h2 = type_name_height (below (below vs)) r.2 in
    construct_expression (top_type_name (below (below vs))).tree (top_arguments (below vs)) (across (top_type_name (below (below vs))).span (top_mark vs).span)
    ∙ omega (arith, h0, h1, h2)

pub make_new_raises : (vs : List Value) → Ready a.MakeNew vs → height (top (build a.MakeNew vs)) ≡ tall (uses a.MakeNew) vs + nests a.MakeNew
make_new_raises vs r =
    let h0 = type_name_height vs r.0 in
    let h1 = flat_height Kind.mark (below vs) refl r.1 in
    new_expression (top_type_name vs).tree (across (top_mark (below vs)).span (top_type_name vs).span)
    ∙ omega (arith, h0, h1)

pub make_new_with_raises : (vs : List Value) → Ready a.MakeNewWith vs → height (top (build a.MakeNewWith vs)) ≡ tall (uses a.MakeNewWith) vs + nests a.MakeNewWith
make_new_with_raises vs r =
    let h0 = flat_height Kind.mark vs refl r.0 in
    let h1 = arguments_height (below vs) r.1 in
    let h2 = type_name_height (below (below vs)) r.2 in
    let h3 = flat_height Kind.mark (below (below (below vs))) refl r.3 in
    new_with_expression (top_type_name (below (below vs))).tree (top_arguments (below vs)) (across (top_mark (below (below (below vs)))).span (top_mark vs).span)
    ∙ omega (arith, h0, h1, h2, h3)

pub make_new_of_raises : (vs : List Value) → Ready a.MakeNewOf vs → height (top (build a.MakeNewOf vs)) ≡ tall (uses a.MakeNewOf) vs + nests a.MakeNewOf
make_new_of_raises vs r =
    let h0 = flat_height Kind.mark vs refl r.0 in
    let h1 = arguments_height (below vs) r.1 in
    let h2 = type_name_height (below (below vs)) r.2 in
    let h3 = flat_height Kind.mark (below (below (below vs))) refl r.3 in
    new_of_expression (top_type_name (below (below vs))).tree (top_arguments (below vs)) (across (top_mark (below (below (below vs)))).span (top_mark vs).span)
    ∙ omega (arith, h0, h1, h2, h3)

pub make_new_with_of_raises : (vs : List Value) → Ready a.MakeNewWithOf vs → height (top (build a.MakeNewWithOf vs)) ≡ tall (uses a.MakeNewWithOf) vs + nests a.MakeNewWithOf
make_new_with_of_raises vs r =
    let h0 = flat_height Kind.mark vs refl r.0 in
    let h1 = arguments_height (below vs) r.1 in
    let h2 = flat_height Kind.mark (below (below vs)) refl r.2 in
    let h3 = arguments_height (below (below (below vs))) r.3 in
    let h4 = type_name_height (below (below (below (below vs)))) r.4 in
    let h5 = flat_height Kind.mark (below (below (below (below (below vs))))) refl r.5 in
    new_with_of_expression (top_type_name (below (below (below (below vs))))).tree (top_arguments (below (below (below vs)))) (top_arguments (below vs)) (across (top_mark (below (below (below (below (below vs)))))).span (top_mark vs).span)
    ∙ omega (arith, h0, h1, h2, h3, h4, h5)

pub make_named_cast_raises : (vs : List Value) → Ready a.MakeNamedCast vs → height (top (build a.MakeNamedCast vs)) ≡ tall (uses a.MakeNamedCast) vs + nests a.MakeNamedCast
make_named_cast_raises vs r =
    let h0 = flat_height Kind.mark vs refl r.0 in
    let h1 = expression_height (below vs) r.1 in
    let h2 = type_name_height (below (below vs)) r.2 in
    let h3 = flat_height Kind.mark (below (below (below vs))) refl r.3 in
    named_cast_expression (cast_of (top_mark (below (below (below vs)))).terminal) (top_type_name (below (below vs))).tree (top_expression (below vs)).tree (across (top_mark (below (below (below vs)))).span (top_mark vs).span)
    ∙ omega (arith, h0, h1, h2, h3)
