-- The value that an action makes is as much higher than those that it uses as the action says.
use Rattle.std.proofs.Common.{◌≡◌, ℕ, zero, suc, ◌+◌, max, refl, sym, ap, ◌∙◌, List, [], ◌∷◌, map, drop, arith}
use Rattle.cc_table.specs.declared.symbols.Action.{Action}
use Rattle.cc_table.specs.declared.symbols.Action.TheVariants as a
use Rattle.cc_table.specs.Sizes.{uses, nests}
use Rattle.cc_pushdown.specs.declared.value.Value.{Value}
use Rattle.cc_pushdown.specs.Values.{top, below}
use Rattle.cc_pushdown.specs.Build.{Ready, build}
use Rattle.cc_grammar_laws.specs.Heights.{height, tallest}
use Rattle.cc_grammar_laws.proofs.HeightsOfTops.{tall}
use Rattle.cc_grammar_laws.proofs.HeightsOfExpressions.{join_marks_raises, fundamental_raises, start_path_raises, add_to_path_raises, end_path_raises, make_named_raises, make_applied_raises, make_handle_raises, make_tracking_raises, make_handle_tracking_raises, start_types_raises, add_type_raises, first_type_raises, make_assignment_raises, make_conditional_raises, make_binary_raises, make_prefix_raises, make_cast_raises, make_index_raises, make_call_raises, make_member_raises, make_member_of_raises, make_finaliser_name_raises, make_postfix_raises, make_number_raises, make_character_raises, start_texts_raises, add_text_raises, make_strings_raises, make_true_raises, make_false_raises, make_nullptr_raises, make_this_raises, start_expressions_raises, add_expression_raises, make_arguments_raises, make_type_arguments_raises, make_group_raises, make_name_raises, make_name_of_raises, make_static_member_raises, make_construct_raises, make_new_raises, make_new_with_raises, make_new_of_raises, make_new_with_of_raises, make_named_cast_raises}
use Rattle.cc_grammar_laws.proofs.HeightsOfStatements.{start_statements_raises, add_statement_raises, make_block_raises, make_block_statement_raises, make_empty_raises, make_expression_statement_raises, make_delete_raises, make_break_raises, make_continue_raises, make_return_raises, make_throw_raises, no_expression_raises, some_expression_raises, make_if_raises, make_if_else_raises, start_sections_raises, start_labels_raises, add_label_raises, add_section_raises, make_switch_raises, make_case_raises, make_default_raises, make_while_raises, make_do_raises, start_nothing_raises, start_local_raises, start_expression_raises, make_for_raises, make_for_each_raises, start_catches_raises, catch_all_raises, catch_typed_raises, catch_named_raises, add_catch_raises, make_try_raises, make_try_finally_raises}
use Rattle.cc_grammar_laws.proofs.HeightsOfMembers.{start_declarators_raises, add_declarator_raises, make_declarator_raises, make_declarator_value_raises, make_declarator_elements_raises, make_declarator_arguments_raises, make_local_raises, make_local_statement_raises, start_parameters_raises, add_parameter_raises, add_named_parameter_raises, make_parameters_raises, start_modifiers_raises, add_modifier_raises, not_overridden_raises, make_pure_raises, start_named_functions_raises, make_named_function_raises, make_named_accessor_raises, add_named_function_raises, make_overridden_raises, no_body_raises, some_body_raises, no_storage_raises, start_initializers_raises, add_initializer_raises, make_member_initializer_raises, make_base_initializer_raises, first_name_raises, add_name_raises, make_access_raises, make_fields_raises, make_function_member_raises, make_constructor_raises, make_destructor_raises, make_finaliser_raises, start_members_raises, add_member_raises, make_accessor_raises, start_accessors_raises, add_accessor_raises, make_property_type_raises, name_property_raises, index_property_raises, make_property_raises, make_trivial_property_raises, make_key_raises}
use Rattle.cc_grammar_laws.proofs.HeightsOfOuters.{start_class_modifiers_raises, add_class_modifier_raises, start_bases_raises, add_base_raises, make_base_raises, make_public_base_raises, make_head_raises, make_class_raises, start_enumerators_raises, add_enumerator_raises, make_enumerator_raises, make_enumerator_value_raises, make_enumerator_negative_raises, make_enumeration_raises, make_function_raises, start_template_parameters_raises, make_template_parameter_raises, add_template_parameter_raises, make_template_class_raises, make_template_function_raises, make_using_raises, make_namespace_raises, make_outer_class_raises, make_outer_enumeration_raises, make_visible_class_raises, make_visible_enumeration_raises, make_forward_raises, make_outer_template_raises, make_outer_function_raises, start_outers_raises, add_outer_raises, make_unit_raises}

pub raises : (action : Action) (vs : List Value) → Ready action vs → height (top (build action vs)) ≡ tall (uses action) vs + nests action
raises a.JoinMarks vs r = join_marks_raises vs r
raises (a.Fundamental of) vs r = fundamental_raises of vs r
raises a.StartPath vs r = start_path_raises vs r
raises a.AddToPath vs r = add_to_path_raises vs r
raises a.EndPath vs r = end_path_raises vs r
raises a.MakeNamed vs r = make_named_raises vs r
raises a.MakeApplied vs r = make_applied_raises vs r
raises a.MakeHandle vs r = make_handle_raises vs r
raises a.MakeTracking vs r = make_tracking_raises vs r
raises a.MakeHandleTracking vs r = make_handle_tracking_raises vs r
raises a.StartTypes vs r = start_types_raises vs r
raises a.AddType vs r = add_type_raises vs r
raises a.FirstType vs r = first_type_raises vs r
raises a.MakeAssignment vs r = make_assignment_raises vs r
raises a.MakeConditional vs r = make_conditional_raises vs r
raises a.MakeBinary vs r = make_binary_raises vs r
raises a.MakePrefix vs r = make_prefix_raises vs r
raises a.MakeCast vs r = make_cast_raises vs r
raises a.MakeIndex vs r = make_index_raises vs r
raises a.MakeCall vs r = make_call_raises vs r
raises a.MakeMember vs r = make_member_raises vs r
raises a.MakeMemberOf vs r = make_member_of_raises vs r
raises a.MakeFinaliserName vs r = make_finaliser_name_raises vs r
raises a.MakePostfix vs r = make_postfix_raises vs r
raises a.MakeNumber vs r = make_number_raises vs r
raises a.MakeCharacter vs r = make_character_raises vs r
raises a.StartTexts vs r = start_texts_raises vs r
raises a.AddText vs r = add_text_raises vs r
raises a.MakeStrings vs r = make_strings_raises vs r
raises a.MakeTrue vs r = make_true_raises vs r
raises a.MakeFalse vs r = make_false_raises vs r
raises a.MakeNullptr vs r = make_nullptr_raises vs r
raises a.MakeThis vs r = make_this_raises vs r
raises a.StartExpressions vs r = start_expressions_raises vs r
raises a.AddExpression vs r = add_expression_raises vs r
raises a.MakeArguments vs r = make_arguments_raises vs r
raises a.MakeTypeArguments vs r = make_type_arguments_raises vs r
raises a.MakeGroup vs r = make_group_raises vs r
raises a.MakeName vs r = make_name_raises vs r
raises a.MakeNameOf vs r = make_name_of_raises vs r
raises a.MakeStaticMember vs r = make_static_member_raises vs r
raises a.MakeConstruct vs r = make_construct_raises vs r
raises a.MakeNew vs r = make_new_raises vs r
raises a.MakeNewWith vs r = make_new_with_raises vs r
raises a.MakeNewOf vs r = make_new_of_raises vs r
raises a.MakeNewWithOf vs r = make_new_with_of_raises vs r
raises a.MakeNamedCast vs r = make_named_cast_raises vs r
raises a.StartStatements vs r = start_statements_raises vs r
raises a.AddStatement vs r = add_statement_raises vs r
raises a.MakeBlock vs r = make_block_raises vs r
raises a.MakeBlockStatement vs r = make_block_statement_raises vs r
raises a.MakeEmpty vs r = make_empty_raises vs r
raises a.MakeExpressionStatement vs r = make_expression_statement_raises vs r
raises a.MakeDelete vs r = make_delete_raises vs r
raises a.MakeBreak vs r = make_break_raises vs r
raises a.MakeContinue vs r = make_continue_raises vs r
raises a.MakeReturn vs r = make_return_raises vs r
raises a.MakeThrow vs r = make_throw_raises vs r
raises a.NoExpression vs r = no_expression_raises vs r
raises a.SomeExpression vs r = some_expression_raises vs r
raises a.MakeIf vs r = make_if_raises vs r
raises a.MakeIfElse vs r = make_if_else_raises vs r
raises a.StartSections vs r = start_sections_raises vs r
raises a.StartLabels vs r = start_labels_raises vs r
raises a.AddLabel vs r = add_label_raises vs r
raises a.AddSection vs r = add_section_raises vs r
raises a.MakeSwitch vs r = make_switch_raises vs r
raises a.MakeCase vs r = make_case_raises vs r
raises a.MakeDefault vs r = make_default_raises vs r
raises a.MakeWhile vs r = make_while_raises vs r
raises a.MakeDo vs r = make_do_raises vs r
raises a.StartNothing vs r = start_nothing_raises vs r
raises a.StartLocal vs r = start_local_raises vs r
raises a.StartExpression vs r = start_expression_raises vs r
raises a.MakeFor vs r = make_for_raises vs r
raises a.MakeForEach vs r = make_for_each_raises vs r
raises a.StartCatches vs r = start_catches_raises vs r
raises a.CatchAll vs r = catch_all_raises vs r
raises a.CatchTyped vs r = catch_typed_raises vs r
raises a.CatchNamed vs r = catch_named_raises vs r
raises a.AddCatch vs r = add_catch_raises vs r
raises a.MakeTry vs r = make_try_raises vs r
raises a.MakeTryFinally vs r = make_try_finally_raises vs r
raises a.StartDeclarators vs r = start_declarators_raises vs r
raises a.AddDeclarator vs r = add_declarator_raises vs r
raises a.MakeDeclarator vs r = make_declarator_raises vs r
raises a.MakeDeclaratorValue vs r = make_declarator_value_raises vs r
raises a.MakeDeclaratorElements vs r = make_declarator_elements_raises vs r
raises a.MakeDeclaratorArguments vs r = make_declarator_arguments_raises vs r
raises a.MakeLocal vs r = make_local_raises vs r
raises a.MakeLocalStatement vs r = make_local_statement_raises vs r
raises a.StartParameters vs r = start_parameters_raises vs r
raises a.AddParameter vs r = add_parameter_raises vs r
raises a.AddNamedParameter vs r = add_named_parameter_raises vs r
raises a.MakeParameters vs r = make_parameters_raises vs r
raises a.StartModifiers vs r = start_modifiers_raises vs r
raises a.AddModifier vs r = add_modifier_raises vs r
raises a.NotOverridden vs r = not_overridden_raises vs r
raises a.MakePure vs r = make_pure_raises vs r
raises a.StartNamedFunctions vs r = start_named_functions_raises vs r
raises a.MakeNamedFunction vs r = make_named_function_raises vs r
raises a.MakeNamedAccessor vs r = make_named_accessor_raises vs r
raises a.AddNamedFunction vs r = add_named_function_raises vs r
raises a.MakeOverridden vs r = make_overridden_raises vs r
raises a.NoBody vs r = no_body_raises vs r
raises a.SomeBody vs r = some_body_raises vs r
raises a.NoStorage vs r = no_storage_raises vs r
raises a.StartInitializers vs r = start_initializers_raises vs r
raises a.AddInitializer vs r = add_initializer_raises vs r
raises a.MakeMemberInitializer vs r = make_member_initializer_raises vs r
raises a.MakeBaseInitializer vs r = make_base_initializer_raises vs r
raises a.FirstName vs r = first_name_raises vs r
raises a.AddName vs r = add_name_raises vs r
raises a.MakeAccess vs r = make_access_raises vs r
raises a.MakeFields vs r = make_fields_raises vs r
raises a.MakeFunctionMember vs r = make_function_member_raises vs r
raises a.MakeConstructor vs r = make_constructor_raises vs r
raises a.MakeDestructor vs r = make_destructor_raises vs r
raises a.MakeFinaliser vs r = make_finaliser_raises vs r
raises a.StartMembers vs r = start_members_raises vs r
raises a.AddMember vs r = add_member_raises vs r
raises a.MakeAccessor vs r = make_accessor_raises vs r
raises a.StartAccessors vs r = start_accessors_raises vs r
raises a.AddAccessor vs r = add_accessor_raises vs r
raises a.MakePropertyType vs r = make_property_type_raises vs r
raises a.NameProperty vs r = name_property_raises vs r
raises a.IndexProperty vs r = index_property_raises vs r
raises a.MakeProperty vs r = make_property_raises vs r
raises a.MakeTrivialProperty vs r = make_trivial_property_raises vs r
raises a.MakeKey vs r = make_key_raises vs r
raises a.StartClassModifiers vs r = start_class_modifiers_raises vs r
raises a.AddClassModifier vs r = add_class_modifier_raises vs r
raises a.StartBases vs r = start_bases_raises vs r
raises a.AddBase vs r = add_base_raises vs r
raises a.MakeBase vs r = make_base_raises vs r
raises a.MakePublicBase vs r = make_public_base_raises vs r
raises a.MakeHead vs r = make_head_raises vs r
raises a.MakeClass vs r = make_class_raises vs r
raises a.StartEnumerators vs r = start_enumerators_raises vs r
raises a.AddEnumerator vs r = add_enumerator_raises vs r
raises a.MakeEnumerator vs r = make_enumerator_raises vs r
raises a.MakeEnumeratorValue vs r = make_enumerator_value_raises vs r
raises a.MakeEnumeratorNegative vs r = make_enumerator_negative_raises vs r
raises a.MakeEnumeration vs r = make_enumeration_raises vs r
raises a.MakeFunction vs r = make_function_raises vs r
raises a.StartTemplateParameters vs r = start_template_parameters_raises vs r
raises a.MakeTemplateParameter vs r = make_template_parameter_raises vs r
raises a.AddTemplateParameter vs r = add_template_parameter_raises vs r
raises a.MakeTemplateClass vs r = make_template_class_raises vs r
raises a.MakeTemplateFunction vs r = make_template_function_raises vs r
raises a.MakeUsing vs r = make_using_raises vs r
raises a.MakeNamespace vs r = make_namespace_raises vs r
raises a.MakeOuterClass vs r = make_outer_class_raises vs r
raises a.MakeOuterEnumeration vs r = make_outer_enumeration_raises vs r
raises a.MakeVisibleClass vs r = make_visible_class_raises vs r
raises a.MakeVisibleEnumeration vs r = make_visible_enumeration_raises vs r
raises a.MakeForward vs r = make_forward_raises vs r
raises a.MakeOuterTemplate vs r = make_outer_template_raises vs r
raises a.MakeOuterFunction vs r = make_outer_function_raises vs r
raises a.StartOuters vs r = start_outers_raises vs r
raises a.AddOuter vs r = add_outer_raises vs r
raises a.MakeUnit vs r = make_unit_raises vs r

-- the values without the topmost
abbrev pub under : ℕ → List Value → List Value
under zero vs = vs
under (suc n) vs = under n (below vs)

-- An action takes the values that it uses and gives one.
pub builds_one : (action : Action) (vs : List Value) → build action vs ≡ top (build action vs) ∷ under (uses action) vs
builds_one a.JoinMarks vs = refl
builds_one _ vs = refl

tallest_tall : (n : ℕ) (vs : List Value) → tallest n (map height vs) ≡ tall n vs
tallest_tall zero vs = refl
tallest_tall (suc n) [] = go (suc n)
  where
    go : (m : ℕ) → 0 ≡ tall m []
    go zero = refl
    go (suc m) =
        let e : 0 ≡ tall m [] = go m in
        omega (arith, e)
tallest_tall (suc n) (one ∷ vs) = ap (max (height one)) (tallest_tall n vs)

drop_under : (n : ℕ) (vs : List Value) → drop n (map height vs) ≡ map height (under n vs)
drop_under zero vs = refl
drop_under (suc n) [] = go n
  where
    go : (m : ℕ) → [] ≡ map height (under m [])
    go zero = refl
    go (suc m) = go m
drop_under (suc n) (one ∷ vs) = drop_under n vs

-- The heights after an action.
pub heights_kept : (action : Action) (vs : List Value) → Ready action vs → map height (build action vs) ≡ (tallest (uses action) (map height vs) + nests action) ∷ drop (uses action) (map height vs)
heights_kept action vs r =
    ap (map height) (builds_one action vs)
    ∙ (ap (λ h. h ∷ map height (under (uses action) vs)) (raises action vs r)
    ∙ (ap (λ t. (t + nests action) ∷ map height (under (uses action) vs)) (sym (tallest_tall (uses action) vs))
    ∙ ap (λ t. (tallest (uses action) (map height vs) + nests action) ∷ t) (sym (drop_under (uses action) vs))))
