-- How high the members are that an action makes.
use Rattle.std.proofs.Common.{◌≡◌, ◌+◌, refl, ◌∙◌, List, Some, None, arith}
use Rattle.cc_tree.specs.Spans.{across}
use Rattle.cc_table.specs.declared.symbols.Action.TheVariants as a
use Rattle.cc_table.specs.Sizes.{uses, nests}
use Rattle.cc_tree.specs.Depth.{declarator_depth, parameter_depth, named_function_depth, accessor_depth, member_initializer_depth, member_depth}
use Rattle.cc_pushdown.specs.declared.value.Value.{Value}
use Rattle.cc_pushdown.specs.Values.{top, below, top_accessor, top_accessors, top_declarator, top_declarators, top_initializer, top_initializers, top_local, top_mark, top_member, top_members, top_modifiers, top_name, top_named_function, top_named_functions, top_parameter_list, top_type_name}
use Rattle.cc_pushdown.specs.Build.{Ready, build}
use Rattle.cc_grammar_laws.specs.Kinds.{Kind}
use Rattle.cc_grammar_laws.specs.Heights.{height}
use Rattle.cc_grammar_laws.proofs.HeightsOfInputs.{flat_height}
use Rattle.cc_grammar_laws.proofs.HeightsOfTops.{tall, accessor_height, accessors_height, arguments_height, block_height, body_height, declarator_height, declarators_height, expression_height, expressions_height, initializer_height, initializers_height, local_height, member_height, members_height, named_function_height, named_functions_height, overridden_height, parameter_list_height, parameters_height, property_name_height, property_type_height, type_name_height}
use Rattle.cc_grammar_laws.proofs.HeightsOfTrees.{greatest_grown, local_statement, modifiers_low}

pub start_declarators_raises : (vs : List Value) → Ready a.StartDeclarators vs → height (top (build a.StartDeclarators vs)) ≡ tall (uses a.StartDeclarators) vs + nests a.StartDeclarators
start_declarators_raises vs r =
    omega (arith)

pub add_declarator_raises : (vs : List Value) → Ready a.AddDeclarator vs → height (top (build a.AddDeclarator vs)) ≡ tall (uses a.AddDeclarator) vs + nests a.AddDeclarator
add_declarator_raises vs r =
    let h0 = declarator_height vs r.0 in
    let h1 = declarators_height (below vs) r.1 in
    let h2 = greatest_grown declarator_depth (top_declarators (below vs)).tree (top_declarator vs) in
    omega (arith, h0, h1, h2)

pub make_declarator_raises : (vs : List Value) → Ready a.MakeDeclarator vs → height (top (build a.MakeDeclarator vs)) ≡ tall (uses a.MakeDeclarator) vs + nests a.MakeDeclarator
make_declarator_raises vs r =
    let h0 = flat_height Kind.name vs refl r in
    omega (arith, h0)

pub make_declarator_value_raises : (vs : List Value) → Ready a.MakeDeclaratorValue vs → height (top (build a.MakeDeclaratorValue vs)) ≡ tall (uses a.MakeDeclaratorValue) vs + nests a.MakeDeclaratorValue
make_declarator_value_raises vs r =
    let h0 = expression_height vs r.0 in
    let h1 = flat_height Kind.name (below vs) refl r.1 in
    omega (arith, h0, h1)

pub make_declarator_elements_raises : (vs : List Value) → Ready a.MakeDeclaratorElements vs → height (top (build a.MakeDeclaratorElements vs)) ≡ tall (uses a.MakeDeclaratorElements) vs + nests a.MakeDeclaratorElements
make_declarator_elements_raises vs r =
    let h0 = flat_height Kind.mark vs refl r.0 in
    let h1 = arguments_height (below vs) r.1 in
    let h2 = flat_height Kind.name (below (below vs)) refl r.2 in
    omega (arith, h0, h1, h2)

pub make_declarator_arguments_raises : (vs : List Value) → Ready a.MakeDeclaratorArguments vs → height (top (build a.MakeDeclaratorArguments vs)) ≡ tall (uses a.MakeDeclaratorArguments) vs + nests a.MakeDeclaratorArguments
make_declarator_arguments_raises vs r =
    let h0 = flat_height Kind.mark vs refl r.0 in
    let h1 = expressions_height (below vs) r.1 in
    let h2 = flat_height Kind.name (below (below vs)) refl r.2 in
    omega (arith, h0, h1, h2)

pub make_local_raises : (vs : List Value) → Ready a.MakeLocal vs → height (top (build a.MakeLocal vs)) ≡ tall (uses a.MakeLocal) vs + nests a.MakeLocal
make_local_raises vs r =
    let h0 = declarators_height vs r.0 in
    let h1 = type_name_height (below vs) r.1 in
    omega (arith, h0, h1)

pub make_local_statement_raises : (vs : List Value) → Ready a.MakeLocalStatement vs → height (top (build a.MakeLocalStatement vs)) ≡ tall (uses a.MakeLocalStatement) vs + nests a.MakeLocalStatement
make_local_statement_raises vs r =
    let h0 = flat_height Kind.mark vs refl r.0 in
    let h1 = local_height (below vs) r.1 in
    local_statement (top_local (below vs)) (across (top_local (below vs)).span (top_mark vs).span)
    ∙ omega (arith, h0, h1)

pub start_parameters_raises : (vs : List Value) → Ready a.StartParameters vs → height (top (build a.StartParameters vs)) ≡ tall (uses a.StartParameters) vs + nests a.StartParameters
start_parameters_raises vs r =
    omega (arith)

pub add_parameter_raises : (vs : List Value) → Ready a.AddParameter vs → height (top (build a.AddParameter vs)) ≡ tall (uses a.AddParameter) vs + nests a.AddParameter
add_parameter_raises vs r =
    let h0 = type_name_height vs r.0 in
    let h1 = parameter_list_height (below vs) r.1 in
    let h2 = greatest_grown parameter_depth (top_parameter_list (below vs)).tree (record { of = (top_type_name vs).tree; name = None }) in
    omega (arith, h0, h1, h2)

pub add_named_parameter_raises : (vs : List Value) → Ready a.AddNamedParameter vs → height (top (build a.AddNamedParameter vs)) ≡ tall (uses a.AddNamedParameter) vs + nests a.AddNamedParameter
add_named_parameter_raises vs r =
    let h0 = flat_height Kind.name vs refl r.0 in
    let h1 = type_name_height (below vs) r.1 in
    let h2 = parameter_list_height (below (below vs)) r.2 in
    let h3 = greatest_grown parameter_depth (top_parameter_list (below (below vs))).tree (record { of = (top_type_name (below vs)).tree; name = (Some (top_name vs).identifier) }) in
    omega (arith, h0, h1, h2, h3)

pub make_parameters_raises : (vs : List Value) → Ready a.MakeParameters vs → height (top (build a.MakeParameters vs)) ≡ tall (uses a.MakeParameters) vs + nests a.MakeParameters
make_parameters_raises vs r =
    let h0 = parameter_list_height vs r.0 in
    let h1 = flat_height Kind.mark (below vs) refl r.1 in
    omega (arith, h0, h1)

pub start_modifiers_raises : (vs : List Value) → Ready a.StartModifiers vs → height (top (build a.StartModifiers vs)) ≡ tall (uses a.StartModifiers) vs + nests a.StartModifiers
start_modifiers_raises vs r =
    omega (arith)

pub add_modifier_raises : (vs : List Value) → Ready a.AddModifier vs → height (top (build a.AddModifier vs)) ≡ tall (uses a.AddModifier) vs + nests a.AddModifier
add_modifier_raises vs r =
    let h0 = flat_height Kind.modifier_word vs refl r.0 in
    let h1 = flat_height Kind.modifiers (below vs) refl r.1 in
    omega (arith, h0, h1)

pub not_overridden_raises : (vs : List Value) → Ready a.NotOverridden vs → height (top (build a.NotOverridden vs)) ≡ tall (uses a.NotOverridden) vs + nests a.NotOverridden
not_overridden_raises vs r =
    omega (arith)

pub make_pure_raises : (vs : List Value) → Ready a.MakePure vs → height (top (build a.MakePure vs)) ≡ tall (uses a.MakePure) vs + nests a.MakePure
make_pure_raises vs r =
    let h0 = flat_height Kind.number vs refl r in
    omega (arith, h0)

pub start_named_functions_raises : (vs : List Value) → Ready a.StartNamedFunctions vs → height (top (build a.StartNamedFunctions vs)) ≡ tall (uses a.StartNamedFunctions) vs + nests a.StartNamedFunctions
start_named_functions_raises vs r =
    omega (arith)

pub make_named_function_raises : (vs : List Value) → Ready a.MakeNamedFunction vs → height (top (build a.MakeNamedFunction vs)) ≡ tall (uses a.MakeNamedFunction) vs + nests a.MakeNamedFunction
make_named_function_raises vs r =
    let h0 = flat_height Kind.name vs refl r.0 in
    let h1 = type_name_height (below vs) r.1 in
    omega (arith, h0, h1)

pub make_named_accessor_raises : (vs : List Value) → Ready a.MakeNamedAccessor vs → height (top (build a.MakeNamedAccessor vs)) ≡ tall (uses a.MakeNamedAccessor) vs + nests a.MakeNamedAccessor
make_named_accessor_raises vs r =
    let h0 = flat_height Kind.name vs refl r.0 in
    let h1 = flat_height Kind.name (below vs) refl r.1 in
    let h2 = type_name_height (below (below vs)) r.2 in
    omega (arith, h0, h1, h2)

pub add_named_function_raises : (vs : List Value) → Ready a.AddNamedFunction vs → height (top (build a.AddNamedFunction vs)) ≡ tall (uses a.AddNamedFunction) vs + nests a.AddNamedFunction
add_named_function_raises vs r =
    let h0 = named_function_height vs r.0 in
    let h1 = named_functions_height (below vs) r.1 in
    let h2 = greatest_grown named_function_depth (top_named_functions (below vs)).tree (top_named_function vs) in
    omega (arith, h0, h1, h2)

pub make_overridden_raises : (vs : List Value) → Ready a.MakeOverridden vs → height (top (build a.MakeOverridden vs)) ≡ tall (uses a.MakeOverridden) vs + nests a.MakeOverridden
make_overridden_raises vs r =
    let h0 = named_functions_height vs r in
    omega (arith, h0)

pub no_body_raises : (vs : List Value) → Ready a.NoBody vs → height (top (build a.NoBody vs)) ≡ tall (uses a.NoBody) vs + nests a.NoBody
no_body_raises vs r =
    let h0 = flat_height Kind.mark vs refl r in
    omega (arith, h0)

pub some_body_raises : (vs : List Value) → Ready a.SomeBody vs → height (top (build a.SomeBody vs)) ≡ tall (uses a.SomeBody) vs + nests a.SomeBody
some_body_raises vs r =
    let h0 = block_height vs r in
    omega (arith, h0)

pub no_storage_raises : (vs : List Value) → Ready a.NoStorage vs → height (top (build a.NoStorage vs)) ≡ tall (uses a.NoStorage) vs + nests a.NoStorage
no_storage_raises vs r =
    omega (arith)

pub start_initializers_raises : (vs : List Value) → Ready a.StartInitializers vs → height (top (build a.StartInitializers vs)) ≡ tall (uses a.StartInitializers) vs + nests a.StartInitializers
start_initializers_raises vs r =
    omega (arith)

pub add_initializer_raises : (vs : List Value) → Ready a.AddInitializer vs → height (top (build a.AddInitializer vs)) ≡ tall (uses a.AddInitializer) vs + nests a.AddInitializer
add_initializer_raises vs r =
    let h0 = initializer_height vs r.0 in
    let h1 = initializers_height (below vs) r.1 in
    let h2 = greatest_grown member_initializer_depth (top_initializers (below vs)) (top_initializer vs) in
    omega (arith, h0, h1, h2)

pub make_member_initializer_raises : (vs : List Value) → Ready a.MakeMemberInitializer vs → height (top (build a.MakeMemberInitializer vs)) ≡ tall (uses a.MakeMemberInitializer) vs + nests a.MakeMemberInitializer
make_member_initializer_raises vs r =
    let h0 = flat_height Kind.mark vs refl r.0 in
    let h1 = arguments_height (below vs) r.1 in
    let h2 = flat_height Kind.name (below (below vs)) refl r.2 in
    omega (arith, h0, h1, h2)

pub make_base_initializer_raises : (vs : List Value) → Ready a.MakeBaseInitializer vs → height (top (build a.MakeBaseInitializer vs)) ≡ tall (uses a.MakeBaseInitializer) vs + nests a.MakeBaseInitializer
make_base_initializer_raises vs r =
    let h0 = flat_height Kind.mark vs refl r.0 in
    let h1 = arguments_height (below vs) r.1 in
    let h2 = type_name_height (below (below vs)) r.2 in
    omega (arith, h0, h1, h2)

pub first_name_raises : (vs : List Value) → Ready a.FirstName vs → height (top (build a.FirstName vs)) ≡ tall (uses a.FirstName) vs + nests a.FirstName
first_name_raises vs r =
    let h0 = flat_height Kind.name vs refl r in
    omega (arith, h0)

pub add_name_raises : (vs : List Value) → Ready a.AddName vs → height (top (build a.AddName vs)) ≡ tall (uses a.AddName) vs + nests a.AddName
add_name_raises vs r =
    let h0 = flat_height Kind.name vs refl r.0 in
    let h1 = flat_height Kind.names (below vs) refl r.1 in
    omega (arith, h0, h1)

pub make_access_raises : (vs : List Value) → Ready a.MakeAccess vs → height (top (build a.MakeAccess vs)) ≡ tall (uses a.MakeAccess) vs + nests a.MakeAccess
make_access_raises vs r =
    let h0 = flat_height Kind.mark vs refl r.0 in
    let h1 = flat_height Kind.mark (below vs) refl r.1 in
    omega (arith, h0, h1)

pub make_fields_raises : (vs : List Value) → Ready a.MakeFields vs → height (top (build a.MakeFields vs)) ≡ tall (uses a.MakeFields) vs + nests a.MakeFields
make_fields_raises vs r =
    let h0 = flat_height Kind.mark vs refl r.0 in
    let h1 = flat_height Kind.names (below vs) refl r.1 in
    let h2 = type_name_height (below (below vs)) r.2 in
    let h3 = flat_height Kind.storage (below (below (below vs))) refl r.3 in
    omega (arith, h0, h1, h2, h3)

pub make_function_member_raises : (vs : List Value) → Ready a.MakeFunctionMember vs → height (top (build a.MakeFunctionMember vs)) ≡ tall (uses a.MakeFunctionMember) vs + nests a.MakeFunctionMember
make_function_member_raises vs r =
    let h0 = body_height vs r.0 in
    let h1 = overridden_height (below vs) r.1 in
    let h2 = flat_height Kind.modifiers (below (below vs)) refl r.2 in
    let h3 = parameters_height (below (below (below vs))) r.3 in
    let h4 = flat_height Kind.name (below (below (below (below vs)))) refl r.4 in
    let h5 = type_name_height (below (below (below (below (below vs))))) r.5 in
    let h6 = flat_height Kind.storage (below (below (below (below (below (below vs)))))) refl r.6 in
    let h7 = modifiers_low (top_modifiers (below (below vs))) in
    omega (arith, h0, h1, h2, h3, h4, h5, h6, h7)

pub make_constructor_raises : (vs : List Value) → Ready a.MakeConstructor vs → height (top (build a.MakeConstructor vs)) ≡ tall (uses a.MakeConstructor) vs + nests a.MakeConstructor
make_constructor_raises vs r =
    let h0 = block_height vs r.0 in
    let h1 = initializers_height (below vs) r.1 in
    let h2 = parameters_height (below (below vs)) r.2 in
    let h3 = flat_height Kind.name (below (below (below vs))) refl r.3 in
    let h4 = flat_height Kind.storage (below (below (below (below vs)))) refl r.4 in
    omega (arith, h0, h1, h2, h3, h4)

pub make_destructor_raises : (vs : List Value) → Ready a.MakeDestructor vs → height (top (build a.MakeDestructor vs)) ≡ tall (uses a.MakeDestructor) vs + nests a.MakeDestructor
make_destructor_raises vs r =
    let h0 = block_height vs r.0 in
    let h1 = flat_height Kind.name (below vs) refl r.1 in
    let h2 = flat_height Kind.mark (below (below vs)) refl r.2 in
    let h3 = flat_height Kind.storage (below (below (below vs))) refl r.3 in
    omega (arith, h0, h1, h2, h3)

pub make_finaliser_raises : (vs : List Value) → Ready a.MakeFinaliser vs → height (top (build a.MakeFinaliser vs)) ≡ tall (uses a.MakeFinaliser) vs + nests a.MakeFinaliser
make_finaliser_raises vs r =
    let h0 = block_height vs r.0 in
    let h1 = flat_height Kind.name (below vs) refl r.1 in
    let h2 = flat_height Kind.mark (below (below vs)) refl r.2 in
    let h3 = flat_height Kind.storage (below (below (below vs))) refl r.3 in
    omega (arith, h0, h1, h2, h3)

pub start_members_raises : (vs : List Value) → Ready a.StartMembers vs → height (top (build a.StartMembers vs)) ≡ tall (uses a.StartMembers) vs + nests a.StartMembers
start_members_raises vs r =
    omega (arith)

pub add_member_raises : (vs : List Value) → Ready a.AddMember vs → height (top (build a.AddMember vs)) ≡ tall (uses a.AddMember) vs + nests a.AddMember
add_member_raises vs r =
    let h0 = member_height vs r.0 in
    let h1 = members_height (below vs) r.1 in
    let h2 = greatest_grown member_depth (top_members (below vs)) (top_member vs) in
    omega (arith, h0, h1, h2)

pub make_accessor_raises : (vs : List Value) → Ready a.MakeAccessor vs → height (top (build a.MakeAccessor vs)) ≡ tall (uses a.MakeAccessor) vs + nests a.MakeAccessor
make_accessor_raises vs r =
    let h0 = body_height vs r.0 in
    let h1 = overridden_height (below vs) r.1 in
    let h2 = flat_height Kind.modifiers (below (below vs)) refl r.2 in
    let h3 = parameters_height (below (below (below vs))) r.3 in
    let h4 = flat_height Kind.name (below (below (below (below vs)))) refl r.4 in
    let h5 = type_name_height (below (below (below (below (below vs))))) r.5 in
    let h6 = flat_height Kind.storage (below (below (below (below (below (below vs)))))) refl r.6 in
    let h7 = modifiers_low (top_modifiers (below (below vs))) in
    omega (arith, h0, h1, h2, h3, h4, h5, h6, h7)

pub start_accessors_raises : (vs : List Value) → Ready a.StartAccessors vs → height (top (build a.StartAccessors vs)) ≡ tall (uses a.StartAccessors) vs + nests a.StartAccessors
start_accessors_raises vs r =
    omega (arith)

pub add_accessor_raises : (vs : List Value) → Ready a.AddAccessor vs → height (top (build a.AddAccessor vs)) ≡ tall (uses a.AddAccessor) vs + nests a.AddAccessor
add_accessor_raises vs r =
    let h0 = accessor_height vs r.0 in
    let h1 = accessors_height (below vs) r.1 in
    let h2 = greatest_grown accessor_depth (top_accessors (below vs)) (top_accessor vs) in
    omega (arith, h0, h1, h2)

pub make_property_type_raises : (vs : List Value) → Ready a.MakePropertyType vs → height (top (build a.MakePropertyType vs)) ≡ tall (uses a.MakePropertyType) vs + nests a.MakePropertyType
make_property_type_raises vs r =
    let h0 = type_name_height vs r.0 in
    let h1 = flat_height Kind.name (below vs) refl r.1 in
    omega (arith, h0, h1)

pub name_property_raises : (vs : List Value) → Ready a.NameProperty vs → height (top (build a.NameProperty vs)) ≡ tall (uses a.NameProperty) vs + nests a.NameProperty
name_property_raises vs r =
    let h0 = flat_height Kind.name vs refl r in
    omega (arith, h0)

pub index_property_raises : (vs : List Value) → Ready a.IndexProperty vs → height (top (build a.IndexProperty vs)) ≡ tall (uses a.IndexProperty) vs + nests a.IndexProperty
index_property_raises vs r =
    let h0 = type_name_height vs r.0 in
    let h1 = flat_height Kind.mark (below vs) refl r.1 in
    omega (arith, h0, h1)

pub make_property_raises : (vs : List Value) → Ready a.MakeProperty vs → height (top (build a.MakeProperty vs)) ≡ tall (uses a.MakeProperty) vs + nests a.MakeProperty
make_property_raises vs r =
    let h0 = flat_height Kind.mark vs refl r.0 in
    let h1 = accessors_height (below vs) r.1 in
    let h2 = property_name_height (below (below vs)) r.2 in
    let h3 = property_type_height (below (below (below vs))) r.3 in
    let h4 = flat_height Kind.storage (below (below (below (below vs)))) refl r.4 in
    omega (arith, h0, h1, h2, h3, h4)

pub make_trivial_property_raises : (vs : List Value) → Ready a.MakeTrivialProperty vs → height (top (build a.MakeTrivialProperty vs)) ≡ tall (uses a.MakeTrivialProperty) vs + nests a.MakeTrivialProperty
make_trivial_property_raises vs r =
    let h0 = flat_height Kind.mark vs refl r.0 in
    let h1 = property_name_height (below vs) r.1 in
    let h2 = property_type_height (below (below vs)) r.2 in
    let h3 = flat_height Kind.storage (below (below (below vs))) refl r.3 in
    omega (arith, h0, h1, h2, h3)

pub make_key_raises : (vs : List Value) → Ready a.MakeKey vs → height (top (build a.MakeKey vs)) ≡ tall (uses a.MakeKey) vs + nests a.MakeKey
make_key_raises vs r =
    let h0 = flat_height Kind.mark vs refl r.0 in
    let h1 = flat_height Kind.name (below vs) refl r.1 in
    omega (arith, h0, h1)
