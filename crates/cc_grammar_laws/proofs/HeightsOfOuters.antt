-- How high the classes and the other parts of a unit are that an action makes.
use Rattle.std.proofs.Common.{◌≡◌, ◌+◌, refl, ◌∙◌, List, arith}
use Rattle.cc_tree.specs.Spans.{across}
use Rattle.cc_table.specs.declared.symbols.Action.TheVariants as a
use Rattle.cc_table.specs.Sizes.{uses, nests}
use Rattle.cc_tree.specs.Depth.{base_depth, enumerator_depth, template_parameter_depth, outer_depth}
use Rattle.cc_pushdown.specs.declared.value.Value.{Value}
use Rattle.cc_pushdown.specs.Words.{visibility_of}
use Rattle.cc_pushdown.specs.Values.{top, below, top_base, top_bases, top_class, top_enumeration, top_enumerator, top_enumerators, top_function, top_key, top_mark, top_name, top_names, top_outer, top_outers, top_template, top_template_parameter, top_template_parameters}
use Rattle.cc_pushdown.specs.Build.{Ready, build}
use Rattle.cc_grammar_laws.specs.Kinds.{Kind}
use Rattle.cc_grammar_laws.specs.Heights.{height}
use Rattle.cc_grammar_laws.proofs.HeightsOfInputs.{flat_height}
use Rattle.cc_grammar_laws.proofs.HeightsOfTops.{tall, base_height, bases_height, body_height, class_height, enumeration_height, enumerator_height, enumerators_height, function_height, head_height, key_height, members_height, outer_height, outers_height, parameters_height, template_height, template_parameter_height, template_parameters_height, type_name_height}
use Rattle.cc_grammar_laws.proofs.HeightsOfTrees.{class_outer, enumeration_outer, forward_outer, function_outer, greatest_grown, namespace_outer, template_outer, using_outer, visible_class_outer, visible_enumeration_outer}

pub start_class_modifiers_raises : (vs : List Value) → Ready a.StartClassModifiers vs → height (top (build a.StartClassModifiers vs)) ≡ tall (uses a.StartClassModifiers) vs + nests a.StartClassModifiers
start_class_modifiers_raises vs r =
    omega (arith)

pub add_class_modifier_raises : (vs : List Value) → Ready a.AddClassModifier vs → height (top (build a.AddClassModifier vs)) ≡ tall (uses a.AddClassModifier) vs + nests a.AddClassModifier
add_class_modifier_raises vs r =
    let h0 = flat_height Kind.name vs refl r.0 in
    let h1 = flat_height Kind.class_modifiers (below vs) refl r.1 in
    omega (arith, h0, h1)

pub start_bases_raises : (vs : List Value) → Ready a.StartBases vs → height (top (build a.StartBases vs)) ≡ tall (uses a.StartBases) vs + nests a.StartBases
start_bases_raises vs r =
    omega (arith)

pub add_base_raises : (vs : List Value) → Ready a.AddBase vs → height (top (build a.AddBase vs)) ≡ tall (uses a.AddBase) vs + nests a.AddBase
add_base_raises vs r =
    let h0 = base_height vs r.0 in
    let h1 = bases_height (below vs) r.1 in
    let h2 = greatest_grown base_depth (top_bases (below vs)) (top_base vs) in
    omega (arith, h0, h1, h2)

pub make_base_raises : (vs : List Value) → Ready a.MakeBase vs → height (top (build a.MakeBase vs)) ≡ tall (uses a.MakeBase) vs + nests a.MakeBase
make_base_raises vs r =
    let h0 = type_name_height vs r in
    omega (arith, h0)

pub make_public_base_raises : (vs : List Value) → Ready a.MakePublicBase vs → height (top (build a.MakePublicBase vs)) ≡ tall (uses a.MakePublicBase) vs + nests a.MakePublicBase
make_public_base_raises vs r =
    let h0 = type_name_height vs r.0 in
    let h1 = flat_height Kind.mark (below vs) refl r.1 in
    omega (arith, h0, h1)

pub make_head_raises : (vs : List Value) → Ready a.MakeHead vs → height (top (build a.MakeHead vs)) ≡ tall (uses a.MakeHead) vs + nests a.MakeHead
make_head_raises vs r =
    let h0 = bases_height vs r.0 in
    let h1 = flat_height Kind.class_modifiers (below vs) refl r.1 in
    let h2 = flat_height Kind.name (below (below vs)) refl r.2 in
    let h3 = key_height (below (below (below vs))) r.3 in
    omega (arith, h0, h1, h2, h3)

pub make_class_raises : (vs : List Value) → Ready a.MakeClass vs → height (top (build a.MakeClass vs)) ≡ tall (uses a.MakeClass) vs + nests a.MakeClass
make_class_raises vs r =
    let h0 = flat_height Kind.mark vs refl r.0 in
    let h1 = members_height (below vs) r.1 in
    let h2 = head_height (below (below vs)) r.2 in
    omega (arith, h0, h1, h2)

pub start_enumerators_raises : (vs : List Value) → Ready a.StartEnumerators vs → height (top (build a.StartEnumerators vs)) ≡ tall (uses a.StartEnumerators) vs + nests a.StartEnumerators
start_enumerators_raises vs r =
    omega (arith)

pub add_enumerator_raises : (vs : List Value) → Ready a.AddEnumerator vs → height (top (build a.AddEnumerator vs)) ≡ tall (uses a.AddEnumerator) vs + nests a.AddEnumerator
add_enumerator_raises vs r =
    let h0 = enumerator_height vs r.0 in
    let h1 = enumerators_height (below vs) r.1 in
    let h2 = greatest_grown enumerator_depth (top_enumerators (below vs)) (top_enumerator vs) in
    omega (arith, h0, h1, h2)

pub make_enumerator_raises : (vs : List Value) → Ready a.MakeEnumerator vs → height (top (build a.MakeEnumerator vs)) ≡ tall (uses a.MakeEnumerator) vs + nests a.MakeEnumerator
make_enumerator_raises vs r =
    let h0 = flat_height Kind.name vs refl r in
    omega (arith, h0)

pub make_enumerator_value_raises : (vs : List Value) → Ready a.MakeEnumeratorValue vs → height (top (build a.MakeEnumeratorValue vs)) ≡ tall (uses a.MakeEnumeratorValue) vs + nests a.MakeEnumeratorValue
make_enumerator_value_raises vs r =
    let h0 = flat_height Kind.number vs refl r.0 in
    let h1 = flat_height Kind.name (below vs) refl r.1 in
    omega (arith, h0, h1)

pub make_enumerator_negative_raises : (vs : List Value) → Ready a.MakeEnumeratorNegative vs → height (top (build a.MakeEnumeratorNegative vs)) ≡ tall (uses a.MakeEnumeratorNegative) vs + nests a.MakeEnumeratorNegative
make_enumerator_negative_raises vs r =
    let h0 = flat_height Kind.number vs refl r.0 in
    let h1 = flat_height Kind.mark (below vs) refl r.1 in
    let h2 = flat_height Kind.name (below (below vs)) refl r.2 in
    omega (arith, h0, h1, h2)

pub make_enumeration_raises : (vs : List Value) → Ready a.MakeEnumeration vs → height (top (build a.MakeEnumeration vs)) ≡ tall (uses a.MakeEnumeration) vs + nests a.MakeEnumeration
make_enumeration_raises vs r =
    let h0 = flat_height Kind.mark vs refl r.0 in
    let h1 = enumerators_height (below vs) r.1 in
    let h2 = flat_height Kind.name (below (below vs)) refl r.2 in
    let h3 = flat_height Kind.mark (below (below (below vs))) refl r.3 in
    let h4 = flat_height Kind.mark (below (below (below (below vs)))) refl r.4 in
    omega (arith, h0, h1, h2, h3, h4)

pub make_function_raises : (vs : List Value) → Ready a.MakeFunction vs → height (top (build a.MakeFunction vs)) ≡ tall (uses a.MakeFunction) vs + nests a.MakeFunction
make_function_raises vs r =
    let h0 = body_height vs r.0 in
    let h1 = parameters_height (below vs) r.1 in
    let h2 = flat_height Kind.name (below (below vs)) refl r.2 in
    let h3 = type_name_height (below (below (below vs))) r.3 in
    omega (arith, h0, h1, h2, h3)

pub start_template_parameters_raises : (vs : List Value) → Ready a.StartTemplateParameters vs → height (top (build a.StartTemplateParameters vs)) ≡ tall (uses a.StartTemplateParameters) vs + nests a.StartTemplateParameters
start_template_parameters_raises vs r =
    omega (arith)

pub make_template_parameter_raises : (vs : List Value) → Ready a.MakeTemplateParameter vs → height (top (build a.MakeTemplateParameter vs)) ≡ tall (uses a.MakeTemplateParameter) vs + nests a.MakeTemplateParameter
make_template_parameter_raises vs r =
    let h0 = flat_height Kind.name vs refl r.0 in
    let h1 = flat_height Kind.mark (below vs) refl r.1 in
    omega (arith, h0, h1)

pub add_template_parameter_raises : (vs : List Value) → Ready a.AddTemplateParameter vs → height (top (build a.AddTemplateParameter vs)) ≡ tall (uses a.AddTemplateParameter) vs + nests a.AddTemplateParameter
add_template_parameter_raises vs r =
    let h0 = template_parameter_height vs r.0 in
    let h1 = template_parameters_height (below vs) r.1 in
    let h2 = greatest_grown template_parameter_depth (top_template_parameters (below vs)) (top_template_parameter vs) in
    omega (arith, h0, h1, h2)

pub make_template_class_raises : (vs : List Value) → Ready a.MakeTemplateClass vs → height (top (build a.MakeTemplateClass vs)) ≡ tall (uses a.MakeTemplateClass) vs + nests a.MakeTemplateClass
make_template_class_raises vs r =
    let h0 = class_height vs r.0 in
    let h1 = template_parameters_height (below vs) r.1 in
    let h2 = flat_height Kind.mark (below (below vs)) refl r.2 in
    omega (arith, h0, h1, h2)

pub make_template_function_raises : (vs : List Value) → Ready a.MakeTemplateFunction vs → height (top (build a.MakeTemplateFunction vs)) ≡ tall (uses a.MakeTemplateFunction) vs + nests a.MakeTemplateFunction
make_template_function_raises vs r =
    let h0 = function_height vs r.0 in
    let h1 = template_parameters_height (below vs) r.1 in
    let h2 = flat_height Kind.mark (below (below vs)) refl r.2 in
    omega (arith, h0, h1, h2)

pub make_using_raises : (vs : List Value) → Ready a.MakeUsing vs → height (top (build a.MakeUsing vs)) ≡ tall (uses a.MakeUsing) vs + nests a.MakeUsing
make_using_raises vs r =
    let h0 = flat_height Kind.mark vs refl r.0 in
    let h1 = flat_height Kind.names (below vs) refl r.1 in
    let h2 = flat_height Kind.mark (below (below vs)) refl r.2 in
    using_outer (top_names (below vs)) (across (top_mark (below (below vs))).span (top_mark vs).span)
    ∙ omega (arith, h0, h1, h2)

pub make_namespace_raises : (vs : List Value) → Ready a.MakeNamespace vs → height (top (build a.MakeNamespace vs)) ≡ tall (uses a.MakeNamespace) vs + nests a.MakeNamespace
make_namespace_raises vs r =
    let h0 = flat_height Kind.mark vs refl r.0 in
    let h1 = outers_height (below vs) r.1 in
    let h2 = flat_height Kind.name (below (below vs)) refl r.2 in
    let h3 = flat_height Kind.mark (below (below (below vs))) refl r.3 in
    namespace_outer (top_name (below (below vs))).identifier (top_outers (below vs)).tree (across (top_mark (below (below (below vs)))).span (top_mark vs).span)
    ∙ omega (arith, h0, h1, h2, h3)

pub make_outer_class_raises : (vs : List Value) → Ready a.MakeOuterClass vs → height (top (build a.MakeOuterClass vs)) ≡ tall (uses a.MakeOuterClass) vs + nests a.MakeOuterClass
make_outer_class_raises vs r =
    let h0 = class_height vs r in
    class_outer (top_class vs)
    ∙ omega (arith, h0)

pub make_outer_enumeration_raises : (vs : List Value) → Ready a.MakeOuterEnumeration vs → height (top (build a.MakeOuterEnumeration vs)) ≡ tall (uses a.MakeOuterEnumeration) vs + nests a.MakeOuterEnumeration
make_outer_enumeration_raises vs r =
    let h0 = enumeration_height vs r in
    enumeration_outer (top_enumeration vs)
    ∙ omega (arith, h0)

pub make_visible_class_raises : (vs : List Value) → Ready a.MakeVisibleClass vs → height (top (build a.MakeVisibleClass vs)) ≡ tall (uses a.MakeVisibleClass) vs + nests a.MakeVisibleClass
make_visible_class_raises vs r =
    let h0 = class_height vs r.0 in
    let h1 = flat_height Kind.mark (below vs) refl r.1 in
    visible_class_outer (visibility_of (top_mark (below vs)).terminal) (top_class vs) (across (top_mark (below vs)).span (top_class vs).span)
    ∙ omega (arith, h0, h1)

pub make_visible_enumeration_raises : (vs : List Value) → Ready a.MakeVisibleEnumeration vs → height (top (build a.MakeVisibleEnumeration vs)) ≡ tall (uses a.MakeVisibleEnumeration) vs + nests a.MakeVisibleEnumeration
make_visible_enumeration_raises vs r =
    let h0 = enumeration_height vs r.0 in
    let h1 = flat_height Kind.mark (below vs) refl r.1 in
    visible_enumeration_outer (visibility_of (top_mark (below vs)).terminal) (top_enumeration vs) (across (top_mark (below vs)).span (top_enumeration vs).span)
    ∙ omega (arith, h0, h1)

pub make_forward_raises : (vs : List Value) → Ready a.MakeForward vs → height (top (build a.MakeForward vs)) ≡ tall (uses a.MakeForward) vs + nests a.MakeForward
make_forward_raises vs r =
    let h0 = flat_height Kind.mark vs refl r.0 in
    let h1 = flat_height Kind.name (below vs) refl r.1 in
    let h2 = key_height (below (below vs)) r.2 in
    forward_outer (top_key (below (below vs))) (top_name (below vs)).identifier (across (top_key (below (below vs))).span (top_mark vs).span)
    ∙ omega (arith, h0, h1, h2)

pub make_outer_template_raises : (vs : List Value) → Ready a.MakeOuterTemplate vs → height (top (build a.MakeOuterTemplate vs)) ≡ tall (uses a.MakeOuterTemplate) vs + nests a.MakeOuterTemplate
make_outer_template_raises vs r =
    let h0 = template_height vs r in
    template_outer (top_template vs).tree
    ∙ omega (arith, h0)

pub make_outer_function_raises : (vs : List Value) → Ready a.MakeOuterFunction vs → height (top (build a.MakeOuterFunction vs)) ≡ tall (uses a.MakeOuterFunction) vs + nests a.MakeOuterFunction
make_outer_function_raises vs r =
    let h0 = function_height vs r in
    function_outer (top_function vs)
    ∙ omega (arith, h0)

pub start_outers_raises : (vs : List Value) → Ready a.StartOuters vs → height (top (build a.StartOuters vs)) ≡ tall (uses a.StartOuters) vs + nests a.StartOuters
start_outers_raises vs r =
    omega (arith)

pub add_outer_raises : (vs : List Value) → Ready a.AddOuter vs → height (top (build a.AddOuter vs)) ≡ tall (uses a.AddOuter) vs + nests a.AddOuter
add_outer_raises vs r =
    let h0 = outer_height vs r.0 in
    let h1 = outers_height (below vs) r.1 in
    let h2 = greatest_grown outer_depth (top_outers (below vs)).tree (top_outer vs).tree in
    omega (arith, h0, h1, h2)

pub make_unit_raises : (vs : List Value) → Ready a.MakeUnit vs → height (top (build a.MakeUnit vs)) ≡ tall (uses a.MakeUnit) vs + nests a.MakeUnit
make_unit_raises vs r =
    let h0 = outers_height vs r in
    omega (arith, h0)
