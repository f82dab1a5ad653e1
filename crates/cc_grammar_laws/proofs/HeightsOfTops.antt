-- The height of the topmost value, by what it is.
use Rattle.std.proofs.Common.{◌≡◌, ℕ, zero, suc, max, refl, List, ◌∷◌, map}
use Rattle.cc_tree.specs.Depth.{greatest, optional_of, type_depth, type_arguments_depth, expression_depth, arguments_depth, statement_depth, block_depth, label_depth, local_depth, declarator_depth, start_depth, caught_depth, parameter_depth, parameters_depth, overridden_depth, named_function_depth, accessor_depth, member_initializer_depth, property_name_depth, member_depth, base_depth, class_depth, enumerator_depth, enumeration_depth, function_depth, template_parameter_depth, template_depth, outer_depth}
use Rattle.cc_pushdown.specs.declared.value.Value.{Value}
use Rattle.cc_pushdown.specs.declared.value.Value.TheVariants as v
use Rattle.cc_pushdown.specs.Values.{top, below, HasType, HasTypes, HasTypeArguments, HasExpression, HasExpressions, HasArguments, HasStatement, HasStatements, HasBlock, HasLabel, HasLabels, HasSections, HasLocal, HasDeclarator, HasDeclarators, HasForStart, HasOptional, HasCaught, HasCatches, HasParameterList, HasParameters, HasOverridden, HasNamedFunction, HasNamedFunctions, HasBody, HasAccessor, HasAccessors, HasInitializer, HasInitializers, HasPropertyType, HasPropertyName, HasMember, HasMembers, HasKey, HasBase, HasBases, HasHead, HasClass, HasEnumerator, HasEnumerators, HasEnumeration, HasFunction, HasTemplateParameter, HasTemplateParameters, HasTemplate, HasOuter, HasOuters, top_type_name, top_types, top_type_arguments, top_expression, top_expressions, top_arguments, top_statement, top_statements, top_block, top_label, top_labels, top_sections, top_local, top_declarator, top_declarators, top_for_start, top_optional, top_caught, top_catches, top_parameter_list, top_parameters, top_overridden, top_named_function, top_named_functions, top_body, top_accessor, top_accessors, top_initializer, top_initializers, top_property_type, top_property_name, top_member, top_members, top_base, top_bases, top_head, top_class, top_enumerator, top_enumerators, top_enumeration, top_function, top_template_parameter, top_template_parameters, top_template, top_outer, top_outers}
use Rattle.cc_grammar_laws.specs.Heights.{height, section_depth, catch_depth}

-- the greatest height of the topmost values
abbrev pub tall : ℕ → List Value → ℕ
tall zero vs = 0
tall (suc n) vs = max (height (top vs)) (tall n (below vs))

pub type_name_height : (vs : List Value) → HasType vs → height (top vs) ≡ type_depth (top_type_name vs).tree
type_name_height (v.Type value ∷ vs) h = refl
type_name_height _ h = absurd h

pub types_height : (vs : List Value) → HasTypes vs → height (top vs) ≡ greatest (map type_depth (top_types vs))
types_height (v.Types value ∷ vs) h = refl
types_height _ h = absurd h

pub type_arguments_height : (vs : List Value) → HasTypeArguments vs → height (top vs) ≡ type_arguments_depth (top_type_arguments vs)
type_arguments_height (v.TypeArguments value ∷ vs) h = refl
type_arguments_height _ h = absurd h

pub expression_height : (vs : List Value) → HasExpression vs → height (top vs) ≡ expression_depth (top_expression vs).tree
expression_height (v.Expression value ∷ vs) h = refl
expression_height _ h = absurd h

pub expressions_height : (vs : List Value) → HasExpressions vs → height (top vs) ≡ greatest (map expression_depth (top_expressions vs).tree)
expressions_height (v.Expressions value ∷ vs) h = refl
expressions_height _ h = absurd h

pub arguments_height : (vs : List Value) → HasArguments vs → height (top vs) ≡ arguments_depth (top_arguments vs)
arguments_height (v.Arguments value ∷ vs) h = refl
arguments_height _ h = absurd h

pub statement_height : (vs : List Value) → HasStatement vs → height (top vs) ≡ statement_depth (top_statement vs).tree
statement_height (v.Statement value ∷ vs) h = refl
statement_height _ h = absurd h

pub statements_height : (vs : List Value) → HasStatements vs → height (top vs) ≡ greatest (map statement_depth (top_statements vs))
statements_height (v.Statements value ∷ vs) h = refl
statements_height _ h = absurd h

pub block_height : (vs : List Value) → HasBlock vs → height (top vs) ≡ block_depth (top_block vs).tree
block_height (v.Block value ∷ vs) h = refl
block_height _ h = absurd h

pub label_height : (vs : List Value) → HasLabel vs → height (top vs) ≡ label_depth (top_label vs)
label_height (v.Label value ∷ vs) h = refl
label_height _ h = absurd h

pub labels_height : (vs : List Value) → HasLabels vs → height (top vs) ≡ greatest (map label_depth (top_labels vs))
labels_height (v.Labels value ∷ vs) h = refl
labels_height _ h = absurd h

pub sections_height : (vs : List Value) → HasSections vs → height (top vs) ≡ greatest (map section_depth (top_sections vs))
sections_height (v.Sections value ∷ vs) h = refl
sections_height _ h = absurd h

pub local_height : (vs : List Value) → HasLocal vs → height (top vs) ≡ local_depth (top_local vs)
local_height (v.Local value ∷ vs) h = refl
local_height _ h = absurd h

pub declarator_height : (vs : List Value) → HasDeclarator vs → height (top vs) ≡ declarator_depth (top_declarator vs)
declarator_height (v.Declarator value ∷ vs) h = refl
declarator_height _ h = absurd h

pub declarators_height : (vs : List Value) → HasDeclarators vs → height (top vs) ≡ greatest (map declarator_depth (top_declarators vs).tree)
declarators_height (v.Declarators value ∷ vs) h = refl
declarators_height _ h = absurd h

pub for_start_height : (vs : List Value) → HasForStart vs → height (top vs) ≡ start_depth (top_for_start vs)
for_start_height (v.ForStart value ∷ vs) h = refl
for_start_height _ h = absurd h

pub optional_height : (vs : List Value) → HasOptional vs → height (top vs) ≡ optional_of expression_depth (top_optional vs).tree
optional_height (v.Optional value ∷ vs) h = refl
optional_height _ h = absurd h

pub caught_height : (vs : List Value) → HasCaught vs → height (top vs) ≡ caught_depth (top_caught vs)
caught_height (v.Caught value ∷ vs) h = refl
caught_height _ h = absurd h

pub catches_height : (vs : List Value) → HasCatches vs → height (top vs) ≡ greatest (map catch_depth (top_catches vs).tree)
catches_height (v.Catches value ∷ vs) h = refl
catches_height _ h = absurd h

pub parameter_list_height : (vs : List Value) → HasParameterList vs → height (top vs) ≡ greatest (map parameter_depth (top_parameter_list vs).tree)
parameter_list_height (v.ParameterList value ∷ vs) h = refl
parameter_list_height _ h = absurd h

pub parameters_height : (vs : List Value) → HasParameters vs → height (top vs) ≡ parameters_depth (top_parameters vs)
parameters_height (v.Parameters value ∷ vs) h = refl
parameters_height _ h = absurd h

pub overridden_height : (vs : List Value) → HasOverridden vs → height (top vs) ≡ optional_of overridden_depth (top_overridden vs)
overridden_height (v.Overridden value ∷ vs) h = refl
overridden_height _ h = absurd h

pub named_function_height : (vs : List Value) → HasNamedFunction vs → height (top vs) ≡ named_function_depth (top_named_function vs)
named_function_height (v.NamedFunction value ∷ vs) h = refl
named_function_height _ h = absurd h

pub named_functions_height : (vs : List Value) → HasNamedFunctions vs → height (top vs) ≡ greatest (map named_function_depth (top_named_functions vs).tree)
named_functions_height (v.NamedFunctions value ∷ vs) h = refl
named_functions_height _ h = absurd h

pub body_height : (vs : List Value) → HasBody vs → height (top vs) ≡ optional_of block_depth (top_body vs).tree
body_height (v.Body value ∷ vs) h = refl
body_height _ h = absurd h

pub accessor_height : (vs : List Value) → HasAccessor vs → height (top vs) ≡ accessor_depth (top_accessor vs)
accessor_height (v.Accessor value ∷ vs) h = refl
accessor_height _ h = absurd h

pub accessors_height : (vs : List Value) → HasAccessors vs → height (top vs) ≡ greatest (map accessor_depth (top_accessors vs))
accessors_height (v.Accessors value ∷ vs) h = refl
accessors_height _ h = absurd h

pub initializer_height : (vs : List Value) → HasInitializer vs → height (top vs) ≡ member_initializer_depth (top_initializer vs)
initializer_height (v.Initializer value ∷ vs) h = refl
initializer_height _ h = absurd h

pub initializers_height : (vs : List Value) → HasInitializers vs → height (top vs) ≡ greatest (map member_initializer_depth (top_initializers vs))
initializers_height (v.Initializers value ∷ vs) h = refl
initializers_height _ h = absurd h

pub property_type_height : (vs : List Value) → HasPropertyType vs → height (top vs) ≡ type_depth (top_property_type vs).tree
property_type_height (v.PropertyType value ∷ vs) h = refl
property_type_height _ h = absurd h

pub property_name_height : (vs : List Value) → HasPropertyName vs → height (top vs) ≡ property_name_depth (top_property_name vs)
property_name_height (v.PropertyName value ∷ vs) h = refl
property_name_height _ h = absurd h

pub member_height : (vs : List Value) → HasMember vs → height (top vs) ≡ member_depth (top_member vs)
member_height (v.Member value ∷ vs) h = refl
member_height _ h = absurd h

pub members_height : (vs : List Value) → HasMembers vs → height (top vs) ≡ greatest (map member_depth (top_members vs))
members_height (v.Members value ∷ vs) h = refl
members_height _ h = absurd h

pub key_height : (vs : List Value) → HasKey vs → height (top vs) ≡ 1
key_height (v.Key value ∷ vs) h = refl
key_height _ h = absurd h

pub base_height : (vs : List Value) → HasBase vs → height (top vs) ≡ base_depth (top_base vs)
base_height (v.Base value ∷ vs) h = refl
base_height _ h = absurd h

pub bases_height : (vs : List Value) → HasBases vs → height (top vs) ≡ greatest (map base_depth (top_bases vs))
bases_height (v.Bases value ∷ vs) h = refl
bases_height _ h = absurd h

pub head_height : (vs : List Value) → HasHead vs → height (top vs) ≡ max 1 (greatest (map base_depth (top_head vs).bases))
head_height (v.Head value ∷ vs) h = refl
head_height _ h = absurd h

pub class_height : (vs : List Value) → HasClass vs → height (top vs) ≡ class_depth (top_class vs)
class_height (v.Class value ∷ vs) h = refl
class_height _ h = absurd h

pub enumerator_height : (vs : List Value) → HasEnumerator vs → height (top vs) ≡ enumerator_depth (top_enumerator vs)
enumerator_height (v.Enumerator value ∷ vs) h = refl
enumerator_height _ h = absurd h

pub enumerators_height : (vs : List Value) → HasEnumerators vs → height (top vs) ≡ greatest (map enumerator_depth (top_enumerators vs))
enumerators_height (v.Enumerators value ∷ vs) h = refl
enumerators_height _ h = absurd h

pub enumeration_height : (vs : List Value) → HasEnumeration vs → height (top vs) ≡ enumeration_depth (top_enumeration vs)
enumeration_height (v.Enumeration value ∷ vs) h = refl
enumeration_height _ h = absurd h

pub function_height : (vs : List Value) → HasFunction vs → height (top vs) ≡ function_depth (top_function vs)
function_height (v.Function value ∷ vs) h = refl
function_height _ h = absurd h

pub template_parameter_height : (vs : List Value) → HasTemplateParameter vs → height (top vs) ≡ template_parameter_depth (top_template_parameter vs)
template_parameter_height (v.TemplateParameter value ∷ vs) h = refl
template_parameter_height _ h = absurd h

pub template_parameters_height : (vs : List Value) → HasTemplateParameters vs → height (top vs) ≡ greatest (map template_parameter_depth (top_template_parameters vs))
template_parameters_height (v.TemplateParameters value ∷ vs) h = refl
template_parameters_height _ h = absurd h

pub template_height : (vs : List Value) → HasTemplate vs → height (top vs) ≡ template_depth (top_template vs).tree
template_height (v.Template value ∷ vs) h = refl
template_height _ h = absurd h

pub outer_height : (vs : List Value) → HasOuter vs → height (top vs) ≡ outer_depth (top_outer vs).tree
outer_height (v.Outer value ∷ vs) h = refl
outer_height _ h = absurd h

pub outers_height : (vs : List Value) → HasOuters vs → height (top vs) ≡ greatest (map outer_depth (top_outers vs).tree)
outers_height (v.Outers value ∷ vs) h = refl
outers_height _ h = absurd h
