use Rattle.std.proofs.Common.{◌≡◌, ◌∷◌, List, sym, ap, ◌∙◌}
use Rattle.cc_table.specs.declared.symbols.Action.{Action}
use Rattle.cc_pushdown.specs.declared.value.Value.{Value}
use Rattle.cc_pushdown.specs.Build.{build}
use Rattle.cc_actions.proofs.made.Goals as goal

-- what holds over each list holds over the values that are there
over : {wanted given : Action} {value : Value} (vs : List Value) → given ≡ wanted → ((ws : List Value) → value ∷ ws ≡ build wanted ws) → value ∷ vs ≡ build given vs
over vs is each = each vs ∙ ap (λ (action : Action). build action vs) (sym is)

pub returns-in-StartTypes : goal.returns-in-StartTypes
returns-in-StartTypes c = over c.args.values.now c.in-StartTypes.is c.start_types.ensures

pub returns-in-StartExpressions : goal.returns-in-StartExpressions
returns-in-StartExpressions c = over c.args.values.now c.in-StartExpressions.is c.start_expressions.ensures

pub returns-in-StartStatements : goal.returns-in-StartStatements
returns-in-StartStatements c = over c.args.values.now c.in-StartStatements.is c.start_statements.ensures

pub returns-in-StartNothing : goal.returns-in-StartNothing
returns-in-StartNothing c = over c.args.values.now c.in-StartNothing.is c.start_nothing.ensures

pub returns-in-StartSections : goal.returns-in-StartSections
returns-in-StartSections c = over c.args.values.now c.in-StartSections.is c.start_sections.ensures

pub returns-in-StartLabels : goal.returns-in-StartLabels
returns-in-StartLabels c = over c.args.values.now c.in-StartLabels.is c.start_labels.ensures

pub returns-in-StartCatches : goal.returns-in-StartCatches
returns-in-StartCatches c = over c.args.values.now c.in-StartCatches.is c.start_catches.ensures

pub returns-in-StartDeclarators : goal.returns-in-StartDeclarators
returns-in-StartDeclarators c = over c.args.values.now c.in-StartDeclarators.is c.start_declarators.ensures

pub returns-in-StartParameters : goal.returns-in-StartParameters
returns-in-StartParameters c = over c.args.values.now c.in-StartParameters.is c.start_parameters.ensures

pub returns-in-StartModifiers : goal.returns-in-StartModifiers
returns-in-StartModifiers c = over c.args.values.now c.in-StartModifiers.is c.start_modifiers.ensures

pub returns-in-NotOverridden : goal.returns-in-NotOverridden
returns-in-NotOverridden c = over c.args.values.now c.in-NotOverridden.is c.not_overridden.ensures

pub returns-in-StartNamedFunctions : goal.returns-in-StartNamedFunctions
returns-in-StartNamedFunctions c = over c.args.values.now c.in-StartNamedFunctions.is c.start_named_functions.ensures

pub returns-in-NoStorage : goal.returns-in-NoStorage
returns-in-NoStorage c = over c.args.values.now c.in-NoStorage.is c.no_storage.ensures

pub returns-in-StartAccessors : goal.returns-in-StartAccessors
returns-in-StartAccessors c = over c.args.values.now c.in-StartAccessors.is c.start_accessors.ensures

pub returns-in-StartInitializers : goal.returns-in-StartInitializers
returns-in-StartInitializers c = over c.args.values.now c.in-StartInitializers.is c.start_initializers.ensures

pub returns-in-StartMembers : goal.returns-in-StartMembers
returns-in-StartMembers c = over c.args.values.now c.in-StartMembers.is c.start_members.ensures

pub returns-in-StartClassModifiers : goal.returns-in-StartClassModifiers
returns-in-StartClassModifiers c = over c.args.values.now c.in-StartClassModifiers.is c.start_class_modifiers.ensures

pub returns-in-StartBases : goal.returns-in-StartBases
returns-in-StartBases c = over c.args.values.now c.in-StartBases.is c.start_bases.ensures

pub returns-in-StartEnumerators : goal.returns-in-StartEnumerators
returns-in-StartEnumerators c = over c.args.values.now c.in-StartEnumerators.is c.start_enumerators.ensures

pub returns-in-StartTemplateParameters : goal.returns-in-StartTemplateParameters
returns-in-StartTemplateParameters c = over c.args.values.now c.in-StartTemplateParameters.is c.start_template_parameters.ensures

pub returns-in-StartOuters : goal.returns-in-StartOuters
returns-in-StartOuters c = over c.args.values.now c.in-StartOuters.is c.start_outers.ensures
