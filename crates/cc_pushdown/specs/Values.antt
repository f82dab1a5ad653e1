-- The topmost value of a stack, by what it is.
use Rattle.std.specs.Prelude.{ℕ, List, [], ◌∷◌, Option, Some, None, true, false}
use Rattle.cc_base.specs.declared.text.Span.{Span}
use Rattle.cc_tree.specs.declared.member.Accessor.{Accessor}
use Rattle.cc_tree.specs.declared.expression.Arguments.{Arguments, roll-Arguments}
use Rattle.cc_tree.specs.declared.class.Base.{Base}
use Rattle.cc_tree.specs.declared.expression.BinaryOperator.{BinaryOperator}
use Rattle.cc_tree.specs.declared.statement.Block.{Block, roll-Block}
use Rattle.cc_tree.specs.declared.statement.Catch.{Catch}
use Rattle.cc_tree.specs.declared.statement.Caught.{Caught}
use Rattle.cc_tree.specs.declared.class.Class.{Class}
use Rattle.cc_tree.specs.declared.class.ClassKey.{ClassKey}
use Rattle.cc_tree.specs.declared.class.ClassModifier.{ClassModifier}
use Rattle.cc_tree.specs.declared.terminal.ContextualWord.{ContextualWord}
use Rattle.cc_tree.specs.declared.statement.Declarator.{Declarator}
use Rattle.cc_tree.specs.declared.class.Enumeration.{Enumeration}
use Rattle.cc_tree.specs.declared.class.Enumerator.{Enumerator}
use Rattle.cc_tree.specs.declared.expression.Expression.{Expression}
use Rattle.cc_tree.specs.declared.statement.ForStart.{ForStart}
use Rattle.cc_tree.specs.declared.unit.Function.{Function}
use Rattle.cc_tree.specs.declared.identifier.Identifier.{Identifier}
use Rattle.cc_tree.specs.declared.statement.Label.{Label}
use Rattle.cc_tree.specs.declared.statement.Local.{Local}
use Rattle.cc_tree.specs.declared.member.Member.{Member}
use Rattle.cc_tree.specs.declared.member.MemberInitializer.{MemberInitializer}
use Rattle.cc_tree.specs.declared.member.Modifier.{Modifier}
use Rattle.cc_tree.specs.declared.member.NamedFunction.{NamedFunction}
use Rattle.cc_tree.specs.declared.unit.Outer.{Outer}
use Rattle.cc_tree.specs.declared.member.Overridden.{Overridden}
use Rattle.cc_tree.specs.declared.member.Parameter.{Parameter}
use Rattle.cc_tree.specs.declared.member.Parameters.{Parameters}
use Rattle.cc_tree.specs.declared.member.PropertyName.{PropertyName}
use Rattle.cc_tree.specs.declared.statement.Section.{Section}
use Rattle.cc_tree.specs.declared.statement.Statement.{Statement}
use Rattle.cc_tree.specs.declared.unit.Template.{Template}
use Rattle.cc_tree.specs.declared.unit.TemplateParameter.{TemplateParameter}
use Rattle.cc_tree.specs.declared.type_name.TypeArguments.{TypeArguments}
use Rattle.cc_tree.specs.declared.type_name.TypeName.{TypeName}
use Rattle.cc_tree.specs.declared.unit.Unit as unit
use Rattle.cc_tree.specs.declared.member.AccessWord.TheVariants as access
use Rattle.cc_tree.specs.declared.member.AccessorWord.TheVariants as accessor_word
use Rattle.cc_tree.specs.declared.class.AggregateWord.TheVariants as aggregate
use Rattle.cc_tree.specs.declared.expression.BinaryOperator.TheVariants as binary
use Rattle.cc_tree.specs.declared.statement.Caught.TheVariants as caught
use Rattle.cc_tree.specs.declared.class.ClassWord.TheVariants as class_word
use Rattle.cc_tree.specs.declared.terminal.ContextualWord.TheVariants as c
use Rattle.cc_tree.specs.declared.expression.Expression.TheVariants as e
use Rattle.cc_tree.specs.declared.statement.ForStart.TheVariants as start
use Rattle.cc_tree.specs.declared.type_name.FundamentalType.TheVariants as f
use Rattle.cc_tree.specs.declared.statement.Initializer.TheVariants as initial
use Rattle.cc_tree.specs.declared.statement.Label.TheVariants as label
use Rattle.cc_tree.specs.declared.member.Member.TheVariants as m
use Rattle.cc_tree.specs.declared.member.MemberInitializer.TheVariants as init
use Rattle.cc_tree.specs.declared.member.Modifier.TheVariants as modifier
use Rattle.cc_tree.specs.declared.terminal.NameKind.TheVariants as n
use Rattle.cc_tree.specs.declared.unit.Outer.TheVariants as o
use Rattle.cc_tree.specs.declared.unit.ParameterWord.TheVariants as parameter
use Rattle.cc_tree.specs.declared.member.PropertyName.TheVariants as property_name
use Rattle.cc_tree.specs.declared.token.Radix.TheVariants as radix
use Rattle.cc_tree.specs.declared.statement.Statement.TheVariants as z
use Rattle.cc_tree.specs.declared.token.Suffix.TheVariants as suffix
use Rattle.cc_tree.specs.declared.unit.Template.TheVariants as template
use Rattle.cc_tree.specs.declared.terminal.Terminal.TheVariants as t
use Rattle.cc_tree.specs.declared.type_name.TypeName.TheVariants as type
use Rattle.cc_pushdown.specs.declared.value.Value.{Value}
use Rattle.cc_pushdown.specs.declared.value.Node.{Node}
use Rattle.cc_pushdown.specs.declared.value.Mark.{Mark}
use Rattle.cc_pushdown.specs.declared.value.NameToken.{NameToken}
use Rattle.cc_pushdown.specs.declared.value.Numeral.{Numeral}
use Rattle.cc_pushdown.specs.declared.value.QualifiedName.{QualifiedName}
use Rattle.cc_pushdown.specs.declared.value.ClassHead.{ClassHead}
use Rattle.cc_pushdown.specs.declared.value.Value.TheVariants as v

-- the span of what is not there
abbrev pub nowhere : Span
nowhere = record { first = 0; past = 0 }

-- all but the topmost
abbrev pub below : List Value → List Value
below [] = []
below (value ∷ vs) = vs

abbrev pub top : List Value → Value
top (value ∷ vs) = value
top [] = v.NoStorage

-- what stands for a value that is not there
abbrev pub no_mark : Mark
no_mark = record { terminal = t.Other; span = nowhere }

abbrev pub no_name : Identifier
no_name = record { name = []; span = nowhere }

abbrev pub no_type : TypeName
no_type = type.Fundamental f.Void nowhere

abbrev pub no_arguments : Arguments
no_arguments = roll-Arguments (record { items = []; span = nowhere })

abbrev pub no_parameters : Parameters
no_parameters = record { items = []; span = nowhere }

abbrev pub no_accessor : Accessor
no_accessor = record { is_virtual = false; of = no_type; word = accessor_word.Get; word_span = nowhere; parameters = no_parameters; modifiers = []; overridden = None; body = None; span = nowhere }

abbrev pub no_key : ClassKey
no_key = record { word = class_word.Ref; aggregate = aggregate.Class; span = nowhere }

abbrev pub no_class : Class
no_class = record { key = no_key; name = no_name; modifiers = []; bases = []; members = []; span = nowhere }

abbrev pub no_function : Function
no_function = record { result = no_type; name = no_name; parameters = no_parameters; body = None; span = nowhere }

abbrev pub top_mark : List Value → Mark
top_mark (v.Mark value ∷ vs) = value
top_mark _ = no_mark

abbrev pub top_name : List Value → NameToken
top_name (v.Name value ∷ vs) = value
top_name _ = record { kind = n.Plain; word = c.Nothing; identifier = no_name }

abbrev pub top_number : List Value → Numeral
top_number (v.Number value ∷ vs) = value
top_number _ = record { value = 0; suffix = suffix.Plain; radix = radix.Octal; span = nowhere }

abbrev pub top_character : List Value → Node ℕ
top_character (v.Character value ∷ vs) = value
top_character _ = record { tree = 0; span = nowhere }

abbrev pub top_literal : List Value → Node (List ℕ)
top_literal (v.Literal value ∷ vs) = value
top_literal _ = record { tree = []; span = nowhere }

abbrev pub top_path : List Value → List Identifier
top_path (v.Path value ∷ vs) = value
top_path _ = []

abbrev pub top_qualified : List Value → QualifiedName
top_qualified (v.Qualified value ∷ vs) = value
top_qualified _ = record { path = []; name = no_name }

abbrev pub top_type_name : List Value → Node TypeName
top_type_name (v.Type value ∷ vs) = value
top_type_name _ = record { tree = no_type; span = nowhere }

abbrev pub top_types : List Value → List TypeName
top_types (v.Types value ∷ vs) = value
top_types _ = []

abbrev pub top_type_arguments : List Value → TypeArguments
top_type_arguments (v.TypeArguments value ∷ vs) = value
top_type_arguments _ = record { types = []; span = nowhere }

abbrev pub top_expression : List Value → Node Expression
top_expression (v.Expression value ∷ vs) = value
top_expression _ = record { tree = (e.This nowhere); span = nowhere }

abbrev pub top_expressions : List Value → Node (List Expression)
top_expressions (v.Expressions value ∷ vs) = value
top_expressions _ = record { tree = []; span = nowhere }

abbrev pub top_arguments : List Value → Arguments
top_arguments (v.Arguments value ∷ vs) = value
top_arguments _ = no_arguments

abbrev pub top_texts : List Value → Node (List (List ℕ))
top_texts (v.Texts value ∷ vs) = value
top_texts _ = record { tree = []; span = nowhere }

abbrev pub top_statement : List Value → Node Statement
top_statement (v.Statement value ∷ vs) = value
top_statement _ = record { tree = (z.Empty nowhere); span = nowhere }

abbrev pub top_statements : List Value → List Statement
top_statements (v.Statements value ∷ vs) = value
top_statements _ = []

abbrev pub top_block : List Value → Node Block
top_block (v.Block value ∷ vs) = value
top_block _ = record { tree = (roll-Block (record { statements = []; span = nowhere })); span = nowhere }

abbrev pub top_label : List Value → Label
top_label (v.Label value ∷ vs) = value
top_label _ = label.Default nowhere

abbrev pub top_labels : List Value → List Label
top_labels (v.Labels value ∷ vs) = value
top_labels _ = []

abbrev pub top_sections : List Value → List Section
top_sections (v.Sections value ∷ vs) = value
top_sections _ = []

abbrev pub top_local : List Value → Local
top_local (v.Local value ∷ vs) = value
top_local _ = record { of = no_type; declarators = []; span = nowhere }

abbrev pub top_declarator : List Value → Declarator
top_declarator (v.Declarator value ∷ vs) = value
top_declarator _ = record { name = no_name; initializer = initial.Nothing; span = nowhere }

abbrev pub top_declarators : List Value → Node (List Declarator)
top_declarators (v.Declarators value ∷ vs) = value
top_declarators _ = record { tree = []; span = nowhere }

abbrev pub top_for_start : List Value → ForStart
top_for_start (v.ForStart value ∷ vs) = value
top_for_start _ = start.Nothing

abbrev pub top_optional : List Value → Node (Option Expression)
top_optional (v.Optional value ∷ vs) = value
top_optional _ = record { tree = None; span = nowhere }

abbrev pub top_caught : List Value → Caught
top_caught (v.Caught value ∷ vs) = value
top_caught _ = caught.All

abbrev pub top_catches : List Value → Node (List Catch)
top_catches (v.Catches value ∷ vs) = value
top_catches _ = record { tree = []; span = nowhere }

abbrev pub top_parameter_list : List Value → Node (List Parameter)
top_parameter_list (v.ParameterList value ∷ vs) = value
top_parameter_list _ = record { tree = []; span = nowhere }

abbrev pub top_parameters : List Value → Parameters
top_parameters (v.Parameters value ∷ vs) = value
top_parameters _ = no_parameters

abbrev pub top_modifiers : List Value → List Modifier
top_modifiers (v.Modifiers value ∷ vs) = value
top_modifiers _ = []

abbrev pub top_overridden : List Value → Option Overridden
top_overridden (v.Overridden value ∷ vs) = value
top_overridden _ = None

abbrev pub top_named_function : List Value → NamedFunction
top_named_function (v.NamedFunction value ∷ vs) = value
top_named_function _ = record { class = no_type; name = no_name; accessor = None; span = nowhere }

abbrev pub top_named_functions : List Value → Node (List NamedFunction)
top_named_functions (v.NamedFunctions value ∷ vs) = value
top_named_functions _ = record { tree = []; span = nowhere }

abbrev pub top_body : List Value → Node (Option Block)
top_body (v.Body value ∷ vs) = value
top_body _ = record { tree = None; span = nowhere }

abbrev pub top_accessor : List Value → Accessor
top_accessor (v.Accessor value ∷ vs) = value
top_accessor _ = no_accessor

abbrev pub top_accessors : List Value → List Accessor
top_accessors (v.Accessors value ∷ vs) = value
top_accessors _ = []

abbrev pub top_initializer : List Value → MemberInitializer
top_initializer (v.Initializer value ∷ vs) = value
top_initializer _ = init.Member no_name no_arguments nowhere

abbrev pub top_initializers : List Value → List MemberInitializer
top_initializers (v.Initializers value ∷ vs) = value
top_initializers _ = []

abbrev pub top_names : List Value → List Identifier
top_names (v.Names value ∷ vs) = value
top_names _ = []

abbrev pub top_property_type : List Value → Node TypeName
top_property_type (v.PropertyType value ∷ vs) = value
top_property_type _ = record { tree = no_type; span = nowhere }

abbrev pub top_property_name : List Value → PropertyName
top_property_name (v.PropertyName value ∷ vs) = value
top_property_name _ = property_name.Named no_name

abbrev pub top_member : List Value → Member
top_member (v.Member value ∷ vs) = value
top_member _ = m.Access access.Public nowhere

abbrev pub top_members : List Value → List Member
top_members (v.Members value ∷ vs) = value
top_members _ = []

abbrev pub top_key : List Value → ClassKey
top_key (v.Key value ∷ vs) = value
top_key _ = no_key

abbrev pub top_class_modifiers : List Value → List ClassModifier
top_class_modifiers (v.ClassModifiers value ∷ vs) = value
top_class_modifiers _ = []

abbrev pub top_base : List Value → Base
top_base (v.Base value ∷ vs) = value
top_base _ = record { is_public = false; of = no_type; span = nowhere }

abbrev pub top_bases : List Value → List Base
top_bases (v.Bases value ∷ vs) = value
top_bases _ = []

abbrev pub top_head : List Value → ClassHead
top_head (v.Head value ∷ vs) = value
top_head _ = record { key = no_key; name = no_name; modifiers = []; bases = [] }

abbrev pub top_class : List Value → Class
top_class (v.Class value ∷ vs) = value
top_class _ = no_class

abbrev pub top_enumerator : List Value → Enumerator
top_enumerator (v.Enumerator value ∷ vs) = value
top_enumerator _ = record { name = no_name; value = None; span = nowhere }

abbrev pub top_enumerators : List Value → List Enumerator
top_enumerators (v.Enumerators value ∷ vs) = value
top_enumerators _ = []

abbrev pub top_enumeration : List Value → Enumeration
top_enumeration (v.Enumeration value ∷ vs) = value
top_enumeration _ = record { aggregate = aggregate.Class; name = no_name; items = []; span = nowhere }

abbrev pub top_function : List Value → Function
top_function (v.Function value ∷ vs) = value
top_function _ = no_function

abbrev pub top_template_parameter : List Value → TemplateParameter
top_template_parameter (v.TemplateParameter value ∷ vs) = value
top_template_parameter _ = record { word = parameter.Class; name = no_name; span = nowhere }

abbrev pub top_template_parameters : List Value → List TemplateParameter
top_template_parameters (v.TemplateParameters value ∷ vs) = value
top_template_parameters _ = []

abbrev pub top_template : List Value → Node Template
top_template (v.Template value ∷ vs) = value
top_template _ = record { tree = (template.Function [] no_function nowhere); span = nowhere }

abbrev pub top_outer : List Value → Node Outer
top_outer (v.Outer value ∷ vs) = value
top_outer _ = record { tree = (o.Using [] nowhere); span = nowhere }

abbrev pub top_outers : List Value → Node (List Outer)
top_outers (v.Outers value ∷ vs) = value
top_outers _ = record { tree = []; span = nowhere }

abbrev pub top_unit : List Value → unit.Unit
top_unit (v.Unit value ∷ vs) = value
top_unit _ = record { outers = []; span = nowhere }

abbrev pub top_operator : List Value → BinaryOperator
top_operator (v.Operator value ∷ vs) = value
top_operator _ = binary.LogicalOr

-- `static` or `virtual`, where one of them stands
abbrev pub top_storage : List Value → Option Mark
top_storage (v.Mark value ∷ vs) = Some value
top_storage _ = None

abbrev pub modifier_of : ContextualWord → Span → Modifier
modifier_of c.Abstract span = modifier.Abstract span
modifier_of c.Override span = modifier.Override span
modifier_of _ span = modifier.Sealed span

abbrev pub top_modifier : List Value → Modifier
top_modifier (v.Mark value ∷ vs) = modifier.New value.span
top_modifier (v.Name value ∷ vs) = modifier_of value.word value.identifier.span
top_modifier _ = modifier.New nowhere

abbrev pub HasMark : List Value → Type 0
HasMark (v.Mark value ∷ vs) = Unit {0}
HasMark _ = ⊥

abbrev pub HasName : List Value → Type 0
HasName (v.Name value ∷ vs) = Unit {0}
HasName _ = ⊥

abbrev pub HasNumber : List Value → Type 0
HasNumber (v.Number value ∷ vs) = Unit {0}
HasNumber _ = ⊥

abbrev pub HasCharacter : List Value → Type 0
HasCharacter (v.Character value ∷ vs) = Unit {0}
HasCharacter _ = ⊥

abbrev pub HasLiteral : List Value → Type 0
HasLiteral (v.Literal value ∷ vs) = Unit {0}
HasLiteral _ = ⊥

abbrev pub HasPath : List Value → Type 0
HasPath (v.Path value ∷ vs) = Unit {0}
HasPath _ = ⊥

abbrev pub HasQualified : List Value → Type 0
HasQualified (v.Qualified value ∷ vs) = Unit {0}
HasQualified _ = ⊥

abbrev pub HasType : List Value → Type 0
HasType (v.Type value ∷ vs) = Unit {0}
HasType _ = ⊥

abbrev pub HasTypes : List Value → Type 0
HasTypes (v.Types value ∷ vs) = Unit {0}
HasTypes _ = ⊥

abbrev pub HasTypeArguments : List Value → Type 0
HasTypeArguments (v.TypeArguments value ∷ vs) = Unit {0}
HasTypeArguments _ = ⊥

abbrev pub HasExpression : List Value → Type 0
HasExpression (v.Expression value ∷ vs) = Unit {0}
HasExpression _ = ⊥

abbrev pub HasExpressions : List Value → Type 0
HasExpressions (v.Expressions value ∷ vs) = Unit {0}
HasExpressions _ = ⊥

abbrev pub HasArguments : List Value → Type 0
HasArguments (v.Arguments value ∷ vs) = Unit {0}
HasArguments _ = ⊥

abbrev pub HasTexts : List Value → Type 0
HasTexts (v.Texts value ∷ vs) = Unit {0}
HasTexts _ = ⊥

abbrev pub HasStatement : List Value → Type 0
HasStatement (v.Statement value ∷ vs) = Unit {0}
HasStatement _ = ⊥

abbrev pub HasStatements : List Value → Type 0
HasStatements (v.Statements value ∷ vs) = Unit {0}
HasStatements _ = ⊥

abbrev pub HasBlock : List Value → Type 0
HasBlock (v.Block value ∷ vs) = Unit {0}
HasBlock _ = ⊥

abbrev pub HasLabel : List Value → Type 0
HasLabel (v.Label value ∷ vs) = Unit {0}
HasLabel _ = ⊥

abbrev pub HasLabels : List Value → Type 0
HasLabels (v.Labels value ∷ vs) = Unit {0}
HasLabels _ = ⊥

abbrev pub HasSections : List Value → Type 0
HasSections (v.Sections value ∷ vs) = Unit {0}
HasSections _ = ⊥

abbrev pub HasLocal : List Value → Type 0
HasLocal (v.Local value ∷ vs) = Unit {0}
HasLocal _ = ⊥

abbrev pub HasDeclarator : List Value → Type 0
HasDeclarator (v.Declarator value ∷ vs) = Unit {0}
HasDeclarator _ = ⊥

abbrev pub HasDeclarators : List Value → Type 0
HasDeclarators (v.Declarators value ∷ vs) = Unit {0}
HasDeclarators _ = ⊥

abbrev pub HasForStart : List Value → Type 0
HasForStart (v.ForStart value ∷ vs) = Unit {0}
HasForStart _ = ⊥

abbrev pub HasOptional : List Value → Type 0
HasOptional (v.Optional value ∷ vs) = Unit {0}
HasOptional _ = ⊥

abbrev pub HasCaught : List Value → Type 0
HasCaught (v.Caught value ∷ vs) = Unit {0}
HasCaught _ = ⊥

abbrev pub HasCatches : List Value → Type 0
HasCatches (v.Catches value ∷ vs) = Unit {0}
HasCatches _ = ⊥

abbrev pub HasParameterList : List Value → Type 0
HasParameterList (v.ParameterList value ∷ vs) = Unit {0}
HasParameterList _ = ⊥

abbrev pub HasParameters : List Value → Type 0
HasParameters (v.Parameters value ∷ vs) = Unit {0}
HasParameters _ = ⊥

abbrev pub HasModifiers : List Value → Type 0
HasModifiers (v.Modifiers value ∷ vs) = Unit {0}
HasModifiers _ = ⊥

abbrev pub HasOverridden : List Value → Type 0
HasOverridden (v.Overridden value ∷ vs) = Unit {0}
HasOverridden _ = ⊥

abbrev pub HasNamedFunction : List Value → Type 0
HasNamedFunction (v.NamedFunction value ∷ vs) = Unit {0}
HasNamedFunction _ = ⊥

abbrev pub HasNamedFunctions : List Value → Type 0
HasNamedFunctions (v.NamedFunctions value ∷ vs) = Unit {0}
HasNamedFunctions _ = ⊥

abbrev pub HasBody : List Value → Type 0
HasBody (v.Body value ∷ vs) = Unit {0}
HasBody _ = ⊥

abbrev pub HasAccessor : List Value → Type 0
HasAccessor (v.Accessor value ∷ vs) = Unit {0}
HasAccessor _ = ⊥

abbrev pub HasAccessors : List Value → Type 0
HasAccessors (v.Accessors value ∷ vs) = Unit {0}
HasAccessors _ = ⊥

abbrev pub HasInitializer : List Value → Type 0
HasInitializer (v.Initializer value ∷ vs) = Unit {0}
HasInitializer _ = ⊥

abbrev pub HasInitializers : List Value → Type 0
HasInitializers (v.Initializers value ∷ vs) = Unit {0}
HasInitializers _ = ⊥

abbrev pub HasNames : List Value → Type 0
HasNames (v.Names value ∷ vs) = Unit {0}
HasNames _ = ⊥

abbrev pub HasPropertyType : List Value → Type 0
HasPropertyType (v.PropertyType value ∷ vs) = Unit {0}
HasPropertyType _ = ⊥

abbrev pub HasPropertyName : List Value → Type 0
HasPropertyName (v.PropertyName value ∷ vs) = Unit {0}
HasPropertyName _ = ⊥

abbrev pub HasMember : List Value → Type 0
HasMember (v.Member value ∷ vs) = Unit {0}
HasMember _ = ⊥

abbrev pub HasMembers : List Value → Type 0
HasMembers (v.Members value ∷ vs) = Unit {0}
HasMembers _ = ⊥

abbrev pub HasKey : List Value → Type 0
HasKey (v.Key value ∷ vs) = Unit {0}
HasKey _ = ⊥

abbrev pub HasClassModifiers : List Value → Type 0
HasClassModifiers (v.ClassModifiers value ∷ vs) = Unit {0}
HasClassModifiers _ = ⊥

abbrev pub HasBase : List Value → Type 0
HasBase (v.Base value ∷ vs) = Unit {0}
HasBase _ = ⊥

abbrev pub HasBases : List Value → Type 0
HasBases (v.Bases value ∷ vs) = Unit {0}
HasBases _ = ⊥

abbrev pub HasHead : List Value → Type 0
HasHead (v.Head value ∷ vs) = Unit {0}
HasHead _ = ⊥

abbrev pub HasClass : List Value → Type 0
HasClass (v.Class value ∷ vs) = Unit {0}
HasClass _ = ⊥

abbrev pub HasEnumerator : List Value → Type 0
HasEnumerator (v.Enumerator value ∷ vs) = Unit {0}
HasEnumerator _ = ⊥

abbrev pub HasEnumerators : List Value → Type 0
HasEnumerators (v.Enumerators value ∷ vs) = Unit {0}
HasEnumerators _ = ⊥

abbrev pub HasEnumeration : List Value → Type 0
HasEnumeration (v.Enumeration value ∷ vs) = Unit {0}
HasEnumeration _ = ⊥

abbrev pub HasFunction : List Value → Type 0
HasFunction (v.Function value ∷ vs) = Unit {0}
HasFunction _ = ⊥

abbrev pub HasTemplateParameter : List Value → Type 0
HasTemplateParameter (v.TemplateParameter value ∷ vs) = Unit {0}
HasTemplateParameter _ = ⊥

abbrev pub HasTemplateParameters : List Value → Type 0
HasTemplateParameters (v.TemplateParameters value ∷ vs) = Unit {0}
HasTemplateParameters _ = ⊥

abbrev pub HasTemplate : List Value → Type 0
HasTemplate (v.Template value ∷ vs) = Unit {0}
HasTemplate _ = ⊥

abbrev pub HasOuter : List Value → Type 0
HasOuter (v.Outer value ∷ vs) = Unit {0}
HasOuter _ = ⊥

abbrev pub HasOuters : List Value → Type 0
HasOuters (v.Outers value ∷ vs) = Unit {0}
HasOuters _ = ⊥

abbrev pub HasUnit : List Value → Type 0
HasUnit (v.Unit value ∷ vs) = Unit {0}
HasUnit _ = ⊥

abbrev pub HasOperator : List Value → Type 0
HasOperator (v.Operator value ∷ vs) = Unit {0}
HasOperator _ = ⊥

abbrev pub HasStorage : List Value → Type 0
HasStorage (v.Mark value ∷ vs) = Unit {0}
HasStorage (v.NoStorage ∷ vs) = Unit {0}
HasStorage _ = ⊥

abbrev pub HasModifierWord : List Value → Type 0
HasModifierWord (v.Mark value ∷ vs) = Unit {0}
HasModifierWord (v.Name value ∷ vs) = Unit {0}
HasModifierWord _ = ⊥
