-- The kinds of the parser's values, and which of them each action and each part takes and gives.
use Rattle.std.specs.Prelude.{◌≡◌, ℕ, List, [], ◌∷◌, ◌++◌, Option, Some, None, Bool, true, false, cond, ◌||◌, nat_eq}
use Rattle.cc_tree.specs.declared.terminal.Terminal.TheVariants as t
use Rattle.cc_table.specs.declared.symbols.Sort.{Sort}
use Rattle.cc_table.specs.declared.symbols.Sort.TheVariants as o
use Rattle.cc_table.specs.declared.symbols.Action.{Action}
use Rattle.cc_table.specs.declared.symbols.Action.TheVariants as a
use Rattle.cc_table.specs.declared.symbols.Input.{Input}
use Rattle.cc_table.specs.declared.symbols.Input.TheVariants as i
use Rattle.cc_table.specs.declared.symbols.Symbol.{Symbol}
use Rattle.cc_table.specs.declared.symbols.Symbol.TheVariants.{Non, Act, Back}
use Rattle.cc_pushdown.specs.declared.value.Value.{Value}
use Rattle.cc_pushdown.specs.declared.value.Value.TheVariants as v
use Rattle.cc_pushdown.specs.Values.{below, HasAccessor, HasAccessors, HasArguments, HasBase, HasBases, HasBlock, HasBody, HasCatches, HasCaught, HasCharacter, HasClass, HasClassModifiers, HasDeclarator, HasDeclarators, HasEnumeration, HasEnumerator, HasEnumerators, HasExpression, HasExpressions, HasForStart, HasFunction, HasHead, HasInitializer, HasInitializers, HasKey, HasLabel, HasLabels, HasLiteral, HasLocal, HasMark, HasMember, HasMembers, HasModifierWord, HasModifiers, HasName, HasNamedFunction, HasNamedFunctions, HasNames, HasNumber, HasOperator, HasOptional, HasOuter, HasOuters, HasOverridden, HasParameterList, HasParameters, HasPath, HasPropertyName, HasPropertyType, HasQualified, HasSections, HasStatement, HasStatements, HasStorage, HasTemplate, HasTemplateParameter, HasTemplateParameters, HasTexts, HasType, HasTypeArguments, HasTypes, HasUnit}
use Rattle.cc_pushdown.specs.Machine.{Fed, fed}

-- Most kinds have the name of their values. A storage is a mark or none, a modifier's word is a name or a mark.
pub data Kind : Type 0 where
  mark name number character literal type_name qualified path : Kind
  types expression operator arguments type_arguments texts expressions statements : Kind
  statement block optional sections labels label for_start local : Kind
  catches caught declarators declarator parameter_list parameters modifiers modifier_word : Kind
  overridden named_functions named_function body no_storage initializers initializer names : Kind
  member storage members accessor accessors property_type property_name key : Kind
  class_modifiers bases base head class enumerators enumerator enumeration : Kind
  function template_parameters template_parameter template outer outers whole : Kind

abbrev pub number_of : Kind → ℕ
number_of Kind.mark = 0
number_of Kind.name = 1
number_of Kind.number = 2
number_of Kind.character = 3
number_of Kind.literal = 4
number_of Kind.type_name = 5
number_of Kind.qualified = 6
number_of Kind.path = 7
number_of Kind.types = 8
number_of Kind.expression = 9
number_of Kind.operator = 10
number_of Kind.arguments = 11
number_of Kind.type_arguments = 12
number_of Kind.texts = 13
number_of Kind.expressions = 14
number_of Kind.statements = 15
number_of Kind.statement = 16
number_of Kind.block = 17
number_of Kind.optional = 18
number_of Kind.sections = 19
number_of Kind.labels = 20
number_of Kind.label = 21
number_of Kind.for_start = 22
number_of Kind.local = 23
number_of Kind.catches = 24
number_of Kind.caught = 25
number_of Kind.declarators = 26
number_of Kind.declarator = 27
number_of Kind.parameter_list = 28
number_of Kind.parameters = 29
number_of Kind.modifiers = 30
number_of Kind.modifier_word = 31
number_of Kind.overridden = 32
number_of Kind.named_functions = 33
number_of Kind.named_function = 34
number_of Kind.body = 35
number_of Kind.no_storage = 36
number_of Kind.initializers = 37
number_of Kind.initializer = 38
number_of Kind.names = 39
number_of Kind.member = 40
number_of Kind.storage = 41
number_of Kind.members = 42
number_of Kind.accessor = 43
number_of Kind.accessors = 44
number_of Kind.property_type = 45
number_of Kind.property_name = 46
number_of Kind.key = 47
number_of Kind.class_modifiers = 48
number_of Kind.bases = 49
number_of Kind.base = 50
number_of Kind.head = 51
number_of Kind.class = 52
number_of Kind.enumerators = 53
number_of Kind.enumerator = 54
number_of Kind.enumeration = 55
number_of Kind.function = 56
number_of Kind.template_parameters = 57
number_of Kind.template_parameter = 58
number_of Kind.template = 59
number_of Kind.outer = 60
number_of Kind.outers = 61
number_of Kind.whole = 62

abbrev pub all_kinds : List Kind
all_kinds = Kind.mark ∷ Kind.name ∷ Kind.number ∷ Kind.character ∷ Kind.literal ∷ Kind.type_name ∷ Kind.qualified ∷ Kind.path ∷ Kind.types ∷ Kind.expression ∷ Kind.operator ∷ Kind.arguments ∷ Kind.type_arguments ∷ Kind.texts ∷ Kind.expressions ∷ Kind.statements ∷ Kind.statement ∷ Kind.block ∷ Kind.optional ∷ Kind.sections ∷ Kind.labels ∷ Kind.label ∷ Kind.for_start ∷ Kind.local ∷ Kind.catches ∷ Kind.caught ∷ Kind.declarators ∷ Kind.declarator ∷ Kind.parameter_list ∷ Kind.parameters ∷ Kind.modifiers ∷ Kind.modifier_word ∷ Kind.overridden ∷ Kind.named_functions ∷ Kind.named_function ∷ Kind.body ∷ Kind.no_storage ∷ Kind.initializers ∷ Kind.initializer ∷ Kind.names ∷ Kind.member ∷ Kind.storage ∷ Kind.members ∷ Kind.accessor ∷ Kind.accessors ∷ Kind.property_type ∷ Kind.property_name ∷ Kind.key ∷ Kind.class_modifiers ∷ Kind.bases ∷ Kind.base ∷ Kind.head ∷ Kind.class ∷ Kind.enumerators ∷ Kind.enumerator ∷ Kind.enumeration ∷ Kind.function ∷ Kind.template_parameters ∷ Kind.template_parameter ∷ Kind.template ∷ Kind.outer ∷ Kind.outers ∷ Kind.whole ∷ []

abbrev pub is_same : Kind → Kind → Bool
is_same one other = nat_eq (number_of one) (number_of other)

abbrev pub HasNoStorage : List Value → Type 0
HasNoStorage (v.NoStorage ∷ vs) = Unit {0}
HasNoStorage _ = ⊥

-- The topmost value is of a kind.
abbrev pub Has : Kind → List Value → Type 0
Has Kind.mark vs = HasMark vs
Has Kind.name vs = HasName vs
Has Kind.number vs = HasNumber vs
Has Kind.character vs = HasCharacter vs
Has Kind.literal vs = HasLiteral vs
Has Kind.type_name vs = HasType vs
Has Kind.qualified vs = HasQualified vs
Has Kind.path vs = HasPath vs
Has Kind.types vs = HasTypes vs
Has Kind.expression vs = HasExpression vs
Has Kind.operator vs = HasOperator vs
Has Kind.arguments vs = HasArguments vs
Has Kind.type_arguments vs = HasTypeArguments vs
Has Kind.texts vs = HasTexts vs
Has Kind.expressions vs = HasExpressions vs
Has Kind.statements vs = HasStatements vs
Has Kind.statement vs = HasStatement vs
Has Kind.block vs = HasBlock vs
Has Kind.optional vs = HasOptional vs
Has Kind.sections vs = HasSections vs
Has Kind.labels vs = HasLabels vs
Has Kind.label vs = HasLabel vs
Has Kind.for_start vs = HasForStart vs
Has Kind.local vs = HasLocal vs
Has Kind.catches vs = HasCatches vs
Has Kind.caught vs = HasCaught vs
Has Kind.declarators vs = HasDeclarators vs
Has Kind.declarator vs = HasDeclarator vs
Has Kind.parameter_list vs = HasParameterList vs
Has Kind.parameters vs = HasParameters vs
Has Kind.modifiers vs = HasModifiers vs
Has Kind.modifier_word vs = HasModifierWord vs
Has Kind.overridden vs = HasOverridden vs
Has Kind.named_functions vs = HasNamedFunctions vs
Has Kind.named_function vs = HasNamedFunction vs
Has Kind.body vs = HasBody vs
Has Kind.no_storage vs = HasNoStorage vs
Has Kind.initializers vs = HasInitializers vs
Has Kind.initializer vs = HasInitializer vs
Has Kind.names vs = HasNames vs
Has Kind.member vs = HasMember vs
Has Kind.storage vs = HasStorage vs
Has Kind.members vs = HasMembers vs
Has Kind.accessor vs = HasAccessor vs
Has Kind.accessors vs = HasAccessors vs
Has Kind.property_type vs = HasPropertyType vs
Has Kind.property_name vs = HasPropertyName vs
Has Kind.key vs = HasKey vs
Has Kind.class_modifiers vs = HasClassModifiers vs
Has Kind.bases vs = HasBases vs
Has Kind.base vs = HasBase vs
Has Kind.head vs = HasHead vs
Has Kind.class vs = HasClass vs
Has Kind.enumerators vs = HasEnumerators vs
Has Kind.enumerator vs = HasEnumerator vs
Has Kind.enumeration vs = HasEnumeration vs
Has Kind.function vs = HasFunction vs
Has Kind.template_parameters vs = HasTemplateParameters vs
Has Kind.template_parameter vs = HasTemplateParameter vs
Has Kind.template vs = HasTemplate vs
Has Kind.outer vs = HasOuter vs
Has Kind.outers vs = HasOuters vs
Has Kind.whole vs = HasUnit vs

-- The values are of these kinds, from the top, and no others follow.
abbrev pub Holds : List Kind → List Value → Type 0
Holds [] vs = vs ≡ []
Holds (kind ∷ kinds) vs = Has kind vs × Holds kinds (below vs)

-- the kind of an input's value
abbrev pub input_kind : Input → Kind
input_kind (i.Token (t.Name kind word)) = Kind.name
input_kind (i.Token t.Number) = Kind.number
input_kind (i.Token t.Zero) = Kind.number
input_kind (i.Token t.Character) = Kind.character
input_kind (i.Token t.Literal) = Kind.literal
input_kind (i.Token _) = Kind.mark
input_kind (i.Own kind word) = Kind.name
input_kind i.TouchingGreater = Kind.mark
input_kind i.CoreType = Kind.type_name
input_kind i.OperandType = Kind.type_name
input_kind i.QualifiedPlain = Kind.qualified
input_kind i.QualifiedFunction = Kind.qualified
input_kind i.PropertyType = Kind.property_type
input_kind i.ConstructorName = Kind.name
input_kind i.DeclaredName = Kind.name
input_kind i.ShiftRight = Kind.mark
input_kind i.RelationalGreater = Kind.mark

-- The inputs' values are of their kinds.
abbrev pub AllFed : List Fed → Type 0
AllFed [] = Unit {0}
AllFed (fed input value ∷ fs) = ((vs : List Value) → Has (input_kind input) (value ∷ vs)) × AllFed fs

-- what an action takes, from the top
abbrev pub needs : Action → List Kind
needs a.JoinMarks = Kind.mark ∷ Kind.mark ∷ []
needs (a.Fundamental of) = Kind.mark ∷ []
needs a.StartPath = Kind.name ∷ []
needs a.AddToPath = Kind.qualified ∷ []
needs a.EndPath = Kind.name ∷ Kind.path ∷ []
needs a.MakeNamed = Kind.qualified ∷ []
needs a.MakeApplied = Kind.mark ∷ Kind.types ∷ Kind.mark ∷ Kind.qualified ∷ []
needs a.MakeHandle = Kind.mark ∷ Kind.type_name ∷ []
needs a.MakeTracking = Kind.mark ∷ Kind.type_name ∷ []
needs a.MakeHandleTracking = Kind.mark ∷ Kind.mark ∷ Kind.type_name ∷ []
needs a.AddType = Kind.type_name ∷ Kind.types ∷ []
needs a.FirstType = Kind.type_name ∷ []
needs a.MakeAssignment = Kind.expression ∷ Kind.mark ∷ Kind.expression ∷ []
needs a.MakeConditional = Kind.expression ∷ Kind.expression ∷ Kind.expression ∷ []
needs a.MakeBinary = Kind.expression ∷ Kind.operator ∷ Kind.expression ∷ []
needs a.MakePrefix = Kind.expression ∷ Kind.mark ∷ []
needs a.MakeCast = Kind.expression ∷ Kind.type_name ∷ Kind.mark ∷ []
needs a.MakeIndex = Kind.mark ∷ Kind.expression ∷ Kind.expression ∷ []
needs a.MakeCall = Kind.mark ∷ Kind.arguments ∷ Kind.expression ∷ []
needs a.MakeMember = Kind.name ∷ Kind.mark ∷ Kind.expression ∷ []
needs a.MakeMemberOf = Kind.type_arguments ∷ Kind.name ∷ Kind.mark ∷ Kind.expression ∷ []
needs a.MakeFinaliserName = Kind.name ∷ Kind.mark ∷ Kind.expression ∷ []
needs a.MakePostfix = Kind.mark ∷ Kind.expression ∷ []
needs a.MakeNumber = Kind.number ∷ []
needs a.MakeCharacter = Kind.character ∷ []
needs a.StartTexts = Kind.literal ∷ []
needs a.AddText = Kind.literal ∷ Kind.texts ∷ []
needs a.MakeStrings = Kind.texts ∷ []
needs a.MakeTrue = Kind.mark ∷ []
needs a.MakeFalse = Kind.mark ∷ []
needs a.MakeNullptr = Kind.mark ∷ []
needs a.MakeThis = Kind.mark ∷ []
needs a.AddExpression = Kind.expression ∷ Kind.expressions ∷ []
needs a.MakeArguments = Kind.expressions ∷ Kind.mark ∷ []
needs a.MakeTypeArguments = Kind.mark ∷ Kind.types ∷ Kind.mark ∷ []
needs a.MakeGroup = Kind.mark ∷ Kind.expression ∷ Kind.mark ∷ []
needs a.MakeName = Kind.qualified ∷ []
needs a.MakeNameOf = Kind.type_arguments ∷ Kind.qualified ∷ []
needs a.MakeStaticMember = Kind.name ∷ Kind.type_name ∷ []
needs a.MakeConstruct = Kind.mark ∷ Kind.arguments ∷ Kind.type_name ∷ []
needs a.MakeNew = Kind.type_name ∷ Kind.mark ∷ []
needs a.MakeNewWith = Kind.mark ∷ Kind.arguments ∷ Kind.type_name ∷ Kind.mark ∷ []
needs a.MakeNewOf = Kind.mark ∷ Kind.arguments ∷ Kind.type_name ∷ Kind.mark ∷ []
needs a.MakeNewWithOf = Kind.mark ∷ Kind.arguments ∷ Kind.mark ∷ Kind.arguments ∷ Kind.type_name ∷ Kind.mark ∷ []
needs a.MakeNamedCast = Kind.mark ∷ Kind.expression ∷ Kind.type_name ∷ Kind.mark ∷ []
needs a.AddStatement = Kind.statement ∷ Kind.statements ∷ []
needs a.MakeBlock = Kind.mark ∷ Kind.statements ∷ Kind.mark ∷ []
needs a.MakeBlockStatement = Kind.block ∷ []
needs a.MakeEmpty = Kind.mark ∷ []
needs a.MakeExpressionStatement = Kind.mark ∷ Kind.expression ∷ []
needs a.MakeDelete = Kind.mark ∷ Kind.expression ∷ Kind.mark ∷ []
needs a.MakeBreak = Kind.mark ∷ Kind.mark ∷ []
needs a.MakeContinue = Kind.mark ∷ Kind.mark ∷ []
needs a.MakeReturn = Kind.optional ∷ Kind.mark ∷ []
needs a.MakeThrow = Kind.optional ∷ Kind.mark ∷ []
needs a.NoExpression = Kind.mark ∷ []
needs a.SomeExpression = Kind.mark ∷ Kind.expression ∷ []
needs a.MakeIf = Kind.statement ∷ Kind.expression ∷ Kind.mark ∷ []
needs a.MakeIfElse = Kind.statement ∷ Kind.statement ∷ Kind.expression ∷ Kind.mark ∷ []
needs a.AddLabel = Kind.label ∷ Kind.labels ∷ []
needs a.AddSection = Kind.statements ∷ Kind.labels ∷ Kind.sections ∷ []
needs a.MakeSwitch = Kind.mark ∷ Kind.sections ∷ Kind.expression ∷ Kind.mark ∷ []
needs a.MakeCase = Kind.mark ∷ Kind.expression ∷ Kind.mark ∷ []
needs a.MakeDefault = Kind.mark ∷ Kind.mark ∷ []
needs a.MakeWhile = Kind.statement ∷ Kind.expression ∷ Kind.mark ∷ []
needs a.MakeDo = Kind.mark ∷ Kind.expression ∷ Kind.statement ∷ Kind.mark ∷ []
needs a.StartLocal = Kind.local ∷ []
needs a.StartExpression = Kind.expression ∷ []
needs a.MakeFor = Kind.statement ∷ Kind.optional ∷ Kind.optional ∷ Kind.for_start ∷ Kind.mark ∷ []
needs a.MakeForEach = Kind.statement ∷ Kind.expression ∷ Kind.name ∷ Kind.type_name ∷ Kind.mark ∷ []
needs a.CatchAll = Kind.mark ∷ []
needs a.CatchTyped = Kind.type_name ∷ []
needs a.CatchNamed = Kind.name ∷ Kind.type_name ∷ []
needs a.AddCatch = Kind.block ∷ Kind.caught ∷ Kind.catches ∷ []
needs a.MakeTry = Kind.catches ∷ Kind.block ∷ Kind.mark ∷ []
needs a.MakeTryFinally = Kind.block ∷ Kind.catches ∷ Kind.block ∷ Kind.mark ∷ []
needs a.AddDeclarator = Kind.declarator ∷ Kind.declarators ∷ []
needs a.MakeDeclarator = Kind.name ∷ []
needs a.MakeDeclaratorValue = Kind.expression ∷ Kind.name ∷ []
needs a.MakeDeclaratorElements = Kind.mark ∷ Kind.arguments ∷ Kind.name ∷ []
needs a.MakeDeclaratorArguments = Kind.mark ∷ Kind.expressions ∷ Kind.name ∷ []
needs a.MakeLocal = Kind.declarators ∷ Kind.type_name ∷ []
needs a.MakeLocalStatement = Kind.mark ∷ Kind.local ∷ []
needs a.AddParameter = Kind.type_name ∷ Kind.parameter_list ∷ []
needs a.AddNamedParameter = Kind.name ∷ Kind.type_name ∷ Kind.parameter_list ∷ []
needs a.MakeParameters = Kind.parameter_list ∷ Kind.mark ∷ []
needs a.AddModifier = Kind.modifier_word ∷ Kind.modifiers ∷ []
needs a.MakePure = Kind.number ∷ []
needs a.MakeNamedFunction = Kind.name ∷ Kind.type_name ∷ []
needs a.MakeNamedAccessor = Kind.name ∷ Kind.name ∷ Kind.type_name ∷ []
needs a.AddNamedFunction = Kind.named_function ∷ Kind.named_functions ∷ []
needs a.MakeOverridden = Kind.named_functions ∷ []
needs a.NoBody = Kind.mark ∷ []
needs a.SomeBody = Kind.block ∷ []
needs a.AddInitializer = Kind.initializer ∷ Kind.initializers ∷ []
needs a.MakeMemberInitializer = Kind.mark ∷ Kind.arguments ∷ Kind.name ∷ []
needs a.MakeBaseInitializer = Kind.mark ∷ Kind.arguments ∷ Kind.type_name ∷ []
needs a.FirstName = Kind.name ∷ []
needs a.AddName = Kind.name ∷ Kind.names ∷ []
needs a.MakeAccess = Kind.mark ∷ Kind.mark ∷ []
needs a.MakeFields = Kind.mark ∷ Kind.names ∷ Kind.type_name ∷ Kind.storage ∷ []
needs a.MakeFunctionMember = Kind.body ∷ Kind.overridden ∷ Kind.modifiers ∷ Kind.parameters ∷ Kind.name ∷ Kind.type_name ∷ Kind.storage ∷ []
needs a.MakeConstructor = Kind.block ∷ Kind.initializers ∷ Kind.parameters ∷ Kind.name ∷ Kind.storage ∷ []
needs a.MakeDestructor = Kind.block ∷ Kind.name ∷ Kind.mark ∷ Kind.storage ∷ []
needs a.MakeFinaliser = Kind.block ∷ Kind.name ∷ Kind.mark ∷ Kind.storage ∷ []
needs a.AddMember = Kind.member ∷ Kind.members ∷ []
needs a.MakeAccessor = Kind.body ∷ Kind.overridden ∷ Kind.modifiers ∷ Kind.parameters ∷ Kind.name ∷ Kind.type_name ∷ Kind.storage ∷ []
needs a.AddAccessor = Kind.accessor ∷ Kind.accessors ∷ []
needs a.MakePropertyType = Kind.type_name ∷ Kind.name ∷ []
needs a.NameProperty = Kind.name ∷ []
needs a.IndexProperty = Kind.type_name ∷ Kind.mark ∷ []
needs a.MakeProperty = Kind.mark ∷ Kind.accessors ∷ Kind.property_name ∷ Kind.property_type ∷ Kind.storage ∷ []
needs a.MakeTrivialProperty = Kind.mark ∷ Kind.property_name ∷ Kind.property_type ∷ Kind.storage ∷ []
needs a.MakeKey = Kind.mark ∷ Kind.name ∷ []
needs a.AddClassModifier = Kind.name ∷ Kind.class_modifiers ∷ []
needs a.AddBase = Kind.base ∷ Kind.bases ∷ []
needs a.MakeBase = Kind.type_name ∷ []
needs a.MakePublicBase = Kind.type_name ∷ Kind.mark ∷ []
needs a.MakeHead = Kind.bases ∷ Kind.class_modifiers ∷ Kind.name ∷ Kind.key ∷ []
needs a.MakeClass = Kind.mark ∷ Kind.members ∷ Kind.head ∷ []
needs a.AddEnumerator = Kind.enumerator ∷ Kind.enumerators ∷ []
needs a.MakeEnumerator = Kind.name ∷ []
needs a.MakeEnumeratorValue = Kind.number ∷ Kind.name ∷ []
needs a.MakeEnumeratorNegative = Kind.number ∷ Kind.mark ∷ Kind.name ∷ []
needs a.MakeEnumeration = Kind.mark ∷ Kind.enumerators ∷ Kind.name ∷ Kind.mark ∷ Kind.mark ∷ []
needs a.MakeFunction = Kind.body ∷ Kind.parameters ∷ Kind.name ∷ Kind.type_name ∷ []
needs a.MakeTemplateParameter = Kind.name ∷ Kind.mark ∷ []
needs a.AddTemplateParameter = Kind.template_parameter ∷ Kind.template_parameters ∷ []
needs a.MakeTemplateClass = Kind.class ∷ Kind.template_parameters ∷ Kind.mark ∷ []
needs a.MakeTemplateFunction = Kind.function ∷ Kind.template_parameters ∷ Kind.mark ∷ []
needs a.MakeUsing = Kind.mark ∷ Kind.names ∷ Kind.mark ∷ []
needs a.MakeNamespace = Kind.mark ∷ Kind.outers ∷ Kind.name ∷ Kind.mark ∷ []
needs a.MakeOuterClass = Kind.class ∷ []
needs a.MakeOuterEnumeration = Kind.enumeration ∷ []
needs a.MakeVisibleClass = Kind.class ∷ Kind.mark ∷ []
needs a.MakeVisibleEnumeration = Kind.enumeration ∷ Kind.mark ∷ []
needs a.MakeForward = Kind.mark ∷ Kind.name ∷ Kind.key ∷ []
needs a.MakeOuterTemplate = Kind.template ∷ []
needs a.MakeOuterFunction = Kind.function ∷ []
needs a.AddOuter = Kind.outer ∷ Kind.outers ∷ []
needs a.MakeUnit = Kind.outers ∷ []
needs _ = []

-- what it gives
abbrev pub made : Action → Kind
made a.JoinMarks = Kind.mark
made (a.Fundamental of) = Kind.type_name
made a.StartPath = Kind.qualified
made a.AddToPath = Kind.path
made a.EndPath = Kind.qualified
made a.MakeNamed = Kind.type_name
made a.MakeApplied = Kind.type_name
made a.MakeHandle = Kind.type_name
made a.MakeTracking = Kind.type_name
made a.MakeHandleTracking = Kind.type_name
made a.StartTypes = Kind.types
made a.AddType = Kind.types
made a.FirstType = Kind.types
made a.MakeAssignment = Kind.expression
made a.MakeConditional = Kind.expression
made a.MakeBinary = Kind.expression
made a.MakePrefix = Kind.expression
made a.MakeCast = Kind.expression
made a.MakeIndex = Kind.expression
made a.MakeCall = Kind.expression
made a.MakeMember = Kind.expression
made a.MakeMemberOf = Kind.expression
made a.MakeFinaliserName = Kind.expression
made a.MakePostfix = Kind.expression
made a.MakeNumber = Kind.expression
made a.MakeCharacter = Kind.expression
made a.StartTexts = Kind.texts
made a.AddText = Kind.texts
made a.MakeStrings = Kind.expression
made a.MakeTrue = Kind.expression
made a.MakeFalse = Kind.expression
made a.MakeNullptr = Kind.expression
made a.MakeThis = Kind.expression
made a.StartExpressions = Kind.expressions
made a.AddExpression = Kind.expressions
made a.MakeArguments = Kind.arguments
made a.MakeTypeArguments = Kind.type_arguments
made a.MakeGroup = Kind.expression
made a.MakeName = Kind.expression
made a.MakeNameOf = Kind.expression
made a.MakeStaticMember = Kind.expression
made a.MakeConstruct = Kind.expression
made a.MakeNew = Kind.expression
made a.MakeNewWith = Kind.expression
made a.MakeNewOf = Kind.expression
made a.MakeNewWithOf = Kind.expression
made a.MakeNamedCast = Kind.expression
made a.StartStatements = Kind.statements
made a.AddStatement = Kind.statements
made a.MakeBlock = Kind.block
made a.MakeBlockStatement = Kind.statement
made a.MakeEmpty = Kind.statement
made a.MakeExpressionStatement = Kind.statement
made a.MakeDelete = Kind.statement
made a.MakeBreak = Kind.statement
made a.MakeContinue = Kind.statement
made a.MakeReturn = Kind.statement
made a.MakeThrow = Kind.statement
made a.NoExpression = Kind.optional
made a.SomeExpression = Kind.optional
made a.MakeIf = Kind.statement
made a.MakeIfElse = Kind.statement
made a.StartSections = Kind.sections
made a.StartLabels = Kind.labels
made a.AddLabel = Kind.labels
made a.AddSection = Kind.sections
made a.MakeSwitch = Kind.statement
made a.MakeCase = Kind.label
made a.MakeDefault = Kind.label
made a.MakeWhile = Kind.statement
made a.MakeDo = Kind.statement
made a.StartNothing = Kind.for_start
made a.StartLocal = Kind.for_start
made a.StartExpression = Kind.for_start
made a.MakeFor = Kind.statement
made a.MakeForEach = Kind.statement
made a.StartCatches = Kind.catches
made a.CatchAll = Kind.caught
made a.CatchTyped = Kind.caught
made a.CatchNamed = Kind.caught
made a.AddCatch = Kind.catches
made a.MakeTry = Kind.statement
made a.MakeTryFinally = Kind.statement
made a.StartDeclarators = Kind.declarators
made a.AddDeclarator = Kind.declarators
made a.MakeDeclarator = Kind.declarator
made a.MakeDeclaratorValue = Kind.declarator
made a.MakeDeclaratorElements = Kind.declarator
made a.MakeDeclaratorArguments = Kind.declarator
made a.MakeLocal = Kind.local
made a.MakeLocalStatement = Kind.statement
made a.StartParameters = Kind.parameter_list
made a.AddParameter = Kind.parameter_list
made a.AddNamedParameter = Kind.parameter_list
made a.MakeParameters = Kind.parameters
made a.StartModifiers = Kind.modifiers
made a.AddModifier = Kind.modifiers
made a.NotOverridden = Kind.overridden
made a.MakePure = Kind.overridden
made a.StartNamedFunctions = Kind.named_functions
made a.MakeNamedFunction = Kind.named_function
made a.MakeNamedAccessor = Kind.named_function
made a.AddNamedFunction = Kind.named_functions
made a.MakeOverridden = Kind.overridden
made a.NoBody = Kind.body
made a.SomeBody = Kind.body
made a.NoStorage = Kind.no_storage
made a.StartInitializers = Kind.initializers
made a.AddInitializer = Kind.initializers
made a.MakeMemberInitializer = Kind.initializer
made a.MakeBaseInitializer = Kind.initializer
made a.FirstName = Kind.names
made a.AddName = Kind.names
made a.MakeAccess = Kind.member
made a.MakeFields = Kind.member
made a.MakeFunctionMember = Kind.member
made a.MakeConstructor = Kind.member
made a.MakeDestructor = Kind.member
made a.MakeFinaliser = Kind.member
made a.StartMembers = Kind.members
made a.AddMember = Kind.members
made a.MakeAccessor = Kind.accessor
made a.StartAccessors = Kind.accessors
made a.AddAccessor = Kind.accessors
made a.MakePropertyType = Kind.property_type
made a.NameProperty = Kind.property_name
made a.IndexProperty = Kind.property_name
made a.MakeProperty = Kind.member
made a.MakeTrivialProperty = Kind.member
made a.MakeKey = Kind.key
made a.StartClassModifiers = Kind.class_modifiers
made a.AddClassModifier = Kind.class_modifiers
made a.StartBases = Kind.bases
made a.AddBase = Kind.bases
made a.MakeBase = Kind.base
made a.MakePublicBase = Kind.base
made a.MakeHead = Kind.head
made a.MakeClass = Kind.class
made a.StartEnumerators = Kind.enumerators
made a.AddEnumerator = Kind.enumerators
made a.MakeEnumerator = Kind.enumerator
made a.MakeEnumeratorValue = Kind.enumerator
made a.MakeEnumeratorNegative = Kind.enumerator
made a.MakeEnumeration = Kind.enumeration
made a.MakeFunction = Kind.function
made a.StartTemplateParameters = Kind.template_parameters
made a.MakeTemplateParameter = Kind.template_parameter
made a.AddTemplateParameter = Kind.template_parameters
made a.MakeTemplateClass = Kind.template
made a.MakeTemplateFunction = Kind.template
made a.MakeUsing = Kind.outer
made a.MakeNamespace = Kind.outer
made a.MakeOuterClass = Kind.outer
made a.MakeOuterEnumeration = Kind.outer
made a.MakeVisibleClass = Kind.outer
made a.MakeVisibleEnumeration = Kind.outer
made a.MakeForward = Kind.outer
made a.MakeOuterTemplate = Kind.outer
made a.MakeOuterFunction = Kind.outer
made a.StartOuters = Kind.outers
made a.AddOuter = Kind.outers
made a.MakeUnit = Kind.whole

-- what a part takes, from the top
abbrev pub taken_kinds : Sort → List Kind
taken_kinds o.SignedRest = Kind.mark ∷ []
taken_kinds o.UnsignedRest = Kind.mark ∷ []
taken_kinds o.OptionalInt = Kind.mark ∷ []
taken_kinds o.LongWord = Kind.mark ∷ []
taken_kinds o.TypeMarks = Kind.type_name ∷ []
taken_kinds o.HandleRest = Kind.mark ∷ Kind.type_name ∷ []
taken_kinds o.TypePath = Kind.path ∷ []
taken_kinds o.TemplateArguments = Kind.qualified ∷ []
taken_kinds o.MoreTypes = Kind.types ∷ []
taken_kinds o.NameEnd = Kind.qualified ∷ []
taken_kinds o.FunctionNameEnd = Kind.qualified ∷ []
taken_kinds o.PathRest = Kind.path ∷ []
taken_kinds o.CoreEnd = Kind.type_name ∷ []
taken_kinds o.AfterUnary = Kind.expression ∷ []
taken_kinds o.ConditionalRest = Kind.expression ∷ []
taken_kinds (o.BinaryRest level) = Kind.expression ∷ []
taken_kinds o.GreaterEnd = Kind.mark ∷ []
taken_kinds o.TypeOperandRest = Kind.type_name ∷ []
taken_kinds o.FunctionNameRest = Kind.qualified ∷ []
taken_kinds o.AfterNameLess = Kind.mark ∷ Kind.qualified ∷ []
taken_kinds o.NameTypes = Kind.mark ∷ Kind.qualified ∷ []
taken_kinds o.StringsRest = Kind.texts ∷ []
taken_kinds o.AfterParenthesis = Kind.mark ∷ []
taken_kinds o.CastOrGroup = Kind.mark ∷ []
taken_kinds o.SuffixRest = Kind.expression ∷ []
taken_kinds o.Selected = Kind.mark ∷ Kind.expression ∷ []
taken_kinds o.FunctionMemberRest = Kind.name ∷ Kind.mark ∷ Kind.expression ∷ []
taken_kinds o.AfterMemberLess = Kind.mark ∷ Kind.name ∷ Kind.mark ∷ Kind.expression ∷ []
taken_kinds o.MemberTypes = Kind.mark ∷ Kind.name ∷ Kind.mark ∷ Kind.expression ∷ []
taken_kinds o.Arguments = Kind.expressions ∷ []
taken_kinds o.MoreExpressions = Kind.expressions ∷ []
taken_kinds o.NewName = Kind.mark ∷ []
taken_kinds o.NewPath = Kind.path ∷ Kind.mark ∷ []
taken_kinds o.NewTypeRest = Kind.qualified ∷ Kind.mark ∷ []
taken_kinds o.AfterNewLess = Kind.mark ∷ Kind.qualified ∷ Kind.mark ∷ []
taken_kinds o.NewTypes = Kind.mark ∷ Kind.qualified ∷ Kind.mark ∷ []
taken_kinds o.NewArguments = Kind.type_name ∷ Kind.mark ∷ []
taken_kinds o.NewElements = Kind.mark ∷ Kind.arguments ∷ Kind.type_name ∷ Kind.mark ∷ []
taken_kinds o.Statements = Kind.statements ∷ []
taken_kinds o.ElseRest = Kind.statement ∷ Kind.expression ∷ Kind.mark ∷ []
taken_kinds o.ForRest = Kind.mark ∷ []
taken_kinds o.Sections = Kind.sections ∷ []
taken_kinds o.MoreLabels = Kind.labels ∷ []
taken_kinds o.SectionStatements = Kind.statements ∷ []
taken_kinds o.TryRest = Kind.catches ∷ Kind.block ∷ Kind.mark ∷ []
taken_kinds o.MoreCatches = Kind.catches ∷ Kind.block ∷ Kind.mark ∷ []
taken_kinds o.Catch = Kind.catches ∷ []
taken_kinds o.CaughtName = Kind.type_name ∷ []
taken_kinds o.DeclaratorRest = Kind.name ∷ []
taken_kinds o.DeclaratorValue = Kind.name ∷ []
taken_kinds o.MoreDeclarators = Kind.declarators ∷ []
taken_kinds o.Parameters = Kind.parameter_list ∷ []
taken_kinds o.ParameterName = Kind.type_name ∷ Kind.parameter_list ∷ []
taken_kinds o.MoreParameters = Kind.parameter_list ∷ []
taken_kinds o.Modifiers = Kind.modifiers ∷ []
taken_kinds o.NamedAccessor = Kind.name ∷ Kind.type_name ∷ []
taken_kinds o.MoreNamedFunctions = Kind.named_functions ∷ []
taken_kinds o.Accessors = Kind.accessors ∷ []
taken_kinds o.MoreInitializers = Kind.initializers ∷ []
taken_kinds o.InitializerName = Kind.name ∷ []
taken_kinds o.VirtualStart = Kind.storage ∷ []
taken_kinds o.MemberStart = Kind.storage ∷ []
taken_kinds o.OwnTypeEnd = Kind.name ∷ []
taken_kinds o.OwnNamespaceEnd = Kind.name ∷ []
taken_kinds o.OwnPropertyTypeEnd = Kind.name ∷ []
taken_kinds o.OwnPropertyNamespaceEnd = Kind.name ∷ []
taken_kinds o.PropertyOrType = Kind.name ∷ []
taken_kinds o.PropertyTypeOrName = Kind.name ∷ Kind.name ∷ []
taken_kinds o.PropertyOrNamespace = Kind.name ∷ []
taken_kinds o.MemberRest = Kind.storage ∷ []
taken_kinds o.StaticMember = Kind.storage ∷ []
taken_kinds o.VirtualMember = Kind.storage ∷ []
taken_kinds o.MemberName = Kind.type_name ∷ Kind.storage ∷ []
taken_kinds o.FieldsOrFunction = Kind.name ∷ Kind.type_name ∷ Kind.storage ∷ []
taken_kinds o.FieldNames = Kind.names ∷ []
taken_kinds o.PropertyBody = Kind.property_name ∷ Kind.property_type ∷ Kind.storage ∷ []
taken_kinds o.Members = Kind.members ∷ []
taken_kinds o.UnitRest = Kind.outers ∷ []
taken_kinds o.Outers = Kind.outers ∷ []
taken_kinds o.NamespaceNames = Kind.names ∷ []
taken_kinds o.FunctionRest = Kind.type_name ∷ []
taken_kinds o.KeyOrNamespace = Kind.name ∷ []
taken_kinds o.KeyOrType = Kind.name ∷ []
taken_kinds o.ForwardOrClass = Kind.name ∷ Kind.key ∷ []
taken_kinds o.ClassRest = Kind.name ∷ Kind.key ∷ []
taken_kinds o.ClassModifiers = Kind.class_modifiers ∷ []
taken_kinds o.MoreBases = Kind.bases ∷ []
taken_kinds o.VisibleRest = Kind.mark ∷ []
taken_kinds o.TemplateRest = Kind.template_parameters ∷ Kind.mark ∷ []
taken_kinds o.TemplateKeyOrNamespace = Kind.name ∷ Kind.template_parameters ∷ Kind.mark ∷ []
taken_kinds o.TemplateKeyOrType = Kind.name ∷ Kind.template_parameters ∷ Kind.mark ∷ []
taken_kinds o.Enumerators = Kind.enumerators ∷ []
taken_kinds o.MoreEnumerators = Kind.enumerators ∷ []
taken_kinds o.EnumeratorRest = Kind.name ∷ []
taken_kinds o.EnumeratorNumber = Kind.name ∷ []
taken_kinds o.MoreTemplateParameters = Kind.template_parameters ∷ []
taken_kinds _ = []

-- what it gives: one value, or none where it takes signs alone or gives its value back to the input
abbrev pub given_kinds : Sort → List Kind
given_kinds o.KeptOpenParenthesis = Kind.mark ∷ []
given_kinds o.KeptCloseParenthesis = Kind.mark ∷ []
given_kinds o.KeptCloseBrace = Kind.mark ∷ []
given_kinds o.KeptCloseBracket = Kind.mark ∷ []
given_kinds o.KeptSemicolon = Kind.mark ∷ []
given_kinds o.KeptColon = Kind.mark ∷ []
given_kinds o.KeptGreater = Kind.mark ∷ []
given_kinds o.KeptLess = Kind.mark ∷ []
given_kinds o.Identifier = Kind.name ∷ []
given_kinds o.AnyName = Kind.name ∷ []
given_kinds o.OwnName = Kind.name ∷ []
given_kinds o.NumberToken = Kind.number ∷ []
given_kinds o.AggregateWord = Kind.mark ∷ []
given_kinds o.AccessorWord = Kind.name ∷ []
given_kinds o.Fundamental = Kind.type_name ∷ []
given_kinds o.SignedRest = Kind.type_name ∷ []
given_kinds o.UnsignedRest = Kind.type_name ∷ []
given_kinds o.OptionalInt = Kind.mark ∷ []
given_kinds o.LongWord = Kind.mark ∷ []
given_kinds o.Type = Kind.type_name ∷ []
given_kinds o.TypeMarks = Kind.type_name ∷ []
given_kinds o.HandleRest = Kind.type_name ∷ []
given_kinds o.NamedType = Kind.type_name ∷ []
given_kinds o.TypePath = Kind.type_name ∷ []
given_kinds o.TemplateArguments = Kind.type_name ∷ []
given_kinds o.MoreTypes = Kind.types ∷ []
given_kinds o.Expression = Kind.expression ∷ []
given_kinds o.AfterUnary = Kind.expression ∷ []
given_kinds o.ConditionalRest = Kind.expression ∷ []
given_kinds (o.BinaryRest level) = Kind.expression ∷ []
given_kinds o.Unary = Kind.expression ∷ []
given_kinds o.Operand = Kind.expression ∷ []
given_kinds o.TypeOperandRest = Kind.expression ∷ []
given_kinds o.FunctionNameRest = Kind.expression ∷ []
given_kinds o.AfterNameLess = Kind.expression ∷ []
given_kinds o.NameTypes = Kind.expression ∷ []
given_kinds o.StringsRest = Kind.texts ∷ []
given_kinds o.AfterParenthesis = Kind.expression ∷ []
given_kinds o.CastOrGroup = Kind.expression ∷ []
given_kinds o.SuffixRest = Kind.expression ∷ []
given_kinds o.Selected = Kind.expression ∷ []
given_kinds o.FunctionMemberRest = Kind.expression ∷ []
given_kinds o.AfterMemberLess = Kind.expression ∷ []
given_kinds o.MemberTypes = Kind.expression ∷ []
given_kinds o.Arguments = Kind.expressions ∷ []
given_kinds o.MoreExpressions = Kind.expressions ∷ []
given_kinds o.NewName = Kind.expression ∷ []
given_kinds o.NewPath = Kind.expression ∷ []
given_kinds o.NewTypeRest = Kind.expression ∷ []
given_kinds o.AfterNewLess = Kind.expression ∷ []
given_kinds o.NewTypes = Kind.expression ∷ []
given_kinds o.NewArguments = Kind.expression ∷ []
given_kinds o.NewElements = Kind.expression ∷ []
given_kinds o.Statement = Kind.statement ∷ []
given_kinds o.LocalOrExpression = Kind.statement ∷ []
given_kinds o.Block = Kind.block ∷ []
given_kinds o.Statements = Kind.statements ∷ []
given_kinds o.ElseRest = Kind.statement ∷ []
given_kinds o.ForRest = Kind.statement ∷ []
given_kinds o.ForStart = Kind.for_start ∷ []
given_kinds o.LocalOrExpressionStart = Kind.for_start ∷ []
given_kinds o.OptionalExpression = Kind.optional ∷ []
given_kinds o.ForAdvance = Kind.optional ∷ []
given_kinds o.Sections = Kind.sections ∷ []
given_kinds o.Label = Kind.label ∷ []
given_kinds o.MoreLabels = Kind.labels ∷ []
given_kinds o.SectionStatements = Kind.statements ∷ []
given_kinds o.TryRest = Kind.statement ∷ []
given_kinds o.MoreCatches = Kind.statement ∷ []
given_kinds o.Catch = Kind.catches ∷ []
given_kinds o.Caught = Kind.caught ∷ []
given_kinds o.CaughtName = Kind.caught ∷ []
given_kinds o.Declarator = Kind.declarator ∷ []
given_kinds o.DeclaratorRest = Kind.declarator ∷ []
given_kinds o.DeclaratorValue = Kind.declarator ∷ []
given_kinds o.MoreDeclarators = Kind.declarators ∷ []
given_kinds o.Parameters = Kind.parameter_list ∷ []
given_kinds o.ParameterName = Kind.parameter_list ∷ []
given_kinds o.MoreParameters = Kind.parameter_list ∷ []
given_kinds o.Modifiers = Kind.modifiers ∷ []
given_kinds o.Overriding = Kind.overridden ∷ []
given_kinds o.Overridden = Kind.overridden ∷ []
given_kinds o.NamedFunction = Kind.named_function ∷ []
given_kinds o.NamedAccessor = Kind.named_function ∷ []
given_kinds o.MoreNamedFunctions = Kind.named_functions ∷ []
given_kinds o.Body = Kind.body ∷ []
given_kinds o.Accessor = Kind.accessor ∷ []
given_kinds o.Accessors = Kind.accessors ∷ []
given_kinds o.Initializers = Kind.initializers ∷ []
given_kinds o.MoreInitializers = Kind.initializers ∷ []
given_kinds o.Initializer = Kind.initializer ∷ []
given_kinds o.InitializerName = Kind.initializer ∷ []
given_kinds o.Member = Kind.member ∷ []
given_kinds o.VirtualStart = Kind.member ∷ []
given_kinds o.MemberStart = Kind.member ∷ []
given_kinds o.MemberRest = Kind.member ∷ []
given_kinds o.StaticMember = Kind.member ∷ []
given_kinds o.VirtualMember = Kind.member ∷ []
given_kinds o.MemberName = Kind.member ∷ []
given_kinds o.VirtualName = Kind.name ∷ []
given_kinds o.FieldsOrFunction = Kind.member ∷ []
given_kinds o.FieldNames = Kind.names ∷ []
given_kinds o.PropertyName = Kind.property_name ∷ []
given_kinds o.PropertyBody = Kind.member ∷ []
given_kinds o.Members = Kind.members ∷ []
given_kinds o.UnitRest = Kind.outers ∷ []
given_kinds o.Outers = Kind.outers ∷ []
given_kinds o.Outer = Kind.outer ∷ []
given_kinds o.NamespaceNames = Kind.names ∷ []
given_kinds o.FunctionRest = Kind.function ∷ []
given_kinds o.KeyOrNamespace = Kind.outer ∷ []
given_kinds o.KeyOrType = Kind.outer ∷ []
given_kinds o.ForwardOrClass = Kind.outer ∷ []
given_kinds o.ClassRest = Kind.class ∷ []
given_kinds o.ClassModifiers = Kind.class_modifiers ∷ []
given_kinds o.Bases = Kind.bases ∷ []
given_kinds o.Base = Kind.base ∷ []
given_kinds o.MoreBases = Kind.bases ∷ []
given_kinds o.VisibleRest = Kind.outer ∷ []
given_kinds o.TemplateRest = Kind.outer ∷ []
given_kinds o.TemplateKeyOrNamespace = Kind.outer ∷ []
given_kinds o.TemplateKeyOrType = Kind.outer ∷ []
given_kinds o.Enumeration = Kind.enumeration ∷ []
given_kinds o.Enumerators = Kind.enumerators ∷ []
given_kinds o.MoreEnumerators = Kind.enumerators ∷ []
given_kinds o.Enumerator = Kind.enumerator ∷ []
given_kinds o.EnumeratorRest = Kind.enumerator ∷ []
given_kinds o.EnumeratorNumber = Kind.enumerator ∷ []
given_kinds o.TemplateParameter = Kind.template_parameter ∷ []
given_kinds o.MoreTemplateParameters = Kind.template_parameters ∷ []
given_kinds _ = []

-- a value of the second kind is one of the first, though the kinds have other names
abbrev pub widens : Kind → Kind → Bool
widens Kind.storage Kind.mark = true
widens Kind.storage Kind.no_storage = true
widens Kind.modifier_word Kind.mark = true
widens Kind.modifier_word Kind.name = true
widens _ _ = false

abbrev pub meets : Kind → Kind → Bool
meets needed one = is_same needed one || widens needed one

-- the kinds below those that are needed
abbrev pub taken_off : List Kind → List Kind → Option (List Kind)
taken_off [] have = Some have
taken_off (needed ∷ more) [] = None
taken_off (needed ∷ more) (one ∷ have) = cond (meets needed one) (taken_off more have) None

abbrev pub put_on : List Kind → Option (List Kind) → Option (List Kind)
put_on given None = None
put_on given (Some have) = Some (given ++ have)

-- what a symbol makes of the kinds
abbrev pub exchanged : Symbol → List Kind → Option (List Kind)
exchanged (Non sort) have = put_on (given_kinds sort) (taken_off (taken_kinds sort) have)
exchanged (Act action) have = put_on (made action ∷ []) (taken_off (needs action) have)
exchanged (Back input) have = taken_off (input_kind input ∷ []) have

abbrev pub exchanged_some : Symbol → Option (List Kind) → Option (List Kind)
exchanged_some symbol None = None
exchanged_some symbol (Some have) = exchanged symbol have

-- what symbols make of the kinds, one after the other
abbrev pub passed : List Symbol → Option (List Kind) → Option (List Kind)
passed [] have = have
passed (symbol ∷ more) have = passed more (exchanged_some symbol have)

-- The values fit what is expected: a tree will be left alone.
abbrev pub Fits : List Symbol → List Value → Type 0
Fits more vs = (kinds : List Kind) × Holds kinds vs × (passed more (Some kinds) ≡ Some (Kind.whole ∷ []))
