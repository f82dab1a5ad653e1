-- How deep a tree is. A node without parts that are nodes has depth 1, another one more than the deepest of its parts.
use Rattle.std.specs.Prelude.{ℕ, suc, max, List, [], ◌∷◌, map, Option, Some, None}
use Rattle.cc_tree.specs.declared.type_name.TypeName.{TypeName, TypeName-F, fold-TypeName}
use Rattle.cc_tree.specs.declared.type_name.TypeName.TheOpen as t
use Rattle.cc_tree.specs.declared.type_name.TypeArguments.{TypeArguments}
use Rattle.cc_tree.specs.declared.expression.Expression.{Expression, Expression-F, fold-Expression}
use Rattle.cc_tree.specs.declared.expression.Expression.TheOpen as e
use Rattle.cc_tree.specs.declared.expression.Arguments.{Arguments, fold-Arguments}
use Rattle.cc_tree.specs.declared.statement.Statement.{Statement, Statement-F, fold-Statement}
use Rattle.cc_tree.specs.declared.statement.Statement.TheOpen as s
use Rattle.cc_tree.specs.declared.statement.Block.{Block, fold-Block}
use Rattle.cc_tree.specs.declared.statement.Caught.{Caught}
use Rattle.cc_tree.specs.declared.statement.Caught.TheVariants as caught
use Rattle.cc_tree.specs.declared.statement.Label.{Label}
use Rattle.cc_tree.specs.declared.statement.Label.TheVariants as label
use Rattle.cc_tree.specs.declared.statement.ForStart.{ForStart}
use Rattle.cc_tree.specs.declared.statement.ForStart.TheVariants as start
use Rattle.cc_tree.specs.declared.statement.Local.{Local}
use Rattle.cc_tree.specs.declared.statement.Declarator.{Declarator}
use Rattle.cc_tree.specs.declared.statement.Initializer.{Initializer}
use Rattle.cc_tree.specs.declared.statement.Initializer.TheVariants as initial
use Rattle.cc_tree.specs.declared.member.Member.{Member}
use Rattle.cc_tree.specs.declared.member.Member.TheVariants as m
use Rattle.cc_tree.specs.declared.member.PropertyName.{PropertyName}
use Rattle.cc_tree.specs.declared.member.PropertyName.TheVariants as property_name
use Rattle.cc_tree.specs.declared.member.Accessor.{Accessor}
use Rattle.cc_tree.specs.declared.member.Parameters.{Parameters}
use Rattle.cc_tree.specs.declared.member.Parameter.{Parameter}
use Rattle.cc_tree.specs.declared.member.Modifier.{Modifier}
use Rattle.cc_tree.specs.declared.member.Overridden.{Overridden}
use Rattle.cc_tree.specs.declared.member.Overridden.TheVariants as over
use Rattle.cc_tree.specs.declared.member.NamedFunction.{NamedFunction}
use Rattle.cc_tree.specs.declared.member.MemberInitializer.{MemberInitializer}
use Rattle.cc_tree.specs.declared.member.MemberInitializer.TheVariants as init
use Rattle.cc_tree.specs.declared.class.Class.{Class}
use Rattle.cc_tree.specs.declared.class.Base.{Base}
use Rattle.cc_tree.specs.declared.class.Enumeration.{Enumeration}
use Rattle.cc_tree.specs.declared.class.Enumerator.{Enumerator}
use Rattle.cc_tree.specs.declared.unit.Unit as unit
use Rattle.cc_tree.specs.declared.unit.Outer.{Outer, Outer-F, fold-Outer}
use Rattle.cc_tree.specs.declared.unit.Outer.TheOpen as o
use Rattle.cc_tree.specs.declared.unit.Template.{Template}
use Rattle.cc_tree.specs.declared.unit.Template.TheVariants as template
use Rattle.cc_tree.specs.declared.unit.TemplateParameter.{TemplateParameter}
use Rattle.cc_tree.specs.declared.unit.Function.{Function}

abbrev pub greatest : List ℕ → ℕ
greatest [] = 0
greatest (n ∷ ns) = max n (greatest ns)

-- the depth of a part that may be absent
abbrev pub optional : Option ℕ → ℕ
optional None = 0
optional (Some n) = n

abbrev pub optional_of : {A : Type 0} → (A → ℕ) → Option A → ℕ
optional_of depth None = 0
optional_of depth (Some x) = depth x

abbrev pub type_layer : TypeName-F ℕ → ℕ
type_layer (t.Fundamental of span) = 1
type_layer (t.Named path name arguments span) = suc (greatest arguments)
type_layer (t.Marked core is_handle is_tracking span) = suc core

abbrev pub type_depth : TypeName → ℕ
type_depth = fold-TypeName ℕ type_layer

abbrev pub type_arguments_depth : TypeArguments → ℕ
type_arguments_depth arguments = suc (greatest (map type_depth arguments.types))

abbrev pub expression_layer : Expression-F ℕ ℕ → ℕ
expression_layer (e.Assign left operator right span) = suc (max left right)
expression_layer (e.Conditional condition first second span) = suc (max condition (max first second))
expression_layer (e.Binary left operator right span) = suc (max left right)
expression_layer (e.Prefix operator x span) = suc x
expression_layer (e.Cast of x span) = suc (max (type_depth of) x)
expression_layer (e.Index x y span) = suc (max x y)
expression_layer (e.Call x arguments span) = suc (max x arguments)
expression_layer (e.Member x selects name types span) = suc (max x (optional_of type_arguments_depth types))
expression_layer (e.Finaliser x selects name span) = suc x
expression_layer (e.Postfix x operator span) = suc x
expression_layer (e.Number value suffix radix span) = 1
expression_layer (e.Character unit span) = 1
expression_layer (e.Strings texts span) = 1
expression_layer (e.True span) = 1
expression_layer (e.False span) = 1
expression_layer (e.Nullptr span) = 1
expression_layer (e.This span) = 1
expression_layer (e.Group x span) = suc x
expression_layer (e.Name path name types span) = suc (optional_of type_arguments_depth types)
expression_layer (e.StaticMember of name span) = suc (type_depth of)
expression_layer (e.Construct of arguments span) = suc (max (type_depth of) arguments)
expression_layer (e.New of arguments elements span) = suc (max (type_depth of) (max (optional arguments) (optional elements)))
expression_layer (e.NamedCast word of x span) = suc (max (type_depth of) x)

abbrev pub arguments_layer : e.Arguments-F ℕ ℕ → ℕ
arguments_layer layer = suc (greatest layer.items)

abbrev pub expression_depth : Expression → ℕ
expression_depth = fold-Expression ℕ ℕ expression_layer arguments_layer

abbrev pub arguments_depth : Arguments → ℕ
arguments_depth = fold-Arguments ℕ ℕ expression_layer arguments_layer

abbrev pub initializer_depth : Initializer → ℕ
initializer_depth initial.Nothing = 0
initializer_depth (initial.Value x) = expression_depth x
initializer_depth (initial.Elements arguments) = arguments_depth arguments
initializer_depth (initial.Arguments items) = greatest (map expression_depth items)

abbrev pub declarator_depth : Declarator → ℕ
declarator_depth one = suc (initializer_depth one.initializer)

abbrev pub local_depth : Local → ℕ
local_depth local = suc (max (type_depth local.of) (greatest (map declarator_depth local.declarators)))

abbrev pub label_depth : Label → ℕ
label_depth (label.Case x span) = suc (expression_depth x)
label_depth (label.Default span) = 1

abbrev pub start_depth : ForStart → ℕ
start_depth start.Nothing = 0
start_depth (start.Local local) = local_depth local
start_depth (start.Expression x) = expression_depth x

abbrev pub caught_depth : Caught → ℕ
caught_depth caught.All = 0
caught_depth (caught.Typed of name) = type_depth of

abbrev pub statement_layer : Statement-F ℕ ℕ ℕ ℕ → ℕ
statement_layer (s.Block block) = block
statement_layer (s.Empty span) = 1
statement_layer (s.Local local span) = suc (local_depth local)
statement_layer (s.Expression x span) = suc (expression_depth x)
statement_layer (s.Delete x span) = suc (expression_depth x)
statement_layer (s.If x first second span) = suc (max (expression_depth x) (max first (optional second)))
statement_layer (s.While x body span) = suc (max (expression_depth x) body)
statement_layer (s.Do body x span) = suc (max body (expression_depth x))
statement_layer (s.For start condition advance body span) =
    suc (max (start_depth start) (max (optional_of expression_depth condition) (max (optional_of expression_depth advance) body)))
statement_layer (s.ForEach of name x body span) = suc (max (type_depth of) (max (expression_depth x) body))
statement_layer (s.Switch x sections span) = suc (max (expression_depth x) (greatest sections))
statement_layer (s.Break span) = 1
statement_layer (s.Continue span) = 1
statement_layer (s.Return x span) = suc (optional_of expression_depth x)
statement_layer (s.Throw x span) = suc (optional_of expression_depth x)
statement_layer (s.Try body catches at_last span) = suc (max body (max (greatest catches) (optional at_last)))

abbrev pub block_layer : s.Block-F ℕ ℕ ℕ ℕ → ℕ
block_layer layer = suc (greatest layer.statements)

-- A section and a catch are no nodes.
abbrev pub section_layer : s.Section-F ℕ ℕ ℕ ℕ → ℕ
section_layer layer = max (greatest (map label_depth layer.labels)) (greatest layer.statements)

abbrev pub catch_layer : s.Catch-F ℕ ℕ ℕ ℕ → ℕ
catch_layer layer = max (caught_depth layer.caught) layer.block

abbrev pub statement_depth : Statement → ℕ
statement_depth = fold-Statement ℕ ℕ ℕ ℕ statement_layer block_layer catch_layer section_layer

abbrev pub block_depth : Block → ℕ
block_depth = fold-Block ℕ ℕ ℕ ℕ statement_layer block_layer catch_layer section_layer

abbrev pub parameter_depth : Parameter → ℕ
parameter_depth parameter = type_depth parameter.of

abbrev pub parameters_depth : Parameters → ℕ
parameters_depth parameters = suc (greatest (map parameter_depth parameters.items))

abbrev pub modifiers_depth : List Modifier → ℕ
modifiers_depth [] = 0
modifiers_depth (one ∷ modifiers) = 1

abbrev pub named_function_depth : NamedFunction → ℕ
named_function_depth named = suc (type_depth named.class)

abbrev pub overridden_depth : Overridden → ℕ
overridden_depth (over.Pure span) = 1
overridden_depth (over.Functions functions span) = suc (greatest (map named_function_depth functions))

-- the depth of the parameters of a function, of what follows them, and of its body
abbrev pub rest_depth : Parameters → List Modifier → Option Overridden → Option Block → ℕ
rest_depth parameters modifiers overridden body =
    max (parameters_depth parameters) (max (modifiers_depth modifiers) (max (optional_of overridden_depth overridden) (optional_of block_depth body)))

abbrev pub accessor_depth : Accessor → ℕ
accessor_depth accessor = suc (max (type_depth accessor.of) (rest_depth accessor.parameters accessor.modifiers accessor.overridden accessor.body))

abbrev pub member_initializer_depth : MemberInitializer → ℕ
member_initializer_depth (init.Member name arguments span) = suc (arguments_depth arguments)
member_initializer_depth (init.Base of arguments span) = suc (max (type_depth of) (arguments_depth arguments))

abbrev pub property_name_depth : PropertyName → ℕ
property_name_depth (property_name.Named name) = 0
property_name_depth (property_name.Indexed span of) = type_depth of

abbrev pub member_depth : Member → ℕ
member_depth (m.Access access span) = 1
member_depth (m.Fields is_static of names span) = suc (type_depth of)
member_depth (m.Function storage of name parameters modifiers overridden body span) = suc (max (type_depth of) (rest_depth parameters modifiers overridden body))
member_depth (m.Constructor name parameters initializers body span) =
    suc (max (parameters_depth parameters) (max (greatest (map member_initializer_depth initializers)) (block_depth body)))
member_depth (m.Destructor is_virtual name body span) = suc (block_depth body)
member_depth (m.Finaliser name body span) = suc (block_depth body)
member_depth (m.Property storage of name accessors span) = suc (max (type_depth of) (max (property_name_depth name) (greatest (map accessor_depth accessors))))

abbrev pub base_depth : Base → ℕ
base_depth base = suc (type_depth base.of)

-- The key of a class is a node.
abbrev pub class_depth : Class → ℕ
class_depth class = suc (max 1 (max (greatest (map base_depth class.bases)) (greatest (map member_depth class.members))))

abbrev pub enumerator_depth : Enumerator → ℕ
enumerator_depth one = 1

abbrev pub enumeration_depth : Enumeration → ℕ
enumeration_depth enum = suc (greatest (map enumerator_depth enum.items))

abbrev pub function_depth : Function → ℕ
function_depth function = suc (max (type_depth function.result) (max (parameters_depth function.parameters) (optional_of block_depth function.body)))

abbrev pub template_parameter_depth : TemplateParameter → ℕ
template_parameter_depth one = 1

abbrev pub template_depth : Template → ℕ
template_depth (template.Class parameters class span) = suc (max (greatest (map template_parameter_depth parameters)) (class_depth class))
template_depth (template.Function parameters function span) = suc (max (greatest (map template_parameter_depth parameters)) (function_depth function))

abbrev pub outer_layer : Outer-F ℕ → ℕ
outer_layer (o.Using path span) = 1
outer_layer (o.Namespace name outers span) = suc (greatest outers)
outer_layer (o.Class class) = class_depth class
outer_layer (o.Enumeration enum) = enumeration_depth enum
outer_layer (o.VisibleClass visible class span) = suc (class_depth class)
outer_layer (o.VisibleEnumeration visible enum span) = suc (enumeration_depth enum)
outer_layer (o.Forward key name span) = 2
outer_layer (o.Template template) = template_depth template
outer_layer (o.Function function) = function_depth function

abbrev pub outer_depth : Outer → ℕ
outer_depth = fold-Outer ℕ outer_layer

abbrev pub unit_depth : unit.Unit → ℕ
unit_depth tree = suc (greatest (map outer_depth tree.outers))
