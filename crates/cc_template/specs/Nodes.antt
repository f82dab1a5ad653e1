-- The nodes of a source with their parts, and how much each counts.
use Rattle.std.specs.Prelude.{ℕ, ◌+◌, ◌-◌, ◌/◌, List, [], ◌∷◌, map, length, Option, Some, None, nat_eq, count_by}
use Rattle.cc_base.specs.declared.text.Span.{Span}
use Rattle.cc_tree.specs.declared.identifier.Identifier.{Identifier}
use Rattle.cc_tree.specs.declared.type_name.TypeName.{TypeName, TypeName-F, fold-TypeName}
use Rattle.cc_tree.specs.declared.type_name.TypeName.TheOpen as t
use Rattle.cc_tree.specs.declared.type_name.TypeArguments.{TypeArguments}
use Rattle.cc_tree.specs.declared.expression.Expression.{Expression, Expression-F, fold-Expression}
use Rattle.cc_tree.specs.declared.expression.Expression.TheOpen as e
use Rattle.cc_tree.specs.declared.expression.Arguments.{Arguments, fold-Arguments}
use Rattle.cc_tree.specs.declared.statement.Statement.{Statement, Statement-F, fold-Statement}
use Rattle.cc_tree.specs.declared.statement.Statement.TheOpen as s
use Rattle.cc_tree.specs.declared.statement.Block.{Block, fold-Block}
use Rattle.cc_tree.specs.declared.statement.Catch.{Catch, fold-Catch}
use Rattle.cc_tree.specs.declared.statement.Section.{Section, fold-Section}
use Rattle.cc_tree.specs.declared.statement.Caught.{Caught}
use Rattle.cc_tree.specs.declared.statement.Caught.TheVariants as caught
use Rattle.cc_tree.specs.declared.statement.Label.{Label}
use Rattle.cc_tree.specs.declared.statement.Label.TheVariants as label
use Rattle.cc_tree.specs.declared.statement.ForStart.{ForStart}
use Rattle.cc_tree.specs.declared.statement.ForStart.TheVariants as start
use Rattle.cc_tree.specs.declared.statement.Local.{Local}
use Rattle.cc_tree.specs.declared.statement.Declarator.{Declarator}
use Rattle.cc_tree.specs.declared.statement.Initializer.{Initializer}
use Rattle.cc_tree.specs.declared.statement.Initializer.TheVariants as initial
use Rattle.cc_tree.specs.declared.member.Accessor.{Accessor}
use Rattle.cc_tree.specs.declared.member.Parameters.{Parameters}
use Rattle.cc_tree.specs.declared.member.Parameter.{Parameter}
use Rattle.cc_tree.specs.declared.member.Modifier.{Modifier}
use Rattle.cc_tree.specs.declared.member.Modifier.TheVariants as modifier
use Rattle.cc_tree.specs.declared.member.Overridden.{Overridden}
use Rattle.cc_tree.specs.declared.member.Overridden.TheVariants as over
use Rattle.cc_tree.specs.declared.member.NamedFunction.{NamedFunction}
use Rattle.cc_tree.specs.declared.member.MemberInitializer.{MemberInitializer}
use Rattle.cc_tree.specs.declared.member.MemberInitializer.TheVariants as init
use Rattle.cc_tree.specs.declared.member.Member.{Member}
use Rattle.cc_tree.specs.declared.member.Member.TheVariants as m
use Rattle.cc_tree.specs.declared.member.PropertyName.{PropertyName}
use Rattle.cc_tree.specs.declared.member.PropertyName.TheVariants as property_name
use Rattle.cc_tree.specs.declared.class.Base.{Base}
use Rattle.cc_tree.specs.declared.class.Class.{Class}
use Rattle.cc_tree.specs.declared.class.Enumeration.{Enumeration}
use Rattle.cc_tree.specs.declared.class.Enumerator.{Enumerator}
use Rattle.cc_tree.specs.declared.unit.Unit as unit
use Rattle.cc_tree.specs.declared.unit.Outer.{Outer, Outer-F, fold-Outer}
use Rattle.cc_tree.specs.declared.unit.Outer.TheOpen as o
use Rattle.cc_tree.specs.declared.unit.Function.{Function}

-- The nodes of parts of a source. A node has a place, what it counts beside the one that every node counts, and its parts.
-- A function is a node, with all its parts, in which nodes are counted once more.
pub data Nodes : Type 0 where
  none : Nodes
  node : Span → ℕ → Nodes → Nodes
  both : Nodes → Nodes → Nodes
  function : Nodes → Nodes

abbrev pub joined : List Nodes → Nodes
joined [] = none
joined (one ∷ more) = both one (joined more)

-- the nodes of a part that may be absent
abbrev pub optional : Option Nodes → Nodes
optional None = none
optional (Some nodes) = nodes

abbrev pub optional_of : {A : Type 0} → (A → Nodes) → Option A → Nodes
optional_of nodes None = none
optional_of nodes (Some x) = nodes x

-- A name counts one for each whole 32 bytes.
abbrev pub name_counts : Identifier → ℕ
name_counts name = length name.name / 32

abbrev pub names_count : List Identifier → ℕ
names_count [] = 0
names_count (name ∷ names) = name_counts name + names_count names

abbrev pub optional_name_counts : Option Identifier → ℕ
optional_name_counts None = 0
optional_name_counts (Some name) = name_counts name

-- the units of adjacent strings, which make one string
abbrev pub units : List (List ℕ) → ℕ
units [] = 0
units (text ∷ texts) = length text + units texts

-- how many units of strings are a `{`
abbrev pub braces : List (List ℕ) → ℕ
braces [] = 0
braces (text ∷ texts) = count_by (λ unit. nat_eq unit 123) text + braces texts

-- A string counts one for each whole 32 units and one for each `{`.
abbrev pub strings_count : List (List ℕ) → ℕ
strings_count texts = units texts / 32 + braces texts

-- Types (ECMA-372, 12).
abbrev pub type_layer : TypeName-F Nodes → Nodes
type_layer (t.Fundamental of span) = node span 0 none
type_layer (t.Named path name arguments span) = node span (names_count path + name_counts name) (joined arguments)
type_layer (t.Marked core is_handle is_tracking span) = node span 0 core

abbrev pub type_nodes : TypeName → Nodes
type_nodes = fold-TypeName Nodes type_layer

abbrev pub type_arguments_nodes : TypeArguments → Nodes
type_arguments_nodes arguments = node arguments.span 0 (joined (map type_nodes arguments.types))

-- Expressions (ECMA-372, 15).
abbrev pub expression_layer : Expression-F Nodes Nodes → Nodes
expression_layer (e.Assign left operator right span) = node span 0 (both left right)
expression_layer (e.Conditional condition first second span) = node span 0 (both condition (both first second))
expression_layer (e.Binary left operator right span) = node span 0 (both left right)
expression_layer (e.Prefix operator x span) = node span 0 x
expression_layer (e.Cast of x span) = node span 0 (both (type_nodes of) x)
expression_layer (e.Index x y span) = node span 0 (both x y)
expression_layer (e.Call x arguments span) = node span 0 (both x arguments)
expression_layer (e.Member x selects name types span) = node span (name_counts name) (both x (optional_of type_arguments_nodes types))
expression_layer (e.Finaliser x selects name span) = node span (name_counts name) x
expression_layer (e.Postfix x operator span) = node span 0 x
expression_layer (e.Number value suffix radix span) = node span 0 none
expression_layer (e.Character unit span) = node span 0 none
expression_layer (e.Strings texts span) = node span (strings_count texts) none
expression_layer (e.True span) = node span 0 none
expression_layer (e.False span) = node span 0 none
expression_layer (e.Nullptr span) = node span 0 none
expression_layer (e.This span) = node span 0 none
expression_layer (e.Group x span) = node span 0 x
expression_layer (e.Name path name types span) = node span (names_count path + name_counts name) (optional_of type_arguments_nodes types)
expression_layer (e.StaticMember of name span) = node span (name_counts name) (type_nodes of)
expression_layer (e.Construct of arguments span) = node span 0 (both (type_nodes of) arguments)
expression_layer (e.New of arguments elements span) = node span 0 (both (type_nodes of) (both (optional arguments) (optional elements)))
expression_layer (e.NamedCast word of x span) = node span 0 (both (type_nodes of) x)

abbrev pub arguments_layer : e.Arguments-F Nodes Nodes → Nodes
arguments_layer layer = node layer.span 0 (joined layer.items)

abbrev pub expression_nodes : Expression → Nodes
expression_nodes = fold-Expression Nodes Nodes expression_layer arguments_layer

abbrev pub arguments_nodes : Arguments → Nodes
arguments_nodes = fold-Arguments Nodes Nodes expression_layer arguments_layer

-- Statements (ECMA-372, 16).
abbrev pub initializer_nodes : Initializer → Nodes
initializer_nodes initial.Nothing = none
initializer_nodes (initial.Value x) = expression_nodes x
initializer_nodes (initial.Elements arguments) = arguments_nodes arguments
initializer_nodes (initial.Arguments items) = joined (map expression_nodes items)

abbrev pub declarator_nodes : Declarator → Nodes
declarator_nodes one = node one.span (name_counts one.name) (initializer_nodes one.initializer)

abbrev pub local_nodes : Local → Nodes
local_nodes local = node local.span 0 (both (type_nodes local.of) (joined (map declarator_nodes local.declarators)))

abbrev pub label_nodes : Label → Nodes
label_nodes (label.Case x span) = node span 0 (expression_nodes x)
label_nodes (label.Default span) = node span 0 none

abbrev pub start_nodes : ForStart → Nodes
start_nodes start.Nothing = none
start_nodes (start.Local local) = local_nodes local
start_nodes (start.Expression x) = expression_nodes x

abbrev pub caught_nodes : Caught → Nodes
caught_nodes caught.All = none
caught_nodes (caught.Typed of name) = type_nodes of

-- The name of what is caught counts with the `try`.
abbrev pub caught_counts : Caught → ℕ
caught_counts caught.All = 0
caught_counts (caught.Typed of name) = optional_name_counts name

-- what a catch adds to its `try`, which is the node
pub record CaughtParts : Type 0 where
  pub counts : ℕ
  pub nodes : Nodes

abbrev pub catches_count : List CaughtParts → ℕ
catches_count [] = 0
catches_count (one ∷ catches) = one.counts + catches_count catches

abbrev pub catches_nodes : List CaughtParts → Nodes
catches_nodes [] = none
catches_nodes (one ∷ catches) = both one.nodes (catches_nodes catches)

abbrev pub statement_layer : Statement-F Nodes Nodes CaughtParts Nodes → Nodes
statement_layer (s.Block block) = block
statement_layer (s.Empty span) = node span 0 none
statement_layer (s.Local local span) = node span 0 (local_nodes local)
statement_layer (s.Expression x span) = node span 0 (expression_nodes x)
statement_layer (s.Delete x span) = node span 0 (expression_nodes x)
statement_layer (s.If x first second span) = node span 0 (both (expression_nodes x) (both first (optional second)))
statement_layer (s.While x body span) = node span 0 (both (expression_nodes x) body)
statement_layer (s.Do body x span) = node span 0 (both body (expression_nodes x))
statement_layer (s.For start condition advance body span) =
    node span 0 (both (start_nodes start) (both (optional_of expression_nodes condition) (both (optional_of expression_nodes advance) body)))
statement_layer (s.ForEach of name x body span) = node span (name_counts name) (both (type_nodes of) (both (expression_nodes x) body))
statement_layer (s.Switch x sections span) = node span 0 (both (expression_nodes x) (joined sections))
statement_layer (s.Break span) = node span 0 none
statement_layer (s.Continue span) = node span 0 none
statement_layer (s.Return x span) = node span 0 (optional_of expression_nodes x)
statement_layer (s.Throw x span) = node span 0 (optional_of expression_nodes x)
statement_layer (s.Try body catches at_last span) = node span (catches_count catches) (both body (both (catches_nodes catches) (optional at_last)))

abbrev pub block_layer : s.Block-F Nodes Nodes CaughtParts Nodes → Nodes
block_layer layer = node layer.span 0 (joined layer.statements)

-- A section and a catch are no nodes.
abbrev pub section_layer : s.Section-F Nodes Nodes CaughtParts Nodes → Nodes
section_layer layer = both (joined (map label_nodes layer.labels)) (joined layer.statements)

abbrev pub catch_layer : s.Catch-F Nodes Nodes CaughtParts Nodes → CaughtParts
catch_layer layer = record { counts = caught_counts layer.caught; nodes = both (caught_nodes layer.caught) layer.block }

abbrev pub statement_nodes : Statement → Nodes
statement_nodes = fold-Statement Nodes Nodes CaughtParts Nodes statement_layer block_layer catch_layer section_layer

abbrev pub block_nodes : Block → Nodes
block_nodes = fold-Block Nodes Nodes CaughtParts Nodes statement_layer block_layer catch_layer section_layer

abbrev pub section_nodes : Section → Nodes
section_nodes = fold-Section Nodes Nodes CaughtParts Nodes statement_layer block_layer catch_layer section_layer

abbrev pub catch_parts : Catch → CaughtParts
catch_parts = fold-Catch Nodes Nodes CaughtParts Nodes statement_layer block_layer catch_layer section_layer

-- Parts of members (ECMA-372, 18 and 19). A parameter is no node: its name counts with the parameters.
abbrev pub parameters_count : List Parameter → ℕ
parameters_count [] = 0
parameters_count (parameter ∷ parameters) = optional_name_counts parameter.name + parameters_count parameters

abbrev pub parameter_nodes : Parameter → Nodes
parameter_nodes parameter = type_nodes parameter.of

abbrev pub parameters_nodes : Parameters → Nodes
parameters_nodes parameters = node parameters.span (parameters_count parameters.items) (joined (map parameter_nodes parameters.items))

abbrev pub modifier_nodes : Modifier → Nodes
modifier_nodes (modifier.Abstract span) = node span 0 none
modifier_nodes (modifier.Override span) = node span 0 none
modifier_nodes (modifier.Sealed span) = node span 0 none
modifier_nodes (modifier.New span) = node span 0 none

abbrev pub named_function_nodes : NamedFunction → Nodes
named_function_nodes named = node named.span (name_counts named.name) (type_nodes named.«class»)

abbrev pub overridden_nodes : Overridden → Nodes
overridden_nodes (over.Pure span) = node span 0 none
overridden_nodes (over.Functions functions span) = node span 0 (joined (map named_function_nodes functions))

-- the parameters of a function, what follows them, and its body
abbrev pub rest_nodes : Parameters → List Modifier → Option Overridden → Option Block → Nodes
rest_nodes parameters modifiers overridden body =
    both (parameters_nodes parameters) (both (joined (map modifier_nodes modifiers)) (both (optional_of overridden_nodes overridden) (optional_of block_nodes body)))

abbrev pub accessor_nodes : Accessor → Nodes
accessor_nodes accessor =
    function (node accessor.span 0
    (both (type_nodes accessor.of) (rest_nodes accessor.parameters accessor.modifiers accessor.overridden accessor.body)))

abbrev pub member_initializer_nodes : MemberInitializer → Nodes
member_initializer_nodes (init.Member name arguments span) = node span (name_counts name) (arguments_nodes arguments)
member_initializer_nodes (init.Base of arguments span) = node span 0 (both (type_nodes of) (arguments_nodes arguments))

abbrev pub property_name_counts : PropertyName → ℕ
property_name_counts (property_name.Named name) = name_counts name
property_name_counts (property_name.Indexed span of) = 0

abbrev pub property_name_nodes : PropertyName → Nodes
property_name_nodes (property_name.Named name) = none
property_name_nodes (property_name.Indexed span of) = type_nodes of

-- A member that declares fields counts one more for each name after its first,
-- and a constructor one more for each data member that its class declares.
abbrev pub member_node : ℕ → Member → Nodes
member_node data_members (m.Access access span) = node span 0 none
member_node data_members (m.Fields is_static of names span) = node span (names_count names + (length names - 1)) (type_nodes of)
member_node data_members (m.Function storage of name parameters modifiers overridden body span) =
    node span (name_counts name) (both (type_nodes of) (rest_nodes parameters modifiers overridden body))
member_node data_members (m.Constructor name parameters initializers body span) =
    node span (name_counts name + data_members)
    (both (parameters_nodes parameters) (both (joined (map member_initializer_nodes initializers)) (block_nodes body)))
member_node data_members (m.Destructor is_virtual name body span) = node span (name_counts name) (block_nodes body)
member_node data_members (m.Finaliser name body span) = node span (name_counts name) (block_nodes body)
member_node data_members (m.Property storage of name accessors span) =
    node span (property_name_counts name) (both (type_nodes of) (both (property_name_nodes name) (joined (map accessor_nodes accessors))))

-- a member of a class that declares so many data members
abbrev pub member_nodes : ℕ → Member → Nodes
member_nodes data_members member = function (member_node data_members member)

-- the data members that a member declares, static ones too
abbrev pub data_members_of : Member → ℕ
data_members_of (m.Fields is_static of names span) = length names
data_members_of _ = 0

abbrev pub data_members : List Member → ℕ
data_members [] = 0
data_members (member ∷ members) = data_members_of member + data_members members

abbrev pub base_nodes : Base → Nodes
base_nodes base = node base.span 0 (type_nodes base.of)

abbrev pub enumerator_nodes : Enumerator → Nodes
enumerator_nodes one = node one.span (name_counts one.name) none

-- Classes, enums and functions (ECMA-372, 20 to 24). Some bytes stand before the name in its full name: the namespaces from
-- the outermost in, each with a `.` behind it. A full name counts one for each whole 64 bytes.
abbrev pub full_name_counts : ℕ → Identifier → ℕ
full_name_counts before name = (before + length name.name) / 64

abbrev pub class_nodes : ℕ → Class → Nodes
class_nodes before «class» =
    node «class».span (name_counts «class».name + full_name_counts before «class».name)
    (both (node «class».key.span 0 none)
    (both (joined (map base_nodes «class».bases)) (joined (map (member_nodes (data_members «class».members)) «class».members))))

abbrev pub enumeration_nodes : ℕ → Enumeration → Nodes
enumeration_nodes before enum =
    node enum.span (name_counts enum.name + full_name_counts before enum.name) (joined (map enumerator_nodes enum.items))

abbrev pub function_nodes : Function → Nodes
function_nodes f =
    function (node f.span (name_counts f.name) (both (type_nodes f.result) (both (parameters_nodes f.parameters) (optional_of block_nodes f.body))))

-- what declarations give where so many bytes stand before their names
abbrev pub each_behind : ℕ → List (ℕ → Nodes) → List Nodes
each_behind before [] = []
each_behind before (one ∷ more) = one before ∷ each_behind before more

-- Declarations in a namespace (ECMA-372, 10). A template is not visited: its instances are.
abbrev pub outer_layer : Outer-F (ℕ → Nodes) → ℕ → Nodes
outer_layer (o.Using names span) before = node span (names_count names) none
outer_layer (o.Namespace name outers span) before =
    node span (name_counts name) (joined (each_behind (before + length name.name + 1) outers))
outer_layer (o.Class «class») before = class_nodes before «class»
outer_layer (o.Enumeration enum) before = enumeration_nodes before enum
outer_layer (o.VisibleClass visible «class» span) before = node span 0 (class_nodes before «class»)
outer_layer (o.VisibleEnumeration visible enum span) before = node span 0 (enumeration_nodes before enum)
outer_layer (o.Forward key name span) before = node span (name_counts name) (node key.span 0 none)
outer_layer (o.Template template) before = none
outer_layer (o.Function f) before = function_nodes f

abbrev pub outer_nodes : Outer → ℕ → Nodes
outer_nodes = fold-Outer (ℕ → Nodes) outer_layer

abbrev pub unit_nodes : unit.Unit → Nodes
unit_nodes tree = node tree.span 0 (joined (each_behind 0 (map outer_nodes tree.outers)))
