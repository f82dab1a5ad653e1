-- Which nodes of a source are of a form that is built, and the first that isn't: in order of place, an outer node before an inner one. Built are using directives, namespaces, functions outside
-- classes and their prototypes, fundamental types under all their names, local variables with `=` or without, all statements but `delete`, `for each`, `throw` and `try`, numbers, characters, `true`,
-- `false`, all operators but the unary `%`, calls and casts (ECMA-372, 12.1, 15 and 16).
use Rattle.std.specs.Prelude.{ℕ, List, [], ◌∷◌, map, codes, Bool, true, false, cond, Option, Some, None, Result, Ok, Err}
use Rattle.std.specs.List.{list_any}
use Rattle.std.specs.Str.{bytes_eq}
use Rattle.cc_base.specs.declared.text.Span.{Span}
use Rattle.cc_tree.specs.declared.identifier.Identifier.{Identifier}
use Rattle.cc_tree.specs.declared.type_name.TypeName.{TypeName, TypeName-F, out-TypeName}
use Rattle.cc_tree.specs.declared.type_name.TypeName.TheOpen as t
use Rattle.cc_tree.specs.declared.type_name.TypeArguments.{TypeArguments}
use Rattle.cc_tree.specs.declared.expression.PrefixOperator.{PrefixOperator}
use Rattle.cc_tree.specs.declared.expression.PrefixOperator.TheVariants as prefix
use Rattle.cc_tree.specs.declared.expression.Expression.{Expression, Expression-F, fold-Expression}
use Rattle.cc_tree.specs.declared.expression.Expression.TheOpen as e
use Rattle.cc_tree.specs.declared.expression.Arguments.{Arguments, fold-Arguments}
use Rattle.cc_tree.specs.declared.statement.Statement.{Statement, Statement-F, fold-Statement}
use Rattle.cc_tree.specs.declared.statement.Statement.TheOpen as s
use Rattle.cc_tree.specs.declared.statement.Block.{Block, fold-Block}
use Rattle.cc_tree.specs.declared.statement.Section.{Section, fold-Section}
use Rattle.cc_tree.specs.declared.statement.Label.{Label}
use Rattle.cc_tree.specs.declared.statement.Label.TheVariants as label
use Rattle.cc_tree.specs.declared.statement.ForStart.{ForStart}
use Rattle.cc_tree.specs.declared.statement.ForStart.TheVariants as start
use Rattle.cc_tree.specs.declared.statement.Local.{Local}
use Rattle.cc_tree.specs.declared.statement.Declarator.{Declarator}
use Rattle.cc_tree.specs.declared.statement.Initializer.{Initializer}
use Rattle.cc_tree.specs.declared.statement.Initializer.TheVariants as initial
use Rattle.cc_tree.specs.declared.member.Parameter.{Parameter}
use Rattle.cc_tree.specs.declared.unit.Template.{Template}
use Rattle.cc_tree.specs.declared.unit.Template.TheVariants as template
use Rattle.cc_tree.specs.declared.unit.Outer.{Outer, Outer-F, fold-Outer}
use Rattle.cc_tree.specs.declared.unit.Outer.TheOpen as o
use Rattle.cc_tree.specs.declared.unit.Function.{Function}
use Rattle.cc_tree.specs.declared.unit.Unit as unit

-- the first node of a part that isn't built, where there is one
abbrev pub Unbuilt : Type 0
Unbuilt = Option Span

-- that of the first part, or else that of the second
abbrev pub earlier : Unbuilt → Unbuilt → Unbuilt
earlier (Some span) other = Some span
earlier None other = other

abbrev pub first_of : List Unbuilt → Unbuilt
first_of [] = None
first_of (one ∷ more) = earlier one (first_of more)

-- that of a part that may be absent
abbrev pub optional : Option Unbuilt → Unbuilt
optional None = None
optional (Some one) = one

abbrev pub optional_of : {A : Type 0} → (A → Unbuilt) → Option A → Unbuilt
optional_of form None = None
optional_of form (Some x) = form x

-- a node that is built exactly where the test holds
abbrev pub built_if : Bool → Span → Unbuilt
built_if test span = cond test None (Some span)

-- the answer of a walk, which ends with an error at the first node that isn't built
abbrev pub found : {A : Type 0} → Result A Span → Unbuilt
found (Ok a) = None
found (Err span) = Some span

-- Types. The library's names of fundamental types mean these too; no other class may bear one.
abbrev pub library_names : List (List ℕ)
library_names =
    codes "Boolean" ∷ codes "Char" ∷ codes "SByte" ∷ codes "Byte" ∷ codes "Int16" ∷ codes "UInt16" ∷ codes "Int32" ∷ codes "UInt32" ∷ codes "Int64" ∷ codes "UInt64" ∷ []

abbrev pub is_library_name : List ℕ → Bool
is_library_name name = list_any (bytes_eq name) library_names

abbrev pub is_empty : {A : Type 0} → List A → Bool
is_empty [] = true
is_empty (x ∷ xs) = false

abbrev pub type_layer : TypeName-F TypeName → Unbuilt
type_layer (t.Fundamental of span) = None
type_layer (t.Named path name arguments span) = cond (is_empty arguments) (built_if (is_library_name name.name) span) (Some span)
type_layer (t.Marked core is_handle is_tracking span) = Some span

abbrev pub type_form : TypeName → Unbuilt
type_form of = type_layer (out-TypeName of)

-- Before `::` stands the class `Console` of the library alone.
abbrev pub console_layer : TypeName-F TypeName → Bool
console_layer (t.Fundamental of span) = false
console_layer (t.Named path name arguments span) = cond (is_empty arguments) (bytes_eq name.name (codes "Console")) false
console_layer (t.Marked core is_handle is_tracking span) = false

abbrev pub is_console : TypeName → Bool
is_console of = console_layer (out-TypeName of)

-- Expressions.
abbrev pub is_handle_of : PrefixOperator → Bool
is_handle_of prefix.Handle = true
is_handle_of prefix.Not = false
is_handle_of prefix.Complement = false
is_handle_of prefix.Negate = false
is_handle_of prefix.Plus = false
is_handle_of prefix.Increment = false
is_handle_of prefix.Decrement = false

abbrev pub has_none : {A : Type 0} → Option A → Bool
has_none None = true
has_none (Some x) = false

abbrev pub expression_layer : Expression-F Unbuilt Unbuilt → Unbuilt
expression_layer (e.Assign left operator right span) = earlier left right
expression_layer (e.Conditional condition first second span) = earlier condition (earlier first second)
expression_layer (e.Binary left operator right span) = earlier left right
expression_layer (e.Prefix operator x span) = cond (is_handle_of operator) (Some span) x
expression_layer (e.Cast of x span) = earlier (type_form of) x
expression_layer (e.Index x y span) = Some span
expression_layer (e.Call x arguments span) = earlier x arguments
expression_layer (e.Member x selects name types span) = Some span
expression_layer (e.Finaliser x selects name span) = Some span
expression_layer (e.Postfix x operator span) = x
expression_layer (e.Number value suffix radix span) = None
expression_layer (e.Character unit span) = None
expression_layer (e.Strings texts span) = Some span
expression_layer (e.True span) = None
expression_layer (e.False span) = None
expression_layer (e.Nullptr span) = Some span
expression_layer (e.This span) = Some span
expression_layer (e.Group x span) = x
expression_layer (e.Name path name types span) = built_if (has_none types) span
expression_layer (e.StaticMember of name span) = built_if (is_console of) span
expression_layer (e.Construct of arguments span) = earlier (type_form of) arguments
expression_layer (e.New of arguments elements span) = Some span
expression_layer (e.NamedCast word of x span) = earlier (type_form of) x

abbrev pub arguments_layer : e.Arguments-F Unbuilt Unbuilt → Unbuilt
arguments_layer layer = first_of layer.items

abbrev pub expression_form : Expression → Unbuilt
expression_form = fold-Expression Unbuilt Unbuilt expression_layer arguments_layer

abbrev pub arguments_form : Arguments → Unbuilt
arguments_form = fold-Arguments Unbuilt Unbuilt expression_layer arguments_layer

-- Statements.
abbrev pub initializer_form : Initializer → Span → Unbuilt
initializer_form initial.Nothing span = None
initializer_form (initial.Value x) span = expression_form x
initializer_form (initial.Elements arguments) span = Some span
initializer_form (initial.Arguments items) span = Some span

abbrev pub declarator_form : Declarator → Unbuilt
declarator_form one = initializer_form one.initializer one.span

abbrev pub local_form : Local → Unbuilt
local_form local = earlier (type_form local.of) (first_of (map declarator_form local.declarators))

abbrev pub start_form : ForStart → Unbuilt
start_form start.Nothing = None
start_form (start.Local local) = local_form local
start_form (start.Expression x) = expression_form x

abbrev pub label_form : Label → Unbuilt
label_form (label.Case x span) = expression_form x
label_form (label.Default span) = None

abbrev pub statement_layer : Statement-F Unbuilt Unbuilt Unbuilt Unbuilt → Unbuilt
statement_layer (s.Block block) = block
statement_layer (s.Empty span) = None
statement_layer (s.Local local span) = local_form local
statement_layer (s.Expression x span) = expression_form x
statement_layer (s.Delete x span) = Some span
statement_layer (s.If x first second span) = earlier (expression_form x) (earlier first (optional second))
statement_layer (s.While x body span) = earlier (expression_form x) body
statement_layer (s.Do body x span) = earlier body (expression_form x)
statement_layer (s.For start condition advance body span) =
    earlier (start_form start) (earlier (optional_of expression_form condition) (earlier (optional_of expression_form advance) body))
statement_layer (s.ForEach of name x body span) = Some span
statement_layer (s.Switch x sections span) = earlier (expression_form x) (first_of sections)
statement_layer (s.Break span) = None
statement_layer (s.Continue span) = None
statement_layer (s.Return x span) = optional_of expression_form x
statement_layer (s.Throw x span) = Some span
statement_layer (s.Try body catches at_last span) = Some span

abbrev pub block_layer : s.Block-F Unbuilt Unbuilt Unbuilt Unbuilt → Unbuilt
block_layer layer = first_of layer.statements

-- No statement that is built has a catch.
abbrev pub catch_layer : s.Catch-F Unbuilt Unbuilt Unbuilt Unbuilt → Unbuilt
catch_layer layer = layer.block

abbrev pub section_layer : s.Section-F Unbuilt Unbuilt Unbuilt Unbuilt → Unbuilt
section_layer layer = earlier (first_of (map label_form layer.labels)) (first_of layer.statements)

abbrev pub statement_form : Statement → Unbuilt
statement_form = fold-Statement Unbuilt Unbuilt Unbuilt Unbuilt statement_layer block_layer catch_layer section_layer

abbrev pub block_form : Block → Unbuilt
block_form = fold-Block Unbuilt Unbuilt Unbuilt Unbuilt statement_layer block_layer catch_layer section_layer

abbrev pub section_form : Section → Unbuilt
section_form = fold-Section Unbuilt Unbuilt Unbuilt Unbuilt statement_layer block_layer catch_layer section_layer

-- Functions, namespaces and whole sources.
abbrev pub parameter_form : Parameter → Unbuilt
parameter_form one = type_form one.of

abbrev pub function_form : Function → Unbuilt
function_form one = earlier (type_form one.result) (earlier (first_of (map parameter_form one.parameters.items)) (optional_of block_form one.body))

abbrev pub template_span : Template → Span
template_span (template.Class parameters one span) = span
template_span (template.Function parameters one span) = span

abbrev pub outer_layer : Outer-F Unbuilt → Unbuilt
outer_layer (o.Using path span) = None
outer_layer (o.Namespace name outers span) = first_of outers
outer_layer (o.Class one) = Some one.span
outer_layer (o.Enumeration one) = Some one.span
outer_layer (o.VisibleClass visible one span) = Some span
outer_layer (o.VisibleEnumeration visible one span) = Some span
outer_layer (o.Forward key name span) = Some span
outer_layer (o.Template one) = Some (template_span one)
outer_layer (o.Function one) = function_form one

abbrev pub outer_form : Outer → Unbuilt
outer_form = fold-Outer Unbuilt outer_layer

-- the first node of a unit that isn't built, `None` where all are
abbrev pub first_not_built : unit.Unit → Unbuilt
first_not_built tree = first_of (map outer_form tree.outers)
