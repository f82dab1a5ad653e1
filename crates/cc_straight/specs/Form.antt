-- The straight form of a tree: which source it is, or where its first node stands that is of no built form.
use Rattle.std.specs.Prelude.{◌≡◌, ◌==◌, ◌&&◌, ℕ, List, [], ◌∷◌, Bool, true, false, Option, Some, None, Result, Ok, Err, map, nat_lt, not, reverse, codes, if◌then◌else◌}
use Rattle.std.specs.Str.{bytes_eq}
use Rattle.cc_base.specs.declared.text.Span.{Span}
use Rattle.cc_tree.specs.declared.token.Suffix.{Suffix}
use Rattle.cc_tree.specs.declared.token.Suffix.TheVariants.{Plain}
use Rattle.cc_tree.specs.declared.token.Radix.{Radix}
use Rattle.cc_tree.specs.declared.token.Radix.TheVariants.{Decimal, Octal}
use Rattle.cc_tree.specs.declared.type_name.FundamentalType.TheVariants as f
use Rattle.cc_tree.specs.declared.type_name.TypeName.{TypeName, TypeName-F, out-TypeName}
use Rattle.cc_tree.specs.declared.type_name.TypeName.TheOpen as type
use Rattle.cc_tree.specs.declared.expression.BinaryOperator.{BinaryOperator}
use Rattle.cc_tree.specs.declared.expression.BinaryOperator.TheVariants as b
use Rattle.cc_tree.specs.declared.expression.Expression.{Expression, Expression-F, fold-Expression, out-Expression}
use Rattle.cc_tree.specs.declared.expression.Expression.TheOpen as e
use Rattle.cc_tree.specs.declared.expression.Arguments.{Arguments, out-Arguments}
use Rattle.cc_tree.specs.declared.statement.Statement.{Statement, Statement-F, out-Statement}
use Rattle.cc_tree.specs.declared.statement.Statement.TheOpen as s
use Rattle.cc_tree.specs.declared.statement.Block.{Block, out-Block}
use Rattle.cc_tree.specs.declared.statement.Section.{Section}
use Rattle.cc_tree.specs.declared.statement.Catch.{Catch}
use Rattle.cc_tree.specs.declared.member.Parameter.{Parameter}
use Rattle.cc_tree.specs.declared.unit.Unit as unit
use Rattle.cc_tree.specs.declared.unit.Template.{Template}
use Rattle.cc_tree.specs.declared.unit.Template.TheVariants as template
use Rattle.cc_tree.specs.declared.unit.Function.{Function}
use Rattle.cc_tree.specs.declared.unit.Outer.{Outer, Outer-F, out-Outer, fold-Outer}
use Rattle.cc_tree.specs.declared.unit.Outer.TheOpen as o
use Rattle.cc_core.specs.declared.straight.StraightOperator.{StraightOperator}
use Rattle.cc_core.specs.declared.straight.StraightOperator.TheVariants.{Add, Subtract, Multiply}
use Rattle.cc_core.specs.StraightSource.{Term, number, apply, Source}

-- what a part of a tree is, or the span of the first node in it that isn't built
abbrev pub Judged : Type 0 → Type 0
Judged A = Result A Span

-- Terms.

abbrev pub arithmetic : BinaryOperator → Option StraightOperator
arithmetic b.Add = Some Add
arithmetic b.Subtract = Some Subtract
arithmetic b.Multiply = Some Multiply
arithmetic _ = None

-- a decimal number without suffix, or the octal number 0 that a lone `0` is, of the values of int
abbrev pub number_value : ℕ → Suffix → Radix → Option ℕ
number_value value Plain Decimal = if nat_lt 2147483647 value then None else Some value
number_value value Plain Octal = if value == 0 then Some 0 else None
number_value value suffix radix = None

abbrev pub number_term : Option ℕ → Span → Judged Term
number_term None span = Err span
number_term (Some value) span = Ok (number value)

-- two terms under an operator, the left one first
abbrev pub joined : StraightOperator → Judged Term → Judged Term → Judged Term
joined operator (Err span) right = Err span
joined operator (Ok left) (Err span) = Err span
joined operator (Ok left) (Ok right) = Ok (apply operator left right)

abbrev pub binary_term : Option StraightOperator → Judged Term → Judged Term → Span → Judged Term
binary_term None left right span = Err span
binary_term (Some operator) left right span = joined operator left right

-- the span of an expression
abbrev pub layer_span : {A B : Type 0} → Expression-F A B → Span
layer_span (e.Assign left operator right span) = span
layer_span (e.Conditional condition first second span) = span
layer_span (e.Binary left operator right span) = span
layer_span (e.Prefix operator x span) = span
layer_span (e.Cast of x span) = span
layer_span (e.Index x y span) = span
layer_span (e.Call x arguments span) = span
layer_span (e.Member x selects name types span) = span
layer_span (e.Finaliser x selects name span) = span
layer_span (e.Postfix x operator span) = span
layer_span (e.Number value suffix radix span) = span
layer_span (e.Character unit span) = span
layer_span (e.Strings texts span) = span
layer_span (e.True span) = span
layer_span (e.False span) = span
layer_span (e.Nullptr span) = span
layer_span (e.This span) = span
layer_span (e.Group x span) = span
layer_span (e.Name path name types span) = span
layer_span (e.StaticMember of name span) = span
layer_span (e.Construct of arguments span) = span
layer_span (e.New of arguments elements span) = span
layer_span (e.NamedCast word of x span) = span

abbrev pub expression_span : Expression → Span
expression_span x = layer_span (out-Expression x)

abbrev pub term_layer : Expression-F (Judged Term) Span → Judged Term
term_layer (e.Number value suffix radix span) = number_term (number_value value suffix radix) span
term_layer (e.Group x span) = x
term_layer (e.Binary left operator right span) = binary_term (arithmetic operator) left right span
term_layer x = Err (layer_span x)

abbrev pub arguments_layer : e.Arguments-F (Judged Term) Span → Span
arguments_layer layer = layer.span

abbrev pub term_of : Expression → Judged Term
term_of = fold-Expression (Judged Term) Span term_layer arguments_layer

-- Statements.

-- `System::Console`, a type of the library
abbrev pub is_console : TypeName-F TypeName → Bool
is_console (type.Named (system ∷ []) console [] span) = bytes_eq system.name (codes "System") && bytes_eq console.name (codes "Console")
is_console of = false

-- `System::Console::WriteLine`
abbrev pub is_write_line : Expression-F Expression Arguments → Bool
is_write_line (e.StaticMember of name span) = is_console (out-TypeName of) && bytes_eq name.name (codes "WriteLine")
is_write_line x = false

abbrev pub argument_term : List Expression → Span → Judged Term
argument_term (x ∷ []) span = term_of x
argument_term items span = Err span

-- the term that a call of `WriteLine` prints
abbrev pub printed_layer : Expression-F Expression Arguments → Judged Term
printed_layer (e.Call callee arguments span) =
    if is_write_line (out-Expression callee) then argument_term (out-Arguments arguments).items (out-Arguments arguments).span else Err (expression_span callee)
printed_layer x = Err (layer_span x)

abbrev pub printed_term : Expression → Judged Term
printed_term x = printed_layer (out-Expression x)

abbrev pub statement_span : Statement-F Statement Block Catch Section → Span
statement_span (s.Block block) = (out-Block block).span
statement_span (s.Empty span) = span
statement_span (s.Local local span) = span
statement_span (s.Expression x span) = span
statement_span (s.Delete x span) = span
statement_span (s.If x first second span) = span
statement_span (s.While x body span) = span
statement_span (s.Do body x span) = span
statement_span (s.For start condition advance body span) = span
statement_span (s.ForEach of name x body span) = span
statement_span (s.Switch x sections span) = span
statement_span (s.Break span) = span
statement_span (s.Continue span) = span
statement_span (s.Return x span) = span
statement_span (s.Throw x span) = span
statement_span (s.Try body catches at_last span) = span

abbrev pub line_layer : Statement-F Statement Block Catch Section → Judged Term
line_layer (s.Expression x span) = printed_term x
line_layer x = Err (statement_span x)

-- the term of a statement that is a line
abbrev pub line_term : Statement → Judged Term
line_term statement = line_layer (out-Statement statement)

-- a term and those behind it
abbrev pub then_terms : Judged Term → Judged (List Term) → Judged (List Term)
then_terms (Err span) later = Err span
then_terms (Ok term) (Err span) = Err span
then_terms (Ok term) (Ok terms) = Ok (term ∷ terms)

abbrev pub line_terms : List Statement → Judged (List Term)
line_terms [] = Ok []
line_terms (statement ∷ statements) = then_terms (line_term statement) (line_terms statements)

abbrev pub returned_layer : Statement-F Statement Block Catch Section → Option Expression
returned_layer (s.Return x span) = x
returned_layer x = None

-- the value of a return that has one
abbrev pub returned : Statement → Option Expression
returned statement = returned_layer (out-Statement statement)

abbrev pub source : Judged (List Term) → Judged Term → Judged Source
source (Err span) result = Err span
source (Ok lines) (Err span) = Err span
source (Ok lines) (Ok result) = Ok (record { lines = lines; result = result })

-- lines, and then the value that the last statement returns
abbrev pub statements_source : Span → List Statement → Option Expression → Judged Source
statements_source span lines None = Err span
statements_source span lines (Some value) = source (line_terms lines) (term_of value)

-- the statements of a block, the last one first
abbrev pub turned_source : Span → List Statement → Judged Source
turned_source span [] = Err span
turned_source span (last ∷ before) = statements_source span (reverse before) (returned last)

abbrev pub block_source : Block → Judged Source
block_source block = turned_source (out-Block block).span (reverse (out-Block block).statements)

-- Functions.

abbrev pub type_layer_span : TypeName-F TypeName → Span
type_layer_span (type.Fundamental of span) = span
type_layer_span (type.Named path name arguments span) = span
type_layer_span (type.Marked core is_handle is_tracking span) = span

abbrev pub is_int : TypeName-F TypeName → Bool
is_int (type.Fundamental f.Int span) = true
is_int x = false

abbrev pub parameters_source : List Parameter → Span → Judged Source → Judged Source
parameters_source [] span body = body
parameters_source (one ∷ items) span body = Err span

-- `int NAME()` and a block
abbrev pub function_source : Function → Block → Judged Source
function_source function body =
    if is_int (out-TypeName function.result) then parameters_source function.parameters.items function.parameters.span (block_source body)
    else Err (type_layer_span (out-TypeName function.result))

abbrev pub is_main : Function → Bool
is_main function = bytes_eq function.name.name (codes "main")

-- Units.

abbrev pub template_span : Template → Span
template_span (template.Class parameters class span) = span
template_span (template.Function parameters function span) = span

abbrev pub outer_layer_span : Outer-F Outer → Span
outer_layer_span (o.Using path span) = span
outer_layer_span (o.Namespace name outers span) = span
outer_layer_span (o.Class class) = class.span
outer_layer_span (o.Enumeration enum) = enum.span
outer_layer_span (o.VisibleClass visible class span) = span
outer_layer_span (o.VisibleEnumeration visible enum span) = span
outer_layer_span (o.Forward key name span) = span
outer_layer_span (o.Template template) = template_span template
outer_layer_span (o.Function function) = function.span

abbrev pub outer_span : Outer → Span
outer_span outer = outer_layer_span (out-Outer outer)

abbrev pub layer_is_main : Outer-F Outer → Bool
layer_is_main (o.Function function) = is_main function
layer_is_main x = false

-- a function `main` is among the declarations
abbrev pub has_main : List Outer → Bool
has_main [] = false
has_main (outer ∷ outers) = if layer_is_main (out-Outer outer) then true else has_main outers

-- a source that nothing stands behind
abbrev pub alone : Judged Source → List Outer → Judged Source
alone (Ok source) (outer ∷ outers) = Err (outer_span outer)
alone judged outers = judged

-- a function, and the declarations behind it
abbrev pub main_source : Function → Option Block → List Outer → Judged Source
main_source function None outers = Err function.span
main_source function (Some body) outers =
    if is_main function && not (has_main outers) then alone (function_source function body) outers else Err function.span

abbrev pub first_source : Outer-F Outer → List Outer → Judged Source
first_source (o.Function function) outers = main_source function function.body outers
first_source x outers = Err (outer_layer_span x)

abbrev pub outers_source : List Outer → Judged Source
outers_source [] = Err (record { first = 0; past = 0 })
outers_source (outer ∷ outers) = first_source (out-Outer outer) outers

abbrev pub is_any : List Bool → Bool
is_any [] = false
is_any (here ∷ later) = if here then true else is_any later

abbrev pub function_layer : Outer-F Bool → Bool
function_layer (o.Namespace name outers span) = is_any outers
function_layer (o.Function function) = true
function_layer x = false

-- the declaration is a function, or a namespace with one in it or in its namespaces
abbrev pub has_function : Outer → Bool
has_function = fold-Outer Bool function_layer

abbrev pub unit_source : unit.Unit → Judged Source
unit_source tree = if is_any (map has_function tree.outers) then outers_source tree.outers else Err (record { first = 0; past = 0 })

-- `int main()` with a block of lines and a return, and nothing else
abbrev pub IsStraight : unit.Unit → Source → Type 0
IsStraight tree source = unit_source tree ≡ Ok source

-- the first node, in order of place and an outer one before an inner one, that is of no built form
abbrev pub FirstUnbuilt : unit.Unit → Span → Type 0
FirstUnbuilt tree span = unit_source tree ≡ Err span
