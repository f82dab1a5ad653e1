-- The depth of each tree, from those of its parts.
use Rattle.std.proofs.Common.{◌≡◌, ℕ, suc, max, sym, ap, ◌∙◌, List, [], ◌∷◌, ◌++◌, map, Option, Some, None, Bool, ◌≤◌, arith}
use Rattle.cc_base.specs.declared.text.Span.{Span}
use Rattle.cc_tree.specs.declared.class.Class.{Class}
use Rattle.cc_tree.specs.declared.class.ClassKey.{ClassKey}
use Rattle.cc_tree.specs.declared.class.Enumeration.{Enumeration}
use Rattle.cc_tree.specs.declared.expression.AssignmentOperator.{AssignmentOperator}
use Rattle.cc_tree.specs.declared.expression.BinaryOperator.{BinaryOperator}
use Rattle.cc_tree.specs.declared.expression.CastWord.{CastWord}
use Rattle.cc_tree.specs.declared.expression.PostfixOperator.{PostfixOperator}
use Rattle.cc_tree.specs.declared.expression.PrefixOperator.{PrefixOperator}
use Rattle.cc_tree.specs.declared.expression.Selector.{Selector}
use Rattle.cc_tree.specs.declared.identifier.Identifier.{Identifier}
use Rattle.cc_tree.specs.declared.member.Modifier.{Modifier}
use Rattle.cc_tree.specs.declared.statement.Caught.{Caught}
use Rattle.cc_tree.specs.declared.statement.ForStart.{ForStart}
use Rattle.cc_tree.specs.declared.statement.Label.{Label}
use Rattle.cc_tree.specs.declared.statement.Local.{Local}
use Rattle.cc_tree.specs.declared.token.Radix.{Radix}
use Rattle.cc_tree.specs.declared.token.Suffix.{Suffix}
use Rattle.cc_tree.specs.declared.type_name.FundamentalType.{FundamentalType}
use Rattle.cc_tree.specs.declared.type_name.TypeArguments.{TypeArguments}
use Rattle.cc_tree.specs.declared.unit.Function.{Function}
use Rattle.cc_tree.specs.declared.unit.Template.{Template}
use Rattle.cc_tree.specs.declared.unit.Visibility.{Visibility}
use Rattle.cc_tree.specs.declared.type_name.TypeName.{TypeName, fold-roll-TypeName}
use Rattle.cc_tree.specs.declared.type_name.TypeName.TheVariants as tv
use Rattle.cc_tree.specs.declared.type_name.TypeName.TheOpen as to
use Rattle.cc_tree.specs.declared.expression.Arguments.{Arguments, roll-Arguments, fold-roll-Arguments}
use Rattle.cc_tree.specs.declared.expression.Expression.{Expression, fold-roll-Expression}
use Rattle.cc_tree.specs.declared.expression.Expression.TheVariants as ev
use Rattle.cc_tree.specs.declared.expression.Expression.TheOpen as eo
use Rattle.cc_tree.specs.declared.statement.Block.{Block, roll-Block, fold-roll-Block}
use Rattle.cc_tree.specs.declared.statement.Catch.{Catch, roll-Catch, fold-roll-Catch}
use Rattle.cc_tree.specs.declared.statement.Section.{Section, roll-Section, fold-roll-Section}
use Rattle.cc_tree.specs.declared.statement.Statement.{Statement, fold-roll-Statement}
use Rattle.cc_tree.specs.declared.statement.Statement.TheVariants as sv
use Rattle.cc_tree.specs.declared.statement.Statement.TheOpen as so
use Rattle.cc_tree.specs.declared.unit.Outer.{Outer, fold-roll-Outer}
use Rattle.cc_tree.specs.declared.unit.Outer.TheVariants as ov
use Rattle.cc_tree.specs.declared.unit.Outer.TheOpen as oo
use Rattle.cc_tree.specs.Depth.{greatest, optional_of, type_layer, type_depth, type_arguments_depth, expression_layer, arguments_layer, expression_depth, arguments_depth, statement_layer, block_layer, catch_layer, section_layer, statement_depth, block_depth, label_depth, local_depth, start_depth, caught_depth, modifiers_depth, class_depth, enumeration_depth, template_depth, function_depth, outer_layer, outer_depth}
use Rattle.cc_grammar_laws.specs.Heights.{section_depth, catch_depth}

pub fundamental_type : (of : FundamentalType) (span : Span) → type_depth (tv.Fundamental of span) ≡ 1
fundamental_type of span = ap type_depth (sym (tv.rolls-Fundamental of span)) ∙ fold-roll-TypeName ℕ type_layer (to.Fundamental of span)

pub named_type : (path : List Identifier) (name : Identifier) (arguments : List TypeName) (span : Span) → type_depth (tv.Named path name arguments span) ≡ suc (greatest (map type_depth arguments))
named_type path name arguments span = ap type_depth (sym (tv.rolls-Named path name arguments span)) ∙ fold-roll-TypeName ℕ type_layer (to.Named path name arguments span)

pub marked_type : (core : TypeName) (is_handle : Bool) (is_tracking : Bool) (span : Span) → type_depth (tv.Marked core is_handle is_tracking span) ≡ suc (type_depth core)
marked_type core is_handle is_tracking span = ap type_depth (sym (tv.rolls-Marked core is_handle is_tracking span)) ∙ fold-roll-TypeName ℕ type_layer (to.Marked core is_handle is_tracking span)

pub assign_expression : (left : Expression) (op : AssignmentOperator) (right : Expression) (span : Span) → expression_depth (ev.Assign left op right span) ≡ suc (max (expression_depth left) (expression_depth right))
assign_expression left op right span = ap expression_depth (sym (ev.rolls-Assign left op right span)) ∙ fold-roll-Expression ℕ ℕ expression_layer arguments_layer (eo.Assign left op right span)

pub conditional_expression : (condition : Expression) (first : Expression) (second : Expression) (span : Span) → expression_depth (ev.Conditional condition first second span) ≡ suc (max (expression_depth condition) (max (expression_depth first) (expression_depth second)))
conditional_expression condition first second span = ap expression_depth (sym (ev.rolls-Conditional condition first second span)) ∙ fold-roll-Expression ℕ ℕ expression_layer arguments_layer (eo.Conditional condition first second span)

pub binary_expression : (left : Expression) (op : BinaryOperator) (right : Expression) (span : Span) → expression_depth (ev.Binary left op right span) ≡ suc (max (expression_depth left) (expression_depth right))
binary_expression left op right span = ap expression_depth (sym (ev.rolls-Binary left op right span)) ∙ fold-roll-Expression ℕ ℕ expression_layer arguments_layer (eo.Binary left op right span)

pub prefix_expression : (op : PrefixOperator) (x : Expression) (span : Span) → expression_depth (ev.Prefix op x span) ≡ suc (expression_depth x)
prefix_expression op x span = ap expression_depth (sym (ev.rolls-Prefix op x span)) ∙ fold-roll-Expression ℕ ℕ expression_layer arguments_layer (eo.Prefix op x span)

pub cast_expression : (of : TypeName) (x : Expression) (span : Span) → expression_depth (ev.Cast of x span) ≡ suc (max (type_depth of) (expression_depth x))
cast_expression of x span = ap expression_depth (sym (ev.rolls-Cast of x span)) ∙ fold-roll-Expression ℕ ℕ expression_layer arguments_layer (eo.Cast of x span)

pub index_expression : (x : Expression) (y : Expression) (span : Span) → expression_depth (ev.Index x y span) ≡ suc (max (expression_depth x) (expression_depth y))
index_expression x y span = ap expression_depth (sym (ev.rolls-Index x y span)) ∙ fold-roll-Expression ℕ ℕ expression_layer arguments_layer (eo.Index x y span)

pub call_expression : (x : Expression) (arguments : Arguments) (span : Span) → expression_depth (ev.Call x arguments span) ≡ suc (max (expression_depth x) (arguments_depth arguments))
call_expression x arguments span = ap expression_depth (sym (ev.rolls-Call x arguments span)) ∙ fold-roll-Expression ℕ ℕ expression_layer arguments_layer (eo.Call x arguments span)

pub member_expression : (x : Expression) (selects : Selector) (name : Identifier) (types : Option TypeArguments) (span : Span) → expression_depth (ev.Member x selects name types span) ≡ suc (max (expression_depth x) (optional_of type_arguments_depth types))
member_expression x selects name types span = ap expression_depth (sym (ev.rolls-Member x selects name types span)) ∙ fold-roll-Expression ℕ ℕ expression_layer arguments_layer (eo.Member x selects name types span)

pub finaliser_expression : (x : Expression) (selects : Selector) (name : Identifier) (span : Span) → expression_depth (ev.Finaliser x selects name span) ≡ suc (expression_depth x)
finaliser_expression x selects name span = ap expression_depth (sym (ev.rolls-Finaliser x selects name span)) ∙ fold-roll-Expression ℕ ℕ expression_layer arguments_layer (eo.Finaliser x selects name span)

pub postfix_expression : (x : Expression) (op : PostfixOperator) (span : Span) → expression_depth (ev.Postfix x op span) ≡ suc (expression_depth x)
postfix_expression x op span = ap expression_depth (sym (ev.rolls-Postfix x op span)) ∙ fold-roll-Expression ℕ ℕ expression_layer arguments_layer (eo.Postfix x op span)

pub number_expression : (value : ℕ) (suffix : Suffix) (radix : Radix) (span : Span) → expression_depth (ev.Number value suffix radix span) ≡ 1
number_expression value suffix radix span = ap expression_depth (sym (ev.rolls-Number value suffix radix span)) ∙ fold-roll-Expression ℕ ℕ expression_layer arguments_layer (eo.Number value suffix radix span)

pub character_expression : (code : ℕ) (span : Span) → expression_depth (ev.Character code span) ≡ 1
character_expression code span = ap expression_depth (sym (ev.rolls-Character code span)) ∙ fold-roll-Expression ℕ ℕ expression_layer arguments_layer (eo.Character code span)

pub strings_expression : (texts : List (List ℕ)) (span : Span) → expression_depth (ev.Strings texts span) ≡ 1
strings_expression texts span = ap expression_depth (sym (ev.rolls-Strings texts span)) ∙ fold-roll-Expression ℕ ℕ expression_layer arguments_layer (eo.Strings texts span)

pub true_word_expression : (span : Span) → expression_depth (ev.True span) ≡ 1
true_word_expression span = ap expression_depth (sym (ev.rolls-True span)) ∙ fold-roll-Expression ℕ ℕ expression_layer arguments_layer (eo.True span)

pub false_word_expression : (span : Span) → expression_depth (ev.False span) ≡ 1
false_word_expression span = ap expression_depth (sym (ev.rolls-False span)) ∙ fold-roll-Expression ℕ ℕ expression_layer arguments_layer (eo.False span)

pub nullptr_word_expression : (span : Span) → expression_depth (ev.Nullptr span) ≡ 1
nullptr_word_expression span = ap expression_depth (sym (ev.rolls-Nullptr span)) ∙ fold-roll-Expression ℕ ℕ expression_layer arguments_layer (eo.Nullptr span)

pub this_word_expression : (span : Span) → expression_depth (ev.This span) ≡ 1
this_word_expression span = ap expression_depth (sym (ev.rolls-This span)) ∙ fold-roll-Expression ℕ ℕ expression_layer arguments_layer (eo.This span)

pub group_expression : (x : Expression) (span : Span) → expression_depth (ev.Group x span) ≡ suc (expression_depth x)
group_expression x span = ap expression_depth (sym (ev.rolls-Group x span)) ∙ fold-roll-Expression ℕ ℕ expression_layer arguments_layer (eo.Group x span)

pub name_expression : (path : List Identifier) (name : Identifier) (types : Option TypeArguments) (span : Span) → expression_depth (ev.Name path name types span) ≡ suc (optional_of type_arguments_depth types)
name_expression path name types span = ap expression_depth (sym (ev.rolls-Name path name types span)) ∙ fold-roll-Expression ℕ ℕ expression_layer arguments_layer (eo.Name path name types span)

pub static_member_expression : (of : TypeName) (name : Identifier) (span : Span) → expression_depth (ev.StaticMember of name span) ≡ suc (type_depth of)
static_member_expression of name span = ap expression_depth (sym (ev.rolls-StaticMember of name span)) ∙ fold-roll-Expression ℕ ℕ expression_layer arguments_layer (eo.StaticMember of name span)

pub construct_expression : (of : TypeName) (arguments : Arguments) (span : Span) → expression_depth (ev.Construct of arguments span) ≡ suc (max (type_depth of) (arguments_depth arguments))
construct_expression of arguments span = ap expression_depth (sym (ev.rolls-Construct of arguments span)) ∙ fold-roll-Expression ℕ ℕ expression_layer arguments_layer (eo.Construct of arguments span)

pub new_expression : (of : TypeName) (span : Span) → expression_depth (ev.New of None None span) ≡ suc (max (type_depth of) 0)
new_expression of span = ap expression_depth (sym (ev.rolls-New of None None span)) ∙ fold-roll-Expression ℕ ℕ expression_layer arguments_layer (eo.New of None None span)

pub new_with_expression : (of : TypeName) (arguments : Arguments) (span : Span) → expression_depth (ev.New of (Some arguments) None span) ≡ suc (max (type_depth of) (max (arguments_depth arguments) 0))
new_with_expression of arguments span = ap expression_depth (sym (ev.rolls-New of (Some arguments) None span)) ∙ fold-roll-Expression ℕ ℕ expression_layer arguments_layer (eo.New of (Some arguments) None span)

pub new_of_expression : (of : TypeName) (elements : Arguments) (span : Span) → expression_depth (ev.New of None (Some elements) span) ≡ suc (max (type_depth of) (max 0 (arguments_depth elements)))
new_of_expression of elements span = ap expression_depth (sym (ev.rolls-New of None (Some elements) span)) ∙ fold-roll-Expression ℕ ℕ expression_layer arguments_layer (eo.New of None (Some elements) span)

pub new_with_of_expression : (of : TypeName) (arguments : Arguments) (elements : Arguments) (span : Span) → expression_depth (ev.New of (Some arguments) (Some elements) span) ≡ suc (max (type_depth of) (max (arguments_depth arguments) (arguments_depth elements)))
new_with_of_expression of arguments elements span = ap expression_depth (sym (ev.rolls-New of (Some arguments) (Some elements) span)) ∙ fold-roll-Expression ℕ ℕ expression_layer arguments_layer (eo.New of (Some arguments) (Some elements) span)

pub named_cast_expression : (word : CastWord) (of : TypeName) (x : Expression) (span : Span) → expression_depth (ev.NamedCast word of x span) ≡ suc (max (type_depth of) (expression_depth x))
named_cast_expression word of x span = ap expression_depth (sym (ev.rolls-NamedCast word of x span)) ∙ fold-roll-Expression ℕ ℕ expression_layer arguments_layer (eo.NamedCast word of x span)

pub block_statement : (block : Block) → statement_depth (sv.Block block) ≡ block_depth block
block_statement block = ap statement_depth (sym (sv.rolls-Block block)) ∙ fold-roll-Statement ℕ ℕ ℕ ℕ statement_layer block_layer catch_layer section_layer (so.Block block)

pub empty_statement : (span : Span) → statement_depth (sv.Empty span) ≡ 1
empty_statement span = ap statement_depth (sym (sv.rolls-Empty span)) ∙ fold-roll-Statement ℕ ℕ ℕ ℕ statement_layer block_layer catch_layer section_layer (so.Empty span)

pub local_statement : (local : Local) (span : Span) → statement_depth (sv.Local local span) ≡ suc (local_depth local)
local_statement local span = ap statement_depth (sym (sv.rolls-Local local span)) ∙ fold-roll-Statement ℕ ℕ ℕ ℕ statement_layer block_layer catch_layer section_layer (so.Local local span)

pub expression_statement : (x : Expression) (span : Span) → statement_depth (sv.Expression x span) ≡ suc (expression_depth x)
expression_statement x span = ap statement_depth (sym (sv.rolls-Expression x span)) ∙ fold-roll-Statement ℕ ℕ ℕ ℕ statement_layer block_layer catch_layer section_layer (so.Expression x span)

pub delete_statement : (x : Expression) (span : Span) → statement_depth (sv.Delete x span) ≡ suc (expression_depth x)
delete_statement x span = ap statement_depth (sym (sv.rolls-Delete x span)) ∙ fold-roll-Statement ℕ ℕ ℕ ℕ statement_layer block_layer catch_layer section_layer (so.Delete x span)

pub if_alone_statement : (x : Expression) (first : Statement) (span : Span) → statement_depth (sv.If x first None span) ≡ suc (max (expression_depth x) (max (statement_depth first) 0))
if_alone_statement x first span = ap statement_depth (sym (sv.rolls-If x first None span)) ∙ fold-roll-Statement ℕ ℕ ℕ ℕ statement_layer block_layer catch_layer section_layer (so.If x first None span)

pub if_else_statement : (x : Expression) (first : Statement) (second : Statement) (span : Span) → statement_depth (sv.If x first (Some second) span) ≡ suc (max (expression_depth x) (max (statement_depth first) (statement_depth second)))
if_else_statement x first second span = ap statement_depth (sym (sv.rolls-If x first (Some second) span)) ∙ fold-roll-Statement ℕ ℕ ℕ ℕ statement_layer block_layer catch_layer section_layer (so.If x first (Some second) span)

pub while_statement : (x : Expression) (body : Statement) (span : Span) → statement_depth (sv.While x body span) ≡ suc (max (expression_depth x) (statement_depth body))
while_statement x body span = ap statement_depth (sym (sv.rolls-While x body span)) ∙ fold-roll-Statement ℕ ℕ ℕ ℕ statement_layer block_layer catch_layer section_layer (so.While x body span)

pub do_statement : (body : Statement) (x : Expression) (span : Span) → statement_depth (sv.Do body x span) ≡ suc (max (statement_depth body) (expression_depth x))
do_statement body x span = ap statement_depth (sym (sv.rolls-Do body x span)) ∙ fold-roll-Statement ℕ ℕ ℕ ℕ statement_layer block_layer catch_layer section_layer (so.Do body x span)

pub for_statement : (start : ForStart) (condition : Option Expression) (advance : Option Expression) (body : Statement) (span : Span) → statement_depth (sv.For start condition advance body span) ≡ suc (max (start_depth start) (max (optional_of expression_depth condition) (max (optional_of expression_depth advance) (statement_depth body))))
for_statement start condition advance body span = ap statement_depth (sym (sv.rolls-For start condition advance body span)) ∙ fold-roll-Statement ℕ ℕ ℕ ℕ statement_layer block_layer catch_layer section_layer (so.For start condition advance body span)

pub for_each_statement : (of : TypeName) (name : Identifier) (x : Expression) (body : Statement) (span : Span) → statement_depth (sv.ForEach of name x body span) ≡ suc (max (type_depth of) (max (expression_depth x) (statement_depth body)))
for_each_statement of name x body span = ap statement_depth (sym (sv.rolls-ForEach of name x body span)) ∙ fold-roll-Statement ℕ ℕ ℕ ℕ statement_layer block_layer catch_layer section_layer (so.ForEach of name x body span)

pub switch_statement : (x : Expression) (sections : List Section) (span : Span) → statement_depth (sv.Switch x sections span) ≡ suc (max (expression_depth x) (greatest (map section_depth sections)))
switch_statement x sections span = ap statement_depth (sym (sv.rolls-Switch x sections span)) ∙ fold-roll-Statement ℕ ℕ ℕ ℕ statement_layer block_layer catch_layer section_layer (so.Switch x sections span)

pub break_statement : (span : Span) → statement_depth (sv.Break span) ≡ 1
break_statement span = ap statement_depth (sym (sv.rolls-Break span)) ∙ fold-roll-Statement ℕ ℕ ℕ ℕ statement_layer block_layer catch_layer section_layer (so.Break span)

pub continue_statement : (span : Span) → statement_depth (sv.Continue span) ≡ 1
continue_statement span = ap statement_depth (sym (sv.rolls-Continue span)) ∙ fold-roll-Statement ℕ ℕ ℕ ℕ statement_layer block_layer catch_layer section_layer (so.Continue span)

pub return_statement : (x : Option Expression) (span : Span) → statement_depth (sv.Return x span) ≡ suc (optional_of expression_depth x)
return_statement x span = ap statement_depth (sym (sv.rolls-Return x span)) ∙ fold-roll-Statement ℕ ℕ ℕ ℕ statement_layer block_layer catch_layer section_layer (so.Return x span)

pub throw_statement : (x : Option Expression) (span : Span) → statement_depth (sv.Throw x span) ≡ suc (optional_of expression_depth x)
throw_statement x span = ap statement_depth (sym (sv.rolls-Throw x span)) ∙ fold-roll-Statement ℕ ℕ ℕ ℕ statement_layer block_layer catch_layer section_layer (so.Throw x span)

pub try_statement : (body : Block) (catches : List Catch) (span : Span) → statement_depth (sv.Try body catches None span) ≡ suc (max (block_depth body) (max (greatest (map catch_depth catches)) 0))
try_statement body catches span = ap statement_depth (sym (sv.rolls-Try body catches None span)) ∙ fold-roll-Statement ℕ ℕ ℕ ℕ statement_layer block_layer catch_layer section_layer (so.Try body catches None span)

pub try_finally_statement : (body : Block) (catches : List Catch) (at_last : Block) (span : Span) → statement_depth (sv.Try body catches (Some at_last) span) ≡ suc (max (block_depth body) (max (greatest (map catch_depth catches)) (block_depth at_last)))
try_finally_statement body catches at_last span = ap statement_depth (sym (sv.rolls-Try body catches (Some at_last) span)) ∙ fold-roll-Statement ℕ ℕ ℕ ℕ statement_layer block_layer catch_layer section_layer (so.Try body catches (Some at_last) span)

pub using_outer : (path : List Identifier) (span : Span) → outer_depth (ov.Using path span) ≡ 1
using_outer path span = ap outer_depth (sym (ov.rolls-Using path span)) ∙ fold-roll-Outer ℕ outer_layer (oo.Using path span)

pub namespace_outer : (name : Identifier) (outers : List Outer) (span : Span) → outer_depth (ov.Namespace name outers span) ≡ suc (greatest (map outer_depth outers))
namespace_outer name outers span = ap outer_depth (sym (ov.rolls-Namespace name outers span)) ∙ fold-roll-Outer ℕ outer_layer (oo.Namespace name outers span)

pub class_outer : (class : Class) → outer_depth (ov.Class class) ≡ class_depth class
class_outer class = ap outer_depth (sym (ov.rolls-Class class)) ∙ fold-roll-Outer ℕ outer_layer (oo.Class class)

pub enumeration_outer : (enum : Enumeration) → outer_depth (ov.Enumeration enum) ≡ enumeration_depth enum
enumeration_outer enum = ap outer_depth (sym (ov.rolls-Enumeration enum)) ∙ fold-roll-Outer ℕ outer_layer (oo.Enumeration enum)

pub visible_class_outer : (visible : Visibility) (class : Class) (span : Span) → outer_depth (ov.VisibleClass visible class span) ≡ suc (class_depth class)
visible_class_outer visible class span = ap outer_depth (sym (ov.rolls-VisibleClass visible class span)) ∙ fold-roll-Outer ℕ outer_layer (oo.VisibleClass visible class span)

pub visible_enumeration_outer : (visible : Visibility) (enum : Enumeration) (span : Span) → outer_depth (ov.VisibleEnumeration visible enum span) ≡ suc (enumeration_depth enum)
visible_enumeration_outer visible enum span = ap outer_depth (sym (ov.rolls-VisibleEnumeration visible enum span)) ∙ fold-roll-Outer ℕ outer_layer (oo.VisibleEnumeration visible enum span)

pub forward_outer : (key : ClassKey) (name : Identifier) (span : Span) → outer_depth (ov.Forward key name span) ≡ 2
forward_outer key name span = ap outer_depth (sym (ov.rolls-Forward key name span)) ∙ fold-roll-Outer ℕ outer_layer (oo.Forward key name span)

pub template_outer : (template : Template) → outer_depth (ov.Template template) ≡ template_depth template
template_outer template = ap outer_depth (sym (ov.rolls-Template template)) ∙ fold-roll-Outer ℕ outer_layer (oo.Template template)

pub function_outer : (function : Function) → outer_depth (ov.Function function) ≡ function_depth function
function_outer function = ap outer_depth (sym (ov.rolls-Function function)) ∙ fold-roll-Outer ℕ outer_layer (oo.Function function)

pub arguments_rolled : (items : List Expression) (span : Span) → arguments_depth (roll-Arguments (record { items = items; span = span })) ≡ suc (greatest (map expression_depth items))
arguments_rolled items span = fold-roll-Arguments ℕ ℕ expression_layer arguments_layer (record { items = items; span = span })

pub block_rolled : (statements : List Statement) (span : Span) → block_depth (roll-Block (record { statements = statements; span = span })) ≡ suc (greatest (map statement_depth statements))
block_rolled statements span = fold-roll-Block ℕ ℕ ℕ ℕ statement_layer block_layer catch_layer section_layer (record { statements = statements; span = span })

pub section_rolled : (labels : List Label) (statements : List Statement) → section_depth (roll-Section (record { labels = labels; statements = statements })) ≡ max (greatest (map label_depth labels)) (greatest (map statement_depth statements))
section_rolled labels statements = fold-roll-Section ℕ ℕ ℕ ℕ statement_layer block_layer catch_layer section_layer (record { labels = labels; statements = statements })

pub catch_rolled : (caught : Caught) (block : Block) → catch_depth (roll-Catch (record { caught = caught; block = block })) ≡ max (caught_depth caught) (block_depth block)
catch_rolled caught block = fold-roll-Catch ℕ ℕ ℕ ℕ statement_layer block_layer catch_layer section_layer (record { caught = caught; block = block })

-- A list with one more item.
pub greatest_grown : {A : Type 0} (depth : A → ℕ) (xs : List A) (x : A) → greatest (map depth (xs ++ x ∷ [])) ≡ max (greatest (map depth xs)) (depth x)
greatest_grown depth [] x = omega arith
greatest_grown depth (y ∷ xs) x =
    let e : greatest (map depth (xs ++ x ∷ [])) ≡ max (greatest (map depth xs)) (depth x) = greatest_grown depth xs x in
    omega (arith, e)

-- Modifiers are less deep than any tree.
pub modifiers_low : (modifiers : List Modifier) → modifiers_depth modifiers ≤ 1
modifiers_low [] = omega arith
modifiers_low (one ∷ modifiers) = omega arith
