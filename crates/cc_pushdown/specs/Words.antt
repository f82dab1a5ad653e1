-- What words and signs mean.
use Rattle.std.specs.Prelude.{Option, Some, None, Bool, true, false}
use Rattle.cc_base.specs.declared.text.Span.{Span}
use Rattle.cc_tree.specs.declared.member.AccessWord.{AccessWord}
use Rattle.cc_tree.specs.declared.member.AccessorWord.{AccessorWord}
use Rattle.cc_tree.specs.declared.class.AggregateWord.{AggregateWord}
use Rattle.cc_tree.specs.declared.expression.AssignmentOperator.{AssignmentOperator}
use Rattle.cc_tree.specs.declared.expression.CastWord.{CastWord}
use Rattle.cc_tree.specs.declared.class.ClassModifier.{ClassModifier}
use Rattle.cc_tree.specs.declared.class.ClassWord.{ClassWord}
use Rattle.cc_tree.specs.declared.terminal.ContextualWord.{ContextualWord}
use Rattle.cc_tree.specs.declared.unit.ParameterWord.{ParameterWord}
use Rattle.cc_tree.specs.declared.expression.PostfixOperator.{PostfixOperator}
use Rattle.cc_tree.specs.declared.expression.PrefixOperator.{PrefixOperator}
use Rattle.cc_tree.specs.declared.expression.Selector.{Selector}
use Rattle.cc_tree.specs.declared.member.Storage.{Storage}
use Rattle.cc_tree.specs.declared.terminal.Terminal.{Terminal}
use Rattle.cc_tree.specs.declared.unit.Visibility.{Visibility}
use Rattle.cc_tree.specs.declared.member.AccessWord.TheVariants as access
use Rattle.cc_tree.specs.declared.member.AccessorWord.TheVariants as accessor_word
use Rattle.cc_tree.specs.declared.class.AggregateWord.TheVariants as aggregate
use Rattle.cc_tree.specs.declared.expression.AssignmentOperator.TheVariants as assignment
use Rattle.cc_tree.specs.declared.expression.CastWord.TheVariants as casts
use Rattle.cc_tree.specs.declared.class.ClassModifier.TheVariants as class_modifier
use Rattle.cc_tree.specs.declared.class.ClassWord.TheVariants as class_word
use Rattle.cc_tree.specs.declared.terminal.ContextualWord.TheVariants as c
use Rattle.cc_tree.specs.declared.unit.ParameterWord.TheVariants as parameter
use Rattle.cc_tree.specs.declared.expression.PostfixOperator.TheVariants as postfix
use Rattle.cc_tree.specs.declared.expression.PrefixOperator.TheVariants as prefix
use Rattle.cc_tree.specs.declared.terminal.ReservedWord.TheVariants as w
use Rattle.cc_tree.specs.declared.expression.Selector.TheVariants as selects
use Rattle.cc_tree.specs.declared.terminal.Sign.TheVariants as s
use Rattle.cc_tree.specs.declared.member.Storage.TheVariants as storage
use Rattle.cc_tree.specs.declared.terminal.Terminal.TheVariants as t
use Rattle.cc_tree.specs.declared.unit.Visibility.TheVariants as visibility
use Rattle.cc_pushdown.specs.declared.value.Mark.{Mark}

abbrev pub assignment_of : Terminal → AssignmentOperator
assignment_of (t.Sign s.AssignSum) = assignment.Add
assignment_of (t.Sign s.AssignDifference) = assignment.Subtract
assignment_of (t.Sign s.AssignProduct) = assignment.Multiply
assignment_of (t.Sign s.AssignQuotient) = assignment.Divide
assignment_of (t.Sign s.AssignRemainder) = assignment.Remainder
assignment_of (t.Sign s.AssignExclusiveOr) = assignment.ExclusiveOr
assignment_of (t.Sign s.AssignAnd) = assignment.And
assignment_of (t.Sign s.AssignOr) = assignment.Or
assignment_of (t.Sign s.AssignShiftLeft) = assignment.ShiftLeft
assignment_of (t.Sign s.AssignShiftRight) = assignment.ShiftRight
assignment_of _ = assignment.Assign

abbrev pub prefix_of : Terminal → PrefixOperator
prefix_of (t.Sign s.Tilde) = prefix.Complement
prefix_of (t.Sign s.Minus) = prefix.Negate
prefix_of (t.Sign s.Plus) = prefix.Plus
prefix_of (t.Sign s.Increment) = prefix.Increment
prefix_of (t.Sign s.Decrement) = prefix.Decrement
prefix_of (t.Sign s.Percent) = prefix.Handle
prefix_of _ = prefix.Not

abbrev pub postfix_of : Terminal → PostfixOperator
postfix_of (t.Sign s.Increment) = postfix.Increment
postfix_of _ = postfix.Decrement

abbrev pub selector_of : Terminal → Selector
selector_of (t.Sign s.Dot) = selects.Dot
selector_of _ = selects.Arrow

abbrev pub cast_of : Terminal → CastWord
cast_of (t.Word w.SafeCast) = casts.Safe
cast_of (t.Word w.StaticCast) = casts.Static
cast_of _ = casts.Dynamic

abbrev pub access_of : Terminal → AccessWord
access_of (t.Word w.Public) = access.Public
access_of (t.Word w.Protected) = access.Protected
access_of _ = access.Private

abbrev pub aggregate_of : Terminal → AggregateWord
aggregate_of (t.Word w.Class) = aggregate.Class
aggregate_of _ = aggregate.Struct

abbrev pub visibility_of : Terminal → Visibility
visibility_of (t.Word w.Public) = visibility.Public
visibility_of _ = visibility.Private

abbrev pub parameter_word_of : Terminal → ParameterWord
parameter_word_of (t.Word w.Typename) = parameter.Typename
parameter_word_of _ = parameter.Class

abbrev pub class_word_of : ContextualWord → ClassWord
class_word_of c.Ref = class_word.Ref
class_word_of c.Value = class_word.Value
class_word_of _ = class_word.Interface

abbrev pub class_modifier_of : ContextualWord → ClassModifier
class_modifier_of c.Abstract = class_modifier.Abstract
class_modifier_of _ = class_modifier.Sealed

abbrev pub accessor_of : ContextualWord → AccessorWord
accessor_of c.Get = accessor_word.Get
accessor_of _ = accessor_word.Set

abbrev pub storage_word : Terminal → Storage
storage_word (t.Word w.Static) = storage.Static
storage_word _ = storage.Virtual

abbrev pub storage_of : Option Mark → Storage
storage_of None = storage.Nothing
storage_of (Some mark) = storage_word mark.terminal

abbrev pub is_static : Option Mark → Bool
is_static None = false
is_static (Some mark) = true

abbrev pub is_virtual : Option Mark → Bool
is_virtual None = false
is_virtual (Some mark) = true
