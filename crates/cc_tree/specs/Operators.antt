-- The operators of expressions (ECMA-372, 15).
use Rattle.std.specs.Prelude.{◌≡◌, ℕ, List, [], ◌∷◌, Option, Some, None}
use Rattle.cc_tree.specs.declared.token.Token.{Token}
use Rattle.cc_tree.specs.declared.terminal.Terminal.TheVariants as t
use Rattle.cc_tree.specs.declared.terminal.ReservedWord.{ReservedWord}
use Rattle.cc_tree.specs.declared.terminal.ReservedWord.TheVariants as w
use Rattle.cc_tree.specs.declared.terminal.Sign.{Sign}
use Rattle.cc_tree.specs.declared.terminal.Sign.TheVariants as s
use Rattle.cc_tree.specs.declared.expression.AssignmentOperator.{AssignmentOperator}
use Rattle.cc_tree.specs.declared.expression.AssignmentOperator.TheVariants as a
use Rattle.cc_tree.specs.declared.expression.BinaryOperator.{BinaryOperator}
use Rattle.cc_tree.specs.declared.expression.BinaryOperator.TheVariants as b
use Rattle.cc_tree.specs.declared.expression.PrefixOperator.{PrefixOperator}
use Rattle.cc_tree.specs.declared.expression.PrefixOperator.TheVariants as p
use Rattle.cc_tree.specs.declared.expression.PostfixOperator.{PostfixOperator}
use Rattle.cc_tree.specs.declared.expression.PostfixOperator.TheVariants as x
use Rattle.cc_tree.specs.declared.expression.Selector.{Selector}
use Rattle.cc_tree.specs.declared.expression.Selector.TheVariants as l
use Rattle.cc_tree.specs.declared.expression.CastWord.{CastWord}
use Rattle.cc_tree.specs.declared.expression.CastWord.TheVariants as d
use Rattle.cc_tree.specs.Terminals.{Classified, at}

abbrev pub assignment_operator : Sign → Option AssignmentOperator
assignment_operator s.Assign = Some a.Assign
assignment_operator s.AssignSum = Some a.Add
assignment_operator s.AssignDifference = Some a.Subtract
assignment_operator s.AssignProduct = Some a.Multiply
assignment_operator s.AssignQuotient = Some a.Divide
assignment_operator s.AssignRemainder = Some a.Remainder
assignment_operator s.AssignExclusiveOr = Some a.ExclusiveOr
assignment_operator s.AssignAnd = Some a.And
assignment_operator s.AssignOr = Some a.Or
assignment_operator s.AssignShiftLeft = Some a.ShiftLeft
assignment_operator s.AssignShiftRight = Some a.ShiftRight
assignment_operator _ = None

-- the operators between two operands that are one sign
abbrev pub binary_operator : Sign → Option BinaryOperator
binary_operator s.LogicalOr = Some b.LogicalOr
binary_operator s.LogicalAnd = Some b.LogicalAnd
binary_operator s.Bar = Some b.Or
binary_operator s.Caret = Some b.ExclusiveOr
binary_operator s.Ampersand = Some b.And
binary_operator s.Equal = Some b.Equal
binary_operator s.NotEqual = Some b.NotEqual
binary_operator s.Less = Some b.Less
binary_operator s.Greater = Some b.Greater
binary_operator s.LessOrEqual = Some b.LessOrEqual
binary_operator s.GreaterOrEqual = Some b.GreaterOrEqual
binary_operator s.ShiftLeft = Some b.ShiftLeft
binary_operator s.Plus = Some b.Add
binary_operator s.Minus = Some b.Subtract
binary_operator s.Star = Some b.Multiply
binary_operator s.Slash = Some b.Divide
binary_operator s.Percent = Some b.Remainder
binary_operator _ = None

-- an operator, from the loosest, 1, to the tightest, 10
abbrev pub level : BinaryOperator → ℕ
level b.LogicalOr = 1
level b.LogicalAnd = 2
level b.Or = 3
level b.ExclusiveOr = 4
level b.And = 5
level b.Equal = 6
level b.NotEqual = 6
level b.Less = 7
level b.Greater = 7
level b.LessOrEqual = 7
level b.GreaterOrEqual = 7
level b.ShiftLeft = 8
level b.ShiftRight = 8
level b.Add = 9
level b.Subtract = 9
level b.Multiply = 10
level b.Divide = 10
level b.Remainder = 10

abbrev pub prefix_operator : Sign → Option PrefixOperator
prefix_operator s.Exclamation = Some p.Not
prefix_operator s.Tilde = Some p.Complement
prefix_operator s.Minus = Some p.Negate
prefix_operator s.Plus = Some p.Plus
prefix_operator s.Increment = Some p.Increment
prefix_operator s.Decrement = Some p.Decrement
prefix_operator s.Percent = Some p.Handle
prefix_operator _ = None

abbrev pub postfix_operator : Sign → Option PostfixOperator
postfix_operator s.Increment = Some x.Increment
postfix_operator s.Decrement = Some x.Decrement
postfix_operator _ = None

abbrev pub selector : Sign → Option Selector
selector s.Dot = Some l.Dot
selector s.Arrow = Some l.Arrow
selector _ = None

abbrev pub cast_word : ReservedWord → Option CastWord
cast_word w.SafeCast = Some d.Safe
cast_word w.StaticCast = Some d.Static
cast_word w.DynamicCast = Some d.Dynamic
cast_word _ = None

-- A shift to the right is two signs that touch.
pub data ReadsOperator : BinaryOperator → List Classified → List Classified → Type 0 where
  sign : {sign : Sign} {operator : BinaryOperator} {k : Token} {rest : List Classified}
      → binary_operator sign ≡ Some operator → ReadsOperator operator (at (t.Sign sign) k ∷ rest) rest
  shift_right : {first second : Token} {rest : List Classified}
      → first.span.past ≡ second.span.first
      → ReadsOperator b.ShiftRight (at (t.Sign s.Greater) first ∷ at (t.Sign s.Greater) second ∷ rest) rest
