-- Which values of the terminals' enums are one.
use Rattle.std.specs.Prelude.{ℕ, Bool, nat_eq}
use Rattle.cc_tree.specs.declared.terminal.ReservedWord.{ReservedWord}
use Rattle.cc_tree.specs.declared.terminal.ReservedWord.TheVariants as w
use Rattle.cc_tree.specs.declared.terminal.Sign.{Sign}
use Rattle.cc_tree.specs.declared.terminal.Sign.TheVariants as s
use Rattle.cc_tree.specs.declared.terminal.NameKind.{NameKind}
use Rattle.cc_tree.specs.declared.terminal.NameKind.TheVariants as n
use Rattle.cc_tree.specs.declared.terminal.ContextualWord.{ContextualWord}
use Rattle.cc_tree.specs.declared.terminal.ContextualWord.TheVariants as c

abbrev pub word_number : ReservedWord → ℕ
word_number w.Bool = 0
word_number w.Break = 1
word_number w.Case = 2
word_number w.Catch = 3
word_number w.Char = 4
word_number w.Class = 5
word_number w.Continue = 6
word_number w.Default = 7
word_number w.Delete = 8
word_number w.Do = 9
word_number w.DynamicCast = 10
word_number w.Else = 11
word_number w.Enum = 12
word_number w.False = 13
word_number w.Finally = 14
word_number w.For = 15
word_number w.Gcnew = 16
word_number w.If = 17
word_number w.Int = 18
word_number w.Long = 19
word_number w.Namespace = 20
word_number w.New = 21
word_number w.Nullptr = 22
word_number w.Private = 23
word_number w.Protected = 24
word_number w.Public = 25
word_number w.Return = 26
word_number w.SafeCast = 27
word_number w.Short = 28
word_number w.Signed = 29
word_number w.Static = 30
word_number w.StaticCast = 31
word_number w.Struct = 32
word_number w.Switch = 33
word_number w.Template = 34
word_number w.This = 35
word_number w.Throw = 36
word_number w.True = 37
word_number w.Try = 38
word_number w.Typename = 39
word_number w.Unsigned = 40
word_number w.Using = 41
word_number w.Virtual = 42
word_number w.Void = 43
word_number w.WideChar = 44
word_number w.While = 45

abbrev pub same_word : ReservedWord → ReservedWord → Bool
same_word a b = nat_eq (word_number a) (word_number b)

abbrev pub sign_number : Sign → ℕ
sign_number s.OpenBrace = 0
sign_number s.CloseBrace = 1
sign_number s.OpenParenthesis = 2
sign_number s.CloseParenthesis = 3
sign_number s.OpenBracket = 4
sign_number s.CloseBracket = 5
sign_number s.Less = 6
sign_number s.Greater = 7
sign_number s.Semicolon = 8
sign_number s.Colon = 9
sign_number s.Scope = 10
sign_number s.Comma = 11
sign_number s.Dot = 12
sign_number s.Ellipsis = 13
sign_number s.Arrow = 14
sign_number s.Question = 15
sign_number s.Assign = 16
sign_number s.Equal = 17
sign_number s.NotEqual = 18
sign_number s.LessOrEqual = 19
sign_number s.GreaterOrEqual = 20
sign_number s.ShiftLeft = 21
sign_number s.Plus = 22
sign_number s.Minus = 23
sign_number s.Star = 24
sign_number s.Slash = 25
sign_number s.Percent = 26
sign_number s.Caret = 27
sign_number s.Ampersand = 28
sign_number s.Bar = 29
sign_number s.Tilde = 30
sign_number s.Exclamation = 31
sign_number s.Increment = 32
sign_number s.Decrement = 33
sign_number s.AssignSum = 34
sign_number s.AssignDifference = 35
sign_number s.AssignProduct = 36
sign_number s.AssignQuotient = 37
sign_number s.AssignRemainder = 38
sign_number s.AssignExclusiveOr = 39
sign_number s.AssignAnd = 40
sign_number s.AssignOr = 41
sign_number s.AssignShiftLeft = 42
sign_number s.AssignShiftRight = 43
sign_number s.LogicalAnd = 44
sign_number s.LogicalOr = 45

abbrev pub same_sign : Sign → Sign → Bool
same_sign a b = nat_eq (sign_number a) (sign_number b)

abbrev pub kind_number : NameKind → ℕ
kind_number n.Plain = 0
kind_number n.Function = 1
kind_number n.Type = 2

abbrev pub same_kind : NameKind → NameKind → Bool
same_kind a b = nat_eq (kind_number a) (kind_number b)

abbrev pub contextual_number : ContextualWord → ℕ
contextual_number c.Nothing = 0
contextual_number c.Abstract = 1
contextual_number c.Each = 2
contextual_number c.Get = 3
contextual_number c.In = 4
contextual_number c.Interface = 5
contextual_number c.Override = 6
contextual_number c.Property = 7
contextual_number c.Ref = 8
contextual_number c.Sealed = 9
contextual_number c.Set = 10
contextual_number c.Value = 11

abbrev pub same_contextual : ContextualWord → ContextualWord → Bool
same_contextual a b = nat_eq (contextual_number a) (contextual_number b)
