-- The table, part by part.
use Rattle.std.specs.Prelude.{List, [], ◌∷◌, Option, Some, None}
use Rattle.cc_tree.specs.declared.terminal.Terminal.TheVariants as t
use Rattle.cc_tree.specs.declared.terminal.NameKind.TheVariants as n
use Rattle.cc_tree.specs.declared.terminal.ContextualWord.TheVariants as c
use Rattle.cc_tree.specs.declared.terminal.ReservedWord.TheVariants as w
use Rattle.cc_tree.specs.declared.terminal.Sign.TheVariants as s
use Rattle.cc_tree.specs.declared.type_name.FundamentalType.TheVariants as f
use Rattle.cc_table.specs.declared.symbols.Sort.{Sort}
use Rattle.cc_table.specs.declared.symbols.Sort.TheVariants as o
use Rattle.cc_table.specs.declared.symbols.Action.TheVariants as a
use Rattle.cc_table.specs.declared.symbols.Input.TheVariants as i
use Rattle.cc_table.specs.declared.symbols.Symbol.{Symbol}
use Rattle.cc_table.specs.declared.symbols.Symbol.TheVariants.{Non, Act, Back}
use Rattle.cc_table.specs.declared.symbols.Pattern.TheVariants as p
use Rattle.cc_table.specs.declared.symbols.Spelled.TheVariants as h
use Rattle.cc_table.specs.declared.symbols.Take.TheVariants as k
use Rattle.cc_table.specs.Choice.{Row, row}

-- what a part is at some inputs
abbrev pub rows : Sort → List Row
rows o.OpenParenthesis =
    row (p.Sign s.OpenParenthesis ∷ []) k.Drop ([]) ∷
    []
rows o.CloseParenthesis =
    row (p.Sign s.CloseParenthesis ∷ []) k.Drop ([]) ∷
    []
rows o.OpenBrace =
    row (p.Sign s.OpenBrace ∷ []) k.Drop ([]) ∷
    []
rows o.OpenBracket =
    row (p.Sign s.OpenBracket ∷ []) k.Drop ([]) ∷
    []
rows o.CloseBracket =
    row (p.Sign s.CloseBracket ∷ []) k.Drop ([]) ∷
    []
rows o.CloseBrace =
    row (p.Sign s.CloseBrace ∷ []) k.Drop ([]) ∷
    []
rows o.Less =
    row (p.Sign s.Less ∷ []) k.Drop ([]) ∷
    []
rows o.Greater =
    row (p.Sign s.Greater ∷ []) k.Drop ([]) ∷
    []
rows o.Colon =
    row (p.Sign s.Colon ∷ []) k.Drop ([]) ∷
    []
rows o.Semicolon =
    row (p.Sign s.Semicolon ∷ []) k.Drop ([]) ∷
    []
rows o.Scope =
    row (p.Sign s.Scope ∷ []) k.Drop ([]) ∷
    []
rows o.NamespaceWord =
    row (p.Word w.Namespace ∷ []) k.Drop ([]) ∷
    []
rows o.WhileWord =
    row (p.Word w.While ∷ []) k.Drop ([]) ∷
    []
rows o.InWord =
    row (p.Contextual c.In ∷ []) k.Drop ([]) ∷
    []
rows o.KeptOpenParenthesis =
    row (p.Sign s.OpenParenthesis ∷ []) k.Keep ([]) ∷
    []
rows o.KeptCloseParenthesis =
    row (p.Sign s.CloseParenthesis ∷ []) k.Keep ([]) ∷
    []
rows o.KeptCloseBrace =
    row (p.Sign s.CloseBrace ∷ []) k.Keep ([]) ∷
    []
rows o.KeptCloseBracket =
    row (p.Sign s.CloseBracket ∷ []) k.Keep ([]) ∷
    []
rows o.KeptSemicolon =
    row (p.Sign s.Semicolon ∷ []) k.Keep ([]) ∷
    []
rows o.KeptColon =
    row (p.Sign s.Colon ∷ []) k.Keep ([]) ∷
    []
rows o.KeptGreater =
    row (p.Sign s.Greater ∷ []) k.Keep ([]) ∷
    []
rows o.KeptLess =
    row (p.Sign s.Less ∷ []) k.Keep ([]) ∷
    []
rows o.Identifier =
    row (p.Id h.Anyhow ∷ []) k.Keep ([]) ∷
    []
rows o.AnyName =
    row (p.AnyName ∷ []) k.Keep ([]) ∷
    []
rows o.OwnName =
    row (p.Own ∷ []) k.Keep ([]) ∷
    []
rows o.NumberToken =
    row (p.Number ∷ p.Zero ∷ []) k.Keep ([]) ∷
    []
rows o.AggregateWord =
    row (p.Word w.Class ∷ p.Word w.Struct ∷ []) k.Keep ([]) ∷
    []
rows o.AccessorWord =
    row (p.Contextual c.Get ∷ p.Contextual c.Set ∷ []) k.Keep ([]) ∷
    []
rows o.Fundamental =
    row (p.Word w.Void ∷ []) k.Keep (Act (a.Fundamental f.Void) ∷ []) ∷
    row (p.Word w.Bool ∷ []) k.Keep (Act (a.Fundamental f.Bool) ∷ []) ∷
    row (p.Word w.WideChar ∷ []) k.Keep (Act (a.Fundamental f.WideChar) ∷ []) ∷
    row (p.Word w.Int ∷ []) k.Keep (Act (a.Fundamental f.Int) ∷ []) ∷
    row (p.Word w.Short ∷ []) k.Keep (Non o.OptionalInt ∷ Act (a.Fundamental f.Short) ∷ []) ∷
    row (p.Word w.Signed ∷ []) k.Keep (Non o.SignedRest ∷ []) ∷
    row (p.Word w.Unsigned ∷ []) k.Keep (Non o.UnsignedRest ∷ []) ∷
    row (p.Word w.Long ∷ []) k.Keep (Non o.LongWord ∷ Non o.OptionalInt ∷ Act (a.Fundamental f.LongLong) ∷ []) ∷
    []
rows o.SignedRest =
    row (p.Word w.Char ∷ []) k.Keep (Act a.JoinMarks ∷ Act (a.Fundamental f.SignedChar) ∷ []) ∷
    row (p.Word w.Short ∷ []) k.Keep (Act a.JoinMarks ∷ Non o.OptionalInt ∷ Act (a.Fundamental f.Short) ∷ []) ∷
    row (p.Word w.Int ∷ []) k.Keep (Act a.JoinMarks ∷ Act (a.Fundamental f.Int) ∷ []) ∷
    row (p.Word w.Long ∷ []) k.Keep (Act a.JoinMarks ∷ Non o.LongWord ∷ Non o.OptionalInt ∷ Act (a.Fundamental f.LongLong) ∷ []) ∷
    []
rows o.UnsignedRest =
    row (p.Word w.Char ∷ []) k.Keep (Act a.JoinMarks ∷ Act (a.Fundamental f.UnsignedChar) ∷ []) ∷
    row (p.Word w.Short ∷ []) k.Keep (Act a.JoinMarks ∷ Non o.OptionalInt ∷ Act (a.Fundamental f.UnsignedShort) ∷ []) ∷
    row (p.Word w.Int ∷ []) k.Keep (Act a.JoinMarks ∷ Act (a.Fundamental f.UnsignedInt) ∷ []) ∷
    row (p.Word w.Long ∷ []) k.Keep (Act a.JoinMarks ∷ Non o.LongWord ∷ Non o.OptionalInt ∷ Act (a.Fundamental f.UnsignedLongLong) ∷ []) ∷
    []
rows o.OptionalInt =
    row (p.Word w.Int ∷ []) k.Keep (Act a.JoinMarks ∷ []) ∷
    []
rows o.LongWord =
    row (p.Word w.Long ∷ []) k.Keep (Act a.JoinMarks ∷ []) ∷
    []
rows o.Type =
    row (p.Fundamental ∷ []) k.Look (Non o.Fundamental ∷ Non o.TypeMarks ∷ []) ∷
    []
rows o.TypeMarks =
    row (p.Sign s.Caret ∷ []) k.Keep (Non o.HandleRest ∷ []) ∷
    row (p.Sign s.Percent ∷ []) k.Keep (Act a.MakeTracking ∷ []) ∷
    []
rows o.HandleRest =
    row (p.Sign s.Percent ∷ []) k.Keep (Act a.MakeHandleTracking ∷ []) ∷
    []
rows o.NamedType =
    row (p.Name n.Type ∷ []) k.Keep (Act a.StartPath ∷ Non o.TemplateArguments ∷ []) ∷
    row (p.Id h.Anyhow ∷ []) k.Keep (Act a.StartPath ∷ Non o.Scope ∷ Act a.AddToPath ∷ Non o.TypePath ∷ []) ∷
    []
rows o.TypePath =
    row (p.Name n.Type ∷ []) k.Keep (Act a.EndPath ∷ Non o.TemplateArguments ∷ []) ∷
    row (p.Id h.Anyhow ∷ []) k.Keep (Act a.EndPath ∷ Non o.Scope ∷ Act a.AddToPath ∷ Non o.TypePath ∷ []) ∷
    []
rows o.TemplateArguments =
    row (p.Sign s.Less ∷ []) k.Keep (Act a.StartTypes ∷ Non o.Type ∷ Act a.AddType ∷ Non o.MoreTypes ∷ Non o.KeptGreater ∷ Act a.MakeApplied ∷ []) ∷
    []
rows o.MoreTypes =
    row (p.Sign s.Comma ∷ []) k.Drop (Non o.Type ∷ Act a.AddType ∷ Non o.MoreTypes ∷ []) ∷
    []
rows o.TypeOrName =
    row (p.Fundamental ∷ []) k.Look (Non o.Fundamental ∷ Non o.CoreEnd ∷ []) ∷
    row (p.Name n.Type ∷ []) k.Keep (Act a.StartPath ∷ Non o.TemplateArguments ∷ Non o.CoreEnd ∷ []) ∷
    row (p.Name n.Plain ∷ []) k.Keep (Act a.StartPath ∷ Non o.NameEnd ∷ []) ∷
    row (p.Name n.Function ∷ []) k.Keep (Act a.StartPath ∷ Non o.FunctionNameEnd ∷ []) ∷
    []
rows o.NameEnd =
    row (p.Sign s.Scope ∷ []) k.Drop (Act a.AddToPath ∷ Non o.PathRest ∷ []) ∷
    []
rows o.FunctionNameEnd =
    row (p.Sign s.Scope ∷ []) k.Drop (Act a.AddToPath ∷ Non o.PathRest ∷ []) ∷
    []
rows o.PathRest =
    row (p.Name n.Type ∷ []) k.Keep (Act a.EndPath ∷ Non o.TemplateArguments ∷ Non o.CoreEnd ∷ []) ∷
    row (p.Name n.Plain ∷ []) k.Keep (Act a.EndPath ∷ Non o.NameEnd ∷ []) ∷
    row (p.Name n.Function ∷ []) k.Keep (Act a.EndPath ∷ Non o.FunctionNameEnd ∷ []) ∷
    []
rows o.CoreEnd =
    row (p.Sign s.Scope ∷ p.Sign s.OpenParenthesis ∷ []) k.Look (Back i.OperandType ∷ []) ∷
    []
rows o.AfterUnary =
    row (p.Assignment ∷ []) k.Keep (Non o.Expression ∷ Act a.MakeAssignment ∷ []) ∷
    []
rows o.ConditionalRest =
    row (p.Sign s.Question ∷ []) k.Drop (Non o.Expression ∷ Non o.Colon ∷ Non o.Expression ∷ Act a.MakeConditional ∷ []) ∷
    []
rows o.GreaterEnd =
    row (p.TouchingGreater ∷ []) k.Keep (Act a.JoinMarks ∷ Back i.ShiftRight ∷ []) ∷
    []
rows o.Unary =
    row (p.Prefix ∷ []) k.Keep (Non o.Unary ∷ Act a.MakePrefix ∷ []) ∷
    row (p.Sign s.OpenParenthesis ∷ []) k.Keep (Non o.AfterParenthesis ∷ []) ∷
    row (p.TypeOrName ∷ []) k.Look (Non o.TypeOrName ∷ Non o.Operand ∷ Non o.SuffixRest ∷ []) ∷
    row (p.QualifiedPlain ∷ p.QualifiedFunction ∷ p.OperandType ∷ []) k.Look (Non o.Operand ∷ Non o.SuffixRest ∷ []) ∷
    row (p.Number ∷ p.Zero ∷ []) k.Keep (Act a.MakeNumber ∷ Non o.SuffixRest ∷ []) ∷
    row (p.Character ∷ []) k.Keep (Act a.MakeCharacter ∷ Non o.SuffixRest ∷ []) ∷
    row (p.Literal ∷ []) k.Keep (Act a.StartTexts ∷ Non o.StringsRest ∷ Act a.MakeStrings ∷ Non o.SuffixRest ∷ []) ∷
    row (p.Word w.True ∷ []) k.Keep (Act a.MakeTrue ∷ Non o.SuffixRest ∷ []) ∷
    row (p.Word w.False ∷ []) k.Keep (Act a.MakeFalse ∷ Non o.SuffixRest ∷ []) ∷
    row (p.Word w.Nullptr ∷ []) k.Keep (Act a.MakeNullptr ∷ Non o.SuffixRest ∷ []) ∷
    row (p.Word w.This ∷ []) k.Keep (Act a.MakeThis ∷ Non o.SuffixRest ∷ []) ∷
    row (p.Word w.Gcnew ∷ []) k.Keep (Non o.NewName ∷ Non o.SuffixRest ∷ []) ∷
    row (p.Word w.SafeCast ∷ p.Word w.StaticCast ∷ p.Word w.DynamicCast ∷ []) k.Keep (Non o.Less ∷ Non o.Type ∷ Non o.Greater ∷ Non o.OpenParenthesis ∷ Non o.Expression ∷ Non o.KeptCloseParenthesis ∷ Act a.MakeNamedCast ∷ Non o.SuffixRest ∷ []) ∷
    []
rows o.Operand =
    row (p.QualifiedPlain ∷ []) k.Keep (Act a.MakeName ∷ []) ∷
    row (p.QualifiedFunction ∷ []) k.Keep (Non o.FunctionNameRest ∷ []) ∷
    row (p.OperandType ∷ []) k.Keep (Non o.TypeOperandRest ∷ []) ∷
    []
rows o.TypeOperandRest =
    row (p.Sign s.Scope ∷ []) k.Drop (Non o.Identifier ∷ Act a.MakeStaticMember ∷ []) ∷
    row (p.Sign s.OpenParenthesis ∷ []) k.Keep (Act a.StartExpressions ∷ Non o.Arguments ∷ Act a.MakeArguments ∷ Non o.KeptCloseParenthesis ∷ Act a.MakeConstruct ∷ []) ∷
    []
rows o.FunctionNameRest =
    row (p.Sign s.Less ∷ []) k.Keep (Non o.AfterNameLess ∷ []) ∷
    []
rows o.AfterNameLess =
    row (p.TypeOrName ∷ []) k.Look (Non o.TypeOrName ∷ Non o.NameTypes ∷ []) ∷
    []
rows o.NameTypes =
    row (p.CoreType ∷ []) k.Keep (Non o.TypeMarks ∷ Act a.FirstType ∷ Non o.MoreTypes ∷ Non o.KeptGreater ∷ Act a.MakeTypeArguments ∷ Act a.MakeNameOf ∷ []) ∷
    []
rows o.StringsRest =
    row (p.Literal ∷ []) k.Keep (Act a.AddText ∷ Non o.StringsRest ∷ []) ∷
    []
rows o.AfterParenthesis =
    row (p.TypeOrName ∷ []) k.Look (Non o.TypeOrName ∷ Non o.CastOrGroup ∷ []) ∷
    []
rows o.CastOrGroup =
    row (p.CoreType ∷ []) k.Keep (Non o.TypeMarks ∷ Non o.CloseParenthesis ∷ Non o.Unary ∷ Act a.MakeCast ∷ []) ∷
    []
rows o.SuffixRest =
    row (p.Sign s.OpenBracket ∷ []) k.Drop (Non o.Expression ∷ Non o.KeptCloseBracket ∷ Act a.MakeIndex ∷ Non o.SuffixRest ∷ []) ∷
    row (p.Sign s.OpenParenthesis ∷ []) k.Keep (Act a.StartExpressions ∷ Non o.Arguments ∷ Act a.MakeArguments ∷ Non o.KeptCloseParenthesis ∷ Act a.MakeCall ∷ Non o.SuffixRest ∷ []) ∷
    row (p.Sign s.Dot ∷ p.Sign s.Arrow ∷ []) k.Keep (Non o.Selected ∷ Non o.SuffixRest ∷ []) ∷
    row (p.Sign s.Increment ∷ p.Sign s.Decrement ∷ []) k.Keep (Act a.MakePostfix ∷ Non o.SuffixRest ∷ []) ∷
    []
rows o.Selected =
    row (p.Name n.Plain ∷ []) k.Keep (Act a.MakeMember ∷ []) ∷
    row (p.Name n.Function ∷ []) k.Keep (Non o.FunctionMemberRest ∷ []) ∷
    row (p.Sign s.Exclamation ∷ []) k.Drop (Non o.AnyName ∷ Act a.MakeFinaliserName ∷ []) ∷
    []
rows o.FunctionMemberRest =
    row (p.Sign s.Less ∷ []) k.Keep (Non o.AfterMemberLess ∷ []) ∷
    []
rows o.AfterMemberLess =
    row (p.TypeOrName ∷ []) k.Look (Non o.TypeOrName ∷ Non o.MemberTypes ∷ []) ∷
    []
rows o.MemberTypes =
    row (p.CoreType ∷ []) k.Keep (Non o.TypeMarks ∷ Act a.FirstType ∷ Non o.MoreTypes ∷ Non o.KeptGreater ∷ Act a.MakeTypeArguments ∷ Act a.MakeMemberOf ∷ []) ∷
    []
rows o.Arguments =
    row (p.Sign s.CloseParenthesis ∷ []) k.Look ([]) ∷
    row (p.Sign s.CloseBrace ∷ []) k.Look ([]) ∷
    []
rows o.MoreExpressions =
    row (p.Sign s.Comma ∷ []) k.Drop (Non o.Expression ∷ Act a.AddExpression ∷ Non o.MoreExpressions ∷ []) ∷
    []
rows o.NewName =
    row (p.Name n.Type ∷ []) k.Keep (Act a.StartPath ∷ Non o.NewTypeRest ∷ []) ∷
    row (p.Id h.Anyhow ∷ []) k.Keep (Act a.StartPath ∷ Non o.Scope ∷ Act a.AddToPath ∷ Non o.NewPath ∷ []) ∷
    []
rows o.NewPath =
    row (p.Name n.Type ∷ []) k.Keep (Act a.EndPath ∷ Non o.NewTypeRest ∷ []) ∷
    row (p.Id h.Anyhow ∷ []) k.Keep (Act a.EndPath ∷ Non o.Scope ∷ Act a.AddToPath ∷ Non o.NewPath ∷ []) ∷
    []
rows o.NewTypeRest =
    row (p.Sign s.Less ∷ []) k.Keep (Non o.AfterNewLess ∷ []) ∷
    []
rows o.AfterNewLess =
    row (p.TypeOrName ∷ []) k.Look (Non o.TypeOrName ∷ Non o.NewTypes ∷ []) ∷
    []
rows o.NewTypes =
    row (p.CoreType ∷ []) k.Keep (Non o.TypeMarks ∷ Act a.FirstType ∷ Non o.MoreTypes ∷ Non o.KeptGreater ∷ Act a.MakeApplied ∷ Non o.NewArguments ∷ []) ∷
    []
rows o.NewArguments =
    row (p.Sign s.OpenParenthesis ∷ []) k.Keep (Act a.StartExpressions ∷ Non o.Arguments ∷ Act a.MakeArguments ∷ Non o.KeptCloseParenthesis ∷ Non o.NewElements ∷ []) ∷
    row (p.Sign s.OpenBrace ∷ []) k.Keep (Act a.StartExpressions ∷ Non o.Arguments ∷ Act a.MakeArguments ∷ Non o.KeptCloseBrace ∷ Act a.MakeNewOf ∷ []) ∷
    []
rows o.NewElements =
    row (p.Sign s.OpenBrace ∷ []) k.Keep (Act a.StartExpressions ∷ Non o.Arguments ∷ Act a.MakeArguments ∷ Non o.KeptCloseBrace ∷ Act a.MakeNewWithOf ∷ []) ∷
    []
rows o.Statement =
    row (p.Sign s.OpenBrace ∷ []) k.Look (Non o.Block ∷ Act a.MakeBlockStatement ∷ []) ∷
    row (p.Sign s.Semicolon ∷ []) k.Keep (Act a.MakeEmpty ∷ []) ∷
    row (p.Word w.Delete ∷ []) k.Keep (Non o.Expression ∷ Non o.KeptSemicolon ∷ Act a.MakeDelete ∷ []) ∷
    row (p.Word w.If ∷ []) k.Keep (Non o.OpenParenthesis ∷ Non o.Expression ∷ Non o.CloseParenthesis ∷ Non o.Statement ∷ Non o.ElseRest ∷ []) ∷
    row (p.Word w.While ∷ []) k.Keep (Non o.OpenParenthesis ∷ Non o.Expression ∷ Non o.CloseParenthesis ∷ Non o.Statement ∷ Act a.MakeWhile ∷ []) ∷
    row (p.Word w.Do ∷ []) k.Keep (Non o.Statement ∷ Non o.WhileWord ∷ Non o.OpenParenthesis ∷ Non o.Expression ∷ Non o.CloseParenthesis ∷ Non o.KeptSemicolon ∷ Act a.MakeDo ∷ []) ∷
    row (p.Word w.For ∷ []) k.Keep (Non o.ForRest ∷ []) ∷
    row (p.Word w.Switch ∷ []) k.Keep (Non o.OpenParenthesis ∷ Non o.Expression ∷ Non o.CloseParenthesis ∷ Non o.OpenBrace ∷ Act a.StartSections ∷ Non o.Sections ∷ Non o.KeptCloseBrace ∷ Act a.MakeSwitch ∷ []) ∷
    row (p.Word w.Break ∷ []) k.Keep (Non o.KeptSemicolon ∷ Act a.MakeBreak ∷ []) ∷
    row (p.Word w.Continue ∷ []) k.Keep (Non o.KeptSemicolon ∷ Act a.MakeContinue ∷ []) ∷
    row (p.Word w.Return ∷ []) k.Keep (Non o.OptionalExpression ∷ Act a.MakeReturn ∷ []) ∷
    row (p.Word w.Throw ∷ []) k.Keep (Non o.OptionalExpression ∷ Act a.MakeThrow ∷ []) ∷
    row (p.Word w.Try ∷ []) k.Keep (Non o.Block ∷ Act a.StartCatches ∷ Non o.TryRest ∷ []) ∷
    row (p.TypeOrName ∷ []) k.Look (Non o.TypeOrName ∷ Non o.LocalOrExpression ∷ []) ∷
    []
rows o.LocalOrExpression =
    row (p.CoreType ∷ []) k.Keep (Non o.TypeMarks ∷ Act a.StartDeclarators ∷ Non o.Declarator ∷ Act a.AddDeclarator ∷ Non o.MoreDeclarators ∷ Act a.MakeLocal ∷ Non o.KeptSemicolon ∷ Act a.MakeLocalStatement ∷ []) ∷
    []
rows o.Block =
    row (p.Sign s.OpenBrace ∷ []) k.Keep (Act a.StartStatements ∷ Non o.Statements ∷ Non o.KeptCloseBrace ∷ Act a.MakeBlock ∷ []) ∷
    []
rows o.Statements =
    row (p.Sign s.CloseBrace ∷ []) k.Look ([]) ∷
    []
rows o.ElseRest =
    row (p.Word w.Else ∷ []) k.Drop (Non o.Statement ∷ Act a.MakeIfElse ∷ []) ∷
    []
rows o.ForRest =
    row (p.Sign s.OpenParenthesis ∷ []) k.Drop (Non o.ForStart ∷ Non o.OptionalExpression ∷ Non o.ForAdvance ∷ Non o.Statement ∷ Act a.MakeFor ∷ []) ∷
    row (p.Contextual c.Each ∷ []) k.Drop (Non o.OpenParenthesis ∷ Non o.Type ∷ Non o.Identifier ∷ Non o.InWord ∷ Non o.Expression ∷ Non o.CloseParenthesis ∷ Non o.Statement ∷ Act a.MakeForEach ∷ []) ∷
    []
rows o.ForStart =
    row (p.Sign s.Semicolon ∷ []) k.Drop (Act a.StartNothing ∷ []) ∷
    row (p.TypeOrName ∷ []) k.Look (Non o.TypeOrName ∷ Non o.LocalOrExpressionStart ∷ []) ∷
    []
rows o.LocalOrExpressionStart =
    row (p.CoreType ∷ []) k.Keep (Non o.TypeMarks ∷ Act a.StartDeclarators ∷ Non o.Declarator ∷ Act a.AddDeclarator ∷ Non o.MoreDeclarators ∷ Act a.MakeLocal ∷ Non o.Semicolon ∷ Act a.StartLocal ∷ []) ∷
    []
rows o.OptionalExpression =
    row (p.Sign s.Semicolon ∷ []) k.Keep (Act a.NoExpression ∷ []) ∷
    []
rows o.ForAdvance =
    row (p.Sign s.CloseParenthesis ∷ []) k.Keep (Act a.NoExpression ∷ []) ∷
    []
rows o.Sections =
    row (p.Sign s.CloseBrace ∷ []) k.Look ([]) ∷
    []
rows o.Label =
    row (p.Word w.Case ∷ []) k.Keep (Non o.Expression ∷ Non o.KeptColon ∷ Act a.MakeCase ∷ []) ∷
    row (p.Word w.Default ∷ []) k.Keep (Non o.KeptColon ∷ Act a.MakeDefault ∷ []) ∷
    []
rows o.MoreLabels =
    row (p.Word w.Case ∷ p.Word w.Default ∷ []) k.Look (Non o.Label ∷ Act a.AddLabel ∷ Non o.MoreLabels ∷ []) ∷
    []
rows o.SectionStatements =
    row (p.Word w.Case ∷ p.Word w.Default ∷ p.Sign s.CloseBrace ∷ []) k.Look ([]) ∷
    []
rows o.TryRest =
    row (p.Word w.Catch ∷ []) k.Look (Non o.Catch ∷ Non o.MoreCatches ∷ []) ∷
    row (p.Word w.Finally ∷ []) k.Drop (Non o.Block ∷ Act a.MakeTryFinally ∷ []) ∷
    []
rows o.MoreCatches =
    row (p.Word w.Catch ∷ []) k.Look (Non o.Catch ∷ Non o.MoreCatches ∷ []) ∷
    row (p.Word w.Finally ∷ []) k.Drop (Non o.Block ∷ Act a.MakeTryFinally ∷ []) ∷
    []
rows o.Catch =
    row (p.Word w.Catch ∷ []) k.Drop (Non o.OpenParenthesis ∷ Non o.Caught ∷ Non o.CloseParenthesis ∷ Non o.Block ∷ Act a.AddCatch ∷ []) ∷
    []
rows o.Caught =
    row (p.Sign s.Ellipsis ∷ []) k.Keep (Act a.CatchAll ∷ []) ∷
    []
rows o.CaughtName =
    row (p.Id h.Anyhow ∷ []) k.Keep (Act a.CatchNamed ∷ []) ∷
    []
rows o.Declarator =
    row (p.Id h.Anyhow ∷ []) k.Keep (Non o.DeclaratorRest ∷ []) ∷
    []
rows o.DeclaratorRest =
    row (p.Sign s.Assign ∷ []) k.Drop (Non o.DeclaratorValue ∷ []) ∷
    row (p.Sign s.OpenParenthesis ∷ []) k.Drop (Act a.StartExpressions ∷ Non o.Expression ∷ Act a.AddExpression ∷ Non o.MoreExpressions ∷ Non o.KeptCloseParenthesis ∷ Act a.MakeDeclaratorArguments ∷ []) ∷
    []
rows o.DeclaratorValue =
    row (p.Sign s.OpenBrace ∷ []) k.Keep (Act a.StartExpressions ∷ Non o.Arguments ∷ Act a.MakeArguments ∷ Non o.KeptCloseBrace ∷ Act a.MakeDeclaratorElements ∷ []) ∷
    []
rows o.MoreDeclarators =
    row (p.Sign s.Comma ∷ []) k.Drop (Non o.Declarator ∷ Act a.AddDeclarator ∷ Non o.MoreDeclarators ∷ []) ∷
    []
rows o.Parameters =
    row (p.Sign s.CloseParenthesis ∷ []) k.Look ([]) ∷
    []
rows o.ParameterName =
    row (p.Id h.Anyhow ∷ []) k.Keep (Act a.AddNamedParameter ∷ []) ∷
    []
rows o.MoreParameters =
    row (p.Sign s.Comma ∷ []) k.Drop (Non o.Type ∷ Non o.ParameterName ∷ Non o.MoreParameters ∷ []) ∷
    []
rows o.Modifiers =
    row (p.Contextual c.Abstract ∷ p.Contextual c.Override ∷ p.Contextual c.Sealed ∷ p.Word w.New ∷ []) k.Keep (Act a.AddModifier ∷ Non o.Modifiers ∷ []) ∷
    []
rows o.Overriding =
    row (p.Sign s.Assign ∷ []) k.Drop (Non o.Overridden ∷ []) ∷
    []
rows o.Overridden =
    row (p.Zero ∷ []) k.Keep (Act a.MakePure ∷ []) ∷
    []
rows o.NamedAccessor =
    row (p.Sign s.Scope ∷ []) k.Drop (Non o.AccessorWord ∷ Act a.MakeNamedAccessor ∷ []) ∷
    []
rows o.MoreNamedFunctions =
    row (p.Sign s.Comma ∷ []) k.Drop (Non o.NamedFunction ∷ Act a.AddNamedFunction ∷ Non o.MoreNamedFunctions ∷ []) ∷
    []
rows o.Body =
    row (p.Sign s.Semicolon ∷ []) k.Keep (Act a.NoBody ∷ []) ∷
    []
rows o.Accessor =
    row (p.Word w.Virtual ∷ []) k.Keep (Non o.Type ∷ Non o.AccessorWord ∷ Non o.KeptOpenParenthesis ∷ Act a.StartParameters ∷ Non o.Parameters ∷ Act a.MakeParameters ∷ Non o.CloseParenthesis ∷ Act a.StartModifiers ∷ Non o.Modifiers ∷ Non o.Overriding ∷ Non o.Body ∷ Act a.MakeAccessor ∷ []) ∷
    []
rows o.Accessors =
    row (p.Sign s.CloseBrace ∷ []) k.Look ([]) ∷
    []
rows o.Initializers =
    row (p.Sign s.Colon ∷ []) k.Drop (Act a.StartInitializers ∷ Non o.Initializer ∷ Act a.AddInitializer ∷ Non o.MoreInitializers ∷ []) ∷
    []
rows o.MoreInitializers =
    row (p.Sign s.Comma ∷ []) k.Drop (Non o.Initializer ∷ Act a.AddInitializer ∷ Non o.MoreInitializers ∷ []) ∷
    []
rows o.Initializer =
    row (p.Name n.Type ∷ []) k.Keep (Act a.StartPath ∷ Non o.TemplateArguments ∷ Non o.KeptOpenParenthesis ∷ Act a.StartExpressions ∷ Non o.Arguments ∷ Act a.MakeArguments ∷ Non o.KeptCloseParenthesis ∷ Act a.MakeBaseInitializer ∷ []) ∷
    row (p.Id h.Anyhow ∷ []) k.Keep (Non o.InitializerName ∷ []) ∷
    []
rows o.InitializerName =
    row (p.Sign s.OpenParenthesis ∷ []) k.Keep (Act a.StartExpressions ∷ Non o.Arguments ∷ Act a.MakeArguments ∷ Non o.KeptCloseParenthesis ∷ Act a.MakeMemberInitializer ∷ []) ∷
    row (p.Sign s.Scope ∷ []) k.Drop (Act a.StartPath ∷ Act a.AddToPath ∷ Non o.TypePath ∷ Non o.KeptOpenParenthesis ∷ Act a.StartExpressions ∷ Non o.Arguments ∷ Act a.MakeArguments ∷ Non o.KeptCloseParenthesis ∷ Act a.MakeBaseInitializer ∷ []) ∷
    []
rows o.Member =
    row (p.Word w.Public ∷ p.Word w.Protected ∷ p.Word w.Private ∷ []) k.Keep (Non o.KeptColon ∷ Act a.MakeAccess ∷ []) ∷
    row (p.Word w.Static ∷ []) k.Keep (Non o.TypeOrProperty ∷ Non o.StaticMember ∷ []) ∷
    row (p.Word w.Virtual ∷ []) k.Keep (Non o.VirtualStart ∷ []) ∷
    []
rows o.VirtualStart =
    row (p.Sign s.Tilde ∷ []) k.Keep (Non o.OwnName ∷ Non o.OpenParenthesis ∷ Non o.CloseParenthesis ∷ Non o.Block ∷ Act a.MakeDestructor ∷ []) ∷
    []
rows o.MemberStart =
    row (p.OwnType h.NotProperty ∷ []) k.Keep (Non o.OwnTypeEnd ∷ Non o.MemberRest ∷ []) ∷
    row (p.OwnId h.NotProperty ∷ []) k.Keep (Non o.OwnNamespaceEnd ∷ Non o.MemberRest ∷ []) ∷
    row (p.OwnType h.Property ∷ []) k.Keep (Non o.OwnPropertyTypeEnd ∷ Non o.MemberRest ∷ []) ∷
    row (p.OwnId h.Property ∷ []) k.Keep (Non o.OwnPropertyNamespaceEnd ∷ Non o.MemberRest ∷ []) ∷
    row (p.Sign s.Tilde ∷ []) k.Keep (Non o.OwnName ∷ Non o.OpenParenthesis ∷ Non o.CloseParenthesis ∷ Non o.Block ∷ Act a.MakeDestructor ∷ []) ∷
    row (p.Sign s.Exclamation ∷ []) k.Keep (Non o.OwnName ∷ Non o.OpenParenthesis ∷ Non o.CloseParenthesis ∷ Non o.Block ∷ Act a.MakeFinaliser ∷ []) ∷
    []
rows o.OwnTypeEnd =
    row (p.Sign s.OpenParenthesis ∷ []) k.Look (Back i.ConstructorName ∷ []) ∷
    []
rows o.OwnNamespaceEnd =
    row (p.Sign s.OpenParenthesis ∷ []) k.Look (Back i.ConstructorName ∷ []) ∷
    row (p.Sign s.Scope ∷ []) k.Drop (Act a.StartPath ∷ Act a.AddToPath ∷ Non o.TypePath ∷ Back i.CoreType ∷ []) ∷
    []
rows o.OwnPropertyTypeEnd =
    row (p.Sign s.OpenParenthesis ∷ []) k.Look (Back i.ConstructorName ∷ []) ∷
    []
rows o.OwnPropertyNamespaceEnd =
    row (p.Sign s.OpenParenthesis ∷ []) k.Look (Back i.ConstructorName ∷ []) ∷
    []
rows o.TypeOrProperty =
    row (p.Fundamental ∷ []) k.Look (Non o.Fundamental ∷ Back i.CoreType ∷ []) ∷
    row (p.Type h.NotProperty ∷ []) k.Keep (Act a.StartPath ∷ Non o.TemplateArguments ∷ Back i.CoreType ∷ []) ∷
    row (p.Id h.NotProperty ∷ []) k.Keep (Act a.StartPath ∷ Non o.Scope ∷ Act a.AddToPath ∷ Non o.TypePath ∷ Back i.CoreType ∷ []) ∷
    row (p.Type h.Property ∷ []) k.Keep (Non o.PropertyOrType ∷ []) ∷
    row (p.Id h.Property ∷ []) k.Keep (Non o.PropertyOrNamespace ∷ []) ∷
    []
rows o.PropertyOrType =
    row (p.Fundamental ∷ p.Name n.Type ∷ []) k.Look (Non o.Type ∷ Act a.MakePropertyType ∷ Back i.PropertyType ∷ []) ∷
    row (p.Id h.Anyhow ∷ []) k.Keep (Non o.PropertyTypeOrName ∷ []) ∷
    []
rows o.PropertyTypeOrName =
    row (p.Sign s.Scope ∷ []) k.Drop (Act a.StartPath ∷ Act a.AddToPath ∷ Non o.TypePath ∷ Non o.TypeMarks ∷ Act a.MakePropertyType ∷ Back i.PropertyType ∷ []) ∷
    []
rows o.PropertyOrNamespace =
    row (p.Sign s.Scope ∷ []) k.Drop (Act a.StartPath ∷ Act a.AddToPath ∷ Non o.TypePath ∷ Back i.CoreType ∷ []) ∷
    []
rows o.MemberRest =
    row (p.CoreType ∷ []) k.Keep (Non o.TypeMarks ∷ Non o.MemberName ∷ []) ∷
    row (p.PropertyType ∷ []) k.Keep (Non o.PropertyName ∷ Non o.PropertyBody ∷ []) ∷
    row (p.ConstructorName ∷ []) k.Keep (Non o.KeptOpenParenthesis ∷ Act a.StartParameters ∷ Non o.Parameters ∷ Act a.MakeParameters ∷ Non o.CloseParenthesis ∷ Non o.Initializers ∷ Non o.Block ∷ Act a.MakeConstructor ∷ []) ∷
    []
rows o.StaticMember =
    row (p.CoreType ∷ []) k.Keep (Non o.TypeMarks ∷ Non o.MemberName ∷ []) ∷
    row (p.PropertyType ∷ []) k.Keep (Non o.PropertyName ∷ Non o.PropertyBody ∷ []) ∷
    []
rows o.VirtualMember =
    row (p.CoreType ∷ []) k.Keep (Non o.TypeMarks ∷ Non o.VirtualName ∷ Non o.KeptOpenParenthesis ∷ Act a.StartParameters ∷ Non o.Parameters ∷ Act a.MakeParameters ∷ Non o.CloseParenthesis ∷ Act a.StartModifiers ∷ Non o.Modifiers ∷ Non o.Overriding ∷ Non o.Body ∷ Act a.MakeFunctionMember ∷ []) ∷
    row (p.PropertyType ∷ []) k.Keep (Non o.PropertyName ∷ Non o.PropertyBody ∷ []) ∷
    []
rows o.MemberName =
    row (p.Id h.Anyhow ∷ p.DeclaredName ∷ []) k.Keep (Non o.FieldsOrFunction ∷ []) ∷
    []
rows o.VirtualName =
    row (p.Id h.Anyhow ∷ p.DeclaredName ∷ []) k.Keep ([]) ∷
    []
rows o.FieldsOrFunction =
    row (p.Sign s.OpenParenthesis ∷ []) k.Look (Non o.KeptOpenParenthesis ∷ Act a.StartParameters ∷ Non o.Parameters ∷ Act a.MakeParameters ∷ Non o.CloseParenthesis ∷ Act a.StartModifiers ∷ Non o.Modifiers ∷ Non o.Overriding ∷ Non o.Body ∷ Act a.MakeFunctionMember ∷ []) ∷
    []
rows o.FieldNames =
    row (p.Sign s.Comma ∷ []) k.Drop (Non o.Identifier ∷ Act a.AddName ∷ Non o.FieldNames ∷ []) ∷
    []
rows o.PropertyName =
    row (p.Id h.Anyhow ∷ []) k.Keep (Act a.NameProperty ∷ []) ∷
    row (p.Word w.Default ∷ []) k.Keep (Non o.OpenBracket ∷ Non o.Type ∷ Non o.CloseBracket ∷ Act a.IndexProperty ∷ []) ∷
    []
rows o.PropertyBody =
    row (p.Sign s.Semicolon ∷ []) k.Keep (Act a.MakeTrivialProperty ∷ []) ∷
    row (p.Sign s.OpenBrace ∷ []) k.Drop (Act a.StartAccessors ∷ Non o.Accessor ∷ Act a.AddAccessor ∷ Non o.Accessors ∷ Non o.KeptCloseBrace ∷ Act a.MakeProperty ∷ []) ∷
    []
rows o.Members =
    row (p.Sign s.CloseBrace ∷ []) k.Look ([]) ∷
    []
rows o.UnitRest =
    row (p.Any ∷ []) k.Look (Non o.Outer ∷ Act a.AddOuter ∷ Non o.UnitRest ∷ []) ∷
    []
rows o.Outers =
    row (p.Sign s.CloseBrace ∷ []) k.Look ([]) ∷
    []
rows o.Outer =
    row (p.Word w.Using ∷ []) k.Keep (Non o.NamespaceWord ∷ Non o.Identifier ∷ Act a.FirstName ∷ Non o.NamespaceNames ∷ Non o.KeptSemicolon ∷ Act a.MakeUsing ∷ []) ∷
    row (p.Word w.Namespace ∷ []) k.Keep (Non o.Identifier ∷ Non o.OpenBrace ∷ Act a.StartOuters ∷ Non o.Outers ∷ Non o.KeptCloseBrace ∷ Act a.MakeNamespace ∷ []) ∷
    row (p.Word w.Public ∷ p.Word w.Private ∷ []) k.Keep (Non o.VisibleRest ∷ []) ∷
    row (p.Word w.Enum ∷ []) k.Look (Non o.Enumeration ∷ Act a.MakeOuterEnumeration ∷ []) ∷
    row (p.Word w.Template ∷ []) k.Keep (Non o.Less ∷ Act a.StartTemplateParameters ∷ Non o.TemplateParameter ∷ Act a.AddTemplateParameter ∷ Non o.MoreTemplateParameters ∷ Non o.Greater ∷ Non o.TemplateRest ∷ []) ∷
    row (p.Id h.Key ∷ []) k.Keep (Non o.KeyOrNamespace ∷ []) ∷
    row (p.Type h.Key ∷ []) k.Keep (Non o.KeyOrType ∷ []) ∷
    []
rows o.NamespaceNames =
    row (p.Sign s.Scope ∷ []) k.Drop (Non o.Identifier ∷ Act a.AddName ∷ Non o.NamespaceNames ∷ []) ∷
    []
rows o.KeyOrNamespace =
    row (p.Word w.Class ∷ p.Word w.Struct ∷ []) k.Keep (Act a.MakeKey ∷ Non o.AnyName ∷ Non o.ForwardOrClass ∷ []) ∷
    row (p.Sign s.Scope ∷ []) k.Drop (Act a.StartPath ∷ Act a.AddToPath ∷ Non o.TypePath ∷ Non o.TypeMarks ∷ Non o.FunctionRest ∷ Act a.MakeOuterFunction ∷ []) ∷
    []
rows o.KeyOrType =
    row (p.Word w.Class ∷ p.Word w.Struct ∷ []) k.Keep (Act a.MakeKey ∷ Non o.AnyName ∷ Non o.ForwardOrClass ∷ []) ∷
    []
rows o.ForwardOrClass =
    row (p.Sign s.Semicolon ∷ []) k.Keep (Act a.MakeForward ∷ []) ∷
    []
rows o.ClassModifiers =
    row (p.Contextual c.Abstract ∷ p.Contextual c.Sealed ∷ []) k.Keep (Act a.AddClassModifier ∷ Non o.ClassModifiers ∷ []) ∷
    []
rows o.Bases =
    row (p.Sign s.Colon ∷ []) k.Drop (Act a.StartBases ∷ Non o.Base ∷ Act a.AddBase ∷ Non o.MoreBases ∷ []) ∷
    []
rows o.Base =
    row (p.Word w.Public ∷ []) k.Keep (Non o.NamedType ∷ Act a.MakePublicBase ∷ []) ∷
    []
rows o.MoreBases =
    row (p.Sign s.Comma ∷ []) k.Drop (Non o.Base ∷ Act a.AddBase ∷ Non o.MoreBases ∷ []) ∷
    []
rows o.VisibleRest =
    row (p.Id h.Key ∷ p.Type h.Key ∷ []) k.Keep (Non o.AggregateWord ∷ Act a.MakeKey ∷ Non o.AnyName ∷ Non o.ClassRest ∷ Act a.MakeVisibleClass ∷ []) ∷
    row (p.Word w.Enum ∷ []) k.Look (Non o.Enumeration ∷ Act a.MakeVisibleEnumeration ∷ []) ∷
    []
rows o.TemplateRest =
    row (p.Id h.Key ∷ []) k.Keep (Non o.TemplateKeyOrNamespace ∷ []) ∷
    row (p.Type h.Key ∷ []) k.Keep (Non o.TemplateKeyOrType ∷ []) ∷
    []
rows o.TemplateKeyOrNamespace =
    row (p.Word w.Class ∷ p.Word w.Struct ∷ []) k.Keep (Act a.MakeKey ∷ Non o.AnyName ∷ Non o.ClassRest ∷ Act a.MakeTemplateClass ∷ Act a.MakeOuterTemplate ∷ []) ∷
    row (p.Sign s.Scope ∷ []) k.Drop (Act a.StartPath ∷ Act a.AddToPath ∷ Non o.TypePath ∷ Non o.TypeMarks ∷ Non o.FunctionRest ∷ Act a.MakeTemplateFunction ∷ Act a.MakeOuterTemplate ∷ []) ∷
    []
rows o.TemplateKeyOrType =
    row (p.Word w.Class ∷ p.Word w.Struct ∷ []) k.Keep (Act a.MakeKey ∷ Non o.AnyName ∷ Non o.ClassRest ∷ Act a.MakeTemplateClass ∷ Act a.MakeOuterTemplate ∷ []) ∷
    []
rows o.Enumeration =
    row (p.Word w.Enum ∷ []) k.Keep (Non o.AggregateWord ∷ Non o.AnyName ∷ Non o.OpenBrace ∷ Act a.StartEnumerators ∷ Non o.Enumerators ∷ Non o.CloseBrace ∷ Non o.KeptSemicolon ∷ Act a.MakeEnumeration ∷ []) ∷
    []
rows o.Enumerators =
    row (p.Sign s.CloseBrace ∷ []) k.Look ([]) ∷
    []
rows o.MoreEnumerators =
    row (p.Sign s.Comma ∷ []) k.Drop (Non o.Enumerators ∷ []) ∷
    []
rows o.Enumerator =
    row (p.Id h.Anyhow ∷ []) k.Keep (Non o.EnumeratorRest ∷ []) ∷
    []
rows o.EnumeratorRest =
    row (p.Sign s.Assign ∷ []) k.Drop (Non o.EnumeratorNumber ∷ []) ∷
    []
rows o.EnumeratorNumber =
    row (p.Sign s.Minus ∷ []) k.Keep (Non o.NumberToken ∷ Act a.MakeEnumeratorNegative ∷ []) ∷
    row (p.Number ∷ p.Zero ∷ []) k.Keep (Act a.MakeEnumeratorValue ∷ []) ∷
    []
rows o.TemplateParameter =
    row (p.Word w.Typename ∷ p.Word w.Class ∷ []) k.Keep (Non o.AnyName ∷ Act a.MakeTemplateParameter ∷ []) ∷
    []
rows o.MoreTemplateParameters =
    row (p.Sign s.Comma ∷ []) k.Drop (Non o.TemplateParameter ∷ Act a.AddTemplateParameter ∷ Non o.MoreTemplateParameters ∷ []) ∷
    []
rows _ = []

-- what it is at each other input, and at the end
abbrev pub otherwise : Sort → Option (List Symbol)
otherwise o.UnsignedRest = Some (Act (a.Fundamental f.UnsignedInt) ∷ [])
otherwise o.OptionalInt = Some ([])
otherwise o.Type = Some (Non o.NamedType ∷ Non o.TypeMarks ∷ [])
otherwise o.TypeMarks = Some ([])
otherwise o.HandleRest = Some (Act a.MakeHandle ∷ [])
otherwise o.TemplateArguments = Some (Act a.MakeNamed ∷ [])
otherwise o.MoreTypes = Some ([])
otherwise o.NameEnd = Some (Back i.QualifiedPlain ∷ [])
otherwise o.FunctionNameEnd = Some (Back i.QualifiedFunction ∷ [])
otherwise o.CoreEnd = Some (Back i.CoreType ∷ [])
otherwise o.Expression = Some (Non o.Unary ∷ Non o.AfterUnary ∷ [])
otherwise o.AfterUnary = Some (Non (o.BinaryRest 1) ∷ Non o.ConditionalRest ∷ [])
otherwise o.ConditionalRest = Some ([])
otherwise (o.BinaryRest level) = Some ([])
otherwise o.GreaterEnd = Some (Back i.RelationalGreater ∷ [])
otherwise o.FunctionNameRest = Some (Act a.MakeName ∷ [])
otherwise o.AfterNameLess = Some (Back (i.Token (t.Sign s.Less)) ∷ Act a.MakeName ∷ [])
otherwise o.NameTypes = Some (Back (i.Token (t.Sign s.Less)) ∷ Act a.MakeName ∷ [])
otherwise o.StringsRest = Some ([])
otherwise o.AfterParenthesis = Some (Non o.Expression ∷ Non o.KeptCloseParenthesis ∷ Act a.MakeGroup ∷ Non o.SuffixRest ∷ [])
otherwise o.CastOrGroup = Some (Non o.Expression ∷ Non o.KeptCloseParenthesis ∷ Act a.MakeGroup ∷ Non o.SuffixRest ∷ [])
otherwise o.SuffixRest = Some ([])
otherwise o.FunctionMemberRest = Some (Act a.MakeMember ∷ [])
otherwise o.AfterMemberLess = Some (Back (i.Token (t.Sign s.Less)) ∷ Act a.MakeMember ∷ [])
otherwise o.MemberTypes = Some (Back (i.Token (t.Sign s.Less)) ∷ Act a.MakeMember ∷ [])
otherwise o.Arguments = Some (Non o.Expression ∷ Act a.AddExpression ∷ Non o.MoreExpressions ∷ [])
otherwise o.MoreExpressions = Some ([])
otherwise o.NewTypeRest = Some (Act a.MakeNamed ∷ Non o.NewArguments ∷ [])
otherwise o.AfterNewLess = Some (Back (i.Token (t.Sign s.Less)) ∷ Act a.MakeNamed ∷ Act a.MakeNew ∷ [])
otherwise o.NewTypes = Some (Back (i.Token (t.Sign s.Less)) ∷ Act a.MakeNamed ∷ Act a.MakeNew ∷ [])
otherwise o.NewArguments = Some (Act a.MakeNew ∷ [])
otherwise o.NewElements = Some (Act a.MakeNewWith ∷ [])
otherwise o.Statement = Some (Non o.Expression ∷ Non o.KeptSemicolon ∷ Act a.MakeExpressionStatement ∷ [])
otherwise o.LocalOrExpression = Some (Non o.Expression ∷ Non o.KeptSemicolon ∷ Act a.MakeExpressionStatement ∷ [])
otherwise o.Statements = Some (Non o.Statement ∷ Act a.AddStatement ∷ Non o.Statements ∷ [])
otherwise o.ElseRest = Some (Act a.MakeIf ∷ [])
otherwise o.ForStart = Some (Non o.Expression ∷ Non o.Semicolon ∷ Act a.StartExpression ∷ [])
otherwise o.LocalOrExpressionStart = Some (Non o.Expression ∷ Non o.Semicolon ∷ Act a.StartExpression ∷ [])
otherwise o.OptionalExpression = Some (Non o.Expression ∷ Non o.KeptSemicolon ∷ Act a.SomeExpression ∷ [])
otherwise o.ForAdvance = Some (Non o.Expression ∷ Non o.KeptCloseParenthesis ∷ Act a.SomeExpression ∷ [])
otherwise o.Sections = Some (Act a.StartLabels ∷ Non o.Label ∷ Act a.AddLabel ∷ Non o.MoreLabels ∷ Act a.StartStatements ∷ Non o.SectionStatements ∷ Act a.AddSection ∷ Non o.Sections ∷ [])
otherwise o.MoreLabels = Some ([])
otherwise o.SectionStatements = Some (Non o.Statement ∷ Act a.AddStatement ∷ Non o.SectionStatements ∷ [])
otherwise o.MoreCatches = Some (Act a.MakeTry ∷ [])
otherwise o.Caught = Some (Non o.Type ∷ Non o.CaughtName ∷ [])
otherwise o.CaughtName = Some (Act a.CatchTyped ∷ [])
otherwise o.DeclaratorRest = Some (Act a.MakeDeclarator ∷ [])
otherwise o.DeclaratorValue = Some (Non o.Expression ∷ Act a.MakeDeclaratorValue ∷ [])
otherwise o.MoreDeclarators = Some ([])
otherwise o.Parameters = Some (Non o.Type ∷ Non o.ParameterName ∷ Non o.MoreParameters ∷ [])
otherwise o.ParameterName = Some (Act a.AddParameter ∷ [])
otherwise o.MoreParameters = Some ([])
otherwise o.Modifiers = Some ([])
otherwise o.Overriding = Some (Act a.NotOverridden ∷ [])
otherwise o.Overridden = Some (Act a.StartNamedFunctions ∷ Non o.NamedFunction ∷ Act a.AddNamedFunction ∷ Non o.MoreNamedFunctions ∷ Act a.MakeOverridden ∷ [])
otherwise o.NamedFunction = Some (Non o.NamedType ∷ Non o.Scope ∷ Non o.Identifier ∷ Non o.NamedAccessor ∷ [])
otherwise o.NamedAccessor = Some (Act a.MakeNamedFunction ∷ [])
otherwise o.MoreNamedFunctions = Some ([])
otherwise o.Body = Some (Non o.Block ∷ Act a.SomeBody ∷ [])
otherwise o.Accessor = Some (Act a.NoStorage ∷ Non o.Type ∷ Non o.AccessorWord ∷ Non o.KeptOpenParenthesis ∷ Act a.StartParameters ∷ Non o.Parameters ∷ Act a.MakeParameters ∷ Non o.CloseParenthesis ∷ Act a.StartModifiers ∷ Non o.Modifiers ∷ Non o.Overriding ∷ Non o.Body ∷ Act a.MakeAccessor ∷ [])
otherwise o.Accessors = Some (Non o.Accessor ∷ Act a.AddAccessor ∷ Non o.Accessors ∷ [])
otherwise o.Initializers = Some (Act a.StartInitializers ∷ [])
otherwise o.MoreInitializers = Some ([])
otherwise o.Member = Some (Act a.NoStorage ∷ Non o.MemberStart ∷ [])
otherwise o.VirtualStart = Some (Non o.TypeOrProperty ∷ Non o.VirtualMember ∷ [])
otherwise o.MemberStart = Some (Non o.TypeOrProperty ∷ Non o.MemberRest ∷ [])
otherwise o.OwnTypeEnd = Some (Act a.StartPath ∷ Non o.TemplateArguments ∷ Back i.CoreType ∷ [])
otherwise o.OwnPropertyTypeEnd = Some (Non o.PropertyOrType ∷ [])
otherwise o.OwnPropertyNamespaceEnd = Some (Non o.PropertyOrNamespace ∷ [])
otherwise o.PropertyOrType = Some (Act a.StartPath ∷ Non o.TemplateArguments ∷ Back i.CoreType ∷ [])
otherwise o.PropertyTypeOrName = Some (Back i.DeclaredName ∷ Act a.StartPath ∷ Act a.MakeNamed ∷ Back i.CoreType ∷ [])
otherwise o.PropertyOrNamespace = Some (Non o.Type ∷ Act a.MakePropertyType ∷ Back i.PropertyType ∷ [])
otherwise o.FieldsOrFunction = Some (Act a.FirstName ∷ Non o.FieldNames ∷ Non o.KeptSemicolon ∷ Act a.MakeFields ∷ [])
otherwise o.FieldNames = Some ([])
otherwise o.Members = Some (Non o.Member ∷ Act a.AddMember ∷ Non o.Members ∷ [])
otherwise o.UnitRest = Some ([])
otherwise o.Outers = Some (Non o.Outer ∷ Act a.AddOuter ∷ Non o.Outers ∷ [])
otherwise o.Outer = Some (Non o.Type ∷ Non o.FunctionRest ∷ Act a.MakeOuterFunction ∷ [])
otherwise o.NamespaceNames = Some ([])
otherwise o.FunctionRest = Some (Non o.Identifier ∷ Non o.KeptOpenParenthesis ∷ Act a.StartParameters ∷ Non o.Parameters ∷ Act a.MakeParameters ∷ Non o.CloseParenthesis ∷ Non o.Body ∷ Act a.MakeFunction ∷ [])
otherwise o.KeyOrType = Some (Act a.StartPath ∷ Non o.TemplateArguments ∷ Non o.TypeMarks ∷ Non o.FunctionRest ∷ Act a.MakeOuterFunction ∷ [])
otherwise o.ForwardOrClass = Some (Non o.ClassRest ∷ Act a.MakeOuterClass ∷ [])
otherwise o.ClassRest = Some (Act a.StartClassModifiers ∷ Non o.ClassModifiers ∷ Non o.Bases ∷ Act a.MakeHead ∷ Non o.OpenBrace ∷ Act a.StartMembers ∷ Non o.Members ∷ Non o.CloseBrace ∷ Non o.KeptSemicolon ∷ Act a.MakeClass ∷ [])
otherwise o.ClassModifiers = Some ([])
otherwise o.Bases = Some (Act a.StartBases ∷ [])
otherwise o.Base = Some (Non o.NamedType ∷ Act a.MakeBase ∷ [])
otherwise o.MoreBases = Some ([])
otherwise o.TemplateRest = Some (Non o.Type ∷ Non o.FunctionRest ∷ Act a.MakeTemplateFunction ∷ Act a.MakeOuterTemplate ∷ [])
otherwise o.TemplateKeyOrType = Some (Act a.StartPath ∷ Non o.TemplateArguments ∷ Non o.TypeMarks ∷ Non o.FunctionRest ∷ Act a.MakeTemplateFunction ∷ Act a.MakeOuterTemplate ∷ [])
otherwise o.Enumerators = Some (Non o.Enumerator ∷ Act a.AddEnumerator ∷ Non o.MoreEnumerators ∷ [])
otherwise o.MoreEnumerators = Some ([])
otherwise o.EnumeratorRest = Some (Act a.MakeEnumerator ∷ [])
otherwise o.MoreTemplateParameters = Some ([])
otherwise _ = None
