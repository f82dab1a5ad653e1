-- Backwards over a step at each part.
use Rattle.std.proofs.Common.{List, [], ◌∷◌}
use Rattle.cc_table.specs.declared.symbols.Sort.{Sort}
use Rattle.cc_table.specs.declared.symbols.Sort.TheVariants as o
use Rattle.cc_table.specs.declared.symbols.Input.{Input}
use Rattle.cc_table.specs.declared.symbols.Symbol.{Symbol}
use Rattle.cc_table.specs.declared.symbols.Symbol.TheVariants.{Non}
use Rattle.cc_table.specs.Table.{otherwise}
use Rattle.cc_pushdown.specs.declared.value.Value.{Value}
use Rattle.cc_pushdown.specs.Machine.{Fed, fed, At, lack, step}
use Rattle.cc_grammar_laws.proofs.Means.{Meaning}
use Rattle.cc_grammar_laws.proofs.BackClasses.{back_ForwardOrClass, end_ForwardOrClass, back_ClassRest, end_ClassRest, back_ClassModifiers, end_ClassModifiers, back_Bases, end_Bases, back_Base, end_Base, back_MoreBases, end_MoreBases, back_VisibleRest, end_VisibleRest}
use Rattle.cc_grammar_laws.proofs.BackDeclarators.{back_Declarator, end_Declarator, back_DeclaratorRest, end_DeclaratorRest, back_DeclaratorValue, end_DeclaratorValue, back_MoreDeclarators, end_MoreDeclarators}
use Rattle.cc_grammar_laws.proofs.BackEnumerations.{back_AggregateWord, end_AggregateWord, back_Enumeration, end_Enumeration, back_Enumerators, end_Enumerators, back_MoreEnumerators, end_MoreEnumerators, back_Enumerator, end_Enumerator, back_EnumeratorRest, end_EnumeratorRest, back_EnumeratorNumber, end_EnumeratorNumber}
use Rattle.cc_grammar_laws.proofs.BackExpressionNames.{back_TypeOrName, end_TypeOrName, back_NameEnd, end_NameEnd, back_FunctionNameEnd, end_FunctionNameEnd, back_PathRest, end_PathRest, back_CoreEnd, end_CoreEnd}
use Rattle.cc_grammar_laws.proofs.BackExpressionNews.{back_NewName, end_NewName, back_NewPath, end_NewPath, back_NewTypeRest, end_NewTypeRest, back_AfterNewLess, end_AfterNewLess, back_NewTypes, end_NewTypes, back_NewArguments, end_NewArguments, back_NewElements, end_NewElements}
use Rattle.cc_grammar_laws.proofs.BackExpressionOperands.{back_Unary, end_Unary, back_Operand, end_Operand, back_TypeOperandRest, end_TypeOperandRest, back_FunctionNameRest, end_FunctionNameRest, back_AfterNameLess, end_AfterNameLess, back_NameTypes, end_NameTypes, back_AfterParenthesis, end_AfterParenthesis, back_CastOrGroup, end_CastOrGroup}
use Rattle.cc_grammar_laws.proofs.BackExpressionOperators.{back_Expression, end_Expression, back_AfterUnary, end_AfterUnary, back_ConditionalRest, end_ConditionalRest, back_BinaryRest, end_BinaryRest, back_GreaterEnd, end_GreaterEnd, Claim}
use Rattle.cc_grammar_laws.proofs.BackExpressionSuffixes.{back_Arguments, end_Arguments, back_MoreExpressions, end_MoreExpressions, back_StringsRest, end_StringsRest, back_SuffixRest, end_SuffixRest, back_Selected, end_Selected, back_FunctionMemberRest, end_FunctionMemberRest, back_AfterMemberLess, end_AfterMemberLess, back_MemberTypes, end_MemberTypes}
use Rattle.cc_grammar_laws.proofs.BackFunctions.{back_Parameters, end_Parameters, back_ParameterName, end_ParameterName, back_MoreParameters, end_MoreParameters, back_Modifiers, end_Modifiers, back_Overriding, end_Overriding, back_Overridden, end_Overridden, back_NamedFunction, end_NamedFunction, back_NamedAccessor, end_NamedAccessor, back_MoreNamedFunctions, end_MoreNamedFunctions, back_Body, end_Body, back_AccessorWord, end_AccessorWord, back_Accessor, end_Accessor, back_Accessors, end_Accessors, back_Initializers, end_Initializers, back_MoreInitializers, end_MoreInitializers, back_Initializer, end_Initializer, back_InitializerName, end_InitializerName}
use Rattle.cc_grammar_laws.proofs.BackMembers.{back_TypeOrProperty, end_TypeOrProperty, back_PropertyOrType, end_PropertyOrType, back_PropertyTypeOrName, end_PropertyTypeOrName, back_PropertyOrNamespace, end_PropertyOrNamespace, back_OwnTypeEnd, end_OwnTypeEnd, back_OwnNamespaceEnd, end_OwnNamespaceEnd, back_OwnPropertyTypeEnd, end_OwnPropertyTypeEnd, back_OwnPropertyNamespaceEnd, end_OwnPropertyNamespaceEnd, back_OwnName, end_OwnName, back_VirtualStart, end_VirtualStart, back_MemberStart, end_MemberStart, back_Member, end_Member, back_Members, end_Members, back_MemberRest, end_MemberRest, back_StaticMember, end_StaticMember, back_VirtualMember, end_VirtualMember, back_MemberName, end_MemberName, back_VirtualName, end_VirtualName, back_FieldsOrFunction, end_FieldsOrFunction, back_FieldNames, end_FieldNames, back_PropertyName, end_PropertyName, back_PropertyBody, end_PropertyBody}
use Rattle.cc_grammar_laws.proofs.BackOuters.{back_UnitRest, end_UnitRest, back_Outers, end_Outers, back_Outer, end_Outer, back_NamespaceNames, end_NamespaceNames, back_FunctionRest, end_FunctionRest}
use Rattle.cc_grammar_laws.proofs.BackSections.{back_Sections, end_Sections, back_Label, end_Label, back_MoreLabels, end_MoreLabels, back_TryRest, end_TryRest, back_MoreCatches, end_MoreCatches, back_Catch, end_Catch, back_Caught, end_Caught, back_CaughtName, end_CaughtName}
use Rattle.cc_grammar_laws.proofs.BackStatements.{back_Statement, end_Statement, back_LocalOrExpression, end_LocalOrExpression, back_Block, end_Block, back_Statements, end_Statements, back_SectionStatements, end_SectionStatements, back_ElseRest, end_ElseRest, back_ForRest, end_ForRest, back_ForStart, end_ForStart, back_LocalOrExpressionStart, end_LocalOrExpressionStart, back_OptionalExpression, end_OptionalExpression, back_ForAdvance, end_ForAdvance}
use Rattle.cc_grammar_laws.proofs.BackTemplates.{back_KeyOrNamespace, end_KeyOrNamespace, back_KeyOrType, end_KeyOrType, back_TemplateRest, end_TemplateRest, back_TemplateKeyOrNamespace, end_TemplateKeyOrNamespace, back_TemplateKeyOrType, end_TemplateKeyOrType, back_TemplateParameter, end_TemplateParameter, back_MoreTemplateParameters, end_MoreTemplateParameters}
use Rattle.cc_grammar_laws.proofs.BackTypes.{back_LongWord, end_LongWord, back_Fundamental, end_Fundamental, back_SignedRest, end_SignedRest, back_UnsignedRest, end_UnsignedRest, back_OptionalInt, end_OptionalInt, back_Type, end_Type, back_TypeMarks, end_TypeMarks, back_HandleRest, end_HandleRest, back_NamedType, end_NamedType, back_TypePath, end_TypePath, back_TemplateArguments, end_TemplateArguments, back_MoreTypes, end_MoreTypes}
use Rattle.cc_grammar_laws.proofs.BackWords.{back_OpenParenthesis, end_OpenParenthesis, back_CloseParenthesis, end_CloseParenthesis, back_OpenBrace, end_OpenBrace, back_OpenBracket, end_OpenBracket, back_CloseBracket, end_CloseBracket, back_CloseBrace, end_CloseBrace, back_Less, end_Less, back_Greater, end_Greater, back_Colon, end_Colon, back_Semicolon, end_Semicolon, back_Scope, end_Scope, back_NamespaceWord, end_NamespaceWord, back_WhileWord, end_WhileWord, back_KeptOpenParenthesis, end_KeptOpenParenthesis, back_KeptCloseParenthesis, end_KeptCloseParenthesis, back_KeptCloseBrace, end_KeptCloseBrace, back_KeptCloseBracket, end_KeptCloseBracket, back_KeptSemicolon, end_KeptSemicolon, back_KeptColon, end_KeptColon, back_KeptLess, end_KeptLess, back_KeptGreater, end_KeptGreater, back_InWord, end_InWord, back_Identifier, end_Identifier, back_AnyName, end_AnyName, back_NumberToken, end_NumberToken}

module _ (last : List Value) where
  -- at an input
  pub back_sort : (sort : Sort) (more : List Symbol) (vs : List Value) (input : Input) (value : Value) (fs : List Fed) → Claim (step (At (Non sort ∷ more) vs (fed input value ∷ fs))) → Meaning last (step (At (Non sort ∷ more) vs (fed input value ∷ fs)))
      → Meaning last (At (Non sort ∷ more) vs (fed input value ∷ fs))
  back_sort o.OpenParenthesis more vs input value fs c e = back_OpenParenthesis last more vs input value fs e
  back_sort o.CloseParenthesis more vs input value fs c e = back_CloseParenthesis last more vs input value fs e
  back_sort o.OpenBrace more vs input value fs c e = back_OpenBrace last more vs input value fs e
  back_sort o.OpenBracket more vs input value fs c e = back_OpenBracket last more vs input value fs e
  back_sort o.CloseBracket more vs input value fs c e = back_CloseBracket last more vs input value fs e
  back_sort o.CloseBrace more vs input value fs c e = back_CloseBrace last more vs input value fs e
  back_sort o.Less more vs input value fs c e = back_Less last more vs input value fs e
  back_sort o.Greater more vs input value fs c e = back_Greater last more vs input value fs e
  back_sort o.Colon more vs input value fs c e = back_Colon last more vs input value fs e
  back_sort o.Semicolon more vs input value fs c e = back_Semicolon last more vs input value fs e
  back_sort o.Scope more vs input value fs c e = back_Scope last more vs input value fs e
  back_sort o.NamespaceWord more vs input value fs c e = back_NamespaceWord last more vs input value fs e
  back_sort o.WhileWord more vs input value fs c e = back_WhileWord last more vs input value fs e
  back_sort o.InWord more vs input value fs c e = back_InWord last more vs input value fs e
  back_sort o.KeptOpenParenthesis more vs input value fs c e = back_KeptOpenParenthesis last more vs input value fs e
  back_sort o.KeptCloseParenthesis more vs input value fs c e = back_KeptCloseParenthesis last more vs input value fs e
  back_sort o.KeptCloseBrace more vs input value fs c e = back_KeptCloseBrace last more vs input value fs e
  back_sort o.KeptCloseBracket more vs input value fs c e = back_KeptCloseBracket last more vs input value fs e
  back_sort o.KeptSemicolon more vs input value fs c e = back_KeptSemicolon last more vs input value fs e
  back_sort o.KeptColon more vs input value fs c e = back_KeptColon last more vs input value fs e
  back_sort o.KeptGreater more vs input value fs c e = back_KeptGreater last more vs input value fs e
  back_sort o.KeptLess more vs input value fs c e = back_KeptLess last more vs input value fs e
  back_sort o.Identifier more vs input value fs c e = back_Identifier last more vs input value fs e
  back_sort o.AnyName more vs input value fs c e = back_AnyName last more vs input value fs e
  back_sort o.OwnName more vs input value fs c e = back_OwnName last more vs input value fs e
  back_sort o.NumberToken more vs input value fs c e = back_NumberToken last more vs input value fs e
  back_sort o.AggregateWord more vs input value fs c e = back_AggregateWord last more vs input value fs e
  back_sort o.AccessorWord more vs input value fs c e = back_AccessorWord last more vs input value fs e
  back_sort o.Fundamental more vs input value fs c e = back_Fundamental last more vs input value fs e
  back_sort o.SignedRest more vs input value fs c e = back_SignedRest last more vs input value fs e
  back_sort o.UnsignedRest more vs input value fs c e = back_UnsignedRest last more vs input value fs e
  back_sort o.OptionalInt more vs input value fs c e = back_OptionalInt last more vs input value fs e
  back_sort o.LongWord more vs input value fs c e = back_LongWord last more vs input value fs e
  back_sort o.Type more vs input value fs c e = back_Type last more vs input value fs e
  back_sort o.TypeMarks more vs input value fs c e = back_TypeMarks last more vs input value fs e
  back_sort o.HandleRest more vs input value fs c e = back_HandleRest last more vs input value fs e
  back_sort o.NamedType more vs input value fs c e = back_NamedType last more vs input value fs e
  back_sort o.TypePath more vs input value fs c e = back_TypePath last more vs input value fs e
  back_sort o.TemplateArguments more vs input value fs c e = back_TemplateArguments last more vs input value fs e
  back_sort o.MoreTypes more vs input value fs c e = back_MoreTypes last more vs input value fs e
  back_sort o.TypeOrName more vs input value fs c e = back_TypeOrName last more vs input value fs e
  back_sort o.NameEnd more vs input value fs c e = back_NameEnd last more vs input value fs e
  back_sort o.FunctionNameEnd more vs input value fs c e = back_FunctionNameEnd last more vs input value fs e
  back_sort o.PathRest more vs input value fs c e = back_PathRest last more vs input value fs e
  back_sort o.CoreEnd more vs input value fs c e = back_CoreEnd last more vs input value fs e
  back_sort o.Expression more vs input value fs c e = back_Expression last more vs input value fs e
  back_sort o.AfterUnary more vs input value fs c e = back_AfterUnary last more vs input value fs e
  back_sort o.ConditionalRest more vs input value fs c e = back_ConditionalRest last more vs input value fs e
  back_sort (o.BinaryRest n) more vs input value fs c e = back_BinaryRest last n more vs input value fs c e
  back_sort o.GreaterEnd more vs input value fs c e = back_GreaterEnd last more vs input value fs e
  back_sort o.Unary more vs input value fs c e = back_Unary last more vs input value fs e
  back_sort o.Operand more vs input value fs c e = back_Operand last more vs input value fs e
  back_sort o.TypeOperandRest more vs input value fs c e = back_TypeOperandRest last more vs input value fs e
  back_sort o.FunctionNameRest more vs input value fs c e = back_FunctionNameRest last more vs input value fs e
  back_sort o.AfterNameLess more vs input value fs c e = back_AfterNameLess last more vs input value fs e
  back_sort o.NameTypes more vs input value fs c e = back_NameTypes last more vs input value fs e
  back_sort o.StringsRest more vs input value fs c e = back_StringsRest last more vs input value fs e
  back_sort o.AfterParenthesis more vs input value fs c e = back_AfterParenthesis last more vs input value fs e
  back_sort o.CastOrGroup more vs input value fs c e = back_CastOrGroup last more vs input value fs e
  back_sort o.SuffixRest more vs input value fs c e = back_SuffixRest last more vs input value fs e
  back_sort o.Selected more vs input value fs c e = back_Selected last more vs input value fs e
  back_sort o.FunctionMemberRest more vs input value fs c e = back_FunctionMemberRest last more vs input value fs e
  back_sort o.AfterMemberLess more vs input value fs c e = back_AfterMemberLess last more vs input value fs e
  back_sort o.MemberTypes more vs input value fs c e = back_MemberTypes last more vs input value fs e
  back_sort o.Arguments more vs input value fs c e = back_Arguments last more vs input value fs e
  back_sort o.MoreExpressions more vs input value fs c e = back_MoreExpressions last more vs input value fs e
  back_sort o.NewName more vs input value fs c e = back_NewName last more vs input value fs e
  back_sort o.NewPath more vs input value fs c e = back_NewPath last more vs input value fs e
  back_sort o.NewTypeRest more vs input value fs c e = back_NewTypeRest last more vs input value fs e
  back_sort o.AfterNewLess more vs input value fs c e = back_AfterNewLess last more vs input value fs e
  back_sort o.NewTypes more vs input value fs c e = back_NewTypes last more vs input value fs e
  back_sort o.NewArguments more vs input value fs c e = back_NewArguments last more vs input value fs e
  back_sort o.NewElements more vs input value fs c e = back_NewElements last more vs input value fs e
  back_sort o.Statement more vs input value fs c e = back_Statement last more vs input value fs e
  back_sort o.LocalOrExpression more vs input value fs c e = back_LocalOrExpression last more vs input value fs e
  back_sort o.Block more vs input value fs c e = back_Block last more vs input value fs e
  back_sort o.Statements more vs input value fs c e = back_Statements last more vs input value fs e
  back_sort o.ElseRest more vs input value fs c e = back_ElseRest last more vs input value fs e
  back_sort o.ForRest more vs input value fs c e = back_ForRest last more vs input value fs e
  back_sort o.ForStart more vs input value fs c e = back_ForStart last more vs input value fs e
  back_sort o.LocalOrExpressionStart more vs input value fs c e = back_LocalOrExpressionStart last more vs input value fs e
  back_sort o.OptionalExpression more vs input value fs c e = back_OptionalExpression last more vs input value fs e
  back_sort o.ForAdvance more vs input value fs c e = back_ForAdvance last more vs input value fs e
  back_sort o.Sections more vs input value fs c e = back_Sections last more vs input value fs e
  back_sort o.Label more vs input value fs c e = back_Label last more vs input value fs e
  back_sort o.MoreLabels more vs input value fs c e = back_MoreLabels last more vs input value fs e
  back_sort o.SectionStatements more vs input value fs c e = back_SectionStatements last more vs input value fs e
  back_sort o.TryRest more vs input value fs c e = back_TryRest last more vs input value fs e
  back_sort o.MoreCatches more vs input value fs c e = back_MoreCatches last more vs input value fs e
  back_sort o.Catch more vs input value fs c e = back_Catch last more vs input value fs e
  back_sort o.Caught more vs input value fs c e = back_Caught last more vs input value fs e
  back_sort o.CaughtName more vs input value fs c e = back_CaughtName last more vs input value fs e
  back_sort o.Declarator more vs input value fs c e = back_Declarator last more vs input value fs e
  back_sort o.DeclaratorRest more vs input value fs c e = back_DeclaratorRest last more vs input value fs e
  back_sort o.DeclaratorValue more vs input value fs c e = back_DeclaratorValue last more vs input value fs e
  back_sort o.MoreDeclarators more vs input value fs c e = back_MoreDeclarators last more vs input value fs e
  back_sort o.Parameters more vs input value fs c e = back_Parameters last more vs input value fs e
  back_sort o.ParameterName more vs input value fs c e = back_ParameterName last more vs input value fs e
  back_sort o.MoreParameters more vs input value fs c e = back_MoreParameters last more vs input value fs e
  back_sort o.Modifiers more vs input value fs c e = back_Modifiers last more vs input value fs e
  back_sort o.Overriding more vs input value fs c e = back_Overriding last more vs input value fs e
  back_sort o.Overridden more vs input value fs c e = back_Overridden last more vs input value fs e
  back_sort o.NamedFunction more vs input value fs c e = back_NamedFunction last more vs input value fs e
  back_sort o.NamedAccessor more vs input value fs c e = back_NamedAccessor last more vs input value fs e
  back_sort o.MoreNamedFunctions more vs input value fs c e = back_MoreNamedFunctions last more vs input value fs e
  back_sort o.Body more vs input value fs c e = back_Body last more vs input value fs e
  back_sort o.Accessor more vs input value fs c e = back_Accessor last more vs input value fs e
  back_sort o.Accessors more vs input value fs c e = back_Accessors last more vs input value fs e
  back_sort o.Initializers more vs input value fs c e = back_Initializers last more vs input value fs e
  back_sort o.MoreInitializers more vs input value fs c e = back_MoreInitializers last more vs input value fs e
  back_sort o.Initializer more vs input value fs c e = back_Initializer last more vs input value fs e
  back_sort o.InitializerName more vs input value fs c e = back_InitializerName last more vs input value fs e
  back_sort o.Member more vs input value fs c e = back_Member last more vs input value fs e
  back_sort o.VirtualStart more vs input value fs c e = back_VirtualStart last more vs input value fs e
  back_sort o.MemberStart more vs input value fs c e = back_MemberStart last more vs input value fs e
  back_sort o.OwnTypeEnd more vs input value fs c e = back_OwnTypeEnd last more vs input value fs e
  back_sort o.OwnNamespaceEnd more vs input value fs c e = back_OwnNamespaceEnd last more vs input value fs e
  back_sort o.OwnPropertyTypeEnd more vs input value fs c e = back_OwnPropertyTypeEnd last more vs input value fs e
  back_sort o.OwnPropertyNamespaceEnd more vs input value fs c e = back_OwnPropertyNamespaceEnd last more vs input value fs e
  back_sort o.TypeOrProperty more vs input value fs c e = back_TypeOrProperty last more vs input value fs e
  back_sort o.PropertyOrType more vs input value fs c e = back_PropertyOrType last more vs input value fs e
  back_sort o.PropertyTypeOrName more vs input value fs c e = back_PropertyTypeOrName last more vs input value fs e
  back_sort o.PropertyOrNamespace more vs input value fs c e = back_PropertyOrNamespace last more vs input value fs e
  back_sort o.MemberRest more vs input value fs c e = back_MemberRest last more vs input value fs e
  back_sort o.StaticMember more vs input value fs c e = back_StaticMember last more vs input value fs e
  back_sort o.VirtualMember more vs input value fs c e = back_VirtualMember last more vs input value fs e
  back_sort o.MemberName more vs input value fs c e = back_MemberName last more vs input value fs e
  back_sort o.VirtualName more vs input value fs c e = back_VirtualName last more vs input value fs e
  back_sort o.FieldsOrFunction more vs input value fs c e = back_FieldsOrFunction last more vs input value fs e
  back_sort o.FieldNames more vs input value fs c e = back_FieldNames last more vs input value fs e
  back_sort o.PropertyName more vs input value fs c e = back_PropertyName last more vs input value fs e
  back_sort o.PropertyBody more vs input value fs c e = back_PropertyBody last more vs input value fs e
  back_sort o.Members more vs input value fs c e = back_Members last more vs input value fs e
  back_sort o.UnitRest more vs input value fs c e = back_UnitRest last more vs input value fs e
  back_sort o.Outers more vs input value fs c e = back_Outers last more vs input value fs e
  back_sort o.Outer more vs input value fs c e = back_Outer last more vs input value fs e
  back_sort o.NamespaceNames more vs input value fs c e = back_NamespaceNames last more vs input value fs e
  back_sort o.FunctionRest more vs input value fs c e = back_FunctionRest last more vs input value fs e
  back_sort o.KeyOrNamespace more vs input value fs c e = back_KeyOrNamespace last more vs input value fs e
  back_sort o.KeyOrType more vs input value fs c e = back_KeyOrType last more vs input value fs e
  back_sort o.ForwardOrClass more vs input value fs c e = back_ForwardOrClass last more vs input value fs e
  back_sort o.ClassRest more vs input value fs c e = back_ClassRest last more vs input value fs e
  back_sort o.ClassModifiers more vs input value fs c e = back_ClassModifiers last more vs input value fs e
  back_sort o.Bases more vs input value fs c e = back_Bases last more vs input value fs e
  back_sort o.Base more vs input value fs c e = back_Base last more vs input value fs e
  back_sort o.MoreBases more vs input value fs c e = back_MoreBases last more vs input value fs e
  back_sort o.VisibleRest more vs input value fs c e = back_VisibleRest last more vs input value fs e
  back_sort o.TemplateRest more vs input value fs c e = back_TemplateRest last more vs input value fs e
  back_sort o.TemplateKeyOrNamespace more vs input value fs c e = back_TemplateKeyOrNamespace last more vs input value fs e
  back_sort o.TemplateKeyOrType more vs input value fs c e = back_TemplateKeyOrType last more vs input value fs e
  back_sort o.Enumeration more vs input value fs c e = back_Enumeration last more vs input value fs e
  back_sort o.Enumerators more vs input value fs c e = back_Enumerators last more vs input value fs e
  back_sort o.MoreEnumerators more vs input value fs c e = back_MoreEnumerators last more vs input value fs e
  back_sort o.Enumerator more vs input value fs c e = back_Enumerator last more vs input value fs e
  back_sort o.EnumeratorRest more vs input value fs c e = back_EnumeratorRest last more vs input value fs e
  back_sort o.EnumeratorNumber more vs input value fs c e = back_EnumeratorNumber last more vs input value fs e
  back_sort o.TemplateParameter more vs input value fs c e = back_TemplateParameter last more vs input value fs e
  back_sort o.MoreTemplateParameters more vs input value fs c e = back_MoreTemplateParameters last more vs input value fs e

  -- at the end
  pub end_sort : (sort : Sort) (more : List Symbol) (vs : List Value) → Meaning last (lack (otherwise sort) more vs []) → Meaning last (At (Non sort ∷ more) vs [])
  end_sort o.OpenParenthesis more vs e = end_OpenParenthesis last more vs e
  end_sort o.CloseParenthesis more vs e = end_CloseParenthesis last more vs e
  end_sort o.OpenBrace more vs e = end_OpenBrace last more vs e
  end_sort o.OpenBracket more vs e = end_OpenBracket last more vs e
  end_sort o.CloseBracket more vs e = end_CloseBracket last more vs e
  end_sort o.CloseBrace more vs e = end_CloseBrace last more vs e
  end_sort o.Less more vs e = end_Less last more vs e
  end_sort o.Greater more vs e = end_Greater last more vs e
  end_sort o.Colon more vs e = end_Colon last more vs e
  end_sort o.Semicolon more vs e = end_Semicolon last more vs e
  end_sort o.Scope more vs e = end_Scope last more vs e
  end_sort o.NamespaceWord more vs e = end_NamespaceWord last more vs e
  end_sort o.WhileWord more vs e = end_WhileWord last more vs e
  end_sort o.InWord more vs e = end_InWord last more vs e
  end_sort o.KeptOpenParenthesis more vs e = end_KeptOpenParenthesis last more vs e
  end_sort o.KeptCloseParenthesis more vs e = end_KeptCloseParenthesis last more vs e
  end_sort o.KeptCloseBrace more vs e = end_KeptCloseBrace last more vs e
  end_sort o.KeptCloseBracket more vs e = end_KeptCloseBracket last more vs e
  end_sort o.KeptSemicolon more vs e = end_KeptSemicolon last more vs e
  end_sort o.KeptColon more vs e = end_KeptColon last more vs e
  end_sort o.KeptGreater more vs e = end_KeptGreater last more vs e
  end_sort o.KeptLess more vs e = end_KeptLess last more vs e
  end_sort o.Identifier more vs e = end_Identifier last more vs e
  end_sort o.AnyName more vs e = end_AnyName last more vs e
  end_sort o.OwnName more vs e = end_OwnName last more vs e
  end_sort o.NumberToken more vs e = end_NumberToken last more vs e
  end_sort o.AggregateWord more vs e = end_AggregateWord last more vs e
  end_sort o.AccessorWord more vs e = end_AccessorWord last more vs e
  end_sort o.Fundamental more vs e = end_Fundamental last more vs e
  end_sort o.SignedRest more vs e = end_SignedRest last more vs e
  end_sort o.UnsignedRest more vs e = end_UnsignedRest last more vs e
  end_sort o.OptionalInt more vs e = end_OptionalInt last more vs e
  end_sort o.LongWord more vs e = end_LongWord last more vs e
  end_sort o.Type more vs e = end_Type last more vs e
  end_sort o.TypeMarks more vs e = end_TypeMarks last more vs e
  end_sort o.HandleRest more vs e = end_HandleRest last more vs e
  end_sort o.NamedType more vs e = end_NamedType last more vs e
  end_sort o.TypePath more vs e = end_TypePath last more vs e
  end_sort o.TemplateArguments more vs e = end_TemplateArguments last more vs e
  end_sort o.MoreTypes more vs e = end_MoreTypes last more vs e
  end_sort o.TypeOrName more vs e = end_TypeOrName last more vs e
  end_sort o.NameEnd more vs e = end_NameEnd last more vs e
  end_sort o.FunctionNameEnd more vs e = end_FunctionNameEnd last more vs e
  end_sort o.PathRest more vs e = end_PathRest last more vs e
  end_sort o.CoreEnd more vs e = end_CoreEnd last more vs e
  end_sort o.Expression more vs e = end_Expression last more vs e
  end_sort o.AfterUnary more vs e = end_AfterUnary last more vs e
  end_sort o.ConditionalRest more vs e = end_ConditionalRest last more vs e
  end_sort (o.BinaryRest n) more vs e = end_BinaryRest last n more vs e
  end_sort o.GreaterEnd more vs e = end_GreaterEnd last more vs e
  end_sort o.Unary more vs e = end_Unary last more vs e
  end_sort o.Operand more vs e = end_Operand last more vs e
  end_sort o.TypeOperandRest more vs e = end_TypeOperandRest last more vs e
  end_sort o.FunctionNameRest more vs e = end_FunctionNameRest last more vs e
  end_sort o.AfterNameLess more vs e = end_AfterNameLess last more vs e
  end_sort o.NameTypes more vs e = end_NameTypes last more vs e
  end_sort o.StringsRest more vs e = end_StringsRest last more vs e
  end_sort o.AfterParenthesis more vs e = end_AfterParenthesis last more vs e
  end_sort o.CastOrGroup more vs e = end_CastOrGroup last more vs e
  end_sort o.SuffixRest more vs e = end_SuffixRest last more vs e
  end_sort o.Selected more vs e = end_Selected last more vs e
  end_sort o.FunctionMemberRest more vs e = end_FunctionMemberRest last more vs e
  end_sort o.AfterMemberLess more vs e = end_AfterMemberLess last more vs e
  end_sort o.MemberTypes more vs e = end_MemberTypes last more vs e
  end_sort o.Arguments more vs e = end_Arguments last more vs e
  end_sort o.MoreExpressions more vs e = end_MoreExpressions last more vs e
  end_sort o.NewName more vs e = end_NewName last more vs e
  end_sort o.NewPath more vs e = end_NewPath last more vs e
  end_sort o.NewTypeRest more vs e = end_NewTypeRest last more vs e
  end_sort o.AfterNewLess more vs e = end_AfterNewLess last more vs e
  end_sort o.NewTypes more vs e = end_NewTypes last more vs e
  end_sort o.NewArguments more vs e = end_NewArguments last more vs e
  end_sort o.NewElements more vs e = end_NewElements last more vs e
  end_sort o.Statement more vs e = end_Statement last more vs e
  end_sort o.LocalOrExpression more vs e = end_LocalOrExpression last more vs e
  end_sort o.Block more vs e = end_Block last more vs e
  end_sort o.Statements more vs e = end_Statements last more vs e
  end_sort o.ElseRest more vs e = end_ElseRest last more vs e
  end_sort o.ForRest more vs e = end_ForRest last more vs e
  end_sort o.ForStart more vs e = end_ForStart last more vs e
  end_sort o.LocalOrExpressionStart more vs e = end_LocalOrExpressionStart last more vs e
  end_sort o.OptionalExpression more vs e = end_OptionalExpression last more vs e
  end_sort o.ForAdvance more vs e = end_ForAdvance last more vs e
  end_sort o.Sections more vs e = end_Sections last more vs e
  end_sort o.Label more vs e = end_Label last more vs e
  end_sort o.MoreLabels more vs e = end_MoreLabels last more vs e
  end_sort o.SectionStatements more vs e = end_SectionStatements last more vs e
  end_sort o.TryRest more vs e = end_TryRest last more vs e
  end_sort o.MoreCatches more vs e = end_MoreCatches last more vs e
  end_sort o.Catch more vs e = end_Catch last more vs e
  end_sort o.Caught more vs e = end_Caught last more vs e
  end_sort o.CaughtName more vs e = end_CaughtName last more vs e
  end_sort o.Declarator more vs e = end_Declarator last more vs e
  end_sort o.DeclaratorRest more vs e = end_DeclaratorRest last more vs e
  end_sort o.DeclaratorValue more vs e = end_DeclaratorValue last more vs e
  end_sort o.MoreDeclarators more vs e = end_MoreDeclarators last more vs e
  end_sort o.Parameters more vs e = end_Parameters last more vs e
  end_sort o.ParameterName more vs e = end_ParameterName last more vs e
  end_sort o.MoreParameters more vs e = end_MoreParameters last more vs e
  end_sort o.Modifiers more vs e = end_Modifiers last more vs e
  end_sort o.Overriding more vs e = end_Overriding last more vs e
  end_sort o.Overridden more vs e = end_Overridden last more vs e
  end_sort o.NamedFunction more vs e = end_NamedFunction last more vs e
  end_sort o.NamedAccessor more vs e = end_NamedAccessor last more vs e
  end_sort o.MoreNamedFunctions more vs e = end_MoreNamedFunctions last more vs e
  end_sort o.Body more vs e = end_Body last more vs e
  end_sort o.Accessor more vs e = end_Accessor last more vs e
  end_sort o.Accessors more vs e = end_Accessors last more vs e
  end_sort o.Initializers more vs e = end_Initializers last more vs e
  end_sort o.MoreInitializers more vs e = end_MoreInitializers last more vs e
  end_sort o.Initializer more vs e = end_Initializer last more vs e
  end_sort o.InitializerName more vs e = end_InitializerName last more vs e
  end_sort o.Member more vs e = end_Member last more vs e
  end_sort o.VirtualStart more vs e = end_VirtualStart last more vs e
  end_sort o.MemberStart more vs e = end_MemberStart last more vs e
  end_sort o.OwnTypeEnd more vs e = end_OwnTypeEnd last more vs e
  end_sort o.OwnNamespaceEnd more vs e = end_OwnNamespaceEnd last more vs e
  end_sort o.OwnPropertyTypeEnd more vs e = end_OwnPropertyTypeEnd last more vs e
  end_sort o.OwnPropertyNamespaceEnd more vs e = end_OwnPropertyNamespaceEnd last more vs e
  end_sort o.TypeOrProperty more vs e = end_TypeOrProperty last more vs e
  end_sort o.PropertyOrType more vs e = end_PropertyOrType last more vs e
  end_sort o.PropertyTypeOrName more vs e = end_PropertyTypeOrName last more vs e
  end_sort o.PropertyOrNamespace more vs e = end_PropertyOrNamespace last more vs e
  end_sort o.MemberRest more vs e = end_MemberRest last more vs e
  end_sort o.StaticMember more vs e = end_StaticMember last more vs e
  end_sort o.VirtualMember more vs e = end_VirtualMember last more vs e
  end_sort o.MemberName more vs e = end_MemberName last more vs e
  end_sort o.VirtualName more vs e = end_VirtualName last more vs e
  end_sort o.FieldsOrFunction more vs e = end_FieldsOrFunction last more vs e
  end_sort o.FieldNames more vs e = end_FieldNames last more vs e
  end_sort o.PropertyName more vs e = end_PropertyName last more vs e
  end_sort o.PropertyBody more vs e = end_PropertyBody last more vs e
  end_sort o.Members more vs e = end_Members last more vs e
  end_sort o.UnitRest more vs e = end_UnitRest last more vs e
  end_sort o.Outers more vs e = end_Outers last more vs e
  end_sort o.Outer more vs e = end_Outer last more vs e
  end_sort o.NamespaceNames more vs e = end_NamespaceNames last more vs e
  end_sort o.FunctionRest more vs e = end_FunctionRest last more vs e
  end_sort o.KeyOrNamespace more vs e = end_KeyOrNamespace last more vs e
  end_sort o.KeyOrType more vs e = end_KeyOrType last more vs e
  end_sort o.ForwardOrClass more vs e = end_ForwardOrClass last more vs e
  end_sort o.ClassRest more vs e = end_ClassRest last more vs e
  end_sort o.ClassModifiers more vs e = end_ClassModifiers last more vs e
  end_sort o.Bases more vs e = end_Bases last more vs e
  end_sort o.Base more vs e = end_Base last more vs e
  end_sort o.MoreBases more vs e = end_MoreBases last more vs e
  end_sort o.VisibleRest more vs e = end_VisibleRest last more vs e
  end_sort o.TemplateRest more vs e = end_TemplateRest last more vs e
  end_sort o.TemplateKeyOrNamespace more vs e = end_TemplateKeyOrNamespace last more vs e
  end_sort o.TemplateKeyOrType more vs e = end_TemplateKeyOrType last more vs e
  end_sort o.Enumeration more vs e = end_Enumeration last more vs e
  end_sort o.Enumerators more vs e = end_Enumerators last more vs e
  end_sort o.MoreEnumerators more vs e = end_MoreEnumerators last more vs e
  end_sort o.Enumerator more vs e = end_Enumerator last more vs e
  end_sort o.EnumeratorRest more vs e = end_EnumeratorRest last more vs e
  end_sort o.EnumeratorNumber more vs e = end_EnumeratorNumber last more vs e
  end_sort o.TemplateParameter more vs e = end_TemplateParameter last more vs e
  end_sort o.MoreTemplateParameters more vs e = end_MoreTemplateParameters last more vs e
