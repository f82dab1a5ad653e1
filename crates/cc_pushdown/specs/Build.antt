-- What an action makes of the topmost values.
use Rattle.std.specs.Prelude.{List, [], ◌∷◌, ◌++◌, Option, Some, None, true, false}
use Rattle.cc_base.specs.declared.text.Span.{Span}
use Rattle.cc_tree.specs.declared.expression.Arguments.{Arguments, roll-Arguments}
use Rattle.cc_tree.specs.declared.statement.Block.{Block, roll-Block}
use Rattle.cc_tree.specs.declared.statement.Catch.{Catch, roll-Catch}
use Rattle.cc_tree.specs.declared.statement.Section.{Section, roll-Section}
use Rattle.cc_tree.specs.declared.statement.Caught.TheVariants as caught
use Rattle.cc_tree.specs.declared.expression.Expression.TheVariants as e
use Rattle.cc_tree.specs.declared.statement.ForStart.TheVariants as start
use Rattle.cc_tree.specs.declared.statement.Initializer.TheVariants as initial
use Rattle.cc_tree.specs.declared.statement.Label.TheVariants as label
use Rattle.cc_tree.specs.declared.member.Member.TheVariants as m
use Rattle.cc_tree.specs.declared.member.MemberInitializer.TheVariants as init
use Rattle.cc_tree.specs.declared.unit.Outer.TheVariants as o
use Rattle.cc_tree.specs.declared.member.Overridden.TheVariants as over
use Rattle.cc_tree.specs.declared.member.PropertyName.TheVariants as property_name
use Rattle.cc_tree.specs.declared.statement.Statement.TheVariants as z
use Rattle.cc_tree.specs.declared.unit.Template.TheVariants as template
use Rattle.cc_tree.specs.declared.type_name.TypeName.TheVariants as type
use Rattle.cc_table.specs.declared.symbols.Action.{Action}
use Rattle.cc_table.specs.declared.symbols.Action.TheVariants as a
use Rattle.cc_pushdown.specs.declared.value.Value.{Value}
use Rattle.cc_pushdown.specs.declared.value.Node.{Node}
use Rattle.cc_pushdown.specs.declared.value.Mark.{Mark}
use Rattle.cc_pushdown.specs.declared.value.NameToken.{NameToken}
use Rattle.cc_pushdown.specs.declared.value.Numeral.{Numeral}
use Rattle.cc_pushdown.specs.declared.value.QualifiedName.{QualifiedName}
use Rattle.cc_pushdown.specs.declared.value.ClassHead.{ClassHead}
use Rattle.cc_pushdown.specs.declared.value.Value.TheVariants as v
use Rattle.cc_tree.specs.Spans.{across, after, qualified_span}
use Rattle.cc_pushdown.specs.Words.{access_of, accessor_of, aggregate_of, assignment_of, cast_of, class_modifier_of, class_word_of, is_static, is_virtual, parameter_word_of, postfix_of, prefix_of, selector_of, storage_of, visibility_of}
use Rattle.cc_pushdown.specs.Values.{HasAccessor, HasAccessors, HasArguments, HasBase, HasBases, HasBlock, HasBody, HasCatches, HasCaught, HasCharacter, HasClass, HasClassModifiers, HasDeclarator, HasDeclarators, HasEnumeration, HasEnumerator, HasEnumerators, HasExpression, HasExpressions, HasForStart, HasFunction, HasHead, HasInitializer, HasInitializers, HasKey, HasLabel, HasLabels, HasLiteral, HasLocal, HasMark, HasMember, HasMembers, HasModifierWord, HasModifiers, HasName, HasNamedFunction, HasNamedFunctions, HasNames, HasNumber, HasOperator, HasOptional, HasOuter, HasOuters, HasOverridden, HasParameterList, HasParameters, HasPath, HasPropertyName, HasPropertyType, HasQualified, HasSections, HasStatement, HasStatements, HasStorage, HasTemplate, HasTemplateParameter, HasTemplateParameters, HasTexts, HasType, HasTypeArguments, HasTypes, below, nowhere, top_accessor, top_accessors, top_arguments, top_base, top_bases, top_block, top_body, top_catches, top_caught, top_character, top_class, top_class_modifiers, top_declarator, top_declarators, top_enumeration, top_enumerator, top_enumerators, top_expression, top_expressions, top_for_start, top_function, top_head, top_initializer, top_initializers, top_key, top_label, top_labels, top_literal, top_local, top_mark, top_member, top_members, top_modifier, top_modifiers, top_name, top_named_function, top_named_functions, top_names, top_number, top_operator, top_optional, top_outer, top_outers, top_overridden, top_parameter_list, top_parameters, top_path, top_property_name, top_property_type, top_qualified, top_sections, top_statement, top_statements, top_storage, top_template, top_template_parameter, top_template_parameters, top_texts, top_type_arguments, top_type_name, top_types}

-- two marks as one
abbrev pub joined : Mark → Mark → Mark
joined first second = record { terminal = first.terminal; span = across first.span second.span }

abbrev pub grown_from : {A : Type 0} → List A → Span → Span → Span
grown_from [] so_far span = span
grown_from (one ∷ items) so_far span = across so_far span

-- the span of a list with one more item
abbrev pub grown : {A : Type 0} → Node (List A) → Span → Span
grown list span = grown_from list.tree list.span span

abbrev pub list_span_from : {A : Type 0} → List A → Span → Span → Span
list_span_from [] span before = after before
list_span_from (one ∷ items) span before = span

-- the span of a list after a sign
abbrev pub list_span : {A : Type 0} → Node (List A) → Span → Span
list_span list before = list_span_from list.tree list.span before

-- where a member begins
abbrev pub first_span : Option Mark → Span → Span
first_span None otherwise = otherwise
first_span (Some mark) otherwise = mark.span

abbrev pub build : Action → List Value → List Value
build a.JoinMarks vs = v.Mark (joined (top_mark (below vs)) (top_mark vs)) ∷ (below (below vs))
build (a.Fundamental of) vs = v.Type (record { tree = (type.Fundamental of (top_mark vs).span); span = (top_mark vs).span }) ∷ (below vs)
build a.StartPath vs = v.Qualified (record { path = []; name = (top_name vs).identifier }) ∷ (below vs)
build a.AddToPath vs = v.Path ((top_qualified vs).path ++ (top_qualified vs).name ∷ []) ∷ (below vs)
build a.EndPath vs = v.Qualified (record { path = (top_path (below vs)); name = (top_name vs).identifier }) ∷ (below (below vs))
build a.MakeNamed vs = v.Type (record { tree = (type.Named (top_qualified vs).path (top_qualified vs).name [] (qualified_span (top_qualified vs).path (top_qualified vs).name)); span = (qualified_span (top_qualified vs).path (top_qualified vs).name) }) ∷ (below vs)
build a.MakeApplied vs = v.Type (record { tree = (type.Named (top_qualified (below (below (below vs)))).path (top_qualified (below (below (below vs)))).name (top_types (below vs)) (across (qualified_span (top_qualified (below (below (below vs)))).path (top_qualified (below (below (below vs)))).name) (top_mark vs).span)); span = (across (qualified_span (top_qualified (below (below (below vs)))).path (top_qualified (below (below (below vs)))).name) (top_mark vs).span) }) ∷ (below (below (below (below vs))))
build a.MakeHandle vs = v.Type (record { tree = (type.Marked (top_type_name (below vs)).tree true false (across (top_type_name (below vs)).span (top_mark vs).span)); span = (across (top_type_name (below vs)).span (top_mark vs).span) }) ∷ (below (below vs))
build a.MakeTracking vs = v.Type (record { tree = (type.Marked (top_type_name (below vs)).tree false true (across (top_type_name (below vs)).span (top_mark vs).span)); span = (across (top_type_name (below vs)).span (top_mark vs).span) }) ∷ (below (below vs))
build a.MakeHandleTracking vs = v.Type (record { tree = (type.Marked (top_type_name (below (below vs))).tree true true (across (top_type_name (below (below vs))).span (top_mark vs).span)); span = (across (top_type_name (below (below vs))).span (top_mark vs).span) }) ∷ (below (below (below vs)))
build a.StartTypes vs = v.Types [] ∷ vs
build a.AddType vs = v.Types ((top_types (below vs)) ++ (top_type_name vs).tree ∷ []) ∷ (below (below vs))
build a.FirstType vs = v.Types ([] ++ (top_type_name vs).tree ∷ []) ∷ (below vs)
build a.MakeAssignment vs = v.Expression (record { tree = (e.Assign (top_expression (below (below vs))).tree (assignment_of (top_mark (below vs)).terminal) (top_expression vs).tree (across (top_expression (below (below vs))).span (top_expression vs).span)); span = (across (top_expression (below (below vs))).span (top_expression vs).span) }) ∷ (below (below (below vs)))
build a.MakeConditional vs = v.Expression (record { tree = (e.Conditional (top_expression (below (below vs))).tree (top_expression (below vs)).tree (top_expression vs).tree (across (top_expression (below (below vs))).span (top_expression vs).span)); span = (across (top_expression (below (below vs))).span (top_expression vs).span) }) ∷ (below (below (below vs)))
build a.MakeBinary vs = v.Expression (record { tree = (e.Binary (top_expression (below (below vs))).tree (top_operator (below vs)) (top_expression vs).tree (across (top_expression (below (below vs))).span (top_expression vs).span)); span = (across (top_expression (below (below vs))).span (top_expression vs).span) }) ∷ (below (below (below vs)))
build a.MakePrefix vs = v.Expression (record { tree = (e.Prefix (prefix_of (top_mark (below vs)).terminal) (top_expression vs).tree (across (top_mark (below vs)).span (top_expression vs).span)); span = (across (top_mark (below vs)).span (top_expression vs).span) }) ∷ (below (below vs))
build a.MakeCast vs = v.Expression (record { tree = (e.Cast (top_type_name (below vs)).tree (top_expression vs).tree (across (top_mark (below (below vs))).span (top_expression vs).span)); span = (across (top_mark (below (below vs))).span (top_expression vs).span) }) ∷ (below (below (below vs)))
build a.MakeIndex vs = v.Expression (record { tree = (e.Index (top_expression (below (below vs))).tree (top_expression (below vs)).tree (across (top_expression (below (below vs))).span (top_mark vs).span)); span = (across (top_expression (below (below vs))).span (top_mark vs).span) }) ∷ (below (below (below vs)))
build a.MakeCall vs = v.Expression (record { tree = (e.Call (top_expression (below (below vs))).tree (top_arguments (below vs)) (across (top_expression (below (below vs))).span (top_mark vs).span)); span = (across (top_expression (below (below vs))).span (top_mark vs).span) }) ∷ (below (below (below vs)))
build a.MakeMember vs = v.Expression (record { tree = (e.Member (top_expression (below (below vs))).tree (selector_of (top_mark (below vs)).terminal) (top_name vs).identifier None (across (top_expression (below (below vs))).span (top_name vs).identifier.span)); span = (across (top_expression (below (below vs))).span (top_name vs).identifier.span) }) ∷ (below (below (below vs)))
build a.MakeMemberOf vs = v.Expression (record { tree = (e.Member (top_expression (below (below (below vs)))).tree (selector_of (top_mark (below (below vs))).terminal) (top_name (below vs)).identifier (Some (top_type_arguments vs)) (across (top_expression (below (below (below vs)))).span (top_type_arguments vs).span)); span = (across (top_expression (below (below (below vs)))).span (top_type_arguments vs).span) }) ∷ (below (below (below (below vs))))
build a.MakeFinaliserName vs = v.Expression (record { tree = (e.Finaliser (top_expression (below (below vs))).tree (selector_of (top_mark (below vs)).terminal) (top_name vs).identifier (across (top_expression (below (below vs))).span (top_name vs).identifier.span)); span = (across (top_expression (below (below vs))).span (top_name vs).identifier.span) }) ∷ (below (below (below vs)))
build a.MakePostfix vs = v.Expression (record { tree = (e.Postfix (top_expression (below vs)).tree (postfix_of (top_mark vs).terminal) (across (top_expression (below vs)).span (top_mark vs).span)); span = (across (top_expression (below vs)).span (top_mark vs).span) }) ∷ (below (below vs))
build a.MakeNumber vs = v.Expression (record { tree = (e.Number (top_number vs).value (top_number vs).suffix (top_number vs).radix (top_number vs).span); span = (top_number vs).span }) ∷ (below vs)
build a.MakeCharacter vs = v.Expression (record { tree = (e.Character (top_character vs).tree (top_character vs).span); span = (top_character vs).span }) ∷ (below vs)
build a.StartTexts vs = v.Texts (record { tree = ([] ++ (top_literal vs).tree ∷ []); span = (top_literal vs).span }) ∷ (below vs)
build a.AddText vs = v.Texts (record { tree = ((top_texts (below vs)).tree ++ (top_literal vs).tree ∷ []); span = (across (top_texts (below vs)).span (top_literal vs).span) }) ∷ (below (below vs))
build a.MakeStrings vs = v.Expression (record { tree = (e.Strings (top_texts vs).tree (top_texts vs).span); span = (top_texts vs).span }) ∷ (below vs)
build a.MakeTrue vs = v.Expression (record { tree = (e.True (top_mark vs).span); span = (top_mark vs).span }) ∷ (below vs)
build a.MakeFalse vs = v.Expression (record { tree = (e.False (top_mark vs).span); span = (top_mark vs).span }) ∷ (below vs)
build a.MakeNullptr vs = v.Expression (record { tree = (e.Nullptr (top_mark vs).span); span = (top_mark vs).span }) ∷ (below vs)
build a.MakeThis vs = v.Expression (record { tree = (e.This (top_mark vs).span); span = (top_mark vs).span }) ∷ (below vs)
build a.StartExpressions vs = v.Expressions (record { tree = []; span = nowhere }) ∷ vs
build a.AddExpression vs = v.Expressions (record { tree = ((top_expressions (below vs)).tree ++ (top_expression vs).tree ∷ []); span = (grown (top_expressions (below vs)) (top_expression vs).span) }) ∷ (below (below vs))
build a.MakeArguments vs = v.Arguments (roll-Arguments (record { span = (list_span (top_expressions vs) (top_mark (below vs)).span); items = (top_expressions vs).tree })) ∷ (below (below vs))
build a.MakeTypeArguments vs = v.TypeArguments (record { types = (top_types (below vs)); span = (across (top_mark (below (below vs))).span (top_mark vs).span) }) ∷ (below (below (below vs)))
build a.MakeGroup vs = v.Expression (record { tree = (e.Group (top_expression (below vs)).tree (across (top_mark (below (below vs))).span (top_mark vs).span)); span = (across (top_mark (below (below vs))).span (top_mark vs).span) }) ∷ (below (below (below vs)))
build a.MakeName vs = v.Expression (record { tree = (e.Name (top_qualified vs).path (top_qualified vs).name None (qualified_span (top_qualified vs).path (top_qualified vs).name)); span = (qualified_span (top_qualified vs).path (top_qualified vs).name) }) ∷ (below vs)
build a.MakeNameOf vs = v.Expression (record { tree = (e.Name (top_qualified (below vs)).path (top_qualified (below vs)).name (Some (top_type_arguments vs)) (across (qualified_span (top_qualified (below vs)).path (top_qualified (below vs)).name) (top_type_arguments vs).span)); span = (across (qualified_span (top_qualified (below vs)).path (top_qualified (below vs)).name) (top_type_arguments vs).span) }) ∷ (below (below vs))
build a.MakeStaticMember vs = v.Expression (record { tree = (e.StaticMember (top_type_name (below vs)).tree (top_name vs).identifier (across (top_type_name (below vs)).span (top_name vs).identifier.span)); span = (across (top_type_name (below vs)).span (top_name vs).identifier.span) }) ∷ (below (below vs))
build a.MakeConstruct vs = v.Expression (record { tree = (e.Construct (top_type_name (below (below vs))).tree (top_arguments (below vs)) (across (top_type_name (below (below vs))).span (top_mark vs).span)); span = (across (top_type_name (below (below vs))).span (top_mark vs).span) }) ∷ (below (below (below vs)))
build a.MakeNew vs = v.Expression (record { tree = (e.New (top_type_name vs).tree None None (across (top_mark (below vs)).span (top_type_name vs).span)); span = (across (top_mark (below vs)).span (top_type_name vs).span) }) ∷ (below (below vs))
build a.MakeNewWith vs = v.Expression (record { tree = (e.New (top_type_name (below (below vs))).tree (Some (top_arguments (below vs))) None (across (top_mark (below (below (below vs)))).span (top_mark vs).span)); span = (across (top_mark (below (below (below vs)))).span (top_mark vs).span) }) ∷ (below (below (below (below vs))))
build a.MakeNewOf vs = v.Expression (record { tree = (e.New (top_type_name (below (below vs))).tree None (Some (top_arguments (below vs))) (across (top_mark (below (below (below vs)))).span (top_mark vs).span)); span = (across (top_mark (below (below (below vs)))).span (top_mark vs).span) }) ∷ (below (below (below (below vs))))
build a.MakeNewWithOf vs = v.Expression (record { tree = (e.New (top_type_name (below (below (below (below vs))))).tree (Some (top_arguments (below (below (below vs))))) (Some (top_arguments (below vs))) (across (top_mark (below (below (below (below (below vs)))))).span (top_mark vs).span)); span = (across (top_mark (below (below (below (below (below vs)))))).span (top_mark vs).span) }) ∷ (below (below (below (below (below (below vs))))))
build a.MakeNamedCast vs = v.Expression (record { tree = (e.NamedCast (cast_of (top_mark (below (below (below vs)))).terminal) (top_type_name (below (below vs))).tree (top_expression (below vs)).tree (across (top_mark (below (below (below vs)))).span (top_mark vs).span)); span = (across (top_mark (below (below (below vs)))).span (top_mark vs).span) }) ∷ (below (below (below (below vs))))
build a.StartStatements vs = v.Statements [] ∷ vs
build a.AddStatement vs = v.Statements ((top_statements (below vs)) ++ (top_statement vs).tree ∷ []) ∷ (below (below vs))
build a.MakeBlock vs = v.Block (record { tree = (roll-Block (record { statements = (top_statements (below vs)); span = (across (top_mark (below (below vs))).span (top_mark vs).span) })); span = (across (top_mark (below (below vs))).span (top_mark vs).span) }) ∷ (below (below (below vs)))
build a.MakeBlockStatement vs = v.Statement (record { tree = (z.Block (top_block vs).tree); span = (top_block vs).span }) ∷ (below vs)
build a.MakeEmpty vs = v.Statement (record { tree = (z.Empty (top_mark vs).span); span = (top_mark vs).span }) ∷ (below vs)
build a.MakeExpressionStatement vs = v.Statement (record { tree = (z.Expression (top_expression (below vs)).tree (across (top_expression (below vs)).span (top_mark vs).span)); span = (across (top_expression (below vs)).span (top_mark vs).span) }) ∷ (below (below vs))
build a.MakeDelete vs = v.Statement (record { tree = (z.Delete (top_expression (below vs)).tree (across (top_mark (below (below vs))).span (top_mark vs).span)); span = (across (top_mark (below (below vs))).span (top_mark vs).span) }) ∷ (below (below (below vs)))
build a.MakeBreak vs = v.Statement (record { tree = (z.Break (across (top_mark (below vs)).span (top_mark vs).span)); span = (across (top_mark (below vs)).span (top_mark vs).span) }) ∷ (below (below vs))
build a.MakeContinue vs = v.Statement (record { tree = (z.Continue (across (top_mark (below vs)).span (top_mark vs).span)); span = (across (top_mark (below vs)).span (top_mark vs).span) }) ∷ (below (below vs))
build a.MakeReturn vs = v.Statement (record { tree = (z.Return (top_optional vs).tree (across (top_mark (below vs)).span (top_optional vs).span)); span = (across (top_mark (below vs)).span (top_optional vs).span) }) ∷ (below (below vs))
build a.MakeThrow vs = v.Statement (record { tree = (z.Throw (top_optional vs).tree (across (top_mark (below vs)).span (top_optional vs).span)); span = (across (top_mark (below vs)).span (top_optional vs).span) }) ∷ (below (below vs))
build a.NoExpression vs = v.Optional (record { tree = None; span = (top_mark vs).span }) ∷ (below vs)
build a.SomeExpression vs = v.Optional (record { tree = (Some (top_expression (below vs)).tree); span = (top_mark vs).span }) ∷ (below (below vs))
build a.MakeIf vs = v.Statement (record { tree = (z.If (top_expression (below vs)).tree (top_statement vs).tree None (across (top_mark (below (below vs))).span (top_statement vs).span)); span = (across (top_mark (below (below vs))).span (top_statement vs).span) }) ∷ (below (below (below vs)))
build a.MakeIfElse vs = v.Statement (record { tree = (z.If (top_expression (below (below vs))).tree (top_statement (below vs)).tree (Some (top_statement vs).tree) (across (top_mark (below (below (below vs)))).span (top_statement vs).span)); span = (across (top_mark (below (below (below vs)))).span (top_statement vs).span) }) ∷ (below (below (below (below vs))))
build a.StartSections vs = v.Sections [] ∷ vs
build a.StartLabels vs = v.Labels [] ∷ vs
build a.AddLabel vs = v.Labels ((top_labels (below vs)) ++ (top_label vs) ∷ []) ∷ (below (below vs))
build a.AddSection vs = v.Sections ((top_sections (below (below vs))) ++ (roll-Section (record { labels = (top_labels (below vs)); statements = (top_statements vs) })) ∷ []) ∷ (below (below (below vs)))
build a.MakeSwitch vs = v.Statement (record { tree = (z.Switch (top_expression (below (below vs))).tree (top_sections (below vs)) (across (top_mark (below (below (below vs)))).span (top_mark vs).span)); span = (across (top_mark (below (below (below vs)))).span (top_mark vs).span) }) ∷ (below (below (below (below vs))))
build a.MakeCase vs = v.Label (label.Case (top_expression (below vs)).tree (across (top_mark (below (below vs))).span (top_mark vs).span)) ∷ (below (below (below vs)))
build a.MakeDefault vs = v.Label (label.Default (across (top_mark (below vs)).span (top_mark vs).span)) ∷ (below (below vs))
build a.MakeWhile vs = v.Statement (record { tree = (z.While (top_expression (below vs)).tree (top_statement vs).tree (across (top_mark (below (below vs))).span (top_statement vs).span)); span = (across (top_mark (below (below vs))).span (top_statement vs).span) }) ∷ (below (below (below vs)))
build a.MakeDo vs = v.Statement (record { tree = (z.Do (top_statement (below (below vs))).tree (top_expression (below vs)).tree (across (top_mark (below (below (below vs)))).span (top_mark vs).span)); span = (across (top_mark (below (below (below vs)))).span (top_mark vs).span) }) ∷ (below (below (below (below vs))))
build a.StartNothing vs = v.ForStart start.Nothing ∷ vs
build a.StartLocal vs = v.ForStart (start.Local (top_local vs)) ∷ (below vs)
build a.StartExpression vs = v.ForStart (start.Expression (top_expression vs).tree) ∷ (below vs)
build a.MakeFor vs = v.Statement (record { tree = (z.For (top_for_start (below (below (below vs)))) (top_optional (below (below vs))).tree (top_optional (below vs)).tree (top_statement vs).tree (across (top_mark (below (below (below (below vs))))).span (top_statement vs).span)); span = (across (top_mark (below (below (below (below vs))))).span (top_statement vs).span) }) ∷ (below (below (below (below (below vs)))))
build a.MakeForEach vs = v.Statement (record { tree = (z.ForEach (top_type_name (below (below (below vs)))).tree (top_name (below (below vs))).identifier (top_expression (below vs)).tree (top_statement vs).tree (across (top_mark (below (below (below (below vs))))).span (top_statement vs).span)); span = (across (top_mark (below (below (below (below vs))))).span (top_statement vs).span) }) ∷ (below (below (below (below (below vs)))))
build a.StartCatches vs = v.Catches (record { tree = []; span = nowhere }) ∷ vs
build a.CatchAll vs = v.Caught caught.All ∷ (below vs)
build a.CatchTyped vs = v.Caught (caught.Typed (top_type_name vs).tree None) ∷ (below vs)
build a.CatchNamed vs = v.Caught (caught.Typed (top_type_name (below vs)).tree (Some (top_name vs).identifier)) ∷ (below (below vs))
build a.AddCatch vs = v.Catches (record { tree = ((top_catches (below (below vs))).tree ++ (roll-Catch (record { caught = (top_caught (below vs)); block = (top_block vs).tree })) ∷ []); span = (top_block vs).span }) ∷ (below (below (below vs)))
build a.MakeTry vs = v.Statement (record { tree = (z.Try (top_block (below vs)).tree (top_catches vs).tree None (across (top_mark (below (below vs))).span (top_catches vs).span)); span = (across (top_mark (below (below vs))).span (top_catches vs).span) }) ∷ (below (below (below vs)))
build a.MakeTryFinally vs = v.Statement (record { tree = (z.Try (top_block (below (below vs))).tree (top_catches (below vs)).tree (Some (top_block vs).tree) (across (top_mark (below (below (below vs)))).span (top_block vs).span)); span = (across (top_mark (below (below (below vs)))).span (top_block vs).span) }) ∷ (below (below (below (below vs))))
build a.StartDeclarators vs = v.Declarators (record { tree = []; span = nowhere }) ∷ vs
build a.AddDeclarator vs = v.Declarators (record { tree = ((top_declarators (below vs)).tree ++ (top_declarator vs) ∷ []); span = (top_declarator vs).span }) ∷ (below (below vs))
build a.MakeDeclarator vs = v.Declarator (record { span = (top_name vs).identifier.span; name = (top_name vs).identifier; initializer = initial.Nothing }) ∷ (below vs)
build a.MakeDeclaratorValue vs = v.Declarator (record { span = (across (top_name (below vs)).identifier.span (top_expression vs).span); name = (top_name (below vs)).identifier; initializer = (initial.Value (top_expression vs).tree) }) ∷ (below (below vs))
build a.MakeDeclaratorElements vs = v.Declarator (record { span = (across (top_name (below (below vs))).identifier.span (top_mark vs).span); name = (top_name (below (below vs))).identifier; initializer = (initial.Elements (top_arguments (below vs))) }) ∷ (below (below (below vs)))
build a.MakeDeclaratorArguments vs = v.Declarator (record { span = (across (top_name (below (below vs))).identifier.span (top_mark vs).span); name = (top_name (below (below vs))).identifier; initializer = (initial.Arguments (top_expressions (below vs)).tree) }) ∷ (below (below (below vs)))
build a.MakeLocal vs = v.Local (record { span = (across (top_type_name (below vs)).span (top_declarators vs).span); of = (top_type_name (below vs)).tree; declarators = (top_declarators vs).tree }) ∷ (below (below vs))
build a.MakeLocalStatement vs = v.Statement (record { tree = (z.Local (top_local (below vs)) (across (top_local (below vs)).span (top_mark vs).span)); span = (across (top_local (below vs)).span (top_mark vs).span) }) ∷ (below (below vs))
build a.StartParameters vs = v.ParameterList (record { tree = []; span = nowhere }) ∷ vs
build a.AddParameter vs = v.ParameterList (record { tree = ((top_parameter_list (below vs)).tree ++ (record { of = (top_type_name vs).tree; name = None }) ∷ []); span = (grown (top_parameter_list (below vs)) (top_type_name vs).span) }) ∷ (below (below vs))
build a.AddNamedParameter vs = v.ParameterList (record { tree = ((top_parameter_list (below (below vs))).tree ++ (record { of = (top_type_name (below vs)).tree; name = (Some (top_name vs).identifier) }) ∷ []); span = (grown (top_parameter_list (below (below vs))) (across (top_type_name (below vs)).span (top_name vs).identifier.span)) }) ∷ (below (below (below vs)))
build a.MakeParameters vs = v.Parameters (record { span = (list_span (top_parameter_list vs) (top_mark (below vs)).span); items = (top_parameter_list vs).tree }) ∷ (below (below vs))
build a.StartModifiers vs = v.Modifiers [] ∷ vs
build a.AddModifier vs = v.Modifiers ((top_modifiers (below vs)) ++ (top_modifier vs) ∷ []) ∷ (below (below vs))
build a.NotOverridden vs = v.Overridden None ∷ vs
build a.MakePure vs = v.Overridden (Some (over.Pure (top_number vs).span)) ∷ (below vs)
build a.StartNamedFunctions vs = v.NamedFunctions (record { tree = []; span = nowhere }) ∷ vs
build a.MakeNamedFunction vs = v.NamedFunction (record { span = (across (top_type_name (below vs)).span (top_name vs).identifier.span); class = (top_type_name (below vs)).tree; name = (top_name vs).identifier; accessor = None }) ∷ (below (below vs))
build a.MakeNamedAccessor vs = v.NamedFunction (record { span = (across (top_type_name (below (below vs))).span (top_name vs).identifier.span); class = (top_type_name (below (below vs))).tree; name = (top_name (below vs)).identifier; accessor = (Some (accessor_of (top_name vs).word)) }) ∷ (below (below (below vs)))
build a.AddNamedFunction vs = v.NamedFunctions (record { tree = ((top_named_functions (below vs)).tree ++ (top_named_function vs) ∷ []); span = (grown (top_named_functions (below vs)) (top_named_function vs).span) }) ∷ (below (below vs))
build a.MakeOverridden vs = v.Overridden (Some (over.Functions (top_named_functions vs).tree (top_named_functions vs).span)) ∷ (below vs)
build a.NoBody vs = v.Body (record { tree = None; span = (top_mark vs).span }) ∷ (below vs)
build a.SomeBody vs = v.Body (record { tree = (Some (top_block vs).tree); span = (top_block vs).span }) ∷ (below vs)
build a.NoStorage vs = v.NoStorage ∷ vs
build a.StartInitializers vs = v.Initializers [] ∷ vs
build a.AddInitializer vs = v.Initializers ((top_initializers (below vs)) ++ (top_initializer vs) ∷ []) ∷ (below (below vs))
build a.MakeMemberInitializer vs = v.Initializer (init.Member (top_name (below (below vs))).identifier (top_arguments (below vs)) (across (top_name (below (below vs))).identifier.span (top_mark vs).span)) ∷ (below (below (below vs)))
build a.MakeBaseInitializer vs = v.Initializer (init.Base (top_type_name (below (below vs))).tree (top_arguments (below vs)) (across (top_type_name (below (below vs))).span (top_mark vs).span)) ∷ (below (below (below vs)))
build a.FirstName vs = v.Names ([] ++ (top_name vs).identifier ∷ []) ∷ (below vs)
build a.AddName vs = v.Names ((top_names (below vs)) ++ (top_name vs).identifier ∷ []) ∷ (below (below vs))
build a.MakeAccess vs = v.Member (m.Access (access_of (top_mark (below vs)).terminal) (across (top_mark (below vs)).span (top_mark vs).span)) ∷ (below (below vs))
build a.MakeFields vs = v.Member (m.Fields (is_static (top_storage (below (below (below vs))))) (top_type_name (below (below vs))).tree (top_names (below vs)) (across (first_span (top_storage (below (below (below vs)))) (top_type_name (below (below vs))).span) (top_mark vs).span)) ∷ (below (below (below (below vs))))
build a.MakeFunctionMember vs = v.Member (m.Function (storage_of (top_storage (below (below (below (below (below (below vs)))))))) (top_type_name (below (below (below (below (below vs)))))).tree (top_name (below (below (below (below vs))))).identifier (top_parameters (below (below (below vs)))) (top_modifiers (below (below vs))) (top_overridden (below vs)) (top_body vs).tree (across (first_span (top_storage (below (below (below (below (below (below vs))))))) (top_type_name (below (below (below (below (below vs)))))).span) (top_body vs).span)) ∷ (below (below (below (below (below (below (below vs)))))))
build a.MakeConstructor vs = v.Member (m.Constructor (top_name (below (below (below vs)))).identifier (top_parameters (below (below vs))) (top_initializers (below vs)) (top_block vs).tree (across (top_name (below (below (below vs)))).identifier.span (top_block vs).span)) ∷ (below (below (below (below (below vs)))))
build a.MakeDestructor vs = v.Member (m.Destructor (is_virtual (top_storage (below (below (below vs))))) (top_name (below vs)).identifier (top_block vs).tree (across (first_span (top_storage (below (below (below vs)))) (top_mark (below (below vs))).span) (top_block vs).span)) ∷ (below (below (below (below vs))))
build a.MakeFinaliser vs = v.Member (m.Finaliser (top_name (below vs)).identifier (top_block vs).tree (across (top_mark (below (below vs))).span (top_block vs).span)) ∷ (below (below (below (below vs))))
build a.StartMembers vs = v.Members [] ∷ vs
build a.AddMember vs = v.Members ((top_members (below vs)) ++ (top_member vs) ∷ []) ∷ (below (below vs))
build a.MakeAccessor vs = v.Accessor (record { span = (across (first_span (top_storage (below (below (below (below (below (below vs))))))) (top_type_name (below (below (below (below (below vs)))))).span) (top_body vs).span); is_virtual = (is_virtual (top_storage (below (below (below (below (below (below vs)))))))); of = (top_type_name (below (below (below (below (below vs)))))).tree; word = (accessor_of (top_name (below (below (below (below vs))))).word); word_span = (top_name (below (below (below (below vs))))).identifier.span; parameters = (top_parameters (below (below (below vs)))); modifiers = (top_modifiers (below (below vs))); overridden = (top_overridden (below vs)); body = (top_body vs).tree }) ∷ (below (below (below (below (below (below (below vs)))))))
build a.StartAccessors vs = v.Accessors [] ∷ vs
build a.AddAccessor vs = v.Accessors ((top_accessors (below vs)) ++ (top_accessor vs) ∷ []) ∷ (below (below vs))
build a.MakePropertyType vs = v.PropertyType (record { tree = (top_type_name vs).tree; span = (top_name (below vs)).identifier.span }) ∷ (below (below vs))
build a.NameProperty vs = v.PropertyName (property_name.Named (top_name vs).identifier) ∷ (below vs)
build a.IndexProperty vs = v.PropertyName (property_name.Indexed (top_mark (below vs)).span (top_type_name vs).tree) ∷ (below (below vs))
build a.MakeProperty vs = v.Member (m.Property (storage_of (top_storage (below (below (below (below vs)))))) (top_property_type (below (below (below vs)))).tree (top_property_name (below (below vs))) (top_accessors (below vs)) (across (first_span (top_storage (below (below (below (below vs))))) (top_property_type (below (below (below vs)))).span) (top_mark vs).span)) ∷ (below (below (below (below (below vs)))))
build a.MakeTrivialProperty vs = v.Member (m.Property (storage_of (top_storage (below (below (below vs))))) (top_property_type (below (below vs))).tree (top_property_name (below vs)) [] (across (first_span (top_storage (below (below (below vs)))) (top_property_type (below (below vs))).span) (top_mark vs).span)) ∷ (below (below (below (below vs))))
build a.MakeKey vs = v.Key (record { word = (class_word_of (top_name (below vs)).word); aggregate = (aggregate_of (top_mark vs).terminal); span = (across (top_name (below vs)).identifier.span (top_mark vs).span) }) ∷ (below (below vs))
build a.StartClassModifiers vs = v.ClassModifiers [] ∷ vs
build a.AddClassModifier vs = v.ClassModifiers ((top_class_modifiers (below vs)) ++ (class_modifier_of (top_name vs).word) ∷ []) ∷ (below (below vs))
build a.StartBases vs = v.Bases [] ∷ vs
build a.AddBase vs = v.Bases ((top_bases (below vs)) ++ (top_base vs) ∷ []) ∷ (below (below vs))
build a.MakeBase vs = v.Base (record { is_public = false; span = (top_type_name vs).span; of = (top_type_name vs).tree }) ∷ (below vs)
build a.MakePublicBase vs = v.Base (record { is_public = true; span = (across (top_mark (below vs)).span (top_type_name vs).span); of = (top_type_name vs).tree }) ∷ (below (below vs))
build a.MakeHead vs = v.Head (record { key = (top_key (below (below (below vs)))); name = (top_name (below (below vs))).identifier; modifiers = (top_class_modifiers (below vs)); bases = (top_bases vs) }) ∷ (below (below (below (below vs))))
build a.MakeClass vs = v.Class (record { span = (across (top_head (below (below vs))).key.span (top_mark vs).span); key = (top_head (below (below vs))).key; name = (top_head (below (below vs))).name; modifiers = (top_head (below (below vs))).modifiers; bases = (top_head (below (below vs))).bases; members = (top_members (below vs)) }) ∷ (below (below (below vs)))
build a.StartEnumerators vs = v.Enumerators [] ∷ vs
build a.AddEnumerator vs = v.Enumerators ((top_enumerators (below vs)) ++ (top_enumerator vs) ∷ []) ∷ (below (below vs))
build a.MakeEnumerator vs = v.Enumerator (record { span = (top_name vs).identifier.span; name = (top_name vs).identifier; value = None }) ∷ (below vs)
build a.MakeEnumeratorValue vs = v.Enumerator (record { span = (across (top_name (below vs)).identifier.span (top_number vs).span); name = (top_name (below vs)).identifier; value = (Some (record { is_negative = false; number = (top_number vs).value })) }) ∷ (below (below vs))
build a.MakeEnumeratorNegative vs = v.Enumerator (record { span = (across (top_name (below (below vs))).identifier.span (top_number vs).span); name = (top_name (below (below vs))).identifier; value = (Some (record { is_negative = true; number = (top_number vs).value })) }) ∷ (below (below (below vs)))
build a.MakeEnumeration vs = v.Enumeration (record { aggregate = (aggregate_of (top_mark (below (below (below vs)))).terminal); name = (top_name (below (below vs))).identifier; items = (top_enumerators (below vs)); span = (across (top_mark (below (below (below (below vs))))).span (top_mark vs).span) }) ∷ (below (below (below (below (below vs)))))
build a.MakeFunction vs = v.Function (record { span = (across (top_type_name (below (below (below vs)))).span (top_body vs).span); result = (top_type_name (below (below (below vs)))).tree; name = (top_name (below (below vs))).identifier; parameters = (top_parameters (below vs)); body = (top_body vs).tree }) ∷ (below (below (below (below vs))))
build a.StartTemplateParameters vs = v.TemplateParameters [] ∷ vs
build a.MakeTemplateParameter vs = v.TemplateParameter (record { word = (parameter_word_of (top_mark (below vs)).terminal); span = (across (top_mark (below vs)).span (top_name vs).identifier.span); name = (top_name vs).identifier }) ∷ (below (below vs))
build a.AddTemplateParameter vs = v.TemplateParameters ((top_template_parameters (below vs)) ++ (top_template_parameter vs) ∷ []) ∷ (below (below vs))
build a.MakeTemplateClass vs = v.Template (record { tree = (template.Class (top_template_parameters (below vs)) (top_class vs) (across (top_mark (below (below vs))).span (top_class vs).span)); span = (across (top_mark (below (below vs))).span (top_class vs).span) }) ∷ (below (below (below vs)))
build a.MakeTemplateFunction vs = v.Template (record { tree = (template.Function (top_template_parameters (below vs)) (top_function vs) (across (top_mark (below (below vs))).span (top_function vs).span)); span = (across (top_mark (below (below vs))).span (top_function vs).span) }) ∷ (below (below (below vs)))
build a.MakeUsing vs = v.Outer (record { tree = (o.Using (top_names (below vs)) (across (top_mark (below (below vs))).span (top_mark vs).span)); span = (across (top_mark (below (below vs))).span (top_mark vs).span) }) ∷ (below (below (below vs)))
build a.MakeNamespace vs = v.Outer (record { tree = (o.Namespace (top_name (below (below vs))).identifier (top_outers (below vs)).tree (across (top_mark (below (below (below vs)))).span (top_mark vs).span)); span = (across (top_mark (below (below (below vs)))).span (top_mark vs).span) }) ∷ (below (below (below (below vs))))
build a.MakeOuterClass vs = v.Outer (record { tree = (o.Class (top_class vs)); span = (top_class vs).span }) ∷ (below vs)
build a.MakeOuterEnumeration vs = v.Outer (record { tree = (o.Enumeration (top_enumeration vs)); span = (top_enumeration vs).span }) ∷ (below vs)
build a.MakeVisibleClass vs = v.Outer (record { tree = (o.VisibleClass (visibility_of (top_mark (below vs)).terminal) (top_class vs) (across (top_mark (below vs)).span (top_class vs).span)); span = (across (top_mark (below vs)).span (top_class vs).span) }) ∷ (below (below vs))
build a.MakeVisibleEnumeration vs = v.Outer (record { tree = (o.VisibleEnumeration (visibility_of (top_mark (below vs)).terminal) (top_enumeration vs) (across (top_mark (below vs)).span (top_enumeration vs).span)); span = (across (top_mark (below vs)).span (top_enumeration vs).span) }) ∷ (below (below vs))
build a.MakeForward vs = v.Outer (record { tree = (o.Forward (top_key (below (below vs))) (top_name (below vs)).identifier (across (top_key (below (below vs))).span (top_mark vs).span)); span = (across (top_key (below (below vs))).span (top_mark vs).span) }) ∷ (below (below (below vs)))
build a.MakeOuterTemplate vs = v.Outer (record { tree = (o.Template (top_template vs).tree); span = (top_template vs).span }) ∷ (below vs)
build a.MakeOuterFunction vs = v.Outer (record { tree = (o.Function (top_function vs)); span = (top_function vs).span }) ∷ (below vs)
build a.StartOuters vs = v.Outers (record { tree = []; span = nowhere }) ∷ vs
build a.AddOuter vs = v.Outers (record { tree = ((top_outers (below vs)).tree ++ (top_outer vs).tree ∷ []); span = (grown (top_outers (below vs)) (top_outer vs).span) }) ∷ (below (below vs))
build a.MakeUnit vs = v.Unit (record { outers = (top_outers vs).tree; span = (top_outers vs).span }) ∷ (below vs)

-- the values that an action uses are there
abbrev pub Ready : Action → List Value → Type 0
Ready a.JoinMarks vs = HasMark vs × HasMark (below vs)
Ready (a.Fundamental of) vs = HasMark vs
Ready a.StartPath vs = HasName vs
Ready a.AddToPath vs = HasQualified vs
Ready a.EndPath vs = HasName vs × HasPath (below vs)
Ready a.MakeNamed vs = HasQualified vs
Ready a.MakeApplied vs = HasMark vs × HasTypes (below vs) × HasMark (below (below vs)) × HasQualified (below (below (below vs)))
Ready a.MakeHandle vs = HasMark vs × HasType (below vs)
Ready a.MakeTracking vs = HasMark vs × HasType (below vs)
Ready a.MakeHandleTracking vs = HasMark vs × HasMark (below vs) × HasType (below (below vs))
Ready a.StartTypes vs = Unit {0}
Ready a.AddType vs = HasType vs × HasTypes (below vs)
Ready a.FirstType vs = HasType vs
Ready a.MakeAssignment vs = HasExpression vs × HasMark (below vs) × HasExpression (below (below vs))
Ready a.MakeConditional vs = HasExpression vs × HasExpression (below vs) × HasExpression (below (below vs))
Ready a.MakeBinary vs = HasExpression vs × HasOperator (below vs) × HasExpression (below (below vs))
Ready a.MakePrefix vs = HasExpression vs × HasMark (below vs)
Ready a.MakeCast vs = HasExpression vs × HasType (below vs) × HasMark (below (below vs))
Ready a.MakeIndex vs = HasMark vs × HasExpression (below vs) × HasExpression (below (below vs))
Ready a.MakeCall vs = HasMark vs × HasArguments (below vs) × HasExpression (below (below vs))
Ready a.MakeMember vs = HasName vs × HasMark (below vs) × HasExpression (below (below vs))
Ready a.MakeMemberOf vs = HasTypeArguments vs × HasName (below vs) × HasMark (below (below vs)) × HasExpression (below (below (below vs)))
Ready a.MakeFinaliserName vs = HasName vs × HasMark (below vs) × HasExpression (below (below vs))
Ready a.MakePostfix vs = HasMark vs × HasExpression (below vs)
Ready a.MakeNumber vs = HasNumber vs
Ready a.MakeCharacter vs = HasCharacter vs
Ready a.StartTexts vs = HasLiteral vs
Ready a.AddText vs = HasLiteral vs × HasTexts (below vs)
Ready a.MakeStrings vs = HasTexts vs
Ready a.MakeTrue vs = HasMark vs
Ready a.MakeFalse vs = HasMark vs
Ready a.MakeNullptr vs = HasMark vs
Ready a.MakeThis vs = HasMark vs
Ready a.StartExpressions vs = Unit {0}
Ready a.AddExpression vs = HasExpression vs × HasExpressions (below vs)
Ready a.MakeArguments vs = HasExpressions vs × HasMark (below vs)
Ready a.MakeTypeArguments vs = HasMark vs × HasTypes (below vs) × HasMark (below (below vs))
Ready a.MakeGroup vs = HasMark vs × HasExpression (below vs) × HasMark (below (below vs))
Ready a.MakeName vs = HasQualified vs
Ready a.MakeNameOf vs = HasTypeArguments vs × HasQualified (below vs)
Ready a.MakeStaticMember vs = HasName vs × HasType (below vs)
Ready a.MakeConstruct vs = HasMark vs × HasArguments (below vs) × HasType (below (below vs))
Ready a.MakeNew vs = HasType vs × HasMark (below vs)
Ready a.MakeNewWith vs = HasMark vs × HasArguments (below vs) × HasType (below (below vs)) × HasMark (below (below (below vs)))
Ready a.MakeNewOf vs = HasMark vs × HasArguments (below vs) × HasType (below (below vs)) × HasMark (below (below (below vs)))
Ready a.MakeNewWithOf vs = HasMark vs × HasArguments (below vs) × HasMark (below (below vs)) × HasArguments (below (below (below vs))) × HasType (below (below (below (below vs)))) × HasMark (below (below (below (below (below vs)))))
Ready a.MakeNamedCast vs = HasMark vs × HasExpression (below vs) × HasType (below (below vs)) × HasMark (below (below (below vs)))
Ready a.StartStatements vs = Unit {0}
Ready a.AddStatement vs = HasStatement vs × HasStatements (below vs)
Ready a.MakeBlock vs = HasMark vs × HasStatements (below vs) × HasMark (below (below vs))
Ready a.MakeBlockStatement vs = HasBlock vs
Ready a.MakeEmpty vs = HasMark vs
Ready a.MakeExpressionStatement vs = HasMark vs × HasExpression (below vs)
Ready a.MakeDelete vs = HasMark vs × HasExpression (below vs) × HasMark (below (below vs))
Ready a.MakeBreak vs = HasMark vs × HasMark (below vs)
Ready a.MakeContinue vs = HasMark vs × HasMark (below vs)
Ready a.MakeReturn vs = HasOptional vs × HasMark (below vs)
Ready a.MakeThrow vs = HasOptional vs × HasMark (below vs)
Ready a.NoExpression vs = HasMark vs
Ready a.SomeExpression vs = HasMark vs × HasExpression (below vs)
Ready a.MakeIf vs = HasStatement vs × HasExpression (below vs) × HasMark (below (below vs))
Ready a.MakeIfElse vs = HasStatement vs × HasStatement (below vs) × HasExpression (below (below vs)) × HasMark (below (below (below vs)))
Ready a.StartSections vs = Unit {0}
Ready a.StartLabels vs = Unit {0}
Ready a.AddLabel vs = HasLabel vs × HasLabels (below vs)
Ready a.AddSection vs = HasStatements vs × HasLabels (below vs) × HasSections (below (below vs))
Ready a.MakeSwitch vs = HasMark vs × HasSections (below vs) × HasExpression (below (below vs)) × HasMark (below (below (below vs)))
Ready a.MakeCase vs = HasMark vs × HasExpression (below vs) × HasMark (below (below vs))
Ready a.MakeDefault vs = HasMark vs × HasMark (below vs)
Ready a.MakeWhile vs = HasStatement vs × HasExpression (below vs) × HasMark (below (below vs))
Ready a.MakeDo vs = HasMark vs × HasExpression (below vs) × HasStatement (below (below vs)) × HasMark (below (below (below vs)))
Ready a.StartNothing vs = Unit {0}
Ready a.StartLocal vs = HasLocal vs
Ready a.StartExpression vs = HasExpression vs
Ready a.MakeFor vs = HasStatement vs × HasOptional (below vs) × HasOptional (below (below vs)) × HasForStart (below (below (below vs))) × HasMark (below (below (below (below vs))))
Ready a.MakeForEach vs = HasStatement vs × HasExpression (below vs) × HasName (below (below vs)) × HasType (below (below (below vs))) × HasMark (below (below (below (below vs))))
Ready a.StartCatches vs = Unit {0}
Ready a.CatchAll vs = HasMark vs
Ready a.CatchTyped vs = HasType vs
Ready a.CatchNamed vs = HasName vs × HasType (below vs)
Ready a.AddCatch vs = HasBlock vs × HasCaught (below vs) × HasCatches (below (below vs))
Ready a.MakeTry vs = HasCatches vs × HasBlock (below vs) × HasMark (below (below vs))
Ready a.MakeTryFinally vs = HasBlock vs × HasCatches (below vs) × HasBlock (below (below vs)) × HasMark (below (below (below vs)))
Ready a.StartDeclarators vs = Unit {0}
Ready a.AddDeclarator vs = HasDeclarator vs × HasDeclarators (below vs)
Ready a.MakeDeclarator vs = HasName vs
Ready a.MakeDeclaratorValue vs = HasExpression vs × HasName (below vs)
Ready a.MakeDeclaratorElements vs = HasMark vs × HasArguments (below vs) × HasName (below (below vs))
Ready a.MakeDeclaratorArguments vs = HasMark vs × HasExpressions (below vs) × HasName (below (below vs))
Ready a.MakeLocal vs = HasDeclarators vs × HasType (below vs)
Ready a.MakeLocalStatement vs = HasMark vs × HasLocal (below vs)
Ready a.StartParameters vs = Unit {0}
Ready a.AddParameter vs = HasType vs × HasParameterList (below vs)
Ready a.AddNamedParameter vs = HasName vs × HasType (below vs) × HasParameterList (below (below vs))
Ready a.MakeParameters vs = HasParameterList vs × HasMark (below vs)
Ready a.StartModifiers vs = Unit {0}
Ready a.AddModifier vs = HasModifierWord vs × HasModifiers (below vs)
Ready a.NotOverridden vs = Unit {0}
Ready a.MakePure vs = HasNumber vs
Ready a.StartNamedFunctions vs = Unit {0}
Ready a.MakeNamedFunction vs = HasName vs × HasType (below vs)
Ready a.MakeNamedAccessor vs = HasName vs × HasName (below vs) × HasType (below (below vs))
Ready a.AddNamedFunction vs = HasNamedFunction vs × HasNamedFunctions (below vs)
Ready a.MakeOverridden vs = HasNamedFunctions vs
Ready a.NoBody vs = HasMark vs
Ready a.SomeBody vs = HasBlock vs
Ready a.NoStorage vs = Unit {0}
Ready a.StartInitializers vs = Unit {0}
Ready a.AddInitializer vs = HasInitializer vs × HasInitializers (below vs)
Ready a.MakeMemberInitializer vs = HasMark vs × HasArguments (below vs) × HasName (below (below vs))
Ready a.MakeBaseInitializer vs = HasMark vs × HasArguments (below vs) × HasType (below (below vs))
Ready a.FirstName vs = HasName vs
Ready a.AddName vs = HasName vs × HasNames (below vs)
Ready a.MakeAccess vs = HasMark vs × HasMark (below vs)
Ready a.MakeFields vs = HasMark vs × HasNames (below vs) × HasType (below (below vs)) × HasStorage (below (below (below vs)))
Ready a.MakeFunctionMember vs = HasBody vs × HasOverridden (below vs) × HasModifiers (below (below vs)) × HasParameters (below (below (below vs))) × HasName (below (below (below (below vs)))) × HasType (below (below (below (below (below vs))))) × HasStorage (below (below (below (below (below (below vs))))))
Ready a.MakeConstructor vs = HasBlock vs × HasInitializers (below vs) × HasParameters (below (below vs)) × HasName (below (below (below vs))) × HasStorage (below (below (below (below vs))))
Ready a.MakeDestructor vs = HasBlock vs × HasName (below vs) × HasMark (below (below vs)) × HasStorage (below (below (below vs)))
Ready a.MakeFinaliser vs = HasBlock vs × HasName (below vs) × HasMark (below (below vs)) × HasStorage (below (below (below vs)))
Ready a.StartMembers vs = Unit {0}
Ready a.AddMember vs = HasMember vs × HasMembers (below vs)
Ready a.MakeAccessor vs = HasBody vs × HasOverridden (below vs) × HasModifiers (below (below vs)) × HasParameters (below (below (below vs))) × HasName (below (below (below (below vs)))) × HasType (below (below (below (below (below vs))))) × HasStorage (below (below (below (below (below (below vs))))))
Ready a.StartAccessors vs = Unit {0}
Ready a.AddAccessor vs = HasAccessor vs × HasAccessors (below vs)
Ready a.MakePropertyType vs = HasType vs × HasName (below vs)
Ready a.NameProperty vs = HasName vs
Ready a.IndexProperty vs = HasType vs × HasMark (below vs)
Ready a.MakeProperty vs = HasMark vs × HasAccessors (below vs) × HasPropertyName (below (below vs)) × HasPropertyType (below (below (below vs))) × HasStorage (below (below (below (below vs))))
Ready a.MakeTrivialProperty vs = HasMark vs × HasPropertyName (below vs) × HasPropertyType (below (below vs)) × HasStorage (below (below (below vs)))
Ready a.MakeKey vs = HasMark vs × HasName (below vs)
Ready a.StartClassModifiers vs = Unit {0}
Ready a.AddClassModifier vs = HasName vs × HasClassModifiers (below vs)
Ready a.StartBases vs = Unit {0}
Ready a.AddBase vs = HasBase vs × HasBases (below vs)
Ready a.MakeBase vs = HasType vs
Ready a.MakePublicBase vs = HasType vs × HasMark (below vs)
Ready a.MakeHead vs = HasBases vs × HasClassModifiers (below vs) × HasName (below (below vs)) × HasKey (below (below (below vs)))
Ready a.MakeClass vs = HasMark vs × HasMembers (below vs) × HasHead (below (below vs))
Ready a.StartEnumerators vs = Unit {0}
Ready a.AddEnumerator vs = HasEnumerator vs × HasEnumerators (below vs)
Ready a.MakeEnumerator vs = HasName vs
Ready a.MakeEnumeratorValue vs = HasNumber vs × HasName (below vs)
Ready a.MakeEnumeratorNegative vs = HasNumber vs × HasMark (below vs) × HasName (below (below vs))
Ready a.MakeEnumeration vs = HasMark vs × HasEnumerators (below vs) × HasName (below (below vs)) × HasMark (below (below (below vs))) × HasMark (below (below (below (below vs))))
Ready a.MakeFunction vs = HasBody vs × HasParameters (below vs) × HasName (below (below vs)) × HasType (below (below (below vs)))
Ready a.StartTemplateParameters vs = Unit {0}
Ready a.MakeTemplateParameter vs = HasName vs × HasMark (below vs)
Ready a.AddTemplateParameter vs = HasTemplateParameter vs × HasTemplateParameters (below vs)
Ready a.MakeTemplateClass vs = HasClass vs × HasTemplateParameters (below vs) × HasMark (below (below vs))
Ready a.MakeTemplateFunction vs = HasFunction vs × HasTemplateParameters (below vs) × HasMark (below (below vs))
Ready a.MakeUsing vs = HasMark vs × HasNames (below vs) × HasMark (below (below vs))
Ready a.MakeNamespace vs = HasMark vs × HasOuters (below vs) × HasName (below (below vs)) × HasMark (below (below (below vs)))
Ready a.MakeOuterClass vs = HasClass vs
Ready a.MakeOuterEnumeration vs = HasEnumeration vs
Ready a.MakeVisibleClass vs = HasClass vs × HasMark (below vs)
Ready a.MakeVisibleEnumeration vs = HasEnumeration vs × HasMark (below vs)
Ready a.MakeForward vs = HasMark vs × HasName (below vs) × HasKey (below (below vs))
Ready a.MakeOuterTemplate vs = HasTemplate vs
Ready a.MakeOuterFunction vs = HasFunction vs
Ready a.StartOuters vs = Unit {0}
Ready a.AddOuter vs = HasOuter vs × HasOuters (below vs)
Ready a.MakeUnit vs = HasOuters vs
