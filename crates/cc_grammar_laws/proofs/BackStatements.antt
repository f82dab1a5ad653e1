-- Backwards over what the automaton does at statements.
use Rattle.std.proofs.Common.{sym, subst, refl, List, [], ◌∷◌, append_assoc, append-nil}
use Rattle.std.specs.Prelude.{None}
use Rattle.cc_tree.specs.declared.token.Token.{Token}
use Rattle.cc_tree.specs.declared.terminal.Terminal.{Terminal}
use Rattle.cc_tree.specs.declared.terminal.Terminal.TheVariants as t
use Rattle.cc_tree.specs.declared.terminal.NameKind.{NameKind}
use Rattle.cc_tree.specs.declared.terminal.ContextualWord.TheVariants as c
use Rattle.cc_tree.specs.declared.terminal.ReservedWord.TheVariants as w
use Rattle.cc_tree.specs.declared.terminal.Sign.TheVariants as s
use Rattle.cc_tree.specs.declared.type_name.TypeName.{TypeName}
use Rattle.cc_tree.specs.Terminals.{Classified, at}
use Rattle.cc_tree.specs.GrammarTypes.{ReadsCore}
use Rattle.cc_table.specs.declared.symbols.Sort.TheVariants as o
use Rattle.cc_table.specs.declared.symbols.Action.TheVariants as a
use Rattle.cc_table.specs.declared.symbols.Input.{Input}
use Rattle.cc_table.specs.declared.symbols.Input.TheVariants as i
use Rattle.cc_table.specs.declared.symbols.Symbol.{Symbol}
use Rattle.cc_table.specs.declared.symbols.Symbol.TheVariants.{Non, Act}
use Rattle.cc_table.specs.Table.{otherwise}
use Rattle.cc_pushdown.specs.declared.value.Node.{Node}
use Rattle.cc_pushdown.specs.declared.value.Value.{Value}
use Rattle.cc_pushdown.specs.declared.value.Value.TheVariants as v
use Rattle.cc_pushdown.specs.Machine.{Fed, fed, At, lack, step}
use Rattle.cc_grammar_laws.proofs.Stands.{StandsToken, StandsCore, token, core, Ahead}
use Rattle.cc_grammar_laws.proofs.TypeParts.{takes, mark}
use Rattle.cc_grammar_laws.proofs.Means.{Means, Meaning, after}
use Rattle.cc_grammar_laws.proofs.Owed.{at_input}
use Rattle.cc_grammar_laws.proofs.PutBack.{put_back_clear}
use Rattle.cc_tree.specs.declared.statement.Statement.{Statement}
use Rattle.cc_tree.specs.GrammarStatements as st
use Rattle.cc_tree.specs.GrammarStatements.{NoElse}

module _ (last : List Value) where
  block_row : (more : List Symbol) (vs : List Value) (ts : List Classified) → Means last (Non o.Block ∷ Act a.MakeBlockStatement ∷ more) vs ts → Means last (Non o.Statement ∷ more) vs ts
  block_row more vs ts (body, span, rest, p, m) = (_, _, rest, st.of_block p, m)

  expression_row : (more : List Symbol) (vs : List Value) (ts : List Classified) → Means last (Non o.Expression ∷ Non o.KeptSemicolon ∷ Act a.MakeExpressionStatement ∷ more) vs ts → Means last (Non o.Statement ∷ more) vs ts
  expression_row more vs ts (x, span, us, p, (semicolon, rest, takes, m)) = (_, _, rest, st.expression p, m)

  delete_row : (more : List Symbol) (vs : List Value) (k : Token) (ts : List Classified) → Means last (Non o.Expression ∷ Non o.KeptSemicolon ∷ Act a.MakeDelete ∷ more) (mark (t.Word w.Delete) k.span ∷ vs) ts
      → Means last (Non o.Statement ∷ more) vs (at (t.Word w.Delete) k ∷ ts)
  delete_row more vs k ts (x, span, us, p, (semicolon, rest, takes, m)) = (_, _, rest, st.delete p, m)

  if_row : (more : List Symbol) (vs : List Value) (k : Token) (ts : List Classified) → Means last (Non o.OpenParenthesis ∷ Non o.Expression ∷ Non o.CloseParenthesis ∷ Non o.Statement ∷ Non o.ElseRest ∷ more) (mark (t.Word w.If) k.span ∷ vs) ts
      → Means last (Non o.Statement ∷ more) vs (at (t.Word w.If) k ∷ ts)
  if_row more vs k ts (open_, us, takes, (x, span, ws, p, (close, xs, takes, (chosen, first, ys, q, (one, whole, rest, r, m))))) = (one, whole, rest, r k.kind open_ close span us xs p q, m)

  while_row : (more : List Symbol) (vs : List Value) (k : Token) (ts : List Classified) → Means last (Non o.OpenParenthesis ∷ Non o.Expression ∷ Non o.CloseParenthesis ∷ Non o.Statement ∷ Act a.MakeWhile ∷ more) (mark (t.Word w.While) k.span ∷ vs) ts
      → Means last (Non o.Statement ∷ more) vs (at (t.Word w.While) k ∷ ts)
  while_row more vs k ts (open_, us, takes, (x, span, ws, p, (close, xs, takes, (body, first, rest, q, m)))) = (_, _, rest, st.while p q, m)

  do_row : (more : List Symbol) (vs : List Value) (k : Token) (ts : List Classified) → Means last (Non o.Statement ∷ Non o.WhileWord ∷ Non o.OpenParenthesis ∷ Non o.Expression ∷ Non o.CloseParenthesis ∷ Non o.KeptSemicolon ∷ Act a.MakeDo ∷ more) (mark (t.Word w.Do) k.span ∷ vs) ts
      → Means last (Non o.Statement ∷ more) vs (at (t.Word w.Do) k ∷ ts)
  do_row more vs k ts (body, first, us, p, (while_, ws, takes, (open_, xs, takes, (x, span, ys, q, (close, zs, takes, (semicolon, rest, takes, m)))))) = (_, _, rest, st.do_ p q, m)

  for_row : (more : List Symbol) (vs : List Value) (k : Token) (ts : List Classified) → Means last (Non o.ForRest ∷ more) (mark (t.Word w.For) k.span ∷ vs) ts
      → Means last (Non o.Statement ∷ more) vs (at (t.Word w.For) k ∷ ts)
  for_row more vs k ts (one, span, rest, p, m) = (one, span, rest, p k.kind, m)

  switch_row : (more : List Symbol) (vs : List Value) (k : Token) (ts : List Classified) → Means last (Non o.OpenParenthesis ∷ Non o.Expression ∷ Non o.CloseParenthesis ∷ Non o.OpenBrace ∷ Act a.StartSections ∷ Non o.Sections ∷ Non o.KeptCloseBrace ∷ Act a.MakeSwitch ∷ more) (mark (t.Word w.Switch) k.span ∷ vs) ts
      → Means last (Non o.Statement ∷ more) vs (at (t.Word w.Switch) k ∷ ts)
  switch_row more vs k ts (open_, us, takes, (x, span, ws, p, (close, xs, takes, (brace, ys, takes, (sections, zs, q, (end, rest, takes, m)))))) = (_, _, rest, st.switch p q, m)

  break_row : (more : List Symbol) (vs : List Value) (k : Token) (ts : List Classified) → Means last (Non o.KeptSemicolon ∷ Act a.MakeBreak ∷ more) (mark (t.Word w.Break) k.span ∷ vs) ts
      → Means last (Non o.Statement ∷ more) vs (at (t.Word w.Break) k ∷ ts)
  break_row more vs k ts (semicolon, rest, takes, m) = (_, _, rest, st.break, m)

  continue_row : (more : List Symbol) (vs : List Value) (k : Token) (ts : List Classified) → Means last (Non o.KeptSemicolon ∷ Act a.MakeContinue ∷ more) (mark (t.Word w.Continue) k.span ∷ vs) ts
      → Means last (Non o.Statement ∷ more) vs (at (t.Word w.Continue) k ∷ ts)
  continue_row more vs k ts (semicolon, rest, takes, m) = (_, _, rest, st.continue, m)

  return_row : (more : List Symbol) (vs : List Value) (k : Token) (ts : List Classified) → Means last (Non o.OptionalExpression ∷ Act a.MakeReturn ∷ more) (mark (t.Word w.Return) k.span ∷ vs) ts
      → Means last (Non o.Statement ∷ more) vs (at (t.Word w.Return) k ∷ ts)
  return_row more vs k ts (x, semicolon, rest, p, m) = (_, _, rest, st.return p, m)

  throw_row : (more : List Symbol) (vs : List Value) (k : Token) (ts : List Classified) → Means last (Non o.OptionalExpression ∷ Act a.MakeThrow ∷ more) (mark (t.Word w.Throw) k.span ∷ vs) ts
      → Means last (Non o.Statement ∷ more) vs (at (t.Word w.Throw) k ∷ ts)
  throw_row more vs k ts (x, semicolon, rest, p, m) = (_, _, rest, st.throw p, m)

  try_row : (more : List Symbol) (vs : List Value) (k : Token) (ts : List Classified) → Means last (Non o.Block ∷ Act a.StartCatches ∷ Non o.TryRest ∷ more) (mark (t.Word w.Try) k.span ∷ vs) ts
      → Means last (Non o.Statement ∷ more) vs (at (t.Word w.Try) k ∷ ts)
  try_row more vs k ts (body, first, us, p, (one, span, rest, q, m)) = (one, span, rest, q k.kind ts us p st.no_catch, m)

  take_Statement : (more : List Symbol) (vs : List Value) (terminal : Terminal) (value : Value) (fs : List Fed) (ts rest : List Classified) → StandsToken terminal value ts rest → Ahead fs rest
      → Meaning last (step (At (Non o.Statement ∷ more) vs (fed (i.Token terminal) value ∷ fs))) → Means last (Non o.Statement ∷ more) vs ts
  take_Statement more vs (t.Sign s.OpenBrace) value fs ts rest p h e = block_row more vs ts (e ts (rest, p, h))
  take_Statement more vs (t.Sign s.Semicolon) _ fs _ rest (token {k} f) h e = (_, _, rest, st.empty, (after last (Act a.MakeEmpty ∷ more) (mark (t.Sign s.Semicolon) k.span ∷ vs) fs rest h e))
  take_Statement more vs (t.Word w.Delete) _ fs _ rest (token {k} f) h e = delete_row more vs k rest (after last (Non o.Expression ∷ Non o.KeptSemicolon ∷ Act a.MakeDelete ∷ more) (mark (t.Word w.Delete) k.span ∷ vs) fs rest h e)
  take_Statement more vs (t.Word w.If) _ fs _ rest (token {k} f) h e = if_row more vs k rest (after last (Non o.OpenParenthesis ∷ Non o.Expression ∷ Non o.CloseParenthesis ∷ Non o.Statement ∷ Non o.ElseRest ∷ more) (mark (t.Word w.If) k.span ∷ vs) fs rest h e)
  take_Statement more vs (t.Word w.While) _ fs _ rest (token {k} f) h e = while_row more vs k rest (after last (Non o.OpenParenthesis ∷ Non o.Expression ∷ Non o.CloseParenthesis ∷ Non o.Statement ∷ Act a.MakeWhile ∷ more) (mark (t.Word w.While) k.span ∷ vs) fs rest h e)
  take_Statement more vs (t.Word w.Do) _ fs _ rest (token {k} f) h e = do_row more vs k rest (after last (Non o.Statement ∷ Non o.WhileWord ∷ Non o.OpenParenthesis ∷ Non o.Expression ∷ Non o.CloseParenthesis ∷ Non o.KeptSemicolon ∷ Act a.MakeDo ∷ more) (mark (t.Word w.Do) k.span ∷ vs) fs rest h e)
  take_Statement more vs (t.Word w.For) _ fs _ rest (token {k} f) h e = for_row more vs k rest (after last (Non o.ForRest ∷ more) (mark (t.Word w.For) k.span ∷ vs) fs rest h e)
  take_Statement more vs (t.Word w.Switch) _ fs _ rest (token {k} f) h e = switch_row more vs k rest (after last (Non o.OpenParenthesis ∷ Non o.Expression ∷ Non o.CloseParenthesis ∷ Non o.OpenBrace ∷ Act a.StartSections ∷ Non o.Sections ∷ Non o.KeptCloseBrace ∷ Act a.MakeSwitch ∷ more) (mark (t.Word w.Switch) k.span ∷ vs) fs rest h e)
  take_Statement more vs (t.Word w.Break) _ fs _ rest (token {k} f) h e = break_row more vs k rest (after last (Non o.KeptSemicolon ∷ Act a.MakeBreak ∷ more) (mark (t.Word w.Break) k.span ∷ vs) fs rest h e)
  take_Statement more vs (t.Word w.Continue) _ fs _ rest (token {k} f) h e = continue_row more vs k rest (after last (Non o.KeptSemicolon ∷ Act a.MakeContinue ∷ more) (mark (t.Word w.Continue) k.span ∷ vs) fs rest h e)
  take_Statement more vs (t.Word w.Return) _ fs _ rest (token {k} f) h e = return_row more vs k rest (after last (Non o.OptionalExpression ∷ Act a.MakeReturn ∷ more) (mark (t.Word w.Return) k.span ∷ vs) fs rest h e)
  take_Statement more vs (t.Word w.Throw) _ fs _ rest (token {k} f) h e = throw_row more vs k rest (after last (Non o.OptionalExpression ∷ Act a.MakeThrow ∷ more) (mark (t.Word w.Throw) k.span ∷ vs) fs rest h e)
  take_Statement more vs (t.Word w.Try) _ fs _ rest (token {k} f) h e = try_row more vs k rest (after last (Non o.Block ∷ Act a.StartCatches ∷ Non o.TryRest ∷ more) (mark (t.Word w.Try) k.span ∷ vs) fs rest h e)
  take_Statement more vs (t.Name kind word) value fs ts rest p h e = (e ts (rest, p, h))
  take_Statement more vs (t.Word w.Void) value fs ts rest p h e = (e ts (rest, p, h))
  take_Statement more vs (t.Word w.Bool) value fs ts rest p h e = (e ts (rest, p, h))
  take_Statement more vs (t.Word w.WideChar) value fs ts rest p h e = (e ts (rest, p, h))
  take_Statement more vs (t.Word w.Signed) value fs ts rest p h e = (e ts (rest, p, h))
  take_Statement more vs (t.Word w.Unsigned) value fs ts rest p h e = (e ts (rest, p, h))
  take_Statement more vs (t.Word w.Short) value fs ts rest p h e = (e ts (rest, p, h))
  take_Statement more vs (t.Word w.Int) value fs ts rest p h e = (e ts (rest, p, h))
  take_Statement more vs (t.Word w.Long) value fs ts rest p h e = (e ts (rest, p, h))
  take_Statement more vs terminal value fs ts rest p h e = expression_row more vs ts (e ts (rest, p, h))

  pub back_Statement : (more : List Symbol) (vs : List Value) (input : Input) (value : Value) (fs : List Fed) → Meaning last (step (At (Non o.Statement ∷ more) vs (fed input value ∷ fs))) → Meaning last (At (Non o.Statement ∷ more) vs (fed input value ∷ fs))
  back_Statement more vs i.ConstructorName value fs e ts h = tt
  back_Statement more vs (i.Token terminal) value fs e ts (rest, p, h) = take_Statement more vs terminal value fs ts rest p h e
  back_Statement more vs input value fs e ts h = expression_row more vs ts (e ts h)

  pub end_Statement : (more : List Symbol) (vs : List Value) → Meaning last (lack (otherwise o.Statement) more vs []) → Meaning last (At (Non o.Statement ∷ more) vs [])
  end_Statement more vs e ts h = expression_row more vs ts (e ts h)

  local_expression_row : (more : List Symbol) (vs : List Value) (ts : List Classified) → Means last (Non o.Expression ∷ Non o.KeptSemicolon ∷ Act a.MakeExpressionStatement ∷ more) vs ts → Means last (Non o.LocalOrExpression ∷ more) vs ts
  local_expression_row more vs ts (x, span, us, p, (semicolon, rest, takes, m)) = (_, _, rest, st.expression p, m)

  local_row : (more : List Symbol) (whole : Node TypeName) (vs : List Value) (ts us : List Classified) → ReadsCore whole.tree whole.span ts us
      → Means last (Non o.TypeMarks ∷ Act a.StartDeclarators ∷ Non o.Declarator ∷ Act a.AddDeclarator ∷ Non o.MoreDeclarators ∷ Act a.MakeLocal ∷ Non o.KeptSemicolon ∷ Act a.MakeLocalStatement ∷ more) (v.Type whole ∷ vs) us → Means last (Non o.LocalOrExpression ∷ more) vs ts
  local_row more whole vs ts us c (of, span, xs, p, (one, ys, q, (items, reach, zs, r, (semicolon, rest, takes, m)))) = (_, _, rest, st.local (st.local (p ts c) (r one xs refl q)), m)

  core_LocalOrExpression : (more : List Symbol) (vs : List Value) (value : Value) (fs : List Fed) (ts rest : List Classified) → StandsCore value ts rest → Ahead fs rest
      → Meaning last (step (At (Non o.LocalOrExpression ∷ more) vs (fed i.CoreType value ∷ fs))) → Means last (Non o.LocalOrExpression ∷ more) vs ts
  core_LocalOrExpression more vs _ fs ts rest (core {of} {span} p) h e =
      local_row more (record { tree = of; span = span }) vs ts rest p (after last (Non o.TypeMarks ∷ Act a.StartDeclarators ∷ Non o.Declarator ∷ Act a.AddDeclarator ∷ Non o.MoreDeclarators ∷ Act a.MakeLocal ∷ Non o.KeptSemicolon ∷ Act a.MakeLocalStatement ∷ more) (v.Type (record { tree = of; span = span }) ∷ vs) fs rest h e)

  pub back_LocalOrExpression : (more : List Symbol) (vs : List Value) (input : Input) (value : Value) (fs : List Fed) → Meaning last (step (At (Non o.LocalOrExpression ∷ more) vs (fed input value ∷ fs))) → Meaning last (At (Non o.LocalOrExpression ∷ more) vs (fed input value ∷ fs))
  back_LocalOrExpression more vs i.CoreType value fs e ts (rest, p, h) = core_LocalOrExpression more vs value fs ts rest p h e
  back_LocalOrExpression more vs i.ConstructorName value fs e ts h = tt
  back_LocalOrExpression more vs (i.Token t.Other) value fs e ts h = local_expression_row more vs ts (e ts h)
  back_LocalOrExpression more vs input value fs e ts h = local_expression_row more vs ts (e ts h)

  pub end_LocalOrExpression : (more : List Symbol) (vs : List Value) → Meaning last (lack (otherwise o.LocalOrExpression) more vs []) → Meaning last (At (Non o.LocalOrExpression ∷ more) vs [])
  end_LocalOrExpression more vs e ts h = local_expression_row more vs ts (e ts h)

  braces_row : (more : List Symbol) (vs : List Value) (k : Token) (ts : List Classified) → Means last (Act a.StartStatements ∷ Non o.Statements ∷ Non o.KeptCloseBrace ∷ Act a.MakeBlock ∷ more) (mark (t.Sign s.OpenBrace) k.span ∷ vs) ts
      → Means last (Non o.Block ∷ more) vs (at (t.Sign s.OpenBrace) k ∷ ts)
  braces_row more vs k ts (items, us, p, (close, rest, takes, m)) = (_, _, rest, st.block_ p, m)

  take_Block : (more : List Symbol) (vs : List Value) (terminal : Terminal) (value : Value) (fs : List Fed) (ts rest : List Classified) → StandsToken terminal value ts rest → Ahead fs rest
      → Meaning last (step (At (Non o.Block ∷ more) vs (fed (i.Token terminal) value ∷ fs))) → Means last (Non o.Block ∷ more) vs ts
  take_Block more vs (t.Sign s.OpenBrace) _ fs _ rest (token {k} f) h e = braces_row more vs k rest (after last (Act a.StartStatements ∷ Non o.Statements ∷ Non o.KeptCloseBrace ∷ Act a.MakeBlock ∷ more) (mark (t.Sign s.OpenBrace) k.span ∷ vs) fs rest h e)
  take_Block more vs _ value fs ts rest p h e = absurd e

  pub back_Block : (more : List Symbol) (vs : List Value) (input : Input) (value : Value) (fs : List Fed) → Meaning last (step (At (Non o.Block ∷ more) vs (fed input value ∷ fs))) → Meaning last (At (Non o.Block ∷ more) vs (fed input value ∷ fs))
  back_Block more vs i.ConstructorName value fs e ts h = absurd e
  back_Block more vs (i.Token terminal) value fs e ts (rest, p, h) = take_Block more vs terminal value fs ts rest p h e
  back_Block more vs input value fs e ts h = absurd e

  pub end_Block : (more : List Symbol) (vs : List Value) → Meaning last (lack (otherwise o.Block) more vs []) → Meaning last (At (Non o.Block ∷ more) vs [])
  end_Block more vs e ts h = absurd e

  no_statements : (more : List Symbol) (first : List Statement) (vs : List Value) (ts : List Classified) → Means last more (v.Statements first ∷ vs) ts → Means last (Non o.Statements ∷ more) (v.Statements first ∷ vs) ts
  no_statements more first vs ts m = ([], ts, st.no_statement, subst (λ q. Means last more (v.Statements q ∷ vs) ts) (sym (append-nil first)) m)

  next_statements : (more : List Symbol) (first : List Statement) (vs : List Value) (ts : List Classified) → Means last (Non o.Statement ∷ Act a.AddStatement ∷ Non o.Statements ∷ more) (v.Statements first ∷ vs) ts → Means last (Non o.Statements ∷ more) (v.Statements first ∷ vs) ts
  next_statements more first vs ts (one, span, us, p, (items, rest, q, m)) = (one ∷ items, rest, st.next_statement p q, subst (λ q. Means last more (v.Statements q ∷ vs) rest) (append_assoc first (one ∷ []) items) m)

  take_Statements : (more : List Symbol) (first : List Statement) (vs : List Value) (terminal : Terminal) (value : Value) (fs : List Fed) (ts rest : List Classified) → StandsToken terminal value ts rest → Ahead fs rest
      → Meaning last (step (At (Non o.Statements ∷ more) (v.Statements first ∷ vs) (fed (i.Token terminal) value ∷ fs))) → Means last (Non o.Statements ∷ more) (v.Statements first ∷ vs) ts
  take_Statements more first vs (t.Sign s.CloseBrace) value fs ts rest p h e = no_statements more first vs ts (e ts (rest, p, h))
  take_Statements more first vs terminal value fs ts rest p h e = next_statements more first vs ts (e ts (rest, p, h))

  pub back_Statements : (more : List Symbol) (vs : List Value) (input : Input) (value : Value) (fs : List Fed) → Meaning last (step (At (Non o.Statements ∷ more) vs (fed input value ∷ fs))) → Meaning last (At (Non o.Statements ∷ more) vs (fed input value ∷ fs))
  back_Statements more (v.Statements first ∷ vs) i.ConstructorName value fs e ts h = tt
  back_Statements more (v.Statements first ∷ vs) (i.Token terminal) value fs e ts (rest, p, h) = take_Statements more first vs terminal value fs ts rest p h e
  back_Statements more (v.Statements first ∷ vs) input value fs e ts h = next_statements more first vs ts (e ts h)
  back_Statements more vs input value fs e ts h = at_input input (Non o.Statements ∷ more) (Means last (Non o.Statements ∷ more)) vs ts tt

  pub end_Statements : (more : List Symbol) (vs : List Value) → Meaning last (lack (otherwise o.Statements) more vs []) → Meaning last (At (Non o.Statements ∷ more) vs [])
  end_Statements more (v.Statements first ∷ vs) e ts h = next_statements more first vs ts (e ts h)
  end_Statements more vs e ts h = tt

  no_section_statements : (more : List Symbol) (first : List Statement) (vs : List Value) (ts : List Classified) → Means last more (v.Statements first ∷ vs) ts → Means last (Non o.SectionStatements ∷ more) (v.Statements first ∷ vs) ts
  no_section_statements more first vs ts m = ([], ts, st.no_statement, subst (λ q. Means last more (v.Statements q ∷ vs) ts) (sym (append-nil first)) m)

  next_section_statements : (more : List Symbol) (first : List Statement) (vs : List Value) (ts : List Classified) → Means last (Non o.Statement ∷ Act a.AddStatement ∷ Non o.SectionStatements ∷ more) (v.Statements first ∷ vs) ts → Means last (Non o.SectionStatements ∷ more) (v.Statements first ∷ vs) ts
  next_section_statements more first vs ts (one, span, us, p, (items, rest, q, m)) = (one ∷ items, rest, st.next_statement p q, subst (λ q. Means last more (v.Statements q ∷ vs) rest) (append_assoc first (one ∷ []) items) m)

  take_SectionStatements : (more : List Symbol) (first : List Statement) (vs : List Value) (terminal : Terminal) (value : Value) (fs : List Fed) (ts rest : List Classified) → StandsToken terminal value ts rest → Ahead fs rest
      → Meaning last (step (At (Non o.SectionStatements ∷ more) (v.Statements first ∷ vs) (fed (i.Token terminal) value ∷ fs))) → Means last (Non o.SectionStatements ∷ more) (v.Statements first ∷ vs) ts
  take_SectionStatements more first vs (t.Word w.Case) value fs ts rest p h e = no_section_statements more first vs ts (e ts (rest, p, h))
  take_SectionStatements more first vs (t.Word w.Default) value fs ts rest p h e = no_section_statements more first vs ts (e ts (rest, p, h))
  take_SectionStatements more first vs (t.Sign s.CloseBrace) value fs ts rest p h e = no_section_statements more first vs ts (e ts (rest, p, h))
  take_SectionStatements more first vs terminal value fs ts rest p h e = next_section_statements more first vs ts (e ts (rest, p, h))

  pub back_SectionStatements : (more : List Symbol) (vs : List Value) (input : Input) (value : Value) (fs : List Fed) → Meaning last (step (At (Non o.SectionStatements ∷ more) vs (fed input value ∷ fs))) → Meaning last (At (Non o.SectionStatements ∷ more) vs (fed input value ∷ fs))
  back_SectionStatements more (v.Statements first ∷ vs) i.ConstructorName value fs e ts h = tt
  back_SectionStatements more (v.Statements first ∷ vs) (i.Token terminal) value fs e ts (rest, p, h) = take_SectionStatements more first vs terminal value fs ts rest p h e
  back_SectionStatements more (v.Statements first ∷ vs) input value fs e ts h = next_section_statements more first vs ts (e ts h)
  back_SectionStatements more vs input value fs e ts h = at_input input (Non o.SectionStatements ∷ more) (Means last (Non o.SectionStatements ∷ more)) vs ts tt

  pub end_SectionStatements : (more : List Symbol) (vs : List Value) → Meaning last (lack (otherwise o.SectionStatements) more vs []) → Meaning last (At (Non o.SectionStatements ∷ more) vs [])
  end_SectionStatements more (v.Statements first ∷ vs) e ts h = next_section_statements more first vs ts (e ts h)
  end_SectionStatements more vs e ts h = tt

  else_row : (more : List Symbol) (vs : List Value) (k : Token) (ts : List Classified) → Means last (Non o.Statement ∷ Act a.MakeIfElse ∷ more) (vs) ts
      → Means last (Non o.ElseRest ∷ more) vs (at (t.Word w.Else) k ∷ ts)
  else_row more vs k ts (other, second, rest, r, m) = (_, _, rest, (λ kind open_ close condition us ws p q. st.if_else p q r), m)

  no_else_row : (more : List Symbol) (vs : List Value) (ts : List Classified) → NoElse ts → Means last (Act a.MakeIf ∷ more) vs ts → Means last (Non o.ElseRest ∷ more) vs ts
  no_else_row more vs ts n m = (_, _, ts, (λ kind open_ close condition us ws p q. st.if_alone p q n), m)

  take_ElseRest : (more : List Symbol) (vs : List Value) (terminal : Terminal) (value : Value) (fs : List Fed) (ts rest : List Classified) → StandsToken terminal value ts rest → Ahead fs rest
      → Meaning last (step (At (Non o.ElseRest ∷ more) vs (fed (i.Token terminal) value ∷ fs))) → Means last (Non o.ElseRest ∷ more) vs ts
  take_ElseRest more vs (t.Word w.Else) _ fs _ rest (token {k} f) h e = else_row more vs k rest (after last (Non o.Statement ∷ Act a.MakeIfElse ∷ more) (vs) fs rest h e)
  take_ElseRest more vs terminal _ fs _ rest (token {k} f) h e = no_else_row more vs (at terminal k ∷ rest) tt (e (at terminal k ∷ rest) (rest, token {k = k} f, h))

  pub back_ElseRest : (more : List Symbol) (vs : List Value) (input : Input) (value : Value) (fs : List Fed) → Meaning last (step (At (Non o.ElseRest ∷ more) vs (fed input value ∷ fs))) → Meaning last (At (Non o.ElseRest ∷ more) vs (fed input value ∷ fs))
  back_ElseRest more vs i.ConstructorName value fs e ts h = tt
  back_ElseRest more vs (i.Token terminal) value fs e ts (rest, p, h) = take_ElseRest more vs terminal value fs ts rest p h e
  back_ElseRest more vs input value fs e ts h = no_else_row more vs ts (put_back_clear input value ts h.0 tt h.1).0 (e ts h)

  pub end_ElseRest : (more : List Symbol) (vs : List Value) → Meaning last (lack (otherwise o.ElseRest) more vs []) → Meaning last (At (Non o.ElseRest ∷ more) vs [])
  end_ElseRest more vs e ts h = no_else_row more vs ts (subst NoElse (sym h) tt) (e ts h)

  for_parts_row : (more : List Symbol) (vs : List Value) (k : Token) (ts : List Classified) → Means last (Non o.ForStart ∷ Non o.OptionalExpression ∷ Non o.ForAdvance ∷ Non o.Statement ∷ Act a.MakeFor ∷ more) (vs) ts
      → Means last (Non o.ForRest ∷ more) vs (at (t.Sign s.OpenParenthesis) k ∷ ts)
  for_parts_row more vs k ts (begins, us, p, (condition, semicolon, ws, q, (advance, close, xs, r, (body, first, rest, y, m)))) = (_, _, rest, (λ kind. st.for p q r y), m)

  each_row : (more : List Symbol) (vs : List Value) (each : NameKind) (k : Token) (ts : List Classified) → Means last (Non o.OpenParenthesis ∷ Non o.Type ∷ Non o.Identifier ∷ Non o.InWord ∷ Non o.Expression ∷ Non o.CloseParenthesis ∷ Non o.Statement ∷ Act a.MakeForEach ∷ more) (vs) ts
      → Means last (Non o.ForRest ∷ more) vs (at (t.Name each c.Each) k ∷ ts)
  each_row more vs each k ts (open_, us, takes, (of, span, ws, p, (kind, word, name, xs, id, takes, (within, in_, ys, takes, (x, second, zs, q, (close, behind, takes, (body, first, rest, r, m))))))) = (_, _, rest, (λ kind. st.for_each p id q r), m)

  take_ForRest : (more : List Symbol) (vs : List Value) (terminal : Terminal) (value : Value) (fs : List Fed) (ts rest : List Classified) → StandsToken terminal value ts rest → Ahead fs rest
      → Meaning last (step (At (Non o.ForRest ∷ more) vs (fed (i.Token terminal) value ∷ fs))) → Means last (Non o.ForRest ∷ more) vs ts
  take_ForRest more vs (t.Sign s.OpenParenthesis) _ fs _ rest (token {k} f) h e = for_parts_row more vs k rest (after last (Non o.ForStart ∷ Non o.OptionalExpression ∷ Non o.ForAdvance ∷ Non o.Statement ∷ Act a.MakeFor ∷ more) (vs) fs rest h e)
  take_ForRest more vs (t.Name each c.Each) _ fs _ rest (token {k} f) h e = each_row more vs each k rest (after last (Non o.OpenParenthesis ∷ Non o.Type ∷ Non o.Identifier ∷ Non o.InWord ∷ Non o.Expression ∷ Non o.CloseParenthesis ∷ Non o.Statement ∷ Act a.MakeForEach ∷ more) (vs) fs rest h e)
  take_ForRest more vs _ value fs ts rest p h e = absurd e

  pub back_ForRest : (more : List Symbol) (vs : List Value) (input : Input) (value : Value) (fs : List Fed) → Meaning last (step (At (Non o.ForRest ∷ more) vs (fed input value ∷ fs))) → Meaning last (At (Non o.ForRest ∷ more) vs (fed input value ∷ fs))
  back_ForRest more vs i.ConstructorName value fs e ts h = absurd e
  back_ForRest more vs (i.Token terminal) value fs e ts (rest, p, h) = take_ForRest more vs terminal value fs ts rest p h e
  back_ForRest more vs input value fs e ts h = absurd e

  pub end_ForRest : (more : List Symbol) (vs : List Value) → Meaning last (lack (otherwise o.ForRest) more vs []) → Meaning last (At (Non o.ForRest ∷ more) vs [])
  end_ForRest more vs e ts h = absurd e

  start_expression_row : (more : List Symbol) (vs : List Value) (ts : List Classified) → Means last (Non o.Expression ∷ Non o.Semicolon ∷ Act a.StartExpression ∷ more) vs ts → Means last (Non o.ForStart ∷ more) vs ts
  start_expression_row more vs ts (x, span, us, p, (semicolon, rest, takes, m)) = (_, rest, st.expression p, m)

  take_ForStart : (more : List Symbol) (vs : List Value) (terminal : Terminal) (value : Value) (fs : List Fed) (ts rest : List Classified) → StandsToken terminal value ts rest → Ahead fs rest
      → Meaning last (step (At (Non o.ForStart ∷ more) vs (fed (i.Token terminal) value ∷ fs))) → Means last (Non o.ForStart ∷ more) vs ts
  take_ForStart more vs (t.Sign s.Semicolon) _ fs _ rest (token f) h e = (_, rest, st.nothing, (after last (Act a.StartNothing ∷ more) (vs) fs rest h e))
  take_ForStart more vs (t.Name kind word) value fs ts rest p h e = (e ts (rest, p, h))
  take_ForStart more vs (t.Word w.Void) value fs ts rest p h e = (e ts (rest, p, h))
  take_ForStart more vs (t.Word w.Bool) value fs ts rest p h e = (e ts (rest, p, h))
  take_ForStart more vs (t.Word w.WideChar) value fs ts rest p h e = (e ts (rest, p, h))
  take_ForStart more vs (t.Word w.Signed) value fs ts rest p h e = (e ts (rest, p, h))
  take_ForStart more vs (t.Word w.Unsigned) value fs ts rest p h e = (e ts (rest, p, h))
  take_ForStart more vs (t.Word w.Short) value fs ts rest p h e = (e ts (rest, p, h))
  take_ForStart more vs (t.Word w.Int) value fs ts rest p h e = (e ts (rest, p, h))
  take_ForStart more vs (t.Word w.Long) value fs ts rest p h e = (e ts (rest, p, h))
  take_ForStart more vs terminal value fs ts rest p h e = start_expression_row more vs ts (e ts (rest, p, h))

  pub back_ForStart : (more : List Symbol) (vs : List Value) (input : Input) (value : Value) (fs : List Fed) → Meaning last (step (At (Non o.ForStart ∷ more) vs (fed input value ∷ fs))) → Meaning last (At (Non o.ForStart ∷ more) vs (fed input value ∷ fs))
  back_ForStart more vs i.ConstructorName value fs e ts h = tt
  back_ForStart more vs (i.Token terminal) value fs e ts (rest, p, h) = take_ForStart more vs terminal value fs ts rest p h e
  back_ForStart more vs input value fs e ts h = start_expression_row more vs ts (e ts h)

  pub end_ForStart : (more : List Symbol) (vs : List Value) → Meaning last (lack (otherwise o.ForStart) more vs []) → Meaning last (At (Non o.ForStart ∷ more) vs [])
  end_ForStart more vs e ts h = start_expression_row more vs ts (e ts h)

  first_expression_row : (more : List Symbol) (vs : List Value) (ts : List Classified) → Means last (Non o.Expression ∷ Non o.Semicolon ∷ Act a.StartExpression ∷ more) vs ts → Means last (Non o.LocalOrExpressionStart ∷ more) vs ts
  first_expression_row more vs ts (x, span, us, p, (semicolon, rest, takes, m)) = (_, rest, st.expression p, m)

  first_local_row : (more : List Symbol) (whole : Node TypeName) (vs : List Value) (ts us : List Classified) → ReadsCore whole.tree whole.span ts us
      → Means last (Non o.TypeMarks ∷ Act a.StartDeclarators ∷ Non o.Declarator ∷ Act a.AddDeclarator ∷ Non o.MoreDeclarators ∷ Act a.MakeLocal ∷ Non o.Semicolon ∷ Act a.StartLocal ∷ more) (v.Type whole ∷ vs) us → Means last (Non o.LocalOrExpressionStart ∷ more) vs ts
  first_local_row more whole vs ts us c (of, span, xs, p, (one, ys, q, (items, reach, zs, r, (semicolon, rest, takes, m)))) = (_, rest, st.local (st.local (p ts c) (r one xs refl q)), m)

  core_LocalOrExpressionStart : (more : List Symbol) (vs : List Value) (value : Value) (fs : List Fed) (ts rest : List Classified) → StandsCore value ts rest → Ahead fs rest
      → Meaning last (step (At (Non o.LocalOrExpressionStart ∷ more) vs (fed i.CoreType value ∷ fs))) → Means last (Non o.LocalOrExpressionStart ∷ more) vs ts
  core_LocalOrExpressionStart more vs _ fs ts rest (core {of} {span} p) h e =
      first_local_row more (record { tree = of; span = span }) vs ts rest p (after last (Non o.TypeMarks ∷ Act a.StartDeclarators ∷ Non o.Declarator ∷ Act a.AddDeclarator ∷ Non o.MoreDeclarators ∷ Act a.MakeLocal ∷ Non o.Semicolon ∷ Act a.StartLocal ∷ more) (v.Type (record { tree = of; span = span }) ∷ vs) fs rest h e)

  pub back_LocalOrExpressionStart : (more : List Symbol) (vs : List Value) (input : Input) (value : Value) (fs : List Fed) → Meaning last (step (At (Non o.LocalOrExpressionStart ∷ more) vs (fed input value ∷ fs))) → Meaning last (At (Non o.LocalOrExpressionStart ∷ more) vs (fed input value ∷ fs))
  back_LocalOrExpressionStart more vs i.CoreType value fs e ts (rest, p, h) = core_LocalOrExpressionStart more vs value fs ts rest p h e
  back_LocalOrExpressionStart more vs i.ConstructorName value fs e ts h = tt
  back_LocalOrExpressionStart more vs (i.Token t.Other) value fs e ts h = first_expression_row more vs ts (e ts h)
  back_LocalOrExpressionStart more vs input value fs e ts h = first_expression_row more vs ts (e ts h)

  pub end_LocalOrExpressionStart : (more : List Symbol) (vs : List Value) → Meaning last (lack (otherwise o.LocalOrExpressionStart) more vs []) → Meaning last (At (Non o.LocalOrExpressionStart ∷ more) vs [])
  end_LocalOrExpressionStart more vs e ts h = first_expression_row more vs ts (e ts h)

  some_optional_expression : (more : List Symbol) (vs : List Value) (ts : List Classified) → Means last (Non o.Expression ∷ Non o.KeptSemicolon ∷ Act a.SomeExpression ∷ more) vs ts → Means last (Non o.OptionalExpression ∷ more) vs ts
  some_optional_expression more vs ts (x, span, us, p, (k, rest, takes, m)) = (_, k, rest, st.some p, m)

  take_OptionalExpression : (more : List Symbol) (vs : List Value) (terminal : Terminal) (value : Value) (fs : List Fed) (ts rest : List Classified) → StandsToken terminal value ts rest → Ahead fs rest
      → Meaning last (step (At (Non o.OptionalExpression ∷ more) vs (fed (i.Token terminal) value ∷ fs))) → Means last (Non o.OptionalExpression ∷ more) vs ts
  take_OptionalExpression more vs (t.Sign s.Semicolon) _ fs _ rest (token {k} f) h e = (None, k, rest, st.none, (after last (Act a.NoExpression ∷ more) (mark (t.Sign s.Semicolon) k.span ∷ vs) fs rest h e))
  take_OptionalExpression more vs terminal value fs ts rest p h e = some_optional_expression more vs ts (e ts (rest, p, h))

  pub back_OptionalExpression : (more : List Symbol) (vs : List Value) (input : Input) (value : Value) (fs : List Fed) → Meaning last (step (At (Non o.OptionalExpression ∷ more) vs (fed input value ∷ fs))) → Meaning last (At (Non o.OptionalExpression ∷ more) vs (fed input value ∷ fs))
  back_OptionalExpression more vs i.ConstructorName value fs e ts h = tt
  back_OptionalExpression more vs (i.Token terminal) value fs e ts (rest, p, h) = take_OptionalExpression more vs terminal value fs ts rest p h e
  back_OptionalExpression more vs input value fs e ts h = some_optional_expression more vs ts (e ts h)

  pub end_OptionalExpression : (more : List Symbol) (vs : List Value) → Meaning last (lack (otherwise o.OptionalExpression) more vs []) → Meaning last (At (Non o.OptionalExpression ∷ more) vs [])
  end_OptionalExpression more vs e ts h = some_optional_expression more vs ts (e ts h)

  some_for_advance : (more : List Symbol) (vs : List Value) (ts : List Classified) → Means last (Non o.Expression ∷ Non o.KeptCloseParenthesis ∷ Act a.SomeExpression ∷ more) vs ts → Means last (Non o.ForAdvance ∷ more) vs ts
  some_for_advance more vs ts (x, span, us, p, (k, rest, takes, m)) = (_, k, rest, st.some p, m)

  take_ForAdvance : (more : List Symbol) (vs : List Value) (terminal : Terminal) (value : Value) (fs : List Fed) (ts rest : List Classified) → StandsToken terminal value ts rest → Ahead fs rest
      → Meaning last (step (At (Non o.ForAdvance ∷ more) vs (fed (i.Token terminal) value ∷ fs))) → Means last (Non o.ForAdvance ∷ more) vs ts
  take_ForAdvance more vs (t.Sign s.CloseParenthesis) _ fs _ rest (token {k} f) h e = (None, k, rest, st.none, (after last (Act a.NoExpression ∷ more) (mark (t.Sign s.CloseParenthesis) k.span ∷ vs) fs rest h e))
  take_ForAdvance more vs terminal value fs ts rest p h e = some_for_advance more vs ts (e ts (rest, p, h))

  pub back_ForAdvance : (more : List Symbol) (vs : List Value) (input : Input) (value : Value) (fs : List Fed) → Meaning last (step (At (Non o.ForAdvance ∷ more) vs (fed input value ∷ fs))) → Meaning last (At (Non o.ForAdvance ∷ more) vs (fed input value ∷ fs))
  back_ForAdvance more vs i.ConstructorName value fs e ts h = tt
  back_ForAdvance more vs (i.Token terminal) value fs e ts (rest, p, h) = take_ForAdvance more vs terminal value fs ts rest p h e
  back_ForAdvance more vs input value fs e ts h = some_for_advance more vs ts (e ts h)

  pub end_ForAdvance : (more : List Symbol) (vs : List Value) → Meaning last (lack (otherwise o.ForAdvance) more vs []) → Meaning last (At (Non o.ForAdvance ∷ more) vs [])
  end_ForAdvance more vs e ts h = some_for_advance more vs ts (e ts h)
