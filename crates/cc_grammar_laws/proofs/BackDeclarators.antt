-- Backwards over what the automaton does at declarators.
use Rattle.std.proofs.Common.{sym, subst, refl, List, [], ◌∷◌, append_assoc, append-nil}
use Rattle.cc_base.specs.declared.text.Span.{Span}
use Rattle.cc_tree.specs.declared.token.Token.{Token}
use Rattle.cc_tree.specs.declared.terminal.Terminal.{Terminal}
use Rattle.cc_tree.specs.declared.terminal.Terminal.TheVariants as t
use Rattle.cc_tree.specs.declared.terminal.NameKind.TheVariants as n
use Rattle.cc_tree.specs.declared.terminal.ContextualWord.{ContextualWord}
use Rattle.cc_tree.specs.declared.terminal.Sign.TheVariants as s
use Rattle.cc_tree.specs.Spans.{across, identifier}
use Rattle.cc_tree.specs.Terminals.{Classified, at, plain, function}
use Rattle.cc_table.specs.declared.symbols.Sort.TheVariants as o
use Rattle.cc_table.specs.declared.symbols.Action.TheVariants as a
use Rattle.cc_table.specs.declared.symbols.Input.{Input}
use Rattle.cc_table.specs.declared.symbols.Input.TheVariants as i
use Rattle.cc_table.specs.declared.symbols.Symbol.{Symbol}
use Rattle.cc_table.specs.declared.symbols.Symbol.TheVariants.{Non, Act}
use Rattle.cc_table.specs.Table.{otherwise}
use Rattle.cc_pushdown.specs.declared.value.Node.{Node}
use Rattle.cc_pushdown.specs.declared.value.Value.{Value}
use Rattle.cc_pushdown.specs.declared.value.Value.TheVariants as v
use Rattle.cc_pushdown.specs.Machine.{Fed, fed, At, lack, step}
use Rattle.cc_grammar_laws.proofs.Stands.{StandsToken, token, Ahead}
use Rattle.cc_grammar_laws.proofs.TypeParts.{takes, mark}
use Rattle.cc_grammar_laws.proofs.Means.{Means, Meaning, after}
use Rattle.cc_grammar_laws.proofs.Owed.{at_input}
use Rattle.cc_tree.specs.declared.expression.Expression.{Expression}
use Rattle.cc_tree.specs.declared.statement.Declarator.{Declarator}
use Rattle.cc_tree.specs.declared.statement.Initializer.TheVariants as initial
use Rattle.cc_tree.specs.GrammarExpressions as ge
use Rattle.cc_tree.specs.GrammarExpressions.{arguments, ReadsExpressions, ReadsArguments}
use Rattle.cc_tree.specs.GrammarStatements as st
use Rattle.cc_tree.specs.GrammarStatements.{ReadsDeclarator, ReadsDeclarators}
use Rattle.cc_pushdown.specs.Build.{list_span}
use Rattle.cc_grammar_laws.proofs.ExpressionParts.{ListsExpressions, nothing, listed}

some_arguments : {items : List Expression} {before span : Span} {ts rest : List Classified} → ReadsExpressions items span ts rest
    → ReadsArguments before (arguments items (list_span (record { tree = items; span = span }) before)) ts rest
some_arguments (ge.last p) = ge.some (ge.last p)
some_arguments (ge.more p q) = ge.some (ge.more p q)

arguments_of : {list : Node (List Expression)} {before : Span} {ts rest : List Classified} → ListsExpressions list ts rest → ReadsArguments before (arguments list.tree (list_span list before)) ts rest
arguments_of nothing = ge.none
arguments_of (listed p) = some_arguments p

module _ (last : List Value) where
  plain_declarator : (more : List Symbol) (vs : List Value) (word : ContextualWord) (k : Token) (ts : List Classified) → Means last (Non o.DeclaratorRest ∷ more) (v.Name (record { kind = n.Plain; word = word; identifier = identifier k }) ∷ vs) ts
      → Means last (Non o.Declarator ∷ more) vs (at (t.Name n.Plain word) k ∷ ts)
  plain_declarator more vs word k ts (one, rest, p, m) = (one, rest, p (t.Name n.Plain word) k plain refl, m)

  function_declarator : (more : List Symbol) (vs : List Value) (word : ContextualWord) (k : Token) (ts : List Classified) → Means last (Non o.DeclaratorRest ∷ more) (v.Name (record { kind = n.Function; word = word; identifier = identifier k }) ∷ vs) ts
      → Means last (Non o.Declarator ∷ more) vs (at (t.Name n.Function word) k ∷ ts)
  function_declarator more vs word k ts (one, rest, p, m) = (one, rest, p (t.Name n.Function word) k function refl, m)

  take_Declarator : (more : List Symbol) (vs : List Value) (terminal : Terminal) (value : Value) (fs : List Fed) (ts rest : List Classified) → StandsToken terminal value ts rest → Ahead fs rest
      → Meaning last (step (At (Non o.Declarator ∷ more) vs (fed (i.Token terminal) value ∷ fs))) → Means last (Non o.Declarator ∷ more) vs ts
  take_Declarator more vs (t.Name n.Plain word) _ fs _ rest (token {k} f) h e = plain_declarator more vs word k rest (after last (Non o.DeclaratorRest ∷ more) (v.Name (record { kind = n.Plain; word = word; identifier = identifier k }) ∷ vs) fs rest h e)
  take_Declarator more vs (t.Name n.Function word) _ fs _ rest (token {k} f) h e = function_declarator more vs word k rest (after last (Non o.DeclaratorRest ∷ more) (v.Name (record { kind = n.Function; word = word; identifier = identifier k }) ∷ vs) fs rest h e)
  take_Declarator more vs _ value fs ts rest p h e = absurd e

  pub back_Declarator : (more : List Symbol) (vs : List Value) (input : Input) (value : Value) (fs : List Fed) → Meaning last (step (At (Non o.Declarator ∷ more) vs (fed input value ∷ fs))) → Meaning last (At (Non o.Declarator ∷ more) vs (fed input value ∷ fs))
  back_Declarator more vs i.ConstructorName value fs e ts h = absurd e
  back_Declarator more vs (i.Token terminal) value fs e ts (rest, p, h) = take_Declarator more vs terminal value fs ts rest p h e
  back_Declarator more vs input value fs e ts h = absurd e

  pub end_Declarator : (more : List Symbol) (vs : List Value) → Meaning last (lack (otherwise o.Declarator) more vs []) → Meaning last (At (Non o.Declarator ∷ more) vs [])
  end_Declarator more vs e ts h = absurd e

  value_row : (more : List Symbol) (vs : List Value) (k : Token) (ts : List Classified) → Means last (Non o.DeclaratorValue ∷ more) (vs) ts
      → Means last (Non o.DeclaratorRest ∷ more) vs (at (t.Sign s.Assign) k ∷ ts)
  value_row more vs k ts (one, rest, p, m) = (one, rest, (λ id l i same. p id l k i same), m)

  arguments_row : (more : List Symbol) (vs : List Value) (k : Token) (ts : List Classified) → Means last (Act a.StartExpressions ∷ Non o.Expression ∷ Act a.AddExpression ∷ Non o.MoreExpressions ∷ Non o.KeptCloseParenthesis ∷ Act a.MakeDeclaratorArguments ∷ more) (vs) ts
      → Means last (Non o.DeclaratorRest ∷ more) vs (at (t.Sign s.OpenParenthesis) k ∷ ts)
  arguments_row more vs k ts (x, span, us, p, (list, ws, q, (close, rest, takes, m))) =
      (_, rest, (λ id l i same. subst (λ d. ReadsDeclarator (record { name = d; initializer = initial.Arguments list.tree; span = across d.span close.span }) (at id l ∷ at (t.Sign s.OpenParenthesis) k ∷ ts) rest) same (st.arguments i (q ts (ge.last p)))), m)

  no_value : (more : List Symbol) (vs : List Value) (ts : List Classified) → Means last (Act a.MakeDeclarator ∷ more) vs ts → Means last (Non o.DeclaratorRest ∷ more) vs ts
  no_value more vs ts m = (_, ts, (λ id l i same. subst (λ d. ReadsDeclarator (record { name = d; initializer = initial.Nothing; span = d.span }) (at id l ∷ ts) ts) same (st.alone i)), m)

  take_DeclaratorRest : (more : List Symbol) (vs : List Value) (terminal : Terminal) (value : Value) (fs : List Fed) (ts rest : List Classified) → StandsToken terminal value ts rest → Ahead fs rest
      → Meaning last (step (At (Non o.DeclaratorRest ∷ more) vs (fed (i.Token terminal) value ∷ fs))) → Means last (Non o.DeclaratorRest ∷ more) vs ts
  take_DeclaratorRest more vs (t.Sign s.Assign) _ fs _ rest (token {k} f) h e = value_row more vs k rest (after last (Non o.DeclaratorValue ∷ more) (vs) fs rest h e)
  take_DeclaratorRest more vs (t.Sign s.OpenParenthesis) _ fs _ rest (token {k} f) h e = arguments_row more vs k rest (after last (Act a.StartExpressions ∷ Non o.Expression ∷ Act a.AddExpression ∷ Non o.MoreExpressions ∷ Non o.KeptCloseParenthesis ∷ Act a.MakeDeclaratorArguments ∷ more) (vs) fs rest h e)
  take_DeclaratorRest more vs terminal value fs ts rest p h e = no_value more vs ts (e ts (rest, p, h))

  pub back_DeclaratorRest : (more : List Symbol) (vs : List Value) (input : Input) (value : Value) (fs : List Fed) → Meaning last (step (At (Non o.DeclaratorRest ∷ more) vs (fed input value ∷ fs))) → Meaning last (At (Non o.DeclaratorRest ∷ more) vs (fed input value ∷ fs))
  back_DeclaratorRest more vs i.ConstructorName value fs e ts h = tt
  back_DeclaratorRest more vs (i.Token terminal) value fs e ts (rest, p, h) = take_DeclaratorRest more vs terminal value fs ts rest p h e
  back_DeclaratorRest more vs input value fs e ts h = no_value more vs ts (e ts h)

  pub end_DeclaratorRest : (more : List Symbol) (vs : List Value) → Meaning last (lack (otherwise o.DeclaratorRest) more vs []) → Meaning last (At (Non o.DeclaratorRest ∷ more) vs [])
  end_DeclaratorRest more vs e ts h = no_value more vs ts (e ts h)

  elements_row : (more : List Symbol) (vs : List Value) (k : Token) (ts : List Classified) → Means last (Act a.StartExpressions ∷ Non o.Arguments ∷ Act a.MakeArguments ∷ Non o.KeptCloseBrace ∷ Act a.MakeDeclaratorElements ∷ more) (mark (t.Sign s.OpenBrace) k.span ∷ vs) ts
      → Means last (Non o.DeclaratorValue ∷ more) vs (at (t.Sign s.OpenBrace) k ∷ ts)
  elements_row more vs k ts (list, us, q, (close, rest, takes, m)) = (
    _,
    rest,
    (λ id l equals i same. subst (λ d. ReadsDeclarator (record { name = d; initializer = initial.Elements (arguments list.tree (list_span list k.span)); span = across d.span close.span }) (at id l ∷ at (t.Sign s.Assign) equals ∷ at (t.Sign s.OpenBrace) k ∷ ts) rest) same
        (st.elements i (arguments_of (q refl)))),
    m,
  )

  value_expression : (more : List Symbol) (vs : List Value) (ts : List Classified) → Means last (Non o.Expression ∷ Act a.MakeDeclaratorValue ∷ more) vs ts → Means last (Non o.DeclaratorValue ∷ more) vs ts
  value_expression more vs ts (x, span, rest, p, m) =
      (_, rest, (λ id l equals i same. subst (λ d. ReadsDeclarator (record { name = d; initializer = initial.Value x; span = across d.span span }) (at id l ∷ at (t.Sign s.Assign) equals ∷ ts) rest) same (st.value i p)), m)

  take_DeclaratorValue : (more : List Symbol) (vs : List Value) (terminal : Terminal) (value : Value) (fs : List Fed) (ts rest : List Classified) → StandsToken terminal value ts rest → Ahead fs rest
      → Meaning last (step (At (Non o.DeclaratorValue ∷ more) vs (fed (i.Token terminal) value ∷ fs))) → Means last (Non o.DeclaratorValue ∷ more) vs ts
  take_DeclaratorValue more vs (t.Sign s.OpenBrace) _ fs _ rest (token {k} f) h e = elements_row more vs k rest (after last (Act a.StartExpressions ∷ Non o.Arguments ∷ Act a.MakeArguments ∷ Non o.KeptCloseBrace ∷ Act a.MakeDeclaratorElements ∷ more) (mark (t.Sign s.OpenBrace) k.span ∷ vs) fs rest h e)
  take_DeclaratorValue more vs terminal value fs ts rest p h e = value_expression more vs ts (e ts (rest, p, h))

  pub back_DeclaratorValue : (more : List Symbol) (vs : List Value) (input : Input) (value : Value) (fs : List Fed) → Meaning last (step (At (Non o.DeclaratorValue ∷ more) vs (fed input value ∷ fs))) → Meaning last (At (Non o.DeclaratorValue ∷ more) vs (fed input value ∷ fs))
  back_DeclaratorValue more vs i.ConstructorName value fs e ts h = tt
  back_DeclaratorValue more vs (i.Token terminal) value fs e ts (rest, p, h) = take_DeclaratorValue more vs terminal value fs ts rest p h e
  back_DeclaratorValue more vs input value fs e ts h = value_expression more vs ts (e ts h)

  pub end_DeclaratorValue : (more : List Symbol) (vs : List Value) → Meaning last (lack (otherwise o.DeclaratorValue) more vs []) → Meaning last (At (Non o.DeclaratorValue ∷ more) vs [])
  end_DeclaratorValue more vs e ts h = value_expression more vs ts (e ts h)

  more_declarators : (more : List Symbol) (first : Node (List Declarator)) (vs : List Value) (k : Token) (ts : List Classified) → Means last (Non o.Declarator ∷ Act a.AddDeclarator ∷ Non o.MoreDeclarators ∷ more) (v.Declarators first ∷ vs) ts
      → Means last (Non o.MoreDeclarators ∷ more) (v.Declarators first ∷ vs) (at (t.Sign s.Comma) k ∷ ts)
  more_declarators more first vs k ts (one, us, p, (items, span, rest, q, m)) = (one ∷ items, span, rest, (λ two ws same r. st.more r (q one ts refl p)), subst (λ l. Means last more (v.Declarators (record { tree = l; span = span }) ∷ vs) rest) (append_assoc first.tree (one ∷ []) items) m)

  no_more_declarators : (more : List Symbol) (first : Node (List Declarator)) (vs : List Value) (ts : List Classified) → Means last (more) (v.Declarators first ∷ vs) ts → Means last (Non o.MoreDeclarators ∷ more) (v.Declarators first ∷ vs) ts
  no_more_declarators more first vs ts m =
      ([], first.span, ts, (λ one us same r. subst (λ q. ReadsDeclarators (one ∷ []) q us ts) same (st.last r)), subst (λ l. Means last more (v.Declarators (record { tree = l; span = first.span }) ∷ vs) ts) (sym (append-nil first.tree)) m)

  take_MoreDeclarators : (more : List Symbol) (first : Node (List Declarator)) (vs : List Value) (terminal : Terminal) (value : Value) (fs : List Fed) (ts rest : List Classified) → StandsToken terminal value ts rest → Ahead fs rest
      → Meaning last (step (At (Non o.MoreDeclarators ∷ more) (v.Declarators first ∷ vs) (fed (i.Token terminal) value ∷ fs))) → Means last (Non o.MoreDeclarators ∷ more) (v.Declarators first ∷ vs) ts
  take_MoreDeclarators more first vs (t.Sign s.Comma) _ fs _ rest (token {k} f) h e = more_declarators more first vs k rest (after last (Non o.Declarator ∷ Act a.AddDeclarator ∷ Non o.MoreDeclarators ∷ more) (v.Declarators first ∷ vs) fs rest h e)
  take_MoreDeclarators more first vs terminal value fs ts rest p h e = no_more_declarators more first vs ts (e ts (rest, p, h))

  pub back_MoreDeclarators : (more : List Symbol) (vs : List Value) (input : Input) (value : Value) (fs : List Fed) → Meaning last (step (At (Non o.MoreDeclarators ∷ more) vs (fed input value ∷ fs))) → Meaning last (At (Non o.MoreDeclarators ∷ more) vs (fed input value ∷ fs))
  back_MoreDeclarators more (v.Declarators first ∷ vs) i.ConstructorName value fs e ts h = tt
  back_MoreDeclarators more (v.Declarators first ∷ vs) (i.Token terminal) value fs e ts (rest, p, h) = take_MoreDeclarators more first vs terminal value fs ts rest p h e
  back_MoreDeclarators more (v.Declarators first ∷ vs) input value fs e ts h = no_more_declarators more first vs ts (e ts h)
  back_MoreDeclarators more vs input value fs e ts h = at_input input (Non o.MoreDeclarators ∷ more) (Means last (Non o.MoreDeclarators ∷ more)) vs ts tt

  pub end_MoreDeclarators : (more : List Symbol) (vs : List Value) → Meaning last (lack (otherwise o.MoreDeclarators) more vs []) → Meaning last (At (Non o.MoreDeclarators ∷ more) vs [])
  end_MoreDeclarators more (v.Declarators first ∷ vs) e ts h = no_more_declarators more first vs ts (e ts h)
  end_MoreDeclarators more vs e ts h = tt
