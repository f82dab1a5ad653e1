-- Backwards over what the automaton does behind an operand, and at lists of expressions.
use Rattle.std.proofs.Common.{◌≡◌, sym, subst, refl, List, [], ◌∷◌, ◌++◌, ℕ}
use Rattle.std.specs.Prelude.{Some, None}
use Rattle.cc_base.specs.declared.text.Span.{Span}
use Rattle.cc_tree.specs.declared.token.Token.{Token}
use Rattle.cc_tree.specs.declared.token.TokenKind.{TokenKind}
use Rattle.cc_tree.specs.declared.token.TokenKind.TheVariants as k
use Rattle.cc_tree.specs.declared.terminal.Terminal.TheVariants as t
use Rattle.cc_tree.specs.declared.terminal.NameKind.TheVariants as n
use Rattle.cc_tree.specs.declared.terminal.ContextualWord.{ContextualWord}
use Rattle.cc_tree.specs.declared.terminal.ReservedWord.TheVariants as w
use Rattle.cc_tree.specs.declared.terminal.Sign.{Sign}
use Rattle.cc_tree.specs.declared.terminal.Sign.TheVariants as s
use Rattle.cc_tree.specs.declared.type_name.TypeName.{TypeName}
use Rattle.cc_tree.specs.declared.expression.Expression.{Expression}
use Rattle.cc_tree.specs.declared.expression.Expression.TheVariants as tree
use Rattle.cc_tree.specs.Terminals.{Classified, at, plain, function}
use Rattle.cc_tree.specs.Spans.{across, identifier}
use Rattle.cc_tree.specs.Operators.{selector, postfix_operator}
use Rattle.cc_tree.specs.GrammarTypes as g
use Rattle.cc_tree.specs.GrammarTypes.{ReadsCore, ReadsTypes, ReadsTypeArguments}
use Rattle.cc_tree.specs.GrammarExpressions as x
use Rattle.cc_tree.specs.GrammarExpressions.{ReadsStrings, ReadsExpression, ReadsExpressions, ReadsPostfix, ReadsArguments, arguments}
use Rattle.cc_table.specs.declared.symbols.Sort.TheVariants as o
use Rattle.cc_table.specs.declared.symbols.Action.TheVariants as a
use Rattle.cc_table.specs.declared.symbols.Input.{Input}
use Rattle.cc_table.specs.declared.symbols.Input.TheVariants as i
use Rattle.cc_table.specs.declared.symbols.Symbol.{Symbol}
use Rattle.cc_table.specs.declared.symbols.Symbol.TheVariants.{Non, Act, Back}
use Rattle.cc_table.specs.Table.{otherwise}
use Rattle.cc_pushdown.specs.declared.value.Node.{Node}
use Rattle.cc_pushdown.specs.declared.value.Value.{Value}
use Rattle.cc_pushdown.specs.declared.value.Value.TheVariants as v
use Rattle.cc_pushdown.specs.Values.{below, top, top_expression, top_mark}
use Rattle.cc_pushdown.specs.Build.{grown, grown_from, list_span, list_span_from}
use Rattle.cc_pushdown.specs.Words.{postfix_of, selector_of}
use Rattle.cc_pushdown.specs.Machine.{Fed, fed, At, lack, step}
use Rattle.cc_grammar_laws.specs.Read.{literal_value}
use Rattle.cc_grammar_laws.proofs.CompleteTypes.{type_value}
use Rattle.cc_grammar_laws.proofs.Stands.{Fitting, StandsToken, token, core}
use Rattle.cc_grammar_laws.proofs.TypeParts.{takes, mark}
use Rattle.cc_grammar_laws.proofs.ExpressionParts.{ListsExpressions, nothing, listed}
use Rattle.cc_grammar_laws.proofs.Means.{Means, Meaning, after}
use Rattle.cc_grammar_laws.proofs.Owed.{at_input}
use Rattle.cc_grammar_laws.proofs.BackExpressionNames.{sign_top}

-- one more expression behind a comma
list_grows : {items : List Expression} {one : Expression} {whole span : Span} {comma : Token} {us ts rest : List Classified} → ReadsExpressions items whole us (at (t.Sign s.Comma) comma ∷ ts) → ReadsExpression one span ts rest
    → ReadsExpressions (items ++ one ∷ []) (across whole span) us rest
list_grows (x.last p) r = x.more p (x.last r)
list_grows (x.more p q) r = x.more p (list_grows q r)

grown_list : {items : List Expression} {whole : Span} {us ts : List Classified} → ReadsExpressions items whole us ts → (span : Span) → across whole span ≡ grown_from items whole span
grown_list (x.last p) span = refl
grown_list (x.more p q) span = refl

listed_span : {items : List Expression} {span : Span} {ts rest : List Classified} → ReadsExpressions items span ts rest → (before : Span) → span ≡ list_span_from items span before
listed_span (x.last p) before = refl
listed_span (x.more p q) before = refl

-- the list behind the sign that opens it
pub arguments_read : {list : Node (List Expression)} {ts rest : List Classified} → ListsExpressions list ts rest → (before : Span) → ReadsArguments before (arguments list.tree (list_span list before)) ts rest
arguments_read nothing before = x.none
arguments_read (listed {items} {ts} {rest} p) before = subst (λ q. ReadsArguments before (arguments items q) ts rest) (listed_span p before) (x.some p)

strings_grow : {texts : List (List ℕ)} {text : List ℕ} {whole span : Span} {us rest : List Classified} → ReadsStrings texts whole us (at t.Literal (record { kind = k.Literal text; span = span }) ∷ rest) → ReadsStrings (texts ++ text ∷ []) (across whole span) us rest
strings_grow x.last = x.more x.last
strings_grow (x.more p) = x.more (strings_grow p)

-- the types between `<`, which was kept, and `>`
pub types_arguments : (types : List TypeName) (vs : List Value) (first ts rest : List Classified) (greater : Token) → StandsToken (t.Sign s.Less) (top vs) first ts → ReadsTypes types ts (at (t.Sign s.Greater) greater ∷ rest)
    → ReadsTypeArguments (record { types = types; span = across (top_mark vs).span greater.span }) (across (top_mark vs).span greater.span) first rest
types_arguments types vs first ts rest greater st p =
    let (less, starts, same) = sign_top s.Less vs first ts st in
    subst (λ q. ReadsTypeArguments (record { types = types; span = across q greater.span }) (across q greater.span) first rest) same
    (subst (λ q. ReadsTypeArguments (record { types = types; span = across less.span greater.span }) (across less.span greater.span) q rest) starts (g.listed p))

module _ (last : List Value) where
  first_expression : (more : List Symbol) (first : Node (List Expression)) (vs : List Value) (ts : List Classified) → Means last (Non o.Expression ∷ Act a.AddExpression ∷ Non o.MoreExpressions ∷ more) (v.Expressions first ∷ vs) ts
      → Means last (Non o.Arguments ∷ more) (v.Expressions first ∷ vs) ts
  first_expression more first vs ts (one, span, us, p, (list, rest, q, m)) =
      (list, rest, (λ empty. listed (q ts (subst (λ u. ReadsExpressions (u.tree ++ one ∷ []) (grown u span) ts us) (sym empty) (x.last p)))), m)

  no_expression : (more : List Symbol) (first : Node (List Expression)) (vs : List Value) (ts : List Classified) → Means last more (v.Expressions first ∷ vs) ts → Means last (Non o.Arguments ∷ more) (v.Expressions first ∷ vs) ts
  no_expression more first vs ts m = (first, ts, (λ empty. subst (λ q. ListsExpressions q ts ts) (sym empty) nothing), m)

  next_expression : (more : List Symbol) (first : Node (List Expression)) (vs : List Value) (comma : Token) (ts : List Classified) → Means last (Non o.Expression ∷ Act a.AddExpression ∷ Non o.MoreExpressions ∷ more) (v.Expressions first ∷ vs) ts
      → Means last (Non o.MoreExpressions ∷ more) (v.Expressions first ∷ vs) (at (t.Sign s.Comma) comma ∷ ts)
  next_expression more first vs comma ts (one, span, us, p, (list, rest, q, m)) =
      (list, rest, (λ ws r. q ws (subst (λ u. ReadsExpressions (first.tree ++ one ∷ []) u ws us) (grown_list r span) (list_grows r p))), m)

  next_string : (more : List Symbol) (first : Node (List (List ℕ))) (vs : List Value) (kind : TokenKind) (span : Span) (ts : List Classified) → Fitting t.Literal kind
      → Means last (Act a.AddText ∷ Non o.StringsRest ∷ more) (literal_value kind span ∷ v.Texts first ∷ vs) ts → Means last (Non o.StringsRest ∷ more) (v.Texts first ∷ vs) (at t.Literal (record { kind = kind; span = span }) ∷ ts)
  next_string more first vs (k.Literal text) span ts fits (list, rest, q, m) = (list, rest, (λ us r. q us (strings_grow r)), m)
  next_string more first vs _ span ts fits m = absurd fits

  index_row : (more : List Symbol) (left : Node Expression) (vs : List Value) (k : Token) (ts : List Classified) → Means last (Non o.Expression ∷ Non o.KeptCloseBracket ∷ Act a.MakeIndex ∷ Non o.SuffixRest ∷ more) (v.Expression left ∷ vs) ts
      → Means last (Non o.SuffixRest ∷ more) (v.Expression left ∷ vs) (at (t.Sign s.OpenBracket) k ∷ ts)
  index_row more left vs k ts (second, span, us, p, (close, ws, takes, (all, whole, rest, q, m))) = (all, whole, rest, (λ xs r. q xs (x.index r p)), m)

  call_row : (more : List Symbol) (left : Node Expression) (vs : List Value) (k : Token) (ts : List Classified)
      → Means last (Act a.StartExpressions ∷ Non o.Arguments ∷ Act a.MakeArguments ∷ Non o.KeptCloseParenthesis ∷ Act a.MakeCall ∷ Non o.SuffixRest ∷ more) (mark (t.Sign s.OpenParenthesis) k.span ∷ v.Expression left ∷ vs) ts
      → Means last (Non o.SuffixRest ∷ more) (v.Expression left ∷ vs) (at (t.Sign s.OpenParenthesis) k ∷ ts)
  call_row more left vs k ts (list, us, p, (close, ws, takes, (all, whole, rest, q, m))) = (all, whole, rest, (λ xs r. q xs (x.call r (arguments_read (p refl) k.span))), m)

  select_row : (more : List Symbol) (left : Node Expression) (vs : List Value) (sign : Sign) (k : Token) (ts : List Classified) → selector sign ≡ Some (selector_of (t.Sign sign))
      → Means last (Non o.Selected ∷ Non o.SuffixRest ∷ more) (mark (t.Sign sign) k.span ∷ v.Expression left ∷ vs) ts → Means last (Non o.SuffixRest ∷ more) (v.Expression left ∷ vs) (at (t.Sign sign) k ∷ ts)
  select_row more left vs sign k ts same (one, span, us, p, (all, whole, rest, q, m)) = (all, whole, rest, (λ xs r. q xs (p xs sign k same r)), m)

  step_row : (more : List Symbol) (left : Node Expression) (vs : List Value) (sign : Sign) (k : Token) (ts : List Classified) → postfix_operator sign ≡ Some (postfix_of (t.Sign sign))
      → Means last (Act a.MakePostfix ∷ Non o.SuffixRest ∷ more) (mark (t.Sign sign) k.span ∷ v.Expression left ∷ vs) ts → Means last (Non o.SuffixRest ∷ more) (v.Expression left ∷ vs) (at (t.Sign sign) k ∷ ts)
  step_row more left vs sign k ts same (all, whole, rest, q, m) = (all, whole, rest, (λ xs r. q xs (x.step r same)), m)

  function_row : (more : List Symbol) (vs : List Value) (word : ContextualWord) (k : Token) (ts : List Classified) → Means last (Non o.FunctionMemberRest ∷ more) (v.Name (record { kind = n.Function; word = word; identifier = identifier k }) ∷ vs) ts
      → Means last (Non o.Selected ∷ more) vs (at (t.Name n.Function word) k ∷ ts)
  function_row more vs word k ts (one, span, rest, p, m) = (one, span, rest, (λ us sign dot same r. p us sign dot word k same refl r), m)

  finaliser_row : (more : List Symbol) (vs : List Value) (k : Token) (ts : List Classified) → Means last (Non o.AnyName ∷ Act a.MakeFinaliserName ∷ more) vs ts → Means last (Non o.Selected ∷ more) vs (at (t.Sign s.Exclamation) k ∷ ts)
  finaliser_row more vs k ts (kind, word, l, rest, takes, m) = (_, _, rest, (λ us sign dot same r. x.finaliser r same), m)

  member_alone : (more : List Symbol) (vs : List Value) (ts : List Classified) → Means last (Act a.MakeMember ∷ more) vs ts → Means last (Non o.FunctionMemberRest ∷ more) vs ts
  member_alone more vs ts m =
      let one : Node Expression = top_expression (below (below vs)) in
      (_, _, ts, (λ us sign dot word k selects same r. subst (λ q. ReadsPostfix (tree.Member one.tree (selector_of (top_mark (below vs)).terminal) q None (across one.span q.span)) (across one.span q.span) us ts) same (x.member r selects function)), m)

  less_alone : (more : List Symbol) (vs : List Value) (ts : List Classified) → Means last (Back (i.Token (t.Sign s.Less)) ∷ Act a.MakeMember ∷ more) vs ts → Means last (Non o.AfterMemberLess ∷ more) vs ts
  less_alone more vs ts m = λ first st.
      let one : Node Expression = top_expression (below (below (below vs))) in
      (_, _, first, (λ us sign dot word k selects same r. subst (λ q. ReadsPostfix (tree.Member one.tree (selector_of (top_mark (below (below vs))).terminal) q None (across one.span q.span)) (across one.span q.span) us first) same (x.member r selects function)), m first st)

  member_types : (more : List Symbol) (of : TypeName) (span : Span) (vs : List Value) (ts rest : List Classified) → ReadsCore of span ts rest
      → Means last (Non o.TypeMarks ∷ Act a.FirstType ∷ Non o.MoreTypes ∷ Non o.KeptGreater ∷ Act a.MakeTypeArguments ∷ Act a.MakeMemberOf ∷ more) (type_value of span ∷ vs) rest → Means last (Non o.MemberTypes ∷ more) vs ts
  member_types more of span vs ts rest p (whole, ws, us, q, (types, xs, r, (greater, end, takes, m))) = λ first st.
      let one : Node Expression = top_expression (below (below (below vs))) in
      let inner : Span = across (top_mark vs).span greater.span in (
        _,
        _,
        end,
        (λ ys sign dot word k selects same before.
            subst (λ u. ReadsPostfix (tree.Member one.tree (selector_of (top_mark (below (below vs))).terminal) u (Some (record { types = whole ∷ types; span = inner })) (across one.span inner)) (across one.span inner) ys end) same
            (x.member_of before selects (types_arguments (whole ∷ types) vs first ts end greater st (r whole ws ts (q ts p))))),
        m,
      )

  given_list : (more : List Symbol) (first : Node (List Expression)) (vs : List Value) (input : Input) (value : Value) (fs : List Fed) → Meaning last (step (At (Non o.Arguments ∷ more) (v.Expressions first ∷ vs) (fed input value ∷ fs)))
      → Meaning last (At (Non o.Arguments ∷ more) (v.Expressions first ∷ vs) (fed input value ∷ fs))
  given_list more first vs (i.Token (t.Sign s.CloseParenthesis)) value fs e ts h = no_expression more first vs ts (e ts h)
  given_list more first vs (i.Token (t.Sign s.CloseBrace)) value fs e ts h = no_expression more first vs ts (e ts h)
  given_list more first vs i.ConstructorName value fs e ts h = tt
  given_list more first vs input value fs e ts h = first_expression more first vs ts (e ts h)

  pub back_Arguments : (more : List Symbol) (vs : List Value) (input : Input) (value : Value) (fs : List Fed) → Meaning last (step (At (Non o.Arguments ∷ more) vs (fed input value ∷ fs))) → Meaning last (At (Non o.Arguments ∷ more) vs (fed input value ∷ fs))
  back_Arguments more (v.Expressions first ∷ vs) input value fs e = given_list more first vs input value fs e
  back_Arguments more vs input value fs e = λ ts h. at_input input (Non o.Arguments ∷ more) (Means last (Non o.Arguments ∷ more)) vs ts tt

  pub end_Arguments : (more : List Symbol) (vs : List Value) → Meaning last (lack (otherwise o.Arguments) more vs []) → Meaning last (At (Non o.Arguments ∷ more) vs [])
  end_Arguments more (v.Expressions first ∷ vs) e ts h = first_expression more first vs ts (e ts h)
  end_Arguments more vs e ts h = tt

  list_rest : (more : List Symbol) (first : Node (List Expression)) (vs : List Value) (input : Input) (value : Value) (fs : List Fed) → Meaning last (step (At (Non o.MoreExpressions ∷ more) (v.Expressions first ∷ vs) (fed input value ∷ fs))) → Meaning last (At (Non o.MoreExpressions ∷ more) (v.Expressions first ∷ vs) (fed input value ∷ fs))
  list_rest more first vs (i.Token (t.Sign s.Comma)) value fs e ts (rest, token {k} fits, h) = next_expression more first vs k rest (after last (Non o.Expression ∷ Act a.AddExpression ∷ Non o.MoreExpressions ∷ more) (v.Expressions first ∷ vs) fs rest h e)
  list_rest more first vs i.ConstructorName value fs e ts h = tt
  list_rest more first vs input value fs e ts h = (first, ts, (λ us p. p), e ts h)

  pub back_MoreExpressions : (more : List Symbol) (vs : List Value) (input : Input) (value : Value) (fs : List Fed) → Meaning last (step (At (Non o.MoreExpressions ∷ more) vs (fed input value ∷ fs))) → Meaning last (At (Non o.MoreExpressions ∷ more) vs (fed input value ∷ fs))
  back_MoreExpressions more (v.Expressions first ∷ vs) input value fs e = list_rest more first vs input value fs e
  back_MoreExpressions more vs input value fs e = λ ts h. at_input input (Non o.MoreExpressions ∷ more) (Means last (Non o.MoreExpressions ∷ more)) vs ts tt

  pub end_MoreExpressions : (more : List Symbol) (vs : List Value) → Meaning last (lack (otherwise o.MoreExpressions) more vs []) → Meaning last (At (Non o.MoreExpressions ∷ more) vs [])
  end_MoreExpressions more (v.Expressions first ∷ vs) e ts h = (first, ts, (λ us p. p), e ts h)
  end_MoreExpressions more vs e ts h = tt

  strings_rest : (more : List Symbol) (first : Node (List (List ℕ))) (vs : List Value) (input : Input) (value : Value) (fs : List Fed) → Meaning last (step (At (Non o.StringsRest ∷ more) (v.Texts first ∷ vs) (fed input value ∷ fs))) → Meaning last (At (Non o.StringsRest ∷ more) (v.Texts first ∷ vs) (fed input value ∷ fs))
  strings_rest more first vs (i.Token (t.Literal)) value fs e ts (rest, token {k} fits, h) = next_string more first vs k.kind k.span rest fits (after last (Act a.AddText ∷ Non o.StringsRest ∷ more) (literal_value k.kind k.span ∷ v.Texts first ∷ vs) fs rest h e)
  strings_rest more first vs i.ConstructorName value fs e ts h = tt
  strings_rest more first vs input value fs e ts h = (first, ts, (λ us p. p), e ts h)

  pub back_StringsRest : (more : List Symbol) (vs : List Value) (input : Input) (value : Value) (fs : List Fed) → Meaning last (step (At (Non o.StringsRest ∷ more) vs (fed input value ∷ fs))) → Meaning last (At (Non o.StringsRest ∷ more) vs (fed input value ∷ fs))
  back_StringsRest more (v.Texts first ∷ vs) input value fs e = strings_rest more first vs input value fs e
  back_StringsRest more vs input value fs e = λ ts h. at_input input (Non o.StringsRest ∷ more) (Means last (Non o.StringsRest ∷ more)) vs ts tt

  pub end_StringsRest : (more : List Symbol) (vs : List Value) → Meaning last (lack (otherwise o.StringsRest) more vs []) → Meaning last (At (Non o.StringsRest ∷ more) vs [])
  end_StringsRest more (v.Texts first ∷ vs) e ts h = (first, ts, (λ us p. p), e ts h)
  end_StringsRest more vs e ts h = tt

  suffix_rest : (more : List Symbol) (left : Node Expression) (vs : List Value) (input : Input) (value : Value) (fs : List Fed) → Meaning last (step (At (Non o.SuffixRest ∷ more) (v.Expression left ∷ vs) (fed input value ∷ fs))) → Meaning last (At (Non o.SuffixRest ∷ more) (v.Expression left ∷ vs) (fed input value ∷ fs))
  suffix_rest more left vs (i.Token (t.Sign s.OpenBracket)) value fs e ts (rest, token {k} fits, h) = index_row more left vs k rest (after last (Non o.Expression ∷ Non o.KeptCloseBracket ∷ Act a.MakeIndex ∷ Non o.SuffixRest ∷ more) (v.Expression left ∷ vs) fs rest h e)
  suffix_rest more left vs (i.Token (t.Sign s.OpenParenthesis)) value fs e ts (rest, token {k} fits, h) = call_row more left vs k rest (after last (Act a.StartExpressions ∷ Non o.Arguments ∷ Act a.MakeArguments ∷ Non o.KeptCloseParenthesis ∷ Act a.MakeCall ∷ Non o.SuffixRest ∷ more) (mark (t.Sign s.OpenParenthesis) k.span ∷ v.Expression left ∷ vs) fs rest h e)
  suffix_rest more left vs (i.Token (t.Sign s.Dot)) value fs e ts (rest, token {k} fits, h) = select_row more left vs s.Dot k rest refl (after last (Non o.Selected ∷ Non o.SuffixRest ∷ more) (mark (t.Sign s.Dot) k.span ∷ v.Expression left ∷ vs) fs rest h e)
  suffix_rest more left vs (i.Token (t.Sign s.Arrow)) value fs e ts (rest, token {k} fits, h) = select_row more left vs s.Arrow k rest refl (after last (Non o.Selected ∷ Non o.SuffixRest ∷ more) (mark (t.Sign s.Arrow) k.span ∷ v.Expression left ∷ vs) fs rest h e)
  suffix_rest more left vs (i.Token (t.Sign s.Increment)) value fs e ts (rest, token {k} fits, h) = step_row more left vs s.Increment k rest refl (after last (Act a.MakePostfix ∷ Non o.SuffixRest ∷ more) (mark (t.Sign s.Increment) k.span ∷ v.Expression left ∷ vs) fs rest h e)
  suffix_rest more left vs (i.Token (t.Sign s.Decrement)) value fs e ts (rest, token {k} fits, h) = step_row more left vs s.Decrement k rest refl (after last (Act a.MakePostfix ∷ Non o.SuffixRest ∷ more) (mark (t.Sign s.Decrement) k.span ∷ v.Expression left ∷ vs) fs rest h e)
  suffix_rest more left vs i.ConstructorName value fs e ts h = tt
  suffix_rest more left vs input value fs e ts h = (left.tree, left.span, ts, (λ us p. p), e ts h)

  pub back_SuffixRest : (more : List Symbol) (vs : List Value) (input : Input) (value : Value) (fs : List Fed) → Meaning last (step (At (Non o.SuffixRest ∷ more) vs (fed input value ∷ fs))) → Meaning last (At (Non o.SuffixRest ∷ more) vs (fed input value ∷ fs))
  back_SuffixRest more (v.Expression left ∷ vs) input value fs e = suffix_rest more left vs input value fs e
  back_SuffixRest more vs input value fs e = λ ts h. at_input input (Non o.SuffixRest ∷ more) (Means last (Non o.SuffixRest ∷ more)) vs ts tt

  pub end_SuffixRest : (more : List Symbol) (vs : List Value) → Meaning last (lack (otherwise o.SuffixRest) more vs []) → Meaning last (At (Non o.SuffixRest ∷ more) vs [])
  end_SuffixRest more (v.Expression left ∷ vs) e ts h = (left.tree, left.span, ts, (λ us p. p), e ts h)
  end_SuffixRest more vs e ts h = tt

  pub back_Selected : (more : List Symbol) (vs : List Value) (input : Input) (value : Value) (fs : List Fed) → Meaning last (step (At (Non o.Selected ∷ more) vs (fed input value ∷ fs))) → Meaning last (At (Non o.Selected ∷ more) vs (fed input value ∷ fs))
  back_Selected more vs (i.Token (t.Name n.Plain word)) value fs e ts (rest, token {k} fits, h) = (_, _, rest, (λ us sign dot same r. x.member r same plain), after last (Act a.MakeMember ∷ more) (v.Name (record { kind = n.Plain; word = word; identifier = identifier k }) ∷ vs) fs rest h e)
  back_Selected more vs (i.Token (t.Name n.Function word)) value fs e ts (rest, token {k} fits, h) = function_row more vs word k rest (after last (Non o.FunctionMemberRest ∷ more) (v.Name (record { kind = n.Function; word = word; identifier = identifier k }) ∷ vs) fs rest h e)
  back_Selected more vs (i.Token (t.Sign s.Exclamation)) value fs e ts (rest, token {k} fits, h) = finaliser_row more vs k rest (after last (Non o.AnyName ∷ Act a.MakeFinaliserName ∷ more) (vs) fs rest h e)
  back_Selected more vs input value fs e ts h = absurd e

  pub end_Selected : (more : List Symbol) (vs : List Value) → Meaning last (lack (otherwise o.Selected) more vs []) → Meaning last (At (Non o.Selected ∷ more) vs [])
  end_Selected more vs e = absurd e

  pub back_FunctionMemberRest : (more : List Symbol) (vs : List Value) (input : Input) (value : Value) (fs : List Fed) → Meaning last (step (At (Non o.FunctionMemberRest ∷ more) vs (fed input value ∷ fs))) → Meaning last (At (Non o.FunctionMemberRest ∷ more) vs (fed input value ∷ fs))
  back_FunctionMemberRest more vs (i.Token (t.Sign s.Less)) value fs e ts (rest, token {k} fits, h) = after last (Non o.AfterMemberLess ∷ more) (mark (t.Sign s.Less) k.span ∷ vs) fs rest h e (at (t.Sign s.Less) k ∷ rest) (token fits)
  back_FunctionMemberRest more vs i.ConstructorName value fs e ts h = tt
  back_FunctionMemberRest more vs input value fs e ts h = member_alone more vs ts (e ts h)

  pub end_FunctionMemberRest : (more : List Symbol) (vs : List Value) → Meaning last (lack (otherwise o.FunctionMemberRest) more vs []) → Meaning last (At (Non o.FunctionMemberRest ∷ more) vs [])
  end_FunctionMemberRest more vs e ts h = member_alone more vs ts (e ts h)

  pub back_AfterMemberLess : (more : List Symbol) (vs : List Value) (input : Input) (value : Value) (fs : List Fed) → Meaning last (step (At (Non o.AfterMemberLess ∷ more) vs (fed input value ∷ fs))) → Meaning last (At (Non o.AfterMemberLess ∷ more) vs (fed input value ∷ fs))
  back_AfterMemberLess more vs (i.Token (t.Word w.Void)) value fs e ts h = e ts h
  back_AfterMemberLess more vs (i.Token (t.Word w.Bool)) value fs e ts h = e ts h
  back_AfterMemberLess more vs (i.Token (t.Word w.WideChar)) value fs e ts h = e ts h
  back_AfterMemberLess more vs (i.Token (t.Word w.Signed)) value fs e ts h = e ts h
  back_AfterMemberLess more vs (i.Token (t.Word w.Unsigned)) value fs e ts h = e ts h
  back_AfterMemberLess more vs (i.Token (t.Word w.Short)) value fs e ts h = e ts h
  back_AfterMemberLess more vs (i.Token (t.Word w.Int)) value fs e ts h = e ts h
  back_AfterMemberLess more vs (i.Token (t.Word w.Long)) value fs e ts h = e ts h
  back_AfterMemberLess more vs (i.Token (t.Name kind word)) value fs e ts h = e ts h
  back_AfterMemberLess more vs i.ConstructorName value fs e ts h = tt
  back_AfterMemberLess more vs input value fs e ts h = less_alone more vs ts (e ts h)

  pub end_AfterMemberLess : (more : List Symbol) (vs : List Value) → Meaning last (lack (otherwise o.AfterMemberLess) more vs []) → Meaning last (At (Non o.AfterMemberLess ∷ more) vs [])
  end_AfterMemberLess more vs e ts h = less_alone more vs ts (e ts h)

  pub back_MemberTypes : (more : List Symbol) (vs : List Value) (input : Input) (value : Value) (fs : List Fed) → Meaning last (step (At (Non o.MemberTypes ∷ more) vs (fed input value ∷ fs))) → Meaning last (At (Non o.MemberTypes ∷ more) vs (fed input value ∷ fs))
  back_MemberTypes more vs i.CoreType value fs e ts (rest, core {of} {span} p, h) = member_types more of span vs ts rest p (after last (Non o.TypeMarks ∷ Act a.FirstType ∷ Non o.MoreTypes ∷ Non o.KeptGreater ∷ Act a.MakeTypeArguments ∷ Act a.MakeMemberOf ∷ more) (type_value of span ∷ vs) fs rest h e)
  back_MemberTypes more vs (i.Token t.Number) value fs e ts h = less_alone more vs ts (e ts h)
  back_MemberTypes more vs i.ConstructorName value fs e ts h = tt
  back_MemberTypes more vs input value fs e ts h = less_alone more vs ts (e ts h)

  pub end_MemberTypes : (more : List Symbol) (vs : List Value) → Meaning last (lack (otherwise o.MemberTypes) more vs []) → Meaning last (At (Non o.MemberTypes ∷ more) vs [])
  end_MemberTypes more vs e ts h = less_alone more vs ts (e ts h)
