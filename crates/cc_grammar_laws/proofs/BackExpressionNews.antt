-- Backwards over what the automaton does behind `gcnew`.
use Rattle.std.proofs.Common.{◌≡◌, sym, subst, refl, List, [], ◌∷◌}
use Rattle.cc_base.specs.declared.text.Span.{Span}
use Rattle.cc_tree.specs.declared.token.Token.{Token}
use Rattle.cc_tree.specs.declared.identifier.Identifier.{Identifier}
use Rattle.cc_tree.specs.declared.terminal.Terminal.{Terminal}
use Rattle.cc_tree.specs.declared.terminal.Terminal.TheVariants as t
use Rattle.cc_tree.specs.declared.terminal.NameKind.TheVariants as n
use Rattle.cc_tree.specs.declared.terminal.ContextualWord.{ContextualWord}
use Rattle.cc_tree.specs.declared.terminal.ReservedWord.TheVariants as w
use Rattle.cc_tree.specs.declared.terminal.Sign.TheVariants as s
use Rattle.cc_tree.specs.declared.type_name.TypeName.{TypeName}
use Rattle.cc_tree.specs.declared.type_name.TypeName.TheVariants as type
use Rattle.cc_tree.specs.Terminals.{Classified, at, Id, plain, function}
use Rattle.cc_tree.specs.Spans.{across, identifier, qualified_span}
use Rattle.cc_tree.specs.GrammarTypes as g
use Rattle.cc_tree.specs.GrammarTypes.{ReadsPath, ReadsCore, ReadsNamed, ReadsTypes}
use Rattle.cc_tree.specs.GrammarExpressions as x
use Rattle.cc_tree.specs.GrammarExpressions.{NoBrace, NoParenthesis}
use Rattle.cc_table.specs.declared.symbols.Sort.TheVariants as o
use Rattle.cc_table.specs.declared.symbols.Action.TheVariants as a
use Rattle.cc_table.specs.declared.symbols.Input.{Input}
use Rattle.cc_table.specs.declared.symbols.Input.TheVariants as i
use Rattle.cc_table.specs.declared.symbols.Symbol.{Symbol}
use Rattle.cc_table.specs.declared.symbols.Symbol.TheVariants.{Non, Act, Back}
use Rattle.cc_table.specs.Table.{otherwise}
use Rattle.cc_pushdown.specs.declared.value.Value.{Value}
use Rattle.cc_pushdown.specs.declared.value.Value.TheVariants as v
use Rattle.cc_pushdown.specs.Values.{below, top, top_path, top_qualified}
use Rattle.cc_pushdown.specs.Machine.{Fed, fed, At, lack, step}
use Rattle.cc_grammar_laws.proofs.CompleteTypes.{type_value}
use Rattle.cc_grammar_laws.proofs.Stands.{StandsToken, token, core}
use Rattle.cc_grammar_laws.proofs.TypeParts.{takes, mark}
use Rattle.cc_grammar_laws.proofs.Means.{Means, Meaning, after}
use Rattle.cc_grammar_laws.proofs.BackExpressionNames.{sign_top, path_ends, path_grows}
use Rattle.cc_grammar_laws.proofs.PutBack.{Clear, put_back_clear}
use Rattle.cc_grammar_laws.proofs.BackExpressionSuffixes.{arguments_read}

-- a type's name without arguments
named_alone : (path : List Identifier) (name : Identifier) (word : ContextualWord) (k : Token) (us ts : List Classified) → identifier k ≡ name → ReadsPath path us (at (t.Name n.Type word) k ∷ ts)
    → ReadsNamed (type.Named path name [] (qualified_span path name)) (qualified_span path name) us ts
named_alone path name word k us ts same p = subst (λ q. ReadsNamed (type.Named path q [] (qualified_span path q)) (qualified_span path q) us ts) same (g.alone p)

-- and with arguments, whose `<` was kept
named_applied : (path : List Identifier) (name : Identifier) (types : List TypeName) (word : ContextualWord) (k greater : Token) (vs : List Value) (us first ts rest : List Classified) → identifier k ≡ name → StandsToken (t.Sign s.Less) (top vs) first ts
    → ReadsPath path us (at (t.Name n.Type word) k ∷ first) → ReadsTypes types ts (at (t.Sign s.Greater) greater ∷ rest)
    → ReadsNamed (type.Named path name types (across (qualified_span path name) greater.span)) (across (qualified_span path name) greater.span) us rest
named_applied path name types word k greater vs us first ts rest same st p q =
    let (less, starts, reach) = sign_top s.Less vs first ts st in
    subst (λ u. ReadsNamed (type.Named path u types (across (qualified_span path u) greater.span)) (across (qualified_span path u) greater.span) us rest) same
    (g.applied (subst (λ u. ReadsPath path us (at (t.Name n.Type word) k ∷ u)) (sym starts) p) q)

less_clear : (vs : List Value) (first ts : List Classified) → StandsToken (t.Sign s.Less) (top vs) first ts → Clear first
less_clear vs first ts st = let (less, starts, reach) = sign_top s.Less vs first ts st in subst Clear starts (tt, tt, tt, tt)

module _ (last : List Value) where
  name_row : (more : List Symbol) (vs : List Value) (word : ContextualWord) (k : Token) (ts : List Classified) → Means last (Act a.StartPath ∷ Non o.NewTypeRest ∷ more) (v.Name (record { kind = n.Type; word = word; identifier = identifier k }) ∷ vs) ts
      → Means last (Non o.NewName ∷ more) vs (at (t.Name n.Type word) k ∷ ts)
  name_row more vs word k ts (one, span, rest, p, m) = (one, span, rest, (λ kind. p _ kind word k refl g.none), m)

  outer_row : (more : List Symbol) (vs : List Value) (id : Terminal) (k : Token) (ts : List Classified) → Id id → Means last (Non o.Scope ∷ Act a.AddToPath ∷ Non o.NewPath ∷ more) (v.Qualified (record { path = []; name = identifier k }) ∷ vs) ts
      → Means last (Non o.NewName ∷ more) vs (at id k ∷ ts)
  outer_row more vs id k ts is_id (scope, us, takes, (one, span, rest, p, m)) = (one, span, rest, (λ kind. p _ kind (λ others end q. g.next is_id q)), m)

  end_row : (more : List Symbol) (vs : List Value) (word : ContextualWord) (k : Token) (ts : List Classified) → Means last (Act a.EndPath ∷ Non o.NewTypeRest ∷ more) (v.Name (record { kind = n.Type; word = word; identifier = identifier k }) ∷ vs) ts
      → Means last (Non o.NewPath ∷ more) vs (at (t.Name n.Type word) k ∷ ts)
  end_row more vs word k ts (one, span, rest, p, m) = (one, span, rest, (λ us kind h. p us kind word k refl (path_ends (top_path vs) us _ h)), m)

  next_row : (more : List Symbol) (vs : List Value) (id : Terminal) (k : Token) (ts : List Classified) → Id id → Means last (Non o.Scope ∷ Act a.AddToPath ∷ Non o.NewPath ∷ more) (v.Qualified (record { path = top_path vs; name = identifier k }) ∷ below vs) ts
      → Means last (Non o.NewPath ∷ more) vs (at id k ∷ ts)
  next_row more vs id k ts is_id (scope, us, takes, (one, span, rest, p, m)) = (one, span, rest, (λ xs kind h. p xs kind (path_grows (top_path vs) id k scope xs us is_id h)), m)

  named_row : (more : List Symbol) (vs : List Value) (ts : List Classified) → Means last (Act a.MakeNamed ∷ Non o.NewArguments ∷ more) vs ts → Means last (Non o.NewTypeRest ∷ more) vs ts
  named_row more vs ts (one, span, rest, p, m) = (one, span, rest, (λ us kind word k same q. p us kind (named_alone (top_qualified vs).path (top_qualified vs).name word k us ts same q)), m)

  less_alone : (more : List Symbol) (vs : List Value) (ts : List Classified) → Means last (Back (i.Token (t.Sign s.Less)) ∷ Act a.MakeNamed ∷ Act a.MakeNew ∷ more) vs ts → Means last (Non o.AfterNewLess ∷ more) vs ts
  less_alone more vs ts m = λ first st.
      let clear : Clear first = less_clear vs first ts st in
      (_, _, first, (λ us kind word k same q. x.new (named_alone (top_qualified (below vs)).path (top_qualified (below vs)).name word k us first same q) clear.3 clear.2), m first st)

  applied_row : (more : List Symbol) (of : TypeName) (span : Span) (vs : List Value) (ts rest : List Classified) → ReadsCore of span ts rest
      → Means last (Non o.TypeMarks ∷ Act a.FirstType ∷ Non o.MoreTypes ∷ Non o.KeptGreater ∷ Act a.MakeApplied ∷ Non o.NewArguments ∷ more) (type_value of span ∷ vs) rest → Means last (Non o.NewTypes ∷ more) vs ts
  applied_row more of span vs ts rest p (whole, ws, us, q, (types, xs, r, (greater, ys, takes, (one, second, end, made, m)))) = λ first st. (
    one,
    second,
    end,
    (λ zs kind word k same before. made zs kind (named_applied (top_qualified (below vs)).path (top_qualified (below vs)).name (whole ∷ types) word k greater vs zs first ts ys same st before (r whole ws ts (q ts p)))),
    m,
  )

  given_row : (more : List Symbol) (vs : List Value) (k : Token) (ts : List Classified)
      → Means last (Act a.StartExpressions ∷ Non o.Arguments ∷ Act a.MakeArguments ∷ Non o.KeptCloseParenthesis ∷ Non o.NewElements ∷ more) (mark (t.Sign s.OpenParenthesis) k.span ∷ vs) ts
      → Means last (Non o.NewArguments ∷ more) vs (at (t.Sign s.OpenParenthesis) k ∷ ts)
  given_row more vs k ts (list, us, p, (close, ws, takes, (one, span, rest, q, m))) = (one, span, rest, (λ xs kind r. q xs ts kind close.kind k r (arguments_read (p refl) k.span)), m)

  elements_row : (more : List Symbol) (vs : List Value) (k : Token) (ts : List Classified)
      → Means last (Act a.StartExpressions ∷ Non o.Arguments ∷ Act a.MakeArguments ∷ Non o.KeptCloseBrace ∷ Act a.MakeNewOf ∷ more) (mark (t.Sign s.OpenBrace) k.span ∷ vs) ts
      → Means last (Non o.NewArguments ∷ more) vs (at (t.Sign s.OpenBrace) k ∷ ts)
  elements_row more vs k ts (list, us, p, (close, rest, takes, m)) = (_, _, rest, (λ xs kind r. x.new_of r (arguments_read (p refl) k.span)), m)

  new_row : (more : List Symbol) (vs : List Value) (ts : List Classified) → NoParenthesis ts → NoBrace ts → Means last (Act a.MakeNew ∷ more) vs ts → Means last (Non o.NewArguments ∷ more) vs ts
  new_row more vs ts first second m = (_, _, ts, (λ us kind r. x.new r first second), m)

  both_row : (more : List Symbol) (vs : List Value) (k : Token) (ts : List Classified)
      → Means last (Act a.StartExpressions ∷ Non o.Arguments ∷ Act a.MakeArguments ∷ Non o.KeptCloseBrace ∷ Act a.MakeNewWithOf ∷ more) (mark (t.Sign s.OpenBrace) k.span ∷ vs) ts
      → Means last (Non o.NewElements ∷ more) vs (at (t.Sign s.OpenBrace) k ∷ ts)
  both_row more vs k ts (list, us, p, (close, rest, takes, m)) = (_, _, rest, (λ xs ws kind closing open_ r given. x.new_with_of r given (arguments_read (p refl) k.span)), m)

  with_row : (more : List Symbol) (vs : List Value) (ts : List Classified) → NoBrace ts → Means last (Act a.MakeNewWith ∷ more) vs ts → Means last (Non o.NewElements ∷ more) vs ts
  with_row more vs ts second m = (_, _, ts, (λ xs ws kind closing open_ r given. x.new_with r given second), m)

  pub back_NewName : (more : List Symbol) (vs : List Value) (input : Input) (value : Value) (fs : List Fed) → Meaning last (step (At (Non o.NewName ∷ more) vs (fed input value ∷ fs))) → Meaning last (At (Non o.NewName ∷ more) vs (fed input value ∷ fs))
  back_NewName more vs (i.Token (t.Name n.Type word)) value fs e ts (rest, token {k} fits, h) = name_row more vs word k rest (after last (Act a.StartPath ∷ Non o.NewTypeRest ∷ more) (v.Name (record { kind = n.Type; word = word; identifier = identifier k }) ∷ vs) fs rest h e)
  back_NewName more vs (i.Token (t.Name n.Plain word)) value fs e ts (rest, token {k} fits, h) = outer_row more vs (t.Name n.Plain word) k rest plain (after last (Act a.StartPath ∷ Non o.Scope ∷ Act a.AddToPath ∷ Non o.NewPath ∷ more) (v.Name (record { kind = n.Plain; word = word; identifier = identifier k }) ∷ vs) fs rest h e)
  back_NewName more vs (i.Token (t.Name n.Function word)) value fs e ts (rest, token {k} fits, h) = outer_row more vs (t.Name n.Function word) k rest function (after last (Act a.StartPath ∷ Non o.Scope ∷ Act a.AddToPath ∷ Non o.NewPath ∷ more) (v.Name (record { kind = n.Function; word = word; identifier = identifier k }) ∷ vs) fs rest h e)
  back_NewName more vs input value fs e ts h = absurd e

  pub end_NewName : (more : List Symbol) (vs : List Value) → Meaning last (lack (otherwise o.NewName) more vs []) → Meaning last (At (Non o.NewName ∷ more) vs [])
  end_NewName more vs e = absurd e

  pub back_NewPath : (more : List Symbol) (vs : List Value) (input : Input) (value : Value) (fs : List Fed) → Meaning last (step (At (Non o.NewPath ∷ more) vs (fed input value ∷ fs))) → Meaning last (At (Non o.NewPath ∷ more) vs (fed input value ∷ fs))
  back_NewPath more vs (i.Token (t.Name n.Type word)) value fs e ts (rest, token {k} fits, h) = end_row more vs word k rest (after last (Act a.EndPath ∷ Non o.NewTypeRest ∷ more) (v.Name (record { kind = n.Type; word = word; identifier = identifier k }) ∷ vs) fs rest h e)
  back_NewPath more vs (i.Token (t.Name n.Plain word)) value fs e ts (rest, token {k} fits, h) = next_row more vs (t.Name n.Plain word) k rest plain (after last (Act a.EndPath ∷ Non o.Scope ∷ Act a.AddToPath ∷ Non o.NewPath ∷ more) (v.Name (record { kind = n.Plain; word = word; identifier = identifier k }) ∷ vs) fs rest h e)
  back_NewPath more vs (i.Token (t.Name n.Function word)) value fs e ts (rest, token {k} fits, h) = next_row more vs (t.Name n.Function word) k rest function (after last (Act a.EndPath ∷ Non o.Scope ∷ Act a.AddToPath ∷ Non o.NewPath ∷ more) (v.Name (record { kind = n.Function; word = word; identifier = identifier k }) ∷ vs) fs rest h e)
  back_NewPath more vs input value fs e ts h = absurd e

  pub end_NewPath : (more : List Symbol) (vs : List Value) → Meaning last (lack (otherwise o.NewPath) more vs []) → Meaning last (At (Non o.NewPath ∷ more) vs [])
  end_NewPath more vs e = absurd e

  pub back_NewTypeRest : (more : List Symbol) (vs : List Value) (input : Input) (value : Value) (fs : List Fed) → Meaning last (step (At (Non o.NewTypeRest ∷ more) vs (fed input value ∷ fs))) → Meaning last (At (Non o.NewTypeRest ∷ more) vs (fed input value ∷ fs))
  back_NewTypeRest more vs (i.Token (t.Sign s.Less)) value fs e ts (rest, token {k} fits, h) = after last (Non o.AfterNewLess ∷ more) (mark (t.Sign s.Less) k.span ∷ vs) fs rest h e (at (t.Sign s.Less) k ∷ rest) (token fits)
  back_NewTypeRest more vs i.ConstructorName value fs e ts h = tt
  back_NewTypeRest more vs input value fs e ts h = named_row more vs ts (e ts h)

  pub end_NewTypeRest : (more : List Symbol) (vs : List Value) → Meaning last (lack (otherwise o.NewTypeRest) more vs []) → Meaning last (At (Non o.NewTypeRest ∷ more) vs [])
  end_NewTypeRest more vs e ts h = named_row more vs ts (e ts h)

  pub back_AfterNewLess : (more : List Symbol) (vs : List Value) (input : Input) (value : Value) (fs : List Fed) → Meaning last (step (At (Non o.AfterNewLess ∷ more) vs (fed input value ∷ fs))) → Meaning last (At (Non o.AfterNewLess ∷ more) vs (fed input value ∷ fs))
  back_AfterNewLess more vs (i.Token (t.Word w.Void)) value fs e ts h = e ts h
  back_AfterNewLess more vs (i.Token (t.Word w.Bool)) value fs e ts h = e ts h
  back_AfterNewLess more vs (i.Token (t.Word w.WideChar)) value fs e ts h = e ts h
  back_AfterNewLess more vs (i.Token (t.Word w.Signed)) value fs e ts h = e ts h
  back_AfterNewLess more vs (i.Token (t.Word w.Unsigned)) value fs e ts h = e ts h
  back_AfterNewLess more vs (i.Token (t.Word w.Short)) value fs e ts h = e ts h
  back_AfterNewLess more vs (i.Token (t.Word w.Int)) value fs e ts h = e ts h
  back_AfterNewLess more vs (i.Token (t.Word w.Long)) value fs e ts h = e ts h
  back_AfterNewLess more vs (i.Token (t.Name kind word)) value fs e ts h = e ts h
  back_AfterNewLess more vs i.ConstructorName value fs e ts h = tt
  back_AfterNewLess more vs input value fs e ts h = less_alone more vs ts (e ts h)

  pub end_AfterNewLess : (more : List Symbol) (vs : List Value) → Meaning last (lack (otherwise o.AfterNewLess) more vs []) → Meaning last (At (Non o.AfterNewLess ∷ more) vs [])
  end_AfterNewLess more vs e ts h = less_alone more vs ts (e ts h)

  pub back_NewTypes : (more : List Symbol) (vs : List Value) (input : Input) (value : Value) (fs : List Fed) → Meaning last (step (At (Non o.NewTypes ∷ more) vs (fed input value ∷ fs))) → Meaning last (At (Non o.NewTypes ∷ more) vs (fed input value ∷ fs))
  back_NewTypes more vs i.CoreType value fs e ts (rest, core {of} {span} p, h) = applied_row more of span vs ts rest p (after last (Non o.TypeMarks ∷ Act a.FirstType ∷ Non o.MoreTypes ∷ Non o.KeptGreater ∷ Act a.MakeApplied ∷ Non o.NewArguments ∷ more) (type_value of span ∷ vs) fs rest h e)
  back_NewTypes more vs (i.Token t.Number) value fs e ts h = less_alone more vs ts (e ts h)
  back_NewTypes more vs i.ConstructorName value fs e ts h = tt
  back_NewTypes more vs input value fs e ts h = less_alone more vs ts (e ts h)

  pub end_NewTypes : (more : List Symbol) (vs : List Value) → Meaning last (lack (otherwise o.NewTypes) more vs []) → Meaning last (At (Non o.NewTypes ∷ more) vs [])
  end_NewTypes more vs e ts h = less_alone more vs ts (e ts h)

  pub back_NewArguments : (more : List Symbol) (vs : List Value) (input : Input) (value : Value) (fs : List Fed) → Meaning last (step (At (Non o.NewArguments ∷ more) vs (fed input value ∷ fs))) → Meaning last (At (Non o.NewArguments ∷ more) vs (fed input value ∷ fs))
  back_NewArguments more vs (i.Token (t.Sign s.OpenParenthesis)) value fs e ts (rest, token {k} fits, h) = given_row more vs k rest (after last (Act a.StartExpressions ∷ Non o.Arguments ∷ Act a.MakeArguments ∷ Non o.KeptCloseParenthesis ∷ Non o.NewElements ∷ more) (mark (t.Sign s.OpenParenthesis) k.span ∷ vs) fs rest h e)
  back_NewArguments more vs (i.Token (t.Sign s.OpenBrace)) value fs e ts (rest, token {k} fits, h) = elements_row more vs k rest (after last (Act a.StartExpressions ∷ Non o.Arguments ∷ Act a.MakeArguments ∷ Non o.KeptCloseBrace ∷ Act a.MakeNewOf ∷ more) (mark (t.Sign s.OpenBrace) k.span ∷ vs) fs rest h e)
  back_NewArguments more vs (i.Token terminal) value fs e ts (rest, token {k} fits, h) = new_row more vs (at terminal k ∷ rest) tt tt (e (at terminal k ∷ rest) (rest, token fits, h))
  back_NewArguments more vs i.ConstructorName value fs e ts h = tt
  back_NewArguments more vs input value fs e ts h = let clear : Clear ts = put_back_clear input value ts h.0 tt h.1 in new_row more vs ts clear.3 clear.2 (e ts h)

  pub end_NewArguments : (more : List Symbol) (vs : List Value) → Meaning last (lack (otherwise o.NewArguments) more vs []) → Meaning last (At (Non o.NewArguments ∷ more) vs [])
  end_NewArguments more vs e ts h = new_row more vs ts (subst NoParenthesis (sym h) tt) (subst NoBrace (sym h) tt) (e ts h)

  pub back_NewElements : (more : List Symbol) (vs : List Value) (input : Input) (value : Value) (fs : List Fed) → Meaning last (step (At (Non o.NewElements ∷ more) vs (fed input value ∷ fs))) → Meaning last (At (Non o.NewElements ∷ more) vs (fed input value ∷ fs))
  back_NewElements more vs (i.Token (t.Sign s.OpenBrace)) value fs e ts (rest, token {k} fits, h) = both_row more vs k rest (after last (Act a.StartExpressions ∷ Non o.Arguments ∷ Act a.MakeArguments ∷ Non o.KeptCloseBrace ∷ Act a.MakeNewWithOf ∷ more) (mark (t.Sign s.OpenBrace) k.span ∷ vs) fs rest h e)
  back_NewElements more vs (i.Token terminal) value fs e ts (rest, token {k} fits, h) = with_row more vs (at terminal k ∷ rest) tt (e (at terminal k ∷ rest) (rest, token fits, h))
  back_NewElements more vs i.ConstructorName value fs e ts h = tt
  back_NewElements more vs input value fs e ts h = let clear : Clear ts = put_back_clear input value ts h.0 tt h.1 in with_row more vs ts clear.2 (e ts h)

  pub end_NewElements : (more : List Symbol) (vs : List Value) → Meaning last (lack (otherwise o.NewElements) more vs []) → Meaning last (At (Non o.NewElements ∷ more) vs [])
  end_NewElements more vs e ts h = with_row more vs ts (subst NoBrace (sym h) tt) (e ts h)
