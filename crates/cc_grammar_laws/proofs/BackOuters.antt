-- Backwards over what the automaton does outside classes.
use Rattle.std.proofs.Common.{sym, subst, refl, List, [], ◌∷◌, ◌++◌, append_assoc, append-nil}
use Rattle.cc_base.specs.declared.text.Span.{Span}
use Rattle.cc_tree.specs.declared.token.Token.{Token}
use Rattle.cc_tree.specs.declared.terminal.Terminal.{Terminal}
use Rattle.cc_tree.specs.declared.terminal.Terminal.TheVariants as t
use Rattle.cc_tree.specs.declared.terminal.NameKind.{NameKind}
use Rattle.cc_tree.specs.declared.terminal.NameKind.TheVariants as n
use Rattle.cc_tree.specs.declared.terminal.ContextualWord.{ContextualWord}
use Rattle.cc_tree.specs.declared.terminal.ContextualWord.TheVariants as c
use Rattle.cc_tree.specs.declared.terminal.ReservedWord.TheVariants as w
use Rattle.cc_tree.specs.declared.terminal.Sign.TheVariants as s
use Rattle.cc_tree.specs.Spans.{identifier}
use Rattle.cc_tree.specs.Terminals.{Classified, at, Id, plain, function}
use Rattle.cc_table.specs.declared.symbols.Sort.TheVariants as o
use Rattle.cc_table.specs.declared.symbols.Action.TheVariants as a
use Rattle.cc_table.specs.declared.symbols.Input.{Input}
use Rattle.cc_table.specs.declared.symbols.Input.TheVariants as i
use Rattle.cc_table.specs.declared.symbols.Symbol.{Symbol}
use Rattle.cc_table.specs.declared.symbols.Symbol.TheVariants.{Non, Act}
use Rattle.cc_table.specs.Table.{otherwise}
use Rattle.cc_pushdown.specs.declared.value.Node.{Node}
use Rattle.cc_pushdown.specs.declared.value.Value.{Value}
use Rattle.cc_pushdown.specs.declared.value.Value.TheVariants as v
use Rattle.cc_pushdown.specs.Machine.{Fed, fed, At, lack, step}
use Rattle.cc_grammar_laws.proofs.Stands.{StandsToken, token, Ahead}
use Rattle.cc_grammar_laws.proofs.TypeParts.{takes, mark}
use Rattle.cc_grammar_laws.proofs.Means.{Means, Meaning, after}
use Rattle.cc_grammar_laws.proofs.Owed.{at_input}
use Rattle.cc_tree.specs.GrammarUnit as u
use Rattle.cc_tree.specs.declared.identifier.Identifier.{Identifier}
use Rattle.cc_tree.specs.declared.unit.Outer.{Outer}
use Rattle.cc_tree.specs.GrammarUnit.{ReadsOuter, ReadsOuters}
use Rattle.cc_pushdown.specs.Build.{grown_from}
use Rattle.cc_grammar_laws.proofs.OuterParts.{IsKeyWord}
use Rattle.cc_grammar_laws.proofs.BackFunctions.{parameters_of}

-- one more behind some
add_outer : {items : List Outer} {one : Outer} {whole span : Span} {us ts rest : List Classified} → ReadsOuters items whole us ts → ReadsOuter one span ts rest → ReadsOuters (items ++ one ∷ []) (grown_from items whole span) us rest
add_outer u.none q = u.last q
add_outer (u.last p) q = u.more p (u.last q)
add_outer (u.more p r) q = u.more p (add_outer r q)

module _ (last : List Value) where
  unit_row : (more : List Symbol) (first : Node (List Outer)) (vs : List Value) (ts : List Classified) → Means last (Non o.Outer ∷ Act a.AddOuter ∷ Non o.UnitRest ∷ more) (v.Outers first ∷ vs) ts → Means last (Non o.UnitRest ∷ more) (v.Outers first ∷ vs) ts
  unit_row more first vs ts (one, span, us, p, (all, rest, q, m)) = (all, rest, (λ ws r. q ws (add_outer r p)), m)

  unit_ends : (more : List Symbol) (first : Node (List Outer)) (vs : List Value) (ts : List Classified) → Means last (more) (v.Outers first ∷ vs) ts → Means last (Non o.UnitRest ∷ more) (v.Outers first ∷ vs) ts
  unit_ends more first vs ts m = (first, ts, (λ us p. p), m)

  pub back_UnitRest : (more : List Symbol) (vs : List Value) (input : Input) (value : Value) (fs : List Fed) → Meaning last (step (At (Non o.UnitRest ∷ more) vs (fed input value ∷ fs))) → Meaning last (At (Non o.UnitRest ∷ more) vs (fed input value ∷ fs))
  back_UnitRest more (v.Outers first ∷ vs) (i.Token (t.Name kind word)) value fs e ts h = unit_row more first vs ts (e ts h)
  back_UnitRest more (v.Outers first ∷ vs) (i.Token (t.Word word)) value fs e ts h = unit_row more first vs ts (e ts h)
  back_UnitRest more (v.Outers first ∷ vs) (i.Token (t.Sign sign)) value fs e ts h = unit_row more first vs ts (e ts h)
  back_UnitRest more (v.Outers first ∷ vs) (i.Token t.Number) value fs e ts h = unit_row more first vs ts (e ts h)
  back_UnitRest more (v.Outers first ∷ vs) (i.Token t.Zero) value fs e ts h = unit_row more first vs ts (e ts h)
  back_UnitRest more (v.Outers first ∷ vs) (i.Token t.Character) value fs e ts h = unit_row more first vs ts (e ts h)
  back_UnitRest more (v.Outers first ∷ vs) (i.Token t.Literal) value fs e ts h = unit_row more first vs ts (e ts h)
  back_UnitRest more (v.Outers first ∷ vs) (i.Token t.Other) value fs e ts h = unit_row more first vs ts (e ts h)
  back_UnitRest more (v.Outers first ∷ vs) i.ConstructorName value fs e ts h = tt
  back_UnitRest more (v.Outers first ∷ vs) input value fs e ts h = unit_ends more first vs ts (e ts h)
  back_UnitRest more vs input value fs e ts h = at_input input (Non o.UnitRest ∷ more) (Means last (Non o.UnitRest ∷ more)) vs ts tt

  pub end_UnitRest : (more : List Symbol) (vs : List Value) → Meaning last (lack (otherwise o.UnitRest) more vs []) → Meaning last (At (Non o.UnitRest ∷ more) vs [])
  end_UnitRest more (v.Outers first ∷ vs) e ts h = unit_ends more first vs ts (e ts h)
  end_UnitRest more vs e ts h = tt

  outers_row : (more : List Symbol) (first : Node (List Outer)) (vs : List Value) (ts : List Classified) → Means last (Non o.Outer ∷ Act a.AddOuter ∷ Non o.Outers ∷ more) (v.Outers first ∷ vs) ts → Means last (Non o.Outers ∷ more) (v.Outers first ∷ vs) ts
  outers_row more first vs ts (one, span, us, p, (all, rest, q, m)) = (all, rest, (λ ws r. q ws (add_outer r p)), m)

  take_Outers : (more : List Symbol) (first : Node (List Outer)) (vs : List Value) (terminal : Terminal) (value : Value) (fs : List Fed) (ts rest : List Classified) → StandsToken terminal value ts rest → Ahead fs rest
      → Meaning last (step (At (Non o.Outers ∷ more) (v.Outers first ∷ vs) (fed (i.Token terminal) value ∷ fs))) → Means last (Non o.Outers ∷ more) (v.Outers first ∷ vs) ts
  take_Outers more first vs (t.Sign s.CloseBrace) value fs ts rest p h e = (first, ts, (λ us q. q), (e ts (rest, p, h)))
  take_Outers more first vs terminal value fs ts rest p h e = outers_row more first vs ts (e ts (rest, p, h))

  pub back_Outers : (more : List Symbol) (vs : List Value) (input : Input) (value : Value) (fs : List Fed) → Meaning last (step (At (Non o.Outers ∷ more) vs (fed input value ∷ fs))) → Meaning last (At (Non o.Outers ∷ more) vs (fed input value ∷ fs))
  back_Outers more (v.Outers first ∷ vs) i.ConstructorName value fs e ts h = tt
  back_Outers more (v.Outers first ∷ vs) (i.Token terminal) value fs e ts (rest, p, h) = take_Outers more first vs terminal value fs ts rest p h e
  back_Outers more (v.Outers first ∷ vs) input value fs e ts h = outers_row more first vs ts (e ts h)
  back_Outers more vs input value fs e ts h = at_input input (Non o.Outers ∷ more) (Means last (Non o.Outers ∷ more)) vs ts tt

  pub end_Outers : (more : List Symbol) (vs : List Value) → Meaning last (lack (otherwise o.Outers) more vs []) → Meaning last (At (Non o.Outers ∷ more) vs [])
  end_Outers more (v.Outers first ∷ vs) e ts h = outers_row more first vs ts (e ts h)
  end_Outers more vs e ts h = tt

  using_row : (more : List Symbol) (vs : List Value) (k : Token) (ts : List Classified) → Means last (Non o.NamespaceWord ∷ Non o.Identifier ∷ Act a.FirstName ∷ Non o.NamespaceNames ∷ Non o.KeptSemicolon ∷ Act a.MakeUsing ∷ more) (mark (t.Word w.Using) k.span ∷ vs) ts
      → Means last (Non o.Outer ∷ more) vs (at (t.Word w.Using) k ∷ ts)
  using_row more vs k ts (namespace_, us, takes, (kind, word, name, ws, id, takes, (names, xs, q, (semicolon, rest, takes, m)))) = (_, _, rest, u.using_ (q (t.Name kind word) name id), m)

  namespace_row : (more : List Symbol) (vs : List Value) (k : Token) (ts : List Classified) → Means last (Non o.Identifier ∷ Non o.OpenBrace ∷ Act a.StartOuters ∷ Non o.Outers ∷ Non o.KeptCloseBrace ∷ Act a.MakeNamespace ∷ more) (mark (t.Word w.Namespace) k.span ∷ vs) ts
      → Means last (Non o.Outer ∷ more) vs (at (t.Word w.Namespace) k ∷ ts)
  namespace_row more vs k ts (kind, word, name, us, id, takes, (open_, ws, takes, (all, xs, q, (close, rest, takes, m)))) = (_, _, rest, u.namespace id (q ws u.none), m)

  public_row : (more : List Symbol) (vs : List Value) (k : Token) (ts : List Classified) → Means last (Non o.VisibleRest ∷ more) (mark (t.Word w.Public) k.span ∷ vs) ts
      → Means last (Non o.Outer ∷ more) vs (at (t.Word w.Public) k ∷ ts)
  public_row more vs k ts (one, span, rest, p, m) = (one, span, rest, p w.Public k.kind u.public, m)

  private_row : (more : List Symbol) (vs : List Value) (k : Token) (ts : List Classified) → Means last (Non o.VisibleRest ∷ more) (mark (t.Word w.Private) k.span ∷ vs) ts
      → Means last (Non o.Outer ∷ more) vs (at (t.Word w.Private) k ∷ ts)
  private_row more vs k ts (one, span, rest, p, m) = (one, span, rest, p w.Private k.kind u.private, m)

  enumeration_row : (more : List Symbol) (vs : List Value) (ts : List Classified) → Means last (Non o.Enumeration ∷ Act a.MakeOuterEnumeration ∷ more) vs ts → Means last (Non o.Outer ∷ more) vs ts
  enumeration_row more vs ts (one, rest, p, m) = (_, _, rest, u.enum_ p, m)

  template_row : (more : List Symbol) (vs : List Value) (k : Token) (ts : List Classified) → Means last (Non o.Less ∷ Act a.StartTemplateParameters ∷ Non o.TemplateParameter ∷ Act a.AddTemplateParameter ∷ Non o.MoreTemplateParameters ∷ Non o.Greater ∷ Non o.TemplateRest ∷ more) (mark (t.Word w.Template) k.span ∷ vs) ts
      → Means last (Non o.Outer ∷ more) vs (at (t.Word w.Template) k ∷ ts)
  template_row more vs k ts (less, us, takes, (one, ws, p, (items, xs, q, (greater, ys, takes, (outer, span, rest, r, m))))) = (outer, span, rest, r k.kind less greater us (q one us p), m)

  key_row : (more : List Symbol) (vs : List Value) (kind : NameKind) (word : ContextualWord) (k : Token) (ts : List Classified) → Id (t.Name kind word) → IsKeyWord word
      → Means last (Non o.KeyOrNamespace ∷ more) (v.Name (record { kind = kind; word = word; identifier = identifier k }) ∷ vs) ts → Means last (Non o.Outer ∷ more) vs (at (t.Name kind word) k ∷ ts)
  key_row more vs kind word k ts i key (one, span, rest, p, m) = (one, span, rest, p k refl i key, m)

  key_type_row : (more : List Symbol) (vs : List Value) (word : ContextualWord) (k : Token) (ts : List Classified) → IsKeyWord word
      → Means last (Non o.KeyOrType ∷ more) (v.Name (record { kind = n.Type; word = word; identifier = identifier k }) ∷ vs) ts → Means last (Non o.Outer ∷ more) vs (at (t.Name n.Type word) k ∷ ts)
  key_type_row more vs word k ts key (one, span, rest, p, m) = (one, span, rest, p k refl key, m)

  function_row : (more : List Symbol) (vs : List Value) (ts : List Classified) → Means last (Non o.Type ∷ Non o.FunctionRest ∷ Act a.MakeOuterFunction ∷ more) vs ts → Means last (Non o.Outer ∷ more) vs ts
  function_row more vs ts (of, span, us, p, (one, rest, q, m)) = (_, _, rest, u.function_ (q ts p), m)

  take_Outer : (more : List Symbol) (vs : List Value) (terminal : Terminal) (value : Value) (fs : List Fed) (ts rest : List Classified) → StandsToken terminal value ts rest → Ahead fs rest
      → Meaning last (step (At (Non o.Outer ∷ more) vs (fed (i.Token terminal) value ∷ fs))) → Means last (Non o.Outer ∷ more) vs ts
  take_Outer more vs (t.Word w.Using) _ fs _ rest (token {k} f) h e = using_row more vs k rest (after last (Non o.NamespaceWord ∷ Non o.Identifier ∷ Act a.FirstName ∷ Non o.NamespaceNames ∷ Non o.KeptSemicolon ∷ Act a.MakeUsing ∷ more) (mark (t.Word w.Using) k.span ∷ vs) fs rest h e)
  take_Outer more vs (t.Word w.Namespace) _ fs _ rest (token {k} f) h e = namespace_row more vs k rest (after last (Non o.Identifier ∷ Non o.OpenBrace ∷ Act a.StartOuters ∷ Non o.Outers ∷ Non o.KeptCloseBrace ∷ Act a.MakeNamespace ∷ more) (mark (t.Word w.Namespace) k.span ∷ vs) fs rest h e)
  take_Outer more vs (t.Word w.Public) _ fs _ rest (token {k} f) h e = public_row more vs k rest (after last (Non o.VisibleRest ∷ more) (mark (t.Word w.Public) k.span ∷ vs) fs rest h e)
  take_Outer more vs (t.Word w.Private) _ fs _ rest (token {k} f) h e = private_row more vs k rest (after last (Non o.VisibleRest ∷ more) (mark (t.Word w.Private) k.span ∷ vs) fs rest h e)
  take_Outer more vs (t.Word w.Enum) value fs ts rest p h e = enumeration_row more vs ts (e ts (rest, p, h))
  take_Outer more vs (t.Word w.Template) _ fs _ rest (token {k} f) h e = template_row more vs k rest (after last (Non o.Less ∷ Act a.StartTemplateParameters ∷ Non o.TemplateParameter ∷ Act a.AddTemplateParameter ∷ Non o.MoreTemplateParameters ∷ Non o.Greater ∷ Non o.TemplateRest ∷ more) (mark (t.Word w.Template) k.span ∷ vs) fs rest h e)
  take_Outer more vs (t.Name n.Plain c.Ref) _ fs _ rest (token {k} f) h e = key_row more vs n.Plain c.Ref k rest plain tt (after last (Non o.KeyOrNamespace ∷ more) (v.Name (record { kind = n.Plain; word = c.Ref; identifier = identifier k }) ∷ vs) fs rest h e)
  take_Outer more vs (t.Name n.Function c.Ref) _ fs _ rest (token {k} f) h e = key_row more vs n.Function c.Ref k rest function tt (after last (Non o.KeyOrNamespace ∷ more) (v.Name (record { kind = n.Function; word = c.Ref; identifier = identifier k }) ∷ vs) fs rest h e)
  take_Outer more vs (t.Name n.Type c.Ref) _ fs _ rest (token {k} f) h e = key_type_row more vs c.Ref k rest tt (after last (Non o.KeyOrType ∷ more) (v.Name (record { kind = n.Type; word = c.Ref; identifier = identifier k }) ∷ vs) fs rest h e)
  take_Outer more vs (t.Name n.Plain c.Value) _ fs _ rest (token {k} f) h e = key_row more vs n.Plain c.Value k rest plain tt (after last (Non o.KeyOrNamespace ∷ more) (v.Name (record { kind = n.Plain; word = c.Value; identifier = identifier k }) ∷ vs) fs rest h e)
  take_Outer more vs (t.Name n.Function c.Value) _ fs _ rest (token {k} f) h e = key_row more vs n.Function c.Value k rest function tt (after last (Non o.KeyOrNamespace ∷ more) (v.Name (record { kind = n.Function; word = c.Value; identifier = identifier k }) ∷ vs) fs rest h e)
  take_Outer more vs (t.Name n.Type c.Value) _ fs _ rest (token {k} f) h e = key_type_row more vs c.Value k rest tt (after last (Non o.KeyOrType ∷ more) (v.Name (record { kind = n.Type; word = c.Value; identifier = identifier k }) ∷ vs) fs rest h e)
  take_Outer more vs (t.Name n.Plain c.Interface) _ fs _ rest (token {k} f) h e = key_row more vs n.Plain c.Interface k rest plain tt (after last (Non o.KeyOrNamespace ∷ more) (v.Name (record { kind = n.Plain; word = c.Interface; identifier = identifier k }) ∷ vs) fs rest h e)
  take_Outer more vs (t.Name n.Function c.Interface) _ fs _ rest (token {k} f) h e = key_row more vs n.Function c.Interface k rest function tt (after last (Non o.KeyOrNamespace ∷ more) (v.Name (record { kind = n.Function; word = c.Interface; identifier = identifier k }) ∷ vs) fs rest h e)
  take_Outer more vs (t.Name n.Type c.Interface) _ fs _ rest (token {k} f) h e = key_type_row more vs c.Interface k rest tt (after last (Non o.KeyOrType ∷ more) (v.Name (record { kind = n.Type; word = c.Interface; identifier = identifier k }) ∷ vs) fs rest h e)
  take_Outer more vs terminal value fs ts rest p h e = function_row more vs ts (e ts (rest, p, h))

  pub back_Outer : (more : List Symbol) (vs : List Value) (input : Input) (value : Value) (fs : List Fed) → Meaning last (step (At (Non o.Outer ∷ more) vs (fed input value ∷ fs))) → Meaning last (At (Non o.Outer ∷ more) vs (fed input value ∷ fs))
  back_Outer more vs i.ConstructorName value fs e ts h = tt
  back_Outer more vs (i.Token terminal) value fs e ts (rest, p, h) = take_Outer more vs terminal value fs ts rest p h e
  back_Outer more vs input value fs e ts h = function_row more vs ts (e ts h)

  pub end_Outer : (more : List Symbol) (vs : List Value) → Meaning last (lack (otherwise o.Outer) more vs []) → Meaning last (At (Non o.Outer ∷ more) vs [])
  end_Outer more vs e ts h = function_row more vs ts (e ts h)

  more_names : (more : List Symbol) (first : List Identifier) (vs : List Value) (k : Token) (ts : List Classified) → Means last (Non o.Identifier ∷ Act a.AddName ∷ Non o.NamespaceNames ∷ more) (v.Names first ∷ vs) ts
      → Means last (Non o.NamespaceNames ∷ more) (v.Names first ∷ vs) (at (t.Sign s.Scope) k ∷ ts)
  more_names more first vs k ts (kind, word, name, us, id, takes, (items, rest, q, m)) =
      (identifier name ∷ items, rest, (λ one l i. u.more i (q (t.Name kind word) name id)), subst (λ q. Means last more (v.Names q ∷ vs) rest) (append_assoc first (identifier name ∷ []) items) m)

  no_more_names : (more : List Symbol) (first : List Identifier) (vs : List Value) (ts : List Classified) → Means last (more) (v.Names first ∷ vs) ts → Means last (Non o.NamespaceNames ∷ more) (v.Names first ∷ vs) ts
  no_more_names more first vs ts m = ([], ts, (λ id l i. u.last i), subst (λ q. Means last more (v.Names q ∷ vs) ts) (sym (append-nil first)) m)

  take_NamespaceNames : (more : List Symbol) (first : List Identifier) (vs : List Value) (terminal : Terminal) (value : Value) (fs : List Fed) (ts rest : List Classified) → StandsToken terminal value ts rest → Ahead fs rest
      → Meaning last (step (At (Non o.NamespaceNames ∷ more) (v.Names first ∷ vs) (fed (i.Token terminal) value ∷ fs))) → Means last (Non o.NamespaceNames ∷ more) (v.Names first ∷ vs) ts
  take_NamespaceNames more first vs (t.Sign s.Scope) _ fs _ rest (token {k} f) h e = more_names more first vs k rest (after last (Non o.Identifier ∷ Act a.AddName ∷ Non o.NamespaceNames ∷ more) (v.Names first ∷ vs) fs rest h e)
  take_NamespaceNames more first vs terminal value fs ts rest p h e = no_more_names more first vs ts (e ts (rest, p, h))

  pub back_NamespaceNames : (more : List Symbol) (vs : List Value) (input : Input) (value : Value) (fs : List Fed) → Meaning last (step (At (Non o.NamespaceNames ∷ more) vs (fed input value ∷ fs))) → Meaning last (At (Non o.NamespaceNames ∷ more) vs (fed input value ∷ fs))
  back_NamespaceNames more (v.Names first ∷ vs) i.ConstructorName value fs e ts h = tt
  back_NamespaceNames more (v.Names first ∷ vs) (i.Token terminal) value fs e ts (rest, p, h) = take_NamespaceNames more first vs terminal value fs ts rest p h e
  back_NamespaceNames more (v.Names first ∷ vs) input value fs e ts h = no_more_names more first vs ts (e ts h)
  back_NamespaceNames more vs input value fs e ts h = at_input input (Non o.NamespaceNames ∷ more) (Means last (Non o.NamespaceNames ∷ more)) vs ts tt

  pub end_NamespaceNames : (more : List Symbol) (vs : List Value) → Meaning last (lack (otherwise o.NamespaceNames) more vs []) → Meaning last (At (Non o.NamespaceNames ∷ more) vs [])
  end_NamespaceNames more (v.Names first ∷ vs) e ts h = no_more_names more first vs ts (e ts h)
  end_NamespaceNames more vs e ts h = tt

  parts_row : (more : List Symbol) (vs : List Value) (ts : List Classified) → Means last (Non o.Identifier ∷ Non o.KeptOpenParenthesis ∷ Act a.StartParameters ∷ Non o.Parameters ∷ Act a.MakeParameters ∷ Non o.CloseParenthesis ∷ Non o.Body ∷ Act a.MakeFunction ∷ more) vs ts → Means last (Non o.FunctionRest ∷ more) vs ts
  parts_row more vs ts (kind, word, name, us, id, takes, (open_, ws, takes, (list, xs, p, (close, ys, takes, (body, span, rest, q, m))))) =
      (_, rest, (λ zs r. u.function_ r id (parameters_of p) q), m)

  pub back_FunctionRest : (more : List Symbol) (vs : List Value) (input : Input) (value : Value) (fs : List Fed) → Meaning last (step (At (Non o.FunctionRest ∷ more) vs (fed input value ∷ fs))) → Meaning last (At (Non o.FunctionRest ∷ more) vs (fed input value ∷ fs))
  back_FunctionRest more vs i.ConstructorName value fs e ts h = tt
  back_FunctionRest more vs input value fs e ts h = parts_row more vs ts (e ts h)

  pub end_FunctionRest : (more : List Symbol) (vs : List Value) → Meaning last (lack (otherwise o.FunctionRest) more vs []) → Meaning last (At (Non o.FunctionRest ∷ more) vs [])
  end_FunctionRest more vs e ts h = parts_row more vs ts (e ts h)
