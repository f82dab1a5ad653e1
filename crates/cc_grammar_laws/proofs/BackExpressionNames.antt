-- Backwards over what the automaton does at a type or a name whose meaning shows only behind it.
use Rattle.std.proofs.Common.{◌≡◌, sym, subst, refl, List, [], ◌∷◌, ◌++◌, append_assoc, append-nil}
use Rattle.cc_tree.specs.declared.token.Token.{Token}
use Rattle.cc_tree.specs.declared.identifier.Identifier.{Identifier}
use Rattle.cc_tree.specs.declared.terminal.Terminal.{Terminal}
use Rattle.cc_tree.specs.declared.terminal.Terminal.TheVariants as t
use Rattle.cc_tree.specs.declared.terminal.NameKind.{NameKind}
use Rattle.cc_tree.specs.declared.terminal.NameKind.TheVariants as n
use Rattle.cc_tree.specs.declared.terminal.ContextualWord.{ContextualWord}
use Rattle.cc_tree.specs.declared.terminal.ReservedWord.TheVariants as w
use Rattle.cc_tree.specs.declared.terminal.Sign.{Sign}
use Rattle.cc_tree.specs.declared.terminal.Sign.TheVariants as s
use Rattle.cc_tree.specs.Terminals.{Classified, at, Id, plain, function}
use Rattle.cc_tree.specs.Spans.{identifier}
use Rattle.cc_tree.specs.GrammarTypes as g
use Rattle.cc_tree.specs.GrammarTypes.{ReadsPath, ReadsCore}
use Rattle.cc_table.specs.declared.symbols.Sort.TheVariants as o
use Rattle.cc_table.specs.declared.symbols.Action.TheVariants as a
use Rattle.cc_table.specs.declared.symbols.Input.{Input}
use Rattle.cc_table.specs.declared.symbols.Input.TheVariants as i
use Rattle.cc_table.specs.declared.symbols.Symbol.{Symbol}
use Rattle.cc_table.specs.declared.symbols.Symbol.TheVariants.{Non, Act}
use Rattle.cc_table.specs.Table.{otherwise}
use Rattle.cc_pushdown.specs.declared.value.Value.{Value}
use Rattle.cc_pushdown.specs.declared.value.Value.TheVariants as v
use Rattle.cc_pushdown.specs.Values.{below, top, top_mark, top_path, top_qualified, top_type_name}
use Rattle.cc_pushdown.specs.Machine.{Fed, fed, At, lack, step}
use Rattle.cc_grammar_laws.proofs.Stands.{StandsToken, StandsCore, StandsQualified, token, core, qualified}
use Rattle.cc_grammar_laws.proofs.ExpressionParts.{Continues}
use Rattle.cc_grammar_laws.proofs.Means.{Means, Meaning, after}

-- what the topmost value stands for
pub qualified_top : (kind : NameKind) (vs : List Value) (us ts : List Classified) → StandsQualified kind (top vs) us ts
    → (word : ContextualWord) × (k : Token) × (identifier k ≡ (top_qualified vs).name) × ReadsPath (top_qualified vs).path us (at (t.Name kind word) k ∷ ts)
qualified_top kind [] us ts h = elim h [ ]
qualified_top kind (value ∷ vs) us ts (qualified {word} {k} p) = (word, k, refl, p)

pub core_top : (vs : List Value) (us ts : List Classified) → StandsCore (top vs) us ts → ReadsCore (top_type_name vs).tree (top_type_name vs).span us ts
core_top [] us ts h = elim h [ ]
core_top (value ∷ vs) us ts (core p) = p

pub sign_value : (sign : Sign) (value : Value) (vs : List Value) (us ts : List Classified) → StandsToken (t.Sign sign) value us ts → (k : Token) × (at (t.Sign sign) k ∷ ts ≡ us) × (k.span ≡ (top_mark (value ∷ vs)).span)
sign_value sign value vs us ts (token {k} fits) = (k, refl, refl)

pub sign_top : (sign : Sign) (vs : List Value) (us ts : List Classified) → StandsToken (t.Sign sign) (top vs) us ts → (k : Token) × (at (t.Sign sign) k ∷ ts ≡ us) × (k.span ≡ (top_mark vs).span)
sign_top sign [] us ts h = sign_value sign v.NoStorage [] us ts h
sign_top sign (value ∷ vs) us ts h = sign_value sign value vs us ts h

path_join : {path others : List Identifier} {id : Terminal} {k scope : Token} {us ts end : List Classified} → ReadsPath path us (at id k ∷ at (t.Sign s.Scope) scope ∷ ts) → Id id → ReadsPath others ts end → ReadsPath (path ++ identifier k ∷ others) us end
path_join g.none i q = g.next i q
path_join (g.next j p) i q = g.next j (path_join p i q)

pub path_continues : (path : List Identifier) (name : Identifier) (id : Terminal) (k scope : Token) (us ts : List Classified) → Id id → identifier k ≡ name → ReadsPath path us (at id k ∷ at (t.Sign s.Scope) scope ∷ ts) → Continues (path ++ name ∷ []) us ts
path_continues path name id k scope us ts i same p =
    λ others end q. subst (λ u. ReadsPath u us end) (sym (append_assoc path (name ∷ []) others)) (subst (λ u. ReadsPath (path ++ u ∷ others) us end) same (path_join p i q))

-- one more name before `::`
pub path_grows : (path : List Identifier) (id : Terminal) (k scope : Token) (us ts : List Classified) → Id id → Continues path us (at id k ∷ at (t.Sign s.Scope) scope ∷ ts) → Continues (path ++ identifier k ∷ []) us ts
path_grows path id k scope us ts i h = λ others end q. subst (λ u. ReadsPath u us end) (sym (append_assoc path (identifier k ∷ []) others)) (h (identifier k ∷ others) end (g.next i q))

-- the path ends
pub path_ends : (path : List Identifier) (us ts : List Classified) → Continues path us ts → ReadsPath path us ts
path_ends path us ts h = subst (λ u. ReadsPath u us ts) (append-nil path) (h [] ts g.none)

module _ (last : List Value) where
  words_put_back : (more : List Symbol) (vs : List Value) (ts : List Classified) → Means last (Non o.Fundamental ∷ Non o.CoreEnd ∷ more) vs ts → Means last more vs ts
  words_put_back more vs ts (of, span, rest, p, m) = m ts (core p)

  type_put_back : (more : List Symbol) (vs : List Value) (word : ContextualWord) (k : Token) (ts : List Classified) → Means last (Act a.StartPath ∷ Non o.TemplateArguments ∷ Non o.CoreEnd ∷ more) (v.Name (record { kind = n.Type; word = word; identifier = identifier k }) ∷ vs) ts
      → Means last more vs (at (t.Name n.Type word) k ∷ ts)
  type_put_back more vs word k ts (of, span, rest, p, m) = m _ (core (g.named (p _ word k refl g.none)))

  scope_end : (more : List Symbol) (kind : NameKind) (vs : List Value) (scope : Token) (ts : List Classified) → ((word : ContextualWord) → Id (t.Name kind word)) → Means last (Act a.AddToPath ∷ Non o.PathRest ∷ more) vs ts
      → (us : List Classified) → StandsQualified kind (top vs) us (at (t.Sign s.Scope) scope ∷ ts) → Means last more (below vs) us
  scope_end more kind vs scope ts i m us h =
      let (word, k, same, p) = qualified_top kind vs us (at (t.Sign s.Scope) scope ∷ ts) h in m us (path_continues (top_qualified vs).path (top_qualified vs).name (t.Name kind word) k scope us ts (i word) same p)

  path_type : (more : List Symbol) (vs : List Value) (word : ContextualWord) (k : Token) (ts : List Classified) → Means last (Act a.EndPath ∷ Non o.TemplateArguments ∷ Non o.CoreEnd ∷ more) (v.Name (record { kind = n.Type; word = word; identifier = identifier k }) ∷ vs) ts
      → Means last (Non o.PathRest ∷ more) vs (at (t.Name n.Type word) k ∷ ts)
  path_type more vs word k ts (of, span, rest, p, m) = λ us h. m us (core (g.named (p us word k refl (path_ends (top_path vs) us _ h))))

  path_plain : (more : List Symbol) (vs : List Value) (word : ContextualWord) (k : Token) (ts : List Classified) → Means last (Act a.EndPath ∷ Non o.NameEnd ∷ more) (v.Name (record { kind = n.Plain; word = word; identifier = identifier k }) ∷ vs) ts
      → Means last (Non o.PathRest ∷ more) vs (at (t.Name n.Plain word) k ∷ ts)
  path_plain more vs word k ts m = λ us h. m us (qualified (path_ends (top_path vs) us _ h))

  path_function : (more : List Symbol) (vs : List Value) (word : ContextualWord) (k : Token) (ts : List Classified) → Means last (Act a.EndPath ∷ Non o.FunctionNameEnd ∷ more) (v.Name (record { kind = n.Function; word = word; identifier = identifier k }) ∷ vs) ts
      → Means last (Non o.PathRest ∷ more) vs (at (t.Name n.Function word) k ∷ ts)
  path_function more vs word k ts m = λ us h. m us (qualified (path_ends (top_path vs) us _ h))

  pub back_TypeOrName : (more : List Symbol) (vs : List Value) (input : Input) (value : Value) (fs : List Fed) → Meaning last (step (At (Non o.TypeOrName ∷ more) vs (fed input value ∷ fs))) → Meaning last (At (Non o.TypeOrName ∷ more) vs (fed input value ∷ fs))
  back_TypeOrName more vs (i.Token (t.Word w.Void)) value fs e ts h = words_put_back more vs ts (e ts h)
  back_TypeOrName more vs (i.Token (t.Word w.Bool)) value fs e ts h = words_put_back more vs ts (e ts h)
  back_TypeOrName more vs (i.Token (t.Word w.WideChar)) value fs e ts h = words_put_back more vs ts (e ts h)
  back_TypeOrName more vs (i.Token (t.Word w.Signed)) value fs e ts h = words_put_back more vs ts (e ts h)
  back_TypeOrName more vs (i.Token (t.Word w.Unsigned)) value fs e ts h = words_put_back more vs ts (e ts h)
  back_TypeOrName more vs (i.Token (t.Word w.Short)) value fs e ts h = words_put_back more vs ts (e ts h)
  back_TypeOrName more vs (i.Token (t.Word w.Int)) value fs e ts h = words_put_back more vs ts (e ts h)
  back_TypeOrName more vs (i.Token (t.Word w.Long)) value fs e ts h = words_put_back more vs ts (e ts h)
  back_TypeOrName more vs (i.Token (t.Name n.Type word)) value fs e ts (rest, token {k} fits, h) = type_put_back more vs word k rest (after last (Act a.StartPath ∷ Non o.TemplateArguments ∷ Non o.CoreEnd ∷ more) (v.Name (record { kind = n.Type; word = word; identifier = identifier k }) ∷ vs) fs rest h e)
  back_TypeOrName more vs (i.Token (t.Name n.Plain word)) value fs e ts (rest, token {k} fits, h) = after last (Act a.StartPath ∷ Non o.NameEnd ∷ more) (v.Name (record { kind = n.Plain; word = word; identifier = identifier k }) ∷ vs) fs rest h e _ (qualified g.none)
  back_TypeOrName more vs (i.Token (t.Name n.Function word)) value fs e ts (rest, token {k} fits, h) = after last (Act a.StartPath ∷ Non o.FunctionNameEnd ∷ more) (v.Name (record { kind = n.Function; word = word; identifier = identifier k }) ∷ vs) fs rest h e _ (qualified g.none)
  back_TypeOrName more vs input value fs e ts h = absurd e

  pub end_TypeOrName : (more : List Symbol) (vs : List Value) → Meaning last (lack (otherwise o.TypeOrName) more vs []) → Meaning last (At (Non o.TypeOrName ∷ more) vs [])
  end_TypeOrName more vs e = absurd e

  pub back_NameEnd : (more : List Symbol) (vs : List Value) (input : Input) (value : Value) (fs : List Fed) → Meaning last (step (At (Non o.NameEnd ∷ more) vs (fed input value ∷ fs))) → Meaning last (At (Non o.NameEnd ∷ more) vs (fed input value ∷ fs))
  back_NameEnd more vs (i.Token (t.Sign s.Scope)) value fs e ts (rest, token {k} fits, h) = scope_end more n.Plain vs k rest (λ word. plain) (after last (Act a.AddToPath ∷ Non o.PathRest ∷ more) (vs) fs rest h e)
  back_NameEnd more vs i.ConstructorName value fs e ts h = tt
  back_NameEnd more vs input value fs e ts h = e ts h

  pub end_NameEnd : (more : List Symbol) (vs : List Value) → Meaning last (lack (otherwise o.NameEnd) more vs []) → Meaning last (At (Non o.NameEnd ∷ more) vs [])
  end_NameEnd more vs e ts h = e ts h

  pub back_FunctionNameEnd : (more : List Symbol) (vs : List Value) (input : Input) (value : Value) (fs : List Fed) → Meaning last (step (At (Non o.FunctionNameEnd ∷ more) vs (fed input value ∷ fs))) → Meaning last (At (Non o.FunctionNameEnd ∷ more) vs (fed input value ∷ fs))
  back_FunctionNameEnd more vs (i.Token (t.Sign s.Scope)) value fs e ts (rest, token {k} fits, h) = scope_end more n.Function vs k rest (λ word. function) (after last (Act a.AddToPath ∷ Non o.PathRest ∷ more) (vs) fs rest h e)
  back_FunctionNameEnd more vs i.ConstructorName value fs e ts h = tt
  back_FunctionNameEnd more vs input value fs e ts h = e ts h

  pub end_FunctionNameEnd : (more : List Symbol) (vs : List Value) → Meaning last (lack (otherwise o.FunctionNameEnd) more vs []) → Meaning last (At (Non o.FunctionNameEnd ∷ more) vs [])
  end_FunctionNameEnd more vs e ts h = e ts h

  pub back_PathRest : (more : List Symbol) (vs : List Value) (input : Input) (value : Value) (fs : List Fed) → Meaning last (step (At (Non o.PathRest ∷ more) vs (fed input value ∷ fs))) → Meaning last (At (Non o.PathRest ∷ more) vs (fed input value ∷ fs))
  back_PathRest more vs (i.Token (t.Name n.Type word)) value fs e ts (rest, token {k} fits, h) = path_type more vs word k rest (after last (Act a.EndPath ∷ Non o.TemplateArguments ∷ Non o.CoreEnd ∷ more) (v.Name (record { kind = n.Type; word = word; identifier = identifier k }) ∷ vs) fs rest h e)
  back_PathRest more vs (i.Token (t.Name n.Plain word)) value fs e ts (rest, token {k} fits, h) = path_plain more vs word k rest (after last (Act a.EndPath ∷ Non o.NameEnd ∷ more) (v.Name (record { kind = n.Plain; word = word; identifier = identifier k }) ∷ vs) fs rest h e)
  back_PathRest more vs (i.Token (t.Name n.Function word)) value fs e ts (rest, token {k} fits, h) = path_function more vs word k rest (after last (Act a.EndPath ∷ Non o.FunctionNameEnd ∷ more) (v.Name (record { kind = n.Function; word = word; identifier = identifier k }) ∷ vs) fs rest h e)
  back_PathRest more vs input value fs e ts h = absurd e

  pub end_PathRest : (more : List Symbol) (vs : List Value) → Meaning last (lack (otherwise o.PathRest) more vs []) → Meaning last (At (Non o.PathRest ∷ more) vs [])
  end_PathRest more vs e = absurd e

  pub back_CoreEnd : (more : List Symbol) (vs : List Value) (input : Input) (value : Value) (fs : List Fed) → Meaning last (step (At (Non o.CoreEnd ∷ more) vs (fed input value ∷ fs))) → Meaning last (At (Non o.CoreEnd ∷ more) vs (fed input value ∷ fs))
  back_CoreEnd more vs (i.Token (t.Sign s.Scope)) value fs e ts h = e ts h
  back_CoreEnd more vs (i.Token (t.Sign s.OpenParenthesis)) value fs e ts h = e ts h
  back_CoreEnd more vs i.ConstructorName value fs e ts h = tt
  back_CoreEnd more vs input value fs e ts h = e ts h

  pub end_CoreEnd : (more : List Symbol) (vs : List Value) → Meaning last (lack (otherwise o.CoreEnd) more vs []) → Meaning last (At (Non o.CoreEnd ∷ more) vs [])
  end_CoreEnd more vs e ts h = e ts h
