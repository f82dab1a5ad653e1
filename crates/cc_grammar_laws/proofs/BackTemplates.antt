-- Backwards over what the automaton does at templates, and at words that begin a class or a type.
use Rattle.std.proofs.Common.{◌≡◌, sym, subst, refl, List, [], ◌∷◌, append_assoc, append-nil}
use Rattle.cc_tree.specs.declared.token.Token.{Token}
use Rattle.cc_tree.specs.declared.terminal.Terminal.{Terminal}
use Rattle.cc_tree.specs.declared.terminal.Terminal.TheVariants as t
use Rattle.cc_tree.specs.declared.terminal.NameKind.{NameKind}
use Rattle.cc_tree.specs.declared.terminal.NameKind.TheVariants as n
use Rattle.cc_tree.specs.declared.terminal.ContextualWord.{ContextualWord}
use Rattle.cc_tree.specs.declared.terminal.ContextualWord.TheVariants as c
use Rattle.cc_tree.specs.declared.terminal.ReservedWord.TheVariants as w
use Rattle.cc_tree.specs.declared.terminal.Sign.TheVariants as s
use Rattle.cc_tree.specs.Spans.{across, identifier}
use Rattle.cc_tree.specs.Terminals.{Classified, at, Id, plain, function}
use Rattle.cc_tree.specs.GrammarTypes.{ReadsCore}
use Rattle.cc_table.specs.declared.symbols.Sort.TheVariants as o
use Rattle.cc_table.specs.declared.symbols.Action.TheVariants as a
use Rattle.cc_table.specs.declared.symbols.Input.{Input}
use Rattle.cc_table.specs.declared.symbols.Input.TheVariants as i
use Rattle.cc_table.specs.declared.symbols.Symbol.{Symbol}
use Rattle.cc_table.specs.declared.symbols.Symbol.TheVariants.{Non, Act}
use Rattle.cc_table.specs.Table.{otherwise}
use Rattle.cc_pushdown.specs.declared.value.Value.{Value}
use Rattle.cc_pushdown.specs.declared.value.Value.TheVariants as v
use Rattle.cc_pushdown.specs.Machine.{Fed, fed, At, lack, step}
use Rattle.cc_grammar_laws.proofs.Stands.{StandsToken, token, Ahead}
use Rattle.cc_grammar_laws.proofs.TypeParts.{takes, mark}
use Rattle.cc_grammar_laws.proofs.Means.{Means, Meaning, after}
use Rattle.cc_grammar_laws.proofs.Owed.{at_input}
use Rattle.cc_tree.specs.GrammarUnit as u
use Rattle.cc_tree.specs.declared.terminal.ReservedWord.{ReservedWord}
use Rattle.cc_tree.specs.declared.unit.TemplateParameter.{TemplateParameter}
use Rattle.cc_tree.specs.GrammarTypes as gt
use Rattle.cc_tree.specs.GrammarTypes.{ReadsPath}
use Rattle.cc_tree.specs.GrammarUnit.{IsAggregate, ReadsKey, ReadsTemplateParameters}
use Rattle.cc_pushdown.specs.declared.value.NameToken.{NameToken}
use Rattle.cc_pushdown.specs.Values.{top_name}
use Rattle.cc_pushdown.specs.Words.{aggregate_of, class_word_of}
use Rattle.cc_grammar_laws.proofs.OuterParts.{IsKeyWord}
use Rattle.cc_grammar_laws.proofs.BackClasses.{is_class_word}

-- the key of a class, from the name on the stack that its first word is
key_of : (name : NameToken) (second : ReservedWord) (k l : Token) (rest : List Classified) (kind : NameKind) → identifier l ≡ name.identifier → IsKeyWord name.word → IsAggregate second (aggregate_of (t.Word second))
    → ReadsKey (record { word = class_word_of name.word; aggregate = aggregate_of (t.Word second); span = across name.identifier.span k.span }) (at (t.Name kind name.word) l ∷ at (t.Word second) k ∷ rest) rest
key_of name second k l rest kind same key g =
    subst (λ d. ReadsKey (record { word = class_word_of name.word; aggregate = aggregate_of (t.Word second); span = across d.span k.span }) (at (t.Name kind name.word) l ∷ at (t.Word second) k ∷ rest) rest) same
    (u.key (is_class_word name.word key) g)

before_comma : {one : TemplateParameter} {items : List TemplateParameter} {k : Token} {us ts rest : List Classified} → ReadsTemplateParameters (one ∷ []) us (at (t.Sign s.Comma) k ∷ ts) → ReadsTemplateParameters items ts rest → ReadsTemplateParameters (one ∷ items) us rest
before_comma (u.last i) q = u.more i q
before_comma (u.more i p) q = elim p [ ]

module _ (last : List Value) where
  name_class_row : (more : List Symbol) (vs : List Value) (k : Token) (ts : List Classified) → Means last (Act a.MakeKey ∷ Non o.AnyName ∷ Non o.ForwardOrClass ∷ more) (mark (t.Word w.Class) k.span ∷ vs) ts
      → Means last (Non o.KeyOrNamespace ∷ more) vs (at (t.Word w.Class) k ∷ ts)
  name_class_row more vs k ts (kind, word, name, us, takes, (one, span, rest, p, m)) =
      (one, span, rest, (λ l same i key. p kind word name _ refl (key_of (top_name vs) w.Class k l _ (top_name vs).kind same key u.class_)), m)

  name_struct_row : (more : List Symbol) (vs : List Value) (k : Token) (ts : List Classified) → Means last (Act a.MakeKey ∷ Non o.AnyName ∷ Non o.ForwardOrClass ∷ more) (mark (t.Word w.Struct) k.span ∷ vs) ts
      → Means last (Non o.KeyOrNamespace ∷ more) vs (at (t.Word w.Struct) k ∷ ts)
  name_struct_row more vs k ts (kind, word, name, us, takes, (one, span, rest, p, m)) =
      (one, span, rest, (λ l same i key. p kind word name _ refl (key_of (top_name vs) w.Struct k l _ (top_name vs).kind same key u.struct)), m)

  name_path_row : (more : List Symbol) (vs : List Value) (k : Token) (ts : List Classified) → Means last (Act a.StartPath ∷ Act a.AddToPath ∷ Non o.TypePath ∷ Non o.TypeMarks ∷ Non o.FunctionRest ∷ Act a.MakeOuterFunction ∷ more) (vs) ts
      → Means last (Non o.KeyOrNamespace ∷ more) vs (at (t.Sign s.Scope) k ∷ ts)
  name_path_row more vs k ts (of, span, us, p, (all, whole, ws, q, (one, rest, r, m))) =
      (_, _, rest, (λ l same i key. u.function_ (r (at (t.Name (top_name vs).kind (top_name vs).word) l ∷ at (t.Sign s.Scope) k ∷ ts) (q (at (t.Name (top_name vs).kind (top_name vs).word) l ∷ at (t.Sign s.Scope) k ∷ ts) (gt.named (p (at (t.Name (top_name vs).kind (top_name vs).word) l ∷ at (t.Sign s.Scope) k ∷ ts) (λ path end z. subst (λ d. ReadsPath (d ∷ path) (at (t.Name (top_name vs).kind (top_name vs).word) l ∷ at (t.Sign s.Scope) k ∷ ts) end) same (gt.next i z))))))), m)

  take_KeyOrNamespace : (more : List Symbol) (vs : List Value) (terminal : Terminal) (value : Value) (fs : List Fed) (ts rest : List Classified) → StandsToken terminal value ts rest → Ahead fs rest
      → Meaning last (step (At (Non o.KeyOrNamespace ∷ more) vs (fed (i.Token terminal) value ∷ fs))) → Means last (Non o.KeyOrNamespace ∷ more) vs ts
  take_KeyOrNamespace more vs (t.Word w.Class) _ fs _ rest (token {k} f) h e = name_class_row more vs k rest (after last (Act a.MakeKey ∷ Non o.AnyName ∷ Non o.ForwardOrClass ∷ more) (mark (t.Word w.Class) k.span ∷ vs) fs rest h e)
  take_KeyOrNamespace more vs (t.Word w.Struct) _ fs _ rest (token {k} f) h e = name_struct_row more vs k rest (after last (Act a.MakeKey ∷ Non o.AnyName ∷ Non o.ForwardOrClass ∷ more) (mark (t.Word w.Struct) k.span ∷ vs) fs rest h e)
  take_KeyOrNamespace more vs (t.Sign s.Scope) _ fs _ rest (token {k} f) h e = name_path_row more vs k rest (after last (Act a.StartPath ∷ Act a.AddToPath ∷ Non o.TypePath ∷ Non o.TypeMarks ∷ Non o.FunctionRest ∷ Act a.MakeOuterFunction ∷ more) (vs) fs rest h e)
  take_KeyOrNamespace more vs _ value fs ts rest p h e = absurd e

  pub back_KeyOrNamespace : (more : List Symbol) (vs : List Value) (input : Input) (value : Value) (fs : List Fed) → Meaning last (step (At (Non o.KeyOrNamespace ∷ more) vs (fed input value ∷ fs))) → Meaning last (At (Non o.KeyOrNamespace ∷ more) vs (fed input value ∷ fs))
  back_KeyOrNamespace more vs i.ConstructorName value fs e ts h = absurd e
  back_KeyOrNamespace more vs (i.Token terminal) value fs e ts (rest, p, h) = take_KeyOrNamespace more vs terminal value fs ts rest p h e
  back_KeyOrNamespace more vs input value fs e ts h = absurd e

  pub end_KeyOrNamespace : (more : List Symbol) (vs : List Value) → Meaning last (lack (otherwise o.KeyOrNamespace) more vs []) → Meaning last (At (Non o.KeyOrNamespace ∷ more) vs [])
  end_KeyOrNamespace more vs e ts h = absurd e

  type_class_row : (more : List Symbol) (vs : List Value) (k : Token) (ts : List Classified) → Means last (Act a.MakeKey ∷ Non o.AnyName ∷ Non o.ForwardOrClass ∷ more) (mark (t.Word w.Class) k.span ∷ vs) ts
      → Means last (Non o.KeyOrType ∷ more) vs (at (t.Word w.Class) k ∷ ts)
  type_class_row more vs k ts (kind, word, name, us, takes, (one, span, rest, p, m)) =
      (one, span, rest, (λ l same key. p kind word name _ refl (key_of (top_name vs) w.Class k l _ n.Type same key u.class_)), m)

  type_struct_row : (more : List Symbol) (vs : List Value) (k : Token) (ts : List Classified) → Means last (Act a.MakeKey ∷ Non o.AnyName ∷ Non o.ForwardOrClass ∷ more) (mark (t.Word w.Struct) k.span ∷ vs) ts
      → Means last (Non o.KeyOrType ∷ more) vs (at (t.Word w.Struct) k ∷ ts)
  type_struct_row more vs k ts (kind, word, name, us, takes, (one, span, rest, p, m)) =
      (one, span, rest, (λ l same key. p kind word name _ refl (key_of (top_name vs) w.Struct k l _ n.Type same key u.struct)), m)

  type_type_row : (more : List Symbol) (vs : List Value) (ts : List Classified) → Means last (Act a.StartPath ∷ Non o.TemplateArguments ∷ Non o.TypeMarks ∷ Non o.FunctionRest ∷ Act a.MakeOuterFunction ∷ more) vs ts → Means last (Non o.KeyOrType ∷ more) vs ts
  type_type_row more vs ts (of, span, us, p, (all, whole, ws, q, (one, rest, r, m))) =
      (_, _, rest, (λ l same key. u.function_ (r (at (t.Name n.Type (top_name vs).word) l ∷ ts) (q (at (t.Name n.Type (top_name vs).word) l ∷ ts) (gt.named (p (at (t.Name n.Type (top_name vs).word) l ∷ ts) (top_name vs).word l same gt.none))))), m)

  take_KeyOrType : (more : List Symbol) (vs : List Value) (terminal : Terminal) (value : Value) (fs : List Fed) (ts rest : List Classified) → StandsToken terminal value ts rest → Ahead fs rest
      → Meaning last (step (At (Non o.KeyOrType ∷ more) vs (fed (i.Token terminal) value ∷ fs))) → Means last (Non o.KeyOrType ∷ more) vs ts
  take_KeyOrType more vs (t.Word w.Class) _ fs _ rest (token {k} f) h e = type_class_row more vs k rest (after last (Act a.MakeKey ∷ Non o.AnyName ∷ Non o.ForwardOrClass ∷ more) (mark (t.Word w.Class) k.span ∷ vs) fs rest h e)
  take_KeyOrType more vs (t.Word w.Struct) _ fs _ rest (token {k} f) h e = type_struct_row more vs k rest (after last (Act a.MakeKey ∷ Non o.AnyName ∷ Non o.ForwardOrClass ∷ more) (mark (t.Word w.Struct) k.span ∷ vs) fs rest h e)
  take_KeyOrType more vs terminal value fs ts rest p h e = type_type_row more vs ts (e ts (rest, p, h))

  pub back_KeyOrType : (more : List Symbol) (vs : List Value) (input : Input) (value : Value) (fs : List Fed) → Meaning last (step (At (Non o.KeyOrType ∷ more) vs (fed input value ∷ fs))) → Meaning last (At (Non o.KeyOrType ∷ more) vs (fed input value ∷ fs))
  back_KeyOrType more vs i.ConstructorName value fs e ts h = tt
  back_KeyOrType more vs (i.Token terminal) value fs e ts (rest, p, h) = take_KeyOrType more vs terminal value fs ts rest p h e
  back_KeyOrType more vs input value fs e ts h = type_type_row more vs ts (e ts h)

  pub end_KeyOrType : (more : List Symbol) (vs : List Value) → Meaning last (lack (otherwise o.KeyOrType) more vs []) → Meaning last (At (Non o.KeyOrType ∷ more) vs [])
  end_KeyOrType more vs e ts h = type_type_row more vs ts (e ts h)

  template_key_row : (more : List Symbol) (vs : List Value) (kind : NameKind) (word : ContextualWord) (k : Token) (ts : List Classified) → Id (t.Name kind word) → IsKeyWord word
      → Means last (Non o.TemplateKeyOrNamespace ∷ more) (v.Name (record { kind = kind; word = word; identifier = identifier k }) ∷ vs) ts → Means last (Non o.TemplateRest ∷ more) vs (at (t.Name kind word) k ∷ ts)
  template_key_row more vs kind word k ts i key (one, span, rest, p, m) = (one, span, rest, p k refl i key, m)

  template_key_type_row : (more : List Symbol) (vs : List Value) (word : ContextualWord) (k : Token) (ts : List Classified) → IsKeyWord word
      → Means last (Non o.TemplateKeyOrType ∷ more) (v.Name (record { kind = n.Type; word = word; identifier = identifier k }) ∷ vs) ts → Means last (Non o.TemplateRest ∷ more) vs (at (t.Name n.Type word) k ∷ ts)
  template_key_type_row more vs word k ts key (one, span, rest, p, m) = (one, span, rest, p k refl key, m)

  template_function_row : (more : List Symbol) (vs : List Value) (ts : List Classified) → Means last (Non o.Type ∷ Non o.FunctionRest ∷ Act a.MakeTemplateFunction ∷ Act a.MakeOuterTemplate ∷ more) vs ts → Means last (Non o.TemplateRest ∷ more) vs ts
  template_function_row more vs ts (of, span, us, p, (one, rest, q, m)) = (_, _, rest, (λ first less greater ws r. u.template_function (u.function_ r (q ts p))), m)

  take_TemplateRest : (more : List Symbol) (vs : List Value) (terminal : Terminal) (value : Value) (fs : List Fed) (ts rest : List Classified) → StandsToken terminal value ts rest → Ahead fs rest
      → Meaning last (step (At (Non o.TemplateRest ∷ more) vs (fed (i.Token terminal) value ∷ fs))) → Means last (Non o.TemplateRest ∷ more) vs ts
  take_TemplateRest more vs (t.Name n.Plain c.Ref) _ fs _ rest (token {k} f) h e = template_key_row more vs n.Plain c.Ref k rest plain tt (after last (Non o.TemplateKeyOrNamespace ∷ more) (v.Name (record { kind = n.Plain; word = c.Ref; identifier = identifier k }) ∷ vs) fs rest h e)
  take_TemplateRest more vs (t.Name n.Function c.Ref) _ fs _ rest (token {k} f) h e = template_key_row more vs n.Function c.Ref k rest function tt (after last (Non o.TemplateKeyOrNamespace ∷ more) (v.Name (record { kind = n.Function; word = c.Ref; identifier = identifier k }) ∷ vs) fs rest h e)
  take_TemplateRest more vs (t.Name n.Type c.Ref) _ fs _ rest (token {k} f) h e = template_key_type_row more vs c.Ref k rest tt (after last (Non o.TemplateKeyOrType ∷ more) (v.Name (record { kind = n.Type; word = c.Ref; identifier = identifier k }) ∷ vs) fs rest h e)
  take_TemplateRest more vs (t.Name n.Plain c.Value) _ fs _ rest (token {k} f) h e = template_key_row more vs n.Plain c.Value k rest plain tt (after last (Non o.TemplateKeyOrNamespace ∷ more) (v.Name (record { kind = n.Plain; word = c.Value; identifier = identifier k }) ∷ vs) fs rest h e)
  take_TemplateRest more vs (t.Name n.Function c.Value) _ fs _ rest (token {k} f) h e = template_key_row more vs n.Function c.Value k rest function tt (after last (Non o.TemplateKeyOrNamespace ∷ more) (v.Name (record { kind = n.Function; word = c.Value; identifier = identifier k }) ∷ vs) fs rest h e)
  take_TemplateRest more vs (t.Name n.Type c.Value) _ fs _ rest (token {k} f) h e = template_key_type_row more vs c.Value k rest tt (after last (Non o.TemplateKeyOrType ∷ more) (v.Name (record { kind = n.Type; word = c.Value; identifier = identifier k }) ∷ vs) fs rest h e)
  take_TemplateRest more vs (t.Name n.Plain c.Interface) _ fs _ rest (token {k} f) h e = template_key_row more vs n.Plain c.Interface k rest plain tt (after last (Non o.TemplateKeyOrNamespace ∷ more) (v.Name (record { kind = n.Plain; word = c.Interface; identifier = identifier k }) ∷ vs) fs rest h e)
  take_TemplateRest more vs (t.Name n.Function c.Interface) _ fs _ rest (token {k} f) h e = template_key_row more vs n.Function c.Interface k rest function tt (after last (Non o.TemplateKeyOrNamespace ∷ more) (v.Name (record { kind = n.Function; word = c.Interface; identifier = identifier k }) ∷ vs) fs rest h e)
  take_TemplateRest more vs (t.Name n.Type c.Interface) _ fs _ rest (token {k} f) h e = template_key_type_row more vs c.Interface k rest tt (after last (Non o.TemplateKeyOrType ∷ more) (v.Name (record { kind = n.Type; word = c.Interface; identifier = identifier k }) ∷ vs) fs rest h e)
  take_TemplateRest more vs terminal value fs ts rest p h e = template_function_row more vs ts (e ts (rest, p, h))

  pub back_TemplateRest : (more : List Symbol) (vs : List Value) (input : Input) (value : Value) (fs : List Fed) → Meaning last (step (At (Non o.TemplateRest ∷ more) vs (fed input value ∷ fs))) → Meaning last (At (Non o.TemplateRest ∷ more) vs (fed input value ∷ fs))
  back_TemplateRest more vs i.ConstructorName value fs e ts h = tt
  back_TemplateRest more vs (i.Token terminal) value fs e ts (rest, p, h) = take_TemplateRest more vs terminal value fs ts rest p h e
  back_TemplateRest more vs input value fs e ts h = template_function_row more vs ts (e ts h)

  pub end_TemplateRest : (more : List Symbol) (vs : List Value) → Meaning last (lack (otherwise o.TemplateRest) more vs []) → Meaning last (At (Non o.TemplateRest ∷ more) vs [])
  end_TemplateRest more vs e ts h = template_function_row more vs ts (e ts h)

  template_name_class_row : (more : List Symbol) (vs : List Value) (k : Token) (ts : List Classified) → Means last (Act a.MakeKey ∷ Non o.AnyName ∷ Non o.ClassRest ∷ Act a.MakeTemplateClass ∷ Act a.MakeOuterTemplate ∷ more) (mark (t.Word w.Class) k.span ∷ vs) ts
      → Means last (Non o.TemplateKeyOrNamespace ∷ more) vs (at (t.Word w.Class) k ∷ ts)
  template_name_class_row more vs k ts (kind, word, name, us, takes, (one, rest, p, m)) =
      (_, _, rest, (λ l same i key first less greater ws r. u.template_class (u.class_ r (p kind word name _ refl (key_of (top_name vs) w.Class k l _ (top_name vs).kind same key u.class_)))), m)

  template_name_struct_row : (more : List Symbol) (vs : List Value) (k : Token) (ts : List Classified) → Means last (Act a.MakeKey ∷ Non o.AnyName ∷ Non o.ClassRest ∷ Act a.MakeTemplateClass ∷ Act a.MakeOuterTemplate ∷ more) (mark (t.Word w.Struct) k.span ∷ vs) ts
      → Means last (Non o.TemplateKeyOrNamespace ∷ more) vs (at (t.Word w.Struct) k ∷ ts)
  template_name_struct_row more vs k ts (kind, word, name, us, takes, (one, rest, p, m)) =
      (_, _, rest, (λ l same i key first less greater ws r. u.template_class (u.class_ r (p kind word name _ refl (key_of (top_name vs) w.Struct k l _ (top_name vs).kind same key u.struct)))), m)

  template_name_path_row : (more : List Symbol) (vs : List Value) (k : Token) (ts : List Classified) → Means last (Act a.StartPath ∷ Act a.AddToPath ∷ Non o.TypePath ∷ Non o.TypeMarks ∷ Non o.FunctionRest ∷ Act a.MakeTemplateFunction ∷ Act a.MakeOuterTemplate ∷ more) (vs) ts
      → Means last (Non o.TemplateKeyOrNamespace ∷ more) vs (at (t.Sign s.Scope) k ∷ ts)
  template_name_path_row more vs k ts (of, span, us, p, (all, whole, ws, q, (one, rest, r, m))) =
      (_, _, rest, (λ l same i key first less greater xs y. u.template_function (u.function_ y (r (at (t.Name (top_name vs).kind (top_name vs).word) l ∷ at (t.Sign s.Scope) k ∷ ts) (q (at (t.Name (top_name vs).kind (top_name vs).word) l ∷ at (t.Sign s.Scope) k ∷ ts) (gt.named (p (at (t.Name (top_name vs).kind (top_name vs).word) l ∷ at (t.Sign s.Scope) k ∷ ts) (λ path end z. subst (λ d. ReadsPath (d ∷ path) (at (t.Name (top_name vs).kind (top_name vs).word) l ∷ at (t.Sign s.Scope) k ∷ ts) end) same (gt.next i z)))))))), m)

  take_TemplateKeyOrNamespace : (more : List Symbol) (vs : List Value) (terminal : Terminal) (value : Value) (fs : List Fed) (ts rest : List Classified) → StandsToken terminal value ts rest → Ahead fs rest
      → Meaning last (step (At (Non o.TemplateKeyOrNamespace ∷ more) vs (fed (i.Token terminal) value ∷ fs))) → Means last (Non o.TemplateKeyOrNamespace ∷ more) vs ts
  take_TemplateKeyOrNamespace more vs (t.Word w.Class) _ fs _ rest (token {k} f) h e = template_name_class_row more vs k rest (after last (Act a.MakeKey ∷ Non o.AnyName ∷ Non o.ClassRest ∷ Act a.MakeTemplateClass ∷ Act a.MakeOuterTemplate ∷ more) (mark (t.Word w.Class) k.span ∷ vs) fs rest h e)
  take_TemplateKeyOrNamespace more vs (t.Word w.Struct) _ fs _ rest (token {k} f) h e = template_name_struct_row more vs k rest (after last (Act a.MakeKey ∷ Non o.AnyName ∷ Non o.ClassRest ∷ Act a.MakeTemplateClass ∷ Act a.MakeOuterTemplate ∷ more) (mark (t.Word w.Struct) k.span ∷ vs) fs rest h e)
  take_TemplateKeyOrNamespace more vs (t.Sign s.Scope) _ fs _ rest (token {k} f) h e = template_name_path_row more vs k rest (after last (Act a.StartPath ∷ Act a.AddToPath ∷ Non o.TypePath ∷ Non o.TypeMarks ∷ Non o.FunctionRest ∷ Act a.MakeTemplateFunction ∷ Act a.MakeOuterTemplate ∷ more) (vs) fs rest h e)
  take_TemplateKeyOrNamespace more vs _ value fs ts rest p h e = absurd e

  pub back_TemplateKeyOrNamespace : (more : List Symbol) (vs : List Value) (input : Input) (value : Value) (fs : List Fed) → Meaning last (step (At (Non o.TemplateKeyOrNamespace ∷ more) vs (fed input value ∷ fs))) → Meaning last (At (Non o.TemplateKeyOrNamespace ∷ more) vs (fed input value ∷ fs))
  back_TemplateKeyOrNamespace more vs i.ConstructorName value fs e ts h = absurd e
  back_TemplateKeyOrNamespace more vs (i.Token terminal) value fs e ts (rest, p, h) = take_TemplateKeyOrNamespace more vs terminal value fs ts rest p h e
  back_TemplateKeyOrNamespace more vs input value fs e ts h = absurd e

  pub end_TemplateKeyOrNamespace : (more : List Symbol) (vs : List Value) → Meaning last (lack (otherwise o.TemplateKeyOrNamespace) more vs []) → Meaning last (At (Non o.TemplateKeyOrNamespace ∷ more) vs [])
  end_TemplateKeyOrNamespace more vs e ts h = absurd e

  template_type_class_row : (more : List Symbol) (vs : List Value) (k : Token) (ts : List Classified) → Means last (Act a.MakeKey ∷ Non o.AnyName ∷ Non o.ClassRest ∷ Act a.MakeTemplateClass ∷ Act a.MakeOuterTemplate ∷ more) (mark (t.Word w.Class) k.span ∷ vs) ts
      → Means last (Non o.TemplateKeyOrType ∷ more) vs (at (t.Word w.Class) k ∷ ts)
  template_type_class_row more vs k ts (kind, word, name, us, takes, (one, rest, p, m)) =
      (_, _, rest, (λ l same key first less greater ws r. u.template_class (u.class_ r (p kind word name _ refl (key_of (top_name vs) w.Class k l _ n.Type same key u.class_)))), m)

  template_type_struct_row : (more : List Symbol) (vs : List Value) (k : Token) (ts : List Classified) → Means last (Act a.MakeKey ∷ Non o.AnyName ∷ Non o.ClassRest ∷ Act a.MakeTemplateClass ∷ Act a.MakeOuterTemplate ∷ more) (mark (t.Word w.Struct) k.span ∷ vs) ts
      → Means last (Non o.TemplateKeyOrType ∷ more) vs (at (t.Word w.Struct) k ∷ ts)
  template_type_struct_row more vs k ts (kind, word, name, us, takes, (one, rest, p, m)) =
      (_, _, rest, (λ l same key first less greater ws r. u.template_class (u.class_ r (p kind word name _ refl (key_of (top_name vs) w.Struct k l _ n.Type same key u.struct)))), m)

  template_type_type_row : (more : List Symbol) (vs : List Value) (ts : List Classified) → Means last (Act a.StartPath ∷ Non o.TemplateArguments ∷ Non o.TypeMarks ∷ Non o.FunctionRest ∷ Act a.MakeTemplateFunction ∷ Act a.MakeOuterTemplate ∷ more) vs ts → Means last (Non o.TemplateKeyOrType ∷ more) vs ts
  template_type_type_row more vs ts (of, span, us, p, (all, whole, ws, q, (one, rest, r, m))) =
      (_, _, rest, (λ l same key first less greater xs y. u.template_function (u.function_ y (r (at (t.Name n.Type (top_name vs).word) l ∷ ts) (q (at (t.Name n.Type (top_name vs).word) l ∷ ts) (gt.named (p (at (t.Name n.Type (top_name vs).word) l ∷ ts) (top_name vs).word l same gt.none)))))), m)

  take_TemplateKeyOrType : (more : List Symbol) (vs : List Value) (terminal : Terminal) (value : Value) (fs : List Fed) (ts rest : List Classified) → StandsToken terminal value ts rest → Ahead fs rest
      → Meaning last (step (At (Non o.TemplateKeyOrType ∷ more) vs (fed (i.Token terminal) value ∷ fs))) → Means last (Non o.TemplateKeyOrType ∷ more) vs ts
  take_TemplateKeyOrType more vs (t.Word w.Class) _ fs _ rest (token {k} f) h e = template_type_class_row more vs k rest (after last (Act a.MakeKey ∷ Non o.AnyName ∷ Non o.ClassRest ∷ Act a.MakeTemplateClass ∷ Act a.MakeOuterTemplate ∷ more) (mark (t.Word w.Class) k.span ∷ vs) fs rest h e)
  take_TemplateKeyOrType more vs (t.Word w.Struct) _ fs _ rest (token {k} f) h e = template_type_struct_row more vs k rest (after last (Act a.MakeKey ∷ Non o.AnyName ∷ Non o.ClassRest ∷ Act a.MakeTemplateClass ∷ Act a.MakeOuterTemplate ∷ more) (mark (t.Word w.Struct) k.span ∷ vs) fs rest h e)
  take_TemplateKeyOrType more vs terminal value fs ts rest p h e = template_type_type_row more vs ts (e ts (rest, p, h))

  pub back_TemplateKeyOrType : (more : List Symbol) (vs : List Value) (input : Input) (value : Value) (fs : List Fed) → Meaning last (step (At (Non o.TemplateKeyOrType ∷ more) vs (fed input value ∷ fs))) → Meaning last (At (Non o.TemplateKeyOrType ∷ more) vs (fed input value ∷ fs))
  back_TemplateKeyOrType more vs i.ConstructorName value fs e ts h = tt
  back_TemplateKeyOrType more vs (i.Token terminal) value fs e ts (rest, p, h) = take_TemplateKeyOrType more vs terminal value fs ts rest p h e
  back_TemplateKeyOrType more vs input value fs e ts h = template_type_type_row more vs ts (e ts h)

  pub end_TemplateKeyOrType : (more : List Symbol) (vs : List Value) → Meaning last (lack (otherwise o.TemplateKeyOrType) more vs []) → Meaning last (At (Non o.TemplateKeyOrType ∷ more) vs [])
  end_TemplateKeyOrType more vs e ts h = template_type_type_row more vs ts (e ts h)

  typename_row : (more : List Symbol) (vs : List Value) (k : Token) (ts : List Classified) → Means last (Non o.AnyName ∷ Act a.MakeTemplateParameter ∷ more) (mark (t.Word w.Typename) k.span ∷ vs) ts
      → Means last (Non o.TemplateParameter ∷ more) vs (at (t.Word w.Typename) k ∷ ts)
  typename_row more vs k ts (kind, word, name, rest, takes, m) = (_, rest, u.last u.typename, m)

  class_row : (more : List Symbol) (vs : List Value) (k : Token) (ts : List Classified) → Means last (Non o.AnyName ∷ Act a.MakeTemplateParameter ∷ more) (mark (t.Word w.Class) k.span ∷ vs) ts
      → Means last (Non o.TemplateParameter ∷ more) vs (at (t.Word w.Class) k ∷ ts)
  class_row more vs k ts (kind, word, name, rest, takes, m) = (_, rest, u.last u.class_, m)

  take_TemplateParameter : (more : List Symbol) (vs : List Value) (terminal : Terminal) (value : Value) (fs : List Fed) (ts rest : List Classified) → StandsToken terminal value ts rest → Ahead fs rest
      → Meaning last (step (At (Non o.TemplateParameter ∷ more) vs (fed (i.Token terminal) value ∷ fs))) → Means last (Non o.TemplateParameter ∷ more) vs ts
  take_TemplateParameter more vs (t.Word w.Typename) _ fs _ rest (token {k} f) h e = typename_row more vs k rest (after last (Non o.AnyName ∷ Act a.MakeTemplateParameter ∷ more) (mark (t.Word w.Typename) k.span ∷ vs) fs rest h e)
  take_TemplateParameter more vs (t.Word w.Class) _ fs _ rest (token {k} f) h e = class_row more vs k rest (after last (Non o.AnyName ∷ Act a.MakeTemplateParameter ∷ more) (mark (t.Word w.Class) k.span ∷ vs) fs rest h e)
  take_TemplateParameter more vs _ value fs ts rest p h e = absurd e

  pub back_TemplateParameter : (more : List Symbol) (vs : List Value) (input : Input) (value : Value) (fs : List Fed) → Meaning last (step (At (Non o.TemplateParameter ∷ more) vs (fed input value ∷ fs))) → Meaning last (At (Non o.TemplateParameter ∷ more) vs (fed input value ∷ fs))
  back_TemplateParameter more vs i.ConstructorName value fs e ts h = absurd e
  back_TemplateParameter more vs (i.Token terminal) value fs e ts (rest, p, h) = take_TemplateParameter more vs terminal value fs ts rest p h e
  back_TemplateParameter more vs input value fs e ts h = absurd e

  pub end_TemplateParameter : (more : List Symbol) (vs : List Value) → Meaning last (lack (otherwise o.TemplateParameter) more vs []) → Meaning last (At (Non o.TemplateParameter ∷ more) vs [])
  end_TemplateParameter more vs e ts h = absurd e

  more_template_parameters : (more : List Symbol) (first : List TemplateParameter) (vs : List Value) (k : Token) (ts : List Classified) → Means last (Non o.TemplateParameter ∷ Act a.AddTemplateParameter ∷ Non o.MoreTemplateParameters ∷ more) (v.TemplateParameters first ∷ vs) ts
      → Means last (Non o.MoreTemplateParameters ∷ more) (v.TemplateParameters first ∷ vs) (at (t.Sign s.Comma) k ∷ ts)
  more_template_parameters more first vs k ts (one, us, p, (items, rest, q, m)) = (one ∷ items, rest, (λ two ws r. before_comma r (q one ts p)), subst (λ q. Means last more (v.TemplateParameters q ∷ vs) rest) (append_assoc first (one ∷ []) items) m)

  no_more_template_parameters : (more : List Symbol) (first : List TemplateParameter) (vs : List Value) (ts : List Classified) → Means last (more) (v.TemplateParameters first ∷ vs) ts → Means last (Non o.MoreTemplateParameters ∷ more) (v.TemplateParameters first ∷ vs) ts
  no_more_template_parameters more first vs ts m = ([], ts, (λ one us r. r), subst (λ q. Means last more (v.TemplateParameters q ∷ vs) ts) (sym (append-nil first)) m)

  take_MoreTemplateParameters : (more : List Symbol) (first : List TemplateParameter) (vs : List Value) (terminal : Terminal) (value : Value) (fs : List Fed) (ts rest : List Classified) → StandsToken terminal value ts rest → Ahead fs rest
      → Meaning last (step (At (Non o.MoreTemplateParameters ∷ more) (v.TemplateParameters first ∷ vs) (fed (i.Token terminal) value ∷ fs))) → Means last (Non o.MoreTemplateParameters ∷ more) (v.TemplateParameters first ∷ vs) ts
  take_MoreTemplateParameters more first vs (t.Sign s.Comma) _ fs _ rest (token {k} f) h e = more_template_parameters more first vs k rest (after last (Non o.TemplateParameter ∷ Act a.AddTemplateParameter ∷ Non o.MoreTemplateParameters ∷ more) (v.TemplateParameters first ∷ vs) fs rest h e)
  take_MoreTemplateParameters more first vs terminal value fs ts rest p h e = no_more_template_parameters more first vs ts (e ts (rest, p, h))

  pub back_MoreTemplateParameters : (more : List Symbol) (vs : List Value) (input : Input) (value : Value) (fs : List Fed) → Meaning last (step (At (Non o.MoreTemplateParameters ∷ more) vs (fed input value ∷ fs))) → Meaning last (At (Non o.MoreTemplateParameters ∷ more) vs (fed input value ∷ fs))
  back_MoreTemplateParameters more (v.TemplateParameters first ∷ vs) i.ConstructorName value fs e ts h = tt
  back_MoreTemplateParameters more (v.TemplateParameters first ∷ vs) (i.Token terminal) value fs e ts (rest, p, h) = take_MoreTemplateParameters more first vs terminal value fs ts rest p h e
  back_MoreTemplateParameters more (v.TemplateParameters first ∷ vs) input value fs e ts h = no_more_template_parameters more first vs ts (e ts h)
  back_MoreTemplateParameters more vs input value fs e ts h = at_input input (Non o.MoreTemplateParameters ∷ more) (Means last (Non o.MoreTemplateParameters ∷ more)) vs ts tt

  pub end_MoreTemplateParameters : (more : List Symbol) (vs : List Value) → Meaning last (lack (otherwise o.MoreTemplateParameters) more vs []) → Meaning last (At (Non o.MoreTemplateParameters ∷ more) vs [])
  end_MoreTemplateParameters more (v.TemplateParameters first ∷ vs) e ts h = no_more_template_parameters more first vs ts (e ts h)
  end_MoreTemplateParameters more vs e ts h = tt
