-- Backwards over what the automaton does at the members of classes.
use Rattle.std.proofs.Common.{◌≡◌, sym, ap, subst, refl, List, [], ◌∷◌, append_assoc, append-nil, arith}
use Rattle.std.specs.Prelude.{ℕ, Option, Bool, true, false}
use Rattle.std.specs.Str.{bytes_eq}
use Rattle.std.proofs.lemmas.Slice.Eq.{bytes_eq-Decides}
use Rattle.cc_base.specs.declared.text.Span.{Span}
use Rattle.cc_tree.specs.declared.token.Token.{Token}
use Rattle.cc_tree.specs.declared.identifier.Identifier.{Identifier}
use Rattle.cc_tree.specs.declared.terminal.Terminal.{Terminal}
use Rattle.cc_tree.specs.declared.terminal.Terminal.TheVariants as t
use Rattle.cc_tree.specs.declared.terminal.NameKind.{NameKind}
use Rattle.cc_tree.specs.declared.terminal.NameKind.TheVariants as n
use Rattle.cc_tree.specs.declared.terminal.ContextualWord.{ContextualWord}
use Rattle.cc_tree.specs.declared.terminal.ContextualWord.TheVariants as c
use Rattle.cc_tree.specs.declared.terminal.ReservedWord.{ReservedWord}
use Rattle.cc_tree.specs.declared.terminal.ReservedWord.TheVariants as w
use Rattle.cc_tree.specs.declared.terminal.Sign.TheVariants as s
use Rattle.cc_tree.specs.declared.type_name.TypeName.{TypeName}
use Rattle.cc_tree.specs.declared.type_name.TypeName.TheVariants as type
use Rattle.cc_tree.specs.declared.member.Accessor.{Accessor}
use Rattle.cc_tree.specs.declared.member.Member.{Member}
use Rattle.cc_tree.specs.declared.member.Member.TheVariants as member
use Rattle.cc_tree.specs.Terminals.{Classified, at, Id, plain, function, letters}
use Rattle.cc_tree.specs.Spans.{across, identifier}
use Rattle.cc_tree.specs.GrammarTypes as g
use Rattle.cc_tree.specs.GrammarTypes.{ReadsPath, ReadsType, ReadsCore}
use Rattle.cc_tree.specs.GrammarMembers as y
use Rattle.cc_tree.specs.GrammarMembers.{ReadsParameters, ReadsModifiers, ReadsOverridden, ReadsBody, ReadsIds, ReadsStorage, ReadsPropertyName, ReadsPropertyBody, IsAccess, ReadsMember}
use Rattle.cc_table.specs.declared.symbols.Sort.TheVariants as o
use Rattle.cc_table.specs.declared.symbols.Action.TheVariants as a
use Rattle.cc_table.specs.declared.symbols.Input.{Input}
use Rattle.cc_table.specs.declared.symbols.Input.TheVariants as i
use Rattle.cc_table.specs.declared.symbols.Symbol.{Symbol}
use Rattle.cc_table.specs.declared.symbols.Symbol.TheVariants.{Non, Act, Back}
use Rattle.cc_table.specs.Table.{otherwise}
use Rattle.cc_pushdown.specs.declared.value.Mark.{Mark}
use Rattle.cc_pushdown.specs.declared.value.NameToken.{NameToken}
use Rattle.cc_pushdown.specs.declared.value.Value.{Value}
use Rattle.cc_pushdown.specs.declared.value.Value.TheVariants as v
use Rattle.cc_pushdown.specs.Values.{below, top_property_name, top_property_type, top_storage, top_type_name}
use Rattle.cc_pushdown.specs.Words.{access_of, is_static, is_virtual, storage_of}
use Rattle.cc_pushdown.specs.Build.{first_span, list_span}
use Rattle.cc_pushdown.specs.Machine.{Fed, fed, At, begins, lack, own_or, put, step}
use Rattle.cc_grammar_laws.proofs.CompleteTypes.{type_value}
use Rattle.cc_grammar_laws.proofs.CompleteFunctions.{ParameterPart}
use Rattle.cc_grammar_laws.proofs.Stands.{StandsName, StandsDeclared, StandsCore, StandsProperty, Ahead, token, core, property, name, declared}
use Rattle.cc_grammar_laws.proofs.MemberParts as parts
use Rattle.cc_grammar_laws.proofs.MemberParts.{static_mark, virtual_mark, name_token, class_letters, HoldsStatic, Holds, MoreIds}
use Rattle.cc_grammar_laws.proofs.BackFunctions.{parameters_of}
use Rattle.cc_grammar_laws.proofs.TypeParts.{takes, mark}
use Rattle.cc_grammar_laws.proofs.Means.{Means, Meaning, after, AtName, AtOwn}

storage_static : {kept : Option Mark} {us ws : List Classified} → HoldsStatic kept us ws → (span : Span) → ReadsStorage (storage_of kept) (first_span kept span) span us ws
storage_static parts.nothing span = y.none
storage_static parts.static span = y.static

storage_held : {kept : Option Mark} {us ws : List Classified} → Holds kept us ws → (span : Span) → ReadsStorage (storage_of kept) (first_span kept span) span us ws
storage_held parts.nothing span = y.none
storage_held parts.static span = y.static
storage_held parts.virtual span = y.virtual

fields_of : {own : List ℕ} {kept : Option Mark} {of : TypeName} {names : List Identifier} {span : Span} {semicolon : Token} {us ws ts rest : List Classified} → HoldsStatic kept us ws → ReadsType of span ws ts
    → ReadsIds names ts (at (t.Sign s.Semicolon) semicolon ∷ rest) → ReadsMember own (member.Fields (is_static kept) of names (across (first_span kept span) semicolon.span)) us rest
fields_of parts.nothing p q = y.fields p q
fields_of parts.static p q = y.static_fields p q

ids_join : {id : Terminal} {names : List Identifier} {k : Token} {ts rest : List Classified} → Id id → MoreIds names ts rest → ReadsIds (identifier k ∷ names) (at id k ∷ ts) rest
ids_join j parts.nothing = y.last j
ids_join j (parts.comma p) = y.more j p

own_letters : (one other : List ℕ) → bytes_eq one other ≡ true → one ≡ other
own_letters one other e = grind (bytes_eq-Decides one other, e, arith)

-- the class's own name goes on as a constructor's, or as a type's
own_goes_on : (more : List Symbol) (K : List Value → List Classified → Type 0) (vs : List Value) (terminal : Terminal) (k : Token) (ts : List Classified) → letters k.kind ≡ class_letters (below (below vs))
    → AtName more K vs (at terminal k ∷ ts) → AtOwn more K vs (at terminal k ∷ ts)
own_goes_on (Non o.MemberRest ∷ more) K vs terminal k ts mine m = m mine
own_goes_on _ K vs terminal k ts mine m = tt

type_goes_on : (more : List Symbol) (K : List Value → List Classified → Type 0) (vs : List Value) (ts : List Classified) → K vs ts → AtOwn more K vs ts
type_goes_on (Non o.MemberRest ∷ more) K vs ts m = m
type_goes_on _ K vs ts m = tt

stands_own : (one : NameToken) (kind : NameKind) (word : ContextualWord) (k : Token) (ts : List Classified) → one ≡ name_token kind word k → StandsName (v.Name one) (at (t.Name kind word) k ∷ ts) ts
stands_own one kind word k ts same = subst (λ q. StandsName (v.Name q) (at (t.Name kind word) k ∷ ts) ts) (sym same) name

stands_declared : (one : NameToken) (kind : NameKind) (word : ContextualWord) (k : Token) (ts : List Classified) → Id (t.Name kind word) → one ≡ name_token kind word k → StandsDeclared (v.Name one) (at (t.Name kind word) k ∷ ts) ts
stands_declared one kind word k ts j same = subst (λ q. StandsDeclared (v.Name q) (at (t.Name kind word) k ∷ ts) ts) (sym same) (declared j)

stands_property : (one : NameToken) (kind : NameKind) (k : Token) {of : TypeName} {span : Span} {ts rest : List Classified} → one ≡ name_token kind c.Property k → ReadsType of span ts rest
    → StandsProperty (v.PropertyType (record { tree = of; span = one.identifier.span })) (at (t.Name kind c.Property) k ∷ ts) rest
stands_property one kind k {of} {ts} {rest} same p = subst (λ q. StandsProperty (v.PropertyType (record { tree = of; span = q.identifier.span })) (at (t.Name kind c.Property) k ∷ ts) rest) (sym same) (property p)

-- a type's path behind a name that is a namespace
path_behind : (one : NameToken) (kind : NameKind) (word : ContextualWord) (k scope : Token) (ts : List Classified) → Id (t.Name kind word) → one ≡ name_token kind word k
    → (path : List Identifier) (end : List Classified) → ReadsPath path ts end → ReadsPath (one.identifier ∷ path) (at (t.Name kind word) k ∷ at (t.Sign s.Scope) scope ∷ ts) end
path_behind one kind word k scope ts j same path end p = subst (λ q. ReadsPath (q.identifier ∷ path) (at (t.Name kind word) k ∷ at (t.Sign s.Scope) scope ∷ ts) end) (sym same) (g.next j p)

module _ (last : List Value) where
  words_put_back : (more : List Symbol) (vs : List Value) (ts : List Classified) → Means last (Non o.Fundamental ∷ Back i.CoreType ∷ more) vs ts → Means last more vs ts
  words_put_back more vs ts (of, span, rest, p, m) = m ts (core p)

  type_put_back : (more : List Symbol) (vs : List Value) (word : ContextualWord) (k : Token) (ts : List Classified) → Means last (Act a.StartPath ∷ Non o.TemplateArguments ∷ Back i.CoreType ∷ more) (v.Name (name_token n.Type word k) ∷ vs) ts
      → Means last more vs (at (t.Name n.Type word) k ∷ ts)
  type_put_back more vs word k ts (of, span, rest, p, m) = m _ (core (g.named (p _ word k refl g.none)))

  outer_put_back : (more : List Symbol) (vs : List Value) (kind : NameKind) (word : ContextualWord) (k : Token) (ts : List Classified) → Id (t.Name kind word)
      → Means last (Act a.StartPath ∷ Non o.Scope ∷ Act a.AddToPath ∷ Non o.TypePath ∷ Back i.CoreType ∷ more) (v.Name (name_token kind word k) ∷ vs) ts → Means last more vs (at (t.Name kind word) k ∷ ts)
  outer_put_back more vs kind word k ts j (scope, us, takes, (of, span, rest, p, m)) = m _ (core (g.named (p _ (path_behind (name_token kind word k) kind word k scope us j refl))))

  pub back_TypeOrProperty : (more : List Symbol) (vs : List Value) (input : Input) (value : Value) (fs : List Fed) → Meaning last (step (At (Non o.TypeOrProperty ∷ more) vs (fed input value ∷ fs))) → Meaning last (At (Non o.TypeOrProperty ∷ more) vs (fed input value ∷ fs))
  back_TypeOrProperty more vs i.ConstructorName value fs e ts h = tt
  back_TypeOrProperty more vs (i.Token (t.Word w.Void)) value fs e ts h = words_put_back more vs ts (e ts h)
  back_TypeOrProperty more vs (i.Token (t.Word w.Bool)) value fs e ts h = words_put_back more vs ts (e ts h)
  back_TypeOrProperty more vs (i.Token (t.Word w.WideChar)) value fs e ts h = words_put_back more vs ts (e ts h)
  back_TypeOrProperty more vs (i.Token (t.Word w.Signed)) value fs e ts h = words_put_back more vs ts (e ts h)
  back_TypeOrProperty more vs (i.Token (t.Word w.Unsigned)) value fs e ts h = words_put_back more vs ts (e ts h)
  back_TypeOrProperty more vs (i.Token (t.Word w.Short)) value fs e ts h = words_put_back more vs ts (e ts h)
  back_TypeOrProperty more vs (i.Token (t.Word w.Int)) value fs e ts h = words_put_back more vs ts (e ts h)
  back_TypeOrProperty more vs (i.Token (t.Word w.Long)) value fs e ts h = words_put_back more vs ts (e ts h)
  back_TypeOrProperty more vs (i.Token (t.Name n.Type c.Property)) value fs e ts (rest, token {k} fits, h) = (after last (Non o.PropertyOrType ∷ more) (v.Name (name_token n.Type c.Property k) ∷ vs) fs rest h e) k refl
  back_TypeOrProperty more vs (i.Token (t.Name n.Type word)) value fs e ts (rest, token {k} fits, h) = type_put_back more vs word k rest (after last (Act a.StartPath ∷ Non o.TemplateArguments ∷ Back i.CoreType ∷ more) (v.Name (name_token n.Type word k) ∷ vs) fs rest h e)
  back_TypeOrProperty more vs (i.Token (t.Name n.Plain c.Property)) value fs e ts (rest, token {k} fits, h) = (after last (Non o.PropertyOrNamespace ∷ more) (v.Name (name_token n.Plain c.Property k) ∷ vs) fs rest h e) n.Plain k plain refl
  back_TypeOrProperty more vs (i.Token (t.Name n.Plain word)) value fs e ts (rest, token {k} fits, h) = outer_put_back more vs n.Plain word k rest plain (after last (Act a.StartPath ∷ Non o.Scope ∷ Act a.AddToPath ∷ Non o.TypePath ∷ Back i.CoreType ∷ more) (v.Name (name_token n.Plain word k) ∷ vs) fs rest h e)
  back_TypeOrProperty more vs (i.Token (t.Name n.Function c.Property)) value fs e ts (rest, token {k} fits, h) = (after last (Non o.PropertyOrNamespace ∷ more) (v.Name (name_token n.Function c.Property k) ∷ vs) fs rest h e) n.Function k function refl
  back_TypeOrProperty more vs (i.Token (t.Name n.Function word)) value fs e ts (rest, token {k} fits, h) = outer_put_back more vs n.Function word k rest function (after last (Act a.StartPath ∷ Non o.Scope ∷ Act a.AddToPath ∷ Non o.TypePath ∷ Back i.CoreType ∷ more) (v.Name (name_token n.Function word k) ∷ vs) fs rest h e)
  back_TypeOrProperty more vs input value fs e ts h = absurd e

  pub end_TypeOrProperty : (more : List Symbol) (vs : List Value) → Meaning last (lack (otherwise o.TypeOrProperty) more vs []) → Meaning last (At (Non o.TypeOrProperty ∷ more) vs [])
  end_TypeOrProperty more vs e ts h = absurd e

  property_of_type : (more : List Symbol) (one : NameToken) (vs : List Value) (ts : List Classified) → Means last (Non o.Type ∷ Act a.MakePropertyType ∷ Back i.PropertyType ∷ more) (v.Name one ∷ vs) ts → Means last (Non o.PropertyOrType ∷ more) (v.Name one ∷ vs) ts
  property_of_type more one vs ts (of, span, rest, p, m) = λ k same. m _ (stands_property one n.Type k same p)

  property_as_type : (more : List Symbol) (one : NameToken) (vs : List Value) (ts : List Classified) → Means last (Act a.StartPath ∷ Non o.TemplateArguments ∷ Back i.CoreType ∷ more) (v.Name one ∷ vs) ts → Means last (Non o.PropertyOrType ∷ more) (v.Name one ∷ vs) ts
  property_as_type more one vs ts (of, span, rest, p, m) = λ k same. m _ (core (g.named (p _ c.Property k (ap (λ q. q.identifier) (sym same)) g.none)))

  pub back_PropertyOrType : (more : List Symbol) (vs : List Value) (input : Input) (value : Value) (fs : List Fed) → Meaning last (step (At (Non o.PropertyOrType ∷ more) vs (fed input value ∷ fs))) → Meaning last (At (Non o.PropertyOrType ∷ more) vs (fed input value ∷ fs))
  back_PropertyOrType more vs i.ConstructorName value fs e ts h = tt
  back_PropertyOrType more (v.Name one ∷ vs) (i.Token (t.Word w.Void)) value fs e ts h = property_of_type more one vs ts (e ts h)
  back_PropertyOrType more (v.Name one ∷ vs) (i.Token (t.Word w.Bool)) value fs e ts h = property_of_type more one vs ts (e ts h)
  back_PropertyOrType more (v.Name one ∷ vs) (i.Token (t.Word w.WideChar)) value fs e ts h = property_of_type more one vs ts (e ts h)
  back_PropertyOrType more (v.Name one ∷ vs) (i.Token (t.Word w.Signed)) value fs e ts h = property_of_type more one vs ts (e ts h)
  back_PropertyOrType more (v.Name one ∷ vs) (i.Token (t.Word w.Unsigned)) value fs e ts h = property_of_type more one vs ts (e ts h)
  back_PropertyOrType more (v.Name one ∷ vs) (i.Token (t.Word w.Short)) value fs e ts h = property_of_type more one vs ts (e ts h)
  back_PropertyOrType more (v.Name one ∷ vs) (i.Token (t.Word w.Int)) value fs e ts h = property_of_type more one vs ts (e ts h)
  back_PropertyOrType more (v.Name one ∷ vs) (i.Token (t.Word w.Long)) value fs e ts h = property_of_type more one vs ts (e ts h)
  back_PropertyOrType more (v.Name one ∷ vs) (i.Token (t.Name n.Type word)) value fs e ts h = property_of_type more one vs ts (e ts h)
  back_PropertyOrType more (v.Name one ∷ vs) (i.Token (t.Name n.Plain word)) value fs e ts (rest, token {k = l} fits, h) = λ k same. (after last (Non o.PropertyTypeOrName ∷ more) (v.Name (name_token n.Plain word l) ∷ v.Name one ∷ vs) fs rest h e) n.Plain word k l plain refl same
  back_PropertyOrType more (v.Name one ∷ vs) (i.Token (t.Name n.Function word)) value fs e ts (rest, token {k = l} fits, h) = λ k same. (after last (Non o.PropertyTypeOrName ∷ more) (v.Name (name_token n.Function word l) ∷ v.Name one ∷ vs) fs rest h e) n.Function word k l function refl same
  back_PropertyOrType more (v.Name one ∷ vs) input value fs e ts h = property_as_type more one vs ts (e ts h)
  back_PropertyOrType more vs input value fs e ts h = tt

  pub end_PropertyOrType : (more : List Symbol) (vs : List Value) → Meaning last (lack (otherwise o.PropertyOrType) more vs []) → Meaning last (At (Non o.PropertyOrType ∷ more) vs [])
  end_PropertyOrType more (v.Name one ∷ vs) e ts h = property_as_type more one vs ts (e ts h)
  end_PropertyOrType more vs e ts h = tt

  property_of_path : (more : List Symbol) (other one : NameToken) (vs : List Value) (scope : Token) (ts : List Classified)
      → Means last (Act a.StartPath ∷ Act a.AddToPath ∷ Non o.TypePath ∷ Non o.TypeMarks ∷ Act a.MakePropertyType ∷ Back i.PropertyType ∷ more) (v.Name other ∷ v.Name one ∷ vs) ts
      → Means last (Non o.PropertyTypeOrName ∷ more) (v.Name other ∷ v.Name one ∷ vs) (at (t.Sign s.Scope) scope ∷ ts)
  property_of_path more other one vs scope ts (of, span, us, p, (whole, all, rest, q, m)) =
      λ kind word k l j same first. m _ (stands_property one n.Type k first (q _ (g.named (p _ (path_behind other kind word l scope ts j same)))))

  declared_name : (more : List Symbol) (other one : NameToken) (vs : List Value) (ts : List Classified) → Means last (Back i.DeclaredName ∷ Act a.StartPath ∷ Act a.MakeNamed ∷ Back i.CoreType ∷ more) (v.Name other ∷ v.Name one ∷ vs) ts
      → Means last (Non o.PropertyTypeOrName ∷ more) (v.Name other ∷ v.Name one ∷ vs) ts
  declared_name more other one vs ts m = λ kind word k l j same first. m _ (stands_declared other kind word l ts j same) (at (t.Name n.Type c.Property) k ∷ at (t.Name kind word) l ∷ ts)
      (subst (λ q. StandsCore (type_value (type.Named [] q.identifier [] q.identifier.span) q.identifier.span) (at (t.Name n.Type c.Property) k ∷ at (t.Name kind word) l ∷ ts) (at (t.Name kind word) l ∷ ts)) (sym first) (core (g.named (g.alone g.none))))

  pub back_PropertyTypeOrName : (more : List Symbol) (vs : List Value) (input : Input) (value : Value) (fs : List Fed) → Meaning last (step (At (Non o.PropertyTypeOrName ∷ more) vs (fed input value ∷ fs))) → Meaning last (At (Non o.PropertyTypeOrName ∷ more) vs (fed input value ∷ fs))
  back_PropertyTypeOrName more vs i.ConstructorName value fs e ts h = tt
  back_PropertyTypeOrName more (v.Name other ∷ v.Name one ∷ vs) (i.Token (t.Sign s.Scope)) value fs e ts (rest, token {k} fits, h) = property_of_path more other one vs k rest (after last (Act a.StartPath ∷ Act a.AddToPath ∷ Non o.TypePath ∷ Non o.TypeMarks ∷ Act a.MakePropertyType ∷ Back i.PropertyType ∷ more) (v.Name other ∷ v.Name one ∷ vs) fs rest h e)
  back_PropertyTypeOrName more (v.Name other ∷ v.Name one ∷ vs) input value fs e ts h = declared_name more other one vs ts (e ts h)
  back_PropertyTypeOrName more vs input value fs e ts h = tt

  pub end_PropertyTypeOrName : (more : List Symbol) (vs : List Value) → Meaning last (lack (otherwise o.PropertyTypeOrName) more vs []) → Meaning last (At (Non o.PropertyTypeOrName ∷ more) vs [])
  end_PropertyTypeOrName more (v.Name other ∷ v.Name one ∷ vs) e ts h = declared_name more other one vs ts (e ts h)
  end_PropertyTypeOrName more vs e ts h = tt

  property_as_namespace : (more : List Symbol) (one : NameToken) (vs : List Value) (scope : Token) (ts : List Classified) → Means last (Act a.StartPath ∷ Act a.AddToPath ∷ Non o.TypePath ∷ Back i.CoreType ∷ more) (v.Name one ∷ vs) ts
      → Means last (Non o.PropertyOrNamespace ∷ more) (v.Name one ∷ vs) (at (t.Sign s.Scope) scope ∷ ts)
  property_as_namespace more one vs scope ts (of, span, us, p, m) = λ kind k j same. m _ (core (g.named (p _ (path_behind one kind c.Property k scope ts j same))))

  property_of_name : (more : List Symbol) (one : NameToken) (vs : List Value) (ts : List Classified) → Means last (Non o.Type ∷ Act a.MakePropertyType ∷ Back i.PropertyType ∷ more) (v.Name one ∷ vs) ts → Means last (Non o.PropertyOrNamespace ∷ more) (v.Name one ∷ vs) ts
  property_of_name more one vs ts (of, span, rest, p, m) = λ kind k j same. m _ (stands_property one kind k same p)

  pub back_PropertyOrNamespace : (more : List Symbol) (vs : List Value) (input : Input) (value : Value) (fs : List Fed) → Meaning last (step (At (Non o.PropertyOrNamespace ∷ more) vs (fed input value ∷ fs))) → Meaning last (At (Non o.PropertyOrNamespace ∷ more) vs (fed input value ∷ fs))
  back_PropertyOrNamespace more vs i.ConstructorName value fs e ts h = tt
  back_PropertyOrNamespace more (v.Name one ∷ vs) (i.Token (t.Sign s.Scope)) value fs e ts (rest, token {k} fits, h) = property_as_namespace more one vs k rest (after last (Act a.StartPath ∷ Act a.AddToPath ∷ Non o.TypePath ∷ Back i.CoreType ∷ more) (v.Name one ∷ vs) fs rest h e)
  back_PropertyOrNamespace more (v.Name one ∷ vs) input value fs e ts h = property_of_name more one vs ts (e ts h)
  back_PropertyOrNamespace more vs input value fs e ts h = tt

  pub end_PropertyOrNamespace : (more : List Symbol) (vs : List Value) → Meaning last (lack (otherwise o.PropertyOrNamespace) more vs []) → Meaning last (At (Non o.PropertyOrNamespace ∷ more) vs [])
  end_PropertyOrNamespace more (v.Name one ∷ vs) e ts h = property_of_name more one vs ts (e ts h)
  end_PropertyOrNamespace more vs e ts h = tt

  own_type : (more : List Symbol) (one : NameToken) (vs : List Value) (ts : List Classified) → Means last (Act a.StartPath ∷ Non o.TemplateArguments ∷ Back i.CoreType ∷ more) (v.Name one ∷ vs) ts → Means last (Non o.OwnTypeEnd ∷ more) (v.Name one ∷ vs) ts
  own_type more one vs ts (of, span, rest, p, m) = λ word k same mine. type_goes_on more (Means last more) vs _ (m _ (core (g.named (p _ word k (ap (λ q. q.identifier) (sym same)) g.none))))

  pub back_OwnTypeEnd : (more : List Symbol) (vs : List Value) (input : Input) (value : Value) (fs : List Fed) → Meaning last (step (At (Non o.OwnTypeEnd ∷ more) vs (fed input value ∷ fs))) → Meaning last (At (Non o.OwnTypeEnd ∷ more) vs (fed input value ∷ fs))
  back_OwnTypeEnd more vs i.ConstructorName value fs e ts h = tt
  back_OwnTypeEnd more (v.Name one ∷ vs) (i.Token (t.Sign s.OpenParenthesis)) value fs e ts h = λ word k same mine. own_goes_on more (Means last more) vs _ k ts mine (e ts h _ (stands_own one n.Type word k ts same))
  back_OwnTypeEnd more (v.Name one ∷ vs) input value fs e ts h = own_type more one vs ts (e ts h)
  back_OwnTypeEnd more vs input value fs e ts h = tt

  pub end_OwnTypeEnd : (more : List Symbol) (vs : List Value) → Meaning last (lack (otherwise o.OwnTypeEnd) more vs []) → Meaning last (At (Non o.OwnTypeEnd ∷ more) vs [])
  end_OwnTypeEnd more (v.Name one ∷ vs) e ts h = own_type more one vs ts (e ts h)
  end_OwnTypeEnd more vs e ts h = tt

  own_namespace : (more : List Symbol) (one : NameToken) (vs : List Value) (scope : Token) (ts : List Classified) → Means last (Act a.StartPath ∷ Act a.AddToPath ∷ Non o.TypePath ∷ Back i.CoreType ∷ more) (v.Name one ∷ vs) ts
      → Means last (Non o.OwnNamespaceEnd ∷ more) (v.Name one ∷ vs) (at (t.Sign s.Scope) scope ∷ ts)
  own_namespace more one vs scope ts (of, span, us, p, m) = λ kind word k j same mine. type_goes_on more (Means last more) vs _ (m _ (core (g.named (p _ (path_behind one kind word k scope ts j same)))))

  pub back_OwnNamespaceEnd : (more : List Symbol) (vs : List Value) (input : Input) (value : Value) (fs : List Fed) → Meaning last (step (At (Non o.OwnNamespaceEnd ∷ more) vs (fed input value ∷ fs))) → Meaning last (At (Non o.OwnNamespaceEnd ∷ more) vs (fed input value ∷ fs))
  back_OwnNamespaceEnd more vs i.ConstructorName value fs e ts h = tt
  back_OwnNamespaceEnd more (v.Name one ∷ vs) (i.Token (t.Sign s.OpenParenthesis)) value fs e ts h = λ kind word k j same mine. own_goes_on more (Means last more) vs _ k ts mine (e ts h _ (stands_own one kind word k ts same))
  back_OwnNamespaceEnd more (v.Name one ∷ vs) (i.Token (t.Sign s.Scope)) value fs e ts (rest, token {k} fits, h) = own_namespace more one vs k rest (after last (Act a.StartPath ∷ Act a.AddToPath ∷ Non o.TypePath ∷ Back i.CoreType ∷ more) (v.Name one ∷ vs) fs rest h e)
  back_OwnNamespaceEnd more (v.Name one ∷ vs) input value fs e ts h = absurd e
  back_OwnNamespaceEnd more vs input value fs e ts h = tt

  pub end_OwnNamespaceEnd : (more : List Symbol) (vs : List Value) → Meaning last (lack (otherwise o.OwnNamespaceEnd) more vs []) → Meaning last (At (Non o.OwnNamespaceEnd ∷ more) vs [])
  end_OwnNamespaceEnd more (v.Name one ∷ vs) e ts h = absurd e
  end_OwnNamespaceEnd more vs e ts h = tt

  pub back_OwnPropertyTypeEnd : (more : List Symbol) (vs : List Value) (input : Input) (value : Value) (fs : List Fed) → Meaning last (step (At (Non o.OwnPropertyTypeEnd ∷ more) vs (fed input value ∷ fs))) → Meaning last (At (Non o.OwnPropertyTypeEnd ∷ more) vs (fed input value ∷ fs))
  back_OwnPropertyTypeEnd more vs i.ConstructorName value fs e ts h = tt
  back_OwnPropertyTypeEnd more (v.Name one ∷ vs) (i.Token (t.Sign s.OpenParenthesis)) value fs e ts h = λ k same mine. own_goes_on more (Means last more) vs _ k ts mine (e ts h _ (stands_own one n.Type c.Property k ts same))
  back_OwnPropertyTypeEnd more (v.Name one ∷ vs) input value fs e ts h = λ k same mine. type_goes_on more (Means last more) vs _ (e ts h k same)
  back_OwnPropertyTypeEnd more vs input value fs e ts h = tt

  pub end_OwnPropertyTypeEnd : (more : List Symbol) (vs : List Value) → Meaning last (lack (otherwise o.OwnPropertyTypeEnd) more vs []) → Meaning last (At (Non o.OwnPropertyTypeEnd ∷ more) vs [])
  end_OwnPropertyTypeEnd more (v.Name one ∷ vs) e ts h = λ k same mine. type_goes_on more (Means last more) vs _ (e ts h k same)
  end_OwnPropertyTypeEnd more vs e ts h = tt

  pub back_OwnPropertyNamespaceEnd : (more : List Symbol) (vs : List Value) (input : Input) (value : Value) (fs : List Fed) → Meaning last (step (At (Non o.OwnPropertyNamespaceEnd ∷ more) vs (fed input value ∷ fs))) → Meaning last (At (Non o.OwnPropertyNamespaceEnd ∷ more) vs (fed input value ∷ fs))
  back_OwnPropertyNamespaceEnd more vs i.ConstructorName value fs e ts h = tt
  back_OwnPropertyNamespaceEnd more (v.Name one ∷ vs) (i.Token (t.Sign s.OpenParenthesis)) value fs e ts h = λ kind k j same mine. own_goes_on more (Means last more) vs _ k ts mine (e ts h _ (stands_own one kind c.Property k ts same))
  back_OwnPropertyNamespaceEnd more (v.Name one ∷ vs) input value fs e ts h = λ kind k j same mine. type_goes_on more (Means last more) vs _ (e ts h kind k j same)
  back_OwnPropertyNamespaceEnd more vs input value fs e ts h = tt

  pub end_OwnPropertyNamespaceEnd : (more : List Symbol) (vs : List Value) → Meaning last (lack (otherwise o.OwnPropertyNamespaceEnd) more vs []) → Meaning last (At (Non o.OwnPropertyNamespaceEnd ∷ more) vs [])
  end_OwnPropertyNamespaceEnd more (v.Name one ∷ vs) e ts h = λ kind k j same mine. type_goes_on more (Means last more) vs _ (e ts h kind k j same)
  end_OwnPropertyNamespaceEnd more vs e ts h = tt

  own_taken : (found : Bool) (more : List Symbol) (vs : List Value) (kind : NameKind) (word : ContextualWord) (k : Token) (fs : List Fed) (rest : List Classified) → bytes_eq (letters k.kind) (class_letters (below (below (below vs)))) ≡ found → Ahead fs rest
      → Meaning last (put (begins o.OwnName (own_or found kind word)) o.OwnName more vs (i.Token (t.Name kind word)) (v.Name (name_token kind word k)) fs) → Means last (Non o.OwnName ∷ more) vs (at (t.Name kind word) k ∷ rest)
  own_taken true more vs kind word k fs rest same h e = (kind, word, k, rest, parts.own (own_letters _ _ same), after last more (v.Name (name_token kind word k) ∷ vs) fs rest h e)
  own_taken false more vs kind word k fs rest same h e = absurd e

  pub back_OwnName : (more : List Symbol) (vs : List Value) (input : Input) (value : Value) (fs : List Fed) → Meaning last (step (At (Non o.OwnName ∷ more) vs (fed input value ∷ fs))) → Meaning last (At (Non o.OwnName ∷ more) vs (fed input value ∷ fs))
  back_OwnName more vs i.ConstructorName value fs e ts h = tt
  back_OwnName more vs (i.Token (t.Name kind word)) value fs e ts (rest, token {k} fits, h) = own_taken (bytes_eq (letters k.kind) (class_letters (below (below (below vs))))) more vs kind word k fs rest refl h e
  back_OwnName more vs (i.Own kind word) value fs e ts (rest, stands, h) = absurd stands
  back_OwnName more vs input value fs e ts h = absurd e

  pub end_OwnName : (more : List Symbol) (vs : List Value) → Meaning last (lack (otherwise o.OwnName) more vs []) → Meaning last (At (Non o.OwnName ∷ more) vs [])
  end_OwnName more vs e ts h = absurd e

  virtual_destructor : (more : List Symbol) (vs : List Value) (tilde : Token) (ts : List Classified) → Means last (Non o.OwnName ∷ Non o.OpenParenthesis ∷ Non o.CloseParenthesis ∷ Non o.Block ∷ Act a.MakeDestructor ∷ more) (mark (t.Sign s.Tilde) tilde.span ∷ vs) ts
      → Means last (Non o.VirtualStart ∷ more) vs (at (t.Sign s.Tilde) tilde ∷ ts)
  virtual_destructor more vs tilde ts (kind, word, l, us, parts.own mine, (open_, ws, takes, (close, xs, takes, (body, end, rest, p, m)))) =
      (_, rest, (λ k same. subst (λ q. ReadsMember (class_letters (below (below vs))) (member.Destructor (is_virtual q) (identifier l) body (across (first_span q tilde.span) end)) (at (t.Word w.Virtual) k ∷ at (t.Sign s.Tilde) tilde ∷ ts) rest) (sym same) (y.virtual_destructor mine p)), m)

  pub back_VirtualStart : (more : List Symbol) (vs : List Value) (input : Input) (value : Value) (fs : List Fed) → Meaning last (step (At (Non o.VirtualStart ∷ more) vs (fed input value ∷ fs))) → Meaning last (At (Non o.VirtualStart ∷ more) vs (fed input value ∷ fs))
  back_VirtualStart more vs i.ConstructorName value fs e ts h = tt
  back_VirtualStart more vs (i.Token (t.Sign s.Tilde)) value fs e ts (rest, token {k} fits, h) = virtual_destructor more vs k rest (after last (Non o.OwnName ∷ Non o.OpenParenthesis ∷ Non o.CloseParenthesis ∷ Non o.Block ∷ Act a.MakeDestructor ∷ more) (mark (t.Sign s.Tilde) k.span ∷ vs) fs rest h e)
  back_VirtualStart more vs input value fs e ts h = (e ts h)

  pub end_VirtualStart : (more : List Symbol) (vs : List Value) → Meaning last (lack (otherwise o.VirtualStart) more vs []) → Meaning last (At (Non o.VirtualStart ∷ more) vs [])
  end_VirtualStart more vs e ts h = (e ts h)

  destructor : (more : List Symbol) (vs : List Value) (tilde : Token) (ts : List Classified) → Means last (Non o.OwnName ∷ Non o.OpenParenthesis ∷ Non o.CloseParenthesis ∷ Non o.Block ∷ Act a.MakeDestructor ∷ more) (mark (t.Sign s.Tilde) tilde.span ∷ vs) ts
      → Means last (Non o.MemberStart ∷ more) vs (at (t.Sign s.Tilde) tilde ∷ ts)
  destructor more vs tilde ts (kind, word, l, us, parts.own mine, (open_, ws, takes, (close, xs, takes, (body, end, rest, p, m)))) =
      (_, rest, (λ same. subst (λ q. ReadsMember (class_letters (below (below vs))) (member.Destructor (is_virtual q) (identifier l) body (across (first_span q tilde.span) end)) (at (t.Sign s.Tilde) tilde ∷ ts) rest) (sym same) (y.destructor mine p)), m)

  finaliser : (more : List Symbol) (vs : List Value) (exclamation : Token) (ts : List Classified) → Means last (Non o.OwnName ∷ Non o.OpenParenthesis ∷ Non o.CloseParenthesis ∷ Non o.Block ∷ Act a.MakeFinaliser ∷ more) (mark (t.Sign s.Exclamation) exclamation.span ∷ vs) ts
      → Means last (Non o.MemberStart ∷ more) vs (at (t.Sign s.Exclamation) exclamation ∷ ts)
  finaliser more vs exclamation ts (kind, word, l, us, parts.own mine, (open_, ws, takes, (close, xs, takes, (body, end, rest, p, m)))) = (_, rest, (λ same. y.finaliser mine p), m)

  own_start : (found : Bool) (more : List Symbol) (vs : List Value) (kind : NameKind) (word : ContextualWord) (k : Token) (fs : List Fed) (rest : List Classified) → bytes_eq (letters k.kind) (class_letters (below (below vs))) ≡ found → Ahead fs rest
      → Meaning last (put (begins o.MemberStart (own_or found kind word)) o.MemberStart more vs (i.Token (t.Name kind word)) (v.Name (name_token kind word k)) fs) → Means last (Non o.MemberStart ∷ more) vs (at (t.Name kind word) k ∷ rest)
  own_start false more vs kind word k fs rest same h e = e _ (rest, token tt, h)
  own_start true more vs n.Type c.Property k fs rest same h e = (after last (Non o.OwnPropertyTypeEnd ∷ Non o.MemberRest ∷ more) (v.Name (name_token n.Type c.Property k) ∷ vs) fs rest h e) k refl (own_letters _ _ same)
  own_start true more vs n.Type word k fs rest same h e = (after last (Non o.OwnTypeEnd ∷ Non o.MemberRest ∷ more) (v.Name (name_token n.Type word k) ∷ vs) fs rest h e) word k refl (own_letters _ _ same)
  own_start true more vs n.Plain c.Property k fs rest same h e = (after last (Non o.OwnPropertyNamespaceEnd ∷ Non o.MemberRest ∷ more) (v.Name (name_token n.Plain c.Property k) ∷ vs) fs rest h e) n.Plain k plain refl (own_letters _ _ same)
  own_start true more vs n.Plain word k fs rest same h e = (after last (Non o.OwnNamespaceEnd ∷ Non o.MemberRest ∷ more) (v.Name (name_token n.Plain word k) ∷ vs) fs rest h e) n.Plain word k plain refl (own_letters _ _ same)
  own_start true more vs n.Function c.Property k fs rest same h e = (after last (Non o.OwnPropertyNamespaceEnd ∷ Non o.MemberRest ∷ more) (v.Name (name_token n.Function c.Property k) ∷ vs) fs rest h e) n.Function k function refl (own_letters _ _ same)
  own_start true more vs n.Function word k fs rest same h e = (after last (Non o.OwnNamespaceEnd ∷ Non o.MemberRest ∷ more) (v.Name (name_token n.Function word k) ∷ vs) fs rest h e) n.Function word k function refl (own_letters _ _ same)

  pub back_MemberStart : (more : List Symbol) (vs : List Value) (input : Input) (value : Value) (fs : List Fed) → Meaning last (step (At (Non o.MemberStart ∷ more) vs (fed input value ∷ fs))) → Meaning last (At (Non o.MemberStart ∷ more) vs (fed input value ∷ fs))
  back_MemberStart more vs i.ConstructorName value fs e ts h = tt
  back_MemberStart more vs (i.Token (t.Name kind word)) value fs e ts (rest, token {k} fits, h) = own_start (bytes_eq (letters k.kind) (class_letters (below (below vs)))) more vs kind word k fs rest refl h e
  back_MemberStart more vs (i.Own kind word) value fs e ts (rest, stands, h) = absurd stands
  back_MemberStart more vs (i.Token (t.Sign s.Tilde)) value fs e ts (rest, token {k} fits, h) = destructor more vs k rest (after last (Non o.OwnName ∷ Non o.OpenParenthesis ∷ Non o.CloseParenthesis ∷ Non o.Block ∷ Act a.MakeDestructor ∷ more) (mark (t.Sign s.Tilde) k.span ∷ vs) fs rest h e)
  back_MemberStart more vs (i.Token (t.Sign s.Exclamation)) value fs e ts (rest, token {k} fits, h) = finaliser more vs k rest (after last (Non o.OwnName ∷ Non o.OpenParenthesis ∷ Non o.CloseParenthesis ∷ Non o.Block ∷ Act a.MakeFinaliser ∷ more) (mark (t.Sign s.Exclamation) k.span ∷ vs) fs rest h e)
  back_MemberStart more vs input value fs e ts h = (e ts h)

  pub end_MemberStart : (more : List Symbol) (vs : List Value) → Meaning last (lack (otherwise o.MemberStart) more vs []) → Meaning last (At (Non o.MemberStart ∷ more) vs [])
  end_MemberStart more vs e ts h = (e ts h)

  access_member : (more : List Symbol) (vs : List Value) (word : ReservedWord) (k : Token) (ts : List Classified) → IsAccess word (access_of (t.Word word)) → Means last (Non o.KeptColon ∷ Act a.MakeAccess ∷ more) (mark (t.Word word) k.span ∷ vs) ts
      → Means last (Non o.Member ∷ more) vs (at (t.Word word) k ∷ ts)
  access_member more vs word k ts j (colon, rest, takes, m) = (_, rest, y.access_ j, m)

  static_member : (more : List Symbol) (vs : List Value) (k : Token) (ts : List Classified) → Means last (Non o.TypeOrProperty ∷ Non o.StaticMember ∷ more) (mark (t.Word w.Static) k.span ∷ vs) ts → Means last (Non o.Member ∷ more) vs (at (t.Word w.Static) k ∷ ts)
  static_member more vs k ts (one, rest, p, m) = (one, rest, p k refl, m)

  virtual_member : (more : List Symbol) (vs : List Value) (k : Token) (ts : List Classified) → Means last (Non o.VirtualStart ∷ more) (mark (t.Word w.Virtual) k.span ∷ vs) ts → Means last (Non o.Member ∷ more) vs (at (t.Word w.Virtual) k ∷ ts)
  virtual_member more vs k ts (one, rest, p, m) = (one, rest, p k refl, m)

  simple_member : (more : List Symbol) (vs : List Value) (ts : List Classified) → Means last (Act a.NoStorage ∷ Non o.MemberStart ∷ more) vs ts → Means last (Non o.Member ∷ more) vs ts
  simple_member more vs ts (one, rest, p, m) = (one, rest, p refl, m)

  pub back_Member : (more : List Symbol) (vs : List Value) (input : Input) (value : Value) (fs : List Fed) → Meaning last (step (At (Non o.Member ∷ more) vs (fed input value ∷ fs))) → Meaning last (At (Non o.Member ∷ more) vs (fed input value ∷ fs))
  back_Member more vs i.ConstructorName value fs e ts h = tt
  back_Member more vs (i.Token (t.Word w.Public)) value fs e ts (rest, token {k} fits, h) = access_member more vs w.Public k rest y.public (after last (Non o.KeptColon ∷ Act a.MakeAccess ∷ more) (mark (t.Word w.Public) k.span ∷ vs) fs rest h e)
  back_Member more vs (i.Token (t.Word w.Protected)) value fs e ts (rest, token {k} fits, h) = access_member more vs w.Protected k rest y.protected (after last (Non o.KeptColon ∷ Act a.MakeAccess ∷ more) (mark (t.Word w.Protected) k.span ∷ vs) fs rest h e)
  back_Member more vs (i.Token (t.Word w.Private)) value fs e ts (rest, token {k} fits, h) = access_member more vs w.Private k rest y.private (after last (Non o.KeptColon ∷ Act a.MakeAccess ∷ more) (mark (t.Word w.Private) k.span ∷ vs) fs rest h e)
  back_Member more vs (i.Token (t.Word w.Static)) value fs e ts (rest, token {k} fits, h) = static_member more vs k rest (after last (Non o.TypeOrProperty ∷ Non o.StaticMember ∷ more) (mark (t.Word w.Static) k.span ∷ vs) fs rest h e)
  back_Member more vs (i.Token (t.Word w.Virtual)) value fs e ts (rest, token {k} fits, h) = virtual_member more vs k rest (after last (Non o.VirtualStart ∷ more) (mark (t.Word w.Virtual) k.span ∷ vs) fs rest h e)
  back_Member more vs input value fs e ts h = simple_member more vs ts (e ts h)

  pub end_Member : (more : List Symbol) (vs : List Value) → Meaning last (lack (otherwise o.Member) more vs []) → Meaning last (At (Non o.Member ∷ more) vs [])
  end_Member more vs e ts h = simple_member more vs ts (e ts h)

  next_member : (more : List Symbol) (first : List Member) (vs : List Value) (ts : List Classified) → Means last (Non o.Member ∷ Act a.AddMember ∷ Non o.Members ∷ more) (v.Members first ∷ vs) ts → Means last (Non o.Members ∷ more) (v.Members first ∷ vs) ts
  next_member more first vs ts (one, us, p, (items, rest, q, m)) = (one ∷ items, rest, y.next p q, subst (λ q. Means last more (v.Members q ∷ vs) rest) (append_assoc first (one ∷ []) items) m)

  no_member : (more : List Symbol) (first : List Member) (vs : List Value) (ts : List Classified) → Means last more (v.Members first ∷ vs) ts → Means last (Non o.Members ∷ more) (v.Members first ∷ vs) ts
  no_member more first vs ts m = ([], ts, y.none, subst (λ q. Means last more (v.Members q ∷ vs) ts) (sym (append-nil first)) m)

  pub back_Members : (more : List Symbol) (vs : List Value) (input : Input) (value : Value) (fs : List Fed) → Meaning last (step (At (Non o.Members ∷ more) vs (fed input value ∷ fs))) → Meaning last (At (Non o.Members ∷ more) vs (fed input value ∷ fs))
  back_Members more vs i.ConstructorName value fs e ts h = tt
  back_Members more (v.Members first ∷ vs) (i.Token (t.Sign s.CloseBrace)) value fs e ts h = no_member more first vs ts (e ts h)
  back_Members more (v.Members first ∷ vs) input value fs e ts h = next_member more first vs ts (e ts h)
  back_Members more vs input value fs e ts h = tt

  pub end_Members : (more : List Symbol) (vs : List Value) → Meaning last (lack (otherwise o.Members) more vs []) → Meaning last (At (Non o.Members ∷ more) vs [])
  end_Members more (v.Members first ∷ vs) e ts h = next_member more first vs ts (e ts h)
  end_Members more vs e ts h = tt

  -- a member behind its type, with the word before it
  typed_member : (more : List Symbol) (of : TypeName) (span : Span) (vs : List Value) (ts us : List Classified) → ReadsCore of span ts us → Means last (Non o.TypeMarks ∷ Non o.MemberName ∷ more) (type_value of span ∷ vs) us → Means last (Non o.MemberRest ∷ more) vs ts
  typed_member more of span vs ts us p (whole, all, ws, q, (one, rest, r, m)) = (one, rest, (λ same. r _ ts ts (subst (λ q. HoldsStatic q ts ts) (sym same) parts.nothing) (q ts p)), m)

  typed_static : (more : List Symbol) (of : TypeName) (span : Span) (vs : List Value) (ts us : List Classified) → ReadsCore of span ts us → Means last (Non o.TypeMarks ∷ Non o.MemberName ∷ more) (type_value of span ∷ vs) us → Means last (Non o.StaticMember ∷ more) vs ts
  typed_static more of span vs ts us p (whole, all, ws, q, (one, rest, r, m)) = (one, rest, (λ k same. r _ _ ts (subst (λ q. HoldsStatic q (at (t.Word w.Static) k ∷ ts) ts) (sym same) parts.static) (q ts p)), m)

  abbrev FunctionPart : List Symbol → List Symbol
  FunctionPart more = ParameterPart (Act a.StartModifiers ∷ Non o.Modifiers ∷ Non o.Overriding ∷ Non o.Body ∷ Act a.MakeFunctionMember ∷ more)

  typed_virtual : (more : List Symbol) (of : TypeName) (span : Span) (vs : List Value) (ts us : List Classified) → ReadsCore of span ts us → Means last (Non o.TypeMarks ∷ Non o.VirtualName ∷ FunctionPart more) (type_value of span ∷ vs) us → Means last (Non o.VirtualMember ∷ more) vs ts
  typed_virtual more of span vs ts us p (whole, all, ws, q, (kind, word, l, xs, parts.id j, (open_, ys, takes, (list, zs, r, (close, ps, takes, (modifiers, qs, d, (overridden, rs, u, (body, end, rest, b, m)))))))) =
      (_, rest, (λ k same. subst (λ q. ReadsMember (class_letters (below (below vs))) (member.Function (storage_of q) whole (identifier l) (record { items = list.tree; span = list_span list open_.span }) modifiers overridden body (across (first_span q all) end)) (at (t.Word w.Virtual) k ∷ ts) rest) (sym same) (y.function y.virtual (q ts p) j (parameters_of r) d u b)), m)

  plain_property : (more : List Symbol) (of : TypeName) (kind : NameKind) (k : Token) (span : Span) (vs : List Value) (ts us : List Classified) → ReadsType of span ts us → Means last (Non o.PropertyName ∷ Non o.PropertyBody ∷ more) (v.PropertyType (record { tree = of; span = k.span }) ∷ vs) us
      → Means last (Non o.MemberRest ∷ more) vs (at (t.Name kind c.Property) k ∷ ts)
  plain_property more of kind k span vs ts us p (one, ws, q, (whole, rest, r, m)) =
      (whole, rest, (λ same. r _ _ ts us kind k span (subst (λ q. Holds q (at (t.Name kind c.Property) k ∷ ts) (at (t.Name kind c.Property) k ∷ ts)) (sym same) parts.nothing) refl p q), m)

  static_property : (more : List Symbol) (of : TypeName) (kind : NameKind) (k : Token) (span : Span) (vs : List Value) (ts us : List Classified) → ReadsType of span ts us → Means last (Non o.PropertyName ∷ Non o.PropertyBody ∷ more) (v.PropertyType (record { tree = of; span = k.span }) ∷ vs) us
      → Means last (Non o.StaticMember ∷ more) vs (at (t.Name kind c.Property) k ∷ ts)
  static_property more of kind k span vs ts us p (one, ws, q, (whole, rest, r, m)) =
      (whole, rest, (λ l same. r _ _ ts us kind k span (subst (λ q. Holds q (at (t.Word w.Static) l ∷ at (t.Name kind c.Property) k ∷ ts) (at (t.Name kind c.Property) k ∷ ts)) (sym same) parts.static) refl p q), m)

  virtual_property : (more : List Symbol) (of : TypeName) (kind : NameKind) (k : Token) (span : Span) (vs : List Value) (ts us : List Classified) → ReadsType of span ts us → Means last (Non o.PropertyName ∷ Non o.PropertyBody ∷ more) (v.PropertyType (record { tree = of; span = k.span }) ∷ vs) us
      → Means last (Non o.VirtualMember ∷ more) vs (at (t.Name kind c.Property) k ∷ ts)
  virtual_property more of kind k span vs ts us p (one, ws, q, (whole, rest, r, m)) =
      (whole, rest, (λ l same. r _ _ ts us kind k span (subst (λ q. Holds q (at (t.Word w.Virtual) l ∷ at (t.Name kind c.Property) k ∷ ts) (at (t.Name kind c.Property) k ∷ ts)) (sym same) parts.virtual) refl p q), m)

  abbrev ConstructorPart : List Symbol → List Symbol
  ConstructorPart more = ParameterPart (Non o.Initializers ∷ Non o.Block ∷ Act a.MakeConstructor ∷ more)

  constructor : (more : List Symbol) (vs : List Value) (kind : NameKind) (word : ContextualWord) (k : Token) (ts : List Classified) → letters k.kind ≡ class_letters (below (below vs)) → Means last (ConstructorPart more) (v.Name (name_token kind word k) ∷ vs) ts
      → Means last (Non o.MemberRest ∷ more) vs (at (t.Name kind word) k ∷ ts)
  constructor more vs kind word k ts mine (open_, us, takes, (list, ws, p, (close, xs, takes, (initializers, ys, q, (body, end, rest, b, m))))) = (_, rest, (λ same. y.constructor mine (parameters_of p) q b), m)

  pub back_MemberRest : (more : List Symbol) (vs : List Value) (input : Input) (value : Value) (fs : List Fed) → Meaning last (step (At (Non o.MemberRest ∷ more) vs (fed input value ∷ fs))) → Meaning last (At (Non o.MemberRest ∷ more) vs (fed input value ∷ fs))
  back_MemberRest more vs (i.Token t.Other) value fs e ts h = absurd e
  back_MemberRest more vs i.CoreType value fs e ts (rest, core {of} {span} p, h) = typed_member more of span vs ts rest p (after last (Non o.TypeMarks ∷ Non o.MemberName ∷ more) (type_value of span ∷ vs) fs rest h e)
  back_MemberRest more vs i.PropertyType value fs e ts (rest, property {kind} {of} {span} {k} {ts = us} p, h) = plain_property more of kind k span vs us rest p (after last (Non o.PropertyName ∷ Non o.PropertyBody ∷ more) (v.PropertyType (record { tree = of; span = k.span }) ∷ vs) fs rest h e)
  back_MemberRest more vs i.ConstructorName value fs e ts (rest, name {kind} {word} {k}, h) = λ mine. constructor more vs kind word k rest mine (after last (ConstructorPart more) (v.Name (name_token kind word k) ∷ vs) fs rest h e)
  back_MemberRest more vs input value fs e ts h = absurd e

  pub end_MemberRest : (more : List Symbol) (vs : List Value) → Meaning last (lack (otherwise o.MemberRest) more vs []) → Meaning last (At (Non o.MemberRest ∷ more) vs [])
  end_MemberRest more vs e ts h = absurd e

  pub back_StaticMember : (more : List Symbol) (vs : List Value) (input : Input) (value : Value) (fs : List Fed) → Meaning last (step (At (Non o.StaticMember ∷ more) vs (fed input value ∷ fs))) → Meaning last (At (Non o.StaticMember ∷ more) vs (fed input value ∷ fs))
  back_StaticMember more vs i.ConstructorName value fs e ts h = tt
  back_StaticMember more vs (i.Token t.Other) value fs e ts h = absurd e
  back_StaticMember more vs i.CoreType value fs e ts (rest, core {of} {span} p, h) = typed_static more of span vs ts rest p (after last (Non o.TypeMarks ∷ Non o.MemberName ∷ more) (type_value of span ∷ vs) fs rest h e)
  back_StaticMember more vs i.PropertyType value fs e ts (rest, property {kind} {of} {span} {k} {ts = us} p, h) = static_property more of kind k span vs us rest p (after last (Non o.PropertyName ∷ Non o.PropertyBody ∷ more) (v.PropertyType (record { tree = of; span = k.span }) ∷ vs) fs rest h e)
  back_StaticMember more vs input value fs e ts h = absurd e

  pub end_StaticMember : (more : List Symbol) (vs : List Value) → Meaning last (lack (otherwise o.StaticMember) more vs []) → Meaning last (At (Non o.StaticMember ∷ more) vs [])
  end_StaticMember more vs e ts h = absurd e

  pub back_VirtualMember : (more : List Symbol) (vs : List Value) (input : Input) (value : Value) (fs : List Fed) → Meaning last (step (At (Non o.VirtualMember ∷ more) vs (fed input value ∷ fs))) → Meaning last (At (Non o.VirtualMember ∷ more) vs (fed input value ∷ fs))
  back_VirtualMember more vs i.ConstructorName value fs e ts h = tt
  back_VirtualMember more vs (i.Token t.Other) value fs e ts h = absurd e
  back_VirtualMember more vs i.CoreType value fs e ts (rest, core {of} {span} p, h) = typed_virtual more of span vs ts rest p (after last (Non o.TypeMarks ∷ Non o.VirtualName ∷ FunctionPart more) (type_value of span ∷ vs) fs rest h e)
  back_VirtualMember more vs i.PropertyType value fs e ts (rest, property {kind} {of} {span} {k} {ts = us} p, h) = virtual_property more of kind k span vs us rest p (after last (Non o.PropertyName ∷ Non o.PropertyBody ∷ more) (v.PropertyType (record { tree = of; span = k.span }) ∷ vs) fs rest h e)
  back_VirtualMember more vs input value fs e ts h = absurd e

  pub end_VirtualMember : (more : List Symbol) (vs : List Value) → Meaning last (lack (otherwise o.VirtualMember) more vs []) → Meaning last (At (Non o.VirtualMember ∷ more) vs [])
  end_VirtualMember more vs e ts h = absurd e

  named_member : (more : List Symbol) (vs : List Value) (kind : NameKind) (word : ContextualWord) (k : Token) (ts : List Classified) → Id (t.Name kind word) → Means last (Non o.FieldsOrFunction ∷ more) (v.Name (name_token kind word k) ∷ vs) ts
      → Means last (Non o.MemberName ∷ more) vs (at (t.Name kind word) k ∷ ts)
  named_member more vs kind word k ts j (one, rest, p, m) = (one, rest, (λ own us ws held q. p own us ws _ k held q j refl), m)

  pub back_MemberName : (more : List Symbol) (vs : List Value) (input : Input) (value : Value) (fs : List Fed) → Meaning last (step (At (Non o.MemberName ∷ more) vs (fed input value ∷ fs))) → Meaning last (At (Non o.MemberName ∷ more) vs (fed input value ∷ fs))
  back_MemberName more vs i.ConstructorName value fs e ts h = tt
  back_MemberName more vs (i.Token (t.Name n.Plain word)) value fs e ts (rest, token {k} fits, h) = named_member more vs n.Plain word k rest plain (after last (Non o.FieldsOrFunction ∷ more) (v.Name (name_token n.Plain word k) ∷ vs) fs rest h e)
  back_MemberName more vs (i.Token (t.Name n.Function word)) value fs e ts (rest, token {k} fits, h) = named_member more vs n.Function word k rest function (after last (Non o.FieldsOrFunction ∷ more) (v.Name (name_token n.Function word k) ∷ vs) fs rest h e)
  back_MemberName more vs i.DeclaredName value fs e ts (rest, declared {kind} {word} {k} j, h) = named_member more vs kind word k rest j (after last (Non o.FieldsOrFunction ∷ more) (v.Name (name_token kind word k) ∷ vs) fs rest h e)
  back_MemberName more vs input value fs e ts h = absurd e

  pub end_MemberName : (more : List Symbol) (vs : List Value) → Meaning last (lack (otherwise o.MemberName) more vs []) → Meaning last (At (Non o.MemberName ∷ more) vs [])
  end_MemberName more vs e ts h = absurd e

  pub back_VirtualName : (more : List Symbol) (vs : List Value) (input : Input) (value : Value) (fs : List Fed) → Meaning last (step (At (Non o.VirtualName ∷ more) vs (fed input value ∷ fs))) → Meaning last (At (Non o.VirtualName ∷ more) vs (fed input value ∷ fs))
  back_VirtualName more vs i.ConstructorName value fs e ts h = tt
  back_VirtualName more vs (i.Token (t.Name n.Plain word)) value fs e ts (rest, token {k} fits, h) = (n.Plain, word, k, rest, parts.id plain, after last more (v.Name (name_token n.Plain word k) ∷ vs) fs rest h e)
  back_VirtualName more vs (i.Token (t.Name n.Function word)) value fs e ts (rest, token {k} fits, h) = (n.Function, word, k, rest, parts.id function, after last more (v.Name (name_token n.Function word k) ∷ vs) fs rest h e)
  back_VirtualName more vs i.DeclaredName value fs e ts (rest, declared {kind} {word} {k} j, h) = (kind, word, k, rest, parts.id j, after last more (v.Name (name_token kind word k) ∷ vs) fs rest h e)
  back_VirtualName more vs input value fs e ts h = absurd e

  pub end_VirtualName : (more : List Symbol) (vs : List Value) → Meaning last (lack (otherwise o.VirtualName) more vs []) → Meaning last (At (Non o.VirtualName ∷ more) vs [])
  end_VirtualName more vs e ts h = absurd e

  function_member : (more : List Symbol) (vs : List Value) (ts : List Classified) → Means last (FunctionPart more) vs ts → Means last (Non o.FieldsOrFunction ∷ more) vs ts
  function_member more vs ts (open_, ys, takes, (list, zs, r, (close, ps, takes, (modifiers, qs, d, (overridden, rs, u, (body, end, rest, b, m)))))) = (
    _,
    rest,
    (λ own us ws id k held p j same. subst (λ q. ReadsMember own (member.Function (storage_of (top_storage (below (below vs)))) (top_type_name (below vs)).tree q (record { items = list.tree; span = list_span list open_.span }) modifiers overridden body (across (first_span (top_storage (below (below vs))) (top_type_name (below vs)).span) end)) us rest) same
        (y.function (storage_static held (top_type_name (below vs)).span) p j (parameters_of r) d u b)),
    m,
  )

  fields : (more : List Symbol) (vs : List Value) (ts : List Classified) → Means last (Act a.FirstName ∷ Non o.FieldNames ∷ Non o.KeptSemicolon ∷ Act a.MakeFields ∷ more) vs ts → Means last (Non o.FieldsOrFunction ∷ more) vs ts
  fields more vs ts (names, ws, q, (semicolon, rest, takes, m)) = (
    _,
    rest,
    (λ own us ws id k held p j same. subst (λ q. ReadsMember own (member.Fields (is_static (top_storage (below (below vs)))) (top_type_name (below vs)).tree (q ∷ names) (across (first_span (top_storage (below (below vs))) (top_type_name (below vs)).span) semicolon.span)) us rest) same
        (fields_of held p (ids_join j q))),
    m,
  )

  pub back_FieldsOrFunction : (more : List Symbol) (vs : List Value) (input : Input) (value : Value) (fs : List Fed) → Meaning last (step (At (Non o.FieldsOrFunction ∷ more) vs (fed input value ∷ fs))) → Meaning last (At (Non o.FieldsOrFunction ∷ more) vs (fed input value ∷ fs))
  back_FieldsOrFunction more vs i.ConstructorName value fs e ts h = tt
  back_FieldsOrFunction more vs (i.Token (t.Sign s.OpenParenthesis)) value fs e ts h = function_member more vs ts (e ts h)
  back_FieldsOrFunction more vs input value fs e ts h = fields more vs ts (e ts h)

  pub end_FieldsOrFunction : (more : List Symbol) (vs : List Value) → Meaning last (lack (otherwise o.FieldsOrFunction) more vs []) → Meaning last (At (Non o.FieldsOrFunction ∷ more) vs [])
  end_FieldsOrFunction more vs e ts h = fields more vs ts (e ts h)

  next_name : (more : List Symbol) (first : List Identifier) (vs : List Value) (k : Token) (ts : List Classified) → Means last (Non o.Identifier ∷ Act a.AddName ∷ Non o.FieldNames ∷ more) (v.Names first ∷ vs) ts
      → Means last (Non o.FieldNames ∷ more) (v.Names first ∷ vs) (at (t.Sign s.Comma) k ∷ ts)
  next_name more first vs k ts (kind, word, l, us, j, takes, (names, rest, p, m)) = (identifier l ∷ names, rest, parts.comma (ids_join j p), subst (λ q. Means last more (v.Names q ∷ vs) rest) (append_assoc first (identifier l ∷ []) names) m)

  no_more_names : (more : List Symbol) (first : List Identifier) (vs : List Value) (ts : List Classified) → Means last more (v.Names first ∷ vs) ts → Means last (Non o.FieldNames ∷ more) (v.Names first ∷ vs) ts
  no_more_names more first vs ts m = ([], ts, parts.nothing, subst (λ q. Means last more (v.Names q ∷ vs) ts) (sym (append-nil first)) m)

  pub back_FieldNames : (more : List Symbol) (vs : List Value) (input : Input) (value : Value) (fs : List Fed) → Meaning last (step (At (Non o.FieldNames ∷ more) vs (fed input value ∷ fs))) → Meaning last (At (Non o.FieldNames ∷ more) vs (fed input value ∷ fs))
  back_FieldNames more vs i.ConstructorName value fs e ts h = tt
  back_FieldNames more (v.Names first ∷ vs) (i.Token (t.Sign s.Comma)) value fs e ts (rest, token {k} fits, h) = next_name more first vs k rest (after last (Non o.Identifier ∷ Act a.AddName ∷ Non o.FieldNames ∷ more) (v.Names first ∷ vs) fs rest h e)
  back_FieldNames more (v.Names first ∷ vs) input value fs e ts h = no_more_names more first vs ts (e ts h)
  back_FieldNames more vs input value fs e ts h = tt

  pub end_FieldNames : (more : List Symbol) (vs : List Value) → Meaning last (lack (otherwise o.FieldNames) more vs []) → Meaning last (At (Non o.FieldNames ∷ more) vs [])
  end_FieldNames more (v.Names first ∷ vs) e ts h = no_more_names more first vs ts (e ts h)
  end_FieldNames more vs e ts h = tt

  indexed_property : (more : List Symbol) (vs : List Value) (k : Token) (ts : List Classified) → Means last (Non o.OpenBracket ∷ Non o.Type ∷ Non o.CloseBracket ∷ Act a.IndexProperty ∷ more) (mark (t.Word w.Default) k.span ∷ vs) ts
      → Means last (Non o.PropertyName ∷ more) vs (at (t.Word w.Default) k ∷ ts)
  indexed_property more vs k ts (open_, us, takes, (of, span, ws, p, (close, rest, takes, m))) = (_, rest, y.indexed p, m)

  pub back_PropertyName : (more : List Symbol) (vs : List Value) (input : Input) (value : Value) (fs : List Fed) → Meaning last (step (At (Non o.PropertyName ∷ more) vs (fed input value ∷ fs))) → Meaning last (At (Non o.PropertyName ∷ more) vs (fed input value ∷ fs))
  back_PropertyName more vs i.ConstructorName value fs e ts h = tt
  back_PropertyName more vs (i.Token (t.Name n.Plain word)) value fs e ts (rest, token {k} fits, h) = (_, rest, y.named plain, after last (Act a.NameProperty ∷ more) (v.Name (name_token n.Plain word k) ∷ vs) fs rest h e)
  back_PropertyName more vs (i.Token (t.Name n.Function word)) value fs e ts (rest, token {k} fits, h) = (_, rest, y.named function, after last (Act a.NameProperty ∷ more) (v.Name (name_token n.Function word k) ∷ vs) fs rest h e)
  back_PropertyName more vs (i.Token (t.Word w.Default)) value fs e ts (rest, token {k} fits, h) = indexed_property more vs k rest (after last (Non o.OpenBracket ∷ Non o.Type ∷ Non o.CloseBracket ∷ Act a.IndexProperty ∷ more) (mark (t.Word w.Default) k.span ∷ vs) fs rest h e)
  back_PropertyName more vs input value fs e ts h = absurd e

  pub end_PropertyName : (more : List Symbol) (vs : List Value) → Meaning last (lack (otherwise o.PropertyName) more vs []) → Meaning last (At (Non o.PropertyName ∷ more) vs [])
  end_PropertyName more vs e ts h = absurd e

  property_of : (more : List Symbol) (vs : List Value) (items : List Accessor) (end : Span) (ts rest : List Classified) → ReadsPropertyBody items end ts rest
      → Means last more (v.Member (member.Property (storage_of (top_storage (below (below vs)))) (top_property_type (below vs)).tree (top_property_name vs) items (across (first_span (top_storage (below (below vs))) (top_property_type (below vs)).span) end)) ∷ below (below (below vs))) rest
      → Means last (Non o.PropertyBody ∷ more) vs ts
  property_of more vs items end ts rest b m =
      (_, rest, (λ own us xs ys kind k span held same p q. y.property (subst (λ r. ReadsStorage (storage_of (top_storage (below (below vs)))) (first_span (top_storage (below (below vs))) r) k.span us (at (t.Name kind c.Property) k ∷ xs)) same (storage_held held k.span)) p q b), m)

  accessor_body : (more : List Symbol) (vs : List Value) (open_ : Token) (ts : List Classified) → Means last (Act a.StartAccessors ∷ Non o.Accessor ∷ Act a.AddAccessor ∷ Non o.Accessors ∷ Non o.KeptCloseBrace ∷ Act a.MakeProperty ∷ more) vs ts
      → Means last (Non o.PropertyBody ∷ more) vs (at (t.Sign s.OpenBrace) open_ ∷ ts)
  accessor_body more vs open_ ts (one, us, p, (items, ws, q, (close, rest, takes, m))) = property_of more vs (one ∷ items) close.span _ rest (y.accessors p q) m

  pub back_PropertyBody : (more : List Symbol) (vs : List Value) (input : Input) (value : Value) (fs : List Fed) → Meaning last (step (At (Non o.PropertyBody ∷ more) vs (fed input value ∷ fs))) → Meaning last (At (Non o.PropertyBody ∷ more) vs (fed input value ∷ fs))
  back_PropertyBody more vs i.ConstructorName value fs e ts h = tt
  back_PropertyBody more vs (i.Token (t.Sign s.Semicolon)) value fs e ts (rest, token {k} fits, h) = property_of more vs [] k.span _ rest y.trivial (after last (Act a.MakeTrivialProperty ∷ more) (mark (t.Sign s.Semicolon) k.span ∷ vs) fs rest h e)
  back_PropertyBody more vs (i.Token (t.Sign s.OpenBrace)) value fs e ts (rest, token {k} fits, h) = accessor_body more vs k rest (after last (Act a.StartAccessors ∷ Non o.Accessor ∷ Act a.AddAccessor ∷ Non o.Accessors ∷ Non o.KeptCloseBrace ∷ Act a.MakeProperty ∷ more) (vs) fs rest h e)
  back_PropertyBody more vs input value fs e ts h = absurd e

  pub end_PropertyBody : (more : List Symbol) (vs : List Value) → Meaning last (lack (otherwise o.PropertyBody) more vs []) → Meaning last (At (Non o.PropertyBody ∷ more) vs [])
  end_PropertyBody more vs e ts h = absurd e
