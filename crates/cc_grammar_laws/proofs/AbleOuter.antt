-- The least tokens of the parts of classes, functions and what else stands outside classes.
use Rattle.std.proofs.Common.{◌≡◌, subst, ℕ, List, [], ◌∷◌, Some, None, false}
use Rattle.cc_tree.specs.declared.token.Token.{Token}
use Rattle.cc_tree.specs.declared.token.TokenKind.{TokenKind}
use Rattle.cc_tree.specs.declared.identifier.Identifier.{Identifier}
use Rattle.cc_tree.specs.declared.terminal.Terminal.TheVariants as t
use Rattle.cc_tree.specs.declared.terminal.NameKind.{NameKind}
use Rattle.cc_tree.specs.declared.terminal.NameKind.TheVariants as n
use Rattle.cc_tree.specs.declared.terminal.ContextualWord.{ContextualWord}
use Rattle.cc_tree.specs.declared.terminal.ContextualWord.TheVariants as c
use Rattle.cc_tree.specs.declared.terminal.Sign.TheVariants as s
use Rattle.cc_tree.specs.declared.class.AggregateWord.TheVariants as aggregate
use Rattle.cc_tree.specs.declared.class.Class.{Class}
use Rattle.cc_tree.specs.declared.class.ClassKey.{ClassKey}
use Rattle.cc_tree.specs.declared.unit.Outer.TheVariants as outer
use Rattle.cc_tree.specs.declared.unit.Template.TheVariants as template
use Rattle.cc_tree.specs.Terminals.{Classified, at, plain}
use Rattle.cc_tree.specs.Spans.{across, identifier}
use Rattle.cc_tree.specs.GrammarTypes as g
use Rattle.cc_tree.specs.GrammarExpressions as x
use Rattle.cc_tree.specs.GrammarMembers as y
use Rattle.cc_tree.specs.GrammarUnit as u
use Rattle.cc_tree.specs.GrammarUnit.{IsClassWord, ReadsKey, ReadsClass, ReadsEnumerator, ReadsOuter, ReadsTemplateParameters}
use Rattle.cc_table.specs.declared.symbols.Sort.TheVariants as o
use Rattle.cc_pushdown.specs.declared.value.Value.{Value}
use Rattle.cc_pushdown.specs.declared.value.Value.TheVariants as v
use Rattle.cc_pushdown.specs.Words.{class_word_of}
use Rattle.cc_pushdown.specs.Values.{below, nowhere, top_name, top_mark, top_key, top_template_parameters}
use Rattle.cc_grammar_laws.proofs.OuterParts.{IsKeyWord, takes_aggregate, FollowsTemplate}
use Rattle.cc_grammar_laws.proofs.Tokens.{a_sign, int, number, id, of_type, class_, enum_, namespace_, using_, Given, before}
use Rattle.cc_grammar_laws.proofs.AbleTypes.{Fill}

is_class_word : (word : ContextualWord) → IsKeyWord word → IsClassWord word (class_word_of word)
is_class_word c.Ref h = u.ref
is_class_word c.Value h = u.value
is_class_word c.Interface h = u.interface
is_class_word _ h = absurd h

-- the key of a class that begins with this word
abbrev key_from : ContextualWord → Identifier → ClassKey
key_from word name = record { word = class_word_of word; aggregate = aggregate.Class; span = across name.span nowhere }

abbrev empty_class : ClassKey → Identifier → Class
empty_class key name = record { key = key; name = name; modifiers = []; bases = []; members = []; span = across key.span nowhere }

module _ (given : Given) where
  -- a class without members behind the parameters of a template
  class_follows : (kinds : ℕ → TokenKind) (vs : List Value) (kind : NameKind) (word : ContextualWord) (name : Identifier) (k : Token) (ts : List Classified) → identifier k ≡ name → IsKeyWord word
      → FollowsTemplate vs (outer.Template (template.Class (top_template_parameters vs) (empty_class (key_from word name) (identifier given.name)) (across (top_mark (below vs)).span nowhere))) (across (top_mark (below vs)).span nowhere)
      (at (t.Name kind word) k ∷ before given kinds (class_ ∷ id ∷ a_sign s.OpenBrace ∷ a_sign s.CloseBrace ∷ a_sign s.Semicolon ∷ []) ts) ts
  class_follows kinds vs kind word name k ts same h whole less greater us p =
      u.template_class (u.class_ p (subst (λ q. ReadsClass (empty_class (key_from word q) (identifier given.name)) (at (t.Name kind word) k ∷ before given kinds (class_ ∷ id ∷ a_sign s.OpenBrace ∷ a_sign s.CloseBrace ∷ a_sign s.Semicolon ∷ []) ts) ts) same
      (u.class_ (u.key (is_class_word word h) u.class_) u.none u.none y.none)))

  forward_read : (kinds : ℕ → TokenKind) (kind : NameKind) (word : ContextualWord) (name : Identifier) (k : Token) (ts : List Classified) → identifier k ≡ name → IsKeyWord word
      → ReadsOuter (outer.Forward (key_from word name) (identifier given.name) (across (key_from word name).span nowhere)) (across (key_from word name).span nowhere)
      (at (t.Name kind word) k ∷ before given kinds (class_ ∷ id ∷ a_sign s.Semicolon ∷ []) ts) ts
  forward_read kinds kind word name k ts same h =
      subst (λ q. ReadsOuter (outer.Forward (key_from word q) (identifier given.name) (across (key_from word q).span nowhere)) (across (key_from word q).span nowhere) (at (t.Name kind word) k ∷ before given kinds (class_ ∷ id ∷ a_sign s.Semicolon ∷ []) ts) ts) same
      (u.forward (u.key (is_class_word word h) u.class_))

  pub fill_unit_rest : (vs : List Value) → Fill given o.UnitRest vs
  fill_unit_rest (v.Outers first ∷ vs) = ([], _, tt, λ kinds ts K m. (_, _, (λ us p. p), m))
  fill_unit_rest _ = ([], [], tt, λ kinds ts K m. tt)

  pub fill_outers : (vs : List Value) → Fill given o.Outers vs
  fill_outers (v.Outers first ∷ vs) = ([], _, tt, λ kinds ts K m. (_, _, (λ us p. p), m))
  fill_outers _ = ([], [], tt, λ kinds ts K m. tt)

  pub fill_outer : (vs : List Value) → Fill given o.Outer vs
  fill_outer vs = (using_ ∷ namespace_ ∷ id ∷ a_sign s.Semicolon ∷ [], _, tt, λ kinds ts K m. (_, _, _, u.using_ (u.last plain), m))

  pub fill_namespace_names : (vs : List Value) → Fill given o.NamespaceNames vs
  fill_namespace_names (v.Names first ∷ vs) = ([], _, tt, λ kinds ts K m. ([], _, (λ named k i. u.last i), m))
  fill_namespace_names _ = ([], [], tt, λ kinds ts K m. tt)

  pub fill_function_rest : (vs : List Value) → Fill given o.FunctionRest vs
  fill_function_rest vs = (id ∷ a_sign s.OpenParenthesis ∷ a_sign s.CloseParenthesis ∷ a_sign s.Semicolon ∷ [], _, tt, λ kinds ts K m. (_, _, (λ us p. u.function_ p plain y.none y.none), m))

  pub fill_key_or_namespace : (vs : List Value) → Fill given o.KeyOrNamespace vs
  fill_key_or_namespace vs = (class_ ∷ id ∷ a_sign s.Semicolon ∷ [], _, tt, λ kinds ts K m. (_, _, _, (λ k same i h. forward_read kinds (top_name vs).kind (top_name vs).word (top_name vs).identifier k ts same h), m))

  pub fill_key_or_type : (vs : List Value) → Fill given o.KeyOrType vs
  fill_key_or_type vs = (class_ ∷ id ∷ a_sign s.Semicolon ∷ [], _, tt, λ kinds ts K m. (_, _, _, (λ k same h. forward_read kinds n.Type (top_name vs).word (top_name vs).identifier k ts same h), m))

  pub fill_forward_or_class : (vs : List Value) → Fill given o.ForwardOrClass vs
  fill_forward_or_class vs = (
    a_sign s.Semicolon ∷ [],
    _,
    tt,
    λ kinds ts K m. (
      _,
      _,
      _,
      (λ kind word k us same p.
          subst (λ q. ReadsOuter (outer.Forward (top_key (below vs)) q (across (top_key (below vs)).span nowhere)) (across (top_key (below vs)).span nowhere) us ts) same (u.forward p)),
      m,
    ),
  )

  pub fill_class_rest : (vs : List Value) → Fill given o.ClassRest vs
  fill_class_rest vs = (
    a_sign s.OpenBrace ∷ a_sign s.CloseBrace ∷ a_sign s.Semicolon ∷ [],
    _,
    tt,
    λ kinds ts K m. (
      _,
      _,
      (λ kind word k us same p.
          subst (λ q. ReadsClass (empty_class (top_key (below vs)) q) us ts) same (u.class_ p u.none u.none y.none)),
      m,
    ),
  )

  pub fill_class_modifiers : (vs : List Value) → Fill given o.ClassModifiers vs
  fill_class_modifiers (v.ClassModifiers first ∷ vs) = ([], _, tt, λ kinds ts K m. ([], _, u.none, m))
  fill_class_modifiers _ = ([], [], tt, λ kinds ts K m. tt)

  pub fill_bases : (vs : List Value) → Fill given o.Bases vs
  fill_bases vs = ([], _, tt, λ kinds ts K m. ([], _, u.none, m))

  pub fill_base : (vs : List Value) → Fill given o.Base vs
  fill_base vs = (of_type ∷ [], _, tt, λ kinds ts K m. (_, _, u.base (g.alone g.none), m))

  pub fill_more_bases : (vs : List Value) → Fill given o.MoreBases vs
  fill_more_bases (v.Bases first ∷ vs) = ([], _, tt, λ kinds ts K m. ([], _, (λ one us p. u.last p), m))
  fill_more_bases _ = ([], [], tt, λ kinds ts K m. tt)

  pub fill_visible_rest : (vs : List Value) → Fill given o.VisibleRest vs
  fill_visible_rest vs = (enum_ ∷ class_ ∷ id ∷ a_sign s.OpenBrace ∷ a_sign s.CloseBrace ∷ a_sign s.Semicolon ∷ [], _, tt, λ kinds ts K m. (_, _, _, (λ word kind visible. u.visible_enum visible (u.enum_ u.class_ u.none)), m))

  pub fill_template_rest : (vs : List Value) → Fill given o.TemplateRest vs
  fill_template_rest vs = (int ∷ id ∷ a_sign s.OpenParenthesis ∷ a_sign s.CloseParenthesis ∷ a_sign s.Semicolon ∷ [], _, tt, λ kinds ts K m. (_, _, _, (λ kind less greater us p. u.template_function (u.function_ p (u.function_ (g.core (g.fundamental g.int g.last)) plain y.none y.none))), m))

  pub fill_template_key_or_namespace : (vs : List Value) → Fill given o.TemplateKeyOrNamespace vs
  fill_template_key_or_namespace vs = (class_ ∷ id ∷ a_sign s.OpenBrace ∷ a_sign s.CloseBrace ∷ a_sign s.Semicolon ∷ [], _, tt, λ kinds ts K m. (_, _, _, (λ k same i h. class_follows kinds (below vs) (top_name vs).kind (top_name vs).word (top_name vs).identifier k ts same h), m))

  pub fill_template_key_or_type : (vs : List Value) → Fill given o.TemplateKeyOrType vs
  fill_template_key_or_type vs = (class_ ∷ id ∷ a_sign s.OpenBrace ∷ a_sign s.CloseBrace ∷ a_sign s.Semicolon ∷ [], _, tt, λ kinds ts K m. (_, _, _, (λ k same h. class_follows kinds (below vs) n.Type (top_name vs).word (top_name vs).identifier k ts same h), m))

  pub fill_aggregate_word : (vs : List Value) → Fill given o.AggregateWord vs
  fill_aggregate_word vs = (class_ ∷ [], _, tt, λ kinds ts K m. (_, _, _, takes_aggregate u.class_, m))

  pub fill_enumeration : (vs : List Value) → Fill given o.Enumeration vs
  fill_enumeration vs = (enum_ ∷ class_ ∷ id ∷ a_sign s.OpenBrace ∷ a_sign s.CloseBrace ∷ a_sign s.Semicolon ∷ [], _, tt, λ kinds ts K m. (_, _, u.enum_ u.class_ u.none, m))

  pub fill_enumerators : (vs : List Value) → Fill given o.Enumerators vs
  fill_enumerators (v.Enumerators first ∷ vs) = ([], _, tt, λ kinds ts K m. ([], _, u.none, m))
  fill_enumerators _ = ([], [], tt, λ kinds ts K m. tt)

  pub fill_more_enumerators : (vs : List Value) → Fill given o.MoreEnumerators vs
  fill_more_enumerators (v.Enumerators first ∷ vs) = ([], _, tt, λ kinds ts K m. ([], _, (λ one us p. u.last p), m))
  fill_more_enumerators _ = ([], [], tt, λ kinds ts K m. tt)

  pub fill_enumerator : (vs : List Value) → Fill given o.Enumerator vs
  fill_enumerator vs = (id ∷ [], _, tt, λ kinds ts K m. (_, _, u.alone plain, m))

  pub fill_enumerator_rest : (vs : List Value) → Fill given o.EnumeratorRest vs
  fill_enumerator_rest vs = ([], _, tt, λ kinds ts K m. (_, _, (λ named k i same. subst (λ q. ReadsEnumerator (record { name = q; value = None; span = q.span }) (at named k ∷ ts) ts) same (u.alone i)), m))

  pub fill_enumerator_number : (vs : List Value) → Fill given o.EnumeratorNumber vs
  fill_enumerator_number vs = (
    number ∷ [],
    _,
    tt,
    λ kinds ts K m. (
      _,
      _,
      (λ named k equals i same.
          subst (λ q. ReadsEnumerator (record { name = q; value = Some (record { is_negative = false; number = 0 }); span = across q.span nowhere }) (at named k ∷ at (t.Sign s.Assign) equals ∷ before given kinds (number ∷ []) ts) ts) same (u.numbered i x.zero_number)),
      m,
    ),
  )

  pub fill_template_parameter : (vs : List Value) → Fill given o.TemplateParameter vs
  fill_template_parameter vs = (class_ ∷ id ∷ [], _, tt, λ kinds ts K m. (_, _, u.last u.class_, m))

  pub fill_more_template_parameters : (vs : List Value) → Fill given o.MoreTemplateParameters vs
  fill_more_template_parameters (v.TemplateParameters first ∷ vs) = ([], _, tt, λ kinds ts K m. ([], _, (λ one us p. p), m))
  fill_more_template_parameters _ = ([], [], tt, λ kinds ts K m. tt)
