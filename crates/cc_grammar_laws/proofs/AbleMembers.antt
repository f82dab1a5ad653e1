-- The least tokens of the parts of functions and of members of classes.
use Rattle.std.proofs.Common.{sym, subst, ℕ, true, List, [], ◌∷◌}
use Rattle.std.specs.Prelude.{Option, Some, None}
use Rattle.cc_base.specs.declared.text.Span.{Span}
use Rattle.cc_tree.specs.declared.token.Token.{Token}
use Rattle.cc_tree.specs.declared.token.TokenKind.{TokenKind}
use Rattle.cc_tree.specs.declared.identifier.Identifier.{Identifier}
use Rattle.cc_tree.specs.declared.terminal.Terminal.TheVariants as t
use Rattle.cc_tree.specs.declared.terminal.Sign.TheVariants as s
use Rattle.cc_tree.specs.declared.terminal.ReservedWord.TheVariants as w
use Rattle.cc_tree.specs.declared.type_name.TypeName.{TypeName}
use Rattle.cc_tree.specs.declared.type_name.TypeName.TheVariants as type
use Rattle.cc_tree.specs.declared.type_name.FundamentalType.TheVariants as fundamental
use Rattle.cc_tree.specs.declared.member.Member.TheVariants as made
use Rattle.cc_tree.specs.declared.member.Storage.TheVariants as storage
use Rattle.cc_tree.specs.declared.member.MemberInitializer.TheVariants as init
use Rattle.cc_tree.specs.Terminals.{Classified, at, plain}
use Rattle.cc_tree.specs.Spans.{across, after, identifier}
use Rattle.cc_tree.specs.GrammarTypes as g
use Rattle.cc_tree.specs.GrammarTypes.{ReadsType, ReadsNamed}
use Rattle.cc_tree.specs.GrammarExpressions as x
use Rattle.cc_tree.specs.GrammarMembers as y
use Rattle.cc_tree.specs.GrammarMembers.{ReadsStorage, ReadsIds, ReadsMember, ReadsInitializer, ReadsNamedFunction}
use Rattle.cc_table.specs.declared.symbols.Sort.TheVariants as o
use Rattle.cc_pushdown.specs.declared.value.Mark.{Mark}
use Rattle.cc_pushdown.specs.declared.value.Value.{Value}
use Rattle.cc_pushdown.specs.declared.value.Value.TheVariants as v
use Rattle.cc_pushdown.specs.Build.{first_span}
use Rattle.cc_pushdown.specs.Words.{is_static, storage_of}
use Rattle.cc_pushdown.specs.Values.{below, nowhere, top_property_name, top_property_type, top_storage, top_type_name}
use Rattle.cc_grammar_laws.proofs.MemberParts as parts
use Rattle.cc_grammar_laws.proofs.MemberParts.{static_mark, virtual_mark, HoldsStatic, Holds, class_letters}
use Rattle.cc_grammar_laws.proofs.Tokens.{a_sign, int, number, id, of_type, get, public_, Given, before}
use Rattle.cc_grammar_laws.proofs.AbleTypes.{Fill}

-- one field, with or without `static`
pub field_of : {own : List ℕ} {kept : Option Mark} {of : TypeName} {names : List Identifier} {span : Span} {semicolon : Token} {us ws ts rest : List Classified} → HoldsStatic kept us ws → ReadsType of span ws ts
    → ReadsIds names ts (at (t.Sign s.Semicolon) semicolon ∷ rest) → ReadsMember own (made.Fields (is_static kept) of names (across (first_span kept span) semicolon.span)) us rest
field_of parts.nothing p q = y.fields p q
field_of parts.static p q = y.static_fields p q

pub storage_held : {kept : Option Mark} {us ws : List Classified} → Holds kept us ws → (span : Span) → ReadsStorage (storage_of kept) (first_span kept span) span us ws
storage_held parts.nothing span = y.none
storage_held parts.static span = y.static
storage_held parts.virtual span = y.virtual

-- the type `int` and the name, as they complete
abbrev pub int_type : TypeName
int_type = type.Fundamental fundamental.Int nowhere

-- a member `int x;`, `static int x;` and `virtual int x();`
pub plain_field : (given : Given) (kinds : ℕ → TokenKind) {own : List ℕ} (kept : Option Mark) {us ts : List Classified} → HoldsStatic kept us (before given kinds (int ∷ id ∷ a_sign s.Semicolon ∷ []) ts)
    → ReadsMember own (made.Fields (is_static kept) (int_type) (identifier given.name ∷ []) (across (first_span kept nowhere) nowhere)) us ts
plain_field given kinds kept h = field_of h (g.core (g.fundamental g.int g.last)) (y.last plain)

pub virtual_function : (given : Given) (kinds : ℕ → TokenKind) {own : List ℕ} (kept : Option Mark) {us ts : List Classified} → Holds kept us (before given kinds (int ∷ id ∷ a_sign s.OpenParenthesis ∷ a_sign s.CloseParenthesis ∷ a_sign s.Semicolon ∷ []) ts)
    → ReadsMember own (made.Function (storage_of kept) (int_type) (identifier given.name) (record { items = []; span = after nowhere }) [] None None (across (first_span kept nowhere) nowhere)) us ts
virtual_function given kinds kept h = y.function (storage_held h nowhere) (g.core (g.fundamental g.int g.last)) plain y.none y.none y.none y.none

module _ (given : Given) where
  pub fill_parameters : (vs : List Value) → Fill given o.Parameters vs
  fill_parameters (v.ParameterList first ∷ vs) = ([], _, tt, λ kinds ts K m. (_, _, parts.nothing, m))
  fill_parameters _ = ([], [], tt, λ kinds ts K m. tt)

  pub fill_parameter_name : (vs : List Value) → Fill given o.ParameterName vs
  fill_parameter_name vs = ([], _, tt, λ kinds ts K m. (_, _, _, (λ us p. y.unnamed p), m))

  pub fill_more_parameters : (vs : List Value) → Fill given o.MoreParameters vs
  fill_more_parameters (v.ParameterList first ∷ vs) = ([], _, tt, λ kinds ts K m. ([], None, _, parts.nothing, m))
  fill_more_parameters _ = ([], [], tt, λ kinds ts K m. tt)

  pub fill_modifiers : (vs : List Value) → Fill given o.Modifiers vs
  fill_modifiers (v.Modifiers first ∷ vs) = ([], _, tt, λ kinds ts K m. ([], _, y.none, m))
  fill_modifiers _ = ([], [], tt, λ kinds ts K m. tt)

  pub fill_overriding : (vs : List Value) → Fill given o.Overriding vs
  fill_overriding vs = ([], _, tt, λ kinds ts K m. (_, _, y.none, m))

  pub fill_overridden : (vs : List Value) → Fill given o.Overridden vs
  fill_overridden vs = (number ∷ [], _, tt, λ kinds ts K m. (_, _, (λ equals. y.pure), m))

  pub fill_named_function : (vs : List Value) → Fill given o.NamedFunction vs
  fill_named_function vs = (of_type ∷ a_sign s.Scope ∷ id ∷ [], _, tt, λ kinds ts K m. (_, _, y.function (g.alone g.none) plain, m))

  pub fill_named_accessor : (vs : List Value) → Fill given o.NamedAccessor vs
  fill_named_accessor vs = (
    [],
    _,
    tt,
    λ kinds ts K m. (
      _,
      _,
      (λ us scope k named p i same.
          subst (λ q. ReadsNamedFunction (record { class = (top_type_name (below vs)).tree; name = q; accessor = None; span = across (top_type_name (below vs)).span q.span }) us ts) same (y.function p i)),
      m,
    ),
  )

  pub fill_more_named_functions : (vs : List Value) → Fill given o.MoreNamedFunctions vs
  fill_more_named_functions (v.NamedFunctions first ∷ vs) = ([], _, tt, λ kinds ts K m. ([], None, _, parts.nothing, m))
  fill_more_named_functions _ = ([], [], tt, λ kinds ts K m. tt)

  pub fill_body : (vs : List Value) → Fill given o.Body vs
  fill_body vs = (a_sign s.Semicolon ∷ [], _, tt, λ kinds ts K m. (_, _, _, y.none, m))

  pub fill_accessor_word : (vs : List Value) → Fill given o.AccessorWord vs
  fill_accessor_word vs = (get ∷ [], _, tt, λ kinds ts K m. (_, _, _, _, parts.accessor y.get, m))

  pub fill_accessor : (vs : List Value) → Fill given o.Accessor vs
  fill_accessor vs = (int ∷ get ∷ a_sign s.OpenParenthesis ∷ a_sign s.CloseParenthesis ∷ a_sign s.Semicolon ∷ [], _, tt, λ kinds ts K m. (_, _, y.accessor_ (g.core (g.fundamental g.int g.last)) y.get y.none y.none y.none y.none, m))

  pub fill_accessors : (vs : List Value) → Fill given o.Accessors vs
  fill_accessors (v.Accessors first ∷ vs) = ([], _, tt, λ kinds ts K m. ([], _, y.none, m))
  fill_accessors _ = ([], [], tt, λ kinds ts K m. tt)

  pub fill_initializers : (vs : List Value) → Fill given o.Initializers vs
  fill_initializers vs = ([], _, tt, λ kinds ts K m. ([], _, y.none, m))

  pub fill_more_initializers : (vs : List Value) → Fill given o.MoreInitializers vs
  fill_more_initializers (v.Initializers first ∷ vs) = ([], _, tt, λ kinds ts K m. ([], _, parts.nothing, m))
  fill_more_initializers _ = ([], [], tt, λ kinds ts K m. tt)

  pub fill_initializer : (vs : List Value) → Fill given o.Initializer vs
  fill_initializer vs = (id ∷ a_sign s.OpenParenthesis ∷ a_sign s.CloseParenthesis ∷ [], _, tt, λ kinds ts K m. (_, _, y.member plain x.none, m))

  pub fill_initializer_name : (vs : List Value) → Fill given o.InitializerName vs
  fill_initializer_name vs = (
    a_sign s.OpenParenthesis ∷ a_sign s.CloseParenthesis ∷ [],
    _,
    tt,
    λ kinds ts K m. (
      _,
      _,
      (λ named k i same.
          subst (λ q. ReadsInitializer (init.Member q (x.arguments [] (after nowhere)) (across q.span nowhere)) (at named k ∷ before given kinds (a_sign s.OpenParenthesis ∷ a_sign s.CloseParenthesis ∷ []) ts) ts) same (y.member i x.none)),
      m,
    ),
  )

  pub fill_members : (vs : List Value) → Fill given o.Members vs
  fill_members (v.Members first ∷ vs) = ([], _, tt, λ kinds ts K m. ([], _, y.none, m))
  fill_members _ = ([], [], tt, λ kinds ts K m. tt)

  pub fill_member : (vs : List Value) → Fill given o.Member vs
  fill_member vs = (public_ ∷ a_sign s.Colon ∷ [], _, tt, λ kinds ts K m. (_, _, y.access_ y.public, m))

  pub fill_virtual_start : (vs : List Value) → Fill given o.VirtualStart vs
  fill_virtual_start vs = (
    int ∷ id ∷ a_sign s.OpenParenthesis ∷ a_sign s.CloseParenthesis ∷ a_sign s.Semicolon ∷ [],
    _,
    tt,
    λ kinds ts K m. (
      _,
      _,
      (λ k same. subst (λ q. ReadsMember (class_letters (below (below vs))) (made.Function storage.Virtual (int_type) (identifier given.name) (record { items = []; span = after nowhere }) [] None None (across (first_span q nowhere) nowhere)) (at (t.Word w.Virtual) k ∷ before given kinds (int ∷ id ∷ a_sign s.OpenParenthesis ∷ a_sign s.CloseParenthesis ∷ a_sign s.Semicolon ∷ []) ts) ts) (sym same)
          (virtual_function given kinds (Some (virtual_mark k)) parts.virtual)),
      m,
    ),
  )

  pub fill_virtual_member : (vs : List Value) → Fill given o.VirtualMember vs
  fill_virtual_member vs = (
    int ∷ id ∷ a_sign s.OpenParenthesis ∷ a_sign s.CloseParenthesis ∷ a_sign s.Semicolon ∷ [],
    _,
    tt,
    λ kinds ts K m. (
      _,
      _,
      (λ k same. subst (λ q. ReadsMember (class_letters (below (below vs))) (made.Function storage.Virtual (int_type) (identifier given.name) (record { items = []; span = after nowhere }) [] None None (across (first_span q nowhere) nowhere)) (at (t.Word w.Virtual) k ∷ before given kinds (int ∷ id ∷ a_sign s.OpenParenthesis ∷ a_sign s.CloseParenthesis ∷ a_sign s.Semicolon ∷ []) ts) ts) (sym same)
          (virtual_function given kinds (Some (virtual_mark k)) parts.virtual)),
      m,
    ),
  )

  pub fill_static_member : (vs : List Value) → Fill given o.StaticMember vs
  fill_static_member vs = (
    int ∷ id ∷ a_sign s.Semicolon ∷ [],
    _,
    tt,
    λ kinds ts K m. (
      _,
      _,
      (λ k same. subst (λ q. ReadsMember (class_letters (below (below vs))) (made.Fields true (int_type) (identifier given.name ∷ []) (across (first_span q nowhere) nowhere)) (at (t.Word w.Static) k ∷ before given kinds (int ∷ id ∷ a_sign s.Semicolon ∷ []) ts) ts) (sym same)
          (plain_field given kinds (Some (static_mark k)) parts.static)),
      m,
    ),
  )

  pub fill_member_start : (vs : List Value) → Fill given o.MemberStart vs
  fill_member_start vs = (int ∷ id ∷ a_sign s.Semicolon ∷ [], _, tt, λ kinds ts K m. (_, _, (λ same. plain_field given kinds None parts.nothing), m))

  pub fill_member_rest : (vs : List Value) → Fill given o.MemberRest vs
  fill_member_rest vs = (int ∷ id ∷ a_sign s.Semicolon ∷ [], _, tt, λ kinds ts K m. (_, _, (λ same. plain_field given kinds None parts.nothing), m))

  pub fill_member_name : (vs : List Value) → Fill given o.MemberName vs
  fill_member_name vs = (id ∷ a_sign s.Semicolon ∷ [], _, tt, λ kinds ts K m. (_, _, (λ own us ws h p. field_of h p (y.last plain)), m))

  pub fill_fields_or_function : (vs : List Value) → Fill given o.FieldsOrFunction vs
  fill_fields_or_function vs = (
    a_sign s.Semicolon ∷ [],
    _,
    tt,
    λ kinds ts K m. (
      _,
      _,
      (λ own us ws named k h p i same.
          subst (λ q. ReadsMember own (made.Fields (is_static (top_storage (below (below vs)))) (top_type_name (below vs)).tree (q ∷ []) (across (first_span (top_storage (below (below vs))) (top_type_name (below vs)).span) nowhere)) us ts) same (field_of h p (y.last i))),
      m,
    ),
  )

  pub fill_property_body : (vs : List Value) → Fill given o.PropertyBody vs
  fill_property_body vs = (
    a_sign s.Semicolon ∷ [],
    _,
    tt,
    λ kinds ts K m. (
      _,
      _,
      (λ own us xs ys kind k span h same p q.
          subst (λ r. ReadsMember own (made.Property (storage_of (top_storage (below (below vs)))) (top_property_type (below vs)).tree (top_property_name vs) [] (across (first_span (top_storage (below (below vs))) r) nowhere)) us ts) same
          (y.property (storage_held h k.span) p q y.trivial)),
      m,
    ),
  )

  pub fill_virtual_name : (vs : List Value) → Fill given o.VirtualName vs
  fill_virtual_name vs = (id ∷ [], _, tt, λ kinds ts K m. (_, _, _, _, parts.id plain, m))

  pub fill_field_names : (vs : List Value) → Fill given o.FieldNames vs
  fill_field_names (v.Names first ∷ vs) = ([], _, tt, λ kinds ts K m. ([], _, parts.nothing, m))
  fill_field_names _ = ([], [], tt, λ kinds ts K m. tt)

  pub fill_property_name : (vs : List Value) → Fill given o.PropertyName vs
  fill_property_name vs = (id ∷ [], _, tt, λ kinds ts K m. (_, _, y.named plain, m))
