-- How the members of a class are spelled (ECMA-372, 18 and 19): which tree a list of tokens begins with, and which tokens follow it.
use Rattle.std.specs.Prelude.{◌≡◌, ℕ, List, [], ◌∷◌, Option, Some, None, Bool, true, false}
use Rattle.cc_base.specs.declared.text.Span.{Span}
use Rattle.cc_tree.specs.declared.token.Token.{Token}
use Rattle.cc_tree.specs.declared.identifier.Identifier.{Identifier}
use Rattle.cc_tree.specs.declared.terminal.Terminal.{Terminal}
use Rattle.cc_tree.specs.declared.terminal.Terminal.TheVariants as t
use Rattle.cc_tree.specs.declared.terminal.NameKind.{NameKind}
use Rattle.cc_tree.specs.declared.terminal.NameKind.TheVariants as n
use Rattle.cc_tree.specs.declared.terminal.ContextualWord.{ContextualWord}
use Rattle.cc_tree.specs.declared.terminal.ContextualWord.TheVariants as c
use Rattle.cc_tree.specs.declared.terminal.ReservedWord.{ReservedWord}
use Rattle.cc_tree.specs.declared.terminal.ReservedWord.TheVariants as w
use Rattle.cc_tree.specs.declared.terminal.Sign.{Sign}
use Rattle.cc_tree.specs.declared.terminal.Sign.TheVariants as s
use Rattle.cc_tree.specs.declared.type_name.TypeName.{TypeName}
use Rattle.cc_tree.specs.declared.expression.Arguments.{Arguments}
use Rattle.cc_tree.specs.declared.statement.Block.{Block}
use Rattle.cc_tree.specs.declared.member.AccessWord.{AccessWord}
use Rattle.cc_tree.specs.declared.member.AccessWord.TheVariants as access
use Rattle.cc_tree.specs.declared.member.Storage.{Storage}
use Rattle.cc_tree.specs.declared.member.Storage.TheVariants as storage
use Rattle.cc_tree.specs.declared.member.Member.{Member}
use Rattle.cc_tree.specs.declared.member.Member.TheVariants as m
use Rattle.cc_tree.specs.declared.member.PropertyName.{PropertyName}
use Rattle.cc_tree.specs.declared.member.PropertyName.TheVariants as property_name
use Rattle.cc_tree.specs.declared.member.AccessorWord.{AccessorWord}
use Rattle.cc_tree.specs.declared.member.AccessorWord.TheVariants as accessor_word
use Rattle.cc_tree.specs.declared.member.Accessor.{Accessor}
use Rattle.cc_tree.specs.declared.member.Parameters.{Parameters}
use Rattle.cc_tree.specs.declared.member.Parameter.{Parameter}
use Rattle.cc_tree.specs.declared.member.Modifier.{Modifier}
use Rattle.cc_tree.specs.declared.member.Modifier.TheVariants as modifier
use Rattle.cc_tree.specs.declared.member.Overridden.{Overridden}
use Rattle.cc_tree.specs.declared.member.Overridden.TheVariants as over
use Rattle.cc_tree.specs.declared.member.NamedFunction.{NamedFunction}
use Rattle.cc_tree.specs.declared.member.MemberInitializer.{MemberInitializer}
use Rattle.cc_tree.specs.declared.member.MemberInitializer.TheVariants as init
use Rattle.cc_tree.specs.Terminals.{Classified, at, Id, letters}
use Rattle.cc_tree.specs.Spans.{across, after, identifier}
use Rattle.cc_tree.specs.GrammarTypes.{ReadsType, ReadsNamed}
use Rattle.cc_tree.specs.GrammarExpressions.{ReadsArguments}
use Rattle.cc_tree.specs.GrammarStatements.{ReadsBlock}

-- type [ ID ]
pub data ReadsParameter : Parameter → Span → List Classified → List Classified → Type 0 where
  unnamed : {of : TypeName} {span : Span} {ts rest : List Classified} → ReadsType of span ts rest → ReadsParameter (record { of = of; name = None }) span ts rest
  named : {of : TypeName} {id : Terminal} {span : Span} {k : Token} {ts rest : List Classified}
      → ReadsType of span ts (at id k ∷ rest) → Id id → ReadsParameter (record { of = of; name = Some (identifier k) }) (across span k.span) ts rest

pub data ReadsParameterList : List Parameter → Span → List Classified → List Classified → Type 0 where
  last : {one : Parameter} {span : Span} {ts rest : List Classified} → ReadsParameter one span ts rest → ReadsParameterList (one ∷ []) span ts rest
  more : {one : Parameter} {items : List Parameter} {first span : Span} {comma : Token} {ts us rest : List Classified}
      → ReadsParameter one first ts (at (t.Sign s.Comma) comma ∷ us) → ReadsParameterList items span us rest → ReadsParameterList (one ∷ items) (across first span) ts rest

-- params = [ type [ ID ] { "," type [ ID ] } ], with the parentheses around them
pub data ReadsParameters : Parameters → List Classified → List Classified → Type 0 where
  none : {open_ close : Token} {rest : List Classified}
      → ReadsParameters (record { items = []; span = after open_.span }) (at (t.Sign s.OpenParenthesis) open_ ∷ at (t.Sign s.CloseParenthesis) close ∷ rest) rest
  some : {items : List Parameter} {span : Span} {open_ close : Token} {ts rest : List Classified}
      → ReadsParameterList items span ts (at (t.Sign s.CloseParenthesis) close ∷ rest)
      → ReadsParameters (record { items = items; span = span }) (at (t.Sign s.OpenParenthesis) open_ ∷ ts) rest

-- mod = "abstract" | "override" | "sealed" | "new"
pub data IsModifier : Terminal → Span → Modifier → Type 0 where
  abstract : {kind : NameKind} {span : Span} → IsModifier (t.Name kind c.Abstract) span (modifier.Abstract span)
  override : {kind : NameKind} {span : Span} → IsModifier (t.Name kind c.Override) span (modifier.Override span)
  sealed : {kind : NameKind} {span : Span} → IsModifier (t.Name kind c.Sealed) span (modifier.Sealed span)
  new : {span : Span} → IsModifier (t.Word w.New) span (modifier.New span)

-- { mod }
pub data ReadsModifiers : List Modifier → List Classified → List Classified → Type 0 where
  none : {rest : List Classified} → ReadsModifiers [] rest rest
  next : {terminal : Terminal} {one : Modifier} {modifiers : List Modifier} {k : Token} {ts rest : List Classified}
      → IsModifier terminal k.span one → ReadsModifiers modifiers ts rest → ReadsModifiers (one ∷ modifiers) (at terminal k ∷ ts) rest

pub data IsAccessor : Terminal → AccessorWord → Type 0 where
  get : {kind : NameKind} → IsAccessor (t.Name kind c.Get) accessor_word.Get
  set : {kind : NameKind} → IsAccessor (t.Name kind c.Set) accessor_word.Set

-- named = tname "::" ID [ "::" ( "get" | "set" ) ]
pub data ReadsNamedFunction : NamedFunction → List Classified → List Classified → Type 0 where
  function : {class : TypeName} {id : Terminal} {span : Span} {scope k : Token} {ts rest : List Classified}
      → ReadsNamed class span ts (at (t.Sign s.Scope) scope ∷ at id k ∷ rest) → Id id
      → ReadsNamedFunction (record { class = class; name = identifier k; accessor = None; span = across span k.span }) ts rest
  accessor : {class : TypeName} {id terminal : Terminal} {word : AccessorWord} {span : Span} {scope k second l : Token} {ts rest : List Classified}
      → ReadsNamed class span ts (at (t.Sign s.Scope) scope ∷ at id k ∷ at (t.Sign s.Scope) second ∷ at terminal l ∷ rest) → Id id → IsAccessor terminal word
      → ReadsNamedFunction (record { class = class; name = identifier k; accessor = Some word; span = across span l.span }) ts rest

-- named { "," named }
pub data ReadsNamedFunctions : List NamedFunction → Span → List Classified → List Classified → Type 0 where
  last : {one : NamedFunction} {ts rest : List Classified} → ReadsNamedFunction one ts rest → ReadsNamedFunctions (one ∷ []) one.span ts rest
  more : {one : NamedFunction} {functions : List NamedFunction} {span : Span} {comma : Token} {ts us rest : List Classified}
      → ReadsNamedFunction one ts (at (t.Sign s.Comma) comma ∷ us) → ReadsNamedFunctions functions span us rest
      → ReadsNamedFunctions (one ∷ functions) (across one.span span) ts rest

-- [ "=" over ], with over = "0" | named { "," named }
pub data ReadsOverridden : Option Overridden → List Classified → List Classified → Type 0 where
  none : {rest : List Classified} → ReadsOverridden None rest rest
  pure : {equals k : Token} {rest : List Classified} → ReadsOverridden (Some (over.Pure k.span)) (at (t.Sign s.Assign) equals ∷ at t.Zero k ∷ rest) rest
  functions : {functions : List NamedFunction} {span : Span} {equals : Token} {ts rest : List Classified}
      → ReadsNamedFunctions functions span ts rest → ReadsOverridden (Some (over.Functions functions span)) (at (t.Sign s.Assign) equals ∷ ts) rest

-- block | ";", and the span of the one or the other
pub data ReadsBody : Option Block → Span → List Classified → List Classified → Type 0 where
  none : {semicolon : Token} {rest : List Classified} → ReadsBody None semicolon.span (at (t.Sign s.Semicolon) semicolon ∷ rest) rest
  some : {body : Block} {span : Span} {ts rest : List Classified} → ReadsBlock body span ts rest → ReadsBody (Some body) span ts rest

-- accessor = [ "virtual" ] type ( "get" | "set" ) "(" params ")" { mod } [ "=" over ] ( block | ";" )
pub data ReadsAccessor : Accessor → List Classified → List Classified → Type 0 where
  accessor_ : {of : TypeName} {terminal : Terminal} {word : AccessorWord} {parameters : Parameters} {modifiers : List Modifier} {overridden : Option Overridden} {body : Option Block}
      {first last : Span} {k : Token} {ts us vs ws xs rest : List Classified}
      → ReadsType of first ts (at terminal k ∷ us) → IsAccessor terminal word → ReadsParameters parameters us vs → ReadsModifiers modifiers vs ws
      → ReadsOverridden overridden ws xs → ReadsBody body last xs rest
      → ReadsAccessor (record { is_virtual = false; of = of; word = word; word_span = k.span; parameters = parameters; modifiers = modifiers; overridden = overridden; body = body; span = across first last }) ts rest
  virtual : {of : TypeName} {terminal : Terminal} {word : AccessorWord} {parameters : Parameters} {modifiers : List Modifier} {overridden : Option Overridden} {body : Option Block}
      {first last : Span} {virtual_ k : Token} {ts us vs ws xs rest : List Classified}
      → ReadsType of first ts (at terminal k ∷ us) → IsAccessor terminal word → ReadsParameters parameters us vs → ReadsModifiers modifiers vs ws
      → ReadsOverridden overridden ws xs → ReadsBody body last xs rest
      → ReadsAccessor (record { is_virtual = true; of = of; word = word; word_span = k.span; parameters = parameters; modifiers = modifiers; overridden = overridden; body = body; span = across virtual_.span last }) (at (t.Word w.Virtual) virtual_ ∷ ts) rest

-- { accessor }
pub data ReadsAccessors : List Accessor → List Classified → List Classified → Type 0 where
  none : {rest : List Classified} → ReadsAccessors [] rest rest
  next : {one : Accessor} {accessors : List Accessor} {ts us rest : List Classified} → ReadsAccessor one ts us → ReadsAccessors accessors us rest → ReadsAccessors (one ∷ accessors) ts rest

-- init = ( ID | tname ) "(" args ")"
pub data ReadsInitializer : MemberInitializer → List Classified → List Classified → Type 0 where
  member : {id : Terminal} {given : Arguments} {k open_ close : Token} {ts rest : List Classified}
      → Id id → ReadsArguments open_.span given ts (at (t.Sign s.CloseParenthesis) close ∷ rest)
      → ReadsInitializer (init.Member (identifier k) given (across k.span close.span)) (at id k ∷ at (t.Sign s.OpenParenthesis) open_ ∷ ts) rest
  base : {of : TypeName} {given : Arguments} {span : Span} {open_ close : Token} {ts us rest : List Classified}
      → ReadsNamed of span ts (at (t.Sign s.OpenParenthesis) open_ ∷ us) → ReadsArguments open_.span given us (at (t.Sign s.CloseParenthesis) close ∷ rest)
      → ReadsInitializer (init.Base of given (across span close.span)) ts rest

-- init { "," init }
pub data ReadsInitializerList : List MemberInitializer → List Classified → List Classified → Type 0 where
  last : {one : MemberInitializer} {ts rest : List Classified} → ReadsInitializer one ts rest → ReadsInitializerList (one ∷ []) ts rest
  more : {one : MemberInitializer} {initializers : List MemberInitializer} {comma : Token} {ts us rest : List Classified}
      → ReadsInitializer one ts (at (t.Sign s.Comma) comma ∷ us) → ReadsInitializerList initializers us rest → ReadsInitializerList (one ∷ initializers) ts rest

-- [ ":" init { "," init } ]
pub data ReadsInitializers : List MemberInitializer → List Classified → List Classified → Type 0 where
  none : {rest : List Classified} → ReadsInitializers [] rest rest
  some : {initializers : List MemberInitializer} {colon : Token} {ts rest : List Classified}
      → ReadsInitializerList initializers ts rest → ReadsInitializers initializers (at (t.Sign s.Colon) colon ∷ ts) rest

-- ID { "," ID }
pub data ReadsIds : List Identifier → List Classified → List Classified → Type 0 where
  last : {id : Terminal} {k : Token} {rest : List Classified} → Id id → ReadsIds (identifier k ∷ []) (at id k ∷ rest) rest
  more : {id : Terminal} {names : List Identifier} {k comma : Token} {ts rest : List Classified}
      → Id id → ReadsIds names ts rest → ReadsIds (identifier k ∷ names) (at id k ∷ at (t.Sign s.Comma) comma ∷ ts) rest

-- [ "static" | "virtual" ] before what begins with a span: which it is, and where the whole begins
pub data ReadsStorage : Storage → Span → Span → List Classified → List Classified → Type 0 where
  none : {span : Span} {rest : List Classified} → ReadsStorage storage.Nothing span span rest rest
  static : {span : Span} {k : Token} {rest : List Classified} → ReadsStorage storage.Static k.span span (at (t.Word w.Static) k ∷ rest) rest
  virtual : {span : Span} {k : Token} {rest : List Classified} → ReadsStorage storage.Virtual k.span span (at (t.Word w.Virtual) k ∷ rest) rest

-- ID | "default" "[" type "]"
pub data ReadsPropertyName : PropertyName → List Classified → List Classified → Type 0 where
  named : {id : Terminal} {k : Token} {rest : List Classified} → Id id → ReadsPropertyName (property_name.Named (identifier k)) (at id k ∷ rest) rest
  indexed : {of : TypeName} {span : Span} {k open_ close : Token} {ts rest : List Classified}
      → ReadsType of span ts (at (t.Sign s.CloseBracket) close ∷ rest)
      → ReadsPropertyName (property_name.Indexed k.span of) (at (t.Word w.Default) k ∷ at (t.Sign s.OpenBracket) open_ ∷ ts) rest

-- ";" | "{" accessor { accessor } "}", and the span of its last sign
pub data ReadsPropertyBody : List Accessor → Span → List Classified → List Classified → Type 0 where
  trivial : {semicolon : Token} {rest : List Classified} → ReadsPropertyBody [] semicolon.span (at (t.Sign s.Semicolon) semicolon ∷ rest) rest
  accessors : {one : Accessor} {accessors : List Accessor} {open_ close : Token} {ts us rest : List Classified}
      → ReadsAccessor one ts us → ReadsAccessors accessors us (at (t.Sign s.CloseBrace) close ∷ rest)
      → ReadsPropertyBody (one ∷ accessors) close.span (at (t.Sign s.OpenBrace) open_ ∷ ts) rest

pub data IsAccess : ReservedWord → AccessWord → Type 0 where
  public : IsAccess w.Public access.Public
  protected : IsAccess w.Protected access.Protected
  private : IsAccess w.Private access.Private

-- The members of a class with the name `own`, which its constructors, destructor and finaliser repeat.
module _ (own : List ℕ) where
  -- member = ( "public" | "protected" | "private" ) ":" | [ "static" ] type ID { "," ID } ";"
  --        | [ "static" | "virtual" ] type ID "(" params ")" { mod } [ "=" over ] ( block | ";" )
  --        | ID "(" params ")" [ ":" init { "," init } ] block | [ "virtual" ] "~" ID "(" ")" block | "!" ID "(" ")" block
  --        | [ "static" | "virtual" ] "property" type ( ID | "default" "[" type "]" ) ( ";" | "{" accessor { accessor } "}" )
  pub data ReadsMember : Member → List Classified → List Classified → Type 0 where
    access_ : {word : ReservedWord} {access : AccessWord} {k colon : Token} {rest : List Classified}
        → IsAccess word access → ReadsMember (m.Access access (across k.span colon.span)) (at (t.Word word) k ∷ at (t.Sign s.Colon) colon ∷ rest) rest
    fields : {of : TypeName} {names : List Identifier} {span : Span} {semicolon : Token} {ts us rest : List Classified}
        → ReadsType of span ts us → ReadsIds names us (at (t.Sign s.Semicolon) semicolon ∷ rest)
        → ReadsMember (m.Fields false of names (across span semicolon.span)) ts rest
    static_fields : {of : TypeName} {names : List Identifier} {span : Span} {static_ semicolon : Token} {ts us rest : List Classified}
        → ReadsType of span ts us → ReadsIds names us (at (t.Sign s.Semicolon) semicolon ∷ rest)
        → ReadsMember (m.Fields true of names (across static_.span semicolon.span)) (at (t.Word w.Static) static_ ∷ ts) rest
    function : {storage : Storage} {of : TypeName} {id : Terminal} {parameters : Parameters} {modifiers : List Modifier} {overridden : Option Overridden} {body : Option Block}
        {first span last : Span} {k : Token} {ts us vs ws xs ys rest : List Classified}
        → ReadsStorage storage first span ts us → ReadsType of span us (at id k ∷ vs) → Id id → ReadsParameters parameters vs ws → ReadsModifiers modifiers ws xs
        → ReadsOverridden overridden xs ys → ReadsBody body last ys rest
        → ReadsMember (m.Function storage of (identifier k) parameters modifiers overridden body (across first last)) ts rest
    constructor : {kind : NameKind} {word : ContextualWord} {parameters : Parameters} {initializers : List MemberInitializer} {body : Block} {last : Span} {k : Token} {ts us vs rest : List Classified}
        → letters k.kind ≡ own → ReadsParameters parameters ts us → ReadsInitializers initializers us vs → ReadsBlock body last vs rest
        → ReadsMember (m.Constructor (identifier k) parameters initializers body (across k.span last)) (at (t.Name kind word) k ∷ ts) rest
    destructor : {kind : NameKind} {word : ContextualWord} {body : Block} {last : Span} {tilde k open_ close : Token} {ts rest : List Classified}
        → letters k.kind ≡ own → ReadsBlock body last ts rest
        → ReadsMember (m.Destructor false (identifier k) body (across tilde.span last)) (at (t.Sign s.Tilde) tilde ∷ at (t.Name kind word) k ∷ at (t.Sign s.OpenParenthesis) open_ ∷ at (t.Sign s.CloseParenthesis) close ∷ ts) rest
    virtual_destructor : {kind : NameKind} {word : ContextualWord} {body : Block} {last : Span} {virtual_ tilde k open_ close : Token} {ts rest : List Classified}
        → letters k.kind ≡ own → ReadsBlock body last ts rest
        → ReadsMember (m.Destructor true (identifier k) body (across virtual_.span last)) (at (t.Word w.Virtual) virtual_ ∷ at (t.Sign s.Tilde) tilde ∷ at (t.Name kind word) k ∷ at (t.Sign s.OpenParenthesis) open_ ∷ at (t.Sign s.CloseParenthesis) close ∷ ts) rest
    finaliser : {kind : NameKind} {word : ContextualWord} {body : Block} {last : Span} {exclamation k open_ close : Token} {ts rest : List Classified}
        → letters k.kind ≡ own → ReadsBlock body last ts rest
        → ReadsMember (m.Finaliser (identifier k) body (across exclamation.span last)) (at (t.Sign s.Exclamation) exclamation ∷ at (t.Name kind word) k ∷ at (t.Sign s.OpenParenthesis) open_ ∷ at (t.Sign s.CloseParenthesis) close ∷ ts) rest
    property : {storage : Storage} {kind : NameKind} {of : TypeName} {name : PropertyName} {accessors : List Accessor} {first span last : Span} {k : Token} {ts us vs ws rest : List Classified}
        → ReadsStorage storage first k.span ts (at (t.Name kind c.Property) k ∷ us) → ReadsType of span us vs → ReadsPropertyName name vs ws → ReadsPropertyBody accessors last ws rest
        → ReadsMember (m.Property storage of name accessors (across first last)) ts rest

  -- { member }
  pub data ReadsMembers : List Member → List Classified → List Classified → Type 0 where
    none : {rest : List Classified} → ReadsMembers [] rest rest
    next : {one : Member} {members : List Member} {ts us rest : List Classified} → ReadsMember one ts us → ReadsMembers members us rest → ReadsMembers (one ∷ members) ts rest
