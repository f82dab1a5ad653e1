-- What the parts of functions and of members of classes read.
use Rattle.std.specs.Prelude.{◌≡◌, ℕ, List, [], ◌∷◌, ◌++◌, Option, Some, None}
use Rattle.cc_base.specs.declared.text.Span.{Span}
use Rattle.cc_tree.specs.declared.token.Token.{Token}
use Rattle.cc_tree.specs.declared.identifier.Identifier.{Identifier}
use Rattle.cc_tree.specs.declared.terminal.Terminal.{Terminal}
use Rattle.cc_tree.specs.declared.terminal.Terminal.TheVariants as t
use Rattle.cc_tree.specs.declared.terminal.NameKind.{NameKind}
use Rattle.cc_tree.specs.declared.terminal.NameKind.TheVariants as n
use Rattle.cc_tree.specs.declared.terminal.ContextualWord.{ContextualWord}
use Rattle.cc_tree.specs.declared.terminal.ContextualWord.TheVariants as c
use Rattle.cc_tree.specs.declared.terminal.ReservedWord.TheVariants as w
use Rattle.cc_tree.specs.declared.terminal.Sign.TheVariants as s
use Rattle.cc_tree.specs.declared.statement.Block.{Block}
use Rattle.cc_tree.specs.declared.member.Member.{Member}
use Rattle.cc_tree.specs.declared.member.PropertyName.{PropertyName}
use Rattle.cc_tree.specs.declared.member.Accessor.{Accessor}
use Rattle.cc_tree.specs.declared.member.Parameter.{Parameter}
use Rattle.cc_tree.specs.declared.member.Modifier.{Modifier}
use Rattle.cc_tree.specs.declared.member.Overridden.{Overridden}
use Rattle.cc_tree.specs.declared.member.NamedFunction.{NamedFunction}
use Rattle.cc_tree.specs.declared.member.MemberInitializer.{MemberInitializer}
use Rattle.cc_tree.specs.Terminals.{Classified, at, Id, letters}
use Rattle.cc_tree.specs.Spans.{across, identifier}
use Rattle.cc_tree.specs.GrammarTypes.{ReadsType, ReadsNamed}
use Rattle.cc_tree.specs.GrammarMembers.{ReadsParameter, ReadsParameterList, ReadsModifiers, IsAccessor, ReadsNamedFunction, ReadsNamedFunctions, ReadsOverridden, ReadsBody, ReadsAccessor, ReadsAccessors, ReadsInitializer, ReadsInitializerList, ReadsInitializers, ReadsIds, ReadsPropertyName, ReadsMember, ReadsMembers}
use Rattle.cc_table.specs.declared.symbols.Sort.{Sort}
use Rattle.cc_table.specs.declared.symbols.Sort.TheVariants as o
use Rattle.cc_pushdown.specs.declared.value.Node.{Node}
use Rattle.cc_pushdown.specs.declared.value.Mark.{Mark}
use Rattle.cc_pushdown.specs.declared.value.NameToken.{NameToken}
use Rattle.cc_pushdown.specs.declared.value.Value.{Value}
use Rattle.cc_pushdown.specs.declared.value.Value.TheVariants as v
use Rattle.cc_pushdown.specs.Values.{below, top_head, top_name, top_parameter_list, top_property_name, top_property_type, top_storage, top_type_name}
use Rattle.cc_pushdown.specs.Words.{accessor_of}
use Rattle.cc_pushdown.specs.Build.{grown, grown_from}
use Rattle.cc_grammar_laws.proofs.OuterParts.{OuterPart}

-- a span up to the end of what follows it, where something does
abbrev pub stretched : Option Span → Span → Span
stretched None span = span
stretched (Some last) span = across span last

-- the span of a list with what follows it, where something does
abbrev pub reaching : {A : Type 0} → Node (List A) → Option Span → Span
reaching first None = first.span
reaching first (Some last) = grown first last

-- some parameters behind those that stand, or none
pub data GrowsParameters : Node (List Parameter) → Node (List Parameter) → List Classified → List Classified → Type 0 where
  nothing : {first : Node (List Parameter)} {rest : List Classified} → GrowsParameters first first rest rest
  listed : {first : Node (List Parameter)} {items : List Parameter} {span : Span} {ts rest : List Classified} → ReadsParameterList items span ts rest
      → GrowsParameters first (record { tree = first.tree ++ items; span = grown_from first.tree first.span span }) ts rest

-- a comma and others of a list behind its first, or nothing; and how far they reach
pub data MoreParameters : List Parameter → Option Span → List Classified → List Classified → Type 0 where
  nothing : {rest : List Classified} → MoreParameters [] None rest rest
  comma : {items : List Parameter} {span : Span} {k : Token} {ts rest : List Classified} → ReadsParameterList items span ts rest → MoreParameters items (Some span) (at (t.Sign s.Comma) k ∷ ts) rest

pub data MoreNamedFunctions : List NamedFunction → Option Span → List Classified → List Classified → Type 0 where
  nothing : {rest : List Classified} → MoreNamedFunctions [] None rest rest
  comma : {items : List NamedFunction} {span : Span} {k : Token} {ts rest : List Classified} → ReadsNamedFunctions items span ts rest → MoreNamedFunctions items (Some span) (at (t.Sign s.Comma) k ∷ ts) rest

pub data MoreInitializers : List MemberInitializer → List Classified → List Classified → Type 0 where
  nothing : {rest : List Classified} → MoreInitializers [] rest rest
  comma : {items : List MemberInitializer} {k : Token} {ts rest : List Classified} → ReadsInitializerList items ts rest → MoreInitializers items (at (t.Sign s.Comma) k ∷ ts) rest

pub data MoreIds : List Identifier → List Classified → List Classified → Type 0 where
  nothing : {rest : List Classified} → MoreIds [] rest rest
  comma : {names : List Identifier} {k : Token} {ts rest : List Classified} → ReadsIds names ts rest → MoreIds names (at (t.Sign s.Comma) k ∷ ts) rest

-- `get` or `set`
pub data TakesAccessor : NameKind → ContextualWord → Token → List Classified → List Classified → Type 0 where
  accessor : {kind : NameKind} {word : ContextualWord} {k : Token} {rest : List Classified} → IsAccessor (t.Name kind word) (accessor_of word) → TakesAccessor kind word k (at (t.Name kind word) k ∷ rest) rest

-- a name with these letters
pub data TakesOwn : List ℕ → NameKind → ContextualWord → Token → List Classified → List Classified → Type 0 where
  own : {letters_ : List ℕ} {kind : NameKind} {word : ContextualWord} {k : Token} {rest : List Classified} → letters k.kind ≡ letters_ → TakesOwn letters_ kind word k (at (t.Name kind word) k ∷ rest) rest

-- an ID
pub data TakesId : NameKind → ContextualWord → Token → List Classified → List Classified → Type 0 where
  id : {kind : NameKind} {word : ContextualWord} {k : Token} {rest : List Classified} → Id (t.Name kind word) → TakesId kind word k (at (t.Name kind word) k ∷ rest) rest

abbrev pub static_mark : Token → Mark
static_mark k = record { terminal = t.Word w.Static; span = k.span }

abbrev pub virtual_mark : Token → Mark
virtual_mark k = record { terminal = t.Word w.Virtual; span = k.span }

-- `static` or nothing, by the value that is kept of it
pub data HoldsStatic : Option Mark → List Classified → List Classified → Type 0 where
  nothing : {rest : List Classified} → HoldsStatic None rest rest
  static : {k : Token} {rest : List Classified} → HoldsStatic (Some (static_mark k)) (at (t.Word w.Static) k ∷ rest) rest

-- `static`, `virtual` or nothing
pub data Holds : Option Mark → List Classified → List Classified → Type 0 where
  nothing : {rest : List Classified} → Holds None rest rest
  static : {k : Token} {rest : List Classified} → Holds (Some (static_mark k)) (at (t.Word w.Static) k ∷ rest) rest
  virtual : {k : Token} {rest : List Classified} → Holds (Some (virtual_mark k)) (at (t.Word w.Virtual) k ∷ rest) rest

-- the value of a name
abbrev pub name_token : NameKind → ContextualWord → Token → NameToken
name_token kind word k = record { kind = kind; word = word; identifier = identifier k }

-- the letters of the class's name, on the stack from its head
abbrev pub class_letters : List Value → List ℕ
class_letters vs = (top_head vs).name.name

abbrev pub MemberPart : Sort → List Value → List Classified → (List Value → List Classified → Type 0) → Type 0
MemberPart o.Parameters (v.ParameterList first ∷ vs) ts K = (list : Node (List Parameter)) × (rest : List Classified) × GrowsParameters first list ts rest × K (v.ParameterList list ∷ vs) rest
MemberPart o.ParameterName vs ts K = (one : Parameter) × (span : Span) × (rest : List Classified)
    × ((us : List Classified) → ReadsType (top_type_name vs).tree (top_type_name vs).span us ts → ReadsParameter one span us rest)
    × K (v.ParameterList (record { tree = (top_parameter_list (below vs)).tree ++ one ∷ []; span = grown (top_parameter_list (below vs)) span }) ∷ below (below vs)) rest
MemberPart o.MoreParameters (v.ParameterList first ∷ vs) ts K = (items : List Parameter) × (last : Option Span) × (rest : List Classified)
    × MoreParameters items last ts rest × K (v.ParameterList (record { tree = first.tree ++ items; span = reaching first last }) ∷ vs) rest
MemberPart o.Modifiers (v.Modifiers first ∷ vs) ts K = (items : List Modifier) × (rest : List Classified) × ReadsModifiers items ts rest × K (v.Modifiers (first ++ items) ∷ vs) rest
MemberPart o.Overriding vs ts K = (one : Option Overridden) × (rest : List Classified) × ReadsOverridden one ts rest × K (v.Overridden one ∷ vs) rest
MemberPart o.Overridden vs ts K = (one : Option Overridden) × (rest : List Classified) × ((equals : Token) → ReadsOverridden one (at (t.Sign s.Assign) equals ∷ ts) rest) × K (v.Overridden one ∷ vs) rest
MemberPart o.NamedFunction vs ts K = (one : NamedFunction) × (rest : List Classified) × ReadsNamedFunction one ts rest × K (v.NamedFunction one ∷ vs) rest
MemberPart o.NamedAccessor vs ts K = (one : NamedFunction) × (rest : List Classified)
    × ((us : List Classified) (scope k : Token) (id : Terminal) → ReadsNamed (top_type_name (below vs)).tree (top_type_name (below vs)).span us (at (t.Sign s.Scope) scope ∷ at id k ∷ ts) → Id id → identifier k ≡ (top_name vs).identifier → ReadsNamedFunction one us rest)
    × K (v.NamedFunction one ∷ below (below vs)) rest
MemberPart o.MoreNamedFunctions (v.NamedFunctions first ∷ vs) ts K = (items : List NamedFunction) × (last : Option Span) × (rest : List Classified)
    × MoreNamedFunctions items last ts rest × K (v.NamedFunctions (record { tree = first.tree ++ items; span = reaching first last }) ∷ vs) rest
MemberPart o.Body vs ts K = (one : Option Block) × (span : Span) × (rest : List Classified) × ReadsBody one span ts rest × K (v.Body (record { tree = one; span = span }) ∷ vs) rest
MemberPart o.AccessorWord vs ts K = (kind : NameKind) × (word : ContextualWord) × (k : Token) × (rest : List Classified) × TakesAccessor kind word k ts rest × K (v.Name (name_token kind word k) ∷ vs) rest
MemberPart o.Accessor vs ts K = (one : Accessor) × (rest : List Classified) × ReadsAccessor one ts rest × K (v.Accessor one ∷ vs) rest
MemberPart o.Accessors (v.Accessors first ∷ vs) ts K = (items : List Accessor) × (rest : List Classified) × ReadsAccessors items ts rest × K (v.Accessors (first ++ items) ∷ vs) rest
MemberPart o.Initializers vs ts K = (items : List MemberInitializer) × (rest : List Classified) × ReadsInitializers items ts rest × K (v.Initializers items ∷ vs) rest
MemberPart o.MoreInitializers (v.Initializers first ∷ vs) ts K = (items : List MemberInitializer) × (rest : List Classified) × MoreInitializers items ts rest × K (v.Initializers (first ++ items) ∷ vs) rest
MemberPart o.Initializer vs ts K = (one : MemberInitializer) × (rest : List Classified) × ReadsInitializer one ts rest × K (v.Initializer one ∷ vs) rest
MemberPart o.InitializerName vs ts K = (one : MemberInitializer) × (rest : List Classified)
    × ((id : Terminal) (k : Token) → Id id → identifier k ≡ (top_name vs).identifier → ReadsInitializer one (at id k ∷ ts) rest) × K (v.Initializer one ∷ below vs) rest
MemberPart o.OwnName vs ts K = (kind : NameKind) × (word : ContextualWord) × (k : Token) × (rest : List Classified)
    × TakesOwn (class_letters (below (below (below vs)))) kind word k ts rest × K (v.Name (name_token kind word k) ∷ vs) rest
MemberPart o.Members (v.Members first ∷ vs) ts K = (items : List Member) × (rest : List Classified) × ReadsMembers (class_letters vs) items ts rest × K (v.Members (first ++ items) ∷ vs) rest
MemberPart o.Member vs ts K = (one : Member) × (rest : List Classified) × ReadsMember (class_letters (below vs)) one ts rest × K (v.Member one ∷ vs) rest
-- a member behind `virtual`, behind `static`, or with neither of them
MemberPart o.VirtualStart vs ts K = (one : Member) × (rest : List Classified)
    × ((k : Token) → top_storage vs ≡ Some (virtual_mark k) → ReadsMember (class_letters (below (below vs))) one (at (t.Word w.Virtual) k ∷ ts) rest) × K (v.Member one ∷ below vs) rest
MemberPart o.VirtualMember vs ts K = (one : Member) × (rest : List Classified)
    × ((k : Token) → top_storage vs ≡ Some (virtual_mark k) → ReadsMember (class_letters (below (below vs))) one (at (t.Word w.Virtual) k ∷ ts) rest) × K (v.Member one ∷ below vs) rest
MemberPart o.StaticMember vs ts K = (one : Member) × (rest : List Classified)
    × ((k : Token) → top_storage vs ≡ Some (static_mark k) → ReadsMember (class_letters (below (below vs))) one (at (t.Word w.Static) k ∷ ts) rest) × K (v.Member one ∷ below vs) rest
MemberPart o.MemberStart vs ts K = (one : Member) × (rest : List Classified) × (top_storage vs ≡ None → ReadsMember (class_letters (below (below vs))) one ts rest) × K (v.Member one ∷ below vs) rest
MemberPart o.MemberRest vs ts K = (one : Member) × (rest : List Classified) × (top_storage vs ≡ None → ReadsMember (class_letters (below (below vs))) one ts rest) × K (v.Member one ∷ below vs) rest
-- What was read as a type or a property is put back, so that nothing is taken; so are the words before it.
MemberPart o.TypeOrProperty vs ts K = K vs ts
MemberPart o.OwnTypeEnd (v.Name name ∷ vs) ts K = (word : ContextualWord) (k : Token) → name ≡ name_token n.Type word k → letters k.kind ≡ class_letters (below (below vs)) → K vs (at (t.Name n.Type word) k ∷ ts)
MemberPart o.OwnNamespaceEnd (v.Name name ∷ vs) ts K = (kind : NameKind) (word : ContextualWord) (k : Token) → Id (t.Name kind word) → name ≡ name_token kind word k → letters k.kind ≡ class_letters (below (below vs))
    → K vs (at (t.Name kind word) k ∷ ts)
MemberPart o.OwnPropertyTypeEnd (v.Name name ∷ vs) ts K = (k : Token) → name ≡ name_token n.Type c.Property k → letters k.kind ≡ class_letters (below (below vs)) → K vs (at (t.Name n.Type c.Property) k ∷ ts)
MemberPart o.OwnPropertyNamespaceEnd (v.Name name ∷ vs) ts K = (kind : NameKind) (k : Token) → Id (t.Name kind c.Property) → name ≡ name_token kind c.Property k → letters k.kind ≡ class_letters (below (below vs))
    → K vs (at (t.Name kind c.Property) k ∷ ts)
MemberPart o.PropertyOrType (v.Name name ∷ vs) ts K = (k : Token) → name ≡ name_token n.Type c.Property k → K vs (at (t.Name n.Type c.Property) k ∷ ts)
MemberPart o.PropertyTypeOrName (v.Name name ∷ v.Name property ∷ vs) ts K = (kind : NameKind) (word : ContextualWord) (k l : Token) → Id (t.Name kind word) → name ≡ name_token kind word l → property ≡ name_token n.Type c.Property k
    → K vs (at (t.Name n.Type c.Property) k ∷ at (t.Name kind word) l ∷ ts)
MemberPart o.PropertyOrNamespace (v.Name name ∷ vs) ts K = (kind : NameKind) (k : Token) → Id (t.Name kind c.Property) → name ≡ name_token kind c.Property k → K vs (at (t.Name kind c.Property) k ∷ ts)
-- the rest of a member behind its type, behind its type and its name, and behind a property's type and name
MemberPart o.MemberName vs ts K = (one : Member) × (rest : List Classified)
    × ((own : List ℕ) (us ws : List Classified) → HoldsStatic (top_storage (below vs)) us ws → ReadsType (top_type_name vs).tree (top_type_name vs).span ws ts → ReadsMember own one us rest) × K (v.Member one ∷ below (below vs)) rest
MemberPart o.FieldsOrFunction vs ts K = (one : Member) × (rest : List Classified)
    × ((own : List ℕ) (us ws : List Classified) (id : Terminal) (k : Token) → HoldsStatic (top_storage (below (below vs))) us ws → ReadsType (top_type_name (below vs)).tree (top_type_name (below vs)).span ws (at id k ∷ ts)
    → Id id → identifier k ≡ (top_name vs).identifier → ReadsMember own one us rest)
    × K (v.Member one ∷ below (below (below vs))) rest
MemberPart o.PropertyBody vs ts K = (one : Member) × (rest : List Classified)
    × ((own : List ℕ) (us xs ys : List Classified) (kind : NameKind) (k : Token) (span : Span) → Holds (top_storage (below (below vs))) us (at (t.Name kind c.Property) k ∷ xs) → k.span ≡ (top_property_type (below vs)).span
    → ReadsType (top_property_type (below vs)).tree span xs ys → ReadsPropertyName (top_property_name vs) ys ts → ReadsMember own one us rest)
    × K (v.Member one ∷ below (below (below vs))) rest
MemberPart o.VirtualName vs ts K = (kind : NameKind) × (word : ContextualWord) × (k : Token) × (rest : List Classified) × TakesId kind word k ts rest × K (v.Name (name_token kind word k) ∷ vs) rest
MemberPart o.FieldNames (v.Names first ∷ vs) ts K = (names : List Identifier) × (rest : List Classified) × MoreIds names ts rest × K (v.Names (first ++ names) ∷ vs) rest
MemberPart o.PropertyName vs ts K = (one : PropertyName) × (rest : List Classified) × ReadsPropertyName one ts rest × K (v.PropertyName one ∷ vs) rest
MemberPart sort vs ts K = OuterPart sort vs ts K
