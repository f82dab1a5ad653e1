-- What the parts of classes, functions and what else stands outside classes read.
use Rattle.std.proofs.Common.{◌≡◌, List, [], ◌∷◌, ◌++◌}
use Rattle.cc_base.specs.declared.text.Span.{Span}
use Rattle.cc_tree.specs.declared.token.Token.{Token}
use Rattle.cc_tree.specs.declared.token.TokenKind.{TokenKind}
use Rattle.cc_tree.specs.declared.identifier.Identifier.{Identifier}
use Rattle.cc_tree.specs.declared.terminal.Terminal.{Terminal}
use Rattle.cc_tree.specs.declared.terminal.Terminal.TheVariants as t
use Rattle.cc_tree.specs.declared.terminal.NameKind.{NameKind}
use Rattle.cc_tree.specs.declared.terminal.NameKind.TheVariants as n
use Rattle.cc_tree.specs.declared.terminal.ContextualWord.{ContextualWord}
use Rattle.cc_tree.specs.declared.terminal.ContextualWord.TheVariants as c
use Rattle.cc_tree.specs.declared.terminal.ReservedWord.{ReservedWord}
use Rattle.cc_tree.specs.declared.terminal.ReservedWord.TheVariants as w
use Rattle.cc_tree.specs.declared.terminal.Sign.TheVariants as s
use Rattle.cc_tree.specs.declared.class.Base.{Base}
use Rattle.cc_tree.specs.declared.class.Class.{Class}
use Rattle.cc_tree.specs.declared.class.ClassModifier.{ClassModifier}
use Rattle.cc_tree.specs.declared.class.Enumeration.{Enumeration}
use Rattle.cc_tree.specs.declared.class.Enumerator.{Enumerator}
use Rattle.cc_tree.specs.declared.unit.Function.{Function}
use Rattle.cc_tree.specs.declared.unit.Outer.{Outer}
use Rattle.cc_tree.specs.declared.unit.TemplateParameter.{TemplateParameter}
use Rattle.cc_tree.specs.Spans.{identifier}
use Rattle.cc_tree.specs.Terminals.{Classified, at, Id}
use Rattle.cc_tree.specs.GrammarTypes.{ReadsType}
use Rattle.cc_tree.specs.GrammarUnit.{IsAggregate, IsVisibility, ReadsKey, ReadsClassModifiers, ReadsBase, ReadsBaseList, ReadsBases, ReadsClass, ReadsEnumerator, ReadsEnumerators, ReadsEnum, ReadsFunction, ReadsTemplateParameters, ReadsNamespace, ReadsOuter, ReadsOuters}
use Rattle.cc_table.specs.declared.symbols.Sort.{Sort}
use Rattle.cc_table.specs.declared.symbols.Sort.TheVariants as o
use Rattle.cc_pushdown.specs.declared.value.Node.{Node}
use Rattle.cc_pushdown.specs.declared.value.Value.{Value}
use Rattle.cc_pushdown.specs.declared.value.Value.TheVariants as v
use Rattle.cc_pushdown.specs.Values.{below, top_mark, top_name, top_key, top_type_name, top_template_parameters}
use Rattle.cc_pushdown.specs.Words.{aggregate_of, visibility_of}

-- the words that begin a class's key
abbrev pub IsKeyWord : ContextualWord → Type 0
IsKeyWord c.Ref = Unit {0}
IsKeyWord c.Value = Unit {0}
IsKeyWord c.Interface = Unit {0}
IsKeyWord _ = ⊥

-- `class` or `struct`
pub data TakesAggregate : ReservedWord → List Classified → Token → List Classified → Type 0 where
  takes_aggregate : {word : ReservedWord} {k : Token} {rest : List Classified} → IsAggregate word (aggregate_of (t.Word word)) → TakesAggregate word (at (t.Word word) k ∷ rest) k rest

-- What follows the parameters of a template, whose word and parameters are the topmost values.
abbrev pub FollowsTemplate : List Value → Outer → Span → List Classified → List Classified → Type 0
FollowsTemplate vs one span ts rest = (kind : TokenKind) (less greater : Token) (us : List Classified) → ReadsTemplateParameters (top_template_parameters vs) us (at (t.Sign s.Greater) greater ∷ ts)
    → ReadsOuter one span (at (t.Word w.Template) (record { kind = kind; span = (top_mark (below vs)).span }) ∷ at (t.Sign s.Less) less ∷ us) rest

abbrev pub OuterPart : Sort → List Value → List Classified → (List Value → List Classified → Type 0) → Type 0
OuterPart o.UnitRest (v.Outers first ∷ vs) ts K = (all : Node (List Outer)) × (rest : List Classified) × ((us : List Classified) → ReadsOuters first.tree first.span us ts → ReadsOuters all.tree all.span us rest) × K (v.Outers all ∷ vs) rest
OuterPart o.Outers (v.Outers first ∷ vs) ts K = (all : Node (List Outer)) × (rest : List Classified) × ((us : List Classified) → ReadsOuters first.tree first.span us ts → ReadsOuters all.tree all.span us rest) × K (v.Outers all ∷ vs) rest
OuterPart o.Outer vs ts K = (one : Outer) × (span : Span) × (rest : List Classified) × ReadsOuter one span ts rest × K (v.Outer (record { tree = one; span = span }) ∷ vs) rest
OuterPart o.NamespaceNames (v.Names first ∷ vs) ts K = (names : List Identifier) × (rest : List Classified)
    × ((id : Terminal) (k : Token) → Id id → ReadsNamespace (identifier k ∷ names) (at id k ∷ ts) rest) × K (v.Names (first ++ names) ∷ vs) rest
OuterPart o.FunctionRest vs ts K = (one : Function) × (rest : List Classified)
    × ((us : List Classified) → ReadsType (top_type_name vs).tree (top_type_name vs).span us ts → ReadsFunction one us rest) × K (v.Function one ∷ below vs) rest
OuterPart o.KeyOrNamespace vs ts K = (one : Outer) × (span : Span) × (rest : List Classified)
    × ((k : Token) → identifier k ≡ (top_name vs).identifier → Id (t.Name (top_name vs).kind (top_name vs).word) → IsKeyWord (top_name vs).word
    → ReadsOuter one span (at (t.Name (top_name vs).kind (top_name vs).word) k ∷ ts) rest)
    × K (v.Outer (record { tree = one; span = span }) ∷ below vs) rest
OuterPart o.KeyOrType vs ts K = (one : Outer) × (span : Span) × (rest : List Classified)
    × ((k : Token) → identifier k ≡ (top_name vs).identifier → IsKeyWord (top_name vs).word → ReadsOuter one span (at (t.Name n.Type (top_name vs).word) k ∷ ts) rest)
    × K (v.Outer (record { tree = one; span = span }) ∷ below vs) rest
OuterPart o.ForwardOrClass vs ts K = (one : Outer) × (span : Span) × (rest : List Classified)
    × ((kind : NameKind) (word : ContextualWord) (k : Token) (us : List Classified) → identifier k ≡ (top_name vs).identifier → ReadsKey (top_key (below vs)) us (at (t.Name kind word) k ∷ ts) → ReadsOuter one span us rest)
    × K (v.Outer (record { tree = one; span = span }) ∷ below (below vs)) rest
OuterPart o.ClassRest vs ts K = (one : Class) × (rest : List Classified)
    × ((kind : NameKind) (word : ContextualWord) (k : Token) (us : List Classified) → identifier k ≡ (top_name vs).identifier → ReadsKey (top_key (below vs)) us (at (t.Name kind word) k ∷ ts) → ReadsClass one us rest)
    × K (v.Class one ∷ below (below vs)) rest
OuterPart o.ClassModifiers (v.ClassModifiers first ∷ vs) ts K = (items : List ClassModifier) × (rest : List Classified) × ReadsClassModifiers items ts rest × K (v.ClassModifiers (first ++ items) ∷ vs) rest
OuterPart o.Bases vs ts K = (items : List Base) × (rest : List Classified) × ReadsBases items ts rest × K (v.Bases items ∷ vs) rest
OuterPart o.Base vs ts K = (one : Base) × (rest : List Classified) × ReadsBase one ts rest × K (v.Base one ∷ vs) rest
OuterPart o.MoreBases (v.Bases first ∷ vs) ts K = (items : List Base) × (rest : List Classified)
    × ((one : Base) (us : List Classified) → ReadsBase one us ts → ReadsBaseList (one ∷ items) us rest) × K (v.Bases (first ++ items) ∷ vs) rest
OuterPart o.VisibleRest vs ts K = (one : Outer) × (span : Span) × (rest : List Classified)
    × ((word : ReservedWord) (kind : TokenKind) → IsVisibility word (visibility_of (top_mark vs).terminal) → ReadsOuter one span (at (t.Word word) (record { kind = kind; span = (top_mark vs).span }) ∷ ts) rest)
    × K (v.Outer (record { tree = one; span = span }) ∷ below vs) rest
OuterPart o.TemplateRest vs ts K = (one : Outer) × (span : Span) × (rest : List Classified) × FollowsTemplate vs one span ts rest × K (v.Outer (record { tree = one; span = span }) ∷ below (below vs)) rest
OuterPart o.TemplateKeyOrNamespace vs ts K = (one : Outer) × (span : Span) × (rest : List Classified)
    × ((k : Token) → identifier k ≡ (top_name vs).identifier → Id (t.Name (top_name vs).kind (top_name vs).word) → IsKeyWord (top_name vs).word
    → FollowsTemplate (below vs) one span (at (t.Name (top_name vs).kind (top_name vs).word) k ∷ ts) rest)
    × K (v.Outer (record { tree = one; span = span }) ∷ below (below (below vs))) rest
OuterPart o.TemplateKeyOrType vs ts K = (one : Outer) × (span : Span) × (rest : List Classified)
    × ((k : Token) → identifier k ≡ (top_name vs).identifier → IsKeyWord (top_name vs).word → FollowsTemplate (below vs) one span (at (t.Name n.Type (top_name vs).word) k ∷ ts) rest)
    × K (v.Outer (record { tree = one; span = span }) ∷ below (below (below vs))) rest
OuterPart o.AggregateWord vs ts K = (word : ReservedWord) × (k : Token) × (rest : List Classified) × TakesAggregate word ts k rest × K (v.Mark (record { terminal = t.Word word; span = k.span }) ∷ vs) rest
OuterPart o.Enumeration vs ts K = (one : Enumeration) × (rest : List Classified) × ReadsEnum one ts rest × K (v.Enumeration one ∷ vs) rest
OuterPart o.Enumerators (v.Enumerators first ∷ vs) ts K = (items : List Enumerator) × (rest : List Classified) × ReadsEnumerators items ts rest × K (v.Enumerators (first ++ items) ∷ vs) rest
OuterPart o.MoreEnumerators (v.Enumerators first ∷ vs) ts K = (items : List Enumerator) × (rest : List Classified)
    × ((one : Enumerator) (us : List Classified) → ReadsEnumerator one us ts → ReadsEnumerators (one ∷ items) us rest) × K (v.Enumerators (first ++ items) ∷ vs) rest
OuterPart o.Enumerator vs ts K = (one : Enumerator) × (rest : List Classified) × ReadsEnumerator one ts rest × K (v.Enumerator one ∷ vs) rest
OuterPart o.EnumeratorRest vs ts K = (one : Enumerator) × (rest : List Classified)
    × ((id : Terminal) (k : Token) → Id id → identifier k ≡ (top_name vs).identifier → ReadsEnumerator one (at id k ∷ ts) rest) × K (v.Enumerator one ∷ below vs) rest
OuterPart o.EnumeratorNumber vs ts K = (one : Enumerator) × (rest : List Classified)
    × ((id : Terminal) (k equals : Token) → Id id → identifier k ≡ (top_name vs).identifier → ReadsEnumerator one (at id k ∷ at (t.Sign s.Assign) equals ∷ ts) rest) × K (v.Enumerator one ∷ below vs) rest
OuterPart o.TemplateParameter vs ts K = (one : TemplateParameter) × (rest : List Classified) × ReadsTemplateParameters (one ∷ []) ts rest × K (v.TemplateParameter one ∷ vs) rest
OuterPart o.MoreTemplateParameters (v.TemplateParameters first ∷ vs) ts K = (items : List TemplateParameter) × (rest : List Classified)
    × ((one : TemplateParameter) (us : List Classified) → ReadsTemplateParameters (one ∷ []) us ts → ReadsTemplateParameters (one ∷ items) us rest) × K (v.TemplateParameters (first ++ items) ∷ vs) rest
OuterPart _ vs ts K = Unit {0}
