-- How a whole source is spelled (ECMA-372, 10, 20 to 25 and 30), and what begins one.
use Rattle.std.specs.Prelude.{◌≡◌, ℕ, List, [], ◌∷◌, ◌++◌, Option, Some, None, Bool, true, false}
use Rattle.cc_base.specs.declared.text.Span.{Span}
use Rattle.cc_tree.specs.declared.token.Token.{Token}
use Rattle.cc_tree.specs.declared.identifier.Identifier.{Identifier}
use Rattle.cc_tree.specs.declared.terminal.Terminal.{Terminal}
use Rattle.cc_tree.specs.declared.terminal.Terminal.TheVariants as t
use Rattle.cc_tree.specs.declared.terminal.NameKind.{NameKind}
use Rattle.cc_tree.specs.declared.terminal.NameKind.TheVariants as n
use Rattle.cc_tree.specs.declared.terminal.ContextualWord.{ContextualWord}
use Rattle.cc_tree.specs.declared.terminal.ContextualWord.TheVariants as c
use Rattle.cc_tree.specs.declared.terminal.ReservedWord.{ReservedWord}
use Rattle.cc_tree.specs.declared.terminal.ReservedWord.TheVariants as w
use Rattle.cc_tree.specs.declared.terminal.Sign.{Sign}
use Rattle.cc_tree.specs.declared.terminal.Sign.TheVariants as s
use Rattle.cc_tree.specs.declared.token.Suffix.{Suffix}
use Rattle.cc_tree.specs.declared.token.Radix.{Radix}
use Rattle.cc_tree.specs.declared.token.TokenKind.TheVariants as token_kind
use Rattle.cc_tree.specs.declared.type_name.TypeName.{TypeName}
use Rattle.cc_tree.specs.declared.statement.Block.{Block}
use Rattle.cc_tree.specs.declared.member.Parameters.{Parameters}
use Rattle.cc_tree.specs.declared.member.Member.{Member}
use Rattle.cc_tree.specs.declared.class.ClassWord.{ClassWord}
use Rattle.cc_tree.specs.declared.class.ClassWord.TheVariants as class_word
use Rattle.cc_tree.specs.declared.class.AggregateWord.{AggregateWord}
use Rattle.cc_tree.specs.declared.class.AggregateWord.TheVariants as aggregate
use Rattle.cc_tree.specs.declared.class.ClassKey.{ClassKey}
use Rattle.cc_tree.specs.declared.class.ClassModifier.{ClassModifier}
use Rattle.cc_tree.specs.declared.class.ClassModifier.TheVariants as modifier
use Rattle.cc_tree.specs.declared.class.Class.{Class}
use Rattle.cc_tree.specs.declared.class.Base.{Base}
use Rattle.cc_tree.specs.declared.class.Enumeration.{Enumeration}
use Rattle.cc_tree.specs.declared.class.Enumerator.{Enumerator}
use Rattle.cc_tree.specs.declared.class.EnumeratorValue.{EnumeratorValue}
use Rattle.cc_tree.specs.declared.unit.Unit as unit
use Rattle.cc_tree.specs.declared.unit.Visibility.{Visibility}
use Rattle.cc_tree.specs.declared.unit.Visibility.TheVariants as visibility
use Rattle.cc_tree.specs.declared.unit.Outer.{Outer}
use Rattle.cc_tree.specs.declared.unit.Outer.TheVariants as o
use Rattle.cc_tree.specs.declared.unit.Template.{Template}
use Rattle.cc_tree.specs.declared.unit.Template.TheVariants as template
use Rattle.cc_tree.specs.declared.unit.ParameterWord.{ParameterWord}
use Rattle.cc_tree.specs.declared.unit.ParameterWord.TheVariants as parameter
use Rattle.cc_tree.specs.declared.unit.TemplateParameter.{TemplateParameter}
use Rattle.cc_tree.specs.declared.unit.Function.{Function}
use Rattle.cc_tree.specs.Terminals.{Names, Classified, at, classify, Id, letters}
use Rattle.cc_tree.specs.Spans.{across, identifier}
use Rattle.cc_tree.specs.GrammarTypes.{ReadsType, ReadsNamed}
use Rattle.cc_tree.specs.GrammarExpressions.{IsNumber}
use Rattle.cc_tree.specs.GrammarMembers.{ReadsParameters, ReadsBody, ReadsMembers}

pub data IsClassWord : ContextualWord → ClassWord → Type 0 where
  ref : IsClassWord c.Ref class_word.Ref
  value : IsClassWord c.Value class_word.Value
  interface : IsClassWord c.Interface class_word.Interface

pub data IsAggregate : ReservedWord → AggregateWord → Type 0 where
  class_ : IsAggregate w.Class aggregate.Class
  struct : IsAggregate w.Struct aggregate.Struct

-- classkey = ( "ref" | "value" | "interface" ) ( "class" | "struct" )
pub data ReadsKey : ClassKey → List Classified → List Classified → Type 0 where
  key : {kind : NameKind} {word : ContextualWord} {second : ReservedWord} {class : ClassWord} {aggregate : AggregateWord} {k l : Token} {rest : List Classified}
      → IsClassWord word class → IsAggregate second aggregate
      → ReadsKey (record { word = class; aggregate = aggregate; span = across k.span l.span }) (at (t.Name kind word) k ∷ at (t.Word second) l ∷ rest) rest

-- { "abstract" | "sealed" }
pub data ReadsClassModifiers : List ClassModifier → List Classified → List Classified → Type 0 where
  none : {rest : List Classified} → ReadsClassModifiers [] rest rest
  abstract : {kind : NameKind} {modifiers : List ClassModifier} {k : Token} {ts rest : List Classified}
      → ReadsClassModifiers modifiers ts rest → ReadsClassModifiers (modifier.Abstract ∷ modifiers) (at (t.Name kind c.Abstract) k ∷ ts) rest
  sealed : {kind : NameKind} {modifiers : List ClassModifier} {k : Token} {ts rest : List Classified}
      → ReadsClassModifiers modifiers ts rest → ReadsClassModifiers (modifier.Sealed ∷ modifiers) (at (t.Name kind c.Sealed) k ∷ ts) rest

-- base = [ "public" ] tname
pub data ReadsBase : Base → List Classified → List Classified → Type 0 where
  base : {of : TypeName} {span : Span} {ts rest : List Classified} → ReadsNamed of span ts rest → ReadsBase (record { is_public = false; of = of; span = span }) ts rest
  public_base : {of : TypeName} {span : Span} {public : Token} {ts rest : List Classified}
      → ReadsNamed of span ts rest → ReadsBase (record { is_public = true; of = of; span = across public.span span }) (at (t.Word w.Public) public ∷ ts) rest

-- base { "," base }
pub data ReadsBaseList : List Base → List Classified → List Classified → Type 0 where
  last : {one : Base} {ts rest : List Classified} → ReadsBase one ts rest → ReadsBaseList (one ∷ []) ts rest
  more : {one : Base} {bases : List Base} {comma : Token} {ts us rest : List Classified}
      → ReadsBase one ts (at (t.Sign s.Comma) comma ∷ us) → ReadsBaseList bases us rest → ReadsBaseList (one ∷ bases) ts rest

-- [ ":" base { "," base } ]
pub data ReadsBases : List Base → List Classified → List Classified → Type 0 where
  none : {rest : List Classified} → ReadsBases [] rest rest
  some : {bases : List Base} {colon : Token} {ts rest : List Classified} → ReadsBaseList bases ts rest → ReadsBases bases (at (t.Sign s.Colon) colon ∷ ts) rest

-- class = classkey ID { "abstract" | "sealed" } [ ":" base { "," base } ] "{" { member } "}" ";"
pub data ReadsClass : Class → List Classified → List Classified → Type 0 where
  class_ : {key : ClassKey} {kind : NameKind} {word : ContextualWord} {modifiers : List ClassModifier} {bases : List Base} {members : List Member} {k open_ close semicolon : Token} {ts us vs ws rest : List Classified}
      → ReadsKey key ts (at (t.Name kind word) k ∷ us) → ReadsClassModifiers modifiers us vs → ReadsBases bases vs (at (t.Sign s.OpenBrace) open_ ∷ ws)
      → ReadsMembers (letters k.kind) members ws (at (t.Sign s.CloseBrace) close ∷ at (t.Sign s.Semicolon) semicolon ∷ rest)
      → ReadsClass (record { key = key; name = identifier k; modifiers = modifiers; bases = bases; members = members; span = across key.span semicolon.span }) ts rest

-- item = ID [ "=" [ "-" ] NUMBER ]
pub data ReadsEnumerator : Enumerator → List Classified → List Classified → Type 0 where
  alone : {id : Terminal} {k : Token} {rest : List Classified} → Id id → ReadsEnumerator (record { name = identifier k; value = None; span = k.span }) (at id k ∷ rest) rest
  numbered : {id terminal : Terminal} {value : ℕ} {suffix : Suffix} {radix : Radix} {k equals : Token} {last : Span} {rest : List Classified} → Id id → IsNumber terminal
      → ReadsEnumerator (record { name = identifier k; value = Some (record { is_negative = false; number = value }); span = across k.span last })
      (at id k ∷ at (t.Sign s.Assign) equals ∷ at terminal (record { kind = token_kind.Number value suffix radix; span = last }) ∷ rest) rest
  negative : {id terminal : Terminal} {value : ℕ} {suffix : Suffix} {radix : Radix} {k equals minus : Token} {last : Span} {rest : List Classified} → Id id → IsNumber terminal
      → ReadsEnumerator (record { name = identifier k; value = Some (record { is_negative = true; number = value }); span = across k.span last })
      (at id k ∷ at (t.Sign s.Assign) equals ∷ at (t.Sign s.Minus) minus ∷ at terminal (record { kind = token_kind.Number value suffix radix; span = last }) ∷ rest) rest

-- [ item { "," item } [ "," ] ]
pub data ReadsEnumerators : List Enumerator → List Classified → List Classified → Type 0 where
  none : {rest : List Classified} → ReadsEnumerators [] rest rest
  last : {one : Enumerator} {ts rest : List Classified} → ReadsEnumerator one ts rest → ReadsEnumerators (one ∷ []) ts rest
  more : {one : Enumerator} {items : List Enumerator} {comma : Token} {ts us rest : List Classified}
      → ReadsEnumerator one ts (at (t.Sign s.Comma) comma ∷ us) → ReadsEnumerators items us rest → ReadsEnumerators (one ∷ items) ts rest

-- enum = "enum" ( "class" | "struct" ) ID "{" [ item { "," item } [ "," ] ] "}" ";"
pub data ReadsEnum : Enumeration → List Classified → List Classified → Type 0 where
  enum_ : {second : ReservedWord} {aggregate : AggregateWord} {kind : NameKind} {word : ContextualWord} {items : List Enumerator} {enum l k open_ close semicolon : Token} {ts rest : List Classified}
      → IsAggregate second aggregate → ReadsEnumerators items ts (at (t.Sign s.CloseBrace) close ∷ at (t.Sign s.Semicolon) semicolon ∷ rest)
      → ReadsEnum (record { aggregate = aggregate; name = identifier k; items = items; span = across enum.span semicolon.span })
      (at (t.Word w.Enum) enum ∷ at (t.Word second) l ∷ at (t.Name kind word) k ∷ at (t.Sign s.OpenBrace) open_ ∷ ts) rest

-- function = type ID "(" params ")" ( block | ";" )
pub data ReadsFunction : Function → List Classified → List Classified → Type 0 where
  function_ : {result : TypeName} {id : Terminal} {parameters : Parameters} {body : Option Block} {first last : Span} {k : Token} {ts us vs rest : List Classified}
      → ReadsType result first ts (at id k ∷ us) → Id id → ReadsParameters parameters us vs → ReadsBody body last vs rest
      → ReadsFunction (record { result = result; name = identifier k; parameters = parameters; body = body; span = across first last }) ts rest

pub data IsParameterWord : ReservedWord → ParameterWord → Type 0 where
  typename : IsParameterWord w.Typename parameter.Typename
  class_ : IsParameterWord w.Class parameter.Class

-- tparam { "," tparam }, with tparam = ( "typename" | "class" ) ID
pub data ReadsTemplateParameters : List TemplateParameter → List Classified → List Classified → Type 0 where
  last : {word : ReservedWord} {introduces : ParameterWord} {kind : NameKind} {name : ContextualWord} {k l : Token} {rest : List Classified} → IsParameterWord word introduces
      → ReadsTemplateParameters (record { word = introduces; name = identifier l; span = across k.span l.span } ∷ []) (at (t.Word word) k ∷ at (t.Name kind name) l ∷ rest) rest
  more : {word : ReservedWord} {introduces : ParameterWord} {kind : NameKind} {name : ContextualWord} {parameters : List TemplateParameter} {k l comma : Token} {ts rest : List Classified}
      → IsParameterWord word introduces → ReadsTemplateParameters parameters ts rest
      → ReadsTemplateParameters (record { word = introduces; name = identifier l; span = across k.span l.span } ∷ parameters) (at (t.Word word) k ∷ at (t.Name kind name) l ∷ at (t.Sign s.Comma) comma ∷ ts) rest

-- template = "template" "<" tparam { "," tparam } ">" ( class | function )
pub data ReadsTemplate : Template → List Classified → List Classified → Type 0 where
  class_ : {parameters : List TemplateParameter} {class : Class} {k less greater : Token} {ts us rest : List Classified}
      → ReadsTemplateParameters parameters ts (at (t.Sign s.Greater) greater ∷ us) → ReadsClass class us rest
      → ReadsTemplate (template.Class parameters class (across k.span class.span)) (at (t.Word w.Template) k ∷ at (t.Sign s.Less) less ∷ ts) rest
  function_ : {parameters : List TemplateParameter} {function : Function} {k less greater : Token} {ts us rest : List Classified}
      → ReadsTemplateParameters parameters ts (at (t.Sign s.Greater) greater ∷ us) → ReadsFunction function us rest
      → ReadsTemplate (template.Function parameters function (across k.span function.span)) (at (t.Word w.Template) k ∷ at (t.Sign s.Less) less ∷ ts) rest

pub data IsVisibility : ReservedWord → Visibility → Type 0 where
  public : IsVisibility w.Public visibility.Public
  private : IsVisibility w.Private visibility.Private

-- ID { "::" ID }
pub data ReadsNamespace : List Identifier → List Classified → List Classified → Type 0 where
  last : {id : Terminal} {k : Token} {rest : List Classified} → Id id → ReadsNamespace (identifier k ∷ []) (at id k ∷ rest) rest
  more : {id : Terminal} {path : List Identifier} {k scope : Token} {ts rest : List Classified}
      → Id id → ReadsNamespace path ts rest → ReadsNamespace (identifier k ∷ path) (at id k ∷ at (t.Sign s.Scope) scope ∷ ts) rest

mutual
  -- outer = "using" "namespace" ID { "::" ID } ";" | "namespace" ID "{" { outer } "}" | [ "public" | "private" ] ( class | enum )
  --       | classkey ID ";" | template | function
  pub data ReadsOuter : Outer → Span → List Classified → List Classified → Type 0 where
    using_ : {path : List Identifier} {using namespace_ semicolon : Token} {ts rest : List Classified}
        → ReadsNamespace path ts (at (t.Sign s.Semicolon) semicolon ∷ rest)
        → ReadsOuter (o.Using path (across using.span semicolon.span)) (across using.span semicolon.span) (at (t.Word w.Using) using ∷ at (t.Word w.Namespace) namespace_ ∷ ts) rest
    namespace : {id : Terminal} {outers : List Outer} {span : Span} {namespace_ k open_ close : Token} {ts rest : List Classified}
        → Id id → ReadsOuters outers span ts (at (t.Sign s.CloseBrace) close ∷ rest)
        → ReadsOuter (o.Namespace (identifier k) outers (across namespace_.span close.span)) (across namespace_.span close.span)
        (at (t.Word w.Namespace) namespace_ ∷ at id k ∷ at (t.Sign s.OpenBrace) open_ ∷ ts) rest
    class_ : {class : Class} {ts rest : List Classified} → ReadsClass class ts rest → ReadsOuter (o.Class class) class.span ts rest
    enum_ : {enum : Enumeration} {ts rest : List Classified} → ReadsEnum enum ts rest → ReadsOuter (o.Enumeration enum) enum.span ts rest
    visible_class : {word : ReservedWord} {visible : Visibility} {class : Class} {k : Token} {ts rest : List Classified} → IsVisibility word visible → ReadsClass class ts rest
        → ReadsOuter (o.VisibleClass visible class (across k.span class.span)) (across k.span class.span) (at (t.Word word) k ∷ ts) rest
    visible_enum : {word : ReservedWord} {visible : Visibility} {enum : Enumeration} {k : Token} {ts rest : List Classified} → IsVisibility word visible → ReadsEnum enum ts rest
        → ReadsOuter (o.VisibleEnumeration visible enum (across k.span enum.span)) (across k.span enum.span) (at (t.Word word) k ∷ ts) rest
    forward : {key : ClassKey} {kind : NameKind} {word : ContextualWord} {k semicolon : Token} {ts rest : List Classified}
        → ReadsKey key ts (at (t.Name kind word) k ∷ at (t.Sign s.Semicolon) semicolon ∷ rest)
        → ReadsOuter (o.Forward key (identifier k) (across key.span semicolon.span)) (across key.span semicolon.span) ts rest
    template_class : {parameters : List TemplateParameter} {class : Class} {span : Span} {ts rest : List Classified}
        → ReadsTemplate (template.Class parameters class span) ts rest → ReadsOuter (o.Template (template.Class parameters class span)) span ts rest
    template_function : {parameters : List TemplateParameter} {function : Function} {span : Span} {ts rest : List Classified}
        → ReadsTemplate (template.Function parameters function span) ts rest → ReadsOuter (o.Template (template.Function parameters function span)) span ts rest
    function_ : {function : Function} {ts rest : List Classified} → ReadsFunction function ts rest → ReadsOuter (o.Function function) function.span ts rest

  -- { outer }, and the span from the first to the last
  pub data ReadsOuters : List Outer → Span → List Classified → List Classified → Type 0 where
    none : {rest : List Classified} → ReadsOuters [] (record { first = 0; past = 0 }) rest rest
    last : {one : Outer} {span : Span} {ts rest : List Classified} → ReadsOuter one span ts rest → ReadsOuters (one ∷ []) span ts rest
    more : {one two : Outer} {outers : List Outer} {first span : Span} {ts us rest : List Classified}
        → ReadsOuter one first ts us → ReadsOuters (two ∷ outers) span us rest → ReadsOuters (one ∷ two ∷ outers) (across first span) ts rest

-- unit = { outer }, up to the end of the tokens
abbrev pub Spells : Names → List Token → unit.Unit → Type 0
Spells names tokens tree = ReadsOuters tree.outers tree.span (classify names tokens) []

-- The tokens begin a unit over the collected names: some tokens after them complete it.
abbrev pub Front : Names → List Token → Type 0
Front names tokens = (more : List Token) × (tree : unit.Unit) × Spells names (tokens ++ more) tree
