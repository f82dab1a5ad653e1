-- Each spelling of a type leads to it.
use Rattle.std.proofs.Common.{◌≡◌, sym, ap, refl, List, [], ◌∷◌, ◌++◌, append_assoc, append-nil}
use Rattle.std.specs.Prelude.{true}
use Rattle.cc_base.specs.declared.text.Span.{Span}
use Rattle.cc_tree.specs.declared.token.Token.{Token}
use Rattle.cc_tree.specs.declared.identifier.Identifier.{Identifier}
use Rattle.cc_tree.specs.declared.terminal.Terminal.TheVariants as t
use Rattle.cc_tree.specs.declared.terminal.NameKind.TheVariants as n
use Rattle.cc_tree.specs.declared.terminal.ContextualWord.{ContextualWord}
use Rattle.cc_tree.specs.declared.terminal.ReservedWord.{ReservedWord}
use Rattle.cc_tree.specs.declared.type_name.FundamentalType.{FundamentalType}
use Rattle.cc_tree.specs.declared.type_name.FundamentalType.TheVariants as f
use Rattle.cc_tree.specs.declared.type_name.TypeName.{TypeName}
use Rattle.cc_tree.specs.declared.type_name.TypeName.TheVariants as type
use Rattle.cc_tree.specs.Terminals.{Classified, at, plain, function}
use Rattle.cc_tree.specs.Spans.{identifier}
use Rattle.cc_tree.specs.GrammarTypes as g
use Rattle.cc_tree.specs.GrammarTypes.{Fundamental, ReadsWords, ReadsPath, ReadsType, ReadsCore, ReadsNamed, ReadsTypes}
use Rattle.cc_table.specs.declared.symbols.Sort.TheVariants as o
use Rattle.cc_table.specs.declared.symbols.Action.TheVariants as a
use Rattle.cc_table.specs.declared.symbols.Symbol.{Symbol}
use Rattle.cc_table.specs.declared.symbols.Symbol.TheVariants.{Non, Act}
use Rattle.cc_table.specs.Choice.{begins_fundamental}
use Rattle.cc_pushdown.specs.declared.value.Value.{Value}
use Rattle.cc_pushdown.specs.declared.value.Value.TheVariants as v
use Rattle.cc_pushdown.specs.Machine.{At}
use Rattle.cc_grammar_laws.specs.Read.{read, Passes}
use Rattle.cc_grammar_laws.specs.Laws.{TypesAreRead}
use Rattle.cc_grammar_laws.proofs.Meets.{Meets, same, ahead, then, comes, with_values, pass}

-- what may follow a type's core, so that it ends there
abbrev pub CoreEnds : List Classified → Type 0
CoreEnds rest = Passes o.OptionalInt rest × Passes o.UnsignedRest rest × Passes o.TemplateArguments rest

abbrev pub TypeEnds : List Classified → Type 0
TypeEnds rest = CoreEnds rest × Passes o.TypeMarks rest × Passes o.HandleRest rest

no_words : {span : Span} {ts rest : List Classified} → ReadsWords [] span ts rest → ⊥
no_words p = elim p [ ]

abbrev of_fundamental : FundamentalType → Span → List Value → List Value
of_fundamental of span vs = v.Type (record { tree = type.Fundamental of span; span = span }) ∷ vs

pub fundamental_comes : {words : List ReservedWord} {of : FundamentalType} {span : Span} {ts rest : List Classified} → Fundamental words of → ReadsWords words span ts rest → CoreEnds rest
    → (more : List Symbol) (vs : List Value) → Meets (At (Non o.Fundamental ∷ more) vs (read ts)) (At more (of_fundamental of span vs) (read rest))
fundamental_comes g.void g.last h more vs = ahead (ahead same)
fundamental_comes g.bool g.last h more vs = ahead (ahead same)
fundamental_comes g.wide_char g.last h more vs = ahead (ahead same)
fundamental_comes g.signed_char (g.more g.last) h more vs = ahead (ahead (ahead (ahead same)))
fundamental_comes g.unsigned_char (g.more g.last) h more vs = ahead (ahead (ahead (ahead same)))
fundamental_comes {rest} g.short g.last h more vs = ahead (then (pass o.OptionalInt [] (λ a b c. refl) refl rest h.0 _ _) (ahead same))
fundamental_comes g.short_int (g.more g.last) h more vs = ahead (ahead (ahead (ahead same)))
fundamental_comes {rest} g.signed_short (g.more g.last) h more vs = ahead (ahead (ahead (then (pass o.OptionalInt [] (λ a b c. refl) refl rest h.0 _ _) (ahead same))))
fundamental_comes g.signed_short_int (g.more (g.more g.last)) h more vs = ahead (ahead (ahead (ahead (ahead (ahead same)))))
fundamental_comes {rest} g.unsigned_short (g.more g.last) h more vs = ahead (ahead (ahead (then (pass o.OptionalInt [] (λ a b c. refl) refl rest h.0 _ _) (ahead same))))
fundamental_comes g.unsigned_short_int (g.more (g.more g.last)) h more vs = ahead (ahead (ahead (ahead (ahead (ahead same)))))
fundamental_comes g.int g.last h more vs = ahead (ahead same)
fundamental_comes g.signed_int (g.more g.last) h more vs = ahead (ahead (ahead (ahead same)))
fundamental_comes {rest} g.unsigned g.last h more vs = ahead (then (pass o.UnsignedRest (Act (a.Fundamental f.UnsignedInt) ∷ []) (λ a b c. refl) refl rest h.1 _ _) (ahead same))
fundamental_comes g.unsigned_int (g.more g.last) h more vs = ahead (ahead (ahead (ahead same)))
fundamental_comes {rest} g.long_long (g.more g.last) h more vs = ahead (ahead (ahead (then (pass o.OptionalInt [] (λ a b c. refl) refl rest h.0 _ _) (ahead same))))
fundamental_comes g.long_long_int (g.more (g.more g.last)) h more vs = ahead (ahead (ahead (ahead (ahead (ahead same)))))
fundamental_comes {rest} g.signed_long_long (g.more (g.more g.last)) h more vs = ahead (ahead (ahead (ahead (ahead (then (pass o.OptionalInt [] (λ a b c. refl) refl rest h.0 _ _) (ahead same))))))
fundamental_comes g.signed_long_long_int (g.more (g.more (g.more g.last))) h more vs = ahead (ahead (ahead (ahead (ahead (ahead (ahead (ahead same)))))))
fundamental_comes {rest} g.unsigned_long_long (g.more (g.more g.last)) h more vs = ahead (ahead (ahead (ahead (ahead (then (pass o.OptionalInt [] (λ a b c. refl) refl rest h.0 _ _) (ahead same))))))
fundamental_comes g.unsigned_long_long_int (g.more (g.more (g.more g.last))) h more vs = ahead (ahead (ahead (ahead (ahead (ahead (ahead (ahead same)))))))
fundamental_comes g.void (g.more x) h more vs = elim x [ ]
fundamental_comes g.bool (g.more x) h more vs = elim x [ ]
fundamental_comes g.wide_char (g.more x) h more vs = elim x [ ]
fundamental_comes g.signed_char (g.more (g.more x)) h more vs = elim x [ ]
fundamental_comes g.unsigned_char (g.more (g.more x)) h more vs = elim x [ ]
fundamental_comes g.short (g.more x) h more vs = elim x [ ]
fundamental_comes g.short_int (g.more (g.more x)) h more vs = elim x [ ]
fundamental_comes g.signed_short (g.more (g.more x)) h more vs = elim x [ ]
fundamental_comes g.signed_short_int (g.more (g.more (g.more x))) h more vs = elim x [ ]
fundamental_comes g.unsigned_short (g.more (g.more x)) h more vs = elim x [ ]
fundamental_comes g.unsigned_short_int (g.more (g.more (g.more x))) h more vs = elim x [ ]
fundamental_comes g.int (g.more x) h more vs = elim x [ ]
fundamental_comes g.signed_int (g.more (g.more x)) h more vs = elim x [ ]
fundamental_comes g.unsigned (g.more x) h more vs = elim x [ ]
fundamental_comes g.unsigned_int (g.more (g.more x)) h more vs = elim x [ ]
fundamental_comes g.long_long (g.more (g.more x)) h more vs = elim x [ ]
fundamental_comes g.long_long_int (g.more (g.more (g.more x))) h more vs = elim x [ ]
fundamental_comes g.signed_long_long (g.more (g.more (g.more x))) h more vs = elim x [ ]
fundamental_comes g.signed_long_long_int (g.more (g.more (g.more (g.more x)))) h more vs = elim x [ ]
fundamental_comes g.unsigned_long_long (g.more (g.more (g.more x))) h more vs = elim x [ ]
fundamental_comes g.unsigned_long_long_int (g.more (g.more (g.more (g.more x)))) h more vs = elim x [ ]

-- how a fundamental type begins
abbrev pub StartsFundamental : List Classified → Type 0
StartsFundamental (at (t.Word word) k ∷ rest) = begins_fundamental word ≡ true
StartsFundamental _ = ⊥

abbrev Begins : List ReservedWord → Type 0
Begins [] = ⊥
Begins (word ∷ words) = begins_fundamental word ≡ true

begins_words : {words : List ReservedWord} {of : FundamentalType} → Fundamental words of → Begins words
begins_words g.void = refl
begins_words g.bool = refl
begins_words g.wide_char = refl
begins_words g.signed_char = refl
begins_words g.unsigned_char = refl
begins_words g.short = refl
begins_words g.short_int = refl
begins_words g.signed_short = refl
begins_words g.signed_short_int = refl
begins_words g.unsigned_short = refl
begins_words g.unsigned_short_int = refl
begins_words g.int = refl
begins_words g.signed_int = refl
begins_words g.unsigned = refl
begins_words g.unsigned_int = refl
begins_words g.long_long = refl
begins_words g.long_long_int = refl
begins_words g.signed_long_long = refl
begins_words g.signed_long_long_int = refl
begins_words g.unsigned_long_long = refl
begins_words g.unsigned_long_long_int = refl

first_word : {words : List ReservedWord} {span : Span} {ts rest : List Classified} → ReadsWords words span ts rest → Begins words → StartsFundamental ts
first_word g.last h = h
first_word (g.more p) h = h

pub starts_fundamental : {words : List ReservedWord} {of : FundamentalType} {span : Span} {ts rest : List Classified} → Fundamental words of → ReadsWords words span ts rest → StartsFundamental ts
starts_fundamental p q = first_word q (begins_words p)

abbrev pub named_value : List Identifier → Identifier → Value
named_value path name = v.Qualified (record { path = path; name = name })

abbrev pub type_value : TypeName → Span → Value
type_value of span = v.Type (record { tree = of; span = span })

type_words : (ts : List Classified) → StartsFundamental ts → (more : List Symbol) (vs : List Value)
    → Meets (At (Non o.Type ∷ more) vs (read ts)) (At (Non o.Fundamental ∷ Non o.TypeMarks ∷ more) vs (read ts))
type_words [] h more vs = absurd h
type_words (at (t.Word word) k ∷ rest) h more vs = ahead (rw h same)
type_words (at _ k ∷ rest) h more vs = absurd h

-- how a qualified name begins
abbrev pub StartsName : List Classified → Type 0
StartsName (at (t.Name kind word) k ∷ rest) = Unit {0}
StartsName _ = ⊥

pub path_starts : {path : List Identifier} {word : ContextualWord} {k : Token} {ts rest : List Classified} → ReadsPath path ts (at (t.Name n.Type word) k ∷ rest) → StartsName ts
path_starts g.none = tt
path_starts (g.next plain q) = tt
path_starts (g.next function q) = tt

pub named_starts : {of : TypeName} {span : Span} {ts rest : List Classified} → ReadsNamed of span ts rest → StartsName ts
named_starts (g.alone p) = path_starts p
named_starts (g.applied p q) = path_starts p

type_named : (ts : List Classified) → StartsName ts → (more : List Symbol) (vs : List Value)
    → Meets (At (Non o.Type ∷ more) vs (read ts)) (At (Non o.NamedType ∷ Non o.TypeMarks ∷ more) vs (read ts))
type_named [] h more vs = absurd h
type_named (at (t.Name kind word) k ∷ rest) h more vs = ahead same
type_named (at _ k ∷ rest) h more vs = absurd h

pub path_comes : {path : List Identifier} {word : ContextualWord} {k : Token} {ts rest : List Classified} → ReadsPath path ts (at (t.Name n.Type word) k ∷ rest)
    → (names : List Identifier) (more : List Symbol) (vs : List Value) → Meets (At (Non o.TypePath ∷ more) (v.Path names ∷ vs) (read ts)) (At (Non o.TemplateArguments ∷ more) (named_value (names ++ path) (identifier k) ∷ vs) (read rest))
path_comes {word} {k} g.none names more vs = ahead (ahead (with_values (ap (λ q. named_value q (identifier k) ∷ vs) (sym (append-nil names))) same))
path_comes {k} {rest} (g.next {path = outer} {k = l} plain p) names more vs =
    ahead (ahead (ahead (ahead (with_values {ts = read rest} (ap (λ q. named_value q (identifier k) ∷ vs) (append_assoc names (identifier l ∷ []) outer)) (path_comes p (names ++ identifier l ∷ []) more vs)))))
path_comes {k} {rest} (g.next {path = outer} {k = l} function p) names more vs =
    ahead (ahead (ahead (ahead (with_values {ts = read rest} (ap (λ q. named_value q (identifier k) ∷ vs) (append_assoc names (identifier l ∷ []) outer)) (path_comes p (names ++ identifier l ∷ []) more vs)))))

pub name_comes : {path : List Identifier} {word : ContextualWord} {k : Token} {ts rest : List Classified} → ReadsPath path ts (at (t.Name n.Type word) k ∷ rest)
    → (more : List Symbol) (vs : List Value) → Meets (At (Non o.NamedType ∷ more) vs (read ts)) (At (Non o.TemplateArguments ∷ more) (named_value path (identifier k) ∷ vs) (read rest))
name_comes g.none more vs = ahead (ahead same)
name_comes (g.next {k = l} plain p) more vs = ahead (ahead (ahead (ahead (path_comes p (identifier l ∷ []) more vs))))
name_comes (g.next {k = l} function p) more vs = ahead (ahead (ahead (ahead (path_comes p (identifier l ∷ []) more vs))))

mutual
  pub type_comes : {of : TypeName} {span : Span} {ts rest : List Classified} → ReadsType of span ts rest → TypeEnds rest
      → (more : List Symbol) (vs : List Value) → Meets (At (Non o.Type ∷ more) vs (read ts)) (At more (type_value of span ∷ vs) (read rest))
  type_comes {rest} (g.core p) h more vs = then (core_comes p h.0 more vs) (pass o.TypeMarks [] (λ a b c. refl) refl rest h.1 _ _)
  type_comes {rest} (g.handle p) h more vs = then (core_comes p (refl, refl, refl) more vs) (ahead (then (pass o.HandleRest (Act a.MakeHandle ∷ []) (λ a b c. refl) refl rest h.2 _ _) (ahead same)))
  type_comes (g.tracking p) h more vs = then (core_comes p (refl, refl, refl) more vs) (ahead (ahead same))
  type_comes (g.handle_tracking p) h more vs = then (core_comes p (refl, refl, refl) more vs) (ahead (ahead (ahead same)))

  pub core_comes : {of : TypeName} {span : Span} {ts rest : List Classified} → ReadsCore of span ts rest → CoreEnds rest
      → (more : List Symbol) (vs : List Value) → Meets (At (Non o.Type ∷ more) vs (read ts)) (At (Non o.TypeMarks ∷ more) (type_value of span ∷ vs) (read rest))
  core_comes {ts} (g.fundamental p q) h more vs = then (type_words ts (starts_fundamental p q) more vs) (fundamental_comes p q h (Non o.TypeMarks ∷ more) vs)
  core_comes {ts} (g.named p) h more vs = then (type_named ts (named_starts p) more vs) (named_comes p h.2 (Non o.TypeMarks ∷ more) vs)

  pub named_comes : {of : TypeName} {span : Span} {ts rest : List Classified} → ReadsNamed of span ts rest → Passes o.TemplateArguments rest
      → (more : List Symbol) (vs : List Value) → Meets (At (Non o.NamedType ∷ more) vs (read ts)) (At more (type_value of span ∷ vs) (read rest))
  named_comes {rest} (g.alone p) h more vs = then (name_comes p more vs) (then (pass o.TemplateArguments (Act a.MakeNamed ∷ []) (λ a b c. refl) refl rest h _ _) (ahead same))
  named_comes (g.applied p q) h more vs = then (name_comes p more vs) (ahead (ahead (then (types_comes q (refl, refl, refl) refl refl refl [] _ _) (ahead (ahead same)))))

  -- the list of types after the sign before it, up to the sign after it
  pub types_comes : {types : List TypeName} {ts rest : List Classified} → ReadsTypes types ts rest → CoreEnds rest → Passes o.TypeMarks rest → Passes o.HandleRest rest → Passes o.MoreTypes rest
      → (first : List TypeName) (more : List Symbol) (vs : List Value) → Meets (At (Non o.Type ∷ Act a.AddType ∷ Non o.MoreTypes ∷ more) (v.Types first ∷ vs) (read ts)) (At more (v.Types (first ++ types) ∷ vs) (read rest))
  types_comes {rest} (g.last p) h i j k first more vs = then (type_comes p (h, i, j) _ _) (ahead (pass o.MoreTypes [] (λ a b c. refl) refl rest k _ _))
  types_comes {rest} (g.more {of} {types = others} p q) h i j k first more vs =
      then (type_comes p ((refl, refl, refl), refl, refl) _ _) (ahead (ahead (with_values {ts = read rest} (ap (λ q. v.Types q ∷ vs) (append_assoc first (of ∷ []) others)) (types_comes q h i j k (first ++ of ∷ []) more vs))))

-- a type's name, whatever reads the way to its last word
pub named_by : (whole : List Symbol) (more : List Symbol) (vs : List Value) (ts : List Classified)
    → ((path : List Identifier) (word : ContextualWord) (k : Token) (rest : List Classified) → ReadsPath path ts (at (t.Name n.Type word) k ∷ rest) → Meets (At whole vs (read ts)) (At (Non o.TemplateArguments ∷ more) (named_value path (identifier k) ∷ vs) (read rest)))
    → {of : TypeName} {span : Span} {rest : List Classified} → ReadsNamed of span ts rest → Passes o.TemplateArguments rest → Meets (At whole vs (read ts)) (At more (type_value of span ∷ vs) (read rest))
named_by whole more vs ts starts {rest} (g.alone p) h = then (starts _ _ _ _ p) (then (pass o.TemplateArguments (Act a.MakeNamed ∷ []) (λ a b c. refl) refl rest h _ _) (ahead same))
named_by whole more vs ts starts (g.applied p q) h = then (starts _ _ _ _ p) (ahead (ahead (then (types_comes q (refl, refl, refl) refl refl refl [] _ _) (ahead (ahead same)))))

-- the marks behind a core, whatever reads the core
pub marks_come : {of : TypeName} {span : Span} {ts rest : List Classified} → ReadsType of span ts rest → TypeEnds rest → (whole more : List Symbol) (vs : List Value)
    → ((core : TypeName) (inner : Span) (us : List Classified) → ReadsCore core inner ts us → CoreEnds us → Meets (At whole vs (read ts)) (At (Non o.TypeMarks ∷ more) (type_value core inner ∷ vs) (read us)))
    → Meets (At whole vs (read ts)) (At more (type_value of span ∷ vs) (read rest))
marks_come {rest} (g.core p) h whole more vs starts = then (starts _ _ _ p h.0) (pass o.TypeMarks [] (λ a b c. refl) refl rest h.1 _ _)
marks_come {rest} (g.handle p) h whole more vs starts = then (starts _ _ _ p (refl, refl, refl)) (ahead (then (pass o.HandleRest (Act a.MakeHandle ∷ []) (λ a b c. refl) refl rest h.2 _ _) (ahead same)))
marks_come (g.tracking p) h whole more vs starts = then (starts _ _ _ p (refl, refl, refl)) (ahead (ahead same))
marks_come (g.handle_tracking p) h whole more vs starts = then (starts _ _ _ p (refl, refl, refl)) (ahead (ahead (ahead same)))

pub types_are_read : TypesAreRead
types_are_read of span ts p = comes (then (type_comes p ((tt, tt, tt), tt, tt) [] []) (ahead same))
