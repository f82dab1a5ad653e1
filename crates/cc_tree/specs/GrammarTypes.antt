-- How types are spelled (ECMA-372, 12 and 15.3): which tree a list of tokens begins with, and which tokens follow it.
use Rattle.std.specs.Prelude.{List, [], ◌∷◌, true, false}
use Rattle.cc_base.specs.declared.text.Span.{Span}
use Rattle.cc_tree.specs.declared.token.Token.{Token}
use Rattle.cc_tree.specs.declared.identifier.Identifier.{Identifier}
use Rattle.cc_tree.specs.declared.terminal.Terminal.{Terminal}
use Rattle.cc_tree.specs.declared.terminal.Terminal.TheVariants as t
use Rattle.cc_tree.specs.declared.terminal.NameKind.TheVariants as n
use Rattle.cc_tree.specs.declared.terminal.ContextualWord.{ContextualWord}
use Rattle.cc_tree.specs.declared.terminal.ReservedWord.{ReservedWord}
use Rattle.cc_tree.specs.declared.terminal.ReservedWord.TheVariants as w
use Rattle.cc_tree.specs.declared.terminal.Sign.TheVariants as s
use Rattle.cc_tree.specs.declared.type_name.FundamentalType.{FundamentalType}
use Rattle.cc_tree.specs.declared.type_name.FundamentalType.TheVariants as f
use Rattle.cc_tree.specs.declared.type_name.TypeName.{TypeName}
use Rattle.cc_tree.specs.declared.type_name.TypeName.TheVariants as type
use Rattle.cc_tree.specs.declared.type_name.TypeArguments.{TypeArguments}
use Rattle.cc_tree.specs.Terminals.{Classified, at, Id}
use Rattle.cc_tree.specs.Spans.{across, identifier, qualified_span}

-- the words of a fundamental type
pub data Fundamental : List ReservedWord → FundamentalType → Type 0 where
  void : Fundamental (w.Void ∷ []) f.Void
  bool : Fundamental (w.Bool ∷ []) f.Bool
  wide_char : Fundamental (w.WideChar ∷ []) f.WideChar
  signed_char : Fundamental (w.Signed ∷ w.Char ∷ []) f.SignedChar
  unsigned_char : Fundamental (w.Unsigned ∷ w.Char ∷ []) f.UnsignedChar
  short : Fundamental (w.Short ∷ []) f.Short
  short_int : Fundamental (w.Short ∷ w.Int ∷ []) f.Short
  signed_short : Fundamental (w.Signed ∷ w.Short ∷ []) f.Short
  signed_short_int : Fundamental (w.Signed ∷ w.Short ∷ w.Int ∷ []) f.Short
  unsigned_short : Fundamental (w.Unsigned ∷ w.Short ∷ []) f.UnsignedShort
  unsigned_short_int : Fundamental (w.Unsigned ∷ w.Short ∷ w.Int ∷ []) f.UnsignedShort
  int : Fundamental (w.Int ∷ []) f.Int
  signed_int : Fundamental (w.Signed ∷ w.Int ∷ []) f.Int
  unsigned : Fundamental (w.Unsigned ∷ []) f.UnsignedInt
  unsigned_int : Fundamental (w.Unsigned ∷ w.Int ∷ []) f.UnsignedInt
  long_long : Fundamental (w.Long ∷ w.Long ∷ []) f.LongLong
  long_long_int : Fundamental (w.Long ∷ w.Long ∷ w.Int ∷ []) f.LongLong
  signed_long_long : Fundamental (w.Signed ∷ w.Long ∷ w.Long ∷ []) f.LongLong
  signed_long_long_int : Fundamental (w.Signed ∷ w.Long ∷ w.Long ∷ w.Int ∷ []) f.LongLong
  unsigned_long_long : Fundamental (w.Unsigned ∷ w.Long ∷ w.Long ∷ []) f.UnsignedLongLong
  unsigned_long_long_int : Fundamental (w.Unsigned ∷ w.Long ∷ w.Long ∷ w.Int ∷ []) f.UnsignedLongLong

-- reserved words in a row
pub data ReadsWords : List ReservedWord → Span → List Classified → List Classified → Type 0 where
  last : {word : ReservedWord} {k : Token} {rest : List Classified}
      → ReadsWords (word ∷ []) k.span (at (t.Word word) k ∷ rest) rest
  more : {word : ReservedWord} {words : List ReservedWord} {k : Token} {span : Span} {ts rest : List Classified}
      → ReadsWords words span ts rest → ReadsWords (word ∷ words) (across k.span span) (at (t.Word word) k ∷ ts) rest

-- { ID "::" }
pub data ReadsPath : List Identifier → List Classified → List Classified → Type 0 where
  none : {rest : List Classified} → ReadsPath [] rest rest
  next : {id : Terminal} {path : List Identifier} {k scope : Token} {ts rest : List Classified}
      → Id id → ReadsPath path ts rest → ReadsPath (identifier k ∷ path) (at id k ∷ at (t.Sign s.Scope) scope ∷ ts) rest

mutual
  -- type = core [ "^" ] [ "%" ]
  pub data ReadsType : TypeName → Span → List Classified → List Classified → Type 0 where
    core : {core : TypeName} {span : Span} {ts rest : List Classified} → ReadsCore core span ts rest → ReadsType core span ts rest
    handle : {core : TypeName} {span : Span} {hat : Token} {ts rest : List Classified}
        → ReadsCore core span ts (at (t.Sign s.Caret) hat ∷ rest)
        → ReadsType (type.Marked core true false (across span hat.span)) (across span hat.span) ts rest
    tracking : {core : TypeName} {span : Span} {percent : Token} {ts rest : List Classified}
        → ReadsCore core span ts (at (t.Sign s.Percent) percent ∷ rest)
        → ReadsType (type.Marked core false true (across span percent.span)) (across span percent.span) ts rest
    handle_tracking : {core : TypeName} {span : Span} {hat percent : Token} {ts rest : List Classified}
        → ReadsCore core span ts (at (t.Sign s.Caret) hat ∷ at (t.Sign s.Percent) percent ∷ rest)
        → ReadsType (type.Marked core true true (across span percent.span)) (across span percent.span) ts rest

  -- core = fundamental | tname
  pub data ReadsCore : TypeName → Span → List Classified → List Classified → Type 0 where
    fundamental : {words : List ReservedWord} {of : FundamentalType} {span : Span} {ts rest : List Classified}
        → Fundamental words of → ReadsWords words span ts rest → ReadsCore (type.Fundamental of span) span ts rest
    named : {named : TypeName} {span : Span} {ts rest : List Classified} → ReadsNamed named span ts rest → ReadsCore named span ts rest

  -- tname = { ID "::" } TNAME [ "<" type { "," type } ">" ]
  pub data ReadsNamed : TypeName → Span → List Classified → List Classified → Type 0 where
    alone : {path : List Identifier} {word : ContextualWord} {k : Token} {ts rest : List Classified}
        → ReadsPath path ts (at (t.Name n.Type word) k ∷ rest)
        → ReadsNamed (type.Named path (identifier k) [] (qualified_span path (identifier k))) (qualified_span path (identifier k)) ts rest
    applied : {path : List Identifier} {word : ContextualWord} {arguments : List TypeName} {k less greater : Token} {ts us rest : List Classified}
        → ReadsPath path ts (at (t.Name n.Type word) k ∷ at (t.Sign s.Less) less ∷ us)
        → ReadsTypes arguments us (at (t.Sign s.Greater) greater ∷ rest)
        → ReadsNamed (type.Named path (identifier k) arguments (across (qualified_span path (identifier k)) greater.span)) (across (qualified_span path (identifier k)) greater.span) ts rest

  -- type { "," type }
  pub data ReadsTypes : List TypeName → List Classified → List Classified → Type 0 where
    last : {of : TypeName} {span : Span} {ts rest : List Classified} → ReadsType of span ts rest → ReadsTypes (of ∷ []) ts rest
    more : {of : TypeName} {types : List TypeName} {span : Span} {comma : Token} {ts us rest : List Classified}
        → ReadsType of span ts (at (t.Sign s.Comma) comma ∷ us) → ReadsTypes types us rest → ReadsTypes (of ∷ types) ts rest

-- targs = "<" type { "," type } ">"
pub data ReadsTypeArguments : TypeArguments → Span → List Classified → List Classified → Type 0 where
  listed : {types : List TypeName} {less greater : Token} {ts rest : List Classified}
      → ReadsTypes types ts (at (t.Sign s.Greater) greater ∷ rest)
      → ReadsTypeArguments (record { types = types; span = across less.span greater.span }) (across less.span greater.span) (at (t.Sign s.Less) less ∷ ts) rest
