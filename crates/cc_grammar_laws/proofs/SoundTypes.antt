-- What the machine reads as a type is a spelling of that type.
use Rattle.std.proofs.Common.{◌≡◌, sym, subst, refl, List, [], ◌∷◌, ◌++◌, append_assoc, append-nil}
use Rattle.cc_base.specs.declared.text.Span.{Span}
use Rattle.cc_tree.specs.declared.token.Token.{Token}
use Rattle.cc_tree.specs.declared.token.TokenKind.{TokenKind}
use Rattle.cc_tree.specs.declared.identifier.Identifier.{Identifier}
use Rattle.cc_tree.specs.declared.terminal.Terminal.{Terminal}
use Rattle.cc_tree.specs.declared.terminal.Terminal.TheVariants as t
use Rattle.cc_tree.specs.declared.terminal.NameKind.TheVariants as n
use Rattle.cc_tree.specs.declared.terminal.ContextualWord.{ContextualWord}
use Rattle.cc_tree.specs.declared.terminal.ReservedWord.{ReservedWord}
use Rattle.cc_tree.specs.declared.terminal.ReservedWord.TheVariants as w
use Rattle.cc_tree.specs.declared.terminal.Sign.TheVariants as s
use Rattle.cc_tree.specs.declared.type_name.FundamentalType.TheVariants as f
use Rattle.cc_tree.specs.declared.type_name.TypeName.{TypeName}
use Rattle.cc_tree.specs.declared.type_name.TypeName.TheVariants as type
use Rattle.cc_tree.specs.Terminals.{Classified, at, Id, plain, function}
use Rattle.cc_tree.specs.Spans.{across, identifier, qualified_span}
use Rattle.cc_tree.specs.GrammarTypes as g
use Rattle.cc_tree.specs.GrammarTypes.{Fundamental, ReadsWords, ReadsPath, ReadsType, ReadsCore, ReadsNamed, ReadsTypes}
use Rattle.cc_table.specs.declared.symbols.Sort.{Sort}
use Rattle.cc_table.specs.declared.symbols.Sort.TheVariants as o
use Rattle.cc_table.specs.declared.symbols.Action.TheVariants as a
use Rattle.cc_table.specs.declared.symbols.Symbol.{Symbol}
use Rattle.cc_table.specs.declared.symbols.Symbol.TheVariants.{Non, Act, Back}
use Rattle.cc_table.specs.Table.{otherwise}
use Rattle.cc_pushdown.specs.declared.value.Node.{Node}
use Rattle.cc_pushdown.specs.declared.value.Value.{Value}
use Rattle.cc_pushdown.specs.declared.value.Value.TheVariants as v
use Rattle.cc_pushdown.specs.Values.{below, top_mark, top_qualified, top_path}
use Rattle.cc_pushdown.specs.Build.{build}
use Rattle.cc_pushdown.specs.Machine.{Config, At, Bad, Done, lack, step, Comes, here, on}
use Rattle.cc_grammar_laws.specs.Read.{read}
use Rattle.cc_grammar_laws.specs.Laws.{OnlyTypesAreRead}
use Rattle.cc_grammar_laws.proofs.CompleteTypes.{type_value}

-- a token that must stand there
data Takes : Terminal → List Classified → Token → List Classified → Type 0 where
  takes : {terminal : Terminal} {k : Token} {rest : List Classified} → Takes terminal (at terminal k ∷ rest) k rest

-- `int` or nothing behind some words: where they end
data MayTakeInt : Span → List Classified → Span → List Classified → Type 0 where
  no_int : {span : Span} {ts : List Classified} → MayTakeInt span ts span ts
  with_int : {span : Span} {k : Token} {rest : List Classified} → MayTakeInt span (at (t.Word w.Int) k ∷ rest) (across span k.span) rest

abbrev mark : Terminal → Span → Value
mark terminal span = v.Mark (record { terminal = terminal; span = span })

abbrev one_word : ReservedWord → TokenKind → Span → Classified
one_word word kind span = at (t.Word word) (record { kind = kind; span = span })

-- What a part of a type reads, and then the rest of what is expected.
abbrev Part : Sort → List Value → List Classified → (List Value → List Classified → Type 0) → Type 0
Part o.Scope vs ts K = (k : Token) × (rest : List Classified) × Takes (t.Sign s.Scope) ts k rest × K vs rest
Part o.KeptGreater vs ts K = (k : Token) × (rest : List Classified) × Takes (t.Sign s.Greater) ts k rest × K (mark (t.Sign s.Greater) k.span ∷ vs) rest
Part o.LongWord vs ts K = (k : Token) × (rest : List Classified) × Takes (t.Word w.Long) ts k rest × K (mark (top_mark vs).terminal (across (top_mark vs).span k.span) ∷ below vs) rest
Part o.OptionalInt (v.Mark m ∷ vs) ts K = (span : Span) × (rest : List Classified) × MayTakeInt m.span ts span rest × K (mark m.terminal span ∷ vs) rest
Part o.Fundamental vs ts K = (of : TypeName) × (span : Span) × (rest : List Classified) × ReadsCore of span ts rest × K (type_value of span ∷ vs) rest
Part o.SignedRest vs ts K = (of : TypeName) × (span : Span) × (rest : List Classified) × ((kind : TokenKind) → ReadsCore of span (one_word w.Signed kind (top_mark vs).span ∷ ts) rest) × K (type_value of span ∷ below vs) rest
Part o.UnsignedRest vs ts K = (of : TypeName) × (span : Span) × (rest : List Classified) × ((kind : TokenKind) → ReadsCore of span (one_word w.Unsigned kind (top_mark vs).span ∷ ts) rest) × K (type_value of span ∷ below vs) rest
Part o.Type vs ts K = (of : TypeName) × (span : Span) × (rest : List Classified) × ReadsType of span ts rest × K (type_value of span ∷ vs) rest
Part o.TypeMarks (v.Type core ∷ vs) ts K = (of : TypeName) × (span : Span) × (rest : List Classified) × ((us : List Classified) → ReadsCore core.tree core.span us ts → ReadsType of span us rest) × K (type_value of span ∷ vs) rest
Part o.HandleRest (v.Mark m ∷ v.Type core ∷ vs) ts K = (of : TypeName) × (span : Span) × (rest : List Classified)
    × ((us : List Classified) (kind : TokenKind) → ReadsCore core.tree core.span us (at (t.Sign s.Caret) (record { kind = kind; span = m.span }) ∷ ts) → ReadsType of span us rest) × K (type_value of span ∷ vs) rest
Part o.NamedType vs ts K = (of : TypeName) × (span : Span) × (rest : List Classified) × ReadsNamed of span ts rest × K (type_value of span ∷ vs) rest
Part o.TypePath vs ts K = (of : TypeName) × (span : Span) × (rest : List Classified)
    × ((us : List Classified) → ((path : List Identifier) (last : List Classified) → ReadsPath path ts last → ReadsPath (top_path vs ++ path) us last) → ReadsNamed of span us rest) × K (type_value of span ∷ below vs) rest
Part o.TemplateArguments vs ts K = (of : TypeName) × (span : Span) × (rest : List Classified)
    × ((us : List Classified) (word : ContextualWord) (k : Token) → identifier k ≡ (top_qualified vs).name → ReadsPath (top_qualified vs).path us (at (t.Name n.Type word) k ∷ ts) → ReadsNamed of span us rest) × K (type_value of span ∷ below vs) rest
Part o.MoreTypes (v.Types first ∷ vs) ts K = (types : List TypeName) × (rest : List Classified)
    × ((of : TypeName) (span : Span) (us : List Classified) → ReadsType of span us ts → ReadsTypes (of ∷ types) us rest) × K (v.Types (first ++ types) ∷ vs) rest
Part _ vs ts K = Unit {0}

module _ (last : List Value) where
  abbrev Means : List Symbol → List Value → List Classified → Type 0
  Means [] vs ts = (ts ≡ []) × (vs ≡ last)
  Means (Act action ∷ more) vs ts = Means more (build action vs) ts
  Means (Back input ∷ more) vs ts = Unit {0}
  Means (Non sort ∷ more) vs ts = Part sort vs ts (Means more)

  abbrev Meaning : Config → Type 0
  Meaning (At more vs fs) = (ts : List Classified) → fs ≡ read ts → Means more vs ts
  Meaning (Bad fs) = ⊥
  Meaning (Done vs) = vs ≡ last

  from_named : (more : List Symbol) (vs : List Value) (ts : List Classified) → Means (Non o.NamedType ∷ Non o.TypeMarks ∷ more) vs ts → Means (Non o.Type ∷ more) vs ts
  from_named more vs ts (of, span, rest, p, (all, whole, behind, q, m)) = (all, whole, behind, q ts (g.named p), m)

  from_fundamental : (more : List Symbol) (vs : List Value) (ts : List Classified) → Means (Non o.Fundamental ∷ Non o.TypeMarks ∷ more) vs ts → Means (Non o.Type ∷ more) vs ts
  from_fundamental more vs ts (of, span, rest, p, (all, whole, behind, q, m)) = (all, whole, behind, q ts p, m)

  back_otherwise : (sort : Sort) (more : List Symbol) (vs : List Value) (ts : List Classified) → Meaning (lack (otherwise sort) more vs (read ts)) → Means (Non sort ∷ more) vs ts
  back_otherwise o.OptionalInt more (v.Mark m ∷ vs) ts e = (m.span, ts, no_int, e ts refl)
  back_otherwise o.OptionalInt more _ ts e = tt
  back_otherwise o.UnsignedRest more vs ts e = (_, _, ts, (λ kind. g.fundamental g.unsigned g.last), e ts refl)
  back_otherwise o.Type more vs ts e = from_named more vs ts (e ts refl)
  back_otherwise o.TypeMarks more (v.Type core ∷ vs) ts e = (core.tree, core.span, ts, (λ us p. g.core p), e ts refl)
  back_otherwise o.TypeMarks more _ ts e = tt
  back_otherwise o.HandleRest more (v.Mark m ∷ v.Type core ∷ vs) ts e = (_, _, ts, (λ us kind p. g.handle p), e ts refl)
  back_otherwise o.HandleRest more _ ts e = tt
  back_otherwise o.TemplateArguments more vs ts e =
      (_, _, ts, (λ us word k same p. subst (λ q. ReadsNamed (type.Named (top_qualified vs).path q [] (qualified_span (top_qualified vs).path q)) (qualified_span (top_qualified vs).path q) us ts) same (g.alone p)), e ts refl)
  back_otherwise o.MoreTypes more (v.Types first ∷ vs) ts e = ([], ts, (λ of span us p. g.last p), subst (λ q. Means more (v.Types q ∷ vs) ts) (sym (append-nil first)) (e ts refl))
  back_otherwise o.MoreTypes more _ ts e = tt
  back_otherwise o.Scope more vs ts e = absurd e
  back_otherwise o.KeptGreater more vs ts e = absurd e
  back_otherwise o.LongWord more vs ts e = absurd e
  back_otherwise o.Fundamental more vs ts e = absurd e
  back_otherwise o.SignedRest more vs ts e = absurd e
  back_otherwise o.NamedType more vs ts e = absurd e
  back_otherwise o.TypePath more vs ts e = absurd e
  back_otherwise _ more vs ts e = tt

  short_words : (more : List Symbol) (vs : List Value) (k : Token) (ts : List Classified) → Means (Non o.OptionalInt ∷ Act (a.Fundamental f.Short) ∷ more) (mark (t.Word w.Short) k.span ∷ vs) ts → Means (Non o.Fundamental ∷ more) vs (at (t.Word w.Short) k ∷ ts)
  short_words more vs k ts (span, rest, no_int, m) = (_, _, _, g.fundamental g.short g.last, m)
  short_words more vs k ts (span, rest, with_int, m) = (_, _, _, g.fundamental g.short_int (g.more g.last), m)

  long_words : (more : List Symbol) (vs : List Value) (k : Token) (ts : List Classified) → Means (Non o.LongWord ∷ Non o.OptionalInt ∷ Act (a.Fundamental f.LongLong) ∷ more) (mark (t.Word w.Long) k.span ∷ vs) ts → Means (Non o.Fundamental ∷ more) vs (at (t.Word w.Long) k ∷ ts)
  long_words more vs k ts (l, us, takes, (span, rest, no_int, m)) = (_, _, _, g.fundamental g.long_long (g.more g.last), m)
  long_words more vs k ts (l, us, takes, (span, rest, with_int, m)) = (_, _, _, g.fundamental g.long_long_int (g.more (g.more g.last)), m)

  signed_words : (more : List Symbol) (vs : List Value) (k : Token) (ts : List Classified) → Means (Non o.SignedRest ∷ more) (mark (t.Word w.Signed) k.span ∷ vs) ts → Means (Non o.Fundamental ∷ more) vs (at (t.Word w.Signed) k ∷ ts)
  signed_words more vs k ts (of, span, rest, p, m) = (of, span, rest, p k.kind, m)

  unsigned_words : (more : List Symbol) (vs : List Value) (k : Token) (ts : List Classified) → Means (Non o.UnsignedRest ∷ more) (mark (t.Word w.Unsigned) k.span ∷ vs) ts → Means (Non o.Fundamental ∷ more) vs (at (t.Word w.Unsigned) k ∷ ts)
  unsigned_words more vs k ts (of, span, rest, p, m) = (of, span, rest, p k.kind, m)

  signed_short : (more : List Symbol) (vs : List Value) (k : Token) (ts : List Classified) → Means (Non o.OptionalInt ∷ Act (a.Fundamental f.Short) ∷ more) (mark (top_mark vs).terminal (across (top_mark vs).span k.span) ∷ below vs) ts → Means (Non o.SignedRest ∷ more) vs (at (t.Word w.Short) k ∷ ts)
  signed_short more vs k ts (span, rest, no_int, m) = (_, _, _, (λ kind. g.fundamental g.signed_short (g.more g.last)), m)
  signed_short more vs k ts (span, rest, with_int, m) = (_, _, _, (λ kind. g.fundamental g.signed_short_int (g.more (g.more g.last))), m)

  signed_long : (more : List Symbol) (vs : List Value) (k : Token) (ts : List Classified) → Means (Non o.LongWord ∷ Non o.OptionalInt ∷ Act (a.Fundamental f.LongLong) ∷ more) (mark (top_mark vs).terminal (across (top_mark vs).span k.span) ∷ below vs) ts → Means (Non o.SignedRest ∷ more) vs (at (t.Word w.Long) k ∷ ts)
  signed_long more vs k ts (l, us, takes, (span, rest, no_int, m)) = (_, _, _, (λ kind. g.fundamental g.signed_long_long (g.more (g.more g.last))), m)
  signed_long more vs k ts (l, us, takes, (span, rest, with_int, m)) = (_, _, _, (λ kind. g.fundamental g.signed_long_long_int (g.more (g.more (g.more g.last)))), m)

  unsigned_short : (more : List Symbol) (vs : List Value) (k : Token) (ts : List Classified) → Means (Non o.OptionalInt ∷ Act (a.Fundamental f.UnsignedShort) ∷ more) (mark (top_mark vs).terminal (across (top_mark vs).span k.span) ∷ below vs) ts → Means (Non o.UnsignedRest ∷ more) vs (at (t.Word w.Short) k ∷ ts)
  unsigned_short more vs k ts (span, rest, no_int, m) = (_, _, _, (λ kind. g.fundamental g.unsigned_short (g.more g.last)), m)
  unsigned_short more vs k ts (span, rest, with_int, m) = (_, _, _, (λ kind. g.fundamental g.unsigned_short_int (g.more (g.more g.last))), m)

  unsigned_long : (more : List Symbol) (vs : List Value) (k : Token) (ts : List Classified) → Means (Non o.LongWord ∷ Non o.OptionalInt ∷ Act (a.Fundamental f.UnsignedLongLong) ∷ more) (mark (top_mark vs).terminal (across (top_mark vs).span k.span) ∷ below vs) ts → Means (Non o.UnsignedRest ∷ more) vs (at (t.Word w.Long) k ∷ ts)
  unsigned_long more vs k ts (l, us, takes, (span, rest, no_int, m)) = (_, _, _, (λ kind. g.fundamental g.unsigned_long_long (g.more (g.more g.last))), m)
  unsigned_long more vs k ts (l, us, takes, (span, rest, with_int, m)) = (_, _, _, (λ kind. g.fundamental g.unsigned_long_long_int (g.more (g.more (g.more g.last)))), m)

  -- `ID "::"` before the rest of a type's name
  outer_name : (more : List Symbol) (vs : List Value) (id : Terminal) (k : Token) (ts : List Classified) → Id id → Means (Non o.Scope ∷ Act a.AddToPath ∷ Non o.TypePath ∷ more) (v.Qualified (record { path = []; name = identifier k }) ∷ vs) ts → Means (Non o.NamedType ∷ more) vs (at id k ∷ ts)
  outer_name more vs id k ts i (scope, us, takes, (of, span, rest, p, m)) = (of, span, rest, p _ (λ path last q. g.next i q), m)

  next_name : (more : List Symbol) (vs : List Value) (id : Terminal) (k : Token) (ts : List Classified) → Id id → Means (Non o.Scope ∷ Act a.AddToPath ∷ Non o.TypePath ∷ more) (v.Qualified (record { path = top_path vs; name = identifier k }) ∷ below vs) ts → Means (Non o.TypePath ∷ more) vs (at id k ∷ ts)
  next_name more vs id k ts i (scope, us, takes, (of, span, rest, p, m)) =
      (of, span, rest, (λ xs h. p xs (λ path last q. subst (λ u. ReadsPath u xs last) (sym (append_assoc (top_path vs) (identifier k ∷ []) path)) (h (identifier k ∷ path) last (g.next i q)))), m)

  last_name : (more : List Symbol) (vs : List Value) (word : ContextualWord) (k : Token) (ts : List Classified) → Means (Non o.TemplateArguments ∷ more) (v.Qualified (record { path = []; name = identifier k }) ∷ vs) ts → Means (Non o.NamedType ∷ more) vs (at (t.Name n.Type word) k ∷ ts)
  last_name more vs word k ts (of, span, rest, p, m) = (of, span, rest, p _ word k refl g.none, m)

  end_name : (more : List Symbol) (vs : List Value) (word : ContextualWord) (k : Token) (ts : List Classified) → Means (Non o.TemplateArguments ∷ more) (v.Qualified (record { path = top_path vs; name = identifier k }) ∷ below vs) ts → Means (Non o.TypePath ∷ more) vs (at (t.Name n.Type word) k ∷ ts)
  end_name more vs word k ts (of, span, rest, p, m) =
      (of, span, rest, (λ xs h. p xs word k refl (subst (λ u. ReadsPath u xs (at (t.Name n.Type word) k ∷ ts)) (append-nil (top_path vs)) (h [] _ g.none))), m)

  template_arguments : (more : List Symbol) (vs : List Value) (k : Token) (ts : List Classified) → Means (Act a.StartTypes ∷ Non o.Type ∷ Act a.AddType ∷ Non o.MoreTypes ∷ Non o.KeptGreater ∷ Act a.MakeApplied ∷ more) (mark (t.Sign s.Less) k.span ∷ vs) ts → Means (Non o.TemplateArguments ∷ more) vs (at (t.Sign s.Less) k ∷ ts)
  template_arguments more vs k ts (of, span, us, p, (types, ws, q, (greater, rest, takes, m))) =
      (_, _, rest, (λ xs word l same r. subst (λ u. ReadsNamed (type.Named (top_qualified vs).path u (of ∷ types) (across (qualified_span (top_qualified vs).path u) greater.span)) (across (qualified_span (top_qualified vs).path u) greater.span) xs rest) same (g.applied r (q of span ts p))), m)

  more_types : (more : List Symbol) (first : List TypeName) (vs : List Value) (k : Token) (ts : List Classified) → Means (Non o.Type ∷ Act a.AddType ∷ Non o.MoreTypes ∷ more) (v.Types first ∷ vs) ts → Means (Non o.MoreTypes ∷ more) (v.Types first ∷ vs) (at (t.Sign s.Comma) k ∷ ts)
  more_types more first vs k ts (of, span, us, p, (types, rest, q, m)) =
      (of ∷ types, rest, (λ one whole xs r. g.more r (q of span ts p)), subst (λ u. Means more (v.Types u ∷ vs) rest) (append_assoc first (of ∷ []) types) m)

  type_caret : (more : List Symbol) (core : Node TypeName) (vs : List Value) (k : Token) (ts : List Classified) → Means (Non o.HandleRest ∷ more) (mark (t.Sign s.Caret) k.span ∷ v.Type core ∷ vs) ts → Means (Non o.TypeMarks ∷ more) (v.Type core ∷ vs) (at (t.Sign s.Caret) k ∷ ts)
  type_caret more core vs k ts (of, span, rest, p, m) = (of, span, rest, (λ us q. p us k.kind q), m)

  -- the words of a type, by how they begin
  back_fundamental : (more : List Symbol) (vs : List Value) (word : ReservedWord) (k : Token) (ts : List Classified) → Meaning (step (At (Non o.Fundamental ∷ more) vs (read (at (t.Word word) k ∷ ts)))) → Means (Non o.Fundamental ∷ more) vs (at (t.Word word) k ∷ ts)
  back_fundamental more vs w.Void k ts e = (_, _, ts, g.fundamental g.void g.last, e ts refl)
  back_fundamental more vs w.Bool k ts e = (_, _, ts, g.fundamental g.bool g.last, e ts refl)
  back_fundamental more vs w.WideChar k ts e = (_, _, ts, g.fundamental g.wide_char g.last, e ts refl)
  back_fundamental more vs w.Int k ts e = (_, _, ts, g.fundamental g.int g.last, e ts refl)
  back_fundamental more vs w.Short k ts e = short_words more vs k ts (e ts refl)
  back_fundamental more vs w.Signed k ts e = signed_words more vs k ts (e ts refl)
  back_fundamental more vs w.Unsigned k ts e = unsigned_words more vs k ts (e ts refl)
  back_fundamental more vs w.Long k ts e = long_words more vs k ts (e ts refl)
  back_fundamental more vs _ k ts e = absurd e

  back_take : (sort : Sort) (more : List Symbol) (vs : List Value) (terminal : Terminal) (k : Token) (ts : List Classified) → Meaning (step (At (Non sort ∷ more) vs (read (at terminal k ∷ ts)))) → Means (Non sort ∷ more) vs (at terminal k ∷ ts)
  back_take o.Scope more vs (t.Sign s.Scope) k ts e = (k, ts, takes, e ts refl)
  back_take o.Scope more vs _ k ts e = absurd e
  back_take o.KeptGreater more vs (t.Sign s.Greater) k ts e = (k, ts, takes, e ts refl)
  back_take o.KeptGreater more vs _ k ts e = absurd e
  back_take o.LongWord more vs (t.Word w.Long) k ts e = (k, ts, takes, e ts refl)
  back_take o.LongWord more vs _ k ts e = absurd e
  back_take o.OptionalInt more (v.Mark m ∷ vs) (t.Word w.Int) k ts e = (_, ts, with_int, e ts refl)
  back_take o.OptionalInt more (v.Mark m ∷ vs) terminal k ts e = back_otherwise o.OptionalInt more (v.Mark m ∷ vs) (at terminal k ∷ ts) e
  back_take o.OptionalInt more _ terminal k ts e = tt
  back_take o.Fundamental more vs (t.Word word) k ts e = back_fundamental more vs word k ts e
  back_take o.Fundamental more vs _ k ts e = absurd e
  back_take o.SignedRest more vs (t.Word w.Char) k ts e = (_, _, ts, (λ kind. g.fundamental g.signed_char (g.more g.last)), e ts refl)
  back_take o.SignedRest more vs (t.Word w.Short) k ts e = signed_short more vs k ts (e ts refl)
  back_take o.SignedRest more vs (t.Word w.Int) k ts e = (_, _, ts, (λ kind. g.fundamental g.signed_int (g.more g.last)), e ts refl)
  back_take o.SignedRest more vs (t.Word w.Long) k ts e = signed_long more vs k ts (e ts refl)
  back_take o.SignedRest more vs _ k ts e = absurd e
  back_take o.UnsignedRest more vs (t.Word w.Char) k ts e = (_, _, ts, (λ kind. g.fundamental g.unsigned_char (g.more g.last)), e ts refl)
  back_take o.UnsignedRest more vs (t.Word w.Short) k ts e = unsigned_short more vs k ts (e ts refl)
  back_take o.UnsignedRest more vs (t.Word w.Int) k ts e = (_, _, ts, (λ kind. g.fundamental g.unsigned_int (g.more g.last)), e ts refl)
  back_take o.UnsignedRest more vs (t.Word w.Long) k ts e = unsigned_long more vs k ts (e ts refl)
  back_take o.UnsignedRest more vs terminal k ts e = back_otherwise o.UnsignedRest more vs (at terminal k ∷ ts) e
  back_take o.Type more vs (t.Word w.Void) k ts e = from_fundamental more vs _ (e (at (t.Word w.Void) k ∷ ts) refl)
  back_take o.Type more vs (t.Word w.Bool) k ts e = from_fundamental more vs _ (e (at (t.Word w.Bool) k ∷ ts) refl)
  back_take o.Type more vs (t.Word w.WideChar) k ts e = from_fundamental more vs _ (e (at (t.Word w.WideChar) k ∷ ts) refl)
  back_take o.Type more vs (t.Word w.Signed) k ts e = from_fundamental more vs _ (e (at (t.Word w.Signed) k ∷ ts) refl)
  back_take o.Type more vs (t.Word w.Unsigned) k ts e = from_fundamental more vs _ (e (at (t.Word w.Unsigned) k ∷ ts) refl)
  back_take o.Type more vs (t.Word w.Short) k ts e = from_fundamental more vs _ (e (at (t.Word w.Short) k ∷ ts) refl)
  back_take o.Type more vs (t.Word w.Int) k ts e = from_fundamental more vs _ (e (at (t.Word w.Int) k ∷ ts) refl)
  back_take o.Type more vs (t.Word w.Long) k ts e = from_fundamental more vs _ (e (at (t.Word w.Long) k ∷ ts) refl)
  back_take o.Type more vs terminal k ts e = back_otherwise o.Type more vs (at terminal k ∷ ts) e
  back_take o.TypeMarks more (v.Type core ∷ vs) (t.Sign s.Caret) k ts e = type_caret more core vs k ts (e ts refl)
  back_take o.TypeMarks more (v.Type core ∷ vs) (t.Sign s.Percent) k ts e = (_, _, ts, (λ us p. g.tracking p), e ts refl)
  back_take o.TypeMarks more (v.Type core ∷ vs) terminal k ts e = back_otherwise o.TypeMarks more (v.Type core ∷ vs) (at terminal k ∷ ts) e
  back_take o.TypeMarks more _ terminal k ts e = tt
  back_take o.HandleRest more (v.Mark m ∷ v.Type core ∷ vs) (t.Sign s.Percent) k ts e = (_, _, ts, (λ us kind p. g.handle_tracking p), e ts refl)
  back_take o.HandleRest more (v.Mark m ∷ v.Type core ∷ vs) terminal k ts e = back_otherwise o.HandleRest more (v.Mark m ∷ v.Type core ∷ vs) (at terminal k ∷ ts) e
  back_take o.HandleRest more _ terminal k ts e = tt
  back_take o.NamedType more vs (t.Name n.Type word) k ts e = last_name more vs word k ts (e ts refl)
  back_take o.NamedType more vs (t.Name n.Plain word) k ts e = outer_name more vs _ k ts plain (e ts refl)
  back_take o.NamedType more vs (t.Name n.Function word) k ts e = outer_name more vs _ k ts function (e ts refl)
  back_take o.NamedType more vs _ k ts e = absurd e
  back_take o.TypePath more vs (t.Name n.Type word) k ts e = end_name more vs word k ts (e ts refl)
  back_take o.TypePath more vs (t.Name n.Plain word) k ts e = next_name more vs _ k ts plain (e ts refl)
  back_take o.TypePath more vs (t.Name n.Function word) k ts e = next_name more vs _ k ts function (e ts refl)
  back_take o.TypePath more vs _ k ts e = absurd e
  back_take o.TemplateArguments more vs (t.Sign s.Less) k ts e = template_arguments more vs k ts (e ts refl)
  back_take o.TemplateArguments more vs terminal k ts e = back_otherwise o.TemplateArguments more vs (at terminal k ∷ ts) e
  back_take o.MoreTypes more (v.Types first ∷ vs) (t.Sign s.Comma) k ts e = more_types more first vs k ts (e ts refl)
  back_take o.MoreTypes more (v.Types first ∷ vs) terminal k ts e = back_otherwise o.MoreTypes more (v.Types first ∷ vs) (at terminal k ∷ ts) e
  back_take o.MoreTypes more _ terminal k ts e = tt
  back_take _ more vs terminal k ts e = tt

  back : (more : List Symbol) (vs : List Value) (ts : List Classified) → Meaning (step (At more vs (read ts))) → Means more vs ts
  back [] vs [] e = (refl, e)
  back [] vs (one ∷ ts) e = absurd e
  back (Act action ∷ more) vs ts e = e ts refl
  back (Back input ∷ more) vs ts e = tt
  back (Non sort ∷ more) vs [] e = back_otherwise sort more vs [] e
  back (Non sort ∷ more) vs (at terminal k ∷ ts) e = back_take sort more vs terminal k ts e

  means : {c d : Config} → Comes c d → Meaning d → Meaning c
  means here m = m
  means {c = At more vs fs} (on p) m = λ ts e. back more vs ts (subst (λ q. Meaning (step (At more vs q))) e (means p m))
  means {c = Bad fs} (on p) m = means p m
  means {c = Done vs} (on p) m = means p m

whole : (vs : List Value) (ts : List Classified) → Means vs (Non o.Type ∷ []) [] ts → (of : TypeName) × (span : Span) × ReadsType of span ts [] × (type_value of span ∷ [] ≡ vs)
whole vs ts (of, span, rest, p, (ends, same)) = (of, span, subst (λ q. ReadsType of span ts q) ends p, same)

pub only_types_are_read : OnlyTypesAreRead
only_types_are_read vs ts p = whole vs ts (means vs p refl ts refl)
