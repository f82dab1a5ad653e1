-- Backwards over what the automaton does at a type.
use Rattle.std.proofs.Common.{sym, subst, refl, List, [], ◌∷◌, append_assoc, append-nil}
use Rattle.cc_tree.specs.declared.token.Token.{Token}
use Rattle.cc_tree.specs.declared.terminal.Terminal.{Terminal}
use Rattle.cc_tree.specs.declared.terminal.Terminal.TheVariants as t
use Rattle.cc_tree.specs.declared.terminal.NameKind.TheVariants as n
use Rattle.cc_tree.specs.declared.terminal.ContextualWord.{ContextualWord}
use Rattle.cc_tree.specs.declared.terminal.ReservedWord.TheVariants as w
use Rattle.cc_tree.specs.declared.terminal.Sign.TheVariants as s
use Rattle.cc_tree.specs.declared.type_name.FundamentalType.TheVariants as f
use Rattle.cc_tree.specs.declared.type_name.TypeName.{TypeName}
use Rattle.cc_tree.specs.declared.type_name.TypeName.TheVariants as type
use Rattle.cc_tree.specs.Terminals.{Classified, at, Id, plain, function}
use Rattle.cc_tree.specs.Spans.{across, identifier, qualified_span}
use Rattle.cc_tree.specs.GrammarTypes as g
use Rattle.cc_tree.specs.GrammarTypes.{ReadsPath, ReadsNamed}
use Rattle.cc_table.specs.declared.symbols.Sort.TheVariants as o
use Rattle.cc_table.specs.declared.symbols.Action.TheVariants as a
use Rattle.cc_table.specs.declared.symbols.Input.{Input}
use Rattle.cc_table.specs.declared.symbols.Input.TheVariants as i
use Rattle.cc_table.specs.declared.symbols.Symbol.{Symbol}
use Rattle.cc_table.specs.declared.symbols.Symbol.TheVariants.{Non, Act}
use Rattle.cc_table.specs.Table.{otherwise}
use Rattle.cc_pushdown.specs.declared.value.Node.{Node}
use Rattle.cc_pushdown.specs.declared.value.Mark.{Mark}
use Rattle.cc_pushdown.specs.declared.value.Value.{Value}
use Rattle.cc_pushdown.specs.declared.value.Value.TheVariants as v
use Rattle.cc_pushdown.specs.Values.{below, top_mark, top_qualified, top_path}
use Rattle.cc_pushdown.specs.Machine.{Fed, fed, At, lack, step}
use Rattle.cc_grammar_laws.proofs.Stands.{token}
use Rattle.cc_grammar_laws.proofs.TypeParts.{takes, no_int, with_int, mark}
use Rattle.cc_grammar_laws.proofs.Means.{Means, Meaning, after}
use Rattle.cc_grammar_laws.proofs.Owed.{at_input}

module _ (last : List Value) where
  from_named : (more : List Symbol) (vs : List Value) (ts : List Classified) → Means last (Non o.NamedType ∷ Non o.TypeMarks ∷ more) vs ts → Means last (Non o.Type ∷ more) vs ts
  from_named more vs ts (of, span, rest, p, (all, whole, behind, q, m)) = (all, whole, behind, q ts (g.named p), m)

  from_fundamental : (more : List Symbol) (vs : List Value) (ts : List Classified) → Means last (Non o.Fundamental ∷ Non o.TypeMarks ∷ more) vs ts → Means last (Non o.Type ∷ more) vs ts
  from_fundamental more vs ts (of, span, rest, p, (all, whole, behind, q, m)) = (all, whole, behind, q ts p, m)

  short_words : (more : List Symbol) (vs : List Value) (k : Token) (ts : List Classified) → Means last (Non o.OptionalInt ∷ Act (a.Fundamental f.Short) ∷ more) (mark (t.Word w.Short) k.span ∷ vs) ts → Means last (Non o.Fundamental ∷ more) vs (at (t.Word w.Short) k ∷ ts)
  short_words more vs k ts (span, rest, no_int, m) = (_, _, _, g.fundamental g.short g.last, m)
  short_words more vs k ts (span, rest, with_int, m) = (_, _, _, g.fundamental g.short_int (g.more g.last), m)

  long_words : (more : List Symbol) (vs : List Value) (k : Token) (ts : List Classified) → Means last (Non o.LongWord ∷ Non o.OptionalInt ∷ Act (a.Fundamental f.LongLong) ∷ more) (mark (t.Word w.Long) k.span ∷ vs) ts → Means last (Non o.Fundamental ∷ more) vs (at (t.Word w.Long) k ∷ ts)
  long_words more vs k ts (l, us, takes, (span, rest, no_int, m)) = (_, _, _, g.fundamental g.long_long (g.more g.last), m)
  long_words more vs k ts (l, us, takes, (span, rest, with_int, m)) = (_, _, _, g.fundamental g.long_long_int (g.more (g.more g.last)), m)

  signed_words : (more : List Symbol) (vs : List Value) (k : Token) (ts : List Classified) → Means last (Non o.SignedRest ∷ more) (mark (t.Word w.Signed) k.span ∷ vs) ts → Means last (Non o.Fundamental ∷ more) vs (at (t.Word w.Signed) k ∷ ts)
  signed_words more vs k ts (of, span, rest, p, m) = (of, span, rest, p k.kind, m)

  unsigned_words : (more : List Symbol) (vs : List Value) (k : Token) (ts : List Classified) → Means last (Non o.UnsignedRest ∷ more) (mark (t.Word w.Unsigned) k.span ∷ vs) ts → Means last (Non o.Fundamental ∷ more) vs (at (t.Word w.Unsigned) k ∷ ts)
  unsigned_words more vs k ts (of, span, rest, p, m) = (of, span, rest, p k.kind, m)

  signed_short : (more : List Symbol) (vs : List Value) (k : Token) (ts : List Classified) → Means last (Non o.OptionalInt ∷ Act (a.Fundamental f.Short) ∷ more) (mark (top_mark vs).terminal (across (top_mark vs).span k.span) ∷ below vs) ts → Means last (Non o.SignedRest ∷ more) vs (at (t.Word w.Short) k ∷ ts)
  signed_short more vs k ts (span, rest, no_int, m) = (_, _, _, (λ kind. g.fundamental g.signed_short (g.more g.last)), m)
  signed_short more vs k ts (span, rest, with_int, m) = (_, _, _, (λ kind. g.fundamental g.signed_short_int (g.more (g.more g.last))), m)

  signed_long : (more : List Symbol) (vs : List Value) (k : Token) (ts : List Classified) → Means last (Non o.LongWord ∷ Non o.OptionalInt ∷ Act (a.Fundamental f.LongLong) ∷ more) (mark (top_mark vs).terminal (across (top_mark vs).span k.span) ∷ below vs) ts → Means last (Non o.SignedRest ∷ more) vs (at (t.Word w.Long) k ∷ ts)
  signed_long more vs k ts (l, us, takes, (span, rest, no_int, m)) = (_, _, _, (λ kind. g.fundamental g.signed_long_long (g.more (g.more g.last))), m)
  signed_long more vs k ts (l, us, takes, (span, rest, with_int, m)) = (_, _, _, (λ kind. g.fundamental g.signed_long_long_int (g.more (g.more (g.more g.last)))), m)

  unsigned_short : (more : List Symbol) (vs : List Value) (k : Token) (ts : List Classified) → Means last (Non o.OptionalInt ∷ Act (a.Fundamental f.UnsignedShort) ∷ more) (mark (top_mark vs).terminal (across (top_mark vs).span k.span) ∷ below vs) ts → Means last (Non o.UnsignedRest ∷ more) vs (at (t.Word w.Short) k ∷ ts)
  unsigned_short more vs k ts (span, rest, no_int, m) = (_, _, _, (λ kind. g.fundamental g.unsigned_short (g.more g.last)), m)
  unsigned_short more vs k ts (span, rest, with_int, m) = (_, _, _, (λ kind. g.fundamental g.unsigned_short_int (g.more (g.more g.last))), m)

  unsigned_long : (more : List Symbol) (vs : List Value) (k : Token) (ts : List Classified) → Means last (Non o.LongWord ∷ Non o.OptionalInt ∷ Act (a.Fundamental f.UnsignedLongLong) ∷ more) (mark (top_mark vs).terminal (across (top_mark vs).span k.span) ∷ below vs) ts → Means last (Non o.UnsignedRest ∷ more) vs (at (t.Word w.Long) k ∷ ts)
  unsigned_long more vs k ts (l, us, takes, (span, rest, no_int, m)) = (_, _, _, (λ kind. g.fundamental g.unsigned_long_long (g.more (g.more g.last))), m)
  unsigned_long more vs k ts (l, us, takes, (span, rest, with_int, m)) = (_, _, _, (λ kind. g.fundamental g.unsigned_long_long_int (g.more (g.more (g.more g.last)))), m)

  -- `ID "::"` before the rest of a type's name
  outer_name : (more : List Symbol) (vs : List Value) (id : Terminal) (k : Token) (ts : List Classified) → Id id → Means last (Non o.Scope ∷ Act a.AddToPath ∷ Non o.TypePath ∷ more) (v.Qualified (record { path = []; name = identifier k }) ∷ vs) ts → Means last (Non o.NamedType ∷ more) vs (at id k ∷ ts)
  outer_name more vs id k ts i (scope, us, takes, (of, span, rest, p, m)) = (of, span, rest, p _ (λ path last q. g.next i q), m)

  next_name : (more : List Symbol) (vs : List Value) (id : Terminal) (k : Token) (ts : List Classified) → Id id → Means last (Non o.Scope ∷ Act a.AddToPath ∷ Non o.TypePath ∷ more) (v.Qualified (record { path = top_path vs; name = identifier k }) ∷ below vs) ts → Means last (Non o.TypePath ∷ more) vs (at id k ∷ ts)
  next_name more vs id k ts i (scope, us, takes, (of, span, rest, p, m)) =
      (of, span, rest, (λ xs h. p xs (λ path last q. subst (λ u. ReadsPath u xs last) (sym (append_assoc (top_path vs) (identifier k ∷ []) path)) (h (identifier k ∷ path) last (g.next i q)))), m)

  last_name : (more : List Symbol) (vs : List Value) (word : ContextualWord) (k : Token) (ts : List Classified) → Means last (Non o.TemplateArguments ∷ more) (v.Qualified (record { path = []; name = identifier k }) ∷ vs) ts → Means last (Non o.NamedType ∷ more) vs (at (t.Name n.Type word) k ∷ ts)
  last_name more vs word k ts (of, span, rest, p, m) = (of, span, rest, p _ word k refl g.none, m)

  end_name : (more : List Symbol) (vs : List Value) (word : ContextualWord) (k : Token) (ts : List Classified) → Means last (Non o.TemplateArguments ∷ more) (v.Qualified (record { path = top_path vs; name = identifier k }) ∷ below vs) ts → Means last (Non o.TypePath ∷ more) vs (at (t.Name n.Type word) k ∷ ts)
  end_name more vs word k ts (of, span, rest, p, m) =
      (of, span, rest, (λ xs h. p xs word k refl (subst (λ u. ReadsPath u xs (at (t.Name n.Type word) k ∷ ts)) (append-nil (top_path vs)) (h [] _ g.none))), m)

  template_arguments : (more : List Symbol) (vs : List Value) (k : Token) (ts : List Classified) → Means last (Act a.StartTypes ∷ Non o.Type ∷ Act a.AddType ∷ Non o.MoreTypes ∷ Non o.KeptGreater ∷ Act a.MakeApplied ∷ more) (mark (t.Sign s.Less) k.span ∷ vs) ts → Means last (Non o.TemplateArguments ∷ more) vs (at (t.Sign s.Less) k ∷ ts)
  template_arguments more vs k ts (of, span, us, p, (types, ws, q, (greater, rest, takes, m))) =
      (_, _, rest, (λ xs word l same r. subst (λ u. ReadsNamed (type.Named (top_qualified vs).path u (of ∷ types) (across (qualified_span (top_qualified vs).path u) greater.span)) (across (qualified_span (top_qualified vs).path u) greater.span) xs rest) same (g.applied r (q of span ts p))), m)

  more_types : (more : List Symbol) (first : List TypeName) (vs : List Value) (k : Token) (ts : List Classified) → Means last (Non o.Type ∷ Act a.AddType ∷ Non o.MoreTypes ∷ more) (v.Types first ∷ vs) ts → Means last (Non o.MoreTypes ∷ more) (v.Types first ∷ vs) (at (t.Sign s.Comma) k ∷ ts)
  more_types more first vs k ts (of, span, us, p, (types, rest, q, m)) =
      (of ∷ types, rest, (λ one whole xs r. g.more r (q of span ts p)), subst (λ u. Means last more (v.Types u ∷ vs) rest) (append_assoc first (of ∷ []) types) m)

  type_caret : (more : List Symbol) (core : Node TypeName) (vs : List Value) (k : Token) (ts : List Classified) → Means last (Non o.HandleRest ∷ more) (mark (t.Sign s.Caret) k.span ∷ v.Type core ∷ vs) ts → Means last (Non o.TypeMarks ∷ more) (v.Type core ∷ vs) (at (t.Sign s.Caret) k ∷ ts)
  type_caret more core vs k ts (of, span, rest, p, m) = (of, span, rest, (λ us q. p us k.kind q), m)

  pub back_LongWord : (more : List Symbol) (vs : List Value) (input : Input) (value : Value) (fs : List Fed) → Meaning last (step (At (Non o.LongWord ∷ more) vs (fed input value ∷ fs))) → Meaning last (At (Non o.LongWord ∷ more) vs (fed input value ∷ fs))
  back_LongWord more vs (i.Token (t.Word w.Long)) value fs e ts (rest, token {k} fits, h) = (k, rest, takes, after last (Act a.JoinMarks ∷ more) (mark (t.Word w.Long) k.span ∷ vs) fs rest h e)
  back_LongWord more vs input value fs e ts h = absurd e

  pub end_LongWord : (more : List Symbol) (vs : List Value) → Meaning last (lack (otherwise o.LongWord) more vs []) → Meaning last (At (Non o.LongWord ∷ more) vs [])
  end_LongWord more vs e = absurd e

  pub back_Fundamental : (more : List Symbol) (vs : List Value) (input : Input) (value : Value) (fs : List Fed) → Meaning last (step (At (Non o.Fundamental ∷ more) vs (fed input value ∷ fs))) → Meaning last (At (Non o.Fundamental ∷ more) vs (fed input value ∷ fs))
  back_Fundamental more vs (i.Token (t.Word w.Void)) value fs e ts (rest, token {k} fits, h) = (_, _, rest, g.fundamental g.void g.last, after last (Act (a.Fundamental f.Void) ∷ more) (mark (t.Word w.Void) k.span ∷ vs) fs rest h e)
  back_Fundamental more vs (i.Token (t.Word w.Bool)) value fs e ts (rest, token {k} fits, h) = (_, _, rest, g.fundamental g.bool g.last, after last (Act (a.Fundamental f.Bool) ∷ more) (mark (t.Word w.Bool) k.span ∷ vs) fs rest h e)
  back_Fundamental more vs (i.Token (t.Word w.WideChar)) value fs e ts (rest, token {k} fits, h) = (_, _, rest, g.fundamental g.wide_char g.last, after last (Act (a.Fundamental f.WideChar) ∷ more) (mark (t.Word w.WideChar) k.span ∷ vs) fs rest h e)
  back_Fundamental more vs (i.Token (t.Word w.Int)) value fs e ts (rest, token {k} fits, h) = (_, _, rest, g.fundamental g.int g.last, after last (Act (a.Fundamental f.Int) ∷ more) (mark (t.Word w.Int) k.span ∷ vs) fs rest h e)
  back_Fundamental more vs (i.Token (t.Word w.Short)) value fs e ts (rest, token {k} fits, h) = short_words more vs k rest (after last (Non o.OptionalInt ∷ Act (a.Fundamental f.Short) ∷ more) (mark (t.Word w.Short) k.span ∷ vs) fs rest h e)
  back_Fundamental more vs (i.Token (t.Word w.Signed)) value fs e ts (rest, token {k} fits, h) = signed_words more vs k rest (after last (Non o.SignedRest ∷ more) (mark (t.Word w.Signed) k.span ∷ vs) fs rest h e)
  back_Fundamental more vs (i.Token (t.Word w.Unsigned)) value fs e ts (rest, token {k} fits, h) = unsigned_words more vs k rest (after last (Non o.UnsignedRest ∷ more) (mark (t.Word w.Unsigned) k.span ∷ vs) fs rest h e)
  back_Fundamental more vs (i.Token (t.Word w.Long)) value fs e ts (rest, token {k} fits, h) = long_words more vs k rest (after last (Non o.LongWord ∷ Non o.OptionalInt ∷ Act (a.Fundamental f.LongLong) ∷ more) (mark (t.Word w.Long) k.span ∷ vs) fs rest h e)
  back_Fundamental more vs input value fs e ts h = absurd e

  pub end_Fundamental : (more : List Symbol) (vs : List Value) → Meaning last (lack (otherwise o.Fundamental) more vs []) → Meaning last (At (Non o.Fundamental ∷ more) vs [])
  end_Fundamental more vs e = absurd e

  pub back_SignedRest : (more : List Symbol) (vs : List Value) (input : Input) (value : Value) (fs : List Fed) → Meaning last (step (At (Non o.SignedRest ∷ more) vs (fed input value ∷ fs))) → Meaning last (At (Non o.SignedRest ∷ more) vs (fed input value ∷ fs))
  back_SignedRest more vs (i.Token (t.Word w.Char)) value fs e ts (rest, token {k} fits, h) = (_, _, rest, (λ kind. g.fundamental g.signed_char (g.more g.last)), after last (Act a.JoinMarks ∷ Act (a.Fundamental f.SignedChar) ∷ more) (mark (t.Word w.Char) k.span ∷ vs) fs rest h e)
  back_SignedRest more vs (i.Token (t.Word w.Int)) value fs e ts (rest, token {k} fits, h) = (_, _, rest, (λ kind. g.fundamental g.signed_int (g.more g.last)), after last (Act a.JoinMarks ∷ Act (a.Fundamental f.Int) ∷ more) (mark (t.Word w.Int) k.span ∷ vs) fs rest h e)
  back_SignedRest more vs (i.Token (t.Word w.Short)) value fs e ts (rest, token {k} fits, h) = signed_short more vs k rest (after last (Act a.JoinMarks ∷ Non o.OptionalInt ∷ Act (a.Fundamental f.Short) ∷ more) (mark (t.Word w.Short) k.span ∷ vs) fs rest h e)
  back_SignedRest more vs (i.Token (t.Word w.Long)) value fs e ts (rest, token {k} fits, h) = signed_long more vs k rest (after last (Act a.JoinMarks ∷ Non o.LongWord ∷ Non o.OptionalInt ∷ Act (a.Fundamental f.LongLong) ∷ more) (mark (t.Word w.Long) k.span ∷ vs) fs rest h e)
  back_SignedRest more vs input value fs e ts h = absurd e

  pub end_SignedRest : (more : List Symbol) (vs : List Value) → Meaning last (lack (otherwise o.SignedRest) more vs []) → Meaning last (At (Non o.SignedRest ∷ more) vs [])
  end_SignedRest more vs e = absurd e

  pub back_UnsignedRest : (more : List Symbol) (vs : List Value) (input : Input) (value : Value) (fs : List Fed) → Meaning last (step (At (Non o.UnsignedRest ∷ more) vs (fed input value ∷ fs))) → Meaning last (At (Non o.UnsignedRest ∷ more) vs (fed input value ∷ fs))
  back_UnsignedRest more vs (i.Token (t.Word w.Char)) value fs e ts (rest, token {k} fits, h) = (_, _, rest, (λ kind. g.fundamental g.unsigned_char (g.more g.last)), after last (Act a.JoinMarks ∷ Act (a.Fundamental f.UnsignedChar) ∷ more) (mark (t.Word w.Char) k.span ∷ vs) fs rest h e)
  back_UnsignedRest more vs (i.Token (t.Word w.Int)) value fs e ts (rest, token {k} fits, h) = (_, _, rest, (λ kind. g.fundamental g.unsigned_int (g.more g.last)), after last (Act a.JoinMarks ∷ Act (a.Fundamental f.UnsignedInt) ∷ more) (mark (t.Word w.Int) k.span ∷ vs) fs rest h e)
  back_UnsignedRest more vs (i.Token (t.Word w.Short)) value fs e ts (rest, token {k} fits, h) = unsigned_short more vs k rest (after last (Act a.JoinMarks ∷ Non o.OptionalInt ∷ Act (a.Fundamental f.UnsignedShort) ∷ more) (mark (t.Word w.Short) k.span ∷ vs) fs rest h e)
  back_UnsignedRest more vs (i.Token (t.Word w.Long)) value fs e ts (rest, token {k} fits, h) = unsigned_long more vs k rest (after last (Act a.JoinMarks ∷ Non o.LongWord ∷ Non o.OptionalInt ∷ Act (a.Fundamental f.UnsignedLongLong) ∷ more) (mark (t.Word w.Long) k.span ∷ vs) fs rest h e)
  back_UnsignedRest more vs i.ConstructorName value fs e ts h = tt
  back_UnsignedRest more vs input value fs e ts h = (_, _, ts, (λ kind. g.fundamental g.unsigned g.last), e ts h)

  pub end_UnsignedRest : (more : List Symbol) (vs : List Value) → Meaning last (lack (otherwise o.UnsignedRest) more vs []) → Meaning last (At (Non o.UnsignedRest ∷ more) vs [])
  end_UnsignedRest more vs e ts h = (_, _, ts, (λ kind. g.fundamental g.unsigned g.last), e ts h)

  maybe_int : (more : List Symbol) (m : Mark) (vs : List Value) (input : Input) (value : Value) (fs : List Fed) → Meaning last (step (At (Non o.OptionalInt ∷ more) (v.Mark m ∷ vs) (fed input value ∷ fs))) → Meaning last (At (Non o.OptionalInt ∷ more) (v.Mark m ∷ vs) (fed input value ∷ fs))
  maybe_int more m vs (i.Token (t.Word w.Int)) value fs e ts (rest, token {k} fits, h) = (_, rest, with_int, after last (Act a.JoinMarks ∷ more) (mark (t.Word w.Int) k.span ∷ v.Mark m ∷ vs) fs rest h e)
  maybe_int more m vs i.ConstructorName value fs e ts h = tt
  maybe_int more m vs input value fs e ts h = (m.span, ts, no_int, e ts h)

  pub back_OptionalInt : (more : List Symbol) (vs : List Value) (input : Input) (value : Value) (fs : List Fed) → Meaning last (step (At (Non o.OptionalInt ∷ more) vs (fed input value ∷ fs))) → Meaning last (At (Non o.OptionalInt ∷ more) vs (fed input value ∷ fs))
  back_OptionalInt more (v.Mark m ∷ vs) input value fs e = maybe_int more m vs input value fs e
  back_OptionalInt more vs input value fs e = λ ts h. at_input input (Non o.OptionalInt ∷ more) (Means last (Non o.OptionalInt ∷ more)) vs ts tt

  pub end_OptionalInt : (more : List Symbol) (vs : List Value) → Meaning last (lack (otherwise o.OptionalInt) more vs []) → Meaning last (At (Non o.OptionalInt ∷ more) vs [])
  end_OptionalInt more (v.Mark m ∷ vs) e ts h = (m.span, ts, no_int, e ts h)
  end_OptionalInt more vs e ts h = tt

  pub back_Type : (more : List Symbol) (vs : List Value) (input : Input) (value : Value) (fs : List Fed) → Meaning last (step (At (Non o.Type ∷ more) vs (fed input value ∷ fs))) → Meaning last (At (Non o.Type ∷ more) vs (fed input value ∷ fs))
  back_Type more vs (i.Token (t.Word w.Void)) value fs e ts h = from_fundamental more vs ts (e ts h)
  back_Type more vs (i.Token (t.Word w.Bool)) value fs e ts h = from_fundamental more vs ts (e ts h)
  back_Type more vs (i.Token (t.Word w.WideChar)) value fs e ts h = from_fundamental more vs ts (e ts h)
  back_Type more vs (i.Token (t.Word w.Signed)) value fs e ts h = from_fundamental more vs ts (e ts h)
  back_Type more vs (i.Token (t.Word w.Unsigned)) value fs e ts h = from_fundamental more vs ts (e ts h)
  back_Type more vs (i.Token (t.Word w.Short)) value fs e ts h = from_fundamental more vs ts (e ts h)
  back_Type more vs (i.Token (t.Word w.Int)) value fs e ts h = from_fundamental more vs ts (e ts h)
  back_Type more vs (i.Token (t.Word w.Long)) value fs e ts h = from_fundamental more vs ts (e ts h)
  back_Type more vs i.ConstructorName value fs e ts h = tt
  back_Type more vs input value fs e ts h = from_named more vs ts (e ts h)

  pub end_Type : (more : List Symbol) (vs : List Value) → Meaning last (lack (otherwise o.Type) more vs []) → Meaning last (At (Non o.Type ∷ more) vs [])
  end_Type more vs e ts h = from_named more vs ts (e ts h)

  type_marks : (more : List Symbol) (core : Node TypeName) (vs : List Value) (input : Input) (value : Value) (fs : List Fed) → Meaning last (step (At (Non o.TypeMarks ∷ more) (v.Type core ∷ vs) (fed input value ∷ fs))) → Meaning last (At (Non o.TypeMarks ∷ more) (v.Type core ∷ vs) (fed input value ∷ fs))
  type_marks more core vs (i.Token (t.Sign s.Caret)) value fs e ts (rest, token {k} fits, h) = type_caret more core vs k rest (after last (Non o.HandleRest ∷ more) (mark (t.Sign s.Caret) k.span ∷ v.Type core ∷ vs) fs rest h e)
  type_marks more core vs (i.Token (t.Sign s.Percent)) value fs e ts (rest, token {k} fits, h) = (_, _, rest, (λ us p. g.tracking p), after last (Act a.MakeTracking ∷ more) (mark (t.Sign s.Percent) k.span ∷ v.Type core ∷ vs) fs rest h e)
  type_marks more core vs i.ConstructorName value fs e ts h = tt
  type_marks more core vs input value fs e ts h = (core.tree, core.span, ts, (λ us p. g.core p), e ts h)

  pub back_TypeMarks : (more : List Symbol) (vs : List Value) (input : Input) (value : Value) (fs : List Fed) → Meaning last (step (At (Non o.TypeMarks ∷ more) vs (fed input value ∷ fs))) → Meaning last (At (Non o.TypeMarks ∷ more) vs (fed input value ∷ fs))
  back_TypeMarks more (v.Type core ∷ vs) input value fs e = type_marks more core vs input value fs e
  back_TypeMarks more vs input value fs e = λ ts h. at_input input (Non o.TypeMarks ∷ more) (Means last (Non o.TypeMarks ∷ more)) vs ts tt

  pub end_TypeMarks : (more : List Symbol) (vs : List Value) → Meaning last (lack (otherwise o.TypeMarks) more vs []) → Meaning last (At (Non o.TypeMarks ∷ more) vs [])
  end_TypeMarks more (v.Type core ∷ vs) e ts h = (core.tree, core.span, ts, (λ us p. g.core p), e ts h)
  end_TypeMarks more vs e ts h = tt

  handle_rest : (more : List Symbol) (m : Mark) (core : Node TypeName) (vs : List Value) (input : Input) (value : Value) (fs : List Fed) → Meaning last (step (At (Non o.HandleRest ∷ more) (v.Mark m ∷ v.Type core ∷ vs) (fed input value ∷ fs))) → Meaning last (At (Non o.HandleRest ∷ more) (v.Mark m ∷ v.Type core ∷ vs) (fed input value ∷ fs))
  handle_rest more m core vs (i.Token (t.Sign s.Percent)) value fs e ts (rest, token {k} fits, h) = (_, _, rest, (λ us kind p. g.handle_tracking p), after last (Act a.MakeHandleTracking ∷ more) (mark (t.Sign s.Percent) k.span ∷ v.Mark m ∷ v.Type core ∷ vs) fs rest h e)
  handle_rest more m core vs i.ConstructorName value fs e ts h = tt
  handle_rest more m core vs input value fs e ts h = (_, _, ts, (λ us kind p. g.handle p), e ts h)

  pub back_HandleRest : (more : List Symbol) (vs : List Value) (input : Input) (value : Value) (fs : List Fed) → Meaning last (step (At (Non o.HandleRest ∷ more) vs (fed input value ∷ fs))) → Meaning last (At (Non o.HandleRest ∷ more) vs (fed input value ∷ fs))
  back_HandleRest more (v.Mark m ∷ v.Type core ∷ vs) input value fs e = handle_rest more m core vs input value fs e
  back_HandleRest more vs input value fs e = λ ts h. at_input input (Non o.HandleRest ∷ more) (Means last (Non o.HandleRest ∷ more)) vs ts tt

  pub end_HandleRest : (more : List Symbol) (vs : List Value) → Meaning last (lack (otherwise o.HandleRest) more vs []) → Meaning last (At (Non o.HandleRest ∷ more) vs [])
  end_HandleRest more (v.Mark m ∷ v.Type core ∷ vs) e ts h = (_, _, ts, (λ us kind p. g.handle p), e ts h)
  end_HandleRest more vs e ts h = tt

  pub back_NamedType : (more : List Symbol) (vs : List Value) (input : Input) (value : Value) (fs : List Fed) → Meaning last (step (At (Non o.NamedType ∷ more) vs (fed input value ∷ fs))) → Meaning last (At (Non o.NamedType ∷ more) vs (fed input value ∷ fs))
  back_NamedType more vs (i.Token (t.Name n.Type word)) value fs e ts (rest, token {k} fits, h) = last_name more vs word k rest (after last (Act a.StartPath ∷ Non o.TemplateArguments ∷ more) (v.Name (record { kind = n.Type; word = word; identifier = identifier k }) ∷ vs) fs rest h e)
  back_NamedType more vs (i.Token (t.Name n.Plain word)) value fs e ts (rest, token {k} fits, h) = outer_name more vs (t.Name n.Plain word) k rest plain (after last (Act a.StartPath ∷ Non o.Scope ∷ Act a.AddToPath ∷ Non o.TypePath ∷ more) (v.Name (record { kind = n.Plain; word = word; identifier = identifier k }) ∷ vs) fs rest h e)
  back_NamedType more vs (i.Token (t.Name n.Function word)) value fs e ts (rest, token {k} fits, h) = outer_name more vs (t.Name n.Function word) k rest function (after last (Act a.StartPath ∷ Non o.Scope ∷ Act a.AddToPath ∷ Non o.TypePath ∷ more) (v.Name (record { kind = n.Function; word = word; identifier = identifier k }) ∷ vs) fs rest h e)
  back_NamedType more vs input value fs e ts h = absurd e

  pub end_NamedType : (more : List Symbol) (vs : List Value) → Meaning last (lack (otherwise o.NamedType) more vs []) → Meaning last (At (Non o.NamedType ∷ more) vs [])
  end_NamedType more vs e = absurd e

  pub back_TypePath : (more : List Symbol) (vs : List Value) (input : Input) (value : Value) (fs : List Fed) → Meaning last (step (At (Non o.TypePath ∷ more) vs (fed input value ∷ fs))) → Meaning last (At (Non o.TypePath ∷ more) vs (fed input value ∷ fs))
  back_TypePath more vs (i.Token (t.Name n.Type word)) value fs e ts (rest, token {k} fits, h) = end_name more vs word k rest (after last (Act a.EndPath ∷ Non o.TemplateArguments ∷ more) (v.Name (record { kind = n.Type; word = word; identifier = identifier k }) ∷ vs) fs rest h e)
  back_TypePath more vs (i.Token (t.Name n.Plain word)) value fs e ts (rest, token {k} fits, h) = next_name more vs (t.Name n.Plain word) k rest plain (after last (Act a.EndPath ∷ Non o.Scope ∷ Act a.AddToPath ∷ Non o.TypePath ∷ more) (v.Name (record { kind = n.Plain; word = word; identifier = identifier k }) ∷ vs) fs rest h e)
  back_TypePath more vs (i.Token (t.Name n.Function word)) value fs e ts (rest, token {k} fits, h) = next_name more vs (t.Name n.Function word) k rest function (after last (Act a.EndPath ∷ Non o.Scope ∷ Act a.AddToPath ∷ Non o.TypePath ∷ more) (v.Name (record { kind = n.Function; word = word; identifier = identifier k }) ∷ vs) fs rest h e)
  back_TypePath more vs input value fs e ts h = absurd e

  pub end_TypePath : (more : List Symbol) (vs : List Value) → Meaning last (lack (otherwise o.TypePath) more vs []) → Meaning last (At (Non o.TypePath ∷ more) vs [])
  end_TypePath more vs e = absurd e

  no_arguments : (more : List Symbol) (vs : List Value) (ts : List Classified) → Means last (Act a.MakeNamed ∷ more) vs ts → Means last (Non o.TemplateArguments ∷ more) vs ts
  no_arguments more vs ts m =
      (_, _, ts, (λ us word k same p. subst (λ q. ReadsNamed (type.Named (top_qualified vs).path q [] (qualified_span (top_qualified vs).path q)) (qualified_span (top_qualified vs).path q) us ts) same (g.alone p)), m)

  pub back_TemplateArguments : (more : List Symbol) (vs : List Value) (input : Input) (value : Value) (fs : List Fed) → Meaning last (step (At (Non o.TemplateArguments ∷ more) vs (fed input value ∷ fs))) → Meaning last (At (Non o.TemplateArguments ∷ more) vs (fed input value ∷ fs))
  back_TemplateArguments more vs (i.Token (t.Sign s.Less)) value fs e ts (rest, token {k} fits, h) = template_arguments more vs k rest (after last (Act a.StartTypes ∷ Non o.Type ∷ Act a.AddType ∷ Non o.MoreTypes ∷ Non o.KeptGreater ∷ Act a.MakeApplied ∷ more) (mark (t.Sign s.Less) k.span ∷ vs) fs rest h e)
  back_TemplateArguments more vs i.ConstructorName value fs e ts h = tt
  back_TemplateArguments more vs input value fs e ts h = no_arguments more vs ts (e ts h)

  pub end_TemplateArguments : (more : List Symbol) (vs : List Value) → Meaning last (lack (otherwise o.TemplateArguments) more vs []) → Meaning last (At (Non o.TemplateArguments ∷ more) vs [])
  end_TemplateArguments more vs e ts h = no_arguments more vs ts (e ts h)

  no_more_types : (more : List Symbol) (first : List TypeName) (vs : List Value) (ts : List Classified) → Means last more (v.Types first ∷ vs) ts → Means last (Non o.MoreTypes ∷ more) (v.Types first ∷ vs) ts
  no_more_types more first vs ts m = ([], ts, (λ of span us p. g.last p), subst (λ q. Means last more (v.Types q ∷ vs) ts) (sym (append-nil first)) m)

  types_rest : (more : List Symbol) (first : List TypeName) (vs : List Value) (input : Input) (value : Value) (fs : List Fed) → Meaning last (step (At (Non o.MoreTypes ∷ more) (v.Types first ∷ vs) (fed input value ∷ fs))) → Meaning last (At (Non o.MoreTypes ∷ more) (v.Types first ∷ vs) (fed input value ∷ fs))
  types_rest more first vs (i.Token (t.Sign s.Comma)) value fs e ts (rest, token {k} fits, h) = more_types more first vs k rest (after last (Non o.Type ∷ Act a.AddType ∷ Non o.MoreTypes ∷ more) (v.Types first ∷ vs) fs rest h e)
  types_rest more first vs i.ConstructorName value fs e ts h = tt
  types_rest more first vs input value fs e ts h = no_more_types more first vs ts (e ts h)

  pub back_MoreTypes : (more : List Symbol) (vs : List Value) (input : Input) (value : Value) (fs : List Fed) → Meaning last (step (At (Non o.MoreTypes ∷ more) vs (fed input value ∷ fs))) → Meaning last (At (Non o.MoreTypes ∷ more) vs (fed input value ∷ fs))
  back_MoreTypes more (v.Types first ∷ vs) input value fs e = types_rest more first vs input value fs e
  back_MoreTypes more vs input value fs e = λ ts h. at_input input (Non o.MoreTypes ∷ more) (Means last (Non o.MoreTypes ∷ more)) vs ts tt

  pub end_MoreTypes : (more : List Symbol) (vs : List Value) → Meaning last (lack (otherwise o.MoreTypes) more vs []) → Meaning last (At (Non o.MoreTypes ∷ more) vs [])
  end_MoreTypes more (v.Types first ∷ vs) e ts h = no_more_types more first vs ts (e ts h)
  end_MoreTypes more vs e ts h = tt
