-- Backwards over what the automaton does at enumerations.
use Rattle.std.proofs.Common.{sym, subst, refl, List, [], ◌∷◌, append_assoc, append-nil}
use Rattle.std.specs.Prelude.{Some, None}
use Rattle.cc_base.specs.declared.text.Span.{Span}
use Rattle.cc_tree.specs.declared.token.Token.{Token}
use Rattle.cc_tree.specs.declared.token.TokenKind.{TokenKind}
use Rattle.cc_tree.specs.declared.terminal.Terminal.{Terminal}
use Rattle.cc_tree.specs.declared.terminal.Terminal.TheVariants as t
use Rattle.cc_tree.specs.declared.terminal.NameKind.TheVariants as n
use Rattle.cc_tree.specs.declared.terminal.ContextualWord.{ContextualWord}
use Rattle.cc_tree.specs.declared.terminal.ReservedWord.TheVariants as w
use Rattle.cc_tree.specs.declared.terminal.Sign.TheVariants as s
use Rattle.cc_tree.specs.Spans.{across, identifier}
use Rattle.cc_tree.specs.Terminals.{Classified, at, plain, function}
use Rattle.cc_table.specs.declared.symbols.Sort.TheVariants as o
use Rattle.cc_table.specs.declared.symbols.Action.TheVariants as a
use Rattle.cc_table.specs.declared.symbols.Input.{Input}
use Rattle.cc_table.specs.declared.symbols.Input.TheVariants as i
use Rattle.cc_table.specs.declared.symbols.Symbol.{Symbol}
use Rattle.cc_table.specs.declared.symbols.Symbol.TheVariants.{Non, Act}
use Rattle.cc_table.specs.Table.{otherwise}
use Rattle.cc_pushdown.specs.declared.value.Value.{Value}
use Rattle.cc_pushdown.specs.declared.value.Value.TheVariants as v
use Rattle.cc_pushdown.specs.Machine.{Fed, fed, At, lack, step}
use Rattle.cc_grammar_laws.proofs.Stands.{StandsToken, token, Ahead}
use Rattle.cc_grammar_laws.proofs.TypeParts.{takes, mark}
use Rattle.cc_grammar_laws.proofs.Means.{Means, Meaning, after}
use Rattle.cc_grammar_laws.proofs.Owed.{at_input}
use Rattle.cc_tree.specs.GrammarUnit as u
use Rattle.std.specs.Prelude.{true, false}
use Rattle.cc_tree.specs.declared.token.TokenKind.TheVariants as kind
use Rattle.cc_tree.specs.declared.class.Enumerator.{Enumerator}
use Rattle.cc_tree.specs.GrammarExpressions as x
use Rattle.cc_tree.specs.GrammarUnit.{ReadsEnumerator}
use Rattle.cc_grammar_laws.specs.Read.{number_value}
use Rattle.cc_grammar_laws.proofs.Stands.{Fitting}
use Rattle.cc_grammar_laws.proofs.OuterParts.{takes_aggregate}

module _ (last : List Value) where
  take_AggregateWord : (more : List Symbol) (vs : List Value) (terminal : Terminal) (value : Value) (fs : List Fed) (ts rest : List Classified) → StandsToken terminal value ts rest → Ahead fs rest
      → Meaning last (step (At (Non o.AggregateWord ∷ more) vs (fed (i.Token terminal) value ∷ fs))) → Means last (Non o.AggregateWord ∷ more) vs ts
  take_AggregateWord more vs (t.Word w.Class) _ fs _ rest (token {k} f) h e = (w.Class, k, rest, takes_aggregate u.class_, (after last (more) (mark (t.Word w.Class) k.span ∷ vs) fs rest h e))
  take_AggregateWord more vs (t.Word w.Struct) _ fs _ rest (token {k} f) h e = (w.Struct, k, rest, takes_aggregate u.struct, (after last (more) (mark (t.Word w.Struct) k.span ∷ vs) fs rest h e))
  take_AggregateWord more vs _ value fs ts rest p h e = absurd e

  pub back_AggregateWord : (more : List Symbol) (vs : List Value) (input : Input) (value : Value) (fs : List Fed) → Meaning last (step (At (Non o.AggregateWord ∷ more) vs (fed input value ∷ fs))) → Meaning last (At (Non o.AggregateWord ∷ more) vs (fed input value ∷ fs))
  back_AggregateWord more vs i.ConstructorName value fs e ts h = absurd e
  back_AggregateWord more vs (i.Token terminal) value fs e ts (rest, p, h) = take_AggregateWord more vs terminal value fs ts rest p h e
  back_AggregateWord more vs input value fs e ts h = absurd e

  pub end_AggregateWord : (more : List Symbol) (vs : List Value) → Meaning last (lack (otherwise o.AggregateWord) more vs []) → Meaning last (At (Non o.AggregateWord ∷ more) vs [])
  end_AggregateWord more vs e ts h = absurd e

  enum_row : (more : List Symbol) (vs : List Value) (k : Token) (ts : List Classified) → Means last (Non o.AggregateWord ∷ Non o.AnyName ∷ Non o.OpenBrace ∷ Act a.StartEnumerators ∷ Non o.Enumerators ∷ Non o.CloseBrace ∷ Non o.KeptSemicolon ∷ Act a.MakeEnumeration ∷ more) (mark (t.Word w.Enum) k.span ∷ vs) ts
      → Means last (Non o.Enumeration ∷ more) vs (at (t.Word w.Enum) k ∷ ts)
  enum_row more vs k ts (second, l, us, takes_aggregate g, (kind, word, name, ws, takes, (open_, xs, takes, (items, ys, q, (close, zs, takes, (semicolon, rest, takes, m)))))) = (_, rest, u.enum_ g q, m)

  take_Enumeration : (more : List Symbol) (vs : List Value) (terminal : Terminal) (value : Value) (fs : List Fed) (ts rest : List Classified) → StandsToken terminal value ts rest → Ahead fs rest
      → Meaning last (step (At (Non o.Enumeration ∷ more) vs (fed (i.Token terminal) value ∷ fs))) → Means last (Non o.Enumeration ∷ more) vs ts
  take_Enumeration more vs (t.Word w.Enum) _ fs _ rest (token {k} f) h e = enum_row more vs k rest (after last (Non o.AggregateWord ∷ Non o.AnyName ∷ Non o.OpenBrace ∷ Act a.StartEnumerators ∷ Non o.Enumerators ∷ Non o.CloseBrace ∷ Non o.KeptSemicolon ∷ Act a.MakeEnumeration ∷ more) (mark (t.Word w.Enum) k.span ∷ vs) fs rest h e)
  take_Enumeration more vs _ value fs ts rest p h e = absurd e

  pub back_Enumeration : (more : List Symbol) (vs : List Value) (input : Input) (value : Value) (fs : List Fed) → Meaning last (step (At (Non o.Enumeration ∷ more) vs (fed input value ∷ fs))) → Meaning last (At (Non o.Enumeration ∷ more) vs (fed input value ∷ fs))
  back_Enumeration more vs i.ConstructorName value fs e ts h = absurd e
  back_Enumeration more vs (i.Token terminal) value fs e ts (rest, p, h) = take_Enumeration more vs terminal value fs ts rest p h e
  back_Enumeration more vs input value fs e ts h = absurd e

  pub end_Enumeration : (more : List Symbol) (vs : List Value) → Meaning last (lack (otherwise o.Enumeration) more vs []) → Meaning last (At (Non o.Enumeration ∷ more) vs [])
  end_Enumeration more vs e ts h = absurd e

  no_enumerators : (more : List Symbol) (first : List Enumerator) (vs : List Value) (ts : List Classified) → Means last more (v.Enumerators first ∷ vs) ts → Means last (Non o.Enumerators ∷ more) (v.Enumerators first ∷ vs) ts
  no_enumerators more first vs ts m = ([], ts, u.none, subst (λ q. Means last more (v.Enumerators q ∷ vs) ts) (sym (append-nil first)) m)

  enumerators_row : (more : List Symbol) (first : List Enumerator) (vs : List Value) (ts : List Classified) → Means last (Non o.Enumerator ∷ Act a.AddEnumerator ∷ Non o.MoreEnumerators ∷ more) (v.Enumerators first ∷ vs) ts → Means last (Non o.Enumerators ∷ more) (v.Enumerators first ∷ vs) ts
  enumerators_row more first vs ts (one, us, p, (items, rest, q, m)) = (one ∷ items, rest, q one ts p, subst (λ q. Means last more (v.Enumerators q ∷ vs) rest) (append_assoc first (one ∷ []) items) m)

  take_Enumerators : (more : List Symbol) (first : List Enumerator) (vs : List Value) (terminal : Terminal) (value : Value) (fs : List Fed) (ts rest : List Classified) → StandsToken terminal value ts rest → Ahead fs rest
      → Meaning last (step (At (Non o.Enumerators ∷ more) (v.Enumerators first ∷ vs) (fed (i.Token terminal) value ∷ fs))) → Means last (Non o.Enumerators ∷ more) (v.Enumerators first ∷ vs) ts
  take_Enumerators more first vs (t.Sign s.CloseBrace) value fs ts rest p h e = no_enumerators more first vs ts (e ts (rest, p, h))
  take_Enumerators more first vs terminal value fs ts rest p h e = enumerators_row more first vs ts (e ts (rest, p, h))

  pub back_Enumerators : (more : List Symbol) (vs : List Value) (input : Input) (value : Value) (fs : List Fed) → Meaning last (step (At (Non o.Enumerators ∷ more) vs (fed input value ∷ fs))) → Meaning last (At (Non o.Enumerators ∷ more) vs (fed input value ∷ fs))
  back_Enumerators more (v.Enumerators first ∷ vs) i.ConstructorName value fs e ts h = tt
  back_Enumerators more (v.Enumerators first ∷ vs) (i.Token terminal) value fs e ts (rest, p, h) = take_Enumerators more first vs terminal value fs ts rest p h e
  back_Enumerators more (v.Enumerators first ∷ vs) input value fs e ts h = enumerators_row more first vs ts (e ts h)
  back_Enumerators more vs input value fs e ts h = at_input input (Non o.Enumerators ∷ more) (Means last (Non o.Enumerators ∷ more)) vs ts tt

  pub end_Enumerators : (more : List Symbol) (vs : List Value) → Meaning last (lack (otherwise o.Enumerators) more vs []) → Meaning last (At (Non o.Enumerators ∷ more) vs [])
  end_Enumerators more (v.Enumerators first ∷ vs) e ts h = enumerators_row more first vs ts (e ts h)
  end_Enumerators more vs e ts h = tt

  more_enumerators : (more : List Symbol) (first : List Enumerator) (vs : List Value) (k : Token) (ts : List Classified) → Means last (Non o.Enumerators ∷ more) (v.Enumerators first ∷ vs) ts
      → Means last (Non o.MoreEnumerators ∷ more) (v.Enumerators first ∷ vs) (at (t.Sign s.Comma) k ∷ ts)
  more_enumerators more first vs k ts (items, rest, q, m) = (items, rest, (λ one us r. u.more r q), m)

  no_more_enumerators : (more : List Symbol) (first : List Enumerator) (vs : List Value) (ts : List Classified) → Means last (more) (v.Enumerators first ∷ vs) ts → Means last (Non o.MoreEnumerators ∷ more) (v.Enumerators first ∷ vs) ts
  no_more_enumerators more first vs ts m = ([], ts, (λ one us r. u.last r), subst (λ q. Means last more (v.Enumerators q ∷ vs) ts) (sym (append-nil first)) m)

  take_MoreEnumerators : (more : List Symbol) (first : List Enumerator) (vs : List Value) (terminal : Terminal) (value : Value) (fs : List Fed) (ts rest : List Classified) → StandsToken terminal value ts rest → Ahead fs rest
      → Meaning last (step (At (Non o.MoreEnumerators ∷ more) (v.Enumerators first ∷ vs) (fed (i.Token terminal) value ∷ fs))) → Means last (Non o.MoreEnumerators ∷ more) (v.Enumerators first ∷ vs) ts
  take_MoreEnumerators more first vs (t.Sign s.Comma) _ fs _ rest (token {k} f) h e = more_enumerators more first vs k rest (after last (Non o.Enumerators ∷ more) (v.Enumerators first ∷ vs) fs rest h e)
  take_MoreEnumerators more first vs terminal value fs ts rest p h e = no_more_enumerators more first vs ts (e ts (rest, p, h))

  pub back_MoreEnumerators : (more : List Symbol) (vs : List Value) (input : Input) (value : Value) (fs : List Fed) → Meaning last (step (At (Non o.MoreEnumerators ∷ more) vs (fed input value ∷ fs))) → Meaning last (At (Non o.MoreEnumerators ∷ more) vs (fed input value ∷ fs))
  back_MoreEnumerators more (v.Enumerators first ∷ vs) i.ConstructorName value fs e ts h = tt
  back_MoreEnumerators more (v.Enumerators first ∷ vs) (i.Token terminal) value fs e ts (rest, p, h) = take_MoreEnumerators more first vs terminal value fs ts rest p h e
  back_MoreEnumerators more (v.Enumerators first ∷ vs) input value fs e ts h = no_more_enumerators more first vs ts (e ts h)
  back_MoreEnumerators more vs input value fs e ts h = at_input input (Non o.MoreEnumerators ∷ more) (Means last (Non o.MoreEnumerators ∷ more)) vs ts tt

  pub end_MoreEnumerators : (more : List Symbol) (vs : List Value) → Meaning last (lack (otherwise o.MoreEnumerators) more vs []) → Meaning last (At (Non o.MoreEnumerators ∷ more) vs [])
  end_MoreEnumerators more (v.Enumerators first ∷ vs) e ts h = no_more_enumerators more first vs ts (e ts h)
  end_MoreEnumerators more vs e ts h = tt

  plain_enumerator : (more : List Symbol) (vs : List Value) (word : ContextualWord) (k : Token) (ts : List Classified) → Means last (Non o.EnumeratorRest ∷ more) (v.Name (record { kind = n.Plain; word = word; identifier = identifier k }) ∷ vs) ts
      → Means last (Non o.Enumerator ∷ more) vs (at (t.Name n.Plain word) k ∷ ts)
  plain_enumerator more vs word k ts (one, rest, p, m) = (one, rest, p (t.Name n.Plain word) k plain refl, m)

  function_enumerator : (more : List Symbol) (vs : List Value) (word : ContextualWord) (k : Token) (ts : List Classified) → Means last (Non o.EnumeratorRest ∷ more) (v.Name (record { kind = n.Function; word = word; identifier = identifier k }) ∷ vs) ts
      → Means last (Non o.Enumerator ∷ more) vs (at (t.Name n.Function word) k ∷ ts)
  function_enumerator more vs word k ts (one, rest, p, m) = (one, rest, p (t.Name n.Function word) k function refl, m)

  take_Enumerator : (more : List Symbol) (vs : List Value) (terminal : Terminal) (value : Value) (fs : List Fed) (ts rest : List Classified) → StandsToken terminal value ts rest → Ahead fs rest
      → Meaning last (step (At (Non o.Enumerator ∷ more) vs (fed (i.Token terminal) value ∷ fs))) → Means last (Non o.Enumerator ∷ more) vs ts
  take_Enumerator more vs (t.Name n.Plain word) _ fs _ rest (token {k} f) h e = plain_enumerator more vs word k rest (after last (Non o.EnumeratorRest ∷ more) (v.Name (record { kind = n.Plain; word = word; identifier = identifier k }) ∷ vs) fs rest h e)
  take_Enumerator more vs (t.Name n.Function word) _ fs _ rest (token {k} f) h e = function_enumerator more vs word k rest (after last (Non o.EnumeratorRest ∷ more) (v.Name (record { kind = n.Function; word = word; identifier = identifier k }) ∷ vs) fs rest h e)
  take_Enumerator more vs _ value fs ts rest p h e = absurd e

  pub back_Enumerator : (more : List Symbol) (vs : List Value) (input : Input) (value : Value) (fs : List Fed) → Meaning last (step (At (Non o.Enumerator ∷ more) vs (fed input value ∷ fs))) → Meaning last (At (Non o.Enumerator ∷ more) vs (fed input value ∷ fs))
  back_Enumerator more vs i.ConstructorName value fs e ts h = absurd e
  back_Enumerator more vs (i.Token terminal) value fs e ts (rest, p, h) = take_Enumerator more vs terminal value fs ts rest p h e
  back_Enumerator more vs input value fs e ts h = absurd e

  pub end_Enumerator : (more : List Symbol) (vs : List Value) → Meaning last (lack (otherwise o.Enumerator) more vs []) → Meaning last (At (Non o.Enumerator ∷ more) vs [])
  end_Enumerator more vs e ts h = absurd e

  number_follows : (more : List Symbol) (vs : List Value) (k : Token) (ts : List Classified) → Means last (Non o.EnumeratorNumber ∷ more) (vs) ts
      → Means last (Non o.EnumeratorRest ∷ more) vs (at (t.Sign s.Assign) k ∷ ts)
  number_follows more vs k ts (one, rest, p, m) = (one, rest, (λ id l i same. p id l k i same), m)

  no_number : (more : List Symbol) (vs : List Value) (ts : List Classified) → Means last (Act a.MakeEnumerator ∷ more) vs ts → Means last (Non o.EnumeratorRest ∷ more) vs ts
  no_number more vs ts m = (_, ts, (λ id l i same. subst (λ d. ReadsEnumerator (record { name = d; value = None; span = d.span }) (at id l ∷ ts) ts) same (u.alone i)), m)

  take_EnumeratorRest : (more : List Symbol) (vs : List Value) (terminal : Terminal) (value : Value) (fs : List Fed) (ts rest : List Classified) → StandsToken terminal value ts rest → Ahead fs rest
      → Meaning last (step (At (Non o.EnumeratorRest ∷ more) vs (fed (i.Token terminal) value ∷ fs))) → Means last (Non o.EnumeratorRest ∷ more) vs ts
  take_EnumeratorRest more vs (t.Sign s.Assign) _ fs _ rest (token {k} f) h e = number_follows more vs k rest (after last (Non o.EnumeratorNumber ∷ more) (vs) fs rest h e)
  take_EnumeratorRest more vs terminal value fs ts rest p h e = no_number more vs ts (e ts (rest, p, h))

  pub back_EnumeratorRest : (more : List Symbol) (vs : List Value) (input : Input) (value : Value) (fs : List Fed) → Meaning last (step (At (Non o.EnumeratorRest ∷ more) vs (fed input value ∷ fs))) → Meaning last (At (Non o.EnumeratorRest ∷ more) vs (fed input value ∷ fs))
  back_EnumeratorRest more vs i.ConstructorName value fs e ts h = tt
  back_EnumeratorRest more vs (i.Token terminal) value fs e ts (rest, p, h) = take_EnumeratorRest more vs terminal value fs ts rest p h e
  back_EnumeratorRest more vs input value fs e ts h = no_number more vs ts (e ts h)

  pub end_EnumeratorRest : (more : List Symbol) (vs : List Value) → Meaning last (lack (otherwise o.EnumeratorRest) more vs []) → Meaning last (At (Non o.EnumeratorRest ∷ more) vs [])
  end_EnumeratorRest more vs e ts h = no_number more vs ts (e ts h)

  negative_row : (more : List Symbol) (vs : List Value) (k : Token) (ts : List Classified) → Means last (Non o.NumberToken ∷ Act a.MakeEnumeratorNegative ∷ more) (mark (t.Sign s.Minus) k.span ∷ vs) ts
      → Means last (Non o.EnumeratorNumber ∷ more) vs (at (t.Sign s.Minus) k ∷ ts)
  negative_row more vs k ts (terminal, value, suffix, radix, span, rest, digits, takes, m) = (
    _,
    rest,
    (λ id l equals i same. subst (λ d. ReadsEnumerator (record { name = d; value = Some (record { is_negative = true; number = value }); span = across d.span span })
        (at id l ∷ at (t.Sign s.Assign) equals ∷ at (t.Sign s.Minus) k ∷ at terminal (record { kind = kind.Number value suffix radix; span = span }) ∷ rest) rest) same (u.negative i digits)),
    m,
  )

  number_row : (more : List Symbol) (vs : List Value) (kind : TokenKind) (span : Span) (ts : List Classified) → Fitting t.Number kind → Means last (Act a.MakeEnumeratorValue ∷ more) (number_value kind span ∷ vs) ts
      → Means last (Non o.EnumeratorNumber ∷ more) vs (at t.Number (record { kind = kind; span = span }) ∷ ts)
  number_row more vs (kind.Number value suffix radix) span ts f m = (
    _,
    ts,
    (λ id l equals i same. subst (λ d. ReadsEnumerator (record { name = d; value = Some (record { is_negative = false; number = value }); span = across d.span span })
        (at id l ∷ at (t.Sign s.Assign) equals ∷ at t.Number (record { kind = kind.Number value suffix radix; span = span }) ∷ ts) ts) same (u.numbered i x.number)),
    m,
  )
  number_row more vs _ span ts f m = absurd f

  zero_number_row : (more : List Symbol) (vs : List Value) (kind : TokenKind) (span : Span) (ts : List Classified) → Fitting t.Zero kind → Means last (Act a.MakeEnumeratorValue ∷ more) (number_value kind span ∷ vs) ts
      → Means last (Non o.EnumeratorNumber ∷ more) vs (at t.Zero (record { kind = kind; span = span }) ∷ ts)
  zero_number_row more vs (kind.Number value suffix radix) span ts f m = (
    _,
    ts,
    (λ id l equals i same. subst (λ d. ReadsEnumerator (record { name = d; value = Some (record { is_negative = false; number = value }); span = across d.span span })
        (at id l ∷ at (t.Sign s.Assign) equals ∷ at t.Zero (record { kind = kind.Number value suffix radix; span = span }) ∷ ts) ts) same (u.numbered i x.zero_number)),
    m,
  )
  zero_number_row more vs _ span ts f m = absurd f

  take_EnumeratorNumber : (more : List Symbol) (vs : List Value) (terminal : Terminal) (value : Value) (fs : List Fed) (ts rest : List Classified) → StandsToken terminal value ts rest → Ahead fs rest
      → Meaning last (step (At (Non o.EnumeratorNumber ∷ more) vs (fed (i.Token terminal) value ∷ fs))) → Means last (Non o.EnumeratorNumber ∷ more) vs ts
  take_EnumeratorNumber more vs (t.Sign s.Minus) _ fs _ rest (token {k} f) h e = negative_row more vs k rest (after last (Non o.NumberToken ∷ Act a.MakeEnumeratorNegative ∷ more) (mark (t.Sign s.Minus) k.span ∷ vs) fs rest h e)
  take_EnumeratorNumber more vs t.Number _ fs _ rest (token {k} f) h e = number_row more vs k.kind k.span rest f (after last (Act a.MakeEnumeratorValue ∷ more) (number_value k.kind k.span ∷ vs) fs rest h e)
  take_EnumeratorNumber more vs t.Zero _ fs _ rest (token {k} f) h e = zero_number_row more vs k.kind k.span rest f (after last (Act a.MakeEnumeratorValue ∷ more) (number_value k.kind k.span ∷ vs) fs rest h e)
  take_EnumeratorNumber more vs _ value fs ts rest p h e = absurd e

  pub back_EnumeratorNumber : (more : List Symbol) (vs : List Value) (input : Input) (value : Value) (fs : List Fed) → Meaning last (step (At (Non o.EnumeratorNumber ∷ more) vs (fed input value ∷ fs))) → Meaning last (At (Non o.EnumeratorNumber ∷ more) vs (fed input value ∷ fs))
  back_EnumeratorNumber more vs i.ConstructorName value fs e ts h = absurd e
  back_EnumeratorNumber more vs (i.Token terminal) value fs e ts (rest, p, h) = take_EnumeratorNumber more vs terminal value fs ts rest p h e
  back_EnumeratorNumber more vs input value fs e ts h = absurd e

  pub end_EnumeratorNumber : (more : List Symbol) (vs : List Value) → Meaning last (lack (otherwise o.EnumeratorNumber) more vs []) → Meaning last (At (Non o.EnumeratorNumber ∷ more) vs [])
  end_EnumeratorNumber more vs e ts h = absurd e
