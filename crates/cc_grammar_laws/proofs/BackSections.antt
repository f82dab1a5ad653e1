-- Backwards over what the automaton does at the sections of a choice and at what is caught.
use Rattle.std.proofs.Common.{sym, subst, List, [], ◌∷◌, ◌++◌, append_assoc, append-nil}
use Rattle.std.specs.Prelude.{None}
use Rattle.cc_base.specs.declared.text.Span.{Span}
use Rattle.cc_tree.specs.declared.token.Token.{Token}
use Rattle.cc_tree.specs.declared.token.TokenKind.{TokenKind}
use Rattle.cc_tree.specs.declared.terminal.Terminal.{Terminal}
use Rattle.cc_tree.specs.declared.terminal.Terminal.TheVariants as t
use Rattle.cc_tree.specs.declared.terminal.NameKind.TheVariants as n
use Rattle.cc_tree.specs.declared.terminal.ReservedWord.TheVariants as w
use Rattle.cc_tree.specs.declared.terminal.Sign.TheVariants as s
use Rattle.cc_tree.specs.Spans.{across, identifier}
use Rattle.cc_tree.specs.Terminals.{Classified, at, plain, function}
use Rattle.cc_table.specs.declared.symbols.Sort.TheVariants as o
use Rattle.cc_table.specs.declared.symbols.Action.TheVariants as a
use Rattle.cc_table.specs.declared.symbols.Input.{Input}
use Rattle.cc_table.specs.declared.symbols.Input.TheVariants as i
use Rattle.cc_table.specs.declared.symbols.Symbol.{Symbol}
use Rattle.cc_table.specs.declared.symbols.Symbol.TheVariants.{Non, Act}
use Rattle.cc_table.specs.Table.{otherwise}
use Rattle.cc_pushdown.specs.declared.value.Value.{Value}
use Rattle.cc_pushdown.specs.declared.value.Value.TheVariants as v
use Rattle.cc_pushdown.specs.Machine.{Fed, fed, At, lack, step}
use Rattle.cc_grammar_laws.proofs.Stands.{StandsToken, token, Ahead}
use Rattle.cc_grammar_laws.proofs.TypeParts.{takes, mark}
use Rattle.cc_grammar_laws.proofs.Means.{Means, Meaning, after}
use Rattle.cc_grammar_laws.proofs.Owed.{at_input}
use Rattle.cc_grammar_laws.proofs.PutBack.{put_back_clear}
use Rattle.cc_tree.specs.declared.statement.Block.{Block}
use Rattle.cc_tree.specs.declared.statement.Section.{Section, roll-Section}
use Rattle.cc_tree.specs.declared.statement.Label.{Label}
use Rattle.cc_tree.specs.declared.statement.Catch.{Catch}
use Rattle.cc_tree.specs.declared.statement.Statement.TheVariants as z
use Rattle.cc_tree.specs.GrammarStatements as st
use Rattle.cc_tree.specs.GrammarStatements.{NoLabel, ReadsBlock, ReadsCatches, ReadsStatement}
use Rattle.cc_pushdown.specs.Values.{top_catches}
use Rattle.cc_grammar_laws.proofs.StatementParts.{SomeCatch, first_word}

some_catch : (items : List Catch) (one : Catch) → SomeCatch (items ++ one ∷ [])
some_catch [] one = tt
some_catch (other ∷ items) one = tt

-- one more behind some
add_catch : {items : List Catch} {one : Catch} {span whole : Span} {ts us rest : List Classified} → ReadsCatches items span ts us → ReadsCatches (one ∷ []) whole us rest → ReadsCatches (items ++ one ∷ []) whole ts rest
add_catch st.no_catch r = r
add_catch (st.last_catch p q) r = st.more_catches p q r
add_catch (st.more_catches p q s) r = st.more_catches p q (add_catch s r)

tried : (items : List Catch) {body : Block} {first span whole : Span} {kind : TokenKind} {us ws ts : List Classified} → SomeCatch items → ReadsBlock body first us ws → ReadsCatches items span ws ts
    → ReadsStatement (z.Try body items None (across whole span)) (across whole span) (first_word w.Try kind whole ∷ us) ts
tried [] some b c = absurd some
tried (one ∷ others) some b c = st.try_catch b c

module _ (last : List Value) where
  no_sections : (more : List Symbol) (first : List Section) (vs : List Value) (ts : List Classified) → Means last more (v.Sections first ∷ vs) ts → Means last (Non o.Sections ∷ more) (v.Sections first ∷ vs) ts
  no_sections more first vs ts m = ([], ts, st.no_section, subst (λ q. Means last more (v.Sections q ∷ vs) ts) (sym (append-nil first)) m)

  next_section_row : (more : List Symbol) (first : List Section) (vs : List Value) (ts : List Classified) → Means last (Act a.StartLabels ∷ Non o.Label ∷ Act a.AddLabel ∷ Non o.MoreLabels ∷ Act a.StartStatements ∷ Non o.SectionStatements ∷ Act a.AddSection ∷ Non o.Sections ∷ more) (v.Sections first ∷ vs) ts → Means last (Non o.Sections ∷ more) (v.Sections first ∷ vs) ts
  next_section_row more first vs ts (label, us, p, (labels, ws, q, (statements, xs, r, (sections, rest, y, m)))) =
      (_, rest, st.next_section (q label ts p) r y, subst (λ l. Means last more (v.Sections l ∷ vs) rest) (append_assoc first (roll-Section (record { labels = label ∷ labels; statements = statements }) ∷ []) sections) m)

  take_Sections : (more : List Symbol) (first : List Section) (vs : List Value) (terminal : Terminal) (value : Value) (fs : List Fed) (ts rest : List Classified) → StandsToken terminal value ts rest → Ahead fs rest
      → Meaning last (step (At (Non o.Sections ∷ more) (v.Sections first ∷ vs) (fed (i.Token terminal) value ∷ fs))) → Means last (Non o.Sections ∷ more) (v.Sections first ∷ vs) ts
  take_Sections more first vs (t.Sign s.CloseBrace) value fs ts rest p h e = no_sections more first vs ts (e ts (rest, p, h))
  take_Sections more first vs terminal value fs ts rest p h e = next_section_row more first vs ts (e ts (rest, p, h))

  pub back_Sections : (more : List Symbol) (vs : List Value) (input : Input) (value : Value) (fs : List Fed) → Meaning last (step (At (Non o.Sections ∷ more) vs (fed input value ∷ fs))) → Meaning last (At (Non o.Sections ∷ more) vs (fed input value ∷ fs))
  back_Sections more (v.Sections first ∷ vs) i.ConstructorName value fs e ts h = tt
  back_Sections more (v.Sections first ∷ vs) (i.Token terminal) value fs e ts (rest, p, h) = take_Sections more first vs terminal value fs ts rest p h e
  back_Sections more (v.Sections first ∷ vs) input value fs e ts h = next_section_row more first vs ts (e ts h)
  back_Sections more vs input value fs e ts h = at_input input (Non o.Sections ∷ more) (Means last (Non o.Sections ∷ more)) vs ts tt

  pub end_Sections : (more : List Symbol) (vs : List Value) → Meaning last (lack (otherwise o.Sections) more vs []) → Meaning last (At (Non o.Sections ∷ more) vs [])
  end_Sections more (v.Sections first ∷ vs) e ts h = next_section_row more first vs ts (e ts h)
  end_Sections more vs e ts h = tt

  case_row : (more : List Symbol) (vs : List Value) (k : Token) (ts : List Classified) → Means last (Non o.Expression ∷ Non o.KeptColon ∷ Act a.MakeCase ∷ more) (mark (t.Word w.Case) k.span ∷ vs) ts
      → Means last (Non o.Label ∷ more) vs (at (t.Word w.Case) k ∷ ts)
  case_row more vs k ts (x, span, us, p, (colon, rest, takes, m)) = (_, rest, st.case_ p, m)

  default_row : (more : List Symbol) (vs : List Value) (k : Token) (ts : List Classified) → Means last (Non o.KeptColon ∷ Act a.MakeDefault ∷ more) (mark (t.Word w.Default) k.span ∷ vs) ts
      → Means last (Non o.Label ∷ more) vs (at (t.Word w.Default) k ∷ ts)
  default_row more vs k ts (colon, rest, takes, m) = (_, rest, st.default, m)

  take_Label : (more : List Symbol) (vs : List Value) (terminal : Terminal) (value : Value) (fs : List Fed) (ts rest : List Classified) → StandsToken terminal value ts rest → Ahead fs rest
      → Meaning last (step (At (Non o.Label ∷ more) vs (fed (i.Token terminal) value ∷ fs))) → Means last (Non o.Label ∷ more) vs ts
  take_Label more vs (t.Word w.Case) _ fs _ rest (token {k} f) h e = case_row more vs k rest (after last (Non o.Expression ∷ Non o.KeptColon ∷ Act a.MakeCase ∷ more) (mark (t.Word w.Case) k.span ∷ vs) fs rest h e)
  take_Label more vs (t.Word w.Default) _ fs _ rest (token {k} f) h e = default_row more vs k rest (after last (Non o.KeptColon ∷ Act a.MakeDefault ∷ more) (mark (t.Word w.Default) k.span ∷ vs) fs rest h e)
  take_Label more vs _ value fs ts rest p h e = absurd e

  pub back_Label : (more : List Symbol) (vs : List Value) (input : Input) (value : Value) (fs : List Fed) → Meaning last (step (At (Non o.Label ∷ more) vs (fed input value ∷ fs))) → Meaning last (At (Non o.Label ∷ more) vs (fed input value ∷ fs))
  back_Label more vs i.ConstructorName value fs e ts h = absurd e
  back_Label more vs (i.Token terminal) value fs e ts (rest, p, h) = take_Label more vs terminal value fs ts rest p h e
  back_Label more vs input value fs e ts h = absurd e

  pub end_Label : (more : List Symbol) (vs : List Value) → Meaning last (lack (otherwise o.Label) more vs []) → Meaning last (At (Non o.Label ∷ more) vs [])
  end_Label more vs e ts h = absurd e

  more_labels : (more : List Symbol) (first : List Label) (vs : List Value) (ts : List Classified) → Means last (Non o.Label ∷ Act a.AddLabel ∷ Non o.MoreLabels ∷ more) (v.Labels first ∷ vs) ts → Means last (Non o.MoreLabels ∷ more) (v.Labels first ∷ vs) ts
  more_labels more first vs ts (label, us, p, (labels, rest, q, m)) =
      (label ∷ labels, rest, (λ one ws r. st.more r (q label ts p)), subst (λ l. Means last more (v.Labels l ∷ vs) rest) (append_assoc first (label ∷ []) labels) m)

  no_more_labels : (more : List Symbol) (first : List Label) (vs : List Value) (ts : List Classified) → NoLabel ts → Means last (more) (v.Labels first ∷ vs) ts → Means last (Non o.MoreLabels ∷ more) (v.Labels first ∷ vs) ts
  no_more_labels more first vs ts n m = ([], ts, (λ one us r. st.last r n), subst (λ l. Means last more (v.Labels l ∷ vs) ts) (sym (append-nil first)) m)

  take_MoreLabels : (more : List Symbol) (first : List Label) (vs : List Value) (terminal : Terminal) (value : Value) (fs : List Fed) (ts rest : List Classified) → StandsToken terminal value ts rest → Ahead fs rest
      → Meaning last (step (At (Non o.MoreLabels ∷ more) (v.Labels first ∷ vs) (fed (i.Token terminal) value ∷ fs))) → Means last (Non o.MoreLabels ∷ more) (v.Labels first ∷ vs) ts
  take_MoreLabels more first vs (t.Word w.Case) value fs ts rest p h e = more_labels more first vs ts (e ts (rest, p, h))
  take_MoreLabels more first vs (t.Word w.Default) value fs ts rest p h e = more_labels more first vs ts (e ts (rest, p, h))
  take_MoreLabels more first vs terminal _ fs _ rest (token {k} f) h e = no_more_labels more first vs (at terminal k ∷ rest) tt (e (at terminal k ∷ rest) (rest, token {k = k} f, h))

  pub back_MoreLabels : (more : List Symbol) (vs : List Value) (input : Input) (value : Value) (fs : List Fed) → Meaning last (step (At (Non o.MoreLabels ∷ more) vs (fed input value ∷ fs))) → Meaning last (At (Non o.MoreLabels ∷ more) vs (fed input value ∷ fs))
  back_MoreLabels more (v.Labels first ∷ vs) i.ConstructorName value fs e ts h = tt
  back_MoreLabels more (v.Labels first ∷ vs) (i.Token terminal) value fs e ts (rest, p, h) = take_MoreLabels more first vs terminal value fs ts rest p h e
  back_MoreLabels more (v.Labels first ∷ vs) input value fs e ts h = no_more_labels more first vs ts (put_back_clear input value ts h.0 tt h.1).1 (e ts h)
  back_MoreLabels more vs input value fs e ts h = at_input input (Non o.MoreLabels ∷ more) (Means last (Non o.MoreLabels ∷ more)) vs ts tt

  pub end_MoreLabels : (more : List Symbol) (vs : List Value) → Meaning last (lack (otherwise o.MoreLabels) more vs []) → Meaning last (At (Non o.MoreLabels ∷ more) vs [])
  end_MoreLabels more (v.Labels first ∷ vs) e ts h = no_more_labels more first vs ts (subst NoLabel (sym h) tt) (e ts h)
  end_MoreLabels more vs e ts h = tt

  first_catch_row : (more : List Symbol) (vs : List Value) (ts : List Classified) → Means last (Non o.Catch ∷ Non o.MoreCatches ∷ more) vs ts → Means last (Non o.TryRest ∷ more) vs ts
  first_catch_row more vs ts (one, span, us, p, (whole, reach, rest, q, m)) = (whole, reach, rest, (λ kind ws xs b c. q kind ws xs b (some_catch (top_catches vs).tree one) (add_catch c p)), m)

  finally_row : (more : List Symbol) (vs : List Value) (k : Token) (ts : List Classified) → Means last (Non o.Block ∷ Act a.MakeTryFinally ∷ more) (vs) ts
      → Means last (Non o.TryRest ∷ more) vs (at (t.Word w.Finally) k ∷ ts)
  finally_row more vs k ts (at_last, span, rest, r, m) = (_, _, rest, (λ kind us ws b c. st.try_finally b c r), m)

  take_TryRest : (more : List Symbol) (vs : List Value) (terminal : Terminal) (value : Value) (fs : List Fed) (ts rest : List Classified) → StandsToken terminal value ts rest → Ahead fs rest
      → Meaning last (step (At (Non o.TryRest ∷ more) vs (fed (i.Token terminal) value ∷ fs))) → Means last (Non o.TryRest ∷ more) vs ts
  take_TryRest more vs (t.Word w.Catch) value fs ts rest p h e = first_catch_row more vs ts (e ts (rest, p, h))
  take_TryRest more vs (t.Word w.Finally) _ fs _ rest (token {k} f) h e = finally_row more vs k rest (after last (Non o.Block ∷ Act a.MakeTryFinally ∷ more) (vs) fs rest h e)
  take_TryRest more vs _ value fs ts rest p h e = absurd e

  pub back_TryRest : (more : List Symbol) (vs : List Value) (input : Input) (value : Value) (fs : List Fed) → Meaning last (step (At (Non o.TryRest ∷ more) vs (fed input value ∷ fs))) → Meaning last (At (Non o.TryRest ∷ more) vs (fed input value ∷ fs))
  back_TryRest more vs i.ConstructorName value fs e ts h = absurd e
  back_TryRest more vs (i.Token terminal) value fs e ts (rest, p, h) = take_TryRest more vs terminal value fs ts rest p h e
  back_TryRest more vs input value fs e ts h = absurd e

  pub end_TryRest : (more : List Symbol) (vs : List Value) → Meaning last (lack (otherwise o.TryRest) more vs []) → Meaning last (At (Non o.TryRest ∷ more) vs [])
  end_TryRest more vs e ts h = absurd e

  next_catch_row : (more : List Symbol) (vs : List Value) (ts : List Classified) → Means last (Non o.Catch ∷ Non o.MoreCatches ∷ more) vs ts → Means last (Non o.MoreCatches ∷ more) vs ts
  next_catch_row more vs ts (one, span, us, p, (whole, reach, rest, q, m)) = (whole, reach, rest, (λ kind ws xs b some c. q kind ws xs b (some_catch (top_catches vs).tree one) (add_catch c p)), m)

  late_finally_row : (more : List Symbol) (vs : List Value) (k : Token) (ts : List Classified) → Means last (Non o.Block ∷ Act a.MakeTryFinally ∷ more) (vs) ts
      → Means last (Non o.MoreCatches ∷ more) vs (at (t.Word w.Finally) k ∷ ts)
  late_finally_row more vs k ts (at_last, span, rest, r, m) = (_, _, rest, (λ kind us ws b some c. st.try_finally b c r), m)

  no_more_catches : (more : List Symbol) (vs : List Value) (ts : List Classified) → Means last (Act a.MakeTry ∷ more) vs ts → Means last (Non o.MoreCatches ∷ more) vs ts
  no_more_catches more vs ts m = (_, _, ts, (λ kind us ws b some c. tried (top_catches vs).tree some b c), m)

  take_MoreCatches : (more : List Symbol) (vs : List Value) (terminal : Terminal) (value : Value) (fs : List Fed) (ts rest : List Classified) → StandsToken terminal value ts rest → Ahead fs rest
      → Meaning last (step (At (Non o.MoreCatches ∷ more) vs (fed (i.Token terminal) value ∷ fs))) → Means last (Non o.MoreCatches ∷ more) vs ts
  take_MoreCatches more vs (t.Word w.Catch) value fs ts rest p h e = next_catch_row more vs ts (e ts (rest, p, h))
  take_MoreCatches more vs (t.Word w.Finally) _ fs _ rest (token {k} f) h e = late_finally_row more vs k rest (after last (Non o.Block ∷ Act a.MakeTryFinally ∷ more) (vs) fs rest h e)
  take_MoreCatches more vs terminal value fs ts rest p h e = no_more_catches more vs ts (e ts (rest, p, h))

  pub back_MoreCatches : (more : List Symbol) (vs : List Value) (input : Input) (value : Value) (fs : List Fed) → Meaning last (step (At (Non o.MoreCatches ∷ more) vs (fed input value ∷ fs))) → Meaning last (At (Non o.MoreCatches ∷ more) vs (fed input value ∷ fs))
  back_MoreCatches more vs i.ConstructorName value fs e ts h = tt
  back_MoreCatches more vs (i.Token terminal) value fs e ts (rest, p, h) = take_MoreCatches more vs terminal value fs ts rest p h e
  back_MoreCatches more vs input value fs e ts h = no_more_catches more vs ts (e ts h)

  pub end_MoreCatches : (more : List Symbol) (vs : List Value) → Meaning last (lack (otherwise o.MoreCatches) more vs []) → Meaning last (At (Non o.MoreCatches ∷ more) vs [])
  end_MoreCatches more vs e ts h = no_more_catches more vs ts (e ts h)

  catch_row : (more : List Symbol) (vs : List Value) (k : Token) (ts : List Classified) → Means last (Non o.OpenParenthesis ∷ Non o.Caught ∷ Non o.CloseParenthesis ∷ Non o.Block ∷ Act a.AddCatch ∷ more) (vs) ts
      → Means last (Non o.Catch ∷ more) vs (at (t.Word w.Catch) k ∷ ts)
  catch_row more vs k ts (open_, us, takes, (what, ws, p, (close, xs, takes, (body, span, rest, q, m)))) = (_, span, rest, st.last_catch p q, m)

  take_Catch : (more : List Symbol) (vs : List Value) (terminal : Terminal) (value : Value) (fs : List Fed) (ts rest : List Classified) → StandsToken terminal value ts rest → Ahead fs rest
      → Meaning last (step (At (Non o.Catch ∷ more) vs (fed (i.Token terminal) value ∷ fs))) → Means last (Non o.Catch ∷ more) vs ts
  take_Catch more vs (t.Word w.Catch) _ fs _ rest (token {k} f) h e = catch_row more vs k rest (after last (Non o.OpenParenthesis ∷ Non o.Caught ∷ Non o.CloseParenthesis ∷ Non o.Block ∷ Act a.AddCatch ∷ more) (vs) fs rest h e)
  take_Catch more vs _ value fs ts rest p h e = absurd e

  pub back_Catch : (more : List Symbol) (vs : List Value) (input : Input) (value : Value) (fs : List Fed) → Meaning last (step (At (Non o.Catch ∷ more) vs (fed input value ∷ fs))) → Meaning last (At (Non o.Catch ∷ more) vs (fed input value ∷ fs))
  back_Catch more vs i.ConstructorName value fs e ts h = absurd e
  back_Catch more vs (i.Token terminal) value fs e ts (rest, p, h) = take_Catch more vs terminal value fs ts rest p h e
  back_Catch more vs input value fs e ts h = absurd e

  pub end_Catch : (more : List Symbol) (vs : List Value) → Meaning last (lack (otherwise o.Catch) more vs []) → Meaning last (At (Non o.Catch ∷ more) vs [])
  end_Catch more vs e ts h = absurd e

  caught_type_row : (more : List Symbol) (vs : List Value) (ts : List Classified) → Means last (Non o.Type ∷ Non o.CaughtName ∷ more) vs ts → Means last (Non o.Caught ∷ more) vs ts
  caught_type_row more vs ts (of, span, us, p, (one, rest, q, m)) = (one, rest, q ts p, m)

  take_Caught : (more : List Symbol) (vs : List Value) (terminal : Terminal) (value : Value) (fs : List Fed) (ts rest : List Classified) → StandsToken terminal value ts rest → Ahead fs rest
      → Meaning last (step (At (Non o.Caught ∷ more) vs (fed (i.Token terminal) value ∷ fs))) → Means last (Non o.Caught ∷ more) vs ts
  take_Caught more vs (t.Sign s.Ellipsis) _ fs _ rest (token {k} f) h e = (_, rest, st.all, (after last (Act a.CatchAll ∷ more) (mark (t.Sign s.Ellipsis) k.span ∷ vs) fs rest h e))
  take_Caught more vs terminal value fs ts rest p h e = caught_type_row more vs ts (e ts (rest, p, h))

  pub back_Caught : (more : List Symbol) (vs : List Value) (input : Input) (value : Value) (fs : List Fed) → Meaning last (step (At (Non o.Caught ∷ more) vs (fed input value ∷ fs))) → Meaning last (At (Non o.Caught ∷ more) vs (fed input value ∷ fs))
  back_Caught more vs i.ConstructorName value fs e ts h = tt
  back_Caught more vs (i.Token terminal) value fs e ts (rest, p, h) = take_Caught more vs terminal value fs ts rest p h e
  back_Caught more vs input value fs e ts h = caught_type_row more vs ts (e ts h)

  pub end_Caught : (more : List Symbol) (vs : List Value) → Meaning last (lack (otherwise o.Caught) more vs []) → Meaning last (At (Non o.Caught ∷ more) vs [])
  end_Caught more vs e ts h = caught_type_row more vs ts (e ts h)

  no_caught_name : (more : List Symbol) (vs : List Value) (ts : List Classified) → Means last (Act a.CatchTyped ∷ more) vs ts → Means last (Non o.CaughtName ∷ more) vs ts
  no_caught_name more vs ts m = (_, ts, (λ us p. st.typed p), m)

  take_CaughtName : (more : List Symbol) (vs : List Value) (terminal : Terminal) (value : Value) (fs : List Fed) (ts rest : List Classified) → StandsToken terminal value ts rest → Ahead fs rest
      → Meaning last (step (At (Non o.CaughtName ∷ more) vs (fed (i.Token terminal) value ∷ fs))) → Means last (Non o.CaughtName ∷ more) vs ts
  take_CaughtName more vs (t.Name n.Plain word) _ fs _ rest (token {k} f) h e = (_, rest, (λ us p. st.named p plain), (after last (Act a.CatchNamed ∷ more) (v.Name (record { kind = n.Plain; word = word; identifier = identifier k }) ∷ vs) fs rest h e))
  take_CaughtName more vs (t.Name n.Function word) _ fs _ rest (token {k} f) h e = (_, rest, (λ us p. st.named p function), (after last (Act a.CatchNamed ∷ more) (v.Name (record { kind = n.Function; word = word; identifier = identifier k }) ∷ vs) fs rest h e))
  take_CaughtName more vs terminal value fs ts rest p h e = no_caught_name more vs ts (e ts (rest, p, h))

  pub back_CaughtName : (more : List Symbol) (vs : List Value) (input : Input) (value : Value) (fs : List Fed) → Meaning last (step (At (Non o.CaughtName ∷ more) vs (fed input value ∷ fs))) → Meaning last (At (Non o.CaughtName ∷ more) vs (fed input value ∷ fs))
  back_CaughtName more vs i.ConstructorName value fs e ts h = tt
  back_CaughtName more vs (i.Token terminal) value fs e ts (rest, p, h) = take_CaughtName more vs terminal value fs ts rest p h e
  back_CaughtName more vs input value fs e ts h = no_caught_name more vs ts (e ts h)

  pub end_CaughtName : (more : List Symbol) (vs : List Value) → Meaning last (lack (otherwise o.CaughtName) more vs []) → Meaning last (At (Non o.CaughtName ∷ more) vs [])
  end_CaughtName more vs e ts h = no_caught_name more vs ts (e ts h)
