-- Backwards over what the automaton does at classes.
use Rattle.std.proofs.Common.{◌≡◌, sym, subst, refl, List, [], ◌∷◌, append_assoc, append-nil}
use Rattle.cc_tree.specs.declared.token.Token.{Token}
use Rattle.cc_tree.specs.declared.terminal.Terminal.{Terminal}
use Rattle.cc_tree.specs.declared.terminal.Terminal.TheVariants as t
use Rattle.cc_tree.specs.declared.terminal.NameKind.{NameKind}
use Rattle.cc_tree.specs.declared.terminal.NameKind.TheVariants as n
use Rattle.cc_tree.specs.declared.terminal.ContextualWord.{ContextualWord}
use Rattle.cc_tree.specs.declared.terminal.ContextualWord.TheVariants as c
use Rattle.cc_tree.specs.declared.terminal.ReservedWord.TheVariants as w
use Rattle.cc_tree.specs.declared.terminal.Sign.TheVariants as s
use Rattle.cc_tree.specs.Spans.{across, identifier}
use Rattle.cc_tree.specs.Terminals.{Classified, at}
use Rattle.cc_table.specs.declared.symbols.Sort.TheVariants as o
use Rattle.cc_table.specs.declared.symbols.Action.TheVariants as a
use Rattle.cc_table.specs.declared.symbols.Input.{Input}
use Rattle.cc_table.specs.declared.symbols.Input.TheVariants as i
use Rattle.cc_table.specs.declared.symbols.Symbol.{Symbol}
use Rattle.cc_table.specs.declared.symbols.Symbol.TheVariants.{Non, Act}
use Rattle.cc_table.specs.Table.{otherwise}
use Rattle.cc_pushdown.specs.declared.value.Value.{Value}
use Rattle.cc_pushdown.specs.declared.value.Value.TheVariants as v
use Rattle.cc_pushdown.specs.Machine.{Fed, fed, At, lack, step}
use Rattle.cc_grammar_laws.proofs.Stands.{StandsToken, token, Ahead}
use Rattle.cc_grammar_laws.proofs.TypeParts.{takes, mark}
use Rattle.cc_grammar_laws.proofs.Means.{Means, Meaning, after}
use Rattle.cc_grammar_laws.proofs.Owed.{at_input}
use Rattle.cc_tree.specs.GrammarUnit as u
use Rattle.cc_tree.specs.declared.identifier.Identifier.{Identifier}
use Rattle.cc_tree.specs.declared.class.Base.{Base}
use Rattle.cc_tree.specs.declared.class.ClassKey.{ClassKey}
use Rattle.cc_tree.specs.declared.class.ClassModifier.{ClassModifier}
use Rattle.cc_tree.specs.declared.class.ClassModifier.TheVariants as modifier
use Rattle.cc_tree.specs.declared.member.Member.{Member}
use Rattle.cc_tree.specs.declared.unit.Outer.TheVariants as outer
use Rattle.cc_tree.specs.GrammarMembers.{ReadsMembers}
use Rattle.cc_tree.specs.GrammarUnit.{IsClassWord, ReadsKey, ReadsClassModifiers, ReadsBases, ReadsClass, ReadsOuter}
use Rattle.cc_pushdown.specs.Values.{below, top_name, top_key}
use Rattle.cc_pushdown.specs.Words.{class_word_of}
use Rattle.cc_grammar_laws.proofs.OuterParts.{IsKeyWord, takes_aggregate}

pub is_class_word : (word : ContextualWord) → IsKeyWord word → IsClassWord word (class_word_of word)
is_class_word c.Ref key = u.ref
is_class_word c.Value key = u.value
is_class_word c.Interface key = u.interface
is_class_word _ key = absurd key

class_of : {key : ClassKey} {kind : NameKind} {word : ContextualWord} {modifiers : List ClassModifier} {bases : List Base} {members : List Member} {l open_ close semicolon : Token} {ts us vs ws rest : List Classified} (name : Identifier) → identifier l ≡ name
    → ReadsKey key ts (at (t.Name kind word) l ∷ us) → ReadsClassModifiers modifiers us vs → ReadsBases bases vs (at (t.Sign s.OpenBrace) open_ ∷ ws)
    → ReadsMembers name.name members ws (at (t.Sign s.CloseBrace) close ∷ at (t.Sign s.Semicolon) semicolon ∷ rest)
    → ReadsClass (record { key = key; name = name; modifiers = modifiers; bases = bases; members = members; span = across key.span semicolon.span }) ts rest
class_of {key} {modifiers} {bases} {members} {close} {semicolon} {ts} {ws} {rest} name same p q r y =
    subst (λ d. ReadsClass (record { key = key; name = d; modifiers = modifiers; bases = bases; members = members; span = across key.span semicolon.span }) ts rest) same
    (u.class_ p q r (subst (λ d. ReadsMembers d.name members ws (at (t.Sign s.CloseBrace) close ∷ at (t.Sign s.Semicolon) semicolon ∷ rest)) (sym same) y))

module _ (last : List Value) where
  forward_row : (more : List Symbol) (vs : List Value) (k : Token) (ts : List Classified) → Means last (Act a.MakeForward ∷ more) (mark (t.Sign s.Semicolon) k.span ∷ vs) ts → Means last (Non o.ForwardOrClass ∷ more) vs (at (t.Sign s.Semicolon) k ∷ ts)
  forward_row more vs k ts m =
      (_, _, ts, (λ kind word l us same p. subst (λ d. ReadsOuter (outer.Forward (top_key (below vs)) d (across (top_key (below vs)).span k.span)) (across (top_key (below vs)).span k.span) us ts) same (u.forward p)), m)

  outer_class_row : (more : List Symbol) (vs : List Value) (ts : List Classified) → Means last (Non o.ClassRest ∷ Act a.MakeOuterClass ∷ more) vs ts → Means last (Non o.ForwardOrClass ∷ more) vs ts
  outer_class_row more vs ts (one, rest, p, m) = (_, _, rest, (λ kind word l us same q. u.class_ (p kind word l us same q)), m)

  take_ForwardOrClass : (more : List Symbol) (vs : List Value) (terminal : Terminal) (value : Value) (fs : List Fed) (ts rest : List Classified) → StandsToken terminal value ts rest → Ahead fs rest
      → Meaning last (step (At (Non o.ForwardOrClass ∷ more) vs (fed (i.Token terminal) value ∷ fs))) → Means last (Non o.ForwardOrClass ∷ more) vs ts
  take_ForwardOrClass more vs (t.Sign s.Semicolon) _ fs _ rest (token {k} f) h e = forward_row more vs k rest (after last (Act a.MakeForward ∷ more) (mark (t.Sign s.Semicolon) k.span ∷ vs) fs rest h e)
  take_ForwardOrClass more vs terminal value fs ts rest p h e = outer_class_row more vs ts (e ts (rest, p, h))

  pub back_ForwardOrClass : (more : List Symbol) (vs : List Value) (input : Input) (value : Value) (fs : List Fed) → Meaning last (step (At (Non o.ForwardOrClass ∷ more) vs (fed input value ∷ fs))) → Meaning last (At (Non o.ForwardOrClass ∷ more) vs (fed input value ∷ fs))
  back_ForwardOrClass more vs i.ConstructorName value fs e ts h = tt
  back_ForwardOrClass more vs (i.Token terminal) value fs e ts (rest, p, h) = take_ForwardOrClass more vs terminal value fs ts rest p h e
  back_ForwardOrClass more vs input value fs e ts h = outer_class_row more vs ts (e ts h)

  pub end_ForwardOrClass : (more : List Symbol) (vs : List Value) → Meaning last (lack (otherwise o.ForwardOrClass) more vs []) → Meaning last (At (Non o.ForwardOrClass ∷ more) vs [])
  end_ForwardOrClass more vs e ts h = outer_class_row more vs ts (e ts h)

  class_parts_row : (more : List Symbol) (vs : List Value) (ts : List Classified) → Means last (Act a.StartClassModifiers ∷ Non o.ClassModifiers ∷ Non o.Bases ∷ Act a.MakeHead ∷ Non o.OpenBrace ∷ Act a.StartMembers ∷ Non o.Members ∷ Non o.CloseBrace ∷ Non o.KeptSemicolon ∷ Act a.MakeClass ∷ more) vs ts → Means last (Non o.ClassRest ∷ more) vs ts
  class_parts_row more vs ts (modifiers, us, p, (bases, ws, q, (open_, xs, takes, (members, ys, r, (close, zs, takes, (semicolon, rest, takes, m)))))) =
      (_, rest, (λ kind word l before same key. class_of (top_name vs).identifier same key p q r), m)

  pub back_ClassRest : (more : List Symbol) (vs : List Value) (input : Input) (value : Value) (fs : List Fed) → Meaning last (step (At (Non o.ClassRest ∷ more) vs (fed input value ∷ fs))) → Meaning last (At (Non o.ClassRest ∷ more) vs (fed input value ∷ fs))
  back_ClassRest more vs i.ConstructorName value fs e ts h = tt
  back_ClassRest more vs input value fs e ts h = class_parts_row more vs ts (e ts h)

  pub end_ClassRest : (more : List Symbol) (vs : List Value) → Meaning last (lack (otherwise o.ClassRest) more vs []) → Meaning last (At (Non o.ClassRest ∷ more) vs [])
  end_ClassRest more vs e ts h = class_parts_row more vs ts (e ts h)

  abstract_row : (more : List Symbol) (first : List ClassModifier) (vs : List Value) (kind : NameKind) (k : Token) (ts : List Classified) → Means last (Act a.AddClassModifier ∷ Non o.ClassModifiers ∷ more) (v.Name (record { kind = kind; word = c.Abstract; identifier = identifier k }) ∷ v.ClassModifiers first ∷ vs) ts
      → Means last (Non o.ClassModifiers ∷ more) (v.ClassModifiers first ∷ vs) (at (t.Name kind c.Abstract) k ∷ ts)
  abstract_row more first vs kind k ts (items, rest, q, m) = (modifier.Abstract ∷ items, rest, u.abstract q, subst (λ q. Means last more (v.ClassModifiers q ∷ vs) rest) (append_assoc first (modifier.Abstract ∷ []) items) m)

  sealed_row : (more : List Symbol) (first : List ClassModifier) (vs : List Value) (kind : NameKind) (k : Token) (ts : List Classified) → Means last (Act a.AddClassModifier ∷ Non o.ClassModifiers ∷ more) (v.Name (record { kind = kind; word = c.Sealed; identifier = identifier k }) ∷ v.ClassModifiers first ∷ vs) ts
      → Means last (Non o.ClassModifiers ∷ more) (v.ClassModifiers first ∷ vs) (at (t.Name kind c.Sealed) k ∷ ts)
  sealed_row more first vs kind k ts (items, rest, q, m) = (modifier.Sealed ∷ items, rest, u.sealed q, subst (λ q. Means last more (v.ClassModifiers q ∷ vs) rest) (append_assoc first (modifier.Sealed ∷ []) items) m)

  no_more_modifiers : (more : List Symbol) (first : List ClassModifier) (vs : List Value) (ts : List Classified) → Means last (more) (v.ClassModifiers first ∷ vs) ts → Means last (Non o.ClassModifiers ∷ more) (v.ClassModifiers first ∷ vs) ts
  no_more_modifiers more first vs ts m = ([], ts, u.none, subst (λ q. Means last more (v.ClassModifiers q ∷ vs) ts) (sym (append-nil first)) m)

  take_ClassModifiers : (more : List Symbol) (first : List ClassModifier) (vs : List Value) (terminal : Terminal) (value : Value) (fs : List Fed) (ts rest : List Classified) → StandsToken terminal value ts rest → Ahead fs rest
      → Meaning last (step (At (Non o.ClassModifiers ∷ more) (v.ClassModifiers first ∷ vs) (fed (i.Token terminal) value ∷ fs))) → Means last (Non o.ClassModifiers ∷ more) (v.ClassModifiers first ∷ vs) ts
  take_ClassModifiers more first vs (t.Name kind c.Abstract) _ fs _ rest (token {k} f) h e = abstract_row more first vs kind k rest (after last (Act a.AddClassModifier ∷ Non o.ClassModifiers ∷ more) (v.Name (record { kind = kind; word = c.Abstract; identifier = identifier k }) ∷ v.ClassModifiers first ∷ vs) fs rest h e)
  take_ClassModifiers more first vs (t.Name kind c.Sealed) _ fs _ rest (token {k} f) h e = sealed_row more first vs kind k rest (after last (Act a.AddClassModifier ∷ Non o.ClassModifiers ∷ more) (v.Name (record { kind = kind; word = c.Sealed; identifier = identifier k }) ∷ v.ClassModifiers first ∷ vs) fs rest h e)
  take_ClassModifiers more first vs terminal value fs ts rest p h e = no_more_modifiers more first vs ts (e ts (rest, p, h))

  pub back_ClassModifiers : (more : List Symbol) (vs : List Value) (input : Input) (value : Value) (fs : List Fed) → Meaning last (step (At (Non o.ClassModifiers ∷ more) vs (fed input value ∷ fs))) → Meaning last (At (Non o.ClassModifiers ∷ more) vs (fed input value ∷ fs))
  back_ClassModifiers more (v.ClassModifiers first ∷ vs) i.ConstructorName value fs e ts h = tt
  back_ClassModifiers more (v.ClassModifiers first ∷ vs) (i.Token terminal) value fs e ts (rest, p, h) = take_ClassModifiers more first vs terminal value fs ts rest p h e
  back_ClassModifiers more (v.ClassModifiers first ∷ vs) input value fs e ts h = no_more_modifiers more first vs ts (e ts h)
  back_ClassModifiers more vs input value fs e ts h = at_input input (Non o.ClassModifiers ∷ more) (Means last (Non o.ClassModifiers ∷ more)) vs ts tt

  pub end_ClassModifiers : (more : List Symbol) (vs : List Value) → Meaning last (lack (otherwise o.ClassModifiers) more vs []) → Meaning last (At (Non o.ClassModifiers ∷ more) vs [])
  end_ClassModifiers more (v.ClassModifiers first ∷ vs) e ts h = no_more_modifiers more first vs ts (e ts h)
  end_ClassModifiers more vs e ts h = tt

  bases_row : (more : List Symbol) (vs : List Value) (k : Token) (ts : List Classified) → Means last (Act a.StartBases ∷ Non o.Base ∷ Act a.AddBase ∷ Non o.MoreBases ∷ more) (vs) ts
      → Means last (Non o.Bases ∷ more) vs (at (t.Sign s.Colon) k ∷ ts)
  bases_row more vs k ts (one, us, p, (items, rest, q, m)) = (one ∷ items, rest, u.some (q one ts p), m)

  no_bases : (more : List Symbol) (vs : List Value) (ts : List Classified) → Means last (Act a.StartBases ∷ more) vs ts → Means last (Non o.Bases ∷ more) vs ts
  no_bases more vs ts m = ([], ts, u.none, m)

  take_Bases : (more : List Symbol) (vs : List Value) (terminal : Terminal) (value : Value) (fs : List Fed) (ts rest : List Classified) → StandsToken terminal value ts rest → Ahead fs rest
      → Meaning last (step (At (Non o.Bases ∷ more) vs (fed (i.Token terminal) value ∷ fs))) → Means last (Non o.Bases ∷ more) vs ts
  take_Bases more vs (t.Sign s.Colon) _ fs _ rest (token {k} f) h e = bases_row more vs k rest (after last (Act a.StartBases ∷ Non o.Base ∷ Act a.AddBase ∷ Non o.MoreBases ∷ more) (vs) fs rest h e)
  take_Bases more vs terminal value fs ts rest p h e = no_bases more vs ts (e ts (rest, p, h))

  pub back_Bases : (more : List Symbol) (vs : List Value) (input : Input) (value : Value) (fs : List Fed) → Meaning last (step (At (Non o.Bases ∷ more) vs (fed input value ∷ fs))) → Meaning last (At (Non o.Bases ∷ more) vs (fed input value ∷ fs))
  back_Bases more vs i.ConstructorName value fs e ts h = tt
  back_Bases more vs (i.Token terminal) value fs e ts (rest, p, h) = take_Bases more vs terminal value fs ts rest p h e
  back_Bases more vs input value fs e ts h = no_bases more vs ts (e ts h)

  pub end_Bases : (more : List Symbol) (vs : List Value) → Meaning last (lack (otherwise o.Bases) more vs []) → Meaning last (At (Non o.Bases ∷ more) vs [])
  end_Bases more vs e ts h = no_bases more vs ts (e ts h)

  public_base_row : (more : List Symbol) (vs : List Value) (k : Token) (ts : List Classified) → Means last (Non o.NamedType ∷ Act a.MakePublicBase ∷ more) (mark (t.Word w.Public) k.span ∷ vs) ts
      → Means last (Non o.Base ∷ more) vs (at (t.Word w.Public) k ∷ ts)
  public_base_row more vs k ts (of, span, rest, p, m) = (_, rest, u.public_base p, m)

  base_row : (more : List Symbol) (vs : List Value) (ts : List Classified) → Means last (Non o.NamedType ∷ Act a.MakeBase ∷ more) vs ts → Means last (Non o.Base ∷ more) vs ts
  base_row more vs ts (of, span, rest, p, m) = (_, rest, u.base p, m)

  take_Base : (more : List Symbol) (vs : List Value) (terminal : Terminal) (value : Value) (fs : List Fed) (ts rest : List Classified) → StandsToken terminal value ts rest → Ahead fs rest
      → Meaning last (step (At (Non o.Base ∷ more) vs (fed (i.Token terminal) value ∷ fs))) → Means last (Non o.Base ∷ more) vs ts
  take_Base more vs (t.Word w.Public) _ fs _ rest (token {k} f) h e = public_base_row more vs k rest (after last (Non o.NamedType ∷ Act a.MakePublicBase ∷ more) (mark (t.Word w.Public) k.span ∷ vs) fs rest h e)
  take_Base more vs terminal value fs ts rest p h e = base_row more vs ts (e ts (rest, p, h))

  pub back_Base : (more : List Symbol) (vs : List Value) (input : Input) (value : Value) (fs : List Fed) → Meaning last (step (At (Non o.Base ∷ more) vs (fed input value ∷ fs))) → Meaning last (At (Non o.Base ∷ more) vs (fed input value ∷ fs))
  back_Base more vs i.ConstructorName value fs e ts h = tt
  back_Base more vs (i.Token terminal) value fs e ts (rest, p, h) = take_Base more vs terminal value fs ts rest p h e
  back_Base more vs input value fs e ts h = base_row more vs ts (e ts h)

  pub end_Base : (more : List Symbol) (vs : List Value) → Meaning last (lack (otherwise o.Base) more vs []) → Meaning last (At (Non o.Base ∷ more) vs [])
  end_Base more vs e ts h = base_row more vs ts (e ts h)

  more_bases : (more : List Symbol) (first : List Base) (vs : List Value) (k : Token) (ts : List Classified) → Means last (Non o.Base ∷ Act a.AddBase ∷ Non o.MoreBases ∷ more) (v.Bases first ∷ vs) ts
      → Means last (Non o.MoreBases ∷ more) (v.Bases first ∷ vs) (at (t.Sign s.Comma) k ∷ ts)
  more_bases more first vs k ts (one, us, p, (items, rest, q, m)) = (one ∷ items, rest, (λ two ws r. u.more r (q one ts p)), subst (λ q. Means last more (v.Bases q ∷ vs) rest) (append_assoc first (one ∷ []) items) m)

  no_more_bases : (more : List Symbol) (first : List Base) (vs : List Value) (ts : List Classified) → Means last (more) (v.Bases first ∷ vs) ts → Means last (Non o.MoreBases ∷ more) (v.Bases first ∷ vs) ts
  no_more_bases more first vs ts m = ([], ts, (λ one us r. u.last r), subst (λ q. Means last more (v.Bases q ∷ vs) ts) (sym (append-nil first)) m)

  take_MoreBases : (more : List Symbol) (first : List Base) (vs : List Value) (terminal : Terminal) (value : Value) (fs : List Fed) (ts rest : List Classified) → StandsToken terminal value ts rest → Ahead fs rest
      → Meaning last (step (At (Non o.MoreBases ∷ more) (v.Bases first ∷ vs) (fed (i.Token terminal) value ∷ fs))) → Means last (Non o.MoreBases ∷ more) (v.Bases first ∷ vs) ts
  take_MoreBases more first vs (t.Sign s.Comma) _ fs _ rest (token {k} f) h e = more_bases more first vs k rest (after last (Non o.Base ∷ Act a.AddBase ∷ Non o.MoreBases ∷ more) (v.Bases first ∷ vs) fs rest h e)
  take_MoreBases more first vs terminal value fs ts rest p h e = no_more_bases more first vs ts (e ts (rest, p, h))

  pub back_MoreBases : (more : List Symbol) (vs : List Value) (input : Input) (value : Value) (fs : List Fed) → Meaning last (step (At (Non o.MoreBases ∷ more) vs (fed input value ∷ fs))) → Meaning last (At (Non o.MoreBases ∷ more) vs (fed input value ∷ fs))
  back_MoreBases more (v.Bases first ∷ vs) i.ConstructorName value fs e ts h = tt
  back_MoreBases more (v.Bases first ∷ vs) (i.Token terminal) value fs e ts (rest, p, h) = take_MoreBases more first vs terminal value fs ts rest p h e
  back_MoreBases more (v.Bases first ∷ vs) input value fs e ts h = no_more_bases more first vs ts (e ts h)
  back_MoreBases more vs input value fs e ts h = at_input input (Non o.MoreBases ∷ more) (Means last (Non o.MoreBases ∷ more)) vs ts tt

  pub end_MoreBases : (more : List Symbol) (vs : List Value) → Meaning last (lack (otherwise o.MoreBases) more vs []) → Meaning last (At (Non o.MoreBases ∷ more) vs [])
  end_MoreBases more (v.Bases first ∷ vs) e ts h = no_more_bases more first vs ts (e ts h)
  end_MoreBases more vs e ts h = tt

  visible_class_row : (more : List Symbol) (vs : List Value) (kind : NameKind) (word : ContextualWord) (k : Token) (ts : List Classified) → IsKeyWord word → Means last (Non o.AggregateWord ∷ Act a.MakeKey ∷ Non o.AnyName ∷ Non o.ClassRest ∷ Act a.MakeVisibleClass ∷ more) (v.Name (record { kind = kind; word = word; identifier = identifier k }) ∷ vs) ts
      → Means last (Non o.VisibleRest ∷ more) vs (at (t.Name kind word) k ∷ ts)
  visible_class_row more vs kind word k ts key (second, l, us, takes_aggregate g, (sort, spelled, name, ws, takes, (one, rest, p, m))) =
      (_, _, rest, (λ which first visible. u.visible_class visible (p sort spelled name _ refl (u.key (is_class_word word key) g))), m)

  visible_enumeration_row : (more : List Symbol) (vs : List Value) (ts : List Classified) → Means last (Non o.Enumeration ∷ Act a.MakeVisibleEnumeration ∷ more) vs ts → Means last (Non o.VisibleRest ∷ more) vs ts
  visible_enumeration_row more vs ts (one, rest, p, m) = (_, _, rest, (λ which first visible. u.visible_enum visible p), m)

  take_VisibleRest : (more : List Symbol) (vs : List Value) (terminal : Terminal) (value : Value) (fs : List Fed) (ts rest : List Classified) → StandsToken terminal value ts rest → Ahead fs rest
      → Meaning last (step (At (Non o.VisibleRest ∷ more) vs (fed (i.Token terminal) value ∷ fs))) → Means last (Non o.VisibleRest ∷ more) vs ts
  take_VisibleRest more vs (t.Name n.Plain c.Ref) _ fs _ rest (token {k} f) h e = visible_class_row more vs n.Plain c.Ref k rest tt (after last (Non o.AggregateWord ∷ Act a.MakeKey ∷ Non o.AnyName ∷ Non o.ClassRest ∷ Act a.MakeVisibleClass ∷ more) (v.Name (record { kind = n.Plain; word = c.Ref; identifier = identifier k }) ∷ vs) fs rest h e)
  take_VisibleRest more vs (t.Name n.Function c.Ref) _ fs _ rest (token {k} f) h e = visible_class_row more vs n.Function c.Ref k rest tt (after last (Non o.AggregateWord ∷ Act a.MakeKey ∷ Non o.AnyName ∷ Non o.ClassRest ∷ Act a.MakeVisibleClass ∷ more) (v.Name (record { kind = n.Function; word = c.Ref; identifier = identifier k }) ∷ vs) fs rest h e)
  take_VisibleRest more vs (t.Name n.Type c.Ref) _ fs _ rest (token {k} f) h e = visible_class_row more vs n.Type c.Ref k rest tt (after last (Non o.AggregateWord ∷ Act a.MakeKey ∷ Non o.AnyName ∷ Non o.ClassRest ∷ Act a.MakeVisibleClass ∷ more) (v.Name (record { kind = n.Type; word = c.Ref; identifier = identifier k }) ∷ vs) fs rest h e)
  take_VisibleRest more vs (t.Name n.Plain c.Value) _ fs _ rest (token {k} f) h e = visible_class_row more vs n.Plain c.Value k rest tt (after last (Non o.AggregateWord ∷ Act a.MakeKey ∷ Non o.AnyName ∷ Non o.ClassRest ∷ Act a.MakeVisibleClass ∷ more) (v.Name (record { kind = n.Plain; word = c.Value; identifier = identifier k }) ∷ vs) fs rest h e)
  take_VisibleRest more vs (t.Name n.Function c.Value) _ fs _ rest (token {k} f) h e = visible_class_row more vs n.Function c.Value k rest tt (after last (Non o.AggregateWord ∷ Act a.MakeKey ∷ Non o.AnyName ∷ Non o.ClassRest ∷ Act a.MakeVisibleClass ∷ more) (v.Name (record { kind = n.Function; word = c.Value; identifier = identifier k }) ∷ vs) fs rest h e)
  take_VisibleRest more vs (t.Name n.Type c.Value) _ fs _ rest (token {k} f) h e = visible_class_row more vs n.Type c.Value k rest tt (after last (Non o.AggregateWord ∷ Act a.MakeKey ∷ Non o.AnyName ∷ Non o.ClassRest ∷ Act a.MakeVisibleClass ∷ more) (v.Name (record { kind = n.Type; word = c.Value; identifier = identifier k }) ∷ vs) fs rest h e)
  take_VisibleRest more vs (t.Name n.Plain c.Interface) _ fs _ rest (token {k} f) h e = visible_class_row more vs n.Plain c.Interface k rest tt (after last (Non o.AggregateWord ∷ Act a.MakeKey ∷ Non o.AnyName ∷ Non o.ClassRest ∷ Act a.MakeVisibleClass ∷ more) (v.Name (record { kind = n.Plain; word = c.Interface; identifier = identifier k }) ∷ vs) fs rest h e)
  take_VisibleRest more vs (t.Name n.Function c.Interface) _ fs _ rest (token {k} f) h e = visible_class_row more vs n.Function c.Interface k rest tt (after last (Non o.AggregateWord ∷ Act a.MakeKey ∷ Non o.AnyName ∷ Non o.ClassRest ∷ Act a.MakeVisibleClass ∷ more) (v.Name (record { kind = n.Function; word = c.Interface; identifier = identifier k }) ∷ vs) fs rest h e)
  take_VisibleRest more vs (t.Name n.Type c.Interface) _ fs _ rest (token {k} f) h e = visible_class_row more vs n.Type c.Interface k rest tt (after last (Non o.AggregateWord ∷ Act a.MakeKey ∷ Non o.AnyName ∷ Non o.ClassRest ∷ Act a.MakeVisibleClass ∷ more) (v.Name (record { kind = n.Type; word = c.Interface; identifier = identifier k }) ∷ vs) fs rest h e)
  take_VisibleRest more vs (t.Word w.Enum) value fs ts rest p h e = visible_enumeration_row more vs ts (e ts (rest, p, h))
  take_VisibleRest more vs _ value fs ts rest p h e = absurd e

  pub back_VisibleRest : (more : List Symbol) (vs : List Value) (input : Input) (value : Value) (fs : List Fed) → Meaning last (step (At (Non o.VisibleRest ∷ more) vs (fed input value ∷ fs))) → Meaning last (At (Non o.VisibleRest ∷ more) vs (fed input value ∷ fs))
  back_VisibleRest more vs i.ConstructorName value fs e ts h = absurd e
  back_VisibleRest more vs (i.Token terminal) value fs e ts (rest, p, h) = take_VisibleRest more vs terminal value fs ts rest p h e
  back_VisibleRest more vs input value fs e ts h = absurd e

  pub end_VisibleRest : (more : List Symbol) (vs : List Value) → Meaning last (lack (otherwise o.VisibleRest) more vs []) → Meaning last (At (Non o.VisibleRest ∷ more) vs [])
  end_VisibleRest more vs e ts h = absurd e
