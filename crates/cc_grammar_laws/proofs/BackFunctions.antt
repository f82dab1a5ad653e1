-- Backwards over what the automaton does at the parts of functions.
use Rattle.std.proofs.Common.{◌≡◌, sym, subst, refl, List, [], ◌∷◌, ◌++◌, append_assoc, append-nil}
use Rattle.std.specs.Prelude.{Option, Some, None}
use Rattle.cc_base.specs.declared.text.Span.{Span}
use Rattle.cc_tree.specs.declared.token.Token.{Token}
use Rattle.cc_tree.specs.declared.token.TokenKind.{TokenKind}
use Rattle.cc_tree.specs.declared.token.TokenKind.TheVariants as number
use Rattle.cc_tree.specs.declared.terminal.Terminal.{Terminal}
use Rattle.cc_tree.specs.declared.terminal.Terminal.TheVariants as t
use Rattle.cc_tree.specs.declared.terminal.NameKind.{NameKind}
use Rattle.cc_tree.specs.declared.terminal.NameKind.TheVariants as n
use Rattle.cc_tree.specs.declared.terminal.ContextualWord.{ContextualWord}
use Rattle.cc_tree.specs.declared.terminal.ContextualWord.TheVariants as c
use Rattle.cc_tree.specs.declared.terminal.ReservedWord.TheVariants as w
use Rattle.cc_tree.specs.declared.terminal.Sign.TheVariants as s
use Rattle.cc_tree.specs.declared.expression.Expression.{Expression}
use Rattle.cc_tree.specs.declared.member.Parameter.{Parameter}
use Rattle.cc_tree.specs.declared.member.Modifier.{Modifier}
use Rattle.cc_tree.specs.declared.member.Overridden.TheVariants as over
use Rattle.cc_tree.specs.declared.member.NamedFunction.{NamedFunction}
use Rattle.cc_tree.specs.declared.member.Accessor.{Accessor}
use Rattle.cc_tree.specs.declared.member.MemberInitializer.{MemberInitializer}
use Rattle.cc_tree.specs.declared.member.MemberInitializer.TheVariants as init
use Rattle.cc_tree.specs.Terminals.{Classified, at, Id, plain, function}
use Rattle.cc_tree.specs.Spans.{across}
use Rattle.cc_tree.specs.GrammarTypes as g
use Rattle.cc_tree.specs.GrammarTypes.{ReadsNamed}
use Rattle.cc_tree.specs.GrammarExpressions as x
use Rattle.cc_tree.specs.GrammarExpressions.{arguments, ReadsExpressions, ReadsArguments}
use Rattle.cc_tree.specs.GrammarMembers as y
use Rattle.cc_tree.specs.GrammarMembers.{ReadsParameter, ReadsParameterList, ReadsParameters, IsModifier, ReadsNamedFunction, ReadsNamedFunctions, ReadsOverridden, ReadsAccessors, ReadsInitializer, ReadsInitializerList}
use Rattle.cc_table.specs.declared.symbols.Sort.TheVariants as o
use Rattle.cc_table.specs.declared.symbols.Action.TheVariants as a
use Rattle.cc_table.specs.declared.symbols.Input.{Input}
use Rattle.cc_table.specs.declared.symbols.Input.TheVariants as i
use Rattle.cc_table.specs.declared.symbols.Symbol.{Symbol}
use Rattle.cc_table.specs.declared.symbols.Symbol.TheVariants.{Non, Act}
use Rattle.cc_table.specs.Table.{otherwise}
use Rattle.cc_pushdown.specs.declared.value.Node.{Node}
use Rattle.cc_pushdown.specs.declared.value.Value.{Value}
use Rattle.cc_pushdown.specs.declared.value.Value.TheVariants as v
use Rattle.cc_pushdown.specs.Values.{below, nowhere, top_number, top_type_name}
use Rattle.cc_pushdown.specs.Words.{accessor_of}
use Rattle.cc_pushdown.specs.Build.{grown, grown_from, list_span, list_span_from}
use Rattle.cc_pushdown.specs.Machine.{Fed, fed, At, lack, step}
use Rattle.cc_grammar_laws.specs.Read.{number_value}
use Rattle.cc_grammar_laws.proofs.Stands.{token}
use Rattle.cc_grammar_laws.proofs.ExpressionParts as list
use Rattle.cc_grammar_laws.proofs.ExpressionParts.{ListsExpressions}
use Rattle.cc_grammar_laws.proofs.MemberParts as parts
use Rattle.cc_grammar_laws.proofs.MemberParts.{stretched, reaching, name_token, GrowsParameters, MoreParameters, MoreNamedFunctions, MoreInitializers}
use Rattle.cc_grammar_laws.proofs.TypeParts.{takes, mark}
use Rattle.cc_grammar_laws.proofs.Means.{Means, Meaning, after}

-- a list that has grown by one and then by others
reaches : {A : Type 0} (first : List A) (one : A) (whole left : Span) (end : Option Span) → reaching (record { tree = first ++ one ∷ []; span = grown_from first whole left }) end ≡ grown_from first whole (stretched end left)
reaches first one whole left None = refl
reaches [] one whole left (Some last) = refl
reaches (other ∷ first) one whole left (Some last) = refl

regrow : {A : Type 0} (P : Node (List A) → Type 0) (first : Node (List A)) (one : A) (items : List A) (left : Span) (end : Option Span)
    → P (record { tree = (first.tree ++ one ∷ []) ++ items; span = reaching (record { tree = first.tree ++ one ∷ []; span = grown first left }) end })
    → P (record { tree = first.tree ++ (one ∷ items); span = grown first (stretched end left) })
regrow P first one items left end m =
    subst (λ q. P (record { tree = q; span = grown first (stretched end left) })) (append_assoc first.tree (one ∷ []) items)
    (subst (λ q. P (record { tree = (first.tree ++ one ∷ []) ++ items; span = q })) (reaches first.tree one first.span left end) m)

parameters_join : {one : Parameter} {items : List Parameter} {span : Span} {end : Option Span} {ts us rest : List Classified} → ReadsParameter one span ts us → MoreParameters items end us rest → ReadsParameterList (one ∷ items) (stretched end span) ts rest
parameters_join p parts.nothing = y.last p
parameters_join p (parts.comma q) = y.more p q

listed_span : {items : List Parameter} {span : Span} {ts rest : List Classified} → ReadsParameterList items span ts rest → (before : Span) → list_span_from items span before ≡ span
listed_span (y.last p) before = refl
listed_span (y.more p q) before = refl

-- parameters with the parentheses around them
pub parameters_of : {list : Node (List Parameter)} {open_ close : Token} {ts rest : List Classified} → GrowsParameters (record { tree = []; span = nowhere }) list ts (at (t.Sign s.CloseParenthesis) close ∷ rest)
    → ReadsParameters (record { items = list.tree; span = list_span list open_.span }) (at (t.Sign s.OpenParenthesis) open_ ∷ ts) rest
parameters_of parts.nothing = y.none
parameters_of {open_} {ts} {rest} (parts.listed {items} {span} p) = subst (λ q. ReadsParameters (record { items = items; span = q }) (at (t.Sign s.OpenParenthesis) open_ ∷ ts) rest) (sym (listed_span p open_.span)) (y.some p)

functions_join : {one : NamedFunction} {items : List NamedFunction} {end : Option Span} {ts us rest : List Classified} → ReadsNamedFunction one ts us → MoreNamedFunctions items end us rest → ReadsNamedFunctions (one ∷ items) (stretched end one.span) ts rest
functions_join p parts.nothing = y.last p
functions_join p (parts.comma q) = y.more p q

initializers_join : {one : MemberInitializer} {items : List MemberInitializer} {ts us rest : List Classified} → ReadsInitializer one ts us → MoreInitializers items us rest → ReadsInitializerList (one ∷ items) ts rest
initializers_join p parts.nothing = y.last p
initializers_join p (parts.comma q) = y.more p q

given_span : {items : List Expression} {span : Span} {ts rest : List Classified} → ReadsExpressions items span ts rest → (before : Span) → list_span_from items span before ≡ span
given_span (x.last p) before = refl
given_span (x.more p q) before = refl

arguments_of : {list : Node (List Expression)} {before : Span} {ts rest : List Classified} → ListsExpressions list ts rest → ReadsArguments before (arguments list.tree (list_span list before)) ts rest
arguments_of list.nothing = x.none
arguments_of {before} {ts} {rest} (list.listed {items} p) = subst (λ q. ReadsArguments before (arguments items q) ts rest) (sym (given_span p before)) (x.some p)

zero_span : (kind : TokenKind) (span : Span) (vs : List Value) → (top_number (number_value kind span ∷ vs)).span ≡ span
zero_span (number.Number value suffix radix) span vs = refl
zero_span _ span vs = refl

module _ (last : List Value) where
  parameters_grow : (more : List Symbol) (first : Node (List Parameter)) (vs : List Value) (ts : List Classified) → Means last (Non o.Type ∷ Non o.ParameterName ∷ Non o.MoreParameters ∷ more) (v.ParameterList first ∷ vs) ts
      → Means last (Non o.Parameters ∷ more) (v.ParameterList first ∷ vs) ts
  parameters_grow more first vs ts (of, span, us, p, (one, whole, ws, q, (items, end, rest, r, m))) =
      (_, rest, parts.listed (parameters_join (q ts p) r), regrow (λ q. Means last more (v.ParameterList q ∷ vs) rest) first one items whole end m)

  pub back_Parameters : (more : List Symbol) (vs : List Value) (input : Input) (value : Value) (fs : List Fed) → Meaning last (step (At (Non o.Parameters ∷ more) vs (fed input value ∷ fs))) → Meaning last (At (Non o.Parameters ∷ more) vs (fed input value ∷ fs))
  back_Parameters more vs i.ConstructorName value fs e ts h = tt
  back_Parameters more (v.ParameterList first ∷ vs) (i.Token (t.Sign s.CloseParenthesis)) value fs e ts h = (first, ts, parts.nothing, e ts h)
  back_Parameters more (v.ParameterList first ∷ vs) input value fs e ts h = parameters_grow more first vs ts (e ts h)
  back_Parameters more vs input value fs e ts h = tt

  pub end_Parameters : (more : List Symbol) (vs : List Value) → Meaning last (lack (otherwise o.Parameters) more vs []) → Meaning last (At (Non o.Parameters ∷ more) vs [])
  end_Parameters more (v.ParameterList first ∷ vs) e ts h = parameters_grow more first vs ts (e ts h)
  end_Parameters more vs e ts h = tt

  named_parameter : (more : List Symbol) (vs : List Value) (id : Terminal) (k : Token) (name : NameKind) (word : ContextualWord) (ts : List Classified) → Id id → Means last (Act a.AddNamedParameter ∷ more) (v.Name (name_token name word k) ∷ vs) ts → Means last (Non o.ParameterName ∷ more) vs (at id k ∷ ts)
  named_parameter more vs id k name word ts j m = (_, _, ts, (λ us p. y.named p j), m)

  unnamed_parameter : (more : List Symbol) (vs : List Value) (ts : List Classified) → Means last (Act a.AddParameter ∷ more) vs ts → Means last (Non o.ParameterName ∷ more) vs ts
  unnamed_parameter more vs ts m = (_, _, ts, (λ us p. y.unnamed p), m)

  pub back_ParameterName : (more : List Symbol) (vs : List Value) (input : Input) (value : Value) (fs : List Fed) → Meaning last (step (At (Non o.ParameterName ∷ more) vs (fed input value ∷ fs))) → Meaning last (At (Non o.ParameterName ∷ more) vs (fed input value ∷ fs))
  back_ParameterName more vs i.ConstructorName value fs e ts h = tt
  back_ParameterName more vs (i.Token (t.Name n.Plain word)) value fs e ts (rest, token {k} fits, h) = named_parameter more vs _ k n.Plain word rest plain (after last (Act a.AddNamedParameter ∷ more) (v.Name (name_token n.Plain word k) ∷ vs) fs rest h e)
  back_ParameterName more vs (i.Token (t.Name n.Function word)) value fs e ts (rest, token {k} fits, h) = named_parameter more vs _ k n.Function word rest function (after last (Act a.AddNamedParameter ∷ more) (v.Name (name_token n.Function word k) ∷ vs) fs rest h e)
  back_ParameterName more vs input value fs e ts h = unnamed_parameter more vs ts (e ts h)

  pub end_ParameterName : (more : List Symbol) (vs : List Value) → Meaning last (lack (otherwise o.ParameterName) more vs []) → Meaning last (At (Non o.ParameterName ∷ more) vs [])
  end_ParameterName more vs e ts h = unnamed_parameter more vs ts (e ts h)

  more_parameters : (more : List Symbol) (first : Node (List Parameter)) (vs : List Value) (k : Token) (ts : List Classified) → Means last (Non o.Type ∷ Non o.ParameterName ∷ Non o.MoreParameters ∷ more) (v.ParameterList first ∷ vs) ts
      → Means last (Non o.MoreParameters ∷ more) (v.ParameterList first ∷ vs) (at (t.Sign s.Comma) k ∷ ts)
  more_parameters more first vs k ts (of, span, us, p, (one, whole, ws, q, (items, end, rest, r, m))) =
      (one ∷ items, Some (stretched end whole), rest, parts.comma (parameters_join (q ts p) r), regrow (λ q. Means last more (v.ParameterList q ∷ vs) rest) first one items whole end m)

  no_more_parameters : (more : List Symbol) (first : Node (List Parameter)) (vs : List Value) (ts : List Classified) → Means last more (v.ParameterList first ∷ vs) ts → Means last (Non o.MoreParameters ∷ more) (v.ParameterList first ∷ vs) ts
  no_more_parameters more first vs ts m = ([], None, ts, parts.nothing, subst (λ q. Means last more (v.ParameterList (record { tree = q; span = first.span }) ∷ vs) ts) (sym (append-nil first.tree)) m)

  pub back_MoreParameters : (more : List Symbol) (vs : List Value) (input : Input) (value : Value) (fs : List Fed) → Meaning last (step (At (Non o.MoreParameters ∷ more) vs (fed input value ∷ fs))) → Meaning last (At (Non o.MoreParameters ∷ more) vs (fed input value ∷ fs))
  back_MoreParameters more vs i.ConstructorName value fs e ts h = tt
  back_MoreParameters more (v.ParameterList first ∷ vs) (i.Token (t.Sign s.Comma)) value fs e ts (rest, token {k} fits, h) = more_parameters more first vs k rest (after last (Non o.Type ∷ Non o.ParameterName ∷ Non o.MoreParameters ∷ more) (v.ParameterList first ∷ vs) fs rest h e)
  back_MoreParameters more (v.ParameterList first ∷ vs) input value fs e ts h = no_more_parameters more first vs ts (e ts h)
  back_MoreParameters more vs input value fs e ts h = tt

  pub end_MoreParameters : (more : List Symbol) (vs : List Value) → Meaning last (lack (otherwise o.MoreParameters) more vs []) → Meaning last (At (Non o.MoreParameters ∷ more) vs [])
  end_MoreParameters more (v.ParameterList first ∷ vs) e ts h = no_more_parameters more first vs ts (e ts h)
  end_MoreParameters more vs e ts h = tt

  next_modifier : (more : List Symbol) (first : List Modifier) (vs : List Value) (terminal : Terminal) (one : Modifier) (k : Token) (ts : List Classified) → IsModifier terminal k.span one
      → Means last (Non o.Modifiers ∷ more) (v.Modifiers (first ++ one ∷ []) ∷ vs) ts → Means last (Non o.Modifiers ∷ more) (v.Modifiers first ∷ vs) (at terminal k ∷ ts)
  next_modifier more first vs terminal one k ts j (items, rest, p, m) = (one ∷ items, rest, y.next j p, subst (λ q. Means last more (v.Modifiers q ∷ vs) rest) (append_assoc first (one ∷ []) items) m)

  no_modifier : (more : List Symbol) (first : List Modifier) (vs : List Value) (ts : List Classified) → Means last more (v.Modifiers first ∷ vs) ts → Means last (Non o.Modifiers ∷ more) (v.Modifiers first ∷ vs) ts
  no_modifier more first vs ts m = ([], ts, y.none, subst (λ q. Means last more (v.Modifiers q ∷ vs) ts) (sym (append-nil first)) m)

  pub back_Modifiers : (more : List Symbol) (vs : List Value) (input : Input) (value : Value) (fs : List Fed) → Meaning last (step (At (Non o.Modifiers ∷ more) vs (fed input value ∷ fs))) → Meaning last (At (Non o.Modifiers ∷ more) vs (fed input value ∷ fs))
  back_Modifiers more vs i.ConstructorName value fs e ts h = tt
  back_Modifiers more (v.Modifiers first ∷ vs) (i.Token (t.Name kind c.Abstract)) value fs e ts (rest, token {k} fits, h) = next_modifier more first vs _ _ k rest y.abstract (after last (Act a.AddModifier ∷ Non o.Modifiers ∷ more) (v.Name (name_token kind c.Abstract k) ∷ v.Modifiers first ∷ vs) fs rest h e)
  back_Modifiers more (v.Modifiers first ∷ vs) (i.Token (t.Name kind c.Override)) value fs e ts (rest, token {k} fits, h) = next_modifier more first vs _ _ k rest y.override (after last (Act a.AddModifier ∷ Non o.Modifiers ∷ more) (v.Name (name_token kind c.Override k) ∷ v.Modifiers first ∷ vs) fs rest h e)
  back_Modifiers more (v.Modifiers first ∷ vs) (i.Token (t.Name kind c.Sealed)) value fs e ts (rest, token {k} fits, h) = next_modifier more first vs _ _ k rest y.sealed (after last (Act a.AddModifier ∷ Non o.Modifiers ∷ more) (v.Name (name_token kind c.Sealed k) ∷ v.Modifiers first ∷ vs) fs rest h e)
  back_Modifiers more (v.Modifiers first ∷ vs) (i.Token (t.Word w.New)) value fs e ts (rest, token {k} fits, h) = next_modifier more first vs _ _ k rest y.new (after last (Act a.AddModifier ∷ Non o.Modifiers ∷ more) (mark (t.Word w.New) k.span ∷ v.Modifiers first ∷ vs) fs rest h e)
  back_Modifiers more (v.Modifiers first ∷ vs) input value fs e ts h = no_modifier more first vs ts (e ts h)
  back_Modifiers more vs input value fs e ts h = tt

  pub end_Modifiers : (more : List Symbol) (vs : List Value) → Meaning last (lack (otherwise o.Modifiers) more vs []) → Meaning last (At (Non o.Modifiers ∷ more) vs [])
  end_Modifiers more (v.Modifiers first ∷ vs) e ts h = no_modifier more first vs ts (e ts h)
  end_Modifiers more vs e ts h = tt

  overriding : (more : List Symbol) (vs : List Value) (k : Token) (ts : List Classified) → Means last (Non o.Overridden ∷ more) vs ts → Means last (Non o.Overriding ∷ more) vs (at (t.Sign s.Assign) k ∷ ts)
  overriding more vs k ts (one, rest, p, m) = (one, rest, p k, m)

  pub back_Overriding : (more : List Symbol) (vs : List Value) (input : Input) (value : Value) (fs : List Fed) → Meaning last (step (At (Non o.Overriding ∷ more) vs (fed input value ∷ fs))) → Meaning last (At (Non o.Overriding ∷ more) vs (fed input value ∷ fs))
  back_Overriding more vs i.ConstructorName value fs e ts h = tt
  back_Overriding more vs (i.Token (t.Sign s.Assign)) value fs e ts (rest, token {k} fits, h) = overriding more vs k rest (after last (Non o.Overridden ∷ more) (vs) fs rest h e)
  back_Overriding more vs input value fs e ts h = (None, ts, y.none, (e ts h))

  pub end_Overriding : (more : List Symbol) (vs : List Value) → Meaning last (lack (otherwise o.Overriding) more vs []) → Meaning last (At (Non o.Overriding ∷ more) vs [])
  end_Overriding more vs e ts h = (None, ts, y.none, (e ts h))

  pure : (more : List Symbol) (vs : List Value) (k : Token) (ts : List Classified) → Means last (Act a.MakePure ∷ more) (number_value k.kind k.span ∷ vs) ts → Means last (Non o.Overridden ∷ more) vs (at t.Zero k ∷ ts)
  pure more vs k ts m =
      (_, ts, (λ equals. subst (λ q. ReadsOverridden (Some (over.Pure q)) (at (t.Sign s.Assign) equals ∷ at t.Zero k ∷ ts) ts) (sym (zero_span k.kind k.span vs)) y.pure), m)

  overridden_functions : (more : List Symbol) (vs : List Value) (ts : List Classified) → Means last (Act a.StartNamedFunctions ∷ Non o.NamedFunction ∷ Act a.AddNamedFunction ∷ Non o.MoreNamedFunctions ∷ Act a.MakeOverridden ∷ more) vs ts
      → Means last (Non o.Overridden ∷ more) vs ts
  overridden_functions more vs ts (one, us, p, (items, end, rest, q, m)) =
      (_, rest, (λ equals. y.functions (functions_join p q)), subst (λ q. Means last more (v.Overridden (Some (over.Functions (one ∷ items) q)) ∷ vs) rest) (reaches [] one nowhere one.span end) m)

  pub back_Overridden : (more : List Symbol) (vs : List Value) (input : Input) (value : Value) (fs : List Fed) → Meaning last (step (At (Non o.Overridden ∷ more) vs (fed input value ∷ fs))) → Meaning last (At (Non o.Overridden ∷ more) vs (fed input value ∷ fs))
  back_Overridden more vs i.ConstructorName value fs e ts h = tt
  back_Overridden more vs (i.Token t.Zero) value fs e ts (rest, token {k} fits, h) = pure more vs k rest (after last (Act a.MakePure ∷ more) (number_value k.kind k.span ∷ vs) fs rest h e)
  back_Overridden more vs input value fs e ts h = overridden_functions more vs ts (e ts h)

  pub end_Overridden : (more : List Symbol) (vs : List Value) → Meaning last (lack (otherwise o.Overridden) more vs []) → Meaning last (At (Non o.Overridden ∷ more) vs [])
  end_Overridden more vs e ts h = overridden_functions more vs ts (e ts h)

  named_function : (more : List Symbol) (vs : List Value) (ts : List Classified) → Means last (Non o.NamedType ∷ Non o.Scope ∷ Non o.Identifier ∷ Non o.NamedAccessor ∷ more) vs ts → Means last (Non o.NamedFunction ∷ more) vs ts
  named_function more vs ts (class, span, us, p, (scope, ws, takes, (kind, word, k, xs, j, takes, (one, rest, q, m)))) = (one, rest, q ts scope k (t.Name kind word) p j refl, m)

  pub back_NamedFunction : (more : List Symbol) (vs : List Value) (input : Input) (value : Value) (fs : List Fed) → Meaning last (step (At (Non o.NamedFunction ∷ more) vs (fed input value ∷ fs))) → Meaning last (At (Non o.NamedFunction ∷ more) vs (fed input value ∷ fs))
  back_NamedFunction more vs i.ConstructorName value fs e ts h = tt
  back_NamedFunction more vs input value fs e ts h = named_function more vs ts (e ts h)

  pub end_NamedFunction : (more : List Symbol) (vs : List Value) → Meaning last (lack (otherwise o.NamedFunction) more vs []) → Meaning last (At (Non o.NamedFunction ∷ more) vs [])
  end_NamedFunction more vs e ts h = named_function more vs ts (e ts h)

  named_accessor : (more : List Symbol) (vs : List Value) (second : Token) (ts : List Classified) → Means last (Non o.AccessorWord ∷ Act a.MakeNamedAccessor ∷ more) vs ts → Means last (Non o.NamedAccessor ∷ more) vs (at (t.Sign s.Scope) second ∷ ts)
  named_accessor more vs second ts (kind, word, l, rest, parts.accessor is, m) =
      (_, rest, (λ us scope k id p j same. subst (λ q. ReadsNamedFunction (record { class = (top_type_name (below vs)).tree; name = q; accessor = Some (accessor_of word); span = across (top_type_name (below vs)).span l.span }) us rest) same (y.accessor p j is)), m)

  function_alone : (more : List Symbol) (vs : List Value) (ts : List Classified) → Means last (Act a.MakeNamedFunction ∷ more) vs ts → Means last (Non o.NamedAccessor ∷ more) vs ts
  function_alone more vs ts m =
      (_, ts, (λ us scope k id p j same. subst (λ q. ReadsNamedFunction (record { class = (top_type_name (below vs)).tree; name = q; accessor = None; span = across (top_type_name (below vs)).span q.span }) us ts) same (y.function p j)), m)

  pub back_NamedAccessor : (more : List Symbol) (vs : List Value) (input : Input) (value : Value) (fs : List Fed) → Meaning last (step (At (Non o.NamedAccessor ∷ more) vs (fed input value ∷ fs))) → Meaning last (At (Non o.NamedAccessor ∷ more) vs (fed input value ∷ fs))
  back_NamedAccessor more vs i.ConstructorName value fs e ts h = tt
  back_NamedAccessor more vs (i.Token (t.Sign s.Scope)) value fs e ts (rest, token {k} fits, h) = named_accessor more vs k rest (after last (Non o.AccessorWord ∷ Act a.MakeNamedAccessor ∷ more) (vs) fs rest h e)
  back_NamedAccessor more vs input value fs e ts h = function_alone more vs ts (e ts h)

  pub end_NamedAccessor : (more : List Symbol) (vs : List Value) → Meaning last (lack (otherwise o.NamedAccessor) more vs []) → Meaning last (At (Non o.NamedAccessor ∷ more) vs [])
  end_NamedAccessor more vs e ts h = function_alone more vs ts (e ts h)

  more_functions : (more : List Symbol) (first : Node (List NamedFunction)) (vs : List Value) (k : Token) (ts : List Classified) → Means last (Non o.NamedFunction ∷ Act a.AddNamedFunction ∷ Non o.MoreNamedFunctions ∷ more) (v.NamedFunctions first ∷ vs) ts
      → Means last (Non o.MoreNamedFunctions ∷ more) (v.NamedFunctions first ∷ vs) (at (t.Sign s.Comma) k ∷ ts)
  more_functions more first vs k ts (one, us, p, (items, end, rest, q, m)) =
      (one ∷ items, Some (stretched end one.span), rest, parts.comma (functions_join p q), regrow (λ q. Means last more (v.NamedFunctions q ∷ vs) rest) first one items one.span end m)

  no_more_functions : (more : List Symbol) (first : Node (List NamedFunction)) (vs : List Value) (ts : List Classified) → Means last more (v.NamedFunctions first ∷ vs) ts → Means last (Non o.MoreNamedFunctions ∷ more) (v.NamedFunctions first ∷ vs) ts
  no_more_functions more first vs ts m = ([], None, ts, parts.nothing, subst (λ q. Means last more (v.NamedFunctions (record { tree = q; span = first.span }) ∷ vs) ts) (sym (append-nil first.tree)) m)

  pub back_MoreNamedFunctions : (more : List Symbol) (vs : List Value) (input : Input) (value : Value) (fs : List Fed) → Meaning last (step (At (Non o.MoreNamedFunctions ∷ more) vs (fed input value ∷ fs))) → Meaning last (At (Non o.MoreNamedFunctions ∷ more) vs (fed input value ∷ fs))
  back_MoreNamedFunctions more vs i.ConstructorName value fs e ts h = tt
  back_MoreNamedFunctions more (v.NamedFunctions first ∷ vs) (i.Token (t.Sign s.Comma)) value fs e ts (rest, token {k} fits, h) = more_functions more first vs k rest (after last (Non o.NamedFunction ∷ Act a.AddNamedFunction ∷ Non o.MoreNamedFunctions ∷ more) (v.NamedFunctions first ∷ vs) fs rest h e)
  back_MoreNamedFunctions more (v.NamedFunctions first ∷ vs) input value fs e ts h = no_more_functions more first vs ts (e ts h)
  back_MoreNamedFunctions more vs input value fs e ts h = tt

  pub end_MoreNamedFunctions : (more : List Symbol) (vs : List Value) → Meaning last (lack (otherwise o.MoreNamedFunctions) more vs []) → Meaning last (At (Non o.MoreNamedFunctions ∷ more) vs [])
  end_MoreNamedFunctions more (v.NamedFunctions first ∷ vs) e ts h = no_more_functions more first vs ts (e ts h)
  end_MoreNamedFunctions more vs e ts h = tt

  block_body : (more : List Symbol) (vs : List Value) (ts : List Classified) → Means last (Non o.Block ∷ Act a.SomeBody ∷ more) vs ts → Means last (Non o.Body ∷ more) vs ts
  block_body more vs ts (body, span, rest, p, m) = (_, _, rest, y.some p, m)

  pub back_Body : (more : List Symbol) (vs : List Value) (input : Input) (value : Value) (fs : List Fed) → Meaning last (step (At (Non o.Body ∷ more) vs (fed input value ∷ fs))) → Meaning last (At (Non o.Body ∷ more) vs (fed input value ∷ fs))
  back_Body more vs i.ConstructorName value fs e ts h = tt
  back_Body more vs (i.Token (t.Sign s.Semicolon)) value fs e ts (rest, token {k} fits, h) = (_, _, rest, y.none, after last (Act a.NoBody ∷ more) (mark (t.Sign s.Semicolon) k.span ∷ vs) fs rest h e)
  back_Body more vs input value fs e ts h = block_body more vs ts (e ts h)

  pub end_Body : (more : List Symbol) (vs : List Value) → Meaning last (lack (otherwise o.Body) more vs []) → Meaning last (At (Non o.Body ∷ more) vs [])
  end_Body more vs e ts h = block_body more vs ts (e ts h)

  pub back_AccessorWord : (more : List Symbol) (vs : List Value) (input : Input) (value : Value) (fs : List Fed) → Meaning last (step (At (Non o.AccessorWord ∷ more) vs (fed input value ∷ fs))) → Meaning last (At (Non o.AccessorWord ∷ more) vs (fed input value ∷ fs))
  back_AccessorWord more vs i.ConstructorName value fs e ts h = tt
  back_AccessorWord more vs (i.Token (t.Name kind c.Get)) value fs e ts (rest, token {k} fits, h) = (kind, c.Get, k, rest, parts.accessor y.get, after last more (v.Name (name_token kind c.Get k) ∷ vs) fs rest h e)
  back_AccessorWord more vs (i.Token (t.Name kind c.Set)) value fs e ts (rest, token {k} fits, h) = (kind, c.Set, k, rest, parts.accessor y.set, after last more (v.Name (name_token kind c.Set k) ∷ vs) fs rest h e)
  back_AccessorWord more vs input value fs e ts h = absurd e

  pub end_AccessorWord : (more : List Symbol) (vs : List Value) → Meaning last (lack (otherwise o.AccessorWord) more vs []) → Meaning last (At (Non o.AccessorWord ∷ more) vs [])
  end_AccessorWord more vs e ts h = absurd e

  abbrev AccessorPart : List Symbol → List Symbol
  AccessorPart more = Non o.Type ∷ Non o.AccessorWord ∷ Non o.KeptOpenParenthesis ∷ Act a.StartParameters ∷ Non o.Parameters ∷ Act a.MakeParameters ∷ Non o.CloseParenthesis ∷ Act a.StartModifiers ∷ Non o.Modifiers ∷ Non o.Overriding ∷ Non o.Body ∷ Act a.MakeAccessor ∷ more

  simple_accessor : (more : List Symbol) (vs : List Value) (ts : List Classified) → Means last (AccessorPart more) (v.NoStorage ∷ vs) ts → Means last (Non o.Accessor ∷ more) vs ts
  simple_accessor more vs ts (of, first, us, p, (kind, word, k, ws, parts.accessor is, (open_, xs, takes, (list, ys, q, (close, zs, takes, (modifiers, qs, r, (overridden, ps, l, (body, end, rest, b, m)))))))) =
      (_, rest, y.accessor_ p is (parameters_of q) r l b, m)

  virtual_accessor : (more : List Symbol) (vs : List Value) (virtual_ : Token) (ts : List Classified) → Means last (AccessorPart more) (mark (t.Word w.Virtual) virtual_.span ∷ vs) ts → Means last (Non o.Accessor ∷ more) vs (at (t.Word w.Virtual) virtual_ ∷ ts)
  virtual_accessor more vs virtual_ ts (of, first, us, p, (kind, word, k, ws, parts.accessor is, (open_, xs, takes, (list, ys, q, (close, zs, takes, (modifiers, qs, r, (overridden, ps, l, (body, end, rest, b, m)))))))) =
      (_, rest, y.virtual p is (parameters_of q) r l b, m)

  pub back_Accessor : (more : List Symbol) (vs : List Value) (input : Input) (value : Value) (fs : List Fed) → Meaning last (step (At (Non o.Accessor ∷ more) vs (fed input value ∷ fs))) → Meaning last (At (Non o.Accessor ∷ more) vs (fed input value ∷ fs))
  back_Accessor more vs i.ConstructorName value fs e ts h = tt
  back_Accessor more vs (i.Token (t.Word w.Virtual)) value fs e ts (rest, token {k} fits, h) = virtual_accessor more vs k rest (after last (AccessorPart more) (mark (t.Word w.Virtual) k.span ∷ vs) fs rest h e)
  back_Accessor more vs input value fs e ts h = simple_accessor more vs ts (e ts h)

  pub end_Accessor : (more : List Symbol) (vs : List Value) → Meaning last (lack (otherwise o.Accessor) more vs []) → Meaning last (At (Non o.Accessor ∷ more) vs [])
  end_Accessor more vs e ts h = simple_accessor more vs ts (e ts h)

  next_accessor : (more : List Symbol) (first : List Accessor) (vs : List Value) (ts : List Classified) → Means last (Non o.Accessor ∷ Act a.AddAccessor ∷ Non o.Accessors ∷ more) (v.Accessors first ∷ vs) ts → Means last (Non o.Accessors ∷ more) (v.Accessors first ∷ vs) ts
  next_accessor more first vs ts (one, us, p, (items, rest, q, m)) = (one ∷ items, rest, y.next p q, subst (λ q. Means last more (v.Accessors q ∷ vs) rest) (append_assoc first (one ∷ []) items) m)

  no_accessor : (more : List Symbol) (first : List Accessor) (vs : List Value) (ts : List Classified) → Means last more (v.Accessors first ∷ vs) ts → Means last (Non o.Accessors ∷ more) (v.Accessors first ∷ vs) ts
  no_accessor more first vs ts m = ([], ts, y.none, subst (λ q. Means last more (v.Accessors q ∷ vs) ts) (sym (append-nil first)) m)

  pub back_Accessors : (more : List Symbol) (vs : List Value) (input : Input) (value : Value) (fs : List Fed) → Meaning last (step (At (Non o.Accessors ∷ more) vs (fed input value ∷ fs))) → Meaning last (At (Non o.Accessors ∷ more) vs (fed input value ∷ fs))
  back_Accessors more vs i.ConstructorName value fs e ts h = tt
  back_Accessors more (v.Accessors first ∷ vs) (i.Token (t.Sign s.CloseBrace)) value fs e ts h = no_accessor more first vs ts (e ts h)
  back_Accessors more (v.Accessors first ∷ vs) input value fs e ts h = next_accessor more first vs ts (e ts h)
  back_Accessors more vs input value fs e ts h = tt

  pub end_Accessors : (more : List Symbol) (vs : List Value) → Meaning last (lack (otherwise o.Accessors) more vs []) → Meaning last (At (Non o.Accessors ∷ more) vs [])
  end_Accessors more (v.Accessors first ∷ vs) e ts h = next_accessor more first vs ts (e ts h)
  end_Accessors more vs e ts h = tt

  first_initializer : (more : List Symbol) (vs : List Value) (k : Token) (ts : List Classified) → Means last (Act a.StartInitializers ∷ Non o.Initializer ∷ Act a.AddInitializer ∷ Non o.MoreInitializers ∷ more) vs ts
      → Means last (Non o.Initializers ∷ more) vs (at (t.Sign s.Colon) k ∷ ts)
  first_initializer more vs k ts (one, us, p, (items, rest, q, m)) = (_, rest, y.some (initializers_join p q), m)

  pub back_Initializers : (more : List Symbol) (vs : List Value) (input : Input) (value : Value) (fs : List Fed) → Meaning last (step (At (Non o.Initializers ∷ more) vs (fed input value ∷ fs))) → Meaning last (At (Non o.Initializers ∷ more) vs (fed input value ∷ fs))
  back_Initializers more vs i.ConstructorName value fs e ts h = tt
  back_Initializers more vs (i.Token (t.Sign s.Colon)) value fs e ts (rest, token {k} fits, h) = first_initializer more vs k rest (after last (Act a.StartInitializers ∷ Non o.Initializer ∷ Act a.AddInitializer ∷ Non o.MoreInitializers ∷ more) (vs) fs rest h e)
  back_Initializers more vs input value fs e ts h = ([], ts, y.none, (e ts h))

  pub end_Initializers : (more : List Symbol) (vs : List Value) → Meaning last (lack (otherwise o.Initializers) more vs []) → Meaning last (At (Non o.Initializers ∷ more) vs [])
  end_Initializers more vs e ts h = ([], ts, y.none, (e ts h))

  next_initializer : (more : List Symbol) (first : List MemberInitializer) (vs : List Value) (k : Token) (ts : List Classified) → Means last (Non o.Initializer ∷ Act a.AddInitializer ∷ Non o.MoreInitializers ∷ more) (v.Initializers first ∷ vs) ts
      → Means last (Non o.MoreInitializers ∷ more) (v.Initializers first ∷ vs) (at (t.Sign s.Comma) k ∷ ts)
  next_initializer more first vs k ts (one, us, p, (items, rest, q, m)) = (one ∷ items, rest, parts.comma (initializers_join p q), subst (λ q. Means last more (v.Initializers q ∷ vs) rest) (append_assoc first (one ∷ []) items) m)

  no_more_initializers : (more : List Symbol) (first : List MemberInitializer) (vs : List Value) (ts : List Classified) → Means last more (v.Initializers first ∷ vs) ts → Means last (Non o.MoreInitializers ∷ more) (v.Initializers first ∷ vs) ts
  no_more_initializers more first vs ts m = ([], ts, parts.nothing, subst (λ q. Means last more (v.Initializers q ∷ vs) ts) (sym (append-nil first)) m)

  pub back_MoreInitializers : (more : List Symbol) (vs : List Value) (input : Input) (value : Value) (fs : List Fed) → Meaning last (step (At (Non o.MoreInitializers ∷ more) vs (fed input value ∷ fs))) → Meaning last (At (Non o.MoreInitializers ∷ more) vs (fed input value ∷ fs))
  back_MoreInitializers more vs i.ConstructorName value fs e ts h = tt
  back_MoreInitializers more (v.Initializers first ∷ vs) (i.Token (t.Sign s.Comma)) value fs e ts (rest, token {k} fits, h) = next_initializer more first vs k rest (after last (Non o.Initializer ∷ Act a.AddInitializer ∷ Non o.MoreInitializers ∷ more) (v.Initializers first ∷ vs) fs rest h e)
  back_MoreInitializers more (v.Initializers first ∷ vs) input value fs e ts h = no_more_initializers more first vs ts (e ts h)
  back_MoreInitializers more vs input value fs e ts h = tt

  pub end_MoreInitializers : (more : List Symbol) (vs : List Value) → Meaning last (lack (otherwise o.MoreInitializers) more vs []) → Meaning last (At (Non o.MoreInitializers ∷ more) vs [])
  end_MoreInitializers more (v.Initializers first ∷ vs) e ts h = no_more_initializers more first vs ts (e ts h)
  end_MoreInitializers more vs e ts h = tt

  abbrev BasePart : List Symbol → List Symbol
  BasePart more = Non o.KeptOpenParenthesis ∷ Act a.StartExpressions ∷ Non o.Arguments ∷ Act a.MakeArguments ∷ Non o.KeptCloseParenthesis ∷ Act a.MakeBaseInitializer ∷ more

  base_initializer : (more : List Symbol) (vs : List Value) (word : ContextualWord) (k : Token) (ts : List Classified) → Means last (Act a.StartPath ∷ Non o.TemplateArguments ∷ BasePart more) (v.Name (name_token n.Type word k) ∷ vs) ts
      → Means last (Non o.Initializer ∷ more) vs (at (t.Name n.Type word) k ∷ ts)
  base_initializer more vs word k ts (of, span, us, p, (open_, ws, takes, (list, xs, q, (close, rest, takes, m)))) = (_, rest, y.base (p _ word k refl g.none) (arguments_of (q refl)), m)

  name_initializer : (more : List Symbol) (vs : List Value) (id : Terminal) (kind : NameKind) (word : ContextualWord) (k : Token) (ts : List Classified) → Id id → Means last (Non o.InitializerName ∷ more) (v.Name (name_token kind word k) ∷ vs) ts
      → Means last (Non o.Initializer ∷ more) vs (at id k ∷ ts)
  name_initializer more vs id kind word k ts j (one, rest, p, m) = (one, rest, p id k j refl, m)

  pub back_Initializer : (more : List Symbol) (vs : List Value) (input : Input) (value : Value) (fs : List Fed) → Meaning last (step (At (Non o.Initializer ∷ more) vs (fed input value ∷ fs))) → Meaning last (At (Non o.Initializer ∷ more) vs (fed input value ∷ fs))
  back_Initializer more vs i.ConstructorName value fs e ts h = tt
  back_Initializer more vs (i.Token (t.Name n.Type word)) value fs e ts (rest, token {k} fits, h) = base_initializer more vs word k rest (after last (Act a.StartPath ∷ Non o.TemplateArguments ∷ BasePart more) (v.Name (name_token n.Type word k) ∷ vs) fs rest h e)
  back_Initializer more vs (i.Token (t.Name n.Plain word)) value fs e ts (rest, token {k} fits, h) = name_initializer more vs _ n.Plain word k rest plain (after last (Non o.InitializerName ∷ more) (v.Name (name_token n.Plain word k) ∷ vs) fs rest h e)
  back_Initializer more vs (i.Token (t.Name n.Function word)) value fs e ts (rest, token {k} fits, h) = name_initializer more vs _ n.Function word k rest function (after last (Non o.InitializerName ∷ more) (v.Name (name_token n.Function word k) ∷ vs) fs rest h e)
  back_Initializer more vs input value fs e ts h = absurd e

  pub end_Initializer : (more : List Symbol) (vs : List Value) → Meaning last (lack (otherwise o.Initializer) more vs []) → Meaning last (At (Non o.Initializer ∷ more) vs [])
  end_Initializer more vs e ts h = absurd e

  member_initializer : (more : List Symbol) (vs : List Value) (open_ : Token) (ts : List Classified) → Means last (Act a.StartExpressions ∷ Non o.Arguments ∷ Act a.MakeArguments ∷ Non o.KeptCloseParenthesis ∷ Act a.MakeMemberInitializer ∷ more) (mark (t.Sign s.OpenParenthesis) open_.span ∷ vs) ts
      → Means last (Non o.InitializerName ∷ more) vs (at (t.Sign s.OpenParenthesis) open_ ∷ ts)
  member_initializer more vs open_ ts (list, xs, q, (close, rest, takes, m)) =
      (_, rest, (λ id k j same. subst (λ q. ReadsInitializer (init.Member q (arguments list.tree (list_span list open_.span)) (across q.span close.span)) (at id k ∷ at (t.Sign s.OpenParenthesis) open_ ∷ ts) rest) same (y.member j (arguments_of (q refl)))), m)

  outer_initializer : (more : List Symbol) (vs : List Value) (scope : Token) (ts : List Classified) → Means last (Act a.StartPath ∷ Act a.AddToPath ∷ Non o.TypePath ∷ BasePart more) vs ts → Means last (Non o.InitializerName ∷ more) vs (at (t.Sign s.Scope) scope ∷ ts)
  outer_initializer more vs scope ts (of, span, us, p, (open_, ws, takes, (list, xs, q, (close, rest, takes, m)))) =
      (_, rest, (λ id k j same. y.base (p _ (λ path last r. subst (λ u. g.ReadsPath (u ∷ path) (at id k ∷ at (t.Sign s.Scope) scope ∷ ts) last) same (g.next j r))) (arguments_of (q refl))), m)

  pub back_InitializerName : (more : List Symbol) (vs : List Value) (input : Input) (value : Value) (fs : List Fed) → Meaning last (step (At (Non o.InitializerName ∷ more) vs (fed input value ∷ fs))) → Meaning last (At (Non o.InitializerName ∷ more) vs (fed input value ∷ fs))
  back_InitializerName more vs i.ConstructorName value fs e ts h = tt
  back_InitializerName more vs (i.Token (t.Sign s.OpenParenthesis)) value fs e ts (rest, token {k} fits, h) = member_initializer more vs k rest (after last (Act a.StartExpressions ∷ Non o.Arguments ∷ Act a.MakeArguments ∷ Non o.KeptCloseParenthesis ∷ Act a.MakeMemberInitializer ∷ more) (mark (t.Sign s.OpenParenthesis) k.span ∷ vs) fs rest h e)
  back_InitializerName more vs (i.Token (t.Sign s.Scope)) value fs e ts (rest, token {k} fits, h) = outer_initializer more vs k rest (after last (Act a.StartPath ∷ Act a.AddToPath ∷ Non o.TypePath ∷ BasePart more) vs fs rest h e)
  back_InitializerName more vs input value fs e ts h = absurd e

  pub end_InitializerName : (more : List Symbol) (vs : List Value) → Meaning last (lack (otherwise o.InitializerName) more vs []) → Meaning last (At (Non o.InitializerName ∷ more) vs [])
  end_InitializerName more vs e ts h = absurd e
