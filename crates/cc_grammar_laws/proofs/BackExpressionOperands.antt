-- Backwards over what the automaton does at an operand.
use Rattle.std.proofs.Common.{◌≡◌, subst, refl, List, [], ◌∷◌}
use Rattle.std.specs.Prelude.{Some, None}
use Rattle.cc_base.specs.declared.text.Span.{Span}
use Rattle.cc_tree.specs.declared.token.Token.{Token}
use Rattle.cc_tree.specs.declared.token.TokenKind.{TokenKind}
use Rattle.cc_tree.specs.declared.token.TokenKind.TheVariants as k
use Rattle.cc_tree.specs.declared.identifier.Identifier.{Identifier}
use Rattle.cc_tree.specs.declared.terminal.Terminal.{Terminal}
use Rattle.cc_tree.specs.declared.terminal.Terminal.TheVariants as t
use Rattle.cc_tree.specs.declared.terminal.NameKind.TheVariants as n
use Rattle.cc_tree.specs.declared.terminal.ContextualWord.{ContextualWord}
use Rattle.cc_tree.specs.declared.terminal.ReservedWord.{ReservedWord}
use Rattle.cc_tree.specs.declared.terminal.ReservedWord.TheVariants as w
use Rattle.cc_tree.specs.declared.terminal.Sign.{Sign}
use Rattle.cc_tree.specs.declared.terminal.Sign.TheVariants as s
use Rattle.cc_tree.specs.declared.type_name.TypeName.{TypeName}
use Rattle.cc_tree.specs.declared.expression.Expression.TheVariants as tree
use Rattle.cc_tree.specs.Terminals.{Classified, at, plain, function}
use Rattle.cc_tree.specs.Spans.{across, identifier, qualified_span}
use Rattle.cc_tree.specs.Operators.{prefix_operator, cast_word}
use Rattle.cc_tree.specs.GrammarTypes.{ReadsPath, ReadsCore}
use Rattle.cc_tree.specs.GrammarExpressions as x
use Rattle.cc_tree.specs.GrammarExpressions.{ReadsPrimary, IsNumber}
use Rattle.cc_table.specs.declared.symbols.Sort.TheVariants as o
use Rattle.cc_table.specs.declared.symbols.Action.TheVariants as a
use Rattle.cc_table.specs.declared.symbols.Input.{Input}
use Rattle.cc_table.specs.declared.symbols.Input.TheVariants as i
use Rattle.cc_table.specs.declared.symbols.Symbol.{Symbol}
use Rattle.cc_table.specs.declared.symbols.Symbol.TheVariants.{Non, Act, Back}
use Rattle.cc_table.specs.Table.{otherwise}
use Rattle.cc_pushdown.specs.declared.value.Value.{Value}
use Rattle.cc_pushdown.specs.Values.{below, top_mark, top_qualified}
use Rattle.cc_pushdown.specs.Words.{prefix_of, cast_of}
use Rattle.cc_pushdown.specs.Machine.{Fed, fed, At, lack, step}
use Rattle.cc_grammar_laws.specs.Read.{character_value, literal_value, number_value}
use Rattle.cc_grammar_laws.proofs.CompleteTypes.{named_value, type_value}
use Rattle.cc_grammar_laws.proofs.Stands.{Fitting, token, core, qualified}
use Rattle.cc_grammar_laws.proofs.TypeParts.{takes, mark}
use Rattle.cc_grammar_laws.proofs.Means.{Means, Meaning, after}
use Rattle.cc_grammar_laws.proofs.BackExpressionSuffixes.{arguments_read, types_arguments}

module _ (last : List Value) where
  operand_row : (more : List Symbol) (vs : List Value) (ts : List Classified) → Means last (Non o.Operand ∷ Non o.SuffixRest ∷ more) vs ts → Means last (Non o.Unary ∷ more) vs ts
  operand_row more vs ts (one, span, us, p, (all, whole, rest, q, m)) = (all, whole, rest, x.postfix (q ts (x.primary p)), m)

  prefix_row : (more : List Symbol) (vs : List Value) (sign : Sign) (k : Token) (ts : List Classified) → prefix_operator sign ≡ Some (prefix_of (t.Sign sign)) → Means last (Non o.Unary ∷ Act a.MakePrefix ∷ more) (mark (t.Sign sign) k.span ∷ vs) ts
      → Means last (Non o.Unary ∷ more) vs (at (t.Sign sign) k ∷ ts)
  prefix_row more vs sign k ts same (one, span, rest, p, m) = (_, _, rest, x.prefix same p, m)

  open_row : (more : List Symbol) (vs : List Value) (k : Token) (ts : List Classified) → Means last (Non o.AfterParenthesis ∷ more) (mark (t.Sign s.OpenParenthesis) k.span ∷ vs) ts → Means last (Non o.Unary ∷ more) vs (at (t.Sign s.OpenParenthesis) k ∷ ts)
  open_row more vs k ts (one, span, rest, p, m) = (one, span, rest, p k.kind, m)

  number_row : (more : List Symbol) (vs : List Value) (terminal : Terminal) (kind : TokenKind) (span : Span) (ts : List Classified) → IsNumber terminal → Fitting t.Number kind → Means last (Act a.MakeNumber ∷ Non o.SuffixRest ∷ more) (number_value kind span ∷ vs) ts
      → Means last (Non o.Unary ∷ more) vs (at terminal (record { kind = kind; span = span }) ∷ ts)
  number_row more vs terminal (k.Number value suffix radix) span ts digits fits (all, whole, rest, q, m) = (all, whole, rest, x.postfix (q _ (x.primary (x.number digits))), m)
  number_row more vs terminal _ span ts digits fits m = absurd fits

  zero_fits : (kind : TokenKind) → Fitting t.Zero kind → Fitting t.Number kind
  zero_fits (k.Number value suffix radix) fits = tt
  zero_fits _ fits = absurd fits

  character_row : (more : List Symbol) (vs : List Value) (kind : TokenKind) (span : Span) (ts : List Classified) → Fitting t.Character kind → Means last (Act a.MakeCharacter ∷ Non o.SuffixRest ∷ more) (character_value kind span ∷ vs) ts
      → Means last (Non o.Unary ∷ more) vs (at t.Character (record { kind = kind; span = span }) ∷ ts)
  character_row more vs (k.Character unit) span ts fits (all, whole, rest, q, m) = (all, whole, rest, x.postfix (q _ (x.primary x.character)), m)
  character_row more vs _ span ts fits m = absurd fits

  strings_row : (more : List Symbol) (vs : List Value) (kind : TokenKind) (span : Span) (ts : List Classified) → Fitting t.Literal kind → Means last (Act a.StartTexts ∷ Non o.StringsRest ∷ Act a.MakeStrings ∷ Non o.SuffixRest ∷ more) (literal_value kind span ∷ vs) ts
      → Means last (Non o.Unary ∷ more) vs (at t.Literal (record { kind = kind; span = span }) ∷ ts)
  strings_row more vs (k.Literal text) span ts fits (list, us, p, (all, whole, rest, q, m)) = (all, whole, rest, x.postfix (q _ (x.primary (x.strings (p _ x.last)))), m)
  strings_row more vs _ span ts fits m = absurd fits

  true_row : (more : List Symbol) (vs : List Value) (k : Token) (ts : List Classified) → Means last (Act a.MakeTrue ∷ Non o.SuffixRest ∷ more) (mark (t.Word w.True) k.span ∷ vs) ts → Means last (Non o.Unary ∷ more) vs (at (t.Word w.True) k ∷ ts)
  true_row more vs k ts (all, whole, rest, q, m) = (all, whole, rest, x.postfix (q _ (x.primary x.true_)), m)

  false_row : (more : List Symbol) (vs : List Value) (k : Token) (ts : List Classified) → Means last (Act a.MakeFalse ∷ Non o.SuffixRest ∷ more) (mark (t.Word w.False) k.span ∷ vs) ts → Means last (Non o.Unary ∷ more) vs (at (t.Word w.False) k ∷ ts)
  false_row more vs k ts (all, whole, rest, q, m) = (all, whole, rest, x.postfix (q _ (x.primary x.false_)), m)

  nullptr_row : (more : List Symbol) (vs : List Value) (k : Token) (ts : List Classified) → Means last (Act a.MakeNullptr ∷ Non o.SuffixRest ∷ more) (mark (t.Word w.Nullptr) k.span ∷ vs) ts → Means last (Non o.Unary ∷ more) vs (at (t.Word w.Nullptr) k ∷ ts)
  nullptr_row more vs k ts (all, whole, rest, q, m) = (all, whole, rest, x.postfix (q _ (x.primary x.nullptr)), m)

  this_row : (more : List Symbol) (vs : List Value) (k : Token) (ts : List Classified) → Means last (Act a.MakeThis ∷ Non o.SuffixRest ∷ more) (mark (t.Word w.This) k.span ∷ vs) ts → Means last (Non o.Unary ∷ more) vs (at (t.Word w.This) k ∷ ts)
  this_row more vs k ts (all, whole, rest, q, m) = (all, whole, rest, x.postfix (q _ (x.primary x.this)), m)

  gcnew_row : (more : List Symbol) (vs : List Value) (k : Token) (ts : List Classified) → Means last (Non o.NewName ∷ Non o.SuffixRest ∷ more) (mark (t.Word w.Gcnew) k.span ∷ vs) ts → Means last (Non o.Unary ∷ more) vs (at (t.Word w.Gcnew) k ∷ ts)
  gcnew_row more vs k ts (one, span, us, p, (all, whole, rest, q, m)) = (all, whole, rest, x.postfix (q _ (x.primary (p k.kind))), m)

  cast_row : (more : List Symbol) (vs : List Value) (word : ReservedWord) (k : Token) (ts : List Classified) → cast_word word ≡ Some (cast_of (t.Word word))
      → Means last (Non o.Less ∷ Non o.Type ∷ Non o.Greater ∷ Non o.OpenParenthesis ∷ Non o.Expression ∷ Non o.KeptCloseParenthesis ∷ Act a.MakeNamedCast ∷ Non o.SuffixRest ∷ more) (mark (t.Word word) k.span ∷ vs) ts
      → Means last (Non o.Unary ∷ more) vs (at (t.Word word) k ∷ ts)
  cast_row more vs word k ts same (less, us, takes, (of, span, ws, p, (greater, xs, takes, (open_, ys, takes, (one, second, zs, q, (close, end, takes, (all, whole, rest, r, m))))))) =
      (all, whole, rest, x.postfix (r _ (x.primary (x.named_cast same p q))), m)

  function_row : (more : List Symbol) (path : List Identifier) (word : ContextualWord) (k : Token) (vs : List Value) (ts rest : List Classified) → ReadsPath path ts (at (t.Name n.Function word) k ∷ rest)
      → Means last (Non o.FunctionNameRest ∷ more) (named_value path (identifier k) ∷ vs) rest → Means last (Non o.Operand ∷ more) vs ts
  function_row more path word k vs ts rest p (one, span, end, q, m) = (one, span, end, q ts word k refl p, m)

  type_row : (more : List Symbol) (of : TypeName) (span : Span) (vs : List Value) (ts rest : List Classified) → ReadsCore of span ts rest → Means last (Non o.TypeOperandRest ∷ more) (type_value of span ∷ vs) rest → Means last (Non o.Operand ∷ more) vs ts
  type_row more of span vs ts rest p (one, whole, end, q, m) = (one, whole, end, q ts p, m)

  static_row : (more : List Symbol) (vs : List Value) (k : Token) (ts : List Classified) → Means last (Non o.Identifier ∷ Act a.MakeStaticMember ∷ more) vs ts → Means last (Non o.TypeOperandRest ∷ more) vs (at (t.Sign s.Scope) k ∷ ts)
  static_row more vs k ts (kind, word, l, rest, id, takes, m) = (_, _, rest, (λ us p. x.static_member p id), m)

  construct_row : (more : List Symbol) (vs : List Value) (k : Token) (ts : List Classified)
      → Means last (Act a.StartExpressions ∷ Non o.Arguments ∷ Act a.MakeArguments ∷ Non o.KeptCloseParenthesis ∷ Act a.MakeConstruct ∷ more) (mark (t.Sign s.OpenParenthesis) k.span ∷ vs) ts
      → Means last (Non o.TypeOperandRest ∷ more) vs (at (t.Sign s.OpenParenthesis) k ∷ ts)
  construct_row more vs k ts (list, us, p, (close, rest, takes, m)) = (_, _, rest, (λ ws q. x.construct q (arguments_read (p refl) k.span)), m)

  name_alone : (more : List Symbol) (vs : List Value) (ts : List Classified) → Means last (Act a.MakeName ∷ more) vs ts → Means last (Non o.FunctionNameRest ∷ more) vs ts
  name_alone more vs ts m =
      let path : List Identifier = (top_qualified vs).path in
      (_, _, ts, (λ us word k same p. subst (λ q. ReadsPrimary (tree.Name path q None (qualified_span path q)) (qualified_span path q) us ts) same (x.name p function)), m)

  less_alone : (more : List Symbol) (vs : List Value) (ts : List Classified) → Means last (Back (i.Token (t.Sign s.Less)) ∷ Act a.MakeName ∷ more) vs ts → Means last (Non o.AfterNameLess ∷ more) vs ts
  less_alone more vs ts m = λ first st.
      let path : List Identifier = (top_qualified (below vs)).path in
      (_, _, first, (λ us word k same p. subst (λ q. ReadsPrimary (tree.Name path q None (qualified_span path q)) (qualified_span path q) us first) same (x.name p function)), m first st)

  name_types : (more : List Symbol) (of : TypeName) (span : Span) (vs : List Value) (ts rest : List Classified) → ReadsCore of span ts rest
      → Means last (Non o.TypeMarks ∷ Act a.FirstType ∷ Non o.MoreTypes ∷ Non o.KeptGreater ∷ Act a.MakeTypeArguments ∷ Act a.MakeNameOf ∷ more) (type_value of span ∷ vs) rest → Means last (Non o.NameTypes ∷ more) vs ts
  name_types more of span vs ts rest p (whole, ws, us, q, (types, xs, r, (greater, end, takes, m))) = λ first st.
      let path : List Identifier = (top_qualified (below vs)).path in
      let inner : Span = across (top_mark vs).span greater.span in (
        _,
        _,
        end,
        (λ ys word k same before. subst (λ u. ReadsPrimary (tree.Name path u (Some (record { types = whole ∷ types; span = inner })) (across (qualified_span path u) inner)) (across (qualified_span path u) inner) ys end) same
            (x.name_of before (types_arguments (whole ∷ types) vs first ts end greater st (r whole ws ts (q ts p))))),
        m,
      )

  group_row : (more : List Symbol) (vs : List Value) (ts : List Classified) → Means last (Non o.Expression ∷ Non o.KeptCloseParenthesis ∷ Act a.MakeGroup ∷ Non o.SuffixRest ∷ more) vs ts → Means last (Non o.AfterParenthesis ∷ more) vs ts
  group_row more vs ts (one, span, us, p, (close, ws, takes, (all, whole, rest, q, m))) = (all, whole, rest, (λ kind. x.postfix (q _ (x.primary (x.group p)))), m)

  type_cast : (more : List Symbol) (of : TypeName) (span : Span) (vs : List Value) (ts rest : List Classified) → ReadsCore of span ts rest → Means last (Non o.TypeMarks ∷ Non o.CloseParenthesis ∷ Non o.Unary ∷ Act a.MakeCast ∷ more) (type_value of span ∷ vs) rest
      → Means last (Non o.CastOrGroup ∷ more) vs ts
  type_cast more of span vs ts rest p (whole, ws, us, q, (close, xs, takes, (one, second, end, r, m))) = (_, _, end, (λ kind. x.cast (q ts p) r), m)

  pub back_Unary : (more : List Symbol) (vs : List Value) (input : Input) (value : Value) (fs : List Fed) → Meaning last (step (At (Non o.Unary ∷ more) vs (fed input value ∷ fs))) → Meaning last (At (Non o.Unary ∷ more) vs (fed input value ∷ fs))
  back_Unary more vs (i.Token (t.Sign s.Exclamation)) value fs e ts (rest, token {k} fits, h) = prefix_row more vs s.Exclamation k rest refl (after last (Non o.Unary ∷ Act a.MakePrefix ∷ more) (mark (t.Sign s.Exclamation) k.span ∷ vs) fs rest h e)
  back_Unary more vs (i.Token (t.Sign s.Tilde)) value fs e ts (rest, token {k} fits, h) = prefix_row more vs s.Tilde k rest refl (after last (Non o.Unary ∷ Act a.MakePrefix ∷ more) (mark (t.Sign s.Tilde) k.span ∷ vs) fs rest h e)
  back_Unary more vs (i.Token (t.Sign s.Minus)) value fs e ts (rest, token {k} fits, h) = prefix_row more vs s.Minus k rest refl (after last (Non o.Unary ∷ Act a.MakePrefix ∷ more) (mark (t.Sign s.Minus) k.span ∷ vs) fs rest h e)
  back_Unary more vs (i.Token (t.Sign s.Plus)) value fs e ts (rest, token {k} fits, h) = prefix_row more vs s.Plus k rest refl (after last (Non o.Unary ∷ Act a.MakePrefix ∷ more) (mark (t.Sign s.Plus) k.span ∷ vs) fs rest h e)
  back_Unary more vs (i.Token (t.Sign s.Increment)) value fs e ts (rest, token {k} fits, h) = prefix_row more vs s.Increment k rest refl (after last (Non o.Unary ∷ Act a.MakePrefix ∷ more) (mark (t.Sign s.Increment) k.span ∷ vs) fs rest h e)
  back_Unary more vs (i.Token (t.Sign s.Decrement)) value fs e ts (rest, token {k} fits, h) = prefix_row more vs s.Decrement k rest refl (after last (Non o.Unary ∷ Act a.MakePrefix ∷ more) (mark (t.Sign s.Decrement) k.span ∷ vs) fs rest h e)
  back_Unary more vs (i.Token (t.Sign s.Percent)) value fs e ts (rest, token {k} fits, h) = prefix_row more vs s.Percent k rest refl (after last (Non o.Unary ∷ Act a.MakePrefix ∷ more) (mark (t.Sign s.Percent) k.span ∷ vs) fs rest h e)
  back_Unary more vs (i.Token (t.Sign s.OpenParenthesis)) value fs e ts (rest, token {k} fits, h) = open_row more vs k rest (after last (Non o.AfterParenthesis ∷ more) (mark (t.Sign s.OpenParenthesis) k.span ∷ vs) fs rest h e)
  back_Unary more vs (i.Token (t.Word w.Void)) value fs e ts h = operand_row more vs ts (e ts h)
  back_Unary more vs (i.Token (t.Word w.Bool)) value fs e ts h = operand_row more vs ts (e ts h)
  back_Unary more vs (i.Token (t.Word w.WideChar)) value fs e ts h = operand_row more vs ts (e ts h)
  back_Unary more vs (i.Token (t.Word w.Signed)) value fs e ts h = operand_row more vs ts (e ts h)
  back_Unary more vs (i.Token (t.Word w.Unsigned)) value fs e ts h = operand_row more vs ts (e ts h)
  back_Unary more vs (i.Token (t.Word w.Short)) value fs e ts h = operand_row more vs ts (e ts h)
  back_Unary more vs (i.Token (t.Word w.Int)) value fs e ts h = operand_row more vs ts (e ts h)
  back_Unary more vs (i.Token (t.Word w.Long)) value fs e ts h = operand_row more vs ts (e ts h)
  back_Unary more vs (i.Token (t.Name kind word)) value fs e ts h = operand_row more vs ts (e ts h)
  back_Unary more vs i.QualifiedPlain value fs e ts h = operand_row more vs ts (e ts h)
  back_Unary more vs i.QualifiedFunction value fs e ts h = operand_row more vs ts (e ts h)
  back_Unary more vs i.OperandType value fs e ts h = operand_row more vs ts (e ts h)
  back_Unary more vs (i.Token (t.Number)) value fs e ts (rest, token {k} fits, h) = number_row more vs t.Number k.kind k.span rest x.number fits (after last (Act a.MakeNumber ∷ Non o.SuffixRest ∷ more) (number_value k.kind k.span ∷ vs) fs rest h e)
  back_Unary more vs (i.Token (t.Zero)) value fs e ts (rest, token {k} fits, h) = number_row more vs t.Zero k.kind k.span rest x.zero_number (zero_fits k.kind fits) (after last (Act a.MakeNumber ∷ Non o.SuffixRest ∷ more) (number_value k.kind k.span ∷ vs) fs rest h e)
  back_Unary more vs (i.Token (t.Character)) value fs e ts (rest, token {k} fits, h) = character_row more vs k.kind k.span rest fits (after last (Act a.MakeCharacter ∷ Non o.SuffixRest ∷ more) (character_value k.kind k.span ∷ vs) fs rest h e)
  back_Unary more vs (i.Token (t.Literal)) value fs e ts (rest, token {k} fits, h) = strings_row more vs k.kind k.span rest fits (after last (Act a.StartTexts ∷ Non o.StringsRest ∷ Act a.MakeStrings ∷ Non o.SuffixRest ∷ more) (literal_value k.kind k.span ∷ vs) fs rest h e)
  back_Unary more vs (i.Token (t.Word w.True)) value fs e ts (rest, token {k} fits, h) = true_row more vs k rest (after last (Act a.MakeTrue ∷ Non o.SuffixRest ∷ more) (mark (t.Word w.True) k.span ∷ vs) fs rest h e)
  back_Unary more vs (i.Token (t.Word w.False)) value fs e ts (rest, token {k} fits, h) = false_row more vs k rest (after last (Act a.MakeFalse ∷ Non o.SuffixRest ∷ more) (mark (t.Word w.False) k.span ∷ vs) fs rest h e)
  back_Unary more vs (i.Token (t.Word w.Nullptr)) value fs e ts (rest, token {k} fits, h) = nullptr_row more vs k rest (after last (Act a.MakeNullptr ∷ Non o.SuffixRest ∷ more) (mark (t.Word w.Nullptr) k.span ∷ vs) fs rest h e)
  back_Unary more vs (i.Token (t.Word w.This)) value fs e ts (rest, token {k} fits, h) = this_row more vs k rest (after last (Act a.MakeThis ∷ Non o.SuffixRest ∷ more) (mark (t.Word w.This) k.span ∷ vs) fs rest h e)
  back_Unary more vs (i.Token (t.Word w.Gcnew)) value fs e ts (rest, token {k} fits, h) = gcnew_row more vs k rest (after last (Non o.NewName ∷ Non o.SuffixRest ∷ more) (mark (t.Word w.Gcnew) k.span ∷ vs) fs rest h e)
  back_Unary more vs (i.Token (t.Word w.SafeCast)) value fs e ts (rest, token {k} fits, h) = cast_row more vs w.SafeCast k rest refl (after last (Non o.Less ∷ Non o.Type ∷ Non o.Greater ∷ Non o.OpenParenthesis ∷ Non o.Expression ∷ Non o.KeptCloseParenthesis ∷ Act a.MakeNamedCast ∷ Non o.SuffixRest ∷ more) (mark (t.Word w.SafeCast) k.span ∷ vs) fs rest h e)
  back_Unary more vs (i.Token (t.Word w.StaticCast)) value fs e ts (rest, token {k} fits, h) = cast_row more vs w.StaticCast k rest refl (after last (Non o.Less ∷ Non o.Type ∷ Non o.Greater ∷ Non o.OpenParenthesis ∷ Non o.Expression ∷ Non o.KeptCloseParenthesis ∷ Act a.MakeNamedCast ∷ Non o.SuffixRest ∷ more) (mark (t.Word w.StaticCast) k.span ∷ vs) fs rest h e)
  back_Unary more vs (i.Token (t.Word w.DynamicCast)) value fs e ts (rest, token {k} fits, h) = cast_row more vs w.DynamicCast k rest refl (after last (Non o.Less ∷ Non o.Type ∷ Non o.Greater ∷ Non o.OpenParenthesis ∷ Non o.Expression ∷ Non o.KeptCloseParenthesis ∷ Act a.MakeNamedCast ∷ Non o.SuffixRest ∷ more) (mark (t.Word w.DynamicCast) k.span ∷ vs) fs rest h e)
  back_Unary more vs input value fs e ts h = absurd e

  pub end_Unary : (more : List Symbol) (vs : List Value) → Meaning last (lack (otherwise o.Unary) more vs []) → Meaning last (At (Non o.Unary ∷ more) vs [])
  end_Unary more vs e = absurd e

  pub back_Operand : (more : List Symbol) (vs : List Value) (input : Input) (value : Value) (fs : List Fed) → Meaning last (step (At (Non o.Operand ∷ more) vs (fed input value ∷ fs))) → Meaning last (At (Non o.Operand ∷ more) vs (fed input value ∷ fs))
  back_Operand more vs i.QualifiedPlain value fs e ts (rest, qualified {path} {k} p, h) = (_, _, rest, x.name p plain, after last (Act a.MakeName ∷ more) (named_value path (identifier k) ∷ vs) fs rest h e)
  back_Operand more vs i.QualifiedFunction value fs e ts (rest, qualified {word} {path} {k} p, h) = function_row more path word k vs ts rest p (after last (Non o.FunctionNameRest ∷ more) (named_value path (identifier k) ∷ vs) fs rest h e)
  back_Operand more vs i.OperandType value fs e ts (rest, core {of} {span} p, h) = type_row more of span vs ts rest p (after last (Non o.TypeOperandRest ∷ more) (type_value of span ∷ vs) fs rest h e)
  back_Operand more vs (i.Token t.Number) value fs e ts h = absurd e
  back_Operand more vs input value fs e ts h = absurd e

  pub end_Operand : (more : List Symbol) (vs : List Value) → Meaning last (lack (otherwise o.Operand) more vs []) → Meaning last (At (Non o.Operand ∷ more) vs [])
  end_Operand more vs e = absurd e

  pub back_TypeOperandRest : (more : List Symbol) (vs : List Value) (input : Input) (value : Value) (fs : List Fed) → Meaning last (step (At (Non o.TypeOperandRest ∷ more) vs (fed input value ∷ fs))) → Meaning last (At (Non o.TypeOperandRest ∷ more) vs (fed input value ∷ fs))
  back_TypeOperandRest more vs (i.Token (t.Sign s.Scope)) value fs e ts (rest, token {k} fits, h) = static_row more vs k rest (after last (Non o.Identifier ∷ Act a.MakeStaticMember ∷ more) (vs) fs rest h e)
  back_TypeOperandRest more vs (i.Token (t.Sign s.OpenParenthesis)) value fs e ts (rest, token {k} fits, h) = construct_row more vs k rest (after last (Act a.StartExpressions ∷ Non o.Arguments ∷ Act a.MakeArguments ∷ Non o.KeptCloseParenthesis ∷ Act a.MakeConstruct ∷ more) (mark (t.Sign s.OpenParenthesis) k.span ∷ vs) fs rest h e)
  back_TypeOperandRest more vs input value fs e ts h = absurd e

  pub end_TypeOperandRest : (more : List Symbol) (vs : List Value) → Meaning last (lack (otherwise o.TypeOperandRest) more vs []) → Meaning last (At (Non o.TypeOperandRest ∷ more) vs [])
  end_TypeOperandRest more vs e = absurd e

  pub back_FunctionNameRest : (more : List Symbol) (vs : List Value) (input : Input) (value : Value) (fs : List Fed) → Meaning last (step (At (Non o.FunctionNameRest ∷ more) vs (fed input value ∷ fs))) → Meaning last (At (Non o.FunctionNameRest ∷ more) vs (fed input value ∷ fs))
  back_FunctionNameRest more vs (i.Token (t.Sign s.Less)) value fs e ts (rest, token {k} fits, h) = after last (Non o.AfterNameLess ∷ more) (mark (t.Sign s.Less) k.span ∷ vs) fs rest h e (at (t.Sign s.Less) k ∷ rest) (token fits)
  back_FunctionNameRest more vs i.ConstructorName value fs e ts h = tt
  back_FunctionNameRest more vs input value fs e ts h = name_alone more vs ts (e ts h)

  pub end_FunctionNameRest : (more : List Symbol) (vs : List Value) → Meaning last (lack (otherwise o.FunctionNameRest) more vs []) → Meaning last (At (Non o.FunctionNameRest ∷ more) vs [])
  end_FunctionNameRest more vs e ts h = name_alone more vs ts (e ts h)

  pub back_AfterNameLess : (more : List Symbol) (vs : List Value) (input : Input) (value : Value) (fs : List Fed) → Meaning last (step (At (Non o.AfterNameLess ∷ more) vs (fed input value ∷ fs))) → Meaning last (At (Non o.AfterNameLess ∷ more) vs (fed input value ∷ fs))
  back_AfterNameLess more vs (i.Token (t.Word w.Void)) value fs e ts h = e ts h
  back_AfterNameLess more vs (i.Token (t.Word w.Bool)) value fs e ts h = e ts h
  back_AfterNameLess more vs (i.Token (t.Word w.WideChar)) value fs e ts h = e ts h
  back_AfterNameLess more vs (i.Token (t.Word w.Signed)) value fs e ts h = e ts h
  back_AfterNameLess more vs (i.Token (t.Word w.Unsigned)) value fs e ts h = e ts h
  back_AfterNameLess more vs (i.Token (t.Word w.Short)) value fs e ts h = e ts h
  back_AfterNameLess more vs (i.Token (t.Word w.Int)) value fs e ts h = e ts h
  back_AfterNameLess more vs (i.Token (t.Word w.Long)) value fs e ts h = e ts h
  back_AfterNameLess more vs (i.Token (t.Name kind word)) value fs e ts h = e ts h
  back_AfterNameLess more vs i.ConstructorName value fs e ts h = tt
  back_AfterNameLess more vs input value fs e ts h = less_alone more vs ts (e ts h)

  pub end_AfterNameLess : (more : List Symbol) (vs : List Value) → Meaning last (lack (otherwise o.AfterNameLess) more vs []) → Meaning last (At (Non o.AfterNameLess ∷ more) vs [])
  end_AfterNameLess more vs e ts h = less_alone more vs ts (e ts h)

  pub back_NameTypes : (more : List Symbol) (vs : List Value) (input : Input) (value : Value) (fs : List Fed) → Meaning last (step (At (Non o.NameTypes ∷ more) vs (fed input value ∷ fs))) → Meaning last (At (Non o.NameTypes ∷ more) vs (fed input value ∷ fs))
  back_NameTypes more vs i.CoreType value fs e ts (rest, core {of} {span} p, h) = name_types more of span vs ts rest p (after last (Non o.TypeMarks ∷ Act a.FirstType ∷ Non o.MoreTypes ∷ Non o.KeptGreater ∷ Act a.MakeTypeArguments ∷ Act a.MakeNameOf ∷ more) (type_value of span ∷ vs) fs rest h e)
  back_NameTypes more vs (i.Token t.Number) value fs e ts h = less_alone more vs ts (e ts h)
  back_NameTypes more vs i.ConstructorName value fs e ts h = tt
  back_NameTypes more vs input value fs e ts h = less_alone more vs ts (e ts h)

  pub end_NameTypes : (more : List Symbol) (vs : List Value) → Meaning last (lack (otherwise o.NameTypes) more vs []) → Meaning last (At (Non o.NameTypes ∷ more) vs [])
  end_NameTypes more vs e ts h = less_alone more vs ts (e ts h)

  pub back_AfterParenthesis : (more : List Symbol) (vs : List Value) (input : Input) (value : Value) (fs : List Fed) → Meaning last (step (At (Non o.AfterParenthesis ∷ more) vs (fed input value ∷ fs))) → Meaning last (At (Non o.AfterParenthesis ∷ more) vs (fed input value ∷ fs))
  back_AfterParenthesis more vs (i.Token (t.Word w.Void)) value fs e ts h = e ts h
  back_AfterParenthesis more vs (i.Token (t.Word w.Bool)) value fs e ts h = e ts h
  back_AfterParenthesis more vs (i.Token (t.Word w.WideChar)) value fs e ts h = e ts h
  back_AfterParenthesis more vs (i.Token (t.Word w.Signed)) value fs e ts h = e ts h
  back_AfterParenthesis more vs (i.Token (t.Word w.Unsigned)) value fs e ts h = e ts h
  back_AfterParenthesis more vs (i.Token (t.Word w.Short)) value fs e ts h = e ts h
  back_AfterParenthesis more vs (i.Token (t.Word w.Int)) value fs e ts h = e ts h
  back_AfterParenthesis more vs (i.Token (t.Word w.Long)) value fs e ts h = e ts h
  back_AfterParenthesis more vs (i.Token (t.Name kind word)) value fs e ts h = e ts h
  back_AfterParenthesis more vs i.ConstructorName value fs e ts h = tt
  back_AfterParenthesis more vs input value fs e ts h = group_row more vs ts (e ts h)

  pub end_AfterParenthesis : (more : List Symbol) (vs : List Value) → Meaning last (lack (otherwise o.AfterParenthesis) more vs []) → Meaning last (At (Non o.AfterParenthesis ∷ more) vs [])
  end_AfterParenthesis more vs e ts h = group_row more vs ts (e ts h)

  pub back_CastOrGroup : (more : List Symbol) (vs : List Value) (input : Input) (value : Value) (fs : List Fed) → Meaning last (step (At (Non o.CastOrGroup ∷ more) vs (fed input value ∷ fs))) → Meaning last (At (Non o.CastOrGroup ∷ more) vs (fed input value ∷ fs))
  back_CastOrGroup more vs i.CoreType value fs e ts (rest, core {of} {span} p, h) = type_cast more of span vs ts rest p (after last (Non o.TypeMarks ∷ Non o.CloseParenthesis ∷ Non o.Unary ∷ Act a.MakeCast ∷ more) (type_value of span ∷ vs) fs rest h e)
  back_CastOrGroup more vs (i.Token t.Number) value fs e ts h = group_row more vs ts (e ts h)
  back_CastOrGroup more vs i.ConstructorName value fs e ts h = tt
  back_CastOrGroup more vs input value fs e ts h = group_row more vs ts (e ts h)

  pub end_CastOrGroup : (more : List Symbol) (vs : List Value) → Meaning last (lack (otherwise o.CastOrGroup) more vs []) → Meaning last (At (Non o.CastOrGroup ∷ more) vs [])
  end_CastOrGroup more vs e ts h = group_row more vs ts (e ts h)
