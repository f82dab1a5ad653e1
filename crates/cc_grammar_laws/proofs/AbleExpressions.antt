-- The least tokens of the parts of expressions.
use Rattle.std.proofs.Common.{subst, suc, List, [], ◌∷◌}
use Rattle.std.specs.Prelude.{Some, None}
use Rattle.cc_base.specs.declared.text.Span.{Span}
use Rattle.cc_tree.specs.declared.token.Token.{Token}
use Rattle.cc_tree.specs.declared.terminal.Terminal.TheVariants as t
use Rattle.cc_tree.specs.declared.terminal.NameKind.TheVariants as n
use Rattle.cc_tree.specs.declared.terminal.Sign.TheVariants as s
use Rattle.cc_tree.specs.declared.type_name.TypeName.{TypeName}
use Rattle.cc_tree.specs.declared.type_name.TypeName.TheVariants as type
use Rattle.cc_tree.specs.declared.type_name.FundamentalType.TheVariants as fundamental
use Rattle.cc_tree.specs.declared.expression.Expression.TheVariants as e
use Rattle.cc_tree.specs.Terminals.{Classified, at, plain, function}
use Rattle.cc_tree.specs.Spans.{across, identifier, qualified_span}
use Rattle.cc_tree.specs.GrammarTypes as g
use Rattle.cc_tree.specs.GrammarTypes.{ReadsPath, ReadsType, ReadsCore, ReadsNamed, ReadsTypes, ReadsTypeArguments}
use Rattle.cc_tree.specs.GrammarExpressions as x
use Rattle.cc_tree.specs.GrammarExpressions.{ReadsExpression, ReadsBinary, ReadsUnary, ReadsPostfix, ReadsPrimary, ReadsArguments}
use Rattle.cc_table.specs.declared.symbols.Sort.TheVariants as o
use Rattle.cc_pushdown.specs.declared.value.Value.{Value}
use Rattle.cc_pushdown.specs.declared.value.Value.TheVariants as v
use Rattle.cc_pushdown.specs.Values.{below, top, top_expression, top_mark, top_qualified, nowhere}
use Rattle.cc_pushdown.specs.Words.{selector_of}
use Rattle.cc_grammar_laws.proofs.Stands.{StandsToken, token}
use Rattle.cc_grammar_laws.proofs.ExpressionParts.{nothing}
use Rattle.cc_grammar_laws.proofs.Tokens.{a_sign, int, number, id, of_type, Given, before}
use Rattle.cc_grammar_laws.proofs.AbleTypes.{Fill}

-- The value of a token of `<` is its mark.
abbrev OnMark : Value → (Span → Type 0) → Type 0
OnMark (v.Mark one) P = P one.span
OnMark _ P = ⊥

less_value : {value : Value} {first ts : List Classified} → StandsToken (t.Sign s.Less) value first ts → (P : List Classified → Span → Type 0) → ((k : Token) → P (at (t.Sign s.Less) k ∷ ts) k.span) → OnMark value (P first)
less_value (token fits) P f = f _

pub less_top : (vs : List Value) {first ts : List Classified} → StandsToken (t.Sign s.Less) (top vs) first ts → (P : List Classified → Span → Type 0) → ((k : Token) → P (at (t.Sign s.Less) k ∷ ts) k.span) → P first (top_mark vs).span
less_top [] h P f = absurd (less_value h P f)
less_top (v.Mark one ∷ vs) h P f = less_value h P f
less_top (_ ∷ vs) h P f = absurd (less_value h P f)

-- the type `int` as it completes
abbrev int_type : TypeName
int_type = type.Fundamental fundamental.Int nowhere

module _ (given : Given) where
  pub fill_expression : (vs : List Value) → Fill given o.Expression vs
  fill_expression vs = (number ∷ [], _, tt, λ kinds ts K m. (_, _, _, x.conditional (x.binary (x.unary (x.postfix (x.primary (x.number x.zero_number))))), m))

  pub fill_unary : (vs : List Value) → Fill given o.Unary vs
  fill_unary vs = (number ∷ [], _, tt, λ kinds ts K m. (_, _, _, x.postfix (x.primary (x.number x.zero_number)), m))

  pub fill_arguments : (vs : List Value) → Fill given o.Arguments vs
  fill_arguments (v.Expressions first ∷ vs) = ([], _, tt, λ kinds ts K m. (_, _, (λ same. nothing), m))
  fill_arguments _ = ([], [], tt, λ kinds ts K m. tt)

  pub fill_more_expressions : (vs : List Value) → Fill given o.MoreExpressions vs
  fill_more_expressions (v.Expressions first ∷ vs) = ([], _, tt, λ kinds ts K m. (_, _, (λ us p. p), m))
  fill_more_expressions _ = ([], [], tt, λ kinds ts K m. tt)

  pub fill_after_unary : (vs : List Value) → Fill given o.AfterUnary vs
  fill_after_unary (v.Expression left ∷ vs) = ([], _, tt, λ kinds ts K m. (_, _, _, (λ us p. x.conditional (x.binary (x.unary p))), m))
  fill_after_unary _ = ([], [], tt, λ kinds ts K m. tt)

  pub fill_conditional_rest : (vs : List Value) → Fill given o.ConditionalRest vs
  fill_conditional_rest (v.Expression left ∷ vs) = ([], _, tt, λ kinds ts K m. (_, _, _, (λ us p. x.conditional (x.binary p)), m))
  fill_conditional_rest _ = ([], [], tt, λ kinds ts K m. tt)

  pub fill_operand : (vs : List Value) → Fill given o.Operand vs
  fill_operand vs = (number ∷ [], _, tt, λ kinds ts K m. (_, _, _, x.number x.zero_number, m))

  pub fill_type_operand_rest : (vs : List Value) → Fill given o.TypeOperandRest vs
  fill_type_operand_rest vs = (a_sign s.Scope ∷ id ∷ [], _, tt, λ kinds ts K m. (_, _, _, (λ us p. x.static_member p plain), m))

  pub fill_function_name_rest : (vs : List Value) → Fill given o.FunctionNameRest vs
  fill_function_name_rest vs = ([], _, tt, λ kinds ts K m. (_, _, _, (λ us word k same p. subst (λ q. ReadsPrimary (e.Name (top_qualified vs).path q None (qualified_span (top_qualified vs).path q)) (qualified_span (top_qualified vs).path q) us ts) same (x.name p function)), m))

  pub fill_after_name_less : (vs : List Value) → Fill given o.AfterNameLess vs
  fill_after_name_less vs = (
    int ∷ a_sign s.Greater ∷ [],
    _,
    tt,
    λ kinds ts K m. λ first h. (
      _,
      _,
      _,
      (λ us word k same p. subst (λ q. ReadsPrimary (e.Name (top_qualified (below vs)).path q (Some (record { types = int_type ∷ []; span = across (top_mark vs).span nowhere })) (across (qualified_span (top_qualified (below vs)).path q) (across (top_mark vs).span nowhere)))
          (across (qualified_span (top_qualified (below vs)).path q) (across (top_mark vs).span nowhere)) us ts) same
          (less_top vs h (λ from span. ReadsPath (top_qualified (below vs)).path us (at (t.Name n.Function word) k ∷ from)
          → ReadsPrimary (e.Name (top_qualified (below vs)).path (identifier k) (Some (record { types = int_type ∷ []; span = across span nowhere })) (across (qualified_span (top_qualified (below vs)).path (identifier k)) (across span nowhere)))
          (across (qualified_span (top_qualified (below vs)).path (identifier k)) (across span nowhere)) us ts) (λ less q. x.name_of q (g.listed (g.last (g.core (g.fundamental g.int g.last))))) p)),
      m,
    ),
  )

  pub fill_name_types : (vs : List Value) → Fill given o.NameTypes vs
  fill_name_types vs = (
    int ∷ a_sign s.Greater ∷ [],
    _,
    tt,
    λ kinds ts K m. λ first h. (
      _,
      _,
      _,
      (λ us word k same p. subst (λ q. ReadsPrimary (e.Name (top_qualified (below vs)).path q (Some (record { types = int_type ∷ []; span = across (top_mark vs).span nowhere })) (across (qualified_span (top_qualified (below vs)).path q) (across (top_mark vs).span nowhere)))
          (across (qualified_span (top_qualified (below vs)).path q) (across (top_mark vs).span nowhere)) us ts) same
          (less_top vs h (λ from span. ReadsPath (top_qualified (below vs)).path us (at (t.Name n.Function word) k ∷ from)
          → ReadsPrimary (e.Name (top_qualified (below vs)).path (identifier k) (Some (record { types = int_type ∷ []; span = across span nowhere })) (across (qualified_span (top_qualified (below vs)).path (identifier k)) (across span nowhere)))
          (across (qualified_span (top_qualified (below vs)).path (identifier k)) (across span nowhere)) us ts) (λ less q. x.name_of q (g.listed (g.last (g.core (g.fundamental g.int g.last))))) p)),
      m,
    ),
  )

  pub fill_strings_rest : (vs : List Value) → Fill given o.StringsRest vs
  fill_strings_rest (v.Texts first ∷ vs) = ([], _, tt, λ kinds ts K m. (_, _, (λ us p. p), m))
  fill_strings_rest _ = ([], [], tt, λ kinds ts K m. tt)

  pub fill_after_parenthesis : (vs : List Value) → Fill given o.AfterParenthesis vs
  fill_after_parenthesis vs = (number ∷ a_sign s.CloseParenthesis ∷ [], _, tt, λ kinds ts K m. (_, _, _, (λ kind. x.postfix (x.primary (x.group (x.conditional (x.binary (x.unary (x.postfix (x.primary (x.number x.zero_number))))))))), m))

  pub fill_cast_or_group : (vs : List Value) → Fill given o.CastOrGroup vs
  fill_cast_or_group vs = (number ∷ a_sign s.CloseParenthesis ∷ [], _, tt, λ kinds ts K m. (_, _, _, (λ kind. x.postfix (x.primary (x.group (x.conditional (x.binary (x.unary (x.postfix (x.primary (x.number x.zero_number))))))))), m))

  pub fill_suffix_rest : (vs : List Value) → Fill given o.SuffixRest vs
  fill_suffix_rest (v.Expression left ∷ vs) = ([], _, tt, λ kinds ts K m. (_, _, _, (λ us p. p), m))
  fill_suffix_rest _ = ([], [], tt, λ kinds ts K m. tt)

  pub fill_selected : (vs : List Value) → Fill given o.Selected vs
  fill_selected vs = (id ∷ [], _, tt, λ kinds ts K m. (_, _, _, (λ us one dot same p. x.member p same plain), m))

  pub fill_function_member_rest : (vs : List Value) → Fill given o.FunctionMemberRest vs
  fill_function_member_rest vs = ([], _, tt, λ kinds ts K m. (_, _, _, (λ us one dot word k same equal p. subst (λ q. ReadsPostfix (e.Member (top_expression (below (below vs))).tree (selector_of (top_mark (below vs)).terminal) q None (across (top_expression (below (below vs))).span q.span)) (across (top_expression (below (below vs))).span q.span) us ts) equal (x.member p same function)), m))

  pub fill_after_member_less : (vs : List Value) → Fill given o.AfterMemberLess vs
  fill_after_member_less vs = (
    int ∷ a_sign s.Greater ∷ [],
    _,
    tt,
    λ kinds ts K m. λ first h. (
      _,
      _,
      _,
      (λ us one dot word k same equal p. subst (λ q. ReadsPostfix (e.Member (top_expression (below (below (below vs)))).tree (selector_of (top_mark (below (below vs))).terminal) q (Some (record { types = int_type ∷ []; span = across (top_mark vs).span nowhere })) (across (top_expression (below (below (below vs)))).span (across (top_mark vs).span nowhere))) (across (top_expression (below (below (below vs)))).span (across (top_mark vs).span nowhere)) us ts) equal
          (less_top vs h (λ from span. ReadsPostfix (top_expression (below (below (below vs)))).tree (top_expression (below (below (below vs)))).span us (at (t.Sign one) dot ∷ at (t.Name n.Function word) k ∷ from)
          → ReadsPostfix (e.Member (top_expression (below (below (below vs)))).tree (selector_of (top_mark (below (below vs))).terminal) (identifier k) (Some (record { types = int_type ∷ []; span = across span nowhere })) (across (top_expression (below (below (below vs)))).span (across span nowhere))) (across (top_expression (below (below (below vs)))).span (across span nowhere)) us ts) (λ less q. x.member_of q same (g.listed (g.last (g.core (g.fundamental g.int g.last))))) p)),
      m,
    ),
  )

  pub fill_member_types : (vs : List Value) → Fill given o.MemberTypes vs
  fill_member_types vs = (
    int ∷ a_sign s.Greater ∷ [],
    _,
    tt,
    λ kinds ts K m. λ first h. (
      _,
      _,
      _,
      (λ us one dot word k same equal p. subst (λ q. ReadsPostfix (e.Member (top_expression (below (below (below vs)))).tree (selector_of (top_mark (below (below vs))).terminal) q (Some (record { types = int_type ∷ []; span = across (top_mark vs).span nowhere })) (across (top_expression (below (below (below vs)))).span (across (top_mark vs).span nowhere))) (across (top_expression (below (below (below vs)))).span (across (top_mark vs).span nowhere)) us ts) equal
          (less_top vs h (λ from span. ReadsPostfix (top_expression (below (below (below vs)))).tree (top_expression (below (below (below vs)))).span us (at (t.Sign one) dot ∷ at (t.Name n.Function word) k ∷ from)
          → ReadsPostfix (e.Member (top_expression (below (below (below vs)))).tree (selector_of (top_mark (below (below vs))).terminal) (identifier k) (Some (record { types = int_type ∷ []; span = across span nowhere })) (across (top_expression (below (below (below vs)))).span (across span nowhere))) (across (top_expression (below (below (below vs)))).span (across span nowhere)) us ts) (λ less q. x.member_of q same (g.listed (g.last (g.core (g.fundamental g.int g.last))))) p)),
      m,
    ),
  )

  pub fill_new_name : (vs : List Value) → Fill given o.NewName vs
  fill_new_name vs = (of_type ∷ a_sign s.OpenParenthesis ∷ a_sign s.CloseParenthesis ∷ a_sign s.OpenBrace ∷ a_sign s.CloseBrace ∷ [], _, tt, λ kinds ts K m. (_, _, _, (λ kind. x.new_with_of (g.alone g.none) x.none x.none), m))

  pub fill_new_path : (vs : List Value) → Fill given o.NewPath vs
  fill_new_path vs = (of_type ∷ a_sign s.OpenParenthesis ∷ a_sign s.CloseParenthesis ∷ a_sign s.OpenBrace ∷ a_sign s.CloseBrace ∷ [], _, tt, λ kinds ts K m. (_, _, _, (λ us kind p. x.new_with_of (g.alone (p [] _ g.none)) x.none x.none), m))

  pub fill_new_type_rest : (vs : List Value) → Fill given o.NewTypeRest vs
  fill_new_type_rest vs = (
    a_sign s.OpenParenthesis ∷ a_sign s.CloseParenthesis ∷ a_sign s.OpenBrace ∷ a_sign s.CloseBrace ∷ [],
    _,
    tt,
    λ kinds ts K m. (
      _,
      _,
      _,
      (λ us kind word k same p.
          x.new_with_of (subst (λ q. ReadsNamed (type.Named (top_qualified vs).path q [] (qualified_span (top_qualified vs).path q)) (qualified_span (top_qualified vs).path q) us (before given kinds (a_sign s.OpenParenthesis ∷ a_sign s.CloseParenthesis ∷ a_sign s.OpenBrace ∷ a_sign s.CloseBrace ∷ []) ts)) same (g.alone p)) x.none x.none),
      m,
    ),
  )

  pub fill_after_new_less : (vs : List Value) → Fill given o.AfterNewLess vs
  fill_after_new_less vs = (
    int ∷ a_sign s.Greater ∷ a_sign s.OpenParenthesis ∷ a_sign s.CloseParenthesis ∷ a_sign s.OpenBrace ∷ a_sign s.CloseBrace ∷ [],
    _,
    tt,
    λ kinds ts K m. λ first h. (
      _,
      _,
      _,
      (λ us kind word k same p. x.new_with_of (subst (λ q. ReadsNamed (type.Named (top_qualified (below vs)).path q (int_type ∷ []) (across (qualified_span (top_qualified (below vs)).path q) nowhere)) (across (qualified_span (top_qualified (below vs)).path q) nowhere) us (before given (λ n. kinds (suc (suc n))) (a_sign s.OpenParenthesis ∷ a_sign s.CloseParenthesis ∷ a_sign s.OpenBrace ∷ a_sign s.CloseBrace ∷ []) ts)) same
          (less_top vs h (λ from span. ReadsPath (top_qualified (below vs)).path us (at (t.Name n.Type word) k ∷ from)
          → ReadsNamed (type.Named (top_qualified (below vs)).path (identifier k) (int_type ∷ []) (across (qualified_span (top_qualified (below vs)).path (identifier k)) nowhere)) (across (qualified_span (top_qualified (below vs)).path (identifier k)) nowhere) us
          (before given (λ n. kinds (suc (suc n))) (a_sign s.OpenParenthesis ∷ a_sign s.CloseParenthesis ∷ a_sign s.OpenBrace ∷ a_sign s.CloseBrace ∷ []) ts)) (λ less q. g.applied q (g.last (g.core (g.fundamental g.int g.last)))) p)) x.none x.none),
      m,
    ),
  )

  pub fill_new_types : (vs : List Value) → Fill given o.NewTypes vs
  fill_new_types vs = (
    int ∷ a_sign s.Greater ∷ a_sign s.OpenParenthesis ∷ a_sign s.CloseParenthesis ∷ a_sign s.OpenBrace ∷ a_sign s.CloseBrace ∷ [],
    _,
    tt,
    λ kinds ts K m. λ first h. (
      _,
      _,
      _,
      (λ us kind word k same p. x.new_with_of (subst (λ q. ReadsNamed (type.Named (top_qualified (below vs)).path q (int_type ∷ []) (across (qualified_span (top_qualified (below vs)).path q) nowhere)) (across (qualified_span (top_qualified (below vs)).path q) nowhere) us (before given (λ n. kinds (suc (suc n))) (a_sign s.OpenParenthesis ∷ a_sign s.CloseParenthesis ∷ a_sign s.OpenBrace ∷ a_sign s.CloseBrace ∷ []) ts)) same
          (less_top vs h (λ from span. ReadsPath (top_qualified (below vs)).path us (at (t.Name n.Type word) k ∷ from)
          → ReadsNamed (type.Named (top_qualified (below vs)).path (identifier k) (int_type ∷ []) (across (qualified_span (top_qualified (below vs)).path (identifier k)) nowhere)) (across (qualified_span (top_qualified (below vs)).path (identifier k)) nowhere) us
          (before given (λ n. kinds (suc (suc n))) (a_sign s.OpenParenthesis ∷ a_sign s.CloseParenthesis ∷ a_sign s.OpenBrace ∷ a_sign s.CloseBrace ∷ []) ts)) (λ less q. g.applied q (g.last (g.core (g.fundamental g.int g.last)))) p)) x.none x.none),
      m,
    ),
  )

  pub fill_new_arguments : (vs : List Value) → Fill given o.NewArguments vs
  fill_new_arguments vs = (a_sign s.OpenParenthesis ∷ a_sign s.CloseParenthesis ∷ a_sign s.OpenBrace ∷ a_sign s.CloseBrace ∷ [], _, tt, λ kinds ts K m. (_, _, _, (λ us kind p. x.new_with_of p x.none x.none), m))

  pub fill_new_elements : (vs : List Value) → Fill given o.NewElements vs
  fill_new_elements vs = (a_sign s.OpenBrace ∷ a_sign s.CloseBrace ∷ [], _, tt, λ kinds ts K m. (_, _, _, (λ us ws kind closing open_ p q. x.new_with_of p q x.none), m))
