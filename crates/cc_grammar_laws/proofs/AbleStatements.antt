-- The least tokens of the parts of statements.
use Rattle.std.proofs.Common.{subst, List, [], ◌∷◌}
use Rattle.cc_tree.specs.declared.terminal.Sign.TheVariants as s
use Rattle.cc_tree.specs.declared.terminal.Terminal.TheVariants as t
use Rattle.cc_tree.specs.declared.statement.Initializer.TheVariants as initial
use Rattle.cc_tree.specs.Terminals.{at, plain}
use Rattle.cc_tree.specs.Spans.{across}
use Rattle.cc_tree.specs.GrammarExpressions as x
use Rattle.cc_tree.specs.GrammarStatements as z
use Rattle.cc_tree.specs.GrammarStatements.{ReadsDeclarator, ReadsDeclarators}
use Rattle.cc_table.specs.declared.symbols.Sort.TheVariants as o
use Rattle.cc_pushdown.specs.declared.value.Value.{Value}
use Rattle.cc_pushdown.specs.declared.value.Value.TheVariants as v
use Rattle.cc_pushdown.specs.Values.{nowhere}
use Rattle.cc_grammar_laws.proofs.Tokens.{a_sign, number, id, else_, catch_, finally_, default_, Given, before}
use Rattle.cc_grammar_laws.proofs.AbleTypes.{Fill}
use Rattle.cc_tree.specs.declared.expression.Expression.TheVariants as e
use Rattle.cc_tree.specs.declared.token.Suffix.TheVariants as suffix
use Rattle.cc_tree.specs.declared.token.Radix.TheVariants as radix

module _ (given : Given) where
  pub fill_block : (vs : List Value) → Fill given o.Block vs
  fill_block vs = (a_sign s.OpenBrace ∷ a_sign s.CloseBrace ∷ [], _, tt, λ kinds ts K m. (_, _, _, z.block_ z.no_statement, m))

  pub fill_statement : (vs : List Value) → Fill given o.Statement vs
  fill_statement vs = (a_sign s.Semicolon ∷ [], _, tt, λ kinds ts K m. (_, _, _, z.empty, m))

  pub fill_local_or_expression : (vs : List Value) → Fill given o.LocalOrExpression vs
  fill_local_or_expression vs = (a_sign s.Semicolon ∷ [], _, tt, λ kinds ts K m. (_, _, _, z.empty, m))

  pub fill_statements : (vs : List Value) → Fill given o.Statements vs
  fill_statements (v.Statements first ∷ vs) = ([], _, tt, λ kinds ts K m. ([], _, z.no_statement, m))
  fill_statements _ = ([], [], tt, λ kinds ts K m. tt)

  pub fill_section_statements : (vs : List Value) → Fill given o.SectionStatements vs
  fill_section_statements (v.Statements first ∷ vs) = ([], _, tt, λ kinds ts K m. ([], _, z.no_statement, m))
  fill_section_statements _ = ([], [], tt, λ kinds ts K m. tt)

  pub fill_else_rest : (vs : List Value) → Fill given o.ElseRest vs
  fill_else_rest vs = (else_ ∷ a_sign s.Semicolon ∷ [], _, tt, λ kinds ts K m. (_, _, _, (λ kind open_ close condition us ws p q. z.if_else p q z.empty), m))

  pub fill_for_rest : (vs : List Value) → Fill given o.ForRest vs
  fill_for_rest vs = (a_sign s.OpenParenthesis ∷ a_sign s.Semicolon ∷ a_sign s.Semicolon ∷ a_sign s.CloseParenthesis ∷ a_sign s.Semicolon ∷ [], _, tt, λ kinds ts K m. (_, _, _, (λ kind. z.for z.nothing z.none z.none z.empty), m))

  pub fill_for_start : (vs : List Value) → Fill given o.ForStart vs
  fill_for_start vs = (a_sign s.Semicolon ∷ [], _, tt, λ kinds ts K m. (_, _, z.nothing, m))

  pub fill_local_or_expression_start : (vs : List Value) → Fill given o.LocalOrExpressionStart vs
  fill_local_or_expression_start vs = (a_sign s.Semicolon ∷ [], _, tt, λ kinds ts K m. (_, _, z.nothing, m))

  pub fill_optional_expression : (vs : List Value) → Fill given o.OptionalExpression vs
  fill_optional_expression vs = (a_sign s.Semicolon ∷ [], _, tt, λ kinds ts K m. (_, _, _, z.none, m))

  pub fill_for_advance : (vs : List Value) → Fill given o.ForAdvance vs
  fill_for_advance vs = (a_sign s.CloseParenthesis ∷ [], _, tt, λ kinds ts K m. (_, _, _, z.none, m))

  pub fill_sections : (vs : List Value) → Fill given o.Sections vs
  fill_sections (v.Sections first ∷ vs) = ([], _, tt, λ kinds ts K m. ([], _, z.no_section, m))
  fill_sections _ = ([], [], tt, λ kinds ts K m. tt)

  pub fill_label : (vs : List Value) → Fill given o.Label vs
  fill_label vs = (default_ ∷ a_sign s.Colon ∷ [], _, tt, λ kinds ts K m. (_, _, z.default, m))

  pub fill_try_rest : (vs : List Value) → Fill given o.TryRest vs
  fill_try_rest vs = (finally_ ∷ a_sign s.OpenBrace ∷ a_sign s.CloseBrace ∷ [], _, tt, λ kinds ts K m. (_, _, _, (λ kind us ws p q. z.try_finally p q (z.block_ z.no_statement)), m))

  pub fill_more_catches : (vs : List Value) → Fill given o.MoreCatches vs
  fill_more_catches vs = (finally_ ∷ a_sign s.OpenBrace ∷ a_sign s.CloseBrace ∷ [], _, tt, λ kinds ts K m. (_, _, _, (λ kind us ws p some q. z.try_finally p q (z.block_ z.no_statement)), m))

  pub fill_catch : (vs : List Value) → Fill given o.Catch vs
  fill_catch vs = (catch_ ∷ a_sign s.OpenParenthesis ∷ a_sign s.Ellipsis ∷ a_sign s.CloseParenthesis ∷ a_sign s.OpenBrace ∷ a_sign s.CloseBrace ∷ [], _, tt, λ kinds ts K m. (_, _, _, z.last_catch z.all (z.block_ z.no_statement), m))

  pub fill_caught : (vs : List Value) → Fill given o.Caught vs
  fill_caught vs = (a_sign s.Ellipsis ∷ [], _, tt, λ kinds ts K m. (_, _, z.all, m))

  pub fill_caught_name : (vs : List Value) → Fill given o.CaughtName vs
  fill_caught_name vs = ([], _, tt, λ kinds ts K m. (_, _, (λ us p. z.typed p), m))

  pub fill_declarator : (vs : List Value) → Fill given o.Declarator vs
  fill_declarator vs = (id ∷ [], _, tt, λ kinds ts K m. (_, _, z.alone plain, m))

  pub fill_declarator_rest : (vs : List Value) → Fill given o.DeclaratorRest vs
  fill_declarator_rest vs = (
    [],
    _,
    tt,
    λ kinds ts K m. (
      _,
      _,
      (λ named k i same.
          subst (λ q. ReadsDeclarator (record { name = q; initializer = initial.Nothing; span = q.span }) (at named k ∷ ts) ts) same (z.alone i)),
      m,
    ),
  )

  pub fill_declarator_value : (vs : List Value) → Fill given o.DeclaratorValue vs
  fill_declarator_value vs = (
    number ∷ [],
    _,
    tt,
    λ kinds ts K m. (
      _,
      _,
      (λ named k equals i same.
          subst (λ q. ReadsDeclarator (record { name = q; initializer = initial.Value (e.Number 0 suffix.Plain radix.Octal nowhere); span = across q.span nowhere }) (at named k ∷ at (t.Sign s.Assign) equals ∷ before given kinds (number ∷ []) ts) ts) same (z.value i (x.conditional (x.binary (x.unary (x.postfix (x.primary (x.number x.zero_number)))))))),
      m,
    ),
  )

  pub fill_more_declarators : (vs : List Value) → Fill given o.MoreDeclarators vs
  fill_more_declarators (v.Declarators first ∷ vs) = ([], _, tt, λ kinds ts K m. ([], _, _, (λ one us same p. subst (λ q. ReadsDeclarators (one ∷ []) q us ts) same (z.last p)), m))
  fill_more_declarators _ = ([], [], tt, λ kinds ts K m. tt)
