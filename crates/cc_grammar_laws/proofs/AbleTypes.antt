-- The least tokens of the parts of types and of single tokens.
use Rattle.std.proofs.Common.{subst, ℕ, List, [], ◌∷◌}
use Rattle.cc_tree.specs.declared.token.TokenKind.{TokenKind}
use Rattle.cc_tree.specs.declared.terminal.Sign.TheVariants as s
use Rattle.cc_tree.specs.declared.type_name.TypeName.TheVariants as type
use Rattle.cc_tree.specs.Terminals.{Classified, plain}
use Rattle.cc_tree.specs.Spans.{qualified_span}
use Rattle.cc_tree.specs.GrammarTypes as g
use Rattle.cc_tree.specs.GrammarTypes.{Fundamental, ReadsWords, ReadsPath, ReadsType, ReadsCore, ReadsNamed, ReadsTypes}
use Rattle.cc_tree.specs.GrammarExpressions.{zero_number}
use Rattle.cc_table.specs.declared.symbols.Sort.{Sort}
use Rattle.cc_table.specs.declared.symbols.Sort.TheVariants as o
use Rattle.cc_pushdown.specs.declared.value.Value.{Value}
use Rattle.cc_pushdown.specs.declared.value.Value.TheVariants as v
use Rattle.cc_pushdown.specs.Values.{top_qualified}
use Rattle.cc_grammar_laws.proofs.TypeParts.{Part, takes, no_int}
use Rattle.cc_grammar_laws.proofs.AbleSymbols.{starts}
use Rattle.cc_grammar_laws.proofs.Tokens.{Piece, a_sign, int, long, while_, namespace_, number, id, of_type, within, Given, before, BeginsAs}

-- Some pieces with which a part is spelled whatever follows it, and the values that it leaves.
abbrev pub Fill : Given → Sort → List Value → Type 1
Fill given sort vs = (pieces : List Piece) × (out : List Value) × BeginsAs given (starts sort) pieces
    × ((kinds : ℕ → TokenKind) (ts : List Classified) (K : List Value → List Classified → Type 0) → K out ts → Part sort vs (before given kinds pieces ts) K)

module _ (given : Given) where
  pub fill_open_parenthesis : (vs : List Value) → Fill given o.OpenParenthesis vs
  fill_open_parenthesis vs = (a_sign s.OpenParenthesis ∷ [], _, tt, λ kinds ts K m. (_, _, takes, m))

  pub fill_close_parenthesis : (vs : List Value) → Fill given o.CloseParenthesis vs
  fill_close_parenthesis vs = (a_sign s.CloseParenthesis ∷ [], _, tt, λ kinds ts K m. (_, _, takes, m))

  pub fill_open_brace : (vs : List Value) → Fill given o.OpenBrace vs
  fill_open_brace vs = (a_sign s.OpenBrace ∷ [], _, tt, λ kinds ts K m. (_, _, takes, m))

  pub fill_open_bracket : (vs : List Value) → Fill given o.OpenBracket vs
  fill_open_bracket vs = (a_sign s.OpenBracket ∷ [], _, tt, λ kinds ts K m. (_, _, takes, m))

  pub fill_close_bracket : (vs : List Value) → Fill given o.CloseBracket vs
  fill_close_bracket vs = (a_sign s.CloseBracket ∷ [], _, tt, λ kinds ts K m. (_, _, takes, m))

  pub fill_close_brace : (vs : List Value) → Fill given o.CloseBrace vs
  fill_close_brace vs = (a_sign s.CloseBrace ∷ [], _, tt, λ kinds ts K m. (_, _, takes, m))

  pub fill_less : (vs : List Value) → Fill given o.Less vs
  fill_less vs = (a_sign s.Less ∷ [], _, tt, λ kinds ts K m. (_, _, takes, m))

  pub fill_greater : (vs : List Value) → Fill given o.Greater vs
  fill_greater vs = (a_sign s.Greater ∷ [], _, tt, λ kinds ts K m. (_, _, takes, m))

  pub fill_colon : (vs : List Value) → Fill given o.Colon vs
  fill_colon vs = (a_sign s.Colon ∷ [], _, tt, λ kinds ts K m. (_, _, takes, m))

  pub fill_semicolon : (vs : List Value) → Fill given o.Semicolon vs
  fill_semicolon vs = (a_sign s.Semicolon ∷ [], _, tt, λ kinds ts K m. (_, _, takes, m))

  pub fill_scope : (vs : List Value) → Fill given o.Scope vs
  fill_scope vs = (a_sign s.Scope ∷ [], _, tt, λ kinds ts K m. (_, _, takes, m))

  pub fill_kept_open_parenthesis : (vs : List Value) → Fill given o.KeptOpenParenthesis vs
  fill_kept_open_parenthesis vs = (a_sign s.OpenParenthesis ∷ [], _, tt, λ kinds ts K m. (_, _, takes, m))

  pub fill_kept_close_parenthesis : (vs : List Value) → Fill given o.KeptCloseParenthesis vs
  fill_kept_close_parenthesis vs = (a_sign s.CloseParenthesis ∷ [], _, tt, λ kinds ts K m. (_, _, takes, m))

  pub fill_kept_close_brace : (vs : List Value) → Fill given o.KeptCloseBrace vs
  fill_kept_close_brace vs = (a_sign s.CloseBrace ∷ [], _, tt, λ kinds ts K m. (_, _, takes, m))

  pub fill_kept_close_bracket : (vs : List Value) → Fill given o.KeptCloseBracket vs
  fill_kept_close_bracket vs = (a_sign s.CloseBracket ∷ [], _, tt, λ kinds ts K m. (_, _, takes, m))

  pub fill_kept_semicolon : (vs : List Value) → Fill given o.KeptSemicolon vs
  fill_kept_semicolon vs = (a_sign s.Semicolon ∷ [], _, tt, λ kinds ts K m. (_, _, takes, m))

  pub fill_kept_colon : (vs : List Value) → Fill given o.KeptColon vs
  fill_kept_colon vs = (a_sign s.Colon ∷ [], _, tt, λ kinds ts K m. (_, _, takes, m))

  pub fill_kept_less : (vs : List Value) → Fill given o.KeptLess vs
  fill_kept_less vs = (a_sign s.Less ∷ [], _, tt, λ kinds ts K m. (_, _, takes, m))

  pub fill_kept_greater : (vs : List Value) → Fill given o.KeptGreater vs
  fill_kept_greater vs = (a_sign s.Greater ∷ [], _, tt, λ kinds ts K m. (_, _, takes, m))

  pub fill_namespace_word : (vs : List Value) → Fill given o.NamespaceWord vs
  fill_namespace_word vs = (namespace_ ∷ [], _, tt, λ kinds ts K m. (_, _, takes, m))

  pub fill_while_word : (vs : List Value) → Fill given o.WhileWord vs
  fill_while_word vs = (while_ ∷ [], _, tt, λ kinds ts K m. (_, _, takes, m))

  pub fill_in_word : (vs : List Value) → Fill given o.InWord vs
  fill_in_word vs = (within ∷ [], _, tt, λ kinds ts K m. (_, _, _, takes, m))

  pub fill_identifier : (vs : List Value) → Fill given o.Identifier vs
  fill_identifier vs = (id ∷ [], _, tt, λ kinds ts K m. (_, _, _, _, plain, takes, m))

  pub fill_any_name : (vs : List Value) → Fill given o.AnyName vs
  fill_any_name vs = (id ∷ [], _, tt, λ kinds ts K m. (_, _, _, _, takes, m))

  pub fill_number_token : (vs : List Value) → Fill given o.NumberToken vs
  fill_number_token vs = (number ∷ [], _, tt, λ kinds ts K m. (_, _, _, _, _, _, zero_number, takes, m))

  pub fill_long_word : (vs : List Value) → Fill given o.LongWord vs
  fill_long_word vs = (long ∷ [], _, tt, λ kinds ts K m. (_, _, takes, m))

  pub fill_optional_int : (vs : List Value) → Fill given o.OptionalInt vs
  fill_optional_int (v.Mark one ∷ vs) = ([], _, tt, λ kinds ts K m. (_, _, no_int, m))
  fill_optional_int _ = ([], [], tt, λ kinds ts K m. tt)

  pub fill_fundamental : (vs : List Value) → Fill given o.Fundamental vs
  fill_fundamental vs = (int ∷ [], _, tt, λ kinds ts K m. (_, _, _, g.fundamental g.int g.last, m))

  pub fill_signed_rest : (vs : List Value) → Fill given o.SignedRest vs
  fill_signed_rest vs = (int ∷ [], _, tt, λ kinds ts K m. (_, _, _, (λ kind. g.fundamental g.signed_int (g.more g.last)), m))

  pub fill_unsigned_rest : (vs : List Value) → Fill given o.UnsignedRest vs
  fill_unsigned_rest vs = ([], _, tt, λ kinds ts K m. (_, _, _, (λ kind. g.fundamental g.unsigned g.last), m))

  pub fill_type : (vs : List Value) → Fill given o.Type vs
  fill_type vs = (int ∷ [], _, tt, λ kinds ts K m. (_, _, _, g.core (g.fundamental g.int g.last), m))

  pub fill_type_marks : (vs : List Value) → Fill given o.TypeMarks vs
  fill_type_marks (v.Type core ∷ vs) = ([], _, tt, λ kinds ts K m. (_, _, _, (λ us p. g.core p), m))
  fill_type_marks _ = ([], [], tt, λ kinds ts K m. tt)

  pub fill_handle_rest : (vs : List Value) → Fill given o.HandleRest vs
  fill_handle_rest (v.Mark one ∷ v.Type core ∷ vs) = ([], _, tt, λ kinds ts K m. (_, _, _, (λ us kind p. g.handle p), m))
  fill_handle_rest _ = ([], [], tt, λ kinds ts K m. tt)

  pub fill_named_type : (vs : List Value) → Fill given o.NamedType vs
  fill_named_type vs = (of_type ∷ [], _, tt, λ kinds ts K m. (_, _, _, g.alone g.none, m))

  pub fill_type_path : (vs : List Value) → Fill given o.TypePath vs
  fill_type_path vs = (of_type ∷ [], _, tt, λ kinds ts K m. (_, _, _, (λ us p. g.alone (p [] _ g.none)), m))

  pub fill_template_arguments : (vs : List Value) → Fill given o.TemplateArguments vs
  fill_template_arguments vs = (
    [],
    _,
    tt,
    λ kinds ts K m. (
      _,
      _,
      _,
      (λ us word k same p.
          subst (λ q. ReadsNamed (type.Named (top_qualified vs).path q [] (qualified_span (top_qualified vs).path q)) (qualified_span (top_qualified vs).path q) us ts) same (g.alone p)),
      m,
    ),
  )

  pub fill_more_types : (vs : List Value) → Fill given o.MoreTypes vs
  fill_more_types (v.Types first ∷ vs) = ([], _, tt, λ kinds ts K m. ([], _, (λ of span us p. g.last p), m))
  fill_more_types _ = ([], [], tt, λ kinds ts K m. tt)
