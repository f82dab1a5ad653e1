-- Backwards over what the automaton does at one token that must stand there.
use Rattle.std.proofs.Common.{List, [], ◌∷◌}
use Rattle.cc_base.specs.declared.text.Span.{Span}
use Rattle.cc_tree.specs.declared.token.TokenKind.{TokenKind}
use Rattle.cc_tree.specs.declared.token.TokenKind.TheVariants as k
use Rattle.cc_tree.specs.declared.terminal.Terminal.TheVariants as t
use Rattle.cc_tree.specs.declared.terminal.NameKind.TheVariants as n
use Rattle.cc_tree.specs.declared.terminal.ContextualWord.TheVariants as c
use Rattle.cc_tree.specs.declared.terminal.ReservedWord.TheVariants as w
use Rattle.cc_tree.specs.declared.terminal.Sign.TheVariants as s
use Rattle.cc_tree.specs.Terminals.{Classified, at, plain, function}
use Rattle.cc_tree.specs.GrammarExpressions.{number, zero_number}
use Rattle.cc_table.specs.declared.symbols.Sort.TheVariants as o
use Rattle.cc_table.specs.declared.symbols.Input.{Input}
use Rattle.cc_table.specs.declared.symbols.Input.TheVariants as i
use Rattle.cc_table.specs.declared.symbols.Symbol.{Symbol}
use Rattle.cc_table.specs.declared.symbols.Symbol.TheVariants.{Non}
use Rattle.cc_table.specs.Table.{otherwise}
use Rattle.cc_pushdown.specs.declared.value.Value.{Value}
use Rattle.cc_pushdown.specs.Machine.{Fed, fed, At, lack, step}
use Rattle.cc_grammar_laws.specs.Read.{number_value}
use Rattle.cc_grammar_laws.proofs.Stands.{Fitting, token}
use Rattle.cc_grammar_laws.proofs.TypeParts.{takes}
use Rattle.cc_grammar_laws.proofs.Means.{Means, Meaning, after}

module _ (last : List Value) where
  pub back_OpenParenthesis : (more : List Symbol) (vs : List Value) (input : Input) (value : Value) (fs : List Fed) → Meaning last (step (At (Non o.OpenParenthesis ∷ more) vs (fed input value ∷ fs))) → Meaning last (At (Non o.OpenParenthesis ∷ more) vs (fed input value ∷ fs))
  back_OpenParenthesis more vs (i.Token (t.Sign s.OpenParenthesis)) value fs e ts (rest, token {k} f, h) = (k, rest, takes, after last more vs fs rest h e)
  back_OpenParenthesis more vs input value fs e ts h = absurd e

  pub end_OpenParenthesis : (more : List Symbol) (vs : List Value) → Meaning last (lack (otherwise o.OpenParenthesis) more vs []) → Meaning last (At (Non o.OpenParenthesis ∷ more) vs [])
  end_OpenParenthesis more vs e = absurd e

  pub back_CloseParenthesis : (more : List Symbol) (vs : List Value) (input : Input) (value : Value) (fs : List Fed) → Meaning last (step (At (Non o.CloseParenthesis ∷ more) vs (fed input value ∷ fs))) → Meaning last (At (Non o.CloseParenthesis ∷ more) vs (fed input value ∷ fs))
  back_CloseParenthesis more vs (i.Token (t.Sign s.CloseParenthesis)) value fs e ts (rest, token {k} f, h) = (k, rest, takes, after last more vs fs rest h e)
  back_CloseParenthesis more vs input value fs e ts h = absurd e

  pub end_CloseParenthesis : (more : List Symbol) (vs : List Value) → Meaning last (lack (otherwise o.CloseParenthesis) more vs []) → Meaning last (At (Non o.CloseParenthesis ∷ more) vs [])
  end_CloseParenthesis more vs e = absurd e

  pub back_OpenBrace : (more : List Symbol) (vs : List Value) (input : Input) (value : Value) (fs : List Fed) → Meaning last (step (At (Non o.OpenBrace ∷ more) vs (fed input value ∷ fs))) → Meaning last (At (Non o.OpenBrace ∷ more) vs (fed input value ∷ fs))
  back_OpenBrace more vs (i.Token (t.Sign s.OpenBrace)) value fs e ts (rest, token {k} f, h) = (k, rest, takes, after last more vs fs rest h e)
  back_OpenBrace more vs input value fs e ts h = absurd e

  pub end_OpenBrace : (more : List Symbol) (vs : List Value) → Meaning last (lack (otherwise o.OpenBrace) more vs []) → Meaning last (At (Non o.OpenBrace ∷ more) vs [])
  end_OpenBrace more vs e = absurd e

  pub back_OpenBracket : (more : List Symbol) (vs : List Value) (input : Input) (value : Value) (fs : List Fed) → Meaning last (step (At (Non o.OpenBracket ∷ more) vs (fed input value ∷ fs))) → Meaning last (At (Non o.OpenBracket ∷ more) vs (fed input value ∷ fs))
  back_OpenBracket more vs (i.Token (t.Sign s.OpenBracket)) value fs e ts (rest, token {k} f, h) = (k, rest, takes, after last more vs fs rest h e)
  back_OpenBracket more vs input value fs e ts h = absurd e

  pub end_OpenBracket : (more : List Symbol) (vs : List Value) → Meaning last (lack (otherwise o.OpenBracket) more vs []) → Meaning last (At (Non o.OpenBracket ∷ more) vs [])
  end_OpenBracket more vs e = absurd e

  pub back_CloseBracket : (more : List Symbol) (vs : List Value) (input : Input) (value : Value) (fs : List Fed) → Meaning last (step (At (Non o.CloseBracket ∷ more) vs (fed input value ∷ fs))) → Meaning last (At (Non o.CloseBracket ∷ more) vs (fed input value ∷ fs))
  back_CloseBracket more vs (i.Token (t.Sign s.CloseBracket)) value fs e ts (rest, token {k} f, h) = (k, rest, takes, after last more vs fs rest h e)
  back_CloseBracket more vs input value fs e ts h = absurd e

  pub end_CloseBracket : (more : List Symbol) (vs : List Value) → Meaning last (lack (otherwise o.CloseBracket) more vs []) → Meaning last (At (Non o.CloseBracket ∷ more) vs [])
  end_CloseBracket more vs e = absurd e

  pub back_CloseBrace : (more : List Symbol) (vs : List Value) (input : Input) (value : Value) (fs : List Fed) → Meaning last (step (At (Non o.CloseBrace ∷ more) vs (fed input value ∷ fs))) → Meaning last (At (Non o.CloseBrace ∷ more) vs (fed input value ∷ fs))
  back_CloseBrace more vs (i.Token (t.Sign s.CloseBrace)) value fs e ts (rest, token {k} f, h) = (k, rest, takes, after last more vs fs rest h e)
  back_CloseBrace more vs input value fs e ts h = absurd e

  pub end_CloseBrace : (more : List Symbol) (vs : List Value) → Meaning last (lack (otherwise o.CloseBrace) more vs []) → Meaning last (At (Non o.CloseBrace ∷ more) vs [])
  end_CloseBrace more vs e = absurd e

  pub back_Less : (more : List Symbol) (vs : List Value) (input : Input) (value : Value) (fs : List Fed) → Meaning last (step (At (Non o.Less ∷ more) vs (fed input value ∷ fs))) → Meaning last (At (Non o.Less ∷ more) vs (fed input value ∷ fs))
  back_Less more vs (i.Token (t.Sign s.Less)) value fs e ts (rest, token {k} f, h) = (k, rest, takes, after last more vs fs rest h e)
  back_Less more vs input value fs e ts h = absurd e

  pub end_Less : (more : List Symbol) (vs : List Value) → Meaning last (lack (otherwise o.Less) more vs []) → Meaning last (At (Non o.Less ∷ more) vs [])
  end_Less more vs e = absurd e

  pub back_Greater : (more : List Symbol) (vs : List Value) (input : Input) (value : Value) (fs : List Fed) → Meaning last (step (At (Non o.Greater ∷ more) vs (fed input value ∷ fs))) → Meaning last (At (Non o.Greater ∷ more) vs (fed input value ∷ fs))
  back_Greater more vs (i.Token (t.Sign s.Greater)) value fs e ts (rest, token {k} f, h) = (k, rest, takes, after last more vs fs rest h e)
  back_Greater more vs input value fs e ts h = absurd e

  pub end_Greater : (more : List Symbol) (vs : List Value) → Meaning last (lack (otherwise o.Greater) more vs []) → Meaning last (At (Non o.Greater ∷ more) vs [])
  end_Greater more vs e = absurd e

  pub back_Colon : (more : List Symbol) (vs : List Value) (input : Input) (value : Value) (fs : List Fed) → Meaning last (step (At (Non o.Colon ∷ more) vs (fed input value ∷ fs))) → Meaning last (At (Non o.Colon ∷ more) vs (fed input value ∷ fs))
  back_Colon more vs (i.Token (t.Sign s.Colon)) value fs e ts (rest, token {k} f, h) = (k, rest, takes, after last more vs fs rest h e)
  back_Colon more vs input value fs e ts h = absurd e

  pub end_Colon : (more : List Symbol) (vs : List Value) → Meaning last (lack (otherwise o.Colon) more vs []) → Meaning last (At (Non o.Colon ∷ more) vs [])
  end_Colon more vs e = absurd e

  pub back_Semicolon : (more : List Symbol) (vs : List Value) (input : Input) (value : Value) (fs : List Fed) → Meaning last (step (At (Non o.Semicolon ∷ more) vs (fed input value ∷ fs))) → Meaning last (At (Non o.Semicolon ∷ more) vs (fed input value ∷ fs))
  back_Semicolon more vs (i.Token (t.Sign s.Semicolon)) value fs e ts (rest, token {k} f, h) = (k, rest, takes, after last more vs fs rest h e)
  back_Semicolon more vs input value fs e ts h = absurd e

  pub end_Semicolon : (more : List Symbol) (vs : List Value) → Meaning last (lack (otherwise o.Semicolon) more vs []) → Meaning last (At (Non o.Semicolon ∷ more) vs [])
  end_Semicolon more vs e = absurd e

  pub back_Scope : (more : List Symbol) (vs : List Value) (input : Input) (value : Value) (fs : List Fed) → Meaning last (step (At (Non o.Scope ∷ more) vs (fed input value ∷ fs))) → Meaning last (At (Non o.Scope ∷ more) vs (fed input value ∷ fs))
  back_Scope more vs (i.Token (t.Sign s.Scope)) value fs e ts (rest, token {k} f, h) = (k, rest, takes, after last more vs fs rest h e)
  back_Scope more vs input value fs e ts h = absurd e

  pub end_Scope : (more : List Symbol) (vs : List Value) → Meaning last (lack (otherwise o.Scope) more vs []) → Meaning last (At (Non o.Scope ∷ more) vs [])
  end_Scope more vs e = absurd e

  pub back_NamespaceWord : (more : List Symbol) (vs : List Value) (input : Input) (value : Value) (fs : List Fed) → Meaning last (step (At (Non o.NamespaceWord ∷ more) vs (fed input value ∷ fs))) → Meaning last (At (Non o.NamespaceWord ∷ more) vs (fed input value ∷ fs))
  back_NamespaceWord more vs (i.Token (t.Word w.Namespace)) value fs e ts (rest, token {k} f, h) = (k, rest, takes, after last more vs fs rest h e)
  back_NamespaceWord more vs input value fs e ts h = absurd e

  pub end_NamespaceWord : (more : List Symbol) (vs : List Value) → Meaning last (lack (otherwise o.NamespaceWord) more vs []) → Meaning last (At (Non o.NamespaceWord ∷ more) vs [])
  end_NamespaceWord more vs e = absurd e

  pub back_WhileWord : (more : List Symbol) (vs : List Value) (input : Input) (value : Value) (fs : List Fed) → Meaning last (step (At (Non o.WhileWord ∷ more) vs (fed input value ∷ fs))) → Meaning last (At (Non o.WhileWord ∷ more) vs (fed input value ∷ fs))
  back_WhileWord more vs (i.Token (t.Word w.While)) value fs e ts (rest, token {k} f, h) = (k, rest, takes, after last more vs fs rest h e)
  back_WhileWord more vs input value fs e ts h = absurd e

  pub end_WhileWord : (more : List Symbol) (vs : List Value) → Meaning last (lack (otherwise o.WhileWord) more vs []) → Meaning last (At (Non o.WhileWord ∷ more) vs [])
  end_WhileWord more vs e = absurd e

  pub back_KeptOpenParenthesis : (more : List Symbol) (vs : List Value) (input : Input) (value : Value) (fs : List Fed) → Meaning last (step (At (Non o.KeptOpenParenthesis ∷ more) vs (fed input value ∷ fs))) → Meaning last (At (Non o.KeptOpenParenthesis ∷ more) vs (fed input value ∷ fs))
  back_KeptOpenParenthesis more vs (i.Token (t.Sign s.OpenParenthesis)) value fs e ts (rest, token {k} f, h) = (k, rest, takes, after last more _ fs rest h e)
  back_KeptOpenParenthesis more vs input value fs e ts h = absurd e

  pub end_KeptOpenParenthesis : (more : List Symbol) (vs : List Value) → Meaning last (lack (otherwise o.KeptOpenParenthesis) more vs []) → Meaning last (At (Non o.KeptOpenParenthesis ∷ more) vs [])
  end_KeptOpenParenthesis more vs e = absurd e

  pub back_KeptCloseParenthesis : (more : List Symbol) (vs : List Value) (input : Input) (value : Value) (fs : List Fed) → Meaning last (step (At (Non o.KeptCloseParenthesis ∷ more) vs (fed input value ∷ fs))) → Meaning last (At (Non o.KeptCloseParenthesis ∷ more) vs (fed input value ∷ fs))
  back_KeptCloseParenthesis more vs (i.Token (t.Sign s.CloseParenthesis)) value fs e ts (rest, token {k} f, h) = (k, rest, takes, after last more _ fs rest h e)
  back_KeptCloseParenthesis more vs input value fs e ts h = absurd e

  pub end_KeptCloseParenthesis : (more : List Symbol) (vs : List Value) → Meaning last (lack (otherwise o.KeptCloseParenthesis) more vs []) → Meaning last (At (Non o.KeptCloseParenthesis ∷ more) vs [])
  end_KeptCloseParenthesis more vs e = absurd e

  pub back_KeptCloseBrace : (more : List Symbol) (vs : List Value) (input : Input) (value : Value) (fs : List Fed) → Meaning last (step (At (Non o.KeptCloseBrace ∷ more) vs (fed input value ∷ fs))) → Meaning last (At (Non o.KeptCloseBrace ∷ more) vs (fed input value ∷ fs))
  back_KeptCloseBrace more vs (i.Token (t.Sign s.CloseBrace)) value fs e ts (rest, token {k} f, h) = (k, rest, takes, after last more _ fs rest h e)
  back_KeptCloseBrace more vs input value fs e ts h = absurd e

  pub end_KeptCloseBrace : (more : List Symbol) (vs : List Value) → Meaning last (lack (otherwise o.KeptCloseBrace) more vs []) → Meaning last (At (Non o.KeptCloseBrace ∷ more) vs [])
  end_KeptCloseBrace more vs e = absurd e

  pub back_KeptCloseBracket : (more : List Symbol) (vs : List Value) (input : Input) (value : Value) (fs : List Fed) → Meaning last (step (At (Non o.KeptCloseBracket ∷ more) vs (fed input value ∷ fs))) → Meaning last (At (Non o.KeptCloseBracket ∷ more) vs (fed input value ∷ fs))
  back_KeptCloseBracket more vs (i.Token (t.Sign s.CloseBracket)) value fs e ts (rest, token {k} f, h) = (k, rest, takes, after last more _ fs rest h e)
  back_KeptCloseBracket more vs input value fs e ts h = absurd e

  pub end_KeptCloseBracket : (more : List Symbol) (vs : List Value) → Meaning last (lack (otherwise o.KeptCloseBracket) more vs []) → Meaning last (At (Non o.KeptCloseBracket ∷ more) vs [])
  end_KeptCloseBracket more vs e = absurd e

  pub back_KeptSemicolon : (more : List Symbol) (vs : List Value) (input : Input) (value : Value) (fs : List Fed) → Meaning last (step (At (Non o.KeptSemicolon ∷ more) vs (fed input value ∷ fs))) → Meaning last (At (Non o.KeptSemicolon ∷ more) vs (fed input value ∷ fs))
  back_KeptSemicolon more vs (i.Token (t.Sign s.Semicolon)) value fs e ts (rest, token {k} f, h) = (k, rest, takes, after last more _ fs rest h e)
  back_KeptSemicolon more vs input value fs e ts h = absurd e

  pub end_KeptSemicolon : (more : List Symbol) (vs : List Value) → Meaning last (lack (otherwise o.KeptSemicolon) more vs []) → Meaning last (At (Non o.KeptSemicolon ∷ more) vs [])
  end_KeptSemicolon more vs e = absurd e

  pub back_KeptColon : (more : List Symbol) (vs : List Value) (input : Input) (value : Value) (fs : List Fed) → Meaning last (step (At (Non o.KeptColon ∷ more) vs (fed input value ∷ fs))) → Meaning last (At (Non o.KeptColon ∷ more) vs (fed input value ∷ fs))
  back_KeptColon more vs (i.Token (t.Sign s.Colon)) value fs e ts (rest, token {k} f, h) = (k, rest, takes, after last more _ fs rest h e)
  back_KeptColon more vs input value fs e ts h = absurd e

  pub end_KeptColon : (more : List Symbol) (vs : List Value) → Meaning last (lack (otherwise o.KeptColon) more vs []) → Meaning last (At (Non o.KeptColon ∷ more) vs [])
  end_KeptColon more vs e = absurd e

  pub back_KeptLess : (more : List Symbol) (vs : List Value) (input : Input) (value : Value) (fs : List Fed) → Meaning last (step (At (Non o.KeptLess ∷ more) vs (fed input value ∷ fs))) → Meaning last (At (Non o.KeptLess ∷ more) vs (fed input value ∷ fs))
  back_KeptLess more vs (i.Token (t.Sign s.Less)) value fs e ts (rest, token {k} f, h) = (k, rest, takes, after last more _ fs rest h e)
  back_KeptLess more vs input value fs e ts h = absurd e

  pub end_KeptLess : (more : List Symbol) (vs : List Value) → Meaning last (lack (otherwise o.KeptLess) more vs []) → Meaning last (At (Non o.KeptLess ∷ more) vs [])
  end_KeptLess more vs e = absurd e

  pub back_KeptGreater : (more : List Symbol) (vs : List Value) (input : Input) (value : Value) (fs : List Fed) → Meaning last (step (At (Non o.KeptGreater ∷ more) vs (fed input value ∷ fs))) → Meaning last (At (Non o.KeptGreater ∷ more) vs (fed input value ∷ fs))
  back_KeptGreater more vs (i.Token (t.Sign s.Greater)) value fs e ts (rest, token {k} f, h) = (k, rest, takes, after last more _ fs rest h e)
  back_KeptGreater more vs input value fs e ts h = absurd e

  pub end_KeptGreater : (more : List Symbol) (vs : List Value) → Meaning last (lack (otherwise o.KeptGreater) more vs []) → Meaning last (At (Non o.KeptGreater ∷ more) vs [])
  end_KeptGreater more vs e = absurd e

  pub back_InWord : (more : List Symbol) (vs : List Value) (input : Input) (value : Value) (fs : List Fed) → Meaning last (step (At (Non o.InWord ∷ more) vs (fed input value ∷ fs))) → Meaning last (At (Non o.InWord ∷ more) vs (fed input value ∷ fs))
  back_InWord more vs (i.Token (t.Name n.Plain c.In)) value fs e ts (rest, token {k} f, h) = (n.Plain, k, rest, takes, after last more vs fs rest h e)
  back_InWord more vs (i.Token (t.Name n.Function c.In)) value fs e ts (rest, token {k} f, h) = (n.Function, k, rest, takes, after last more vs fs rest h e)
  back_InWord more vs (i.Token (t.Name n.Type c.In)) value fs e ts (rest, token {k} f, h) = (n.Type, k, rest, takes, after last more vs fs rest h e)
  back_InWord more vs input value fs e ts h = absurd e

  pub end_InWord : (more : List Symbol) (vs : List Value) → Meaning last (lack (otherwise o.InWord) more vs []) → Meaning last (At (Non o.InWord ∷ more) vs [])
  end_InWord more vs e = absurd e

  pub back_Identifier : (more : List Symbol) (vs : List Value) (input : Input) (value : Value) (fs : List Fed) → Meaning last (step (At (Non o.Identifier ∷ more) vs (fed input value ∷ fs))) → Meaning last (At (Non o.Identifier ∷ more) vs (fed input value ∷ fs))
  back_Identifier more vs (i.Token (t.Name n.Plain word)) value fs e ts (rest, token {k} f, h) = (n.Plain, word, k, rest, plain, takes, after last more _ fs rest h e)
  back_Identifier more vs (i.Token (t.Name n.Function word)) value fs e ts (rest, token {k} f, h) = (n.Function, word, k, rest, function, takes, after last more _ fs rest h e)
  back_Identifier more vs input value fs e ts h = absurd e

  pub end_Identifier : (more : List Symbol) (vs : List Value) → Meaning last (lack (otherwise o.Identifier) more vs []) → Meaning last (At (Non o.Identifier ∷ more) vs [])
  end_Identifier more vs e = absurd e

  pub back_AnyName : (more : List Symbol) (vs : List Value) (input : Input) (value : Value) (fs : List Fed) → Meaning last (step (At (Non o.AnyName ∷ more) vs (fed input value ∷ fs))) → Meaning last (At (Non o.AnyName ∷ more) vs (fed input value ∷ fs))
  back_AnyName more vs (i.Token (t.Name kind word)) value fs e ts (rest, token {k} f, h) = (kind, word, k, rest, takes, after last more _ fs rest h e)
  back_AnyName more vs input value fs e ts h = absurd e

  pub end_AnyName : (more : List Symbol) (vs : List Value) → Meaning last (lack (otherwise o.AnyName) more vs []) → Meaning last (At (Non o.AnyName ∷ more) vs [])
  end_AnyName more vs e = absurd e

  number_row : (more : List Symbol) (vs : List Value) (kind : TokenKind) (span : Span) (rest : List Classified) → Fitting t.Number kind → Means last more (number_value kind span ∷ vs) rest
      → Means last (Non o.NumberToken ∷ more) vs (at t.Number (record { kind = kind; span = span }) ∷ rest)
  number_row more vs (k.Number value suffix radix) span rest f m = (t.Number, value, suffix, radix, span, rest, number, takes, m)
  number_row more vs _ span rest f m = absurd f

  zero_row : (more : List Symbol) (vs : List Value) (kind : TokenKind) (span : Span) (rest : List Classified) → Fitting t.Zero kind → Means last more (number_value kind span ∷ vs) rest
      → Means last (Non o.NumberToken ∷ more) vs (at t.Zero (record { kind = kind; span = span }) ∷ rest)
  zero_row more vs (k.Number value suffix radix) span rest f m = (t.Zero, value, suffix, radix, span, rest, zero_number, takes, m)
  zero_row more vs _ span rest f m = absurd f

  pub back_NumberToken : (more : List Symbol) (vs : List Value) (input : Input) (value : Value) (fs : List Fed) → Meaning last (step (At (Non o.NumberToken ∷ more) vs (fed input value ∷ fs))) → Meaning last (At (Non o.NumberToken ∷ more) vs (fed input value ∷ fs))
  back_NumberToken more vs (i.Token t.Number) value fs e ts (rest, token {k} f, h) = number_row more vs k.kind k.span rest f (after last more _ fs rest h e)
  back_NumberToken more vs (i.Token t.Zero) value fs e ts (rest, token {k} f, h) = zero_row more vs k.kind k.span rest f (after last more _ fs rest h e)
  back_NumberToken more vs input value fs e ts h = absurd e

  pub end_NumberToken : (more : List Symbol) (vs : List Value) → Meaning last (lack (otherwise o.NumberToken) more vs []) → Meaning last (At (Non o.NumberToken ∷ more) vs [])
  end_NumberToken more vs e = absurd e
