-- How expressions are spelled (ECMA-372, 15): which tree a list of tokens begins with, and which tokens follow it.
use Rattle.std.specs.Prelude.{◌≡◌, ◌≤◌, ◌+◌, ℕ, suc, List, [], ◌∷◌, Option, Some, None}
use Rattle.cc_base.specs.declared.text.Span.{Span}
use Rattle.cc_tree.specs.declared.token.Token.{Token}
use Rattle.cc_tree.specs.declared.identifier.Identifier.{Identifier}
use Rattle.cc_tree.specs.declared.terminal.Terminal.{Terminal}
use Rattle.cc_tree.specs.declared.terminal.Terminal.TheVariants as t
use Rattle.cc_tree.specs.declared.terminal.NameKind.{NameKind}
use Rattle.cc_tree.specs.declared.terminal.NameKind.TheVariants as n
use Rattle.cc_tree.specs.declared.terminal.ContextualWord.{ContextualWord}
use Rattle.cc_tree.specs.declared.terminal.ContextualWord.TheVariants as c
use Rattle.cc_tree.specs.declared.terminal.ReservedWord.{ReservedWord}
use Rattle.cc_tree.specs.declared.terminal.ReservedWord.TheVariants as w
use Rattle.cc_tree.specs.declared.terminal.Sign.{Sign}
use Rattle.cc_tree.specs.declared.terminal.Sign.TheVariants as s
use Rattle.cc_tree.specs.declared.token.Suffix.{Suffix}
use Rattle.cc_tree.specs.declared.token.Radix.{Radix}
use Rattle.cc_tree.specs.declared.token.TokenKind.TheVariants as k
use Rattle.cc_tree.specs.declared.type_name.TypeName.{TypeName}
use Rattle.cc_tree.specs.declared.type_name.TypeArguments.{TypeArguments}
use Rattle.cc_tree.specs.declared.expression.Expression.{Expression}
use Rattle.cc_tree.specs.declared.expression.Expression.TheVariants as e
use Rattle.cc_tree.specs.declared.expression.Arguments.{Arguments, roll-Arguments}
use Rattle.cc_tree.specs.declared.expression.AssignmentOperator.{AssignmentOperator}
use Rattle.cc_tree.specs.declared.expression.BinaryOperator.{BinaryOperator}
use Rattle.cc_tree.specs.declared.expression.PrefixOperator.{PrefixOperator}
use Rattle.cc_tree.specs.declared.expression.PostfixOperator.{PostfixOperator}
use Rattle.cc_tree.specs.declared.expression.Selector.{Selector}
use Rattle.cc_tree.specs.declared.expression.CastWord.{CastWord}
use Rattle.cc_tree.specs.Terminals.{Classified, at, Id}
use Rattle.cc_tree.specs.Spans.{across, after, identifier, qualified_span}
use Rattle.cc_tree.specs.Operators.{assignment_operator, binary_operator, level, prefix_operator, postfix_operator, selector, cast_word, ReadsOperator}
use Rattle.cc_tree.specs.GrammarTypes.{ReadsPath, ReadsType, ReadsCore, ReadsNamed, ReadsTypeArguments}

abbrev pub arguments : List Expression → Span → Arguments
arguments items span = roll-Arguments (record { items = items; span = span })

-- Parentheses and braces directly after the type of a `gcnew` belong to the `gcnew`.
abbrev pub NoBrace : List Classified → Type 0
NoBrace (at (t.Sign s.OpenBrace) k ∷ rest) = ⊥
NoBrace _ = Unit {0}

abbrev pub NoParenthesis : List Classified → Type 0
NoParenthesis (at (t.Sign s.OpenParenthesis) k ∷ rest) = ⊥
NoParenthesis _ = Unit {0}

-- STRING { STRING }
pub data ReadsStrings : List (List ℕ) → Span → List Classified → List Classified → Type 0 where
  last : {text : List ℕ} {span : Span} {rest : List Classified}
      → ReadsStrings (text ∷ []) span (at t.Literal (record { kind = k.Literal text; span = span }) ∷ rest) rest
  more : {text : List ℕ} {texts : List (List ℕ)} {first span : Span} {ts rest : List Classified}
      → ReadsStrings texts span ts rest
      → ReadsStrings (text ∷ texts) (across first span) (at t.Literal (record { kind = k.Literal text; span = first }) ∷ ts) rest

-- NUMBER, of which `0` is one
pub data IsNumber : Terminal → Type 0 where
  number : IsNumber t.Number
  zero_number : IsNumber t.Zero

mutual
  -- expr = cond | unary asgop expr
  pub data ReadsExpression : Expression → Span → List Classified → List Classified → Type 0 where
    assign : {left right : Expression} {sign : Sign} {operator : AssignmentOperator} {first second : Span} {k : Token} {ts us rest : List Classified}
        → ReadsUnary left first ts (at (t.Sign sign) k ∷ us) → assignment_operator sign ≡ Some operator → ReadsExpression right second us rest
        → ReadsExpression (e.Assign left operator right (across first second)) (across first second) ts rest
    conditional : {x : Expression} {span : Span} {ts rest : List Classified} → ReadsConditional x span ts rest → ReadsExpression x span ts rest

  -- cond = binary [ "?" expr ":" expr ]
  pub data ReadsConditional : Expression → Span → List Classified → List Classified → Type 0 where
    choice : {condition chosen other : Expression} {first second third : Span} {question colon : Token} {ts us vs rest : List Classified}
        → ReadsBinary 1 condition first ts (at (t.Sign s.Question) question ∷ us)
        → ReadsExpression chosen second us (at (t.Sign s.Colon) colon ∷ vs) → ReadsExpression other third vs rest
        → ReadsConditional (e.Conditional condition chosen other (across first third)) (across first third) ts rest
    binary : {x : Expression} {span : Span} {ts rest : List Classified} → ReadsBinary 1 x span ts rest → ReadsConditional x span ts rest

  -- An expression whose operator is at least as tight as the level. Operators of one level group to the left.
  pub data ReadsBinary : ℕ → Expression → Span → List Classified → List Classified → Type 0 where
    joined : {n : ℕ} {operator : BinaryOperator} {left right : Expression} {first second : Span} {ts us vs rest : List Classified}
        → n ≤ level operator → ReadsBinary (level operator) left first ts us → ReadsOperator operator us vs → ReadsBinary (level operator + 1) right second vs rest
        → ReadsBinary n (e.Binary left operator right (across first second)) (across first second) ts rest
    unary : {n : ℕ} {x : Expression} {span : Span} {ts rest : List Classified} → ReadsUnary x span ts rest → ReadsBinary n x span ts rest

  -- unary = ( "!" | "~" | "-" | "+" | "++" | "--" | "%" ) unary | "(" type ")" unary | postfix
  pub data ReadsUnary : Expression → Span → List Classified → List Classified → Type 0 where
    prefix : {sign : Sign} {operator : PrefixOperator} {x : Expression} {span : Span} {k : Token} {ts rest : List Classified}
        → prefix_operator sign ≡ Some operator → ReadsUnary x span ts rest
        → ReadsUnary (e.Prefix operator x (across k.span span)) (across k.span span) (at (t.Sign sign) k ∷ ts) rest
    cast : {of : TypeName} {x : Expression} {first span : Span} {open_ close : Token} {ts us rest : List Classified}
        → ReadsType of first ts (at (t.Sign s.CloseParenthesis) close ∷ us) → ReadsUnary x span us rest
        → ReadsUnary (e.Cast of x (across open_.span span)) (across open_.span span) (at (t.Sign s.OpenParenthesis) open_ ∷ ts) rest
    postfix : {x : Expression} {span : Span} {ts rest : List Classified} → ReadsPostfix x span ts rest → ReadsUnary x span ts rest

  -- postfix = primary { "[" expr "]" | "(" args ")" | ( "." | "->" ) ( ID [ targs ] | "!" ID ) | "++" | "--" }
  pub data ReadsPostfix : Expression → Span → List Classified → List Classified → Type 0 where
    primary : {x : Expression} {span : Span} {ts rest : List Classified} → ReadsPrimary x span ts rest → ReadsPostfix x span ts rest
    index : {x y : Expression} {span second : Span} {open_ close : Token} {ts us rest : List Classified}
        → ReadsPostfix x span ts (at (t.Sign s.OpenBracket) open_ ∷ us) → ReadsExpression y second us (at (t.Sign s.CloseBracket) close ∷ rest)
        → ReadsPostfix (e.Index x y (across span close.span)) (across span close.span) ts rest
    call : {x : Expression} {given : Arguments} {span : Span} {open_ close : Token} {ts us rest : List Classified}
        → ReadsPostfix x span ts (at (t.Sign s.OpenParenthesis) open_ ∷ us) → ReadsArguments open_.span given us (at (t.Sign s.CloseParenthesis) close ∷ rest)
        → ReadsPostfix (e.Call x given (across span close.span)) (across span close.span) ts rest
    member : {x : Expression} {sign : Sign} {selects : Selector} {id : Terminal} {span : Span} {dot k : Token} {ts rest : List Classified}
        → ReadsPostfix x span ts (at (t.Sign sign) dot ∷ at id k ∷ rest) → selector sign ≡ Some selects → Id id
        → ReadsPostfix (e.Member x selects (identifier k) None (across span k.span)) (across span k.span) ts rest
    member_of : {x : Expression} {sign : Sign} {selects : Selector} {word : ContextualWord} {types : TypeArguments} {span second : Span} {dot k : Token} {ts us rest : List Classified}
        → ReadsPostfix x span ts (at (t.Sign sign) dot ∷ at (t.Name n.Function word) k ∷ us) → selector sign ≡ Some selects → ReadsTypeArguments types second us rest
        → ReadsPostfix (e.Member x selects (identifier k) (Some types) (across span second)) (across span second) ts rest
    finaliser : {x : Expression} {sign : Sign} {selects : Selector} {kind : NameKind} {word : ContextualWord} {span : Span} {dot exclamation k : Token} {ts rest : List Classified}
        → ReadsPostfix x span ts (at (t.Sign sign) dot ∷ at (t.Sign s.Exclamation) exclamation ∷ at (t.Name kind word) k ∷ rest) → selector sign ≡ Some selects
        → ReadsPostfix (e.Finaliser x selects (identifier k) (across span k.span)) (across span k.span) ts rest
    step : {x : Expression} {sign : Sign} {operator : PostfixOperator} {span : Span} {k : Token} {ts rest : List Classified}
        → ReadsPostfix x span ts (at (t.Sign sign) k ∷ rest) → postfix_operator sign ≡ Some operator
        → ReadsPostfix (e.Postfix x operator (across span k.span)) (across span k.span) ts rest

  -- primary = NUMBER | CHARACTER | STRING { STRING } | "true" | "false" | "nullptr" | "this" | "(" expr ")"
  --         | { ID "::" } ID [ targs ] | core "::" ID | core "(" args ")" | "gcnew" tname [ "(" args ")" ] [ "{" args "}" ]
  --         | ( "safe_cast" | "static_cast" | "dynamic_cast" ) "<" type ">" "(" expr ")"
  pub data ReadsPrimary : Expression → Span → List Classified → List Classified → Type 0 where
    number : {terminal : Terminal} {value : ℕ} {suffix : Suffix} {radix : Radix} {span : Span} {rest : List Classified} → IsNumber terminal
        → ReadsPrimary (e.Number value suffix radix span) span (at terminal (record { kind = k.Number value suffix radix; span = span }) ∷ rest) rest
    character : {unit : ℕ} {span : Span} {rest : List Classified}
        → ReadsPrimary (e.Character unit span) span (at t.Character (record { kind = k.Character unit; span = span }) ∷ rest) rest
    strings : {texts : List (List ℕ)} {span : Span} {ts rest : List Classified} → ReadsStrings texts span ts rest → ReadsPrimary (e.Strings texts span) span ts rest
    true_ : {k : Token} {rest : List Classified} → ReadsPrimary (e.True k.span) k.span (at (t.Word w.True) k ∷ rest) rest
    false_ : {k : Token} {rest : List Classified} → ReadsPrimary (e.False k.span) k.span (at (t.Word w.False) k ∷ rest) rest
    nullptr : {k : Token} {rest : List Classified} → ReadsPrimary (e.Nullptr k.span) k.span (at (t.Word w.Nullptr) k ∷ rest) rest
    this : {k : Token} {rest : List Classified} → ReadsPrimary (e.This k.span) k.span (at (t.Word w.This) k ∷ rest) rest
    group : {x : Expression} {span : Span} {open_ close : Token} {ts rest : List Classified}
        → ReadsExpression x span ts (at (t.Sign s.CloseParenthesis) close ∷ rest)
        → ReadsPrimary (e.Group x (across open_.span close.span)) (across open_.span close.span) (at (t.Sign s.OpenParenthesis) open_ ∷ ts) rest
    name : {path : List Identifier} {id : Terminal} {k : Token} {ts rest : List Classified}
        → ReadsPath path ts (at id k ∷ rest) → Id id
        → ReadsPrimary (e.Name path (identifier k) None (qualified_span path (identifier k))) (qualified_span path (identifier k)) ts rest
    name_of : {path : List Identifier} {word : ContextualWord} {types : TypeArguments} {span : Span} {k : Token} {ts us rest : List Classified}
        → ReadsPath path ts (at (t.Name n.Function word) k ∷ us) → ReadsTypeArguments types span us rest
        → ReadsPrimary (e.Name path (identifier k) (Some types) (across (qualified_span path (identifier k)) span)) (across (qualified_span path (identifier k)) span) ts rest
    static_member : {of : TypeName} {id : Terminal} {span : Span} {scope k : Token} {ts rest : List Classified}
        → ReadsCore of span ts (at (t.Sign s.Scope) scope ∷ at id k ∷ rest) → Id id
        → ReadsPrimary (e.StaticMember of (identifier k) (across span k.span)) (across span k.span) ts rest
    construct : {of : TypeName} {given : Arguments} {span : Span} {open_ close : Token} {ts us rest : List Classified}
        → ReadsCore of span ts (at (t.Sign s.OpenParenthesis) open_ ∷ us) → ReadsArguments open_.span given us (at (t.Sign s.CloseParenthesis) close ∷ rest)
        → ReadsPrimary (e.Construct of given (across span close.span)) (across span close.span) ts rest
    new : {of : TypeName} {span : Span} {gcnew : Token} {ts rest : List Classified}
        → ReadsNamed of span ts rest → NoParenthesis rest → NoBrace rest
        → ReadsPrimary (e.New of None None (across gcnew.span span)) (across gcnew.span span) (at (t.Word w.Gcnew) gcnew ∷ ts) rest
    new_with : {of : TypeName} {given : Arguments} {span : Span} {gcnew open_ close : Token} {ts us rest : List Classified}
        → ReadsNamed of span ts (at (t.Sign s.OpenParenthesis) open_ ∷ us) → ReadsArguments open_.span given us (at (t.Sign s.CloseParenthesis) close ∷ rest) → NoBrace rest
        → ReadsPrimary (e.New of (Some given) None (across gcnew.span close.span)) (across gcnew.span close.span) (at (t.Word w.Gcnew) gcnew ∷ ts) rest
    new_of : {of : TypeName} {elements : Arguments} {span : Span} {gcnew open_ close : Token} {ts us rest : List Classified}
        → ReadsNamed of span ts (at (t.Sign s.OpenBrace) open_ ∷ us) → ReadsArguments open_.span elements us (at (t.Sign s.CloseBrace) close ∷ rest)
        → ReadsPrimary (e.New of None (Some elements) (across gcnew.span close.span)) (across gcnew.span close.span) (at (t.Word w.Gcnew) gcnew ∷ ts) rest
    new_with_of : {of : TypeName} {given elements : Arguments} {span : Span} {gcnew open_ close brace end : Token} {ts us vs rest : List Classified}
        → ReadsNamed of span ts (at (t.Sign s.OpenParenthesis) open_ ∷ us)
        → ReadsArguments open_.span given us (at (t.Sign s.CloseParenthesis) close ∷ at (t.Sign s.OpenBrace) brace ∷ vs)
        → ReadsArguments brace.span elements vs (at (t.Sign s.CloseBrace) end ∷ rest)
        → ReadsPrimary (e.New of (Some given) (Some elements) (across gcnew.span end.span)) (across gcnew.span end.span) (at (t.Word w.Gcnew) gcnew ∷ ts) rest
    named_cast : {word : ReservedWord} {casts : CastWord} {of : TypeName} {x : Expression} {span second : Span} {k less greater open_ close : Token} {ts us rest : List Classified}
        → cast_word word ≡ Some casts → ReadsType of span ts (at (t.Sign s.Greater) greater ∷ at (t.Sign s.OpenParenthesis) open_ ∷ us)
        → ReadsExpression x second us (at (t.Sign s.CloseParenthesis) close ∷ rest)
        → ReadsPrimary (e.NamedCast casts of x (across k.span close.span)) (across k.span close.span) (at (t.Word word) k ∷ at (t.Sign s.Less) less ∷ ts) rest

  -- args = [ expr { "," expr } ], after the token with this span
  pub data ReadsArguments : Span → Arguments → List Classified → List Classified → Type 0 where
    none : {before : Span} {rest : List Classified} → ReadsArguments before (arguments [] (after before)) rest rest
    some : {before span : Span} {items : List Expression} {ts rest : List Classified}
        → ReadsExpressions items span ts rest → ReadsArguments before (arguments items span) ts rest

  -- expr { "," expr }
  pub data ReadsExpressions : List Expression → Span → List Classified → List Classified → Type 0 where
    last : {x : Expression} {span : Span} {ts rest : List Classified} → ReadsExpression x span ts rest → ReadsExpressions (x ∷ []) span ts rest
    more : {x : Expression} {items : List Expression} {first span : Span} {comma : Token} {ts us rest : List Classified}
        → ReadsExpression x first ts (at (t.Sign s.Comma) comma ∷ us) → ReadsExpressions items span us rest
        → ReadsExpressions (x ∷ items) (across first span) ts rest
