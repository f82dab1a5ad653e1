-- How statements are spelled (ECMA-372, 16): which tree a list of tokens begins with, and which tokens follow it.
use Rattle.std.specs.Prelude.{◌≡◌, List, [], ◌∷◌, Option, Some, None}
use Rattle.cc_base.specs.declared.text.Span.{Span}
use Rattle.cc_tree.specs.declared.token.Token.{Token}
use Rattle.cc_tree.specs.declared.identifier.Identifier.{Identifier}
use Rattle.cc_tree.specs.declared.terminal.Terminal.{Terminal}
use Rattle.cc_tree.specs.declared.terminal.Terminal.TheVariants as t
use Rattle.cc_tree.specs.declared.terminal.NameKind.{NameKind}
use Rattle.cc_tree.specs.declared.terminal.NameKind.TheVariants as n
use Rattle.cc_tree.specs.declared.terminal.ContextualWord.{ContextualWord}
use Rattle.cc_tree.specs.declared.terminal.ContextualWord.TheVariants as c
use Rattle.cc_tree.specs.declared.terminal.ReservedWord.{ReservedWord}
use Rattle.cc_tree.specs.declared.terminal.ReservedWord.TheVariants as w
use Rattle.cc_tree.specs.declared.terminal.Sign.{Sign}
use Rattle.cc_tree.specs.declared.terminal.Sign.TheVariants as s
use Rattle.cc_tree.specs.declared.type_name.TypeName.{TypeName}
use Rattle.cc_tree.specs.declared.expression.Expression.{Expression}
use Rattle.cc_tree.specs.declared.expression.Arguments.{Arguments}
use Rattle.cc_tree.specs.declared.statement.Statement.{Statement}
use Rattle.cc_tree.specs.declared.statement.Statement.TheVariants as z
use Rattle.cc_tree.specs.declared.statement.Block.{Block, roll-Block}
use Rattle.cc_tree.specs.declared.statement.Section.{Section, roll-Section}
use Rattle.cc_tree.specs.declared.statement.Catch.{Catch, roll-Catch}
use Rattle.cc_tree.specs.declared.statement.Caught.{Caught}
use Rattle.cc_tree.specs.declared.statement.Caught.TheVariants as caught
use Rattle.cc_tree.specs.declared.statement.Label.{Label}
use Rattle.cc_tree.specs.declared.statement.Label.TheVariants as label
use Rattle.cc_tree.specs.declared.statement.ForStart.{ForStart}
use Rattle.cc_tree.specs.declared.statement.ForStart.TheVariants as start
use Rattle.cc_tree.specs.declared.statement.Local.{Local}
use Rattle.cc_tree.specs.declared.statement.Declarator.{Declarator}
use Rattle.cc_tree.specs.declared.statement.Initializer.{Initializer}
use Rattle.cc_tree.specs.declared.statement.Initializer.TheVariants as initial
use Rattle.cc_tree.specs.Terminals.{Classified, at, Id}
use Rattle.cc_tree.specs.Spans.{across, after, identifier}
use Rattle.cc_tree.specs.GrammarTypes.{ReadsType}
use Rattle.cc_tree.specs.GrammarExpressions.{ReadsExpression, ReadsExpressions, ReadsArguments}

abbrev pub block : List Statement → Span → Block
block statements span = roll-Block (record { statements = statements; span = span })

-- `else` belongs to the nearest `if`.
abbrev pub NoElse : List Classified → Type 0
NoElse (at (t.Word w.Else) k ∷ rest) = ⊥
NoElse _ = Unit {0}

-- A label that directly follows a label belongs to the same section.
abbrev pub NoLabel : List Classified → Type 0
NoLabel (at (t.Word w.Case) k ∷ rest) = ⊥
NoLabel (at (t.Word w.Default) k ∷ rest) = ⊥
NoLabel _ = Unit {0}

-- one = ID [ "=" ( expr | "{" args "}" ) | "(" expr { "," expr } ")" ]
pub data ReadsDeclarator : Declarator → List Classified → List Classified → Type 0 where
  alone : {id : Terminal} {k : Token} {rest : List Classified} → Id id
      → ReadsDeclarator (record { name = identifier k; initializer = initial.Nothing; span = k.span }) (at id k ∷ rest) rest
  value : {id : Terminal} {x : Expression} {span : Span} {k equals : Token} {ts rest : List Classified} → Id id → ReadsExpression x span ts rest
      → ReadsDeclarator (record { name = identifier k; initializer = initial.Value x; span = across k.span span }) (at id k ∷ at (t.Sign s.Assign) equals ∷ ts) rest
  elements : {id : Terminal} {given : Arguments} {k equals open_ close : Token} {ts rest : List Classified}
      → Id id → ReadsArguments open_.span given ts (at (t.Sign s.CloseBrace) close ∷ rest)
      → ReadsDeclarator (record { name = identifier k; initializer = initial.Elements given; span = across k.span close.span }) (at id k ∷ at (t.Sign s.Assign) equals ∷ at (t.Sign s.OpenBrace) open_ ∷ ts) rest
  arguments : {id : Terminal} {items : List Expression} {span : Span} {k open_ close : Token} {ts rest : List Classified}
      → Id id → ReadsExpressions items span ts (at (t.Sign s.CloseParenthesis) close ∷ rest)
      → ReadsDeclarator (record { name = identifier k; initializer = initial.Arguments items; span = across k.span close.span }) (at id k ∷ at (t.Sign s.OpenParenthesis) open_ ∷ ts) rest

-- one { "," one }, up to the end of the last
pub data ReadsDeclarators : List Declarator → Span → List Classified → List Classified → Type 0 where
  last : {one : Declarator} {ts rest : List Classified} → ReadsDeclarator one ts rest → ReadsDeclarators (one ∷ []) one.span ts rest
  more : {one : Declarator} {declarators : List Declarator} {span : Span} {comma : Token} {ts us rest : List Classified}
      → ReadsDeclarator one ts (at (t.Sign s.Comma) comma ∷ us) → ReadsDeclarators declarators span us rest → ReadsDeclarators (one ∷ declarators) span ts rest

-- local = type one { "," one }
pub data ReadsLocal : Local → List Classified → List Classified → Type 0 where
  local : {of : TypeName} {declarators : List Declarator} {first span : Span} {ts us rest : List Classified}
      → ReadsType of first ts us → ReadsDeclarators declarators span us rest
      → ReadsLocal (record { of = of; declarators = declarators; span = across first span }) ts rest

-- label = "case" expr ":" | "default" ":"
pub data ReadsLabel : Label → List Classified → List Classified → Type 0 where
  case_ : {x : Expression} {span : Span} {k colon : Token} {ts rest : List Classified}
      → ReadsExpression x span ts (at (t.Sign s.Colon) colon ∷ rest) → ReadsLabel (label.Case x (across k.span colon.span)) (at (t.Word w.Case) k ∷ ts) rest
  default : {k colon : Token} {rest : List Classified}
      → ReadsLabel (label.Default (across k.span colon.span)) (at (t.Word w.Default) k ∷ at (t.Sign s.Colon) colon ∷ rest) rest

-- label { label }
pub data ReadsLabels : List Label → List Classified → List Classified → Type 0 where
  last : {label : Label} {ts rest : List Classified} → ReadsLabel label ts rest → NoLabel rest → ReadsLabels (label ∷ []) ts rest
  more : {label : Label} {labels : List Label} {ts us rest : List Classified} → ReadsLabel label ts us → ReadsLabels labels us rest → ReadsLabels (label ∷ labels) ts rest

-- [ local | expr ] ";"
pub data ReadsForStart : ForStart → List Classified → List Classified → Type 0 where
  nothing : {semicolon : Token} {rest : List Classified} → ReadsForStart start.Nothing (at (t.Sign s.Semicolon) semicolon ∷ rest) rest
  local : {declared : Local} {semicolon : Token} {ts rest : List Classified}
      → ReadsLocal declared ts (at (t.Sign s.Semicolon) semicolon ∷ rest) → ReadsForStart (start.Local declared) ts rest
  expression : {x : Expression} {span : Span} {semicolon : Token} {ts rest : List Classified}
      → ReadsExpression x span ts (at (t.Sign s.Semicolon) semicolon ∷ rest) → ReadsForStart (start.Expression x) ts rest

-- [ expr ] and the sign after it
pub data ReadsOptional : Sign → Option Expression → Token → List Classified → List Classified → Type 0 where
  none : {sign : Sign} {k : Token} {rest : List Classified} → ReadsOptional sign None k (at (t.Sign sign) k ∷ rest) rest
  some : {sign : Sign} {x : Expression} {span : Span} {k : Token} {ts rest : List Classified}
      → ReadsExpression x span ts (at (t.Sign sign) k ∷ rest) → ReadsOptional sign (Some x) k ts rest

-- "..." | type [ ID ]
pub data ReadsCaught : Caught → List Classified → List Classified → Type 0 where
  all : {k : Token} {rest : List Classified} → ReadsCaught caught.All (at (t.Sign s.Ellipsis) k ∷ rest) rest
  typed : {of : TypeName} {span : Span} {ts rest : List Classified} → ReadsType of span ts rest → ReadsCaught (caught.Typed of None) ts rest
  named : {of : TypeName} {id : Terminal} {span : Span} {k : Token} {ts rest : List Classified}
      → ReadsType of span ts (at id k ∷ rest) → Id id → ReadsCaught (caught.Typed of (Some (identifier k))) ts rest

mutual
  -- block = "{" { statement } "}"
  pub data ReadsBlock : Block → Span → List Classified → List Classified → Type 0 where
    block_ : {statements : List Statement} {open_ close : Token} {ts rest : List Classified}
        → ReadsStatements statements ts (at (t.Sign s.CloseBrace) close ∷ rest)
        → ReadsBlock (block statements (across open_.span close.span)) (across open_.span close.span) (at (t.Sign s.OpenBrace) open_ ∷ ts) rest

  -- { statement }
  pub data ReadsStatements : List Statement → List Classified → List Classified → Type 0 where
    no_statement : {rest : List Classified} → ReadsStatements [] rest rest
    next_statement : {statement : Statement} {statements : List Statement} {span : Span} {ts us rest : List Classified}
        → ReadsStatement statement span ts us → ReadsStatements statements us rest → ReadsStatements (statement ∷ statements) ts rest

  -- statement = block | ";" | local ";" | expr ";" | "delete" expr ";" | "if" "(" expr ")" statement [ "else" statement ]
  --           | "while" "(" expr ")" statement | "do" statement "while" "(" expr ")" ";"
  --           | "for" "(" [ local | expr ] ";" [ expr ] ";" [ expr ] ")" statement | "for" "each" "(" type ID "in" expr ")" statement
  --           | "switch" "(" expr ")" "{" { label { label } { statement } } "}" | "break" ";" | "continue" ";" | "return" [ expr ] ";"
  --           | "throw" [ expr ] ";" | "try" block { "catch" "(" ( "..." | type [ ID ] ) ")" block } [ "finally" block ]
  pub data ReadsStatement : Statement → Span → List Classified → List Classified → Type 0 where
    of_block : {body : Block} {span : Span} {ts rest : List Classified} → ReadsBlock body span ts rest → ReadsStatement (z.Block body) span ts rest
    empty : {k : Token} {rest : List Classified} → ReadsStatement (z.Empty k.span) k.span (at (t.Sign s.Semicolon) k ∷ rest) rest
    local : {declared : Local} {semicolon : Token} {ts rest : List Classified}
        → ReadsLocal declared ts (at (t.Sign s.Semicolon) semicolon ∷ rest)
        → ReadsStatement (z.Local declared (across declared.span semicolon.span)) (across declared.span semicolon.span) ts rest
    expression : {x : Expression} {span : Span} {semicolon : Token} {ts rest : List Classified}
        → ReadsExpression x span ts (at (t.Sign s.Semicolon) semicolon ∷ rest)
        → ReadsStatement (z.Expression x (across span semicolon.span)) (across span semicolon.span) ts rest
    delete : {x : Expression} {span : Span} {k semicolon : Token} {ts rest : List Classified}
        → ReadsExpression x span ts (at (t.Sign s.Semicolon) semicolon ∷ rest)
        → ReadsStatement (z.Delete x (across k.span semicolon.span)) (across k.span semicolon.span) (at (t.Word w.Delete) k ∷ ts) rest
    if_alone : {x : Expression} {chosen : Statement} {span first : Span} {k open_ close : Token} {ts us rest : List Classified}
        → ReadsExpression x span ts (at (t.Sign s.CloseParenthesis) close ∷ us) → ReadsStatement chosen first us rest → NoElse rest
        → ReadsStatement (z.If x chosen None (across k.span first)) (across k.span first) (at (t.Word w.If) k ∷ at (t.Sign s.OpenParenthesis) open_ ∷ ts) rest
    if_else : {x : Expression} {chosen other : Statement} {span first second : Span} {k open_ close otherwise : Token} {ts us vs rest : List Classified}
        → ReadsExpression x span ts (at (t.Sign s.CloseParenthesis) close ∷ us) → ReadsStatement chosen first us (at (t.Word w.Else) otherwise ∷ vs) → ReadsStatement other second vs rest
        → ReadsStatement (z.If x chosen (Some other) (across k.span second)) (across k.span second) (at (t.Word w.If) k ∷ at (t.Sign s.OpenParenthesis) open_ ∷ ts) rest
    while : {x : Expression} {body : Statement} {span first : Span} {k open_ close : Token} {ts us rest : List Classified}
        → ReadsExpression x span ts (at (t.Sign s.CloseParenthesis) close ∷ us) → ReadsStatement body first us rest
        → ReadsStatement (z.While x body (across k.span first)) (across k.span first) (at (t.Word w.While) k ∷ at (t.Sign s.OpenParenthesis) open_ ∷ ts) rest
    do_ : {x : Expression} {body : Statement} {span first : Span} {k while_ open_ close semicolon : Token} {ts us rest : List Classified}
        → ReadsStatement body first ts (at (t.Word w.While) while_ ∷ at (t.Sign s.OpenParenthesis) open_ ∷ us)
        → ReadsExpression x span us (at (t.Sign s.CloseParenthesis) close ∷ at (t.Sign s.Semicolon) semicolon ∷ rest)
        → ReadsStatement (z.Do body x (across k.span semicolon.span)) (across k.span semicolon.span) (at (t.Word w.Do) k ∷ ts) rest
    for : {begins : ForStart} {condition advance : Option Expression} {body : Statement} {first : Span} {k open_ semicolon close : Token} {ts us vs ws rest : List Classified}
        → ReadsForStart begins ts us → ReadsOptional s.Semicolon condition semicolon us vs → ReadsOptional s.CloseParenthesis advance close vs ws → ReadsStatement body first ws rest
        → ReadsStatement (z.For begins condition advance body (across k.span first)) (across k.span first) (at (t.Word w.For) k ∷ at (t.Sign s.OpenParenthesis) open_ ∷ ts) rest
    for_each : {of : TypeName} {id : Terminal} {x : Expression} {body : Statement} {each within : NameKind} {span second first : Span} {k l open_ name m close : Token} {ts us vs rest : List Classified}
        → ReadsType of span ts (at id name ∷ at (t.Name within c.In) m ∷ us) → Id id → ReadsExpression x second us (at (t.Sign s.CloseParenthesis) close ∷ vs) → ReadsStatement body first vs rest
        → ReadsStatement (z.ForEach of (identifier name) x body (across k.span first)) (across k.span first) (at (t.Word w.For) k ∷ at (t.Name each c.Each) l ∷ at (t.Sign s.OpenParenthesis) open_ ∷ ts) rest
    switch : {x : Expression} {sections : List Section} {span : Span} {k open_ close brace end : Token} {ts us rest : List Classified}
        → ReadsExpression x span ts (at (t.Sign s.CloseParenthesis) close ∷ at (t.Sign s.OpenBrace) brace ∷ us) → ReadsSections sections us (at (t.Sign s.CloseBrace) end ∷ rest)
        → ReadsStatement (z.Switch x sections (across k.span end.span)) (across k.span end.span) (at (t.Word w.Switch) k ∷ at (t.Sign s.OpenParenthesis) open_ ∷ ts) rest
    break : {k semicolon : Token} {rest : List Classified}
        → ReadsStatement (z.Break (across k.span semicolon.span)) (across k.span semicolon.span) (at (t.Word w.Break) k ∷ at (t.Sign s.Semicolon) semicolon ∷ rest) rest
    continue : {k semicolon : Token} {rest : List Classified}
        → ReadsStatement (z.Continue (across k.span semicolon.span)) (across k.span semicolon.span) (at (t.Word w.Continue) k ∷ at (t.Sign s.Semicolon) semicolon ∷ rest) rest
    return : {x : Option Expression} {k semicolon : Token} {ts rest : List Classified} → ReadsOptional s.Semicolon x semicolon ts rest
        → ReadsStatement (z.Return x (across k.span semicolon.span)) (across k.span semicolon.span) (at (t.Word w.Return) k ∷ ts) rest
    throw : {x : Option Expression} {k semicolon : Token} {ts rest : List Classified} → ReadsOptional s.Semicolon x semicolon ts rest
        → ReadsStatement (z.Throw x (across k.span semicolon.span)) (across k.span semicolon.span) (at (t.Word w.Throw) k ∷ ts) rest
    try_catch : {body : Block} {catch_ : Catch} {catches : List Catch} {first last : Span} {k : Token} {ts us rest : List Classified}
        → ReadsBlock body first ts us → ReadsCatches (catch_ ∷ catches) last us rest
        → ReadsStatement (z.Try body (catch_ ∷ catches) None (across k.span last)) (across k.span last) (at (t.Word w.Try) k ∷ ts) rest
    try_finally : {body at_last : Block} {catches : List Catch} {first middle last : Span} {k finally : Token} {ts us vs rest : List Classified}
        → ReadsBlock body first ts us → ReadsCatches catches middle us (at (t.Word w.Finally) finally ∷ vs) → ReadsBlock at_last last vs rest
        → ReadsStatement (z.Try body catches (Some at_last) (across k.span last)) (across k.span last) (at (t.Word w.Try) k ∷ ts) rest

  -- { "catch" "(" ( "..." | type [ ID ] ) ")" block }, and the span of the last block
  pub data ReadsCatches : List Catch → Span → List Classified → List Classified → Type 0 where
    no_catch : {span : Span} {rest : List Classified} → ReadsCatches [] span rest rest
    last_catch : {what : Caught} {body : Block} {span : Span} {k open_ close : Token} {ts us rest : List Classified}
        → ReadsCaught what ts (at (t.Sign s.CloseParenthesis) close ∷ us) → ReadsBlock body span us rest
        → ReadsCatches (roll-Catch (record { caught = what; block = body }) ∷ []) span (at (t.Word w.Catch) k ∷ at (t.Sign s.OpenParenthesis) open_ ∷ ts) rest
    more_catches : {what : Caught} {body : Block} {catch_ : Catch} {catches : List Catch} {span last : Span} {k open_ close : Token} {ts us vs rest : List Classified}
        → ReadsCaught what ts (at (t.Sign s.CloseParenthesis) close ∷ us) → ReadsBlock body span us vs → ReadsCatches (catch_ ∷ catches) last vs rest
        → ReadsCatches (roll-Catch (record { caught = what; block = body }) ∷ catch_ ∷ catches) last (at (t.Word w.Catch) k ∷ at (t.Sign s.OpenParenthesis) open_ ∷ ts) rest

  -- { label { label } { statement } }
  pub data ReadsSections : List Section → List Classified → List Classified → Type 0 where
    no_section : {rest : List Classified} → ReadsSections [] rest rest
    next_section : {labels : List Label} {statements : List Statement} {sections : List Section} {ts us vs rest : List Classified}
        → ReadsLabels labels ts us → ReadsStatements statements us vs → ReadsSections sections vs rest
        → ReadsSections (roll-Section (record { labels = labels; statements = statements }) ∷ sections) ts rest
