-- What the parts of statements read.
use Rattle.std.proofs.Common.{◌≡◌, List, [], ◌∷◌, ◌++◌}
use Rattle.std.specs.Prelude.{Option}
use Rattle.cc_base.specs.declared.text.Span.{Span}
use Rattle.cc_tree.specs.declared.token.Token.{Token}
use Rattle.cc_tree.specs.declared.token.TokenKind.{TokenKind}
use Rattle.cc_tree.specs.declared.terminal.Terminal.{Terminal}
use Rattle.cc_tree.specs.declared.terminal.Terminal.TheVariants as t
use Rattle.cc_tree.specs.declared.terminal.ReservedWord.{ReservedWord}
use Rattle.cc_tree.specs.declared.terminal.ReservedWord.TheVariants as w
use Rattle.cc_tree.specs.declared.terminal.Sign.TheVariants as s
use Rattle.cc_tree.specs.declared.expression.Expression.{Expression}
use Rattle.cc_tree.specs.declared.statement.Block.{Block}
use Rattle.cc_tree.specs.declared.statement.Catch.{Catch}
use Rattle.cc_tree.specs.declared.statement.Caught.{Caught}
use Rattle.cc_tree.specs.declared.statement.Declarator.{Declarator}
use Rattle.cc_tree.specs.declared.statement.ForStart.{ForStart}
use Rattle.cc_tree.specs.declared.statement.Label.{Label}
use Rattle.cc_tree.specs.declared.statement.Section.{Section}
use Rattle.cc_tree.specs.declared.statement.Statement.{Statement}
use Rattle.cc_tree.specs.Spans.{identifier}
use Rattle.cc_tree.specs.Terminals.{Classified, at, Id}
use Rattle.cc_tree.specs.GrammarTypes.{ReadsType}
use Rattle.cc_tree.specs.GrammarExpressions.{ReadsExpression}
use Rattle.cc_tree.specs.GrammarStatements.{ReadsBlock, ReadsStatement, ReadsStatements, ReadsForStart, ReadsOptional, ReadsSections, ReadsLabel, ReadsLabels, ReadsCatches, ReadsCaught, ReadsDeclarator, ReadsDeclarators}
use Rattle.cc_table.specs.declared.symbols.Sort.{Sort}
use Rattle.cc_table.specs.declared.symbols.Sort.TheVariants as o
use Rattle.cc_pushdown.specs.declared.value.Value.{Value}
use Rattle.cc_pushdown.specs.declared.value.Value.TheVariants as v
use Rattle.cc_pushdown.specs.Values.{below, top_mark, top_name, top_type_name, top_expression, top_statement, top_block, top_catches}
use Rattle.cc_grammar_laws.proofs.MemberParts.{MemberPart}

-- the token of a word that begins a statement, with the span of its mark
abbrev pub first_word : ReservedWord → TokenKind → Span → Classified
first_word word kind span = at (t.Word word) (record { kind = kind; span = span })

abbrev pub SomeCatch : List Catch → Type 0
SomeCatch [] = ⊥
SomeCatch (one ∷ others) = Unit {0}

abbrev pub StatementPart : Sort → List Value → List Classified → (List Value → List Classified → Type 0) → Type 0
StatementPart o.Block vs ts K = (body : Block) × (span : Span) × (rest : List Classified) × ReadsBlock body span ts rest × K (v.Block (record { tree = body; span = span }) ∷ vs) rest
StatementPart o.Statement vs ts K = (one : Statement) × (span : Span) × (rest : List Classified) × ReadsStatement one span ts rest × K (v.Statement (record { tree = one; span = span }) ∷ vs) rest
StatementPart o.LocalOrExpression vs ts K = (one : Statement) × (span : Span) × (rest : List Classified) × ReadsStatement one span ts rest × K (v.Statement (record { tree = one; span = span }) ∷ vs) rest
StatementPart o.Statements (v.Statements first ∷ vs) ts K = (items : List Statement) × (rest : List Classified) × ReadsStatements items ts rest × K (v.Statements (first ++ items) ∷ vs) rest
StatementPart o.SectionStatements (v.Statements first ∷ vs) ts K = (items : List Statement) × (rest : List Classified) × ReadsStatements items ts rest × K (v.Statements (first ++ items) ∷ vs) rest
StatementPart o.ElseRest vs ts K = (one : Statement) × (span : Span) × (rest : List Classified)
    × ((kind : TokenKind) (open_ close : Token) (condition : Span) (us ws : List Classified)
    → ReadsExpression (top_expression (below vs)).tree condition us (at (t.Sign s.CloseParenthesis) close ∷ ws) → ReadsStatement (top_statement vs).tree (top_statement vs).span ws ts
    → ReadsStatement one span (first_word w.If kind (top_mark (below (below vs))).span ∷ at (t.Sign s.OpenParenthesis) open_ ∷ us) rest)
    × K (v.Statement (record { tree = one; span = span }) ∷ below (below (below vs))) rest
StatementPart o.ForRest vs ts K = (one : Statement) × (span : Span) × (rest : List Classified)
    × ((kind : TokenKind) → ReadsStatement one span (first_word w.For kind (top_mark vs).span ∷ ts) rest) × K (v.Statement (record { tree = one; span = span }) ∷ below vs) rest
StatementPart o.ForStart vs ts K = (one : ForStart) × (rest : List Classified) × ReadsForStart one ts rest × K (v.ForStart one ∷ vs) rest
StatementPart o.LocalOrExpressionStart vs ts K = (one : ForStart) × (rest : List Classified) × ReadsForStart one ts rest × K (v.ForStart one ∷ vs) rest
StatementPart o.OptionalExpression vs ts K = (x : Option Expression) × (k : Token) × (rest : List Classified) × ReadsOptional s.Semicolon x k ts rest × K (v.Optional (record { tree = x; span = k.span }) ∷ vs) rest
StatementPart o.ForAdvance vs ts K = (x : Option Expression) × (k : Token) × (rest : List Classified) × ReadsOptional s.CloseParenthesis x k ts rest × K (v.Optional (record { tree = x; span = k.span }) ∷ vs) rest
StatementPart o.Sections (v.Sections first ∷ vs) ts K = (items : List Section) × (rest : List Classified) × ReadsSections items ts rest × K (v.Sections (first ++ items) ∷ vs) rest
StatementPart o.Label vs ts K = (one : Label) × (rest : List Classified) × ReadsLabel one ts rest × K (v.Label one ∷ vs) rest
StatementPart o.MoreLabels (v.Labels first ∷ vs) ts K = (items : List Label) × (rest : List Classified)
    × ((one : Label) (us : List Classified) → ReadsLabel one us ts → ReadsLabels (one ∷ items) us rest) × K (v.Labels (first ++ items) ∷ vs) rest
StatementPart o.TryRest vs ts K = (one : Statement) × (span : Span) × (rest : List Classified)
    × ((kind : TokenKind) (us ws : List Classified) → ReadsBlock (top_block (below vs)).tree (top_block (below vs)).span us ws → ReadsCatches (top_catches vs).tree (top_catches vs).span ws ts
    → ReadsStatement one span (first_word w.Try kind (top_mark (below (below vs))).span ∷ us) rest)
    × K (v.Statement (record { tree = one; span = span }) ∷ below (below (below vs))) rest
StatementPart o.MoreCatches vs ts K = (one : Statement) × (span : Span) × (rest : List Classified)
    × ((kind : TokenKind) (us ws : List Classified) → ReadsBlock (top_block (below vs)).tree (top_block (below vs)).span us ws → SomeCatch (top_catches vs).tree → ReadsCatches (top_catches vs).tree (top_catches vs).span ws ts
    → ReadsStatement one span (first_word w.Try kind (top_mark (below (below vs))).span ∷ us) rest)
    × K (v.Statement (record { tree = one; span = span }) ∷ below (below (below vs))) rest
StatementPart o.Catch vs ts K = (one : Catch) × (span : Span) × (rest : List Classified) × ReadsCatches (one ∷ []) span ts rest
    × K (v.Catches (record { tree = (top_catches vs).tree ++ one ∷ []; span = span }) ∷ below vs) rest
StatementPart o.Caught vs ts K = (one : Caught) × (rest : List Classified) × ReadsCaught one ts rest × K (v.Caught one ∷ vs) rest
StatementPart o.CaughtName vs ts K = (one : Caught) × (rest : List Classified)
    × ((us : List Classified) → ReadsType (top_type_name vs).tree (top_type_name vs).span us ts → ReadsCaught one us rest) × K (v.Caught one ∷ below vs) rest
StatementPart o.Declarator vs ts K = (one : Declarator) × (rest : List Classified) × ReadsDeclarator one ts rest × K (v.Declarator one ∷ vs) rest
StatementPart o.DeclaratorRest vs ts K = (one : Declarator) × (rest : List Classified)
    × ((id : Terminal) (k : Token) → Id id → identifier k ≡ (top_name vs).identifier → ReadsDeclarator one (at id k ∷ ts) rest) × K (v.Declarator one ∷ below vs) rest
StatementPart o.DeclaratorValue vs ts K = (one : Declarator) × (rest : List Classified)
    × ((id : Terminal) (k equals : Token) → Id id → identifier k ≡ (top_name vs).identifier → ReadsDeclarator one (at id k ∷ at (t.Sign s.Assign) equals ∷ ts) rest) × K (v.Declarator one ∷ below vs) rest
StatementPart o.MoreDeclarators (v.Declarators first ∷ vs) ts K = (items : List Declarator) × (span : Span) × (rest : List Classified)
    × ((one : Declarator) (us : List Classified) → one.span ≡ first.span → ReadsDeclarator one us ts → ReadsDeclarators (one ∷ items) span us rest)
    × K (v.Declarators (record { tree = first.tree ++ items; span = span }) ∷ vs) rest
StatementPart sort vs ts K = MemberPart sort vs ts K
