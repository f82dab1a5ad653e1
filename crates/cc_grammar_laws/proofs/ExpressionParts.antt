-- What the parts of expressions read.
use Rattle.std.proofs.Common.{◌≡◌, List, [], ◌∷◌, ◌++◌, ℕ, ◌≤◌, ◌<◌, ◌+◌}
use Rattle.std.specs.Prelude.{Some}
use Rattle.cc_base.specs.declared.text.Span.{Span}
use Rattle.cc_tree.specs.declared.token.Token.{Token}
use Rattle.cc_tree.specs.declared.token.TokenKind.{TokenKind}
use Rattle.cc_tree.specs.declared.identifier.Identifier.{Identifier}
use Rattle.cc_tree.specs.declared.terminal.Terminal.TheVariants as t
use Rattle.cc_tree.specs.declared.terminal.NameKind.TheVariants as n
use Rattle.cc_tree.specs.declared.terminal.ContextualWord.{ContextualWord}
use Rattle.cc_tree.specs.declared.terminal.ReservedWord.{ReservedWord}
use Rattle.cc_tree.specs.declared.terminal.ReservedWord.TheVariants as w
use Rattle.cc_tree.specs.declared.terminal.Sign.{Sign}
use Rattle.cc_tree.specs.declared.terminal.Sign.TheVariants as s
use Rattle.cc_tree.specs.declared.expression.Expression.{Expression}
use Rattle.cc_tree.specs.declared.expression.BinaryOperator.{BinaryOperator}
use Rattle.cc_tree.specs.Spans.{identifier}
use Rattle.cc_tree.specs.Terminals.{Classified, at}
use Rattle.cc_tree.specs.Operators.{ReadsOperator, level, selector}
use Rattle.cc_tree.specs.GrammarTypes.{ReadsPath, ReadsCore, ReadsNamed}
use Rattle.cc_tree.specs.GrammarExpressions.{ReadsStrings, ReadsExpression, ReadsExpressions, ReadsBinary, ReadsUnary, ReadsPostfix, ReadsPrimary, ReadsArguments}
use Rattle.cc_table.specs.declared.symbols.Sort.{Sort}
use Rattle.cc_table.specs.declared.symbols.Sort.TheVariants as o
use Rattle.cc_pushdown.specs.declared.value.Node.{Node}
use Rattle.cc_pushdown.specs.declared.value.Value.{Value}
use Rattle.cc_pushdown.specs.declared.value.Value.TheVariants as v
use Rattle.cc_pushdown.specs.Values.{below, nowhere, top, top_arguments, top_expression, top_mark, top_name, top_path, top_qualified, top_type_name}
use Rattle.cc_pushdown.specs.Words.{selector_of}
use Rattle.cc_grammar_laws.proofs.Stands.{StandsToken, StandsCore, StandsQualified}
use Rattle.cc_grammar_laws.proofs.StatementParts.{StatementPart}

-- some expressions, or none
pub data ListsExpressions : Node (List Expression) → List Classified → List Classified → Type 0 where
  nothing : {rest : List Classified} → ListsExpressions (record { tree = []; span = nowhere }) rest rest
  listed : {items : List Expression} {span : Span} {ts rest : List Classified} → ReadsExpressions items span ts rest → ListsExpressions (record { tree = items; span = span }) ts rest

abbrev pub expressed : Expression → Span → Value
expressed x span = v.Expression (record { tree = x; span = span })

abbrev pub sign_at : Sign → TokenKind → Span → Classified
sign_at sign kind span = at (t.Sign sign) (record { kind = kind; span = span })

abbrev pub word_at : ReservedWord → TokenKind → Span → Classified
word_at word kind span = at (t.Word word) (record { kind = kind; span = span })

-- No operator that is at least as tight as the level stands first.
abbrev pub Stops : ℕ → List Classified → Type 0
Stops n ts = (operator : BinaryOperator) (us : List Classified) → ReadsOperator operator ts us → level operator < n

-- The tokens `us` begin with this path, if the path goes on as `ts` do.
abbrev pub Continues : List Identifier → List Classified → List Classified → Type 0
Continues path us ts = (others : List Identifier) (end : List Classified) → ReadsPath others ts end → ReadsPath (path ++ others) us end

abbrev pub ExpressionPart : Sort → List Value → List Classified → (List Value → List Classified → Type 0) → Type 0
ExpressionPart o.Expression vs ts K = (x : Expression) × (span : Span) × (rest : List Classified) × ReadsExpression x span ts rest × K (v.Expression (record { tree = x; span = span }) ∷ vs) rest
ExpressionPart o.Unary vs ts K = (x : Expression) × (span : Span) × (rest : List Classified) × ReadsUnary x span ts rest × K (v.Expression (record { tree = x; span = span }) ∷ vs) rest
ExpressionPart o.Arguments (v.Expressions first ∷ vs) ts K = (list : Node (List Expression)) × (rest : List Classified) × (first ≡ record { tree = []; span = nowhere } → ListsExpressions list ts rest) × K (v.Expressions list ∷ vs) rest
ExpressionPart o.MoreExpressions (v.Expressions first ∷ vs) ts K = (list : Node (List Expression)) × (rest : List Classified)
    × ((us : List Classified) → ReadsExpressions first.tree first.span us ts → ReadsExpressions list.tree list.span us rest) × K (v.Expressions list ∷ vs) rest
-- What was read as a type or a name is put back, so that nothing is taken.
ExpressionPart o.TypeOrName vs ts K = K vs ts
ExpressionPart o.NameEnd vs ts K = (us : List Classified) → StandsQualified n.Plain (top vs) us ts → K (below vs) us
ExpressionPart o.FunctionNameEnd vs ts K = (us : List Classified) → StandsQualified n.Function (top vs) us ts → K (below vs) us
ExpressionPart o.PathRest vs ts K = (us : List Classified) → Continues (top_path vs) us ts → K (below vs) us
ExpressionPart o.CoreEnd vs ts K = (us : List Classified) → StandsCore (top vs) us ts → K (below vs) us
ExpressionPart o.GreaterEnd vs ts K = (k : Token) → k.span ≡ (top_mark vs).span → K (below vs) (at (t.Sign s.Greater) k ∷ ts)
ExpressionPart o.AfterUnary (v.Expression left ∷ vs) ts K = (x : Expression) × (span : Span) × (rest : List Classified)
    × ((us : List Classified) → ReadsUnary left.tree left.span us ts → ReadsExpression x span us rest) × K (expressed x span ∷ vs) rest
ExpressionPart o.ConditionalRest (v.Expression left ∷ vs) ts K = (x : Expression) × (span : Span) × (rest : List Classified)
    × ((us : List Classified) → ReadsBinary 1 left.tree left.span us ts → ReadsExpression x span us rest) × K (expressed x span ∷ vs) rest
-- The operand before is of any level that is at least as tight as the operator that follows it.
ExpressionPart (o.BinaryRest n) (v.Expression left ∷ vs) ts K = (x : Expression) × (span : Span) × (rest : List Classified)
    × ((us : List Classified) (m : ℕ) → n ≤ m → Stops (m + 1) ts → ReadsBinary m left.tree left.span us ts → ReadsBinary n x span us rest) × Stops n rest × K (expressed x span ∷ vs) rest
ExpressionPart o.Operand vs ts K = (x : Expression) × (span : Span) × (rest : List Classified) × ReadsPrimary x span ts rest × K (expressed x span ∷ vs) rest
ExpressionPart o.TypeOperandRest vs ts K = (x : Expression) × (span : Span) × (rest : List Classified)
    × ((us : List Classified) → ReadsCore (top_type_name vs).tree (top_type_name vs).span us ts → ReadsPrimary x span us rest) × K (expressed x span ∷ below vs) rest
ExpressionPart o.FunctionNameRest vs ts K = (x : Expression) × (span : Span) × (rest : List Classified)
    × ((us : List Classified) (word : ContextualWord) (k : Token) → identifier k ≡ (top_qualified vs).name → ReadsPath (top_qualified vs).path us (at (t.Name n.Function word) k ∷ ts) → ReadsPrimary x span us rest) × K (expressed x span ∷ below vs) rest
ExpressionPart o.AfterNameLess vs ts K = (first : List Classified) → StandsToken (t.Sign s.Less) (top vs) first ts → (x : Expression) × (span : Span) × (rest : List Classified)
    × ((us : List Classified) (word : ContextualWord) (k : Token) → identifier k ≡ (top_qualified (below vs)).name → ReadsPath (top_qualified (below vs)).path us (at (t.Name n.Function word) k ∷ first) → ReadsPrimary x span us rest) × K (expressed x span ∷ below (below vs)) rest
ExpressionPart o.NameTypes vs ts K = (first : List Classified) → StandsToken (t.Sign s.Less) (top vs) first ts → (x : Expression) × (span : Span) × (rest : List Classified)
    × ((us : List Classified) (word : ContextualWord) (k : Token) → identifier k ≡ (top_qualified (below vs)).name → ReadsPath (top_qualified (below vs)).path us (at (t.Name n.Function word) k ∷ first) → ReadsPrimary x span us rest) × K (expressed x span ∷ below (below vs)) rest
ExpressionPart o.StringsRest (v.Texts first ∷ vs) ts K = (list : Node (List (List ℕ))) × (rest : List Classified)
    × ((us : List Classified) → ReadsStrings first.tree first.span us ts → ReadsStrings list.tree list.span us rest) × K (v.Texts list ∷ vs) rest
ExpressionPart o.AfterParenthesis vs ts K = (x : Expression) × (span : Span) × (rest : List Classified)
    × ((kind : TokenKind) → ReadsUnary x span (sign_at s.OpenParenthesis kind (top_mark vs).span ∷ ts) rest) × K (expressed x span ∷ below vs) rest
ExpressionPart o.CastOrGroup vs ts K = (x : Expression) × (span : Span) × (rest : List Classified)
    × ((kind : TokenKind) → ReadsUnary x span (sign_at s.OpenParenthesis kind (top_mark vs).span ∷ ts) rest) × K (expressed x span ∷ below vs) rest
ExpressionPart o.SuffixRest (v.Expression left ∷ vs) ts K = (x : Expression) × (span : Span) × (rest : List Classified)
    × ((us : List Classified) → ReadsPostfix left.tree left.span us ts → ReadsPostfix x span us rest) × K (expressed x span ∷ vs) rest
ExpressionPart o.Selected vs ts K = (x : Expression) × (span : Span) × (rest : List Classified)
    × ((us : List Classified) (sign : Sign) (dot : Token) → selector sign ≡ Some (selector_of (top_mark vs).terminal)
    → ReadsPostfix (top_expression (below vs)).tree (top_expression (below vs)).span us (at (t.Sign sign) dot ∷ ts) → ReadsPostfix x span us rest) × K (expressed x span ∷ below (below vs)) rest
ExpressionPart o.FunctionMemberRest vs ts K = (x : Expression) × (span : Span) × (rest : List Classified)
    × ((us : List Classified) (sign : Sign) (dot : Token) (word : ContextualWord) (k : Token) → selector sign ≡ Some (selector_of (top_mark (below vs)).terminal) → identifier k ≡ (top_name vs).identifier
    → ReadsPostfix (top_expression (below (below vs))).tree (top_expression (below (below vs))).span us (at (t.Sign sign) dot ∷ at (t.Name n.Function word) k ∷ ts) → ReadsPostfix x span us rest) × K (expressed x span ∷ below (below (below vs))) rest
ExpressionPart o.AfterMemberLess vs ts K = (first : List Classified) → StandsToken (t.Sign s.Less) (top vs) first ts → (x : Expression) × (span : Span) × (rest : List Classified)
    × ((us : List Classified) (sign : Sign) (dot : Token) (word : ContextualWord) (k : Token) → selector sign ≡ Some (selector_of (top_mark (below (below vs))).terminal) → identifier k ≡ (top_name (below vs)).identifier
    → ReadsPostfix (top_expression (below (below (below vs)))).tree (top_expression (below (below (below vs)))).span us (at (t.Sign sign) dot ∷ at (t.Name n.Function word) k ∷ first) → ReadsPostfix x span us rest) × K (expressed x span ∷ below (below (below (below vs)))) rest
ExpressionPart o.MemberTypes vs ts K = (first : List Classified) → StandsToken (t.Sign s.Less) (top vs) first ts → (x : Expression) × (span : Span) × (rest : List Classified)
    × ((us : List Classified) (sign : Sign) (dot : Token) (word : ContextualWord) (k : Token) → selector sign ≡ Some (selector_of (top_mark (below (below vs))).terminal) → identifier k ≡ (top_name (below vs)).identifier
    → ReadsPostfix (top_expression (below (below (below vs)))).tree (top_expression (below (below (below vs)))).span us (at (t.Sign sign) dot ∷ at (t.Name n.Function word) k ∷ first) → ReadsPostfix x span us rest) × K (expressed x span ∷ below (below (below (below vs)))) rest
ExpressionPart o.NewName vs ts K = (x : Expression) × (span : Span) × (rest : List Classified)
    × ((kind : TokenKind) → ReadsPrimary x span (word_at w.Gcnew kind (top_mark vs).span ∷ ts) rest) × K (expressed x span ∷ below vs) rest
ExpressionPart o.NewPath vs ts K = (x : Expression) × (span : Span) × (rest : List Classified)
    × ((us : List Classified) (kind : TokenKind) → Continues (top_path vs) us ts → ReadsPrimary x span (word_at w.Gcnew kind (top_mark (below vs)).span ∷ us) rest) × K (expressed x span ∷ below (below vs)) rest
ExpressionPart o.NewTypeRest vs ts K = (x : Expression) × (span : Span) × (rest : List Classified)
    × ((us : List Classified) (kind : TokenKind) (word : ContextualWord) (k : Token) → identifier k ≡ (top_qualified vs).name → ReadsPath (top_qualified vs).path us (at (t.Name n.Type word) k ∷ ts)
    → ReadsPrimary x span (word_at w.Gcnew kind (top_mark (below vs)).span ∷ us) rest) × K (expressed x span ∷ below (below vs)) rest
ExpressionPart o.AfterNewLess vs ts K = (first : List Classified) → StandsToken (t.Sign s.Less) (top vs) first ts → (x : Expression) × (span : Span) × (rest : List Classified)
    × ((us : List Classified) (kind : TokenKind) (word : ContextualWord) (k : Token) → identifier k ≡ (top_qualified (below vs)).name → ReadsPath (top_qualified (below vs)).path us (at (t.Name n.Type word) k ∷ first)
    → ReadsPrimary x span (word_at w.Gcnew kind (top_mark (below (below vs))).span ∷ us) rest) × K (expressed x span ∷ below (below (below vs))) rest
ExpressionPart o.NewTypes vs ts K = (first : List Classified) → StandsToken (t.Sign s.Less) (top vs) first ts → (x : Expression) × (span : Span) × (rest : List Classified)
    × ((us : List Classified) (kind : TokenKind) (word : ContextualWord) (k : Token) → identifier k ≡ (top_qualified (below vs)).name → ReadsPath (top_qualified (below vs)).path us (at (t.Name n.Type word) k ∷ first)
    → ReadsPrimary x span (word_at w.Gcnew kind (top_mark (below (below vs))).span ∷ us) rest) × K (expressed x span ∷ below (below (below vs))) rest
ExpressionPart o.NewArguments vs ts K = (x : Expression) × (span : Span) × (rest : List Classified)
    × ((us : List Classified) (kind : TokenKind) → ReadsNamed (top_type_name vs).tree (top_type_name vs).span us ts → ReadsPrimary x span (word_at w.Gcnew kind (top_mark (below vs)).span ∷ us) rest) × K (expressed x span ∷ below (below vs)) rest
ExpressionPart o.NewElements vs ts K = (x : Expression) × (span : Span) × (rest : List Classified)
    × ((us ws : List Classified) (kind closing : TokenKind) (open_ : Token) → ReadsNamed (top_type_name (below (below vs))).tree (top_type_name (below (below vs))).span us (at (t.Sign s.OpenParenthesis) open_ ∷ ws)
    → ReadsArguments open_.span (top_arguments (below vs)) ws (sign_at s.CloseParenthesis closing (top_mark vs).span ∷ ts)
    → ReadsPrimary x span (word_at w.Gcnew kind (top_mark (below (below (below vs)))).span ∷ us) rest) × K (expressed x span ∷ below (below (below (below vs)))) rest
ExpressionPart sort vs ts K = StatementPart sort vs ts K
