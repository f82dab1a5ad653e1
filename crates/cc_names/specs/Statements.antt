-- What statements declare (ECMA-372, 16): the scope of each block, of each other substatement, of each section of a switch and of each `for` and `for each` statement as a whole, and the variables.
use Rattle.std.specs.Prelude.{ℕ, List, [], ◌∷◌, ◌++◌, map, Option, Some, None, Bool, true, false, cond}
use Rattle.cc_base.specs.declared.text.Span.{Span}
use Rattle.cc_tree.specs.Spans.{across}
use Rattle.cc_tree.specs.declared.identifier.Identifier.{Identifier}
use Rattle.cc_tree.specs.declared.statement.Statement.{Statement, Statement-F, fold-Statement}
use Rattle.cc_tree.specs.declared.statement.Statement.TheOpen as s
use Rattle.cc_tree.specs.declared.statement.Block.{Block, fold-Block}
use Rattle.cc_tree.specs.declared.statement.Catch.{Catch, fold-Catch}
use Rattle.cc_tree.specs.declared.statement.Section.{Section, fold-Section}
use Rattle.cc_tree.specs.declared.statement.Caught.{Caught}
use Rattle.cc_tree.specs.declared.statement.Caught.TheVariants as caught
use Rattle.cc_tree.specs.declared.statement.Label.{Label}
use Rattle.cc_tree.specs.declared.statement.Label.TheVariants as label
use Rattle.cc_tree.specs.declared.statement.ForStart.{ForStart}
use Rattle.cc_tree.specs.declared.statement.ForStart.TheVariants as start
use Rattle.cc_tree.specs.declared.statement.Local.{Local}
use Rattle.cc_tree.specs.declared.statement.Declarator.{Declarator}
use Rattle.cc_names.specs.declared.scope.ItemKind.TheVariants as kind
use Rattle.cc_names.specs.declared.scope.ScopeKind.TheVariants as scope
use Rattle.cc_names.specs.Parts.{Declares, nothing, named, both, inside, in_order}

-- What is told of a statement to the statement that it is a part of.
pub record Piece : Type 0 where
  -- whether it is a scope by itself, as a block is
  pub is_scope : Bool
  pub span : Span
  pub declares : Declares

-- What is told of a block: the statements in it, without the scope that it is.
pub record Braces : Type 0 where
  pub span : Span
  pub statements : Declares

abbrev pub variable : Identifier → Declares
variable identifier = named kind.Variable identifier.name identifier.span

abbrev pub local_declares : Local → Declares
local_declares local = in_order (map (λ one. variable one.name) local.declarators)

abbrev pub start_declares : ForStart → Declares
start_declares start.Nothing = nothing
start_declares (start.Local local) = local_declares local
start_declares (start.Expression x) = nothing

abbrev pub caught_declares : Caught → Declares
caught_declares caught.All = nothing
caught_declares (caught.Typed of None) = nothing
caught_declares (caught.Typed of (Some name)) = variable name

abbrev pub block_declares : Braces → Declares
block_declares block = inside scope.Local block.span block.statements

-- a statement that is a part of another one, as the body of a loop is
abbrev pub substatement_declares : Piece → Declares
substatement_declares piece = cond piece.is_scope piece.declares (inside scope.Local piece.span piece.declares)

abbrev pub optional : {A : Type 0} → (A → Declares) → Option A → Declares
optional declares None = nothing
optional declares (Some x) = declares x

abbrev pub label_span : Label → Span
label_span (label.Case x span) = span
label_span (label.Default span) = span

-- the last of some spans
abbrev pub last_of : Span → List Span → Span
last_of span [] = span
last_of span (next ∷ spans) = last_of next spans

-- from the first label of a section to its last statement, or to its last label where it has no statements
abbrev pub section_span : List Span → List Span → Span
section_span [] statements = record { first = 0; past = 0 }
section_span (first ∷ labels) statements = across first (last_of (last_of first labels) statements)

-- a statement that is no scope
abbrev pub plain : Span → Declares → Piece
plain span part = record { is_scope = false; span = span; declares = part }

abbrev pub whole : Span → Declares → Piece
whole span part = record { is_scope = true; span = span; declares = inside scope.Local span part }

abbrev pub row_declares : List Piece → Declares
row_declares pieces = in_order (map (λ piece. piece.declares) pieces)

abbrev pub statement_layer : Statement-F Piece Braces Declares Declares → Piece
statement_layer (s.Block block) = whole block.span block.statements
statement_layer (s.Empty span) = plain span nothing
statement_layer (s.Local local span) = plain span (local_declares local)
statement_layer (s.Expression x span) = plain span nothing
statement_layer (s.Delete x span) = plain span nothing
statement_layer (s.If x first second span) = plain span (both (substatement_declares first) (optional substatement_declares second))
statement_layer (s.While x body span) = plain span (substatement_declares body)
statement_layer (s.Do body x span) = plain span (substatement_declares body)
statement_layer (s.For start condition advance body span) = whole span (both (start_declares start) (substatement_declares body))
statement_layer (s.ForEach of name x body span) = whole span (both (variable name) (substatement_declares body))
statement_layer (s.Switch x sections span) = plain span (in_order sections)
statement_layer (s.Break span) = plain span nothing
statement_layer (s.Continue span) = plain span nothing
statement_layer (s.Return x span) = plain span nothing
statement_layer (s.Throw x span) = plain span nothing
statement_layer (s.Try body catches at_last span) = plain span (both (block_declares body) (both (in_order catches) (optional block_declares at_last)))

abbrev pub block_layer : s.Block-F Piece Braces Declares Declares → Braces
block_layer layer = record { span = layer.span; statements = row_declares layer.statements }

-- the variable of a catch belongs to the scope of its block
abbrev pub catch_layer : s.Catch-F Piece Braces Declares Declares → Declares
catch_layer layer = inside scope.Local layer.block.span (both (caught_declares layer.caught) layer.block.statements)

abbrev pub section_layer : s.Section-F Piece Braces Declares Declares → Declares
section_layer layer =
    inside scope.Local (section_span (map label_span layer.labels) (map (λ piece. piece.span) layer.statements))
    (row_declares layer.statements)

abbrev pub piece : Statement → Piece
piece = fold-Statement Piece Braces Declares Declares statement_layer block_layer catch_layer section_layer

abbrev pub braces : Block → Braces
braces = fold-Block Piece Braces Declares Declares statement_layer block_layer catch_layer section_layer

abbrev pub catch_declares : Catch → Declares
catch_declares = fold-Catch Piece Braces Declares Declares statement_layer block_layer catch_layer section_layer

abbrev pub section_declares : Section → Declares
section_declares = fold-Section Piece Braces Declares Declares statement_layer block_layer catch_layer section_layer

abbrev pub statement_declares : Statement → Declares
statement_declares statement = (piece statement).declares

abbrev pub body_declares : Block → Declares
body_declares block = block_declares (braces block)
