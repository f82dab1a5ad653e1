-- What is told of a statement, by its form.
use Rattle.std.proofs.Common.{◌≡◌, ℕ, refl, sym, ap, ◌∙◌, List, [], ◌∷◌, map, Option, Some, None, Bool}
use Rattle.cc_base.specs.declared.text.Span.{Span}
use Rattle.cc_tree.specs.declared.identifier.Identifier.{Identifier}
use Rattle.cc_tree.specs.declared.expression.Expression.{Expression}
use Rattle.cc_tree.specs.declared.type_name.TypeName.{TypeName}
use Rattle.cc_tree.specs.declared.statement.Statement.{Statement, fold-roll-Statement}
use Rattle.cc_tree.specs.declared.statement.Statement.TheVariants as sv
use Rattle.cc_tree.specs.declared.statement.Statement.TheOpen as so
use Rattle.cc_tree.specs.declared.statement.Block.{Block, out-Block, fold_out-Block}
use Rattle.cc_tree.specs.declared.statement.Catch.{Catch, out-Catch, fold_out-Catch}
use Rattle.cc_tree.specs.declared.statement.Section.{Section, out-Section, fold_out-Section}
use Rattle.cc_tree.specs.declared.statement.Local.{Local}
use Rattle.cc_tree.specs.declared.statement.ForStart.{ForStart}
use Rattle.cc_names.specs.declared.scope.ScopeKind.TheVariants as scope
use Rattle.cc_names.specs.Parts.{Declares, nothing, both, inside, in_order}
use Rattle.cc_names.specs.Statements.{Piece, Braces, plain, whole, variable, local_declares, start_declares, caught_declares, block_declares, substatement_declares, row_declares, label_span, section_span, statement_layer, block_layer, catch_layer, section_layer, piece, braces, statement_declares, catch_declares, section_declares}

pub block_piece : (block : Block) → piece (sv.Block block) ≡ whole (braces block).span (braces block).statements
block_piece block = ap piece (sym (sv.rolls-Block block)) ∙ fold-roll-Statement Piece Braces Declares Declares statement_layer block_layer catch_layer section_layer (so.Block block)

pub empty_piece : (span : Span) → piece (sv.Empty span) ≡ plain span nothing
empty_piece span = ap piece (sym (sv.rolls-Empty span)) ∙ fold-roll-Statement Piece Braces Declares Declares statement_layer block_layer catch_layer section_layer (so.Empty span)

pub local_piece : (local : Local) (span : Span) → piece (sv.Local local span) ≡ plain span (local_declares local)
local_piece local span = ap piece (sym (sv.rolls-Local local span)) ∙ fold-roll-Statement Piece Braces Declares Declares statement_layer block_layer catch_layer section_layer (so.Local local span)

pub expression_piece : (x : Expression) (span : Span) → piece (sv.Expression x span) ≡ plain span nothing
expression_piece x span = ap piece (sym (sv.rolls-Expression x span)) ∙ fold-roll-Statement Piece Braces Declares Declares statement_layer block_layer catch_layer section_layer (so.Expression x span)

pub delete_piece : (x : Expression) (span : Span) → piece (sv.Delete x span) ≡ plain span nothing
delete_piece x span = ap piece (sym (sv.rolls-Delete x span)) ∙ fold-roll-Statement Piece Braces Declares Declares statement_layer block_layer catch_layer section_layer (so.Delete x span)

pub if_alone_piece : (x : Expression) (first : Statement) (span : Span) → piece (sv.If x first None span) ≡ plain span (both (substatement_declares (piece first)) nothing)
if_alone_piece x first span = ap piece (sym (sv.rolls-If x first None span)) ∙ fold-roll-Statement Piece Braces Declares Declares statement_layer block_layer catch_layer section_layer (so.If x first None span)

pub if_else_piece : (x : Expression) (first : Statement) (second : Statement) (span : Span) → piece (sv.If x first (Some second) span) ≡ plain span (both (substatement_declares (piece first)) (substatement_declares (piece second)))
if_else_piece x first second span = ap piece (sym (sv.rolls-If x first (Some second) span)) ∙ fold-roll-Statement Piece Braces Declares Declares statement_layer block_layer catch_layer section_layer (so.If x first (Some second) span)

pub while_piece : (x : Expression) (body : Statement) (span : Span) → piece (sv.While x body span) ≡ plain span (substatement_declares (piece body))
while_piece x body span = ap piece (sym (sv.rolls-While x body span)) ∙ fold-roll-Statement Piece Braces Declares Declares statement_layer block_layer catch_layer section_layer (so.While x body span)

pub do_piece : (body : Statement) (x : Expression) (span : Span) → piece (sv.Do body x span) ≡ plain span (substatement_declares (piece body))
do_piece body x span = ap piece (sym (sv.rolls-Do body x span)) ∙ fold-roll-Statement Piece Braces Declares Declares statement_layer block_layer catch_layer section_layer (so.Do body x span)

pub for_piece : (start : ForStart) (condition : Option Expression) (advance : Option Expression) (body : Statement) (span : Span) → piece (sv.For start condition advance body span) ≡ whole span (both (start_declares start) (substatement_declares (piece body)))
for_piece start condition advance body span = ap piece (sym (sv.rolls-For start condition advance body span)) ∙ fold-roll-Statement Piece Braces Declares Declares statement_layer block_layer catch_layer section_layer (so.For start condition advance body span)

pub for_each_piece : (of : TypeName) (name : Identifier) (x : Expression) (body : Statement) (span : Span) → piece (sv.ForEach of name x body span) ≡ whole span (both (variable name) (substatement_declares (piece body)))
for_each_piece of name x body span = ap piece (sym (sv.rolls-ForEach of name x body span)) ∙ fold-roll-Statement Piece Braces Declares Declares statement_layer block_layer catch_layer section_layer (so.ForEach of name x body span)

pub switch_piece : (x : Expression) (sections : List Section) (span : Span) → piece (sv.Switch x sections span) ≡ plain span (in_order (map section_declares sections))
switch_piece x sections span = ap piece (sym (sv.rolls-Switch x sections span)) ∙ fold-roll-Statement Piece Braces Declares Declares statement_layer block_layer catch_layer section_layer (so.Switch x sections span)

pub break_piece : (span : Span) → piece (sv.Break span) ≡ plain span nothing
break_piece span = ap piece (sym (sv.rolls-Break span)) ∙ fold-roll-Statement Piece Braces Declares Declares statement_layer block_layer catch_layer section_layer (so.Break span)

pub continue_piece : (span : Span) → piece (sv.Continue span) ≡ plain span nothing
continue_piece span = ap piece (sym (sv.rolls-Continue span)) ∙ fold-roll-Statement Piece Braces Declares Declares statement_layer block_layer catch_layer section_layer (so.Continue span)

pub return_piece : (x : Option Expression) (span : Span) → piece (sv.Return x span) ≡ plain span nothing
return_piece x span = ap piece (sym (sv.rolls-Return x span)) ∙ fold-roll-Statement Piece Braces Declares Declares statement_layer block_layer catch_layer section_layer (so.Return x span)

pub throw_piece : (x : Option Expression) (span : Span) → piece (sv.Throw x span) ≡ plain span nothing
throw_piece x span = ap piece (sym (sv.rolls-Throw x span)) ∙ fold-roll-Statement Piece Braces Declares Declares statement_layer block_layer catch_layer section_layer (so.Throw x span)

pub try_alone_piece : (body : Block) (catches : List Catch) (span : Span) → piece (sv.Try body catches None span) ≡ plain span (both (block_declares (braces body)) (both (in_order (map catch_declares catches)) nothing))
try_alone_piece body catches span = ap piece (sym (sv.rolls-Try body catches None span)) ∙ fold-roll-Statement Piece Braces Declares Declares statement_layer block_layer catch_layer section_layer (so.Try body catches None span)

pub try_finally_piece : (body : Block) (catches : List Catch) (last : Block) (span : Span) → piece (sv.Try body catches (Some last) span) ≡ plain span (both (block_declares (braces body)) (both (in_order (map catch_declares catches)) (block_declares (braces last))))
try_finally_piece body catches last span = ap piece (sym (sv.rolls-Try body catches (Some last) span)) ∙ fold-roll-Statement Piece Braces Declares Declares statement_layer block_layer catch_layer section_layer (so.Try body catches (Some last) span)

rows : (statements : List Statement) → row_declares (map piece statements) ≡ in_order (map statement_declares statements)
rows [] = refl
rows (one ∷ statements) = ap (λ more. both (piece one).declares more) (rows statements)

pub block_braces : (block : Block) → braces block ≡ record { span = (out-Block block).span; statements = in_order (map statement_declares (out-Block block).statements) }
block_braces block =
    fold_out-Block Piece Braces Declares Declares statement_layer block_layer catch_layer section_layer block
    ∙ ap (λ all. record { span = (out-Block block).span; statements = all }) (rows (out-Block block).statements)

pub catch_opened : (one : Catch) → catch_declares one ≡ inside scope.Local (out-Block (out-Catch one).block).span (both (caught_declares (out-Catch one).caught) (in_order (map statement_declares (out-Block (out-Catch one).block).statements)))
catch_opened one =
    fold_out-Catch Piece Braces Declares Declares statement_layer block_layer catch_layer section_layer one
    ∙ ap (λ block. inside scope.Local block.span (both (caught_declares (out-Catch one).caught) block.statements)) (block_braces (out-Catch one).block)

pub section_opened : (one : Section) → section_declares one ≡ inside scope.Local (section_span (map label_span (out-Section one).labels) (map (λ piece. piece.span) (map piece (out-Section one).statements))) (in_order (map statement_declares (out-Section one).statements))
section_opened one =
    fold_out-Section Piece Braces Declares Declares statement_layer block_layer catch_layer section_layer one
    ∙ ap (λ all. inside scope.Local (section_span (map label_span (out-Section one).labels) (map (λ piece. piece.span) (map piece (out-Section one).statements))) all) (rows (out-Section one).statements)

pub ruleset pieces = (block_piece, empty_piece, local_piece, expression_piece, delete_piece, if_alone_piece, if_else_piece, while_piece, do_piece, for_piece, for_each_piece, switch_piece, break_piece, continue_piece, return_piece, throw_piece, try_alone_piece, try_finally_piece, block_braces, catch_opened, section_opened)
