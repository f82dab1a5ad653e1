-- What each form of statement adds to the statements of its scope.
use Rattle.std.proofs.Common.{◌≡◌, sym, ap, ◌∙◌, List, [], ◌∷◌, map, Option, None, Some, option_map, Ok}
use Rattle.cc_base.specs.declared.text.Span.{Span}
use Rattle.cc_tree.specs.declared.expression.Expression.{Expression}
use Rattle.cc_tree.specs.declared.identifier.Identifier.{Identifier}
use Rattle.cc_tree.specs.declared.statement.Block.{Block, out-Block, fold_out-Block}
use Rattle.cc_tree.specs.declared.statement.Catch.{Catch, fold-Catch}
use Rattle.cc_tree.specs.declared.statement.ForStart.{ForStart}
use Rattle.cc_tree.specs.declared.statement.Label.{Label}
use Rattle.cc_tree.specs.declared.statement.Local.{Local}
use Rattle.cc_tree.specs.declared.statement.Section.{Section, out-Section, fold_out-Section}
use Rattle.cc_tree.specs.declared.statement.Statement.{Statement, Statement-F, roll-Statement, map-Statement, fold-roll-Statement}
use Rattle.cc_tree.specs.declared.statement.Statement.TheOpen as o
use Rattle.cc_tree.specs.declared.statement.Statement.TheVariants as v
use Rattle.cc_tree.specs.declared.type_name.TypeName.{TypeName}
use Rattle.cc_core.specs.Step as step
use Rattle.cc_operations.specs.declared.source.Frame.{Frame}
use Rattle.cc_operations.specs.declared.source.Source.{Source}
use Rattle.cc_operations.specs.Choosing.{Pick}
use Rattle.cc_operations.specs.Judgements.{next}
use Rattle.cc_operations.specs.Operations.{no_conversion}
use Rattle.cc_terms.specs.Resolving.{Finds}
use Rattle.cc_statements.specs.declared.stand.Stand.{Stand}
use Rattle.cc_statements.specs.Steps.{Part, Branch, at, scope, in_row, local, done_alone, leaves, returned, statement_layer, block_layer, catch_layer, section_layer, statement_part, block_part, branch_of, conditional, while_loop, do_loop, for_loop, switch}

module _ (pick : Pick) (finds : Finds) (source : Source) where
  abbrev part : Statement → Part
  part = statement_part pick finds source

  abbrev block : Block → Part
  block = block_part pick finds source

  abbrev branch : Section → Branch
  branch = branch_of pick finds source

  abbrev caught : Catch → Part
  caught = fold-Catch Part Part Part Branch (statement_layer pick finds source) (block_layer pick finds source) (catch_layer pick finds source) (section_layer pick finds source)

  rolled : (x : Statement) (l : Statement-F Statement Block Catch Section) → x ≡ roll-Statement l → part x ≡ statement_layer pick finds source (map-Statement Statement Block Catch Section Part Part Part Branch part block caught branch l)
  rolled x l is = ap part is ∙ fold-roll-Statement Part Part Part Branch (statement_layer pick finds source) (block_layer pick finds source) (catch_layer pick finds source) (section_layer pick finds source) l

  pub of_block : (x : Statement) (one : Block) → x ≡ v.Block one → part x ≡ (λ stand frame. next (scope (block one) stand frame) (λ made. Ok (made.0 ∷ [], made.1)))
  of_block x one is = rolled x (o.Block one) (is ∙ sym (v.rolls-Block one))

  pub of_empty : (x : Statement) (span : Span) → x ≡ v.Empty span → part x ≡ (λ stand frame. Ok (step.Block step.no_steps ∷ [], frame))
  of_empty x span is = rolled x (o.Empty span) (is ∙ sym (v.rolls-Empty span))

  pub of_local : (x : Statement) (one : Local) (span : Span) → x ≡ v.Local one span → part x ≡ local pick finds source one span
  of_local x one span is = rolled x (o.Local one span) (is ∙ sym (v.rolls-Local one span))

  pub of_expression : (x : Statement) (alone : Expression) (span : Span) → x ≡ v.Expression alone span → part x ≡ (λ stand frame. at (done_alone pick finds source alone frame) frame)
  of_expression x alone span is = rolled x (o.Expression alone span) (is ∙ sym (v.rolls-Expression alone span))

  pub of_delete : (x : Statement) (operand : Expression) (span : Span) → x ≡ v.Delete operand span → part x ≡ (λ stand frame. no_conversion span)
  of_delete x operand span is = rolled x (o.Delete operand span) (is ∙ sym (v.rolls-Delete operand span))

  pub of_if : (x : Statement) (condition : Expression) (first : Statement) (second : Option Statement) (span : Span) → x ≡ v.If condition first second span
      → part x ≡ conditional pick finds source condition (part first) (option_map part second) span
  of_if x condition first None span is = rolled x (o.If condition first None span) (is ∙ sym (v.rolls-If condition first None span))
  of_if x condition first (Some second) span is = rolled x (o.If condition first (Some second) span) (is ∙ sym (v.rolls-If condition first (Some second) span))

  pub of_while : (x : Statement) (condition : Expression) (body : Statement) (span : Span) → x ≡ v.While condition body span → part x ≡ while_loop pick finds source condition (part body) span
  of_while x condition body span is = rolled x (o.While condition body span) (is ∙ sym (v.rolls-While condition body span))

  pub of_do : (x : Statement) (body : Statement) (condition : Expression) (span : Span) → x ≡ v.Do body condition span → part x ≡ do_loop pick finds source (part body) condition span
  of_do x body condition span is = rolled x (o.Do body condition span) (is ∙ sym (v.rolls-Do body condition span))

  pub of_for : (x : Statement) (start : ForStart) (condition advance : Option Expression) (body : Statement) (span : Span) → x ≡ v.For start condition advance body span
      → part x ≡ for_loop pick finds source start condition advance (part body) span
  of_for x start condition advance body span is = rolled x (o.For start condition advance body span) (is ∙ sym (v.rolls-For start condition advance body span))

  pub of_for_each : (x : Statement) (of : TypeName) (name : Identifier) (all : Expression) (body : Statement) (span : Span) → x ≡ v.ForEach of name all body span → part x ≡ (λ stand frame. no_conversion span)
  of_for_each x of name all body span is = rolled x (o.ForEach of name all body span) (is ∙ sym (v.rolls-ForEach of name all body span))

  pub of_switch : (x : Statement) (operand : Expression) (sections : List Section) (span : Span) → x ≡ v.Switch operand sections span → part x ≡ switch pick finds source operand (map branch sections) span
  of_switch x operand sections span is = rolled x (o.Switch operand sections span) (is ∙ sym (v.rolls-Switch operand sections span))

  pub of_break : (x : Statement) (span : Span) → x ≡ v.Break span → part x ≡ (λ stand frame. at (leaves stand.breaks step.Break span) frame)
  of_break x span is = rolled x (o.Break span) (is ∙ sym (v.rolls-Break span))

  pub of_continue : (x : Statement) (span : Span) → x ≡ v.Continue span → part x ≡ (λ stand frame. at (leaves stand.continues step.Continue span) frame)
  of_continue x span is = rolled x (o.Continue span) (is ∙ sym (v.rolls-Continue span))

  pub of_return : (x : Statement) (given : Option Expression) (span : Span) → x ≡ v.Return given span → part x ≡ (λ stand frame. at (returned pick finds source given span frame) frame)
  of_return x given span is = rolled x (o.Return given span) (is ∙ sym (v.rolls-Return given span))

  pub of_throw : (x : Statement) (given : Option Expression) (span : Span) → x ≡ v.Throw given span → part x ≡ (λ stand frame. no_conversion span)
  of_throw x given span is = rolled x (o.Throw given span) (is ∙ sym (v.rolls-Throw given span))

  pub of_try : (x : Statement) (body : Block) (catches : List Catch) (at_last : Option Block) (span : Span) → x ≡ v.Try body catches at_last span → part x ≡ (λ stand frame. no_conversion span)
  of_try x body catches at_last span is = rolled x (o.Try body catches at_last span) (is ∙ sym (v.rolls-Try body catches at_last span))

  -- the statements in braces, and those of a section, stand in a row
  pub of_braces : (one : Block) → block one ≡ (λ stand frame. in_row stand (map part (out-Block one).statements) [] frame)
  of_braces one = fold_out-Block Part Part Part Branch (statement_layer pick finds source) (block_layer pick finds source) (catch_layer pick finds source) (section_layer pick finds source) one

  pub of_section : (one : Section) → branch one ≡ record { labels = (out-Section one).labels; body = λ stand frame. in_row stand (map part (out-Section one).statements) [] frame }
  of_section one = fold_out-Section Part Part Part Branch (statement_layer pick finds source) (block_layer pick finds source) (catch_layer pick finds source) (section_layer pick finds source) one

  pub in_braces : (one : Block) (statements : List Statement) (stand : Stand) (frame : Frame) → statements ≡ (out-Block one).statements → in_row stand (map part statements) [] frame ≡ block one stand frame
  in_braces one statements stand frame is = ap (λ (ys : List Statement). in_row stand (map part ys) [] frame) is ∙ sym (ap (λ (p : Part). p stand frame) (of_braces one))

  pub in_section_of : (one : Section) (statements : List Statement) (stand : Stand) (frame : Frame) → statements ≡ (out-Section one).statements → in_row stand (map part statements) [] frame ≡ (branch one).body stand frame
  in_section_of one statements stand frame is = ap (λ (ys : List Statement). in_row stand (map part ys) [] frame) is ∙ sym (ap (λ (b : Branch). b.body stand frame) (of_section one))

  pub labels_in : (one : Section) (labels : List Label) → labels ≡ (out-Section one).labels → labels ≡ (branch one).labels
  labels_in one labels is = is ∙ sym (ap (λ (b : Branch). b.labels) (of_section one))
