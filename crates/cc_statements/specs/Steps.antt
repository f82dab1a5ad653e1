-- The typed statement of a statement, or why it is refused (ECMA-372, 16; ISO/IEC 14882:2003, 6): a case for each form of node, at the first node, in postorder, that no case covers.
use Rattle.std.specs.Prelude.{ℕ, List, [], ◌∷◌, ◌++◌, map, length, take, Bool, true, false, cond, Option, Some, None, option_map, Ok, Err}
use Rattle.std.specs.List.{list_any}
use Rattle.cc_base.specs.declared.text.Span.{Span}
use Rattle.cc_base.specs.declared.kind.Kind.TheVariants as kind
use Rattle.cc_base.specs.declared.identifiers.LocalId.{LocalId}
use Rattle.cc_tree.specs.declared.identifier.Identifier.{Identifier}
use Rattle.cc_tree.specs.declared.type_name.FundamentalType.{FundamentalType}
use Rattle.cc_tree.specs.declared.type_name.FundamentalType.TheVariants as f
use Rattle.cc_tree.specs.declared.expression.Expression.{Expression}
use Rattle.cc_tree.specs.declared.statement.Statement.{Statement, Statement-F, fold-Statement}
use Rattle.cc_tree.specs.declared.statement.Statement.TheOpen as s
use Rattle.cc_tree.specs.declared.statement.Block.{Block, fold-Block}
use Rattle.cc_tree.specs.declared.statement.Section.{Section, fold-Section}
use Rattle.cc_tree.specs.declared.statement.Label.{Label}
use Rattle.cc_tree.specs.declared.statement.Label.TheVariants as label
use Rattle.cc_tree.specs.declared.statement.ForStart.{ForStart}
use Rattle.cc_tree.specs.declared.statement.ForStart.TheVariants as start
use Rattle.cc_tree.specs.declared.statement.Local.{Local}
use Rattle.cc_tree.specs.declared.statement.Declarator.{Declarator}
use Rattle.cc_tree.specs.declared.statement.Initializer.{Initializer}
use Rattle.cc_tree.specs.declared.statement.Initializer.TheVariants as initial
use Rattle.cc_core.specs.declared.tree.Expression as made_expression
use Rattle.cc_core.specs.declared.tree.Statement as made_statement
use Rattle.cc_core.specs.declared.tree.Section as made_section
use Rattle.cc_core.specs.declared.tree.LoopKind.{LoopKind}
use Rattle.cc_core.specs.declared.tree.LoopKind.TheVariants.{TestFirst, BodyFirst}
use Rattle.cc_core.specs.declared.tree.SwitchLabel.{SwitchLabel}
use Rattle.cc_core.specs.declared.tree.SwitchLabel.TheVariants.{Case, Default}
use Rattle.cc_core.specs.Bare.{term_of, step_of}
use Rattle.cc_core.specs.Numbers as numbers
use Rattle.cc_core.specs.Step as step
use Rattle.cc_core.specs.Step.{Step, Steps, Sections}
use Rattle.cc_core.specs.Term as term
use Rattle.cc_core.specs.Term.{Term}
use Rattle.cc_core.specs.Typed.{same_label}
use Rattle.cc_operations.specs.declared.source.Source.{Source}
use Rattle.cc_operations.specs.declared.source.Frame.{Frame}
use Rattle.cc_operations.specs.Choosing.{Pick}
use Rattle.cc_operations.specs.Numbers.{core, is_void, promoted, written}
use Rattle.cc_operations.specs.Judgements.{Judged, refused, next, judged_by, Value}
use Rattle.cc_operations.specs.Operations.{no_conversion, converted, convert}
use Rattle.cc_statements.specs.declared.stand.Stand.{Stand}
use Rattle.cc_statements.specs.Constants.{constant_value, bits, and_then}
use Rattle.cc_terms.specs.Resolving.{Finds}
use Rattle.cc_terms.specs.Terms.{typed_value}

-- A part of a function, once it is typed: what it is, and the variables of the function so far.
abbrev pub Typed : Type 0 → Type 0
Typed A = Judged (A × Frame)

abbrev pub Makes : Type 0 → Type 0
Makes A = Frame → Typed A

-- ---- variables

abbrev pub local_id : ℕ → LocalId
local_id number = record { 0 = number }

-- a variable without a name
abbrev pub with_temporary : FundamentalType → Frame → Frame
with_temporary of frame = record frame { locals = frame.locals ++ of ∷ [] }

-- a variable that can be named from here on
abbrev pub with_variable : FundamentalType → List ℕ → Frame → Frame
with_variable of name frame =
    record frame {
      locals = frame.locals ++ of ∷ [];
      variables = frame.variables ++ record { name = name; of = of; local = local_id (length frame.locals) } ∷ [];
    }

-- of the variables so many can be named
abbrev pub with_first : ℕ → Frame → Frame
with_first count frame = record frame { variables = take count frame.variables }

-- behind a scope no variable of it can be named
abbrev pub left : Frame → Frame → Frame
left before after = with_first (length before.variables) after

-- ---- statements in a row

abbrev pub steps_from : List Step → Steps
steps_from [] = step.no_steps
steps_from (one ∷ more) = step.next_step one (steps_from more)

abbrev pub Part : Type 0
Part = Stand → Makes (List Step)

abbrev pub in_row : Stand → List Part → List Step → Makes (List Step)
in_row stand [] done frame = Ok (done, frame)
in_row stand (part ∷ parts) done frame = next (part stand frame) (λ made. in_row stand parts (done ++ made.0) made.1)

-- a scope is a block, in which variables may be declared
abbrev pub inside : Stand → Stand
inside stand = record stand { declares = true }

abbrev pub scope : Part → Stand → Makes Step
scope part stand frame = next (part (inside stand) frame) (λ made. Ok (step.Block (steps_from made.0), left frame made.1))

-- what stands in a statement, with the variables of the function behind it
abbrev pub at : {A : Type 0} → Judged A → Frame → Typed A
at (Ok a) frame = Ok (a, frame)
at (Err refusal) frame = Err refusal

-- a section of a switch: its labels, and its statements
pub record Branch : Type 0 where
  pub labels : List Label
  pub body : Part

pub record Made : Type 0 where
  pub labels : List SwitchLabel
  pub steps : List Step

abbrev pub sections_from : List Made → Sections
sections_from [] = step.no_sections
sections_from (one ∷ more) = step.next_section one.labels (steps_from one.steps) (sections_from more)

-- in a loop, and in a switch
abbrev pub in_loop : Stand → Stand
in_loop stand = record stand { breaks = true; continues = true }

abbrev pub in_section : Bool → Stand → Stand
in_section is_last stand = record stand { breaks = true; declares = is_last }

abbrev pub label_span : Label → Span
label_span (label.Case x span) = span
label_span (label.Default span) = span

abbrev pub is_seen : SwitchLabel → List SwitchLabel → Bool
is_seen one seen = list_any (same_label one) seen

abbrev pub none_behind : {A : Type 0} → List A → Bool
none_behind [] = true
none_behind (x ∷ xs) = false

-- a condition is judged at its statement, behind all that stands in the statement
abbrev pub tested : Span → FundamentalType → Step → Judged (List Step)
tested span condition made = cond (is_void condition) (no_conversion span) (Ok (made ∷ []))

-- the operand of a switch is promoted, and kept in a variable
abbrev pub switch_made : Span → LocalId → Value → List Made → Judged (List Step)
switch_made span local operand sections = tested span operand.of (step.Switch local (convert (promoted operand.of) operand).term (sections_from sections))

-- a loop without a condition goes on
abbrev pub always : Value
always = record { of = f.Bool; term = term.Number (core f.Bool) 1 }

-- labels are compared in the operand's promoted type, and in 64 bits where the operand has no value, for which the switch is refused behind them
abbrev pub compared : FundamentalType → FundamentalType
compared operand = cond (is_void operand) f.LongLong (promoted operand)

-- a label is a constant, converted to the type in which labels are compared
abbrev pub label_bits : FundamentalType → Value → Option ℕ
label_bits operand given = and_then (constant_value given.term) (λ v. and_then (numbers.converted (core given.of) (core operand) v) bits)

abbrev pub case_of : Span → Option ℕ → Judged SwitchLabel
case_of span None = no_conversion span
case_of span (Some n) = Ok (Case n)

-- no label stands twice
abbrev pub new_label : Label → List SwitchLabel → SwitchLabel → Judged SwitchLabel
new_label one seen found = cond (is_seen found seen) (refused kind.BadBreak (label_span one)) (Ok found)

abbrev pub leaves : Bool → Step → Span → Judged (List Step)
leaves may made span = cond may (Ok (made ∷ [])) (refused kind.BadBreak span)

abbrev pub without_value : FundamentalType → Span → Judged (Option Term)
without_value of span = cond (is_void of) (no_conversion span) (Ok None)

-- what follows an `else`, and an empty block where there is none
abbrev pub otherwise : Option Part → Stand → Makes Step
otherwise None stand frame = Ok (step.Block step.no_steps, frame)
otherwise (Some part) stand frame = scope part stand frame

module _ (pick : Pick) (finds : Finds) (source : Source) where
  abbrev pub value : Expression → Frame → Judged Value
  value x frame = typed_value pick finds source frame x

  -- ---- declarations

  -- an initialiser is converted to the type of its variable
  abbrev pub initial_value : FundamentalType → Span → Initializer → Frame → Judged (Option Term)
  initial_value of span initial.Nothing frame = without_value of span
  initial_value of span (initial.Value x) frame = next (value x frame) (λ given. next (converted span of given) (λ made. Ok (Some made.term)))
  initial_value of span (initial.Elements arguments) frame = no_conversion span
  initial_value of span (initial.Arguments values) frame = no_conversion span

  -- a variable is declared directly behind its name, so that its initialiser may name it
  abbrev pub declared : FundamentalType → Declarator → Makes Step
  declared of one frame =
      let with_it = with_variable of one.name.name frame in
      next (initial_value of one.span one.initializer with_it) (λ first. Ok (step.Declare (local_id (length frame.locals)) (core of) first, with_it))

  abbrev pub all_declared : FundamentalType → List Declarator → List Step → Makes (List Step)
  all_declared of [] done frame = Ok (done, frame)
  all_declared of (one ∷ more) done frame = next (declared of one frame) (λ made. all_declared of more (done ++ made.0 ∷ []) made.1)

  abbrev pub local_declared : Local → Makes (List Step)
  local_declared local frame = all_declared (written local.of) local.declarators [] frame

  -- a section that isn't the last declares no variable
  abbrev pub local : Local → Span → Part
  local one span stand frame = next (local_declared one frame) (λ made. cond stand.declares (Ok made) (refused kind.BadBreak span))

  -- ---- other statements

  abbrev pub done_alone : Expression → Frame → Judged (List Step)
  done_alone x frame = next (value x frame) (λ given. Ok (step.Do given.term ∷ []))

  -- substatements are scopes
  abbrev pub conditional : Expression → Part → Option Part → Span → Part
  conditional x first second span stand frame =
      next (value x frame) (λ given. next (scope first stand frame) (λ one. next (otherwise second stand one.1) (λ other.
      at (tested span given.of (step.If given.term one.0 other.0)) other.1)))

  abbrev pub while_loop : Expression → Part → Span → Part
  while_loop x body span stand frame =
      next (value x frame) (λ given. next (scope body (in_loop stand) frame) (λ made.
      at (tested span given.of (step.Loop TestFirst given.term None made.0)) made.1))

  abbrev pub do_loop : Part → Expression → Span → Part
  do_loop body x span stand frame =
      next (scope body (in_loop stand) frame) (λ made. next (value x made.1) (λ given.
      at (tested span given.of (step.Loop BodyFirst given.term None made.0)) made.1))

  abbrev pub started : ForStart → Makes (List Step)
  started start.Nothing frame = Ok ([], frame)
  started (start.Local one) frame = local_declared one frame
  started (start.Expression x) frame = at (done_alone x frame) frame

  abbrev pub test_of : Option Expression → Frame → Judged Value
  test_of None frame = Ok always
  test_of (Some x) frame = value x frame

  abbrev pub advance_of : Option Expression → Frame → Judged (Option Term)
  advance_of None frame = Ok None
  advance_of (Some x) frame = next (value x frame) (λ given. Ok (Some given.term))

  -- a `for` is a scope as a whole
  abbrev pub for_loop : ForStart → Option Expression → Option Expression → Part → Span → Part
  for_loop start condition advance body span stand frame =
      next (started start frame) (λ begun. next (test_of condition begun.1) (λ given. next (advance_of advance begun.1) (λ after.
      next (scope body (in_loop stand) begun.1) (λ made. next (tested span given.of (step.Loop TestFirst given.term after made.0)) (λ turns.
      Ok (step.Block (steps_from (begun.0 ++ turns)) ∷ [], left frame made.1))))))

  -- ---- switches

  abbrev pub label_of : FundamentalType → Frame → Label → Judged SwitchLabel
  label_of operand frame (label.Case x span) = next (value x frame) (λ given. case_of span (label_bits operand given))
  label_of operand frame (label.Default span) = Ok Default

  abbrev pub labels_of : FundamentalType → Frame → List SwitchLabel → List Label → List SwitchLabel → Judged (List SwitchLabel)
  labels_of operand frame seen [] done = Ok done
  labels_of operand frame seen (one ∷ more) done =
      next (label_of operand frame one) (λ found. next (new_label one (seen ++ done) found) (λ fresh. labels_of operand frame seen more (done ++ fresh ∷ [])))

  abbrev pub section : FundamentalType → List SwitchLabel → Bool → Branch → Stand → Makes Made
  section operand seen last branch stand frame =
      next (labels_of operand frame seen branch.labels []) (λ labels. next (branch.body (in_section last stand) frame) (λ made.
      Ok (record { labels = labels; steps = made.0 }, left frame made.1)))

  abbrev pub sections : FundamentalType → List SwitchLabel → List Branch → List Made → Stand → Makes (List Made)
  sections operand seen [] done stand frame = Ok (done, frame)
  sections operand seen (branch ∷ more) done stand frame =
      next (section operand seen (none_behind more) branch stand frame) (λ made. sections operand (seen ++ made.0.labels) more (done ++ made.0 ∷ []) stand made.1)

  abbrev pub switch : Expression → List Branch → Span → Part
  switch x branches span stand frame =
      next (value x frame) (λ given. next (sections (compared given.of) [] branches [] stand (with_temporary (promoted given.of) frame)) (λ made.
      at (switch_made span (local_id (length frame.locals)) given made.0) made.1))

  abbrev pub returned : Option Expression → Span → Frame → Judged (List Step)
  returned None span frame = cond (is_void frame.result) (Ok (step.Return None ∷ [])) (no_conversion span)
  returned (Some x) span frame = next (value x frame) (λ given. next (converted span frame.result given) (λ made. Ok (step.Return (Some made.term) ∷ [])))

  -- ---- all forms

  abbrev pub statement_layer : Statement-F Part Part Part Branch → Part
  statement_layer (s.Block block) stand frame = next (scope block stand frame) (λ made. Ok (made.0 ∷ [], made.1))
  statement_layer (s.Empty span) stand frame = Ok (step.Block step.no_steps ∷ [], frame)
  statement_layer (s.Local one span) stand frame = local one span stand frame
  statement_layer (s.Expression x span) stand frame = at (done_alone x frame) frame
  statement_layer (s.Delete x span) stand frame = no_conversion span
  statement_layer (s.If x first second span) stand frame = conditional x first second span stand frame
  statement_layer (s.While x body span) stand frame = while_loop x body span stand frame
  statement_layer (s.Do body x span) stand frame = do_loop body x span stand frame
  statement_layer (s.For start condition advance body span) stand frame = for_loop start condition advance body span stand frame
  statement_layer (s.ForEach of name x body span) stand frame = no_conversion span
  statement_layer (s.Switch x branches span) stand frame = switch x branches span stand frame
  statement_layer (s.Break span) stand frame = at (leaves stand.breaks step.Break span) frame
  statement_layer (s.Continue span) stand frame = at (leaves stand.continues step.Continue span) frame
  statement_layer (s.Return x span) stand frame = at (returned x span frame) frame
  statement_layer (s.Throw x span) stand frame = no_conversion span
  statement_layer (s.Try body catches at_last span) stand frame = no_conversion span

  abbrev pub block_layer : s.Block-F Part Part Part Branch → Part
  block_layer layer stand frame = in_row stand layer.statements [] frame

  -- no statement that is built has a catch
  abbrev pub catch_layer : s.Catch-F Part Part Part Branch → Part
  catch_layer layer = layer.block

  abbrev pub section_layer : s.Section-F Part Part Part Branch → Branch
  section_layer layer = record { labels = layer.labels; body = λ stand frame. in_row stand layer.statements [] frame }

  -- what a statement adds to the statements of its scope
  abbrev pub statement_part : Statement → Part
  statement_part = fold-Statement Part Part Part Branch statement_layer block_layer catch_layer section_layer

  abbrev pub block_part : Block → Part
  block_part = fold-Block Part Part Part Branch statement_layer block_layer catch_layer section_layer

  abbrev pub branch_of : Section → Branch
  branch_of = fold-Section Part Part Part Branch statement_layer block_layer catch_layer section_layer

-- ---- the same of what functions give, without the places of their parts in memory

abbrev pub with_frame : {A B : Type 0} → (A → B) → Judged A → Frame → Typed B
with_frame bare judged frame = at (judged_by bare judged) frame

abbrev pub steps_bare : List made_statement.Statement → List Step
steps_bare steps = map step_of steps

abbrev pub made_of : made_section.Section → Made
made_of section = record { labels = section.labels; steps = steps_bare section.body }

abbrev pub sections_bare : List made_section.Section → List Made
sections_bare sections = map made_of sections

abbrev pub terms_bare : Option made_expression.Expression → Option Term
terms_bare x = option_map term_of x
