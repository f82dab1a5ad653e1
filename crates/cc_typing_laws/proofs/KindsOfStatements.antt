-- The kinds by which statements are refused.
use Rattle.std.proofs.Common.{◌≡◌, ℕ, Bool, cond, List, [], ◌∷◌, ◌++◌, map, length, Option, Some, None, Ok, Err, refl, sym, subst}
use Rattle.std.specs.Prelude.{⊤}
use Rattle.cc_base.specs.declared.text.Span.{Span}
use Rattle.cc_base.specs.declared.kind.Kind.TheVariants as kind
use Rattle.cc_tree.specs.declared.type_name.FundamentalType.{FundamentalType}
use Rattle.cc_tree.specs.declared.expression.Expression.{Expression}
use Rattle.cc_tree.specs.declared.statement.Block.{Block, roll-Block, fold-roll-Block, map-Block, ind-Block}
use Rattle.cc_tree.specs.declared.statement.Catch.{Catch, fold-Catch}
use Rattle.cc_tree.specs.declared.statement.Declarator.{Declarator}
use Rattle.cc_tree.specs.declared.statement.ForStart.{ForStart}
use Rattle.cc_tree.specs.declared.statement.ForStart.TheVariants as start
use Rattle.cc_tree.specs.declared.statement.Initializer.{Initializer}
use Rattle.cc_tree.specs.declared.statement.Initializer.TheVariants as initial
use Rattle.cc_tree.specs.declared.statement.Label.{Label}
use Rattle.cc_tree.specs.declared.statement.Label.TheVariants as label
use Rattle.cc_tree.specs.declared.statement.Local.{Local}
use Rattle.cc_tree.specs.declared.statement.Section.{Section, roll-Section, fold-roll-Section, map-Section}
use Rattle.cc_tree.specs.declared.statement.Statement.{Statement, Statement-F, roll-Statement, fold-roll-Statement, map-Statement}
use Rattle.cc_tree.specs.declared.statement.Statement.TheOpen as s
use Rattle.cc_core.specs.declared.tree.LoopKind.TheVariants.{TestFirst, BodyFirst}
use Rattle.cc_core.specs.declared.tree.SwitchLabel.{SwitchLabel}
use Rattle.cc_core.specs.Step as step
use Rattle.cc_core.specs.Step.{Step}
use Rattle.cc_operations.specs.declared.source.Source.{Source}
use Rattle.cc_operations.specs.declared.source.Frame.{Frame}
use Rattle.cc_operations.specs.Choosing.{Pick}
use Rattle.cc_operations.specs.Numbers.{core, is_void, promoted, written}
use Rattle.cc_operations.specs.Judgements.{Judged, refused, next}
use Rattle.cc_operations.specs.Operations as spec
use Rattle.cc_statements.specs.declared.stand.Stand.{Stand}
use Rattle.cc_statements.specs.Steps.{Typed, Part, Branch, Made, steps_from, sections_from, in_row, inside, in_loop, in_section, scope, at, tested, left, local_id, with_temporary, with_variable, otherwise, leaves, label_span, label_bits, is_seen, none_behind, switch_made, compared, case_of, new_label, without_value}
use Rattle.cc_statements.specs.Steps.{value, initial_value, declared, all_declared, local_declared, done_alone, started, test_of, advance_of, conditional, while_loop, do_loop, for_loop, label_of, section, switch, returned, statement_layer, block_layer, catch_layer, section_layer, statement_part, block_part, branch_of}
use Rattle.cc_statements.specs.Steps as steps
use Rattle.cc_terms.specs.Resolving.{Finds}
use Rattle.cc_typing_laws.proofs.KindsOfExpressions.{Kept, next_kept, cond_kept, converted_kept, value_kept}
use Rattle.cc_typing_laws.proofs.Lists.{Each}

abbrev pub IsKept : Part → Type 0
IsKept part = (stand : Stand) (frame : Frame) → Kept (part stand frame)

at_kept : {A : Type 0} (judged : Judged A) (frame : Frame) → Kept judged → Kept (at judged frame)
at_kept (Ok made) frame h = tt
at_kept (Err refusal) frame h = h

tested_kept : (span : Span) (of : FundamentalType) (made : Step) → Kept (tested span of made)
tested_kept span of made = cond_kept (is_void of) (spec.no_conversion span) (Ok (made ∷ [])) refl tt

row_kept : (stand : Stand) (parts : List Part) (done : List Step) (frame : Frame) → Each IsKept parts → Kept (in_row stand parts done frame)
row_kept stand [] done frame h = tt
row_kept stand (part ∷ parts) done frame h = next_kept (part stand frame) (λ made. in_row stand parts (done ++ made.0) made.1) (h.0 stand frame) (λ made. row_kept stand parts (done ++ made.0) made.1 h.1)

pub scope_kept : (part : Part) (stand : Stand) (frame : Frame) → IsKept part → Kept (scope part stand frame)
scope_kept part stand frame h = next_kept (part (inside stand) frame) (λ made. Ok (step.Block (steps_from made.0), left frame made.1)) (h (inside stand) frame) (λ made. tt)

abbrev IsKeptIf : Option Part → Type 0
IsKeptIf None = ⊤
IsKeptIf (Some part) = IsKept part

otherwise_kept : (second : Option Part) (stand : Stand) (frame : Frame) → IsKeptIf second → Kept (otherwise second stand frame)
otherwise_kept None stand frame h = tt
otherwise_kept (Some part) stand frame h = scope_kept part stand frame h

leaves_kept : (may : Bool) (made : Step) (span : Span) (frame : Frame) → Kept (at (leaves may made span) frame)
leaves_kept may made span frame = at_kept (leaves may made span) frame (cond_kept may (Ok (made ∷ [])) (refused kind.BadBreak span) tt refl)

abbrev IsKeptBranch : Branch → Type 0
IsKeptBranch branch = IsKept branch.body

module _ (pick : Pick) (finds : Finds) (source : Source) where
  known : (x : Expression) (frame : Frame) → Kept (value pick finds source x frame)
  known x frame = value_kept pick finds source frame x

  -- ---- declarations

  initial_kept : (of : FundamentalType) (span : Span) (first : Initializer) (frame : Frame) → Kept (initial_value pick finds source of span first frame)
  initial_kept of span initial.Nothing frame = cond_kept (is_void of) (spec.no_conversion span) (Ok None) refl tt
  initial_kept of span (initial.Value x) frame =
      next_kept (value pick finds source x frame) (λ given. next (spec.converted span of given) (λ made. Ok (Some made.term))) (known x frame)
      (λ given. next_kept (spec.converted span of given) (λ made. Ok (Some made.term)) (converted_kept span of given) (λ made. tt))
  initial_kept of span (initial.Elements arguments) frame = refl
  initial_kept of span (initial.Arguments arguments) frame = refl

  declared_kept : (of : FundamentalType) (one : Declarator) (frame : Frame) → Kept (declared pick finds source of one frame)
  declared_kept of one frame =
      next_kept (initial_value pick finds source of one.span one.initializer (with_variable of one.name.name frame)) (λ first. Ok (step.Declare (local_id (length frame.locals)) (core of) first, with_variable of one.name.name frame))
      (initial_kept of one.span one.initializer (with_variable of one.name.name frame)) (λ first. tt)

  all_kept : (of : FundamentalType) (ones : List Declarator) (done : List Step) (frame : Frame) → Kept (all_declared pick finds source of ones done frame)
  all_kept of [] done frame = tt
  all_kept of (one ∷ more) done frame =
      next_kept (declared pick finds source of one frame) (λ made. all_declared pick finds source of more (done ++ made.0 ∷ []) made.1) (declared_kept of one frame) (λ made. all_kept of more (done ++ made.0 ∷ []) made.1)

  local_kept : (one : Local) (span : Span) → IsKept (steps.local pick finds source one span)
  local_kept one span stand frame =
      next_kept (local_declared pick finds source one frame) (λ made. cond stand.declares (Ok made) (refused kind.BadBreak span)) (all_kept (written one.of) one.declarators [] frame)
      (λ made. cond_kept stand.declares (Ok made) (refused kind.BadBreak span) tt refl)

  -- ---- other statements

  done_kept : (x : Expression) (frame : Frame) → Kept (done_alone pick finds source x frame)
  done_kept x frame = next_kept (value pick finds source x frame) (λ given. Ok (step.Do given.term ∷ [])) (known x frame) (λ given. tt)

  if_kept : (x : Expression) (first : Part) (second : Option Part) (span : Span) → IsKept first → IsKeptIf second → IsKept (conditional pick finds source x first second span)
  if_kept x first second span h k stand frame =
      next_kept (value pick finds source x frame) (λ given. next (scope first stand frame) (λ one. next (otherwise second stand one.1) (λ other. at (tested span given.of (step.If given.term one.0 other.0)) other.1))) (known x frame)
      (λ given. next_kept (scope first stand frame) (λ one. next (otherwise second stand one.1) (λ other. at (tested span given.of (step.If given.term one.0 other.0)) other.1)) (scope_kept first stand frame h)
      (λ one. next_kept (otherwise second stand one.1) (λ other. at (tested span given.of (step.If given.term one.0 other.0)) other.1) (otherwise_kept second stand one.1 k)
      (λ other. at_kept (tested span given.of (step.If given.term one.0 other.0)) other.1 (tested_kept span given.of (step.If given.term one.0 other.0)))))

  while_kept : (x : Expression) (body : Part) (span : Span) → IsKept body → IsKept (while_loop pick finds source x body span)
  while_kept x body span h stand frame =
      next_kept (value pick finds source x frame) (λ given. next (scope body (in_loop stand) frame) (λ made. at (tested span given.of (step.Loop TestFirst given.term None made.0)) made.1)) (known x frame)
      (λ given. next_kept (scope body (in_loop stand) frame) (λ made. at (tested span given.of (step.Loop TestFirst given.term None made.0)) made.1) (scope_kept body (in_loop stand) frame h)
      (λ made. at_kept (tested span given.of (step.Loop TestFirst given.term None made.0)) made.1 (tested_kept span given.of (step.Loop TestFirst given.term None made.0))))

  do_kept : (body : Part) (x : Expression) (span : Span) → IsKept body → IsKept (do_loop pick finds source body x span)
  do_kept body x span h stand frame =
      next_kept (scope body (in_loop stand) frame) (λ made. next (value pick finds source x made.1) (λ given. at (tested span given.of (step.Loop BodyFirst given.term None made.0)) made.1)) (scope_kept body (in_loop stand) frame h)
      (λ made. next_kept (value pick finds source x made.1) (λ given. at (tested span given.of (step.Loop BodyFirst given.term None made.0)) made.1) (known x made.1)
      (λ given. at_kept (tested span given.of (step.Loop BodyFirst given.term None made.0)) made.1 (tested_kept span given.of (step.Loop BodyFirst given.term None made.0))))

  started_kept : (first : ForStart) (frame : Frame) → Kept (started pick finds source first frame)
  started_kept start.Nothing frame = tt
  started_kept (start.Local one) frame = all_kept (written one.of) one.declarators [] frame
  started_kept (start.Expression x) frame = at_kept (done_alone pick finds source x frame) frame (done_kept x frame)

  test_kept : (condition : Option Expression) (frame : Frame) → Kept (test_of pick finds source condition frame)
  test_kept None frame = tt
  test_kept (Some x) frame = known x frame

  advance_kept : (advance : Option Expression) (frame : Frame) → Kept (advance_of pick finds source advance frame)
  advance_kept None frame = tt
  advance_kept (Some x) frame = next_kept (value pick finds source x frame) (λ given. Ok (Some given.term)) (known x frame) (λ given. tt)

  for_kept : (first : ForStart) (condition advance : Option Expression) (body : Part) (span : Span) → IsKept body → IsKept (for_loop pick finds source first condition advance body span)
  for_kept first condition advance body span h stand frame =
      next_kept (started pick finds source first frame)
      (λ begun. next (test_of pick finds source condition begun.1) (λ given. next (advance_of pick finds source advance begun.1) (λ after. next (scope body (in_loop stand) begun.1) (λ made.
      next (tested span given.of (step.Loop TestFirst given.term after made.0)) (λ turns. Ok (step.Block (steps_from (begun.0 ++ turns)) ∷ [], left frame made.1)))))) (started_kept first frame)
      (λ begun. next_kept (test_of pick finds source condition begun.1)
      (λ given. next (advance_of pick finds source advance begun.1) (λ after. next (scope body (in_loop stand) begun.1) (λ made.
      next (tested span given.of (step.Loop TestFirst given.term after made.0)) (λ turns. Ok (step.Block (steps_from (begun.0 ++ turns)) ∷ [], left frame made.1))))) (test_kept condition begun.1)
      (λ given. next_kept (advance_of pick finds source advance begun.1)
      (λ after. next (scope body (in_loop stand) begun.1) (λ made. next (tested span given.of (step.Loop TestFirst given.term after made.0)) (λ turns. Ok (step.Block (steps_from (begun.0 ++ turns)) ∷ [], left frame made.1)))) (advance_kept advance begun.1)
      (λ after. next_kept (scope body (in_loop stand) begun.1)
      (λ made. next (tested span given.of (step.Loop TestFirst given.term after made.0)) (λ turns. Ok (step.Block (steps_from (begun.0 ++ turns)) ∷ [], left frame made.1))) (scope_kept body (in_loop stand) begun.1 h)
      (λ made. next_kept (tested span given.of (step.Loop TestFirst given.term after made.0)) (λ turns. Ok (step.Block (steps_from (begun.0 ++ turns)) ∷ [], left frame made.1))
      (tested_kept span given.of (step.Loop TestFirst given.term after made.0)) (λ turns. tt)))))

  returned_kept : (x : Option Expression) (span : Span) (frame : Frame) → Kept (returned pick finds source x span frame)
  returned_kept None span frame = cond_kept (is_void frame.result) (Ok (step.Return None ∷ [])) (spec.no_conversion span) tt refl
  returned_kept (Some x) span frame =
      next_kept (value pick finds source x frame) (λ given. next (spec.converted span frame.result given) (λ made. Ok (step.Return (Some made.term) ∷ []))) (known x frame)
      (λ given. next_kept (spec.converted span frame.result given) (λ made. Ok (step.Return (Some made.term) ∷ [])) (converted_kept span frame.result given) (λ made. tt))

  -- ---- switches

  case_kept : (span : Span) (found : Option ℕ) → Kept (case_of span found)
  case_kept span None = refl
  case_kept span (Some n) = tt

  label_kept : (operand : FundamentalType) (frame : Frame) (one : Label) → Kept (label_of pick finds source operand frame one)
  label_kept operand frame (label.Case x span) = next_kept (value pick finds source x frame) (λ given. case_of span (label_bits operand given)) (known x frame) (λ given. case_kept span (label_bits operand given))
  label_kept operand frame (label.Default span) = tt

  labels_kept : (operand : FundamentalType) (frame : Frame) (seen : List SwitchLabel) (labels : List Label) (done : List SwitchLabel) → Kept (steps.labels_of pick finds source operand frame seen labels done)
  labels_kept operand frame seen [] done = tt
  labels_kept operand frame seen (one ∷ more) done =
      next_kept (label_of pick finds source operand frame one) (λ found. next (new_label one (seen ++ done) found) (λ fresh. steps.labels_of pick finds source operand frame seen more (done ++ fresh ∷ []))) (label_kept operand frame one)
      (λ found. next_kept (new_label one (seen ++ done) found) (λ fresh. steps.labels_of pick finds source operand frame seen more (done ++ fresh ∷ []))
      (cond_kept (is_seen found (seen ++ done)) (refused kind.BadBreak (label_span one)) (Ok found) refl tt) (λ fresh. labels_kept operand frame seen more (done ++ fresh ∷ [])))

  section_kept : (operand : FundamentalType) (seen : List SwitchLabel) (is_last : Bool) (branch : Branch) (stand : Stand) (frame : Frame) → IsKeptBranch branch → Kept (section pick finds source operand seen is_last branch stand frame)
  section_kept operand seen is_last branch stand frame h =
      next_kept (steps.labels_of pick finds source operand frame seen branch.labels [])
      (λ labels. next (branch.body (in_section is_last stand) frame) (λ made. Ok (record { labels = labels; steps = made.0 }, left frame made.1))) (labels_kept operand frame seen branch.labels [])
      (λ labels. next_kept (branch.body (in_section is_last stand) frame) (λ made. Ok (record { labels = labels; steps = made.0 }, left frame made.1)) (h (in_section is_last stand) frame) (λ made. tt))

  sections_kept : (operand : FundamentalType) (seen : List SwitchLabel) (branches : List Branch) (done : List Made) (stand : Stand) (frame : Frame) → Each IsKeptBranch branches → Kept (steps.sections pick finds source operand seen branches done stand frame)
  sections_kept operand seen [] done stand frame h = tt
  sections_kept operand seen (branch ∷ more) done stand frame h =
      next_kept (section pick finds source operand seen (none_behind more) branch stand frame) (λ made. steps.sections pick finds source operand (seen ++ made.0.labels) more (done ++ made.0 ∷ []) stand made.1)
      (section_kept operand seen (none_behind more) branch stand frame h.0) (λ made. sections_kept operand (seen ++ made.0.labels) more (done ++ made.0 ∷ []) stand made.1 h.1)

  switch_kept : (x : Expression) (branches : List Branch) (span : Span) → Each IsKeptBranch branches → IsKept (switch pick finds source x branches span)
  switch_kept x branches span h stand frame =
      next_kept (value pick finds source x frame)
      (λ given. next (steps.sections pick finds source (compared given.of) [] branches [] stand (with_temporary (promoted given.of) frame)) (λ made. at (switch_made span (local_id (length frame.locals)) given made.0) made.1)) (known x frame)
      (λ given. next_kept (steps.sections pick finds source (compared given.of) [] branches [] stand (with_temporary (promoted given.of) frame)) (λ made. at (switch_made span (local_id (length frame.locals)) given made.0) made.1)
      (sections_kept (compared given.of) [] branches [] stand (with_temporary (promoted given.of) frame) h)
      (λ made. at_kept (switch_made span (local_id (length frame.locals)) given made.0) made.1
      (tested_kept span given.of (step.Switch (local_id (length frame.locals)) (spec.convert (promoted given.of) given).term (sections_from made.0)))))

  -- ---- all forms

  abbrev IsKeptSection : Section → Type 0
  IsKeptSection x = IsKeptBranch (branch_of pick finds source x)

  abbrev part : Statement → Part
  part = statement_part pick finds source

  abbrev block : Block → Part
  block = block_part pick finds source

  abbrev caught : Catch → Part
  caught = fold-Catch Part Part Part Branch (statement_layer pick finds source) (block_layer pick finds source) (catch_layer pick finds source) (section_layer pick finds source)

  abbrev branch : Section → Branch
  branch = branch_of pick finds source

  abbrev KeptStatement : Type 0
  KeptStatement = (x : Statement) × IsKept (part x)

  abbrev KeptBlock : Type 0
  KeptBlock = (x : Block) × IsKept (block x)

  abbrev AnyCatch : Type 0
  AnyCatch = (x : Catch) × ⊤

  abbrev KeptSection : Type 0
  KeptSection = (x : Section) × IsKeptSection x

  each_part : (ys : List KeptStatement) → Each IsKept (map part (map (λ k. k.0) ys))
  each_part [] = tt
  each_part (y ∷ ys) = (y.1, each_part ys)

  each_branch : (ys : List KeptSection) → Each IsKeptBranch (map branch (map (λ k. k.0) ys))
  each_branch [] = tt
  each_branch (y ∷ ys) = (y.1, each_branch ys)

  abbrev bare_layer : Statement-F KeptStatement KeptBlock AnyCatch KeptSection → Statement-F Statement Block Catch Section
  bare_layer = map-Statement KeptStatement KeptBlock AnyCatch KeptSection Statement Block Catch Section (λ k. k.0) (λ k. k.0) (λ k. k.0) (λ k. k.0)

  layer_kept : (y : Statement-F KeptStatement KeptBlock AnyCatch KeptSection) → IsKept (statement_layer pick finds source (map-Statement Statement Block Catch Section Part Part Part Branch part block caught branch (bare_layer y)))
  layer_kept (s.Block one) stand frame = next_kept (scope (block one.0) stand frame) (λ made. Ok (made.0 ∷ [], made.1)) (scope_kept (block one.0) stand frame one.1) (λ made. tt)
  layer_kept (s.Empty span) stand frame = tt
  layer_kept (s.Local one span) stand frame = local_kept one span stand frame
  layer_kept (s.Expression x span) stand frame = at_kept (done_alone pick finds source x frame) frame (done_kept x frame)
  layer_kept (s.Delete x span) stand frame = refl
  layer_kept (s.If x first None span) stand frame = if_kept x (part first.0) None span first.1 tt stand frame
  layer_kept (s.If x first (Some second) span) stand frame = if_kept x (part first.0) (Some (part second.0)) span first.1 second.1 stand frame
  layer_kept (s.While x body span) stand frame = while_kept x (part body.0) span body.1 stand frame
  layer_kept (s.Do body x span) stand frame = do_kept (part body.0) x span body.1 stand frame
  layer_kept (s.For first condition advance body span) stand frame = for_kept first condition advance (part body.0) span body.1 stand frame
  layer_kept (s.ForEach of name x body span) stand frame = refl
  layer_kept (s.Switch x branches span) stand frame = switch_kept x (map branch (map (λ k. k.0) branches)) span (each_branch branches) stand frame
  layer_kept (s.Break span) stand frame = leaves_kept stand.breaks step.Break span frame
  layer_kept (s.Continue span) stand frame = leaves_kept stand.continues step.Continue span frame
  layer_kept (s.Return x span) stand frame = at_kept (returned pick finds source x span frame) frame (returned_kept x span frame)
  layer_kept (s.Throw x span) stand frame = refl
  layer_kept (s.Try body catches at_last span) stand frame = refl

  statement_step : (x : Statement-F Statement Block Catch Section) (y : Statement-F KeptStatement KeptBlock AnyCatch KeptSection) → bare_layer y ≡ x → IsKept (part (roll-Statement x))
  statement_step x y is =
      subst (λ z. IsKept (part (roll-Statement z))) is
      (subst IsKept (sym (fold-roll-Statement Part Part Part Branch (statement_layer pick finds source) (block_layer pick finds source) (catch_layer pick finds source) (section_layer pick finds source) (bare_layer y))) (layer_kept y))

  block_step : (x : s.Block-F Statement Block Catch Section) (y : s.Block-F KeptStatement KeptBlock AnyCatch KeptSection)
      → map-Block KeptStatement KeptBlock AnyCatch KeptSection Statement Block Catch Section (λ k. k.0) (λ k. k.0) (λ k. k.0) (λ k. k.0) y ≡ x → IsKept (block (roll-Block x))
  block_step x y is =
      subst (λ z. IsKept (block (roll-Block z))) is
      (subst IsKept (sym (fold-roll-Block Part Part Part Branch (statement_layer pick finds source) (block_layer pick finds source) (catch_layer pick finds source) (section_layer pick finds source)
      (map-Block KeptStatement KeptBlock AnyCatch KeptSection Statement Block Catch Section (λ k. k.0) (λ k. k.0) (λ k. k.0) (λ k. k.0) y)))
      (λ stand frame. row_kept stand (map part (map (λ k. k.0) y.statements)) [] frame (each_part y.statements)))

  section_step : (x : s.Section-F Statement Block Catch Section) (y : s.Section-F KeptStatement KeptBlock AnyCatch KeptSection)
      → map-Section KeptStatement KeptBlock AnyCatch KeptSection Statement Block Catch Section (λ k. k.0) (λ k. k.0) (λ k. k.0) (λ k. k.0) y ≡ x → IsKeptSection (roll-Section x)
  section_step x y is =
      subst (λ z. IsKeptSection (roll-Section z)) is
      (subst IsKeptBranch (sym (fold-roll-Section Part Part Part Branch (statement_layer pick finds source) (block_layer pick finds source) (catch_layer pick finds source) (section_layer pick finds source)
      (map-Section KeptStatement KeptBlock AnyCatch KeptSection Statement Block Catch Section (λ k. k.0) (λ k. k.0) (λ k. k.0) (λ k. k.0) y)))
      (λ stand frame. row_kept stand (map part (map (λ k. k.0) y.statements)) [] frame (each_part y.statements)))

  pub block_kept : (x : Block) → IsKept (block x)
  block_kept = ind-Block (λ x. IsKept (part x)) (λ x. IsKept (block x)) (λ x. ⊤) IsKeptSection statement_step block_step (λ x y is. tt) section_step
