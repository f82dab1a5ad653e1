-- The kinds by which sources are refused.
use Rattle.std.proofs.Common.{ℕ, suc, ◌&&◌, not, List, [], ◌∷◌, ◌++◌, Option, Some, None, Ok, slice_get, refl, subst}
use Rattle.std.specs.List.{list_any}
use Rattle.cc_base.specs.declared.kind.Kind.TheVariants as kind
use Rattle.cc_tree.specs.declared.unit.Unit as unit
use Rattle.cc_names.specs.declared.scope.Item.{Item}
use Rattle.cc_names.specs.Directives.{directives}
use Rattle.cc_names.specs.Library as names
use Rattle.cc_operations.specs.declared.source.Source.{Source}
use Rattle.cc_operations.specs.Choosing.{Pick}
use Rattle.cc_operations.specs.Numbers.{is_void}
use Rattle.cc_operations.specs.Judgements.{refused, next}
use Rattle.cc_operations.specs.Operations.{no_conversion}
use Rattle.cc_statements.specs.Steps.{scope, block_part}
use Rattle.cc_terms.specs.Ends.{block_way}
use Rattle.cc_terms.specs.Resolving.{Finds}
use Rattle.cc_typing_laws.specs.Contents.{Placed, functions}
use Rattle.cc_typing_laws.specs.Finding.{finds_in}
use Rattle.cc_typing_laws.specs.Functions.{TypedBody, parameter_types, or_zero, scope_of, numbers_from, frame_of, outermost, must_end, body_of, ended, function_typed, bodies_from}
use Rattle.cc_typing_laws.specs.Laws.{RefusedByKinds}
use Rattle.cc_typing_laws.specs.Programs.{library_classes, classes_with, start_from, started_at, source_of, typed_program}
use Rattle.cc_typing_laws.proofs.KindsOfExpressions.{Kept, next_kept, cond_kept}
use Rattle.cc_typing_laws.proofs.KindsOfStatements.{scope_kept, block_kept}

module _ (pick : Pick) (finds : Finds) (source : Source) where
  function_kept : (one : Placed) (number around : ℕ) → Kept (function_typed pick finds source one number around)
  function_kept one number around =
      cond_kept (list_any is_void (parameter_types one.function)) (no_conversion one.function.span) (next (scope (block_part pick finds source one.body) outermost (frame_of one around)) (λ made. ended one number made.0 made.1)) refl
      (next_kept (scope (block_part pick finds source one.body) outermost (frame_of one around)) (λ made. ended one number made.0 made.1) (scope_kept (block_part pick finds source one.body) outermost (frame_of one around) (block_kept pick finds source one.body))
      (λ made. cond_kept (must_end one && not (block_way one.body).ends) (refused kind.MissingReturn one.function.span) (Ok (body_of one number made.0 made.1)) refl tt))

  bodies_kept : (items : List Item) (numbers : List ℕ) (all : List Placed) (at : ℕ) (done : List TypedBody) → Kept (bodies_from pick finds source items numbers at all done)
  bodies_kept items numbers [] at done = tt
  bodies_kept items numbers (one ∷ more) at done =
      next_kept (function_typed pick finds source one at (scope_of (slice_get items (or_zero (slice_get numbers at))))) (λ made. bodies_from pick finds source items numbers (suc at) more (done ++ made ∷ []))
      (function_kept one at (scope_of (slice_get items (or_zero (slice_get numbers at))))) (λ made. bodies_kept items numbers more (suc at) (done ++ made ∷ []))

started_kept : (tree : unit.Unit) (found : Option ℕ) → Kept (started_at tree.span found)
started_kept tree None = refl
started_kept tree (Some number) = tt

program_kept : (pick : Pick) (tree : unit.Unit) → Kept (typed_program pick tree)
program_kept pick tree =
    let items = (names.declared tree).items in
    let finds = finds_in (names.declared tree).scopes (names.declared tree).items (directives (names.declared tree).scopes (names.declared tree).items tree) in
    let source = source_of library_classes tree (numbers_from 0 (names.declared tree).items) in
    next_kept (bodies_from pick finds source items (numbers_from 0 items) 0 (functions tree) [])
    (λ bodies. next (started_at tree.span (start_from 0 (functions tree))) (λ main. Ok (record { classes = classes_with library_classes (functions tree); bodies = bodies; main = main })))
    (bodies_kept pick finds source items (numbers_from 0 items) (functions tree) 0 [])
    (λ bodies. next_kept (started_at tree.span (start_from 0 (functions tree))) (λ main. Ok (record { classes = classes_with library_classes (functions tree); bodies = bodies; main = main }))
    (started_kept tree (start_from 0 (functions tree))) (λ main. tt))

pub refused_by_kinds : RefusedByKinds
refused_by_kinds pick tree refusal e = subst Kept e (program_kept pick tree)
