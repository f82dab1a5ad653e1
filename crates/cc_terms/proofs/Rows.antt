-- Arguments as values, one after another.
use Rattle.std.proofs.Common.{◌≡◌, ◌+◌, ◌<◌, ◌≤◌, ℕ, List, [], ◌∷◌, ◌++◌, map, length, drop, get_or, sym, ap, ◌∙◌, Ok, Err}
use Rattle.std.proofs.lemmas.List.{at_drop_more, at_drop_all, map-append}
use Rattle.cc_tree.specs.declared.expression.Expression.{Expression}
use Rattle.cc_tree.specs.declared.expression.Arguments.{Arguments, out-Arguments, fold_out-Arguments}
use Rattle.cc_operations.specs.declared.judged.Given.{Given}
use Rattle.cc_operations.specs.declared.judged.Refusal.{Refusal}
use Rattle.cc_operations.specs.declared.source.Source.{Source}
use Rattle.cc_operations.specs.declared.source.Frame.{Frame}
use Rattle.cc_operations.specs.Choosing.{Pick}
use Rattle.cc_operations.specs.Judgements.{Judged, next, Value, Meaning, all_values, value_of, values_of}
use Rattle.cc_terms.specs.Resolving.{Finds}
use Rattle.cc_terms.specs.Terms.{expression_layer, arguments_layer, typed, typed_arguments, typed_value}
use Rattle.cc_terms.proofs.Going.{ended}

module _ (pick : Pick) (finds : Finds) (source : Source) (frame : Frame) where
  abbrev means : Expression → Judged Meaning
  means = typed pick finds source frame

  abbrev gives : Expression → Judged Value
  gives = typed_value pick finds source frame

  pub arguments_are : (arguments : Arguments) → all_values [] (map means (out-Arguments arguments).items) ≡ typed_arguments pick finds source frame arguments
  arguments_are arguments = sym (fold_out-Arguments (Judged Meaning) (Judged (List Value)) (expression_layer pick finds source frame) (arguments_layer pick finds source frame) arguments)

  module _ (items : List Expression) (at : ℕ) (values : List Given) (so_far : all_values (values_of values) (map means (drop at items)) ≡ all_values [] (map means items)) where
    module _ (x : Expression) (inside : at < length items) (there : x ≡ get_or items at x) where
      abbrev rest : Value → Judged (List Value)
      rest value = all_values (values_of values ++ value ∷ []) (map means (drop (at + 1) items))

      opened : all_values (values_of values) (map means (drop at items)) ≡ next (gives x) rest
      opened =
          at_drop_more (λ (more : List Expression). all_values (values_of values) (map means more)) items at x inside
          ∙ ap (λ (y : Expression). all_values (values_of values) (map means (y ∷ drop (at + 1) items))) (sym there)

      pub row_ended : (refusal : Refusal) → Err refusal ≡ gives x → Err refusal ≡ all_values [] (map means items)
      row_ended refusal h = ended (gives x) refusal rest h ∙ sym opened ∙ so_far

      pub row_went : (given : Given) → Ok (value_of given) ≡ gives x → all_values (values_of (values ++ given ∷ [])) (map means (drop (at + 1) items)) ≡ all_values [] (map means items)
      row_went given h =
          ap (λ (known : List Value). all_values known (map means (drop (at + 1) items))) (map-append value_of values (given ∷ []))
          ∙ ap (λ (judged : Judged Value). next judged rest) h ∙ sym opened ∙ so_far

    pub row_done : length items ≤ at → Ok (values_of values) ≡ all_values [] (map means items)
    row_done h = sym (at_drop_all (λ (more : List Expression). all_values (values_of values) (map means more)) items at h) ∙ so_far
