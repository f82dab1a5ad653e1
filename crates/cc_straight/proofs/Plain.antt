-- A straight unit has no template.
use Rattle.std.proofs.Common.{◌≡◌, List, [], ◌∷◌, refl, ap, ◌∙◌, ◌||◌}
use Rattle.std.specs.Prelude.{Bool, false, Ok, map}
use Rattle.std.specs.List.{list_any}
use Rattle.cc_tree.specs.declared.unit.Unit as unit
use Rattle.cc_tree.specs.declared.unit.Outer.{Outer, Outer-F, out-Outer, fold_out-Outer}
use Rattle.cc_tree.specs.declared.unit.Outer.TheOpen as layer
use Rattle.cc_template.specs.Expansion.{has_template, template_layer, IsWithoutTemplates}
use Rattle.cc_core.specs.StraightSource.{Source}
use Rattle.cc_straight.specs.Form.{IsStraight, first_source, outers_source, is_any, has_function}
use Rattle.cc_straight.proofs.Terms.{not_both}
use Rattle.cc_straight.proofs.Units.{two_fail, function_first}

-- a function is no template
plain_layer : (one : Outer) (l : Outer-F Outer) (outers : List Outer) (s : Source) → out-Outer one ≡ l → first_source l outers ≡ Ok s → has_template one ≡ false
plain_layer one (layer.Function function) outers s e h = fold_out-Outer Bool template_layer one ∙ rw e refl
plain_layer one l outers s e h = absurd (not_both refl h)

plain_outers : (outers : List Outer) (s : Source) → outers_source outers ≡ Ok s → list_any has_template outers ≡ false
plain_outers [] s h = absurd (not_both refl h)
plain_outers (one ∷ []) s h = ap (λ b. b || false) (plain_layer one (out-Outer one) [] s refl h)
plain_outers (one ∷ two ∷ outers) s h = absurd (two_fail (out-Outer one) two outers s h)

pub straight_plain : (tree : unit.Unit) (source : Source) → IsStraight tree source → IsWithoutTemplates tree
straight_plain tree source h = plain_outers tree.outers source (function_first (is_any (map has_function tree.outers)) (outers_source tree.outers) _ source h)
