-- What the definitions of the straight form say of each built form.
use Rattle.std.proofs.Common.{◌≡◌, ℕ, suc, max, sym, ap, ◌∙◌}
use Rattle.std.specs.Prelude.{Err}
use Rattle.cc_base.specs.declared.text.Span.{Span}
use Rattle.cc_tree.specs.declared.token.Suffix.{Suffix}
use Rattle.cc_tree.specs.declared.token.Radix.{Radix}
use Rattle.cc_tree.specs.declared.expression.BinaryOperator.{BinaryOperator}
use Rattle.cc_tree.specs.declared.expression.Expression.{Expression, fold-roll-Expression}
use Rattle.cc_tree.specs.declared.expression.Expression.TheOpen as layer
use Rattle.cc_tree.specs.declared.expression.Expression.TheVariants as e
use Rattle.cc_tree.specs.declared.expression.Arguments.{Arguments}
use Rattle.cc_tree.specs.Depth.{expression_layer, expression_depth, arguments_depth}
use Rattle.cc_tree.specs.Depth as depth
use Rattle.cc_core.specs.StraightSource.{Term}
use Rattle.cc_straight.specs.Form.{Judged, term_layer, arguments_layer, term_of, number_term, number_value, binary_term, arithmetic}

pub number_opens : (value : ℕ) (suffix : Suffix) (radix : Radix) (span : Span) → term_of (e.Number value suffix radix span) ≡ number_term (number_value value suffix radix) span
number_opens value suffix radix span = ap term_of (sym (e.rolls-Number value suffix radix span)) ∙ fold-roll-Expression (Judged Term) Span term_layer arguments_layer (layer.Number value suffix radix span)

pub group_opens : (x : Expression) (span : Span) → term_of (e.Group x span) ≡ term_of x
group_opens x span = ap term_of (sym (e.rolls-Group x span)) ∙ fold-roll-Expression (Judged Term) Span term_layer arguments_layer (layer.Group x span)

pub binary_opens : (left : Expression) (operator : BinaryOperator) (right : Expression) (span : Span)
    → term_of (e.Binary left operator right span) ≡ binary_term (arithmetic operator) (term_of left) (term_of right) span
binary_opens left operator right span =
    ap term_of (sym (e.rolls-Binary left operator right span)) ∙ fold-roll-Expression (Judged Term) Span term_layer arguments_layer (layer.Binary left operator right span)

pub call_opens : (x : Expression) (given : Arguments) (span : Span) → term_of (e.Call x given span) ≡ Err span
call_opens x given span = ap term_of (sym (e.rolls-Call x given span)) ∙ fold-roll-Expression (Judged Term) Span term_layer arguments_layer (layer.Call x given span)

pub number_deep : (value : ℕ) (suffix : Suffix) (radix : Radix) (span : Span) → expression_depth (e.Number value suffix radix span) ≡ 1
number_deep value suffix radix span = ap expression_depth (sym (e.rolls-Number value suffix radix span)) ∙ fold-roll-Expression ℕ ℕ expression_layer depth.arguments_layer (layer.Number value suffix radix span)

pub group_deep : (x : Expression) (span : Span) → expression_depth (e.Group x span) ≡ suc (expression_depth x)
group_deep x span = ap expression_depth (sym (e.rolls-Group x span)) ∙ fold-roll-Expression ℕ ℕ expression_layer depth.arguments_layer (layer.Group x span)

pub binary_deep : (left : Expression) (operator : BinaryOperator) (right : Expression) (span : Span)
    → expression_depth (e.Binary left operator right span) ≡ suc (max (expression_depth left) (expression_depth right))
binary_deep left operator right span =
    ap expression_depth (sym (e.rolls-Binary left operator right span)) ∙ fold-roll-Expression ℕ ℕ expression_layer depth.arguments_layer (layer.Binary left operator right span)

pub call_deep : (x : Expression) (given : Arguments) (span : Span) → expression_depth (e.Call x given span) ≡ suc (max (expression_depth x) (arguments_depth given))
call_deep x given span = ap expression_depth (sym (e.rolls-Call x given span)) ∙ fold-roll-Expression ℕ ℕ expression_layer depth.arguments_layer (layer.Call x given span)
