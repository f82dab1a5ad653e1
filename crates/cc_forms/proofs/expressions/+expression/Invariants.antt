use Rattle.std.proofs.Common.{◌≡◌, drop, map}
use Rattle.cc_forms.specs.Forms.{first_of, expression_form}
use Rattle.cc_forms.proofs.expressions.+expression.Given as goal

abbrev pub invariant-expressions-expressions : goal.invariant-expressions-expressions
invariant-expressions-expressions l = first_of (map expression_form (drop l.expression-index l.expressions)) ≡ first_of (map expression_form l.initial.expressions)
