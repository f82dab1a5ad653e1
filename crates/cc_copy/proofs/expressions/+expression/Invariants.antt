use Rattle.std.proofs.Common.{◌≡◌, take}
use Rattle.cc_copy.proofs.expressions.+expression.Given as goal

abbrev pub invariant-copied_expressions-loop-expression : goal.invariant-copied_expressions-loop-expression
invariant-copied_expressions-loop-expression l = l.copies ≡ take l.expression-index l.expressions
