use Rattle.std.proofs.Common.{◌≡◌, drop, map}
use Rattle.cc_names.specs.Checks.{run, joined}
use Rattle.cc_names.specs.Mentions as spec
use Rattle.cc_names.specs.Spaces.{space}
use Rattle.cc_names.proofs.find_type.Here.+expression.Given as goal

abbrev pub invariant-expressions-expressions : goal.invariant-expressions-expressions
invariant-expressions-expressions l = run (joined (map (spec.expression_checks (space l.self.space.now) l.self.path.now) (drop l.expression-index l.expressions))) l.first ≡ run (joined (map (spec.expression_checks (space l.self.space.now) l.self.path.now) l.expressions)) l.initial.first
