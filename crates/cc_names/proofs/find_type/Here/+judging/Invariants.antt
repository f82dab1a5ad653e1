use Rattle.std.proofs.Common.{◌≡◌, drop, map}
use Rattle.cc_names.specs.Checks.{run, joined}
use Rattle.cc_names.specs.Forming as spec
use Rattle.cc_names.specs.Spaces.{space}
use Rattle.cc_names.proofs.find_type.Here.+judging.Given as goal

abbrev pub invariant-arguments-arguments : goal.invariant-arguments-arguments
invariant-arguments-arguments l = run (joined (map spec.argument_checks (map (spec.judged (space l.self.space.now) l.self.path.now) (drop l.argument-index l.arguments)))) l.first ≡ run (joined (map spec.argument_checks (map (spec.judged (space l.self.space.now) l.self.path.now) l.arguments))) l.initial.first
