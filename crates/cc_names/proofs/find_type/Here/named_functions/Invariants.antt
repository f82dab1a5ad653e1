use Rattle.std.proofs.Common.{◌≡◌, drop, map}
use Rattle.cc_names.specs.Checks.{run, joined}
use Rattle.cc_names.specs.Mentions as spec
use Rattle.cc_names.specs.Spaces.{space}
use Rattle.cc_names.proofs.find_type.Here.named_functions.Given as goal

abbrev pub invariant-loop-function : goal.invariant-loop-function
invariant-loop-function l = run (joined (map (spec.named_function_checks (space l.self.space.now) l.self.path.now) (drop l.function-index l.functions))) l.first ≡ run (joined (map (spec.named_function_checks (space l.self.space.now) l.self.path.now) l.functions)) l.initial.first
