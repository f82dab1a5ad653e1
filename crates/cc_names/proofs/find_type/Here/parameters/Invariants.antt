use Rattle.std.proofs.Common.{◌≡◌, drop, map}
use Rattle.cc_names.specs.Checks.{run, joined}
use Rattle.cc_names.specs.Mentions as spec
use Rattle.cc_names.specs.Spaces.{space}
use Rattle.cc_names.proofs.find_type.Here.parameters.Given as goal

abbrev pub invariant-loop-parameter : goal.invariant-loop-parameter
invariant-loop-parameter l = run (joined (map (spec.parameter_checks (space l.self.space.now) l.self.path.now) (drop l.parameter-index l.parameter-items))) l.first ≡ run (joined (map (spec.parameter_checks (space l.self.space.now) l.self.path.now) l.parameter-items)) l.initial.first
