use Rattle.std.proofs.Common.{◌≡◌, drop, map}
use Rattle.cc_names.specs.Checks.{run, joined}
use Rattle.cc_names.specs.Mentions as spec
use Rattle.cc_names.specs.Spaces.{space}
use Rattle.cc_names.proofs.find_type.Here.member_initializers.Given as goal

abbrev pub invariant-loop-initializer : goal.invariant-loop-initializer
invariant-loop-initializer l = run (joined (map (spec.member_initializer_checks (space l.self.space.now) l.self.path.now) (drop l.initializer-index l.initializers))) l.first ≡ run (joined (map (spec.member_initializer_checks (space l.self.space.now) l.self.path.now) l.initializers)) l.initial.first
