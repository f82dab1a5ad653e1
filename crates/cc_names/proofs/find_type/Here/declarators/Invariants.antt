use Rattle.std.proofs.Common.{◌≡◌, drop, map}
use Rattle.cc_names.specs.Checks.{run, joined}
use Rattle.cc_names.specs.Mentions as spec
use Rattle.cc_names.specs.Spaces.{space}
use Rattle.cc_names.proofs.find_type.Here.declarators.Given as goal

abbrev pub invariant-declarators : goal.invariant-declarators
invariant-declarators l = run (joined (map (spec.declarator_checks (space l.self.space.now) l.self.path.now) (drop l.declarator-index l.declarators))) l.first ≡ run (joined (map (spec.declarator_checks (space l.self.space.now) l.self.path.now) l.declarators)) l.initial.first
