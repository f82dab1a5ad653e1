use Rattle.std.proofs.Common.{◌≡◌, drop, map}
use Rattle.cc_names.specs.Checks.{run, joined}
use Rattle.cc_names.specs.Mentions as spec
use Rattle.cc_names.specs.Spaces.{space}
use Rattle.cc_names.proofs.find_type.Here.accessors.Given as goal

abbrev pub invariant-loop-accessor : goal.invariant-loop-accessor
invariant-loop-accessor l = run (joined (map (spec.accessor_checks (space l.self.space.now) l.self.path.now) (drop l.accessor-index l.accessors))) l.first ≡ run (joined (map (spec.accessor_checks (space l.self.space.now) l.self.path.now) l.accessors)) l.initial.first
