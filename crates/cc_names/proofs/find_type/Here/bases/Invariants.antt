use Rattle.std.proofs.Common.{◌≡◌, drop, map}
use Rattle.cc_names.specs.Checks.{run, joined}
use Rattle.cc_names.specs.Mentions as spec
use Rattle.cc_names.specs.Spaces.{space}
use Rattle.cc_names.proofs.find_type.Here.bases.Given as goal

abbrev pub invariant-loop-base : goal.invariant-loop-base
invariant-loop-base l = run (joined (map (spec.base_checks (space l.self.space.now) l.self.path.now) (drop l.base-index l.bases))) l.first ≡ run (joined (map (spec.base_checks (space l.self.space.now) l.self.path.now) l.bases)) l.initial.first
