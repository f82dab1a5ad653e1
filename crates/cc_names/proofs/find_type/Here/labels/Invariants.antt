use Rattle.std.proofs.Common.{◌≡◌, drop, map}
use Rattle.cc_names.specs.Checks.{run, joined}
use Rattle.cc_names.specs.Mentions as spec
use Rattle.cc_names.specs.Spaces.{space}
use Rattle.cc_names.proofs.find_type.Here.labels.Given as goal

abbrev pub invariant-labels : goal.invariant-labels
invariant-labels l = run (joined (map (spec.label_checks (space l.self.space.now) l.self.path.now) (drop l.label-index l.labels))) l.first ≡ run (joined (map (spec.label_checks (space l.self.space.now) l.self.path.now) l.labels)) l.initial.first
