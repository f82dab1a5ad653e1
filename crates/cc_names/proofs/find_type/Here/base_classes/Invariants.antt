use Rattle.std.proofs.Common.{◌≡◌, drop}
use Rattle.cc_names.specs.Checks.{run}
use Rattle.cc_names.specs.Classes as spec
use Rattle.cc_names.specs.Spaces.{space}
use Rattle.cc_names.proofs.find_type.Here.base_classes.Given as goal

abbrev pub invariant-bases : goal.invariant-bases
invariant-bases l = run (spec.bases_checks (space l.self.space.now) l.self.path.now l.class l.earlier (drop l.base-index l.base-items)) l.first ≡ run (spec.bases_checks (space l.self.space.now) l.self.path.now l.class spec.no_bases l.base-items) l.initial.first
