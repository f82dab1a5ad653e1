use Rattle.std.proofs.Common.{◌≡◌, drop, map}
use Rattle.cc_names.specs.Checks.{run, joined}
use Rattle.cc_names.specs.Mentions as spec
use Rattle.cc_names.specs.Spaces.{space}
use Rattle.cc_names.specs.declared.forming.Purpose.TheVariants as Purpose
use Rattle.cc_names.proofs.find_type.Here.types.Given as goal

abbrev pub invariant-types : goal.invariant-types
invariant-types l = run (joined (map (spec.written (space l.self.space.now) l.self.path.now Purpose.Value) (drop l.of-index l.types))) l.first ≡ run (joined (map (spec.written (space l.self.space.now) l.self.path.now Purpose.Value) l.types)) l.initial.first
