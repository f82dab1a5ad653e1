use Rattle.std.proofs.Common.{◌≡◌, drop, map}
use Rattle.cc_names.specs.Checks.{run, joined}
use Rattle.cc_names.specs.Mentions as spec
use Rattle.cc_names.specs.Spaces.{space}
use Rattle.cc_names.proofs.find_type.Here.members.Given as goal

abbrev pub invariant-loop-member : goal.invariant-loop-member
invariant-loop-member l = run (joined (map (spec.member_checks (space l.self.space.now) l.self.path.now) (drop l.member-index l.members))) l.first ≡ run (joined (map (spec.member_checks (space l.self.space.now) l.self.path.now) l.members)) l.initial.first
